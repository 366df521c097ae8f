-- A book that was never set up refuses every call but a setup with BAD BOOK, so a journal that starts from it starts with a setup. The book of zeros is one.
-- Assumes nothing.
use Prim.Native.Nat.{ℕ}
use native.Mathlib.Omega.{arith}
use mathlib.Core.Path.{◌≡◌, refl, sym, ◌∙◌, ap}
use mathlib.Core.Bool.{Bool, true, false, ◌&&◌, not, false≢true}
use mathlib.Core.List.{List, ◌∷◌}
use lib.Dec.{eqb}
use lib.ListN.{length}
use Rattle.loops.proofs.BoolLaws.{failed, and_left, and_right, and_stop}
use Rattle.paper.specs.Calls.{Call, read, write, tick, take, refresh, move, list}
use Rattle.book.specs.Layout.{book_words, counts_of}
use Rattle.book.specs.declared.parts.Counts.{Counts}
use Rattle.fit.specs.Fit.{between, counts_fit, homes_fit}
use Rattle.named.specs.Named.{base_fit, tick_fit, take_fit, refresh_fit, read_fit, write_fit, move_fit, list_fit}
use Rattle.register.specs.Table.{read_number, write_number, tick_number, take_number, refresh_number, move_number, list_number}
use Rattle.register.proofs.TableLaws.{first_stop}
use Rattle.upkeep.specs.Requests.{Request, setup, call, number_at}
use Rattle.journal.specs.Journal.{Done, more, zero_book}

module _ (l : List ℕ) (u : base_fit l ≡ false) where
  unfit : (rest : Bool) → not (base_fit l && rest) ≡ true
  unfit rest = ap not (and_stop rest u)

  pub bad_book : (q : Call) → number_at l (call q) ≡ 1
  unfolding number_at read_number write_number tick_number take_number refresh_number move_number list_number read_fit write_fit tick_fit take_fit refresh_fit move_fit list_fit
  bad_book (read c k) = first_stop _ _ _ (unfit _)
  bad_book (write c k payload) = first_stop _ _ _ (unfit _)
  bad_book (tick d s) = first_stop _ _ _ (unfit _)
  bad_book (take d s from) = first_stop _ _ _ (unfit _)
  bad_book (refresh d s) = first_stop _ _ _ (unfit _)
  bad_book (move c d) = first_stop _ _ _ (unfit _)
  bad_book (list c ks) = first_stop _ _ _ (unfit _)

  pub starts_with_setup : {r : Request} {rs : List Request} → Done l (r ∷ rs) → (n : Counts) × (homes : List ℕ) × (r ≡ setup n homes)
  starts_with_setup (more {r = setup n homes} b z d) = (n, homes, refl)
  starts_with_setup (more {r = call q} b z d) = let e : ◌≡◌ {A = ℕ} 1 0 = sym (bad_book q) ∙ z in absurd (omega arith)

pub zeros_unset : base_fit zero_book ≡ false
unfolding base_fit counts_fit between
zeros_unset =
    failed _ λ (t : eqb (length zero_book) book_words && (counts_fit (counts_of zero_book) && homes_fit (counts_of zero_book) zero_book) ≡ true).
    false≢true (and_left (counts_fit (counts_of zero_book)) (homes_fit (counts_of zero_book) zero_book) (and_right (eqb (length zero_book) book_words) _ t))
