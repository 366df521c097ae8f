-- The rows of a setup's table, and the words that setup writes one after the other.
-- Assumes nothing.
use Prim.Native.Nat.{ℕ}
use native.Mathlib.Nat.{zero-add}
use native.Mathlib.Omega.{arith}
use mathlib.Core.Path.{◌≡◌, sym, ◌∙◌, ap}
use mathlib.Core.List.{List, [], ◌∷◌}
use mathlib.Core.Bool.{true, false, not, ◌||◌}
use lib.Dec.{eqb, ltb}
use lib.ListN.{length, get_or, replicate, length-replicate}
use lib.Seq.{ext_get_or}
use Rattle.std.proofs.Common.{Ok, Err}
use borrow.Author.Tests.{eq-eqb, ne_eqb}
use Rattle.loops.specs.Loops.{every}
use Rattle.loops.proofs.BoolLaws.{not_failed, or_left, or_right, or_next}
use Rattle.book.specs.declared.parts.Counts.{Counts}
use Rattle.book.specs.Words.{put}
use Rattle.book.specs.Layout.{home_at}
use Rattle.book.proofs.WordsLaws.{length_put, put_in}
use Rattle.fit.specs.Fit.{counts_fit}
use Rattle.register.specs.Table.{setup_number}
use Rattle.register.specs.Calls.{set_up}
use Rattle.paper.specs.declared.answer.Refusal.{Refusal}
use Rattle.paper.specs.Answers.{number_of, paper}
use Rattle.register.specs.Promises.{Setup}
use Rattle.register.proofs.TableLaws.{first_stop, first_next, first_none}
use Rattle.register.proofs.CallLaws.{by_refusal, by_done, after_refused, after_done}

-- ---- the table

module _ (l : List ℕ) (n : Counts) (homes : List ℕ) where
  pub setup_book : (length l ≡ 16384 → ⊥) → setup_number l n homes ≡ 1
  unfolding setup_number
  setup_book h = first_stop _ _ _ (not_failed (ne_eqb _ _ h))

  pub setup_counts : length l ≡ 16384 → counts_fit n ≡ false → setup_number l n homes ≡ 11
  unfolding setup_number
  setup_counts h f = first_next _ _ _ (ap not (eq-eqb _ _ h)) ∙ first_stop _ _ _ (or_left (not (counts_fit n)) _ (not_failed f))

  pub setup_crews : length l ≡ 16384 → (length homes ≡ n.crews → ⊥) → setup_number l n homes ≡ 11
  unfolding setup_number
  setup_crews h f = first_next _ _ _ (ap not (eq-eqb _ _ h)) ∙ first_stop _ _ _ (or_right (not (counts_fit n)) _ (not_failed (ne_eqb _ _ f)))

  counted : counts_fit n ≡ true → length homes ≡ n.crews → not (counts_fit n) || not (eqb (length homes) n.crews) ≡ false
  counted f g = or_next _ (ap not f) ∙ ap not (eq-eqb _ _ g)

  pub setup_home : length l ≡ 16384 → counts_fit n ≡ true → length homes ≡ n.crews → every n.crews (λ c. ltb (get_or homes c 0) n.depots) ≡ false → setup_number l n homes ≡ 2
  unfolding setup_number
  setup_home h f g e = first_next _ _ _ (ap not (eq-eqb _ _ h)) ∙ first_next _ _ _ (counted f g) ∙ first_stop _ _ _ (not_failed e)

  pub setup_good : length l ≡ 16384 → counts_fit n ≡ true → length homes ≡ n.crews → every n.crews (λ c. ltb (get_or homes c 0) n.depots) ≡ true → setup_number l n homes ≡ 0
  unfolding setup_number
  setup_good h f g e = first_next _ _ _ (ap not (eq-eqb _ _ h)) ∙ first_next _ _ _ (counted f g) ∙ first_next _ _ _ (ap not e) ∙ first_none

-- ---- the words

-- words as many as the book has, put at its beginning, are the book
pub put_whole : (l v : List ℕ) → length l ≡ length v → put l 0 v ≡ v
put_whole l v e =
    ext_get_or 0 (put l 0 v) v size
    (λ i h. ap (λ (j : ℕ). get_or (put l 0 v) j 0) (sym (zero-add i)) ∙ put_in l 0 v (omega arith) i (omega (arith, size)))
  where
    size : length (put l 0 v) ≡ length v
    size = length_put l 0 v ∙ e

pub fresh_words :
    (l : List ℕ) (n : Counts) (homes : List ℕ) {a b c : List ℕ} → length l ≡ 16384 → a ≡ put l 0 (replicate 16384 0) →
    b ≡ put a 0 (n.depots ∷ n.shelves ∷ n.bearings ∷ n.crews ∷ []) → c ≡ put b (home_at 0) homes → c ≡ set_up n homes
unfolding set_up
fresh_words l n homes e p q r =
    r
    ∙ ap (λ (m : List ℕ). put m (home_at 0) homes)
    (q ∙ ap (λ (m : List ℕ). put m 0 (n.depots ∷ n.shelves ∷ n.bearings ∷ n.crews ∷ [])) (p ∙ put_whole l _ (e ∙ sym (length-replicate {A = ℕ} 16384 0))))

-- ---- the promise

module _ (l : List ℕ) (n : Counts) (homes : List ℕ) where
  -- refused: the answer, and the book as it was
  pub setup_refused : (r : Refusal) {l' : List ℕ} → setup_number l n homes ≡ number_of r → l' ≡ l → Setup l n homes (Err r) l'
  unfolding paper
  setup_refused r e same = record { answer = by_refusal r _ e; book = same ∙ after_refused r _ _ e }

  pub setup_done : {l' : List ℕ} → setup_number l n homes ≡ 0 → l' ≡ set_up n homes → Setup l n homes (Ok tt) l'
  unfolding paper
  setup_done e same = record { answer = by_done e; book = same ∙ after_done _ _ e }
