-- Every request is local: a setup names no word and writes them all; the calls, one by one, stand in the files before.
-- Assumes nothing.
use Prim.Native.Nat.{ℕ}
use mathlib.Core.Path.{◌≡◌, refl, sym, ◌∙◌, ap, subst}
use mathlib.Core.List.{List}
use mathlib.Core.Bool.{not}
use lib.Dec.{eqb}
use lib.ListN.{length, get_or, set, replicate, length-set, length-replicate}
use lib.Seq.{get_or-set_other}
use Rattle.paper.specs.Calls.{read, write, tick, take, refresh, move, list}
use Rattle.book.specs.declared.parts.Counts.{Counts}
use Rattle.book.specs.Words.{put}
use Rattle.book.specs.Layout.{book_words, home_at}
use Rattle.book.proofs.WordsLaws.{length_put}
use Rattle.register.specs.Table.{setup_number}
use Rattle.register.specs.Calls.{set_up}
use Rattle.register.proofs.Numbers.{setup_done}
use Rattle.upkeep.specs.Requests.{Request, setup, call, number_at, done_answer, changed_by}
use Rattle.upkeep.specs.Local.{Agree, Named, Changed, all_of_it, Alike, Local}
use Rattle.upkeep.proofs.LocalBasics.{first_alike}
use Rattle.upkeep.proofs.LocalAlike.{alike_by, stays_by, size_by}
use Rattle.upkeep.proofs.LocalTick.{tick_alike, tick_stays, tick_size}
use Rattle.upkeep.proofs.LocalTake.{take_alike, take_stays, take_size}
use Rattle.upkeep.proofs.LocalRefresh.{refresh_alike, refresh_stays, refresh_size}
use Rattle.upkeep.proofs.LocalRead.{read_alike, read_stays, read_size}
use Rattle.upkeep.proofs.LocalWrite.{write_alike, write_stays, write_size}
use Rattle.upkeep.proofs.LocalMove.{move_alike, move_stays, move_size}
use Rattle.upkeep.proofs.LocalList.{list_alike, list_stays, list_size}

-- ---- a setup

length_set_up : (n : Counts) (homes : List ℕ) → length (set_up n homes) ≡ book_words
unfolding set_up
length_set_up n homes =
    length_put (put (replicate book_words 0) 0 _) (home_at 0) homes ∙ length_put (replicate book_words 0) 0 _ ∙ length-replicate {A = ℕ} book_words 0

setup_number_law : (l m : List ℕ) (n : Counts) (homes : List ℕ) → length l ≡ length m → setup_number l n homes ≡ setup_number m n homes
unfolding setup_number
setup_number_law l m n homes e = first_alike 1 _ _ (ap (λ (k : ℕ). not (eqb k book_words)) e) λ z. refl

setup_alike : (S : ℕ → Type 0) (l m : List ℕ) (n : Counts) (homes : List ℕ) → Agree S l m → Alike S l m (setup n homes)
unfolding number_at done_answer changed_by
setup_alike S l m n homes A =
    let e = setup_number_law l m n homes A.size in
    alike_by S l m (setup n homes) e (λ z. refl) (λ z. record { size = refl; words = λ j k. refl }) A

setup_size : (l : List ℕ) (n : Counts) (homes : List ℕ) → number_at l (setup n homes) ≡ 0 → length (changed_by l (setup n homes)) ≡ length l
unfolding number_at changed_by
setup_size l n homes z = length_set_up n homes ∙ sym (setup_done l n homes z).full

-- ---- any request

alike : (S : ℕ → Type 0) (l m : List ℕ) (r : Request) → ((j : ℕ) → Named l r j → S j) → Agree S l m → Alike S l m r
alike S l m (setup n homes) H A = setup_alike S l m n homes A
alike S l m (call (read c k)) H A = read_alike S l m c k H A
alike S l m (call (write c k payload)) H A = write_alike S l m c k payload H A
alike S l m (call (tick d s)) H A = tick_alike S l m d s H A
alike S l m (call (take d s from)) H A = take_alike S l m d s from H A
alike S l m (call (refresh d s)) H A = refresh_alike S l m d s H A
alike S l m (call (move c d)) H A = move_alike S l m c d H A
alike S l m (call (list c ks)) H A = list_alike S l m c ks H A

done_stays : (l : List ℕ) (r : Request) (j : ℕ) → number_at l r ≡ 0 → (Changed l r j → ⊥) → get_or (changed_by l r) j 0 ≡ get_or l j 0
done_stays l (setup n homes) j z out = absurd (out all_of_it)
done_stays l (call (read c k)) j z out = read_stays l c k j z out
done_stays l (call (write c k payload)) j z out = write_stays l c k payload j z out
done_stays l (call (tick d s)) j z out = tick_stays l d s j z out
done_stays l (call (take d s from)) j z out = take_stays l d s from j z out
done_stays l (call (refresh d s)) j z out = refresh_stays l d s j z out
done_stays l (call (move c d)) j z out = move_stays l c d j z out
done_stays l (call (list c ks)) j z out = list_stays l c ks j z out

done_size : (l : List ℕ) (r : Request) → number_at l r ≡ 0 → length (changed_by l r) ≡ length l
done_size l (setup n homes) z = setup_size l n homes z
done_size l (call (read c k)) z = read_size l c k
done_size l (call (write c k payload)) z = write_size l c k payload
done_size l (call (tick d s)) z = tick_size l d s
done_size l (call (take d s from)) z = take_size l d s from
done_size l (call (refresh d s)) z = refresh_size l d s
done_size l (call (move c d)) z = move_size l c d
done_size l (call (list c ks)) z = list_size l c ks z

pub the_calls_are_local : Local
the_calls_are_local =
    record { local = alike; stays = λ l r j out. stays_by l r j (done_stays l r j) out; size = λ l r. size_by l r (done_size l r) }

-- a word that is not named may hold anything: whatever is put there, the request is answered the same, and every other word is the same afterwards
pub unnamed_word : (l : List ℕ) (r : Request) (j x : ℕ) → (Named l r j → ⊥) → Alike (λ (i : ℕ). i ≡ j → ⊥) l (set l j x) r
unnamed_word l r j x out =
    alike (λ (i : ℕ). i ≡ j → ⊥) l (set l j x) r (λ i n e. out (subst (Named l r) e n))
    (record { size = sym (length-set l j x); words = λ i f. sym (get_or-set_other l j i x 0 f) })
