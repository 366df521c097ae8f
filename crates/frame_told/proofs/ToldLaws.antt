-- From an answer to its number; and what is told is a word.
-- Assumes nothing.
use Rattle.std.specs.Prelude.{Result, Ok, Err}
use Prim.Native.Nat.{ℕ, ◌+◌, ◌*◌, ◌≤◌, ◌<◌}
use native.Mathlib.Omega.{arith}
use mathlib.Core.Path.{◌≡◌, refl, sym, ◌∙◌, ap, subst}
use mathlib.Core.Bool.{true, false}
use mathlib.Core.List.{List}
use lib.Dec.{eqb, leb}
use lib.ListN.{length, set}
use borrow.Author.Tests.{eq-eqb, le-leb, lt-leb}
use Rattle.loops.specs.Loops.{pick}
use Rattle.loops.proofs.BoolLaws.{and_next, and_stop, pick_true, pick_false}
use Rattle.fit.specs.Fit.{between}
use Rattle.frame.specs.declared.FrameRefusal.{FrameRefusal}
use Rattle.frame.specs.Frame.{place_of, frame_size, count_in}
use Rattle.frame.specs.Promises.{frame_number, Tells, Outcome, route_in, untaken, writer_number, reader_number}
use Rattle.frame.proofs.EncodeLaws.{sizes_most}
use Rattle.frame.proofs.PromiseLaws.{counts}
use Rattle.frame.proofs.Carried.{writer_open}
use Rattle.named.proofs.NamedLaws.{base_open}
use Rattle.frame_told.specs.Told.{InNumbers}

-- what is told where it is done
pub done_number : (number told : ℕ) (made o : List ℕ) {a : Result ℕ FrameRefusal} {o' : List ℕ} {n : ℕ} → Outcome number told made o a o' → a ≡ Ok n → (number ≡ 0) × (n ≡ told)
unfolding Tells
done_number number told made o w e = subst (Tells number told) e w.answer

module _ (number told : ℕ) (made o t : List ℕ) where
  -- there is no word to tell in
  pub told_no_room : length t < 1 → InNumbers number told made o t 100 o t
  told_no_room h =
      let no : leb 1 (length t) ≡ false = lt-leb _ _ h in
      record {
        answer = sym (pick_false number 100 no);
        buffer = sym (pick_false made o (and_stop _ no));
        word = sym (pick_false (set t 0 told) t (and_stop _ no));
      }

  module _ (h : 1 ≤ length t) where
    yes' : leb 1 (length t) ≡ true
    yes' = le-leb _ _ h

    pub told_refused : {a : Result ℕ FrameRefusal} {o' : List ℕ} {r : ℕ} (x : FrameRefusal) → Outcome number told made o a o' → a ≡ Err x → r ≡ frame_number x → InNumbers number told made o t r o' t
    unfolding Tells
    told_refused {a} {o'} {r} x w e q =
        let n : number ≡ frame_number x = subst (Tells number told) e w.answer in
        let no : eqb number 0 ≡ false = ap (λ (k : ℕ). eqb k 0) n ∙ counts x in
        record {
          answer = q ∙ sym n ∙ sym (pick_true number 100 yes');
          buffer = w.buffer ∙ pick_false made o no ∙ sym (pick_false made o (and_next _ yes' ∙ no));
          word = sym (pick_false (set t 0 told) t (and_next _ yes' ∙ no));
        }

    pub told_done :
        {a : Result ℕ FrameRefusal} {o' t' : List ℕ} {n : ℕ} → Outcome number told made o a o' → a ≡ Ok n → t' ≡ set t 0 n → InNumbers number told made o t 0 o' t'
    told_done {n = n} w e q =
        let d = done_number number told made o w e in
        let is : eqb number 0 ≡ true = eq-eqb number 0 d.0 in
        record {
          answer = sym (pick_true number 100 yes' ∙ d.0);
          buffer = w.buffer ∙ pick_true made o is ∙ sym (pick_true made o (and_next _ yes' ∙ is));
          word = q ∙ ap (set t 0) d.1 ∙ sym (pick_true (set t 0 told) t (and_next _ yes' ∙ is));
        }

-- a frame that was written has at most 516 bytes
pub size_small : (l : List ℕ) (d s from count room : ℕ) → writer_number l d s from count room ≡ 0 → frame_size (route_in l d s from) count (untaken l d s from) ≤ 516
unfolding frame_size place_of
size_small l d s from count room h =
    let w = writer_open l d s from count room h in
    let b = base_open l w.base in
    omega (arith, sizes_most (route_in l d s from).counts.depots (untaken l d s from) count b.within.depots, w.few)
