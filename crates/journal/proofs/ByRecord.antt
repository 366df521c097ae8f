-- Recovery goes record by record: behind whole records the next bytes are one record more, a refused one, no kind, or too few.
-- Assumes nothing.
use Prim.Native.Nat.{ℕ, zero, suc, ◌+◌, ◌-◌, ◌≤◌, ◌<◌}
use native.Mathlib.Omega.{arith}
use mathlib.Core.Path.{◌≡◌, refl, sym, ◌∙◌, ap, subst}
use mathlib.Core.Option.{none, some}
use mathlib.Core.List.{List, [], ◌∷◌, ◌++◌}
use lib.ListN.{length, get_or, take, drop, take-append-drop}
use lib.Seq.{take-suc, take_all, get_or-take, length-take-le}
use borrow.Author.Tests.{eq-eqb, ne_eqb}
use Rattle.loops.proofs.BoolLaws.{pick_true, pick_false}
use Rattle.upkeep.specs.Requests.{Request, number_at, book_after}
use Rattle.journal.specs.declared.record.Kind.{Kind}
use Rattle.journal.specs.declared.recover.Fault.TheVariants.{Refused, Strange}
use Rattle.journal.specs.Record.{kind_of, size, request_in, whole, piece}
use Rattle.journal.specs.Journal.{Recovered, within, stopped, take_in, step_by, step, replay}
use Rattle.journal.proofs.RecordLaws.{size_some, size_all, size_part, asked_take, is_begun, is_whole, is_strange}

-- recovery may be cut anywhere
pub pieces : (s : Recovered) (x y : List ℕ) → replay s (x ++ y) ≡ replay (replay s x) y
unfolding replay
pieces s [] y = refl
pieces s (b ∷ x) y = pieces (step s b) x y

-- after a fault nothing happens
pub stays_refused : (l : List ℕ) (n m : ℕ) (p : List ℕ) (k : ℕ) (f : List ℕ) → replay (stopped l n m p (Refused k)) f ≡ stopped l n m p (Refused k)
unfolding replay step step_by
stays_refused l n m p k [] = refl
stays_refused l n m p k (x ∷ f) = stays_refused l n m p k f

pub stays_strange : (l : List ℕ) (n m : ℕ) (p f : List ℕ) → replay (stopped l n m p Strange) f ≡ stopped l n m p Strange
unfolding replay step step_by
stays_strange l n m p [] = refl
stays_strange l n m p (x ∷ f) = stays_strange l n m p f

module _ (l : List ℕ) (n m : ℕ) where
  one_byte : (p : List ℕ) (x : ℕ) → replay (within l n m p) (x ∷ []) ≡ take_in (within l n m p) (p ++ (x ∷ [])) (piece (p ++ (x ∷ [])))
  unfolding replay step step_by
  one_byte p x = refl

  same_start : (p q : List ℕ) (r : Request) → take_in (within l n m p) q (whole r) ≡ take_in (within l n m []) q (whole r)
  unfolding take_in
  same_start p q r = refl

  -- no bytes
  pub by_none : replay (within l n m []) [] ≡ within l n m []
  unfolding replay
  by_none = refl

  -- the first byte is no kind
  pub by_strange : (f : List ℕ) → 0 < length f → kind_of (get_or f 0 0) ≡ none → replay (within l n m []) f ≡ stopped l n m (take 1 f) Strange
  unfolding replay step step_by take_in
  by_strange [] h e = absurd (omega arith)
  by_strange (x ∷ f) h e =
      ap (λ (s : Recovered). replay s f) (ap (take_in (within l n m []) (x ∷ [])) (is_strange x e)) ∙ stays_strange l n m (x ∷ []) f

  -- it is a kind
  module _ (f : List ℕ) (k : Kind) (e : kind_of (get_or f 0 0) ≡ some k) where
    next_byte : (j : ℕ) → j < length f → replay (within l n m []) (take j f) ≡ within l n m (take j f) →
        replay (within l n m []) (take (suc j) f) ≡ take_in (within l n m (take j f)) (take (suc j) f) (piece (take (suc j) f))
    next_byte j h before =
        let s : take (suc j) f ≡ take j f ++ (get_or f j 0 ∷ []) = take-suc f j 0 h in
        ap (replay (within l n m [])) s
        ∙ pieces (within l n m []) (take j f) (get_or f j 0 ∷ [])
        ∙ ap (λ (z : Recovered). replay z (get_or f j 0 ∷ [])) before
        ∙ one_byte (take j f) (get_or f j 0)
        ∙ ap (λ (p : List ℕ). take_in (within l n m (take j f)) p (piece p)) (sym s)

    kind_there : (j : ℕ) → kind_of (get_or (take (suc j) f) 0 0) ≡ some k
    kind_there j = ap kind_of (get_or-take (suc j) f 0 0 (omega arith)) ∙ e

    -- fewer bytes than the record has change nothing yet
    pub by_part : (j : ℕ) → j ≤ length f → j < size k f → replay (within l n m []) (take j f) ≡ within l n m (take j f)
    unfolding replay take_in
    by_part zero h s = refl
    by_part (suc j) h s =
        next_byte j (omega arith) (by_part j (omega arith) (omega arith))
        ∙ ap (take_in (within l n m (take j f)) (take (suc j) f))
        (is_begun k (take (suc j) f) (kind_there j) (rw (length-take-le (suc j) f h) (size_part k (suc j) f s)))

    pub by_cut : length f < size k f → replay (within l n m []) f ≡ within l n m f
    by_cut h =
        let w : take (length f) f ≡ f = take_all (length f) f (omega arith) in
        ap (replay (within l n m [])) (sym w) ∙ by_part (length f) (omega arith) h ∙ ap (within l n m) w

    -- the record is all there
    module _ (h : size k f ≤ length f) where
      all_of : (j : ℕ) → suc j ≡ size k f → replay (within l n m []) (take (suc j) f) ≡ take_in (within l n m []) (take (suc j) f) (whole (request_in k f))
      all_of j s =
          next_byte j (omega arith) (by_part j (omega arith) (omega arith))
          ∙ ap (take_in (within l n m (take j f)) (take (suc j) f)) (is_whole k (take (suc j) f) (kind_there j) (omega (arith, long, sized)) ∙ ap whole asked)
          ∙ same_start (take j f) (take (suc j) f) (request_in k f)
        where
          long : length (take (suc j) f) ≡ suc j
          long = length-take-le (suc j) f (omega arith)

          sized : size k (take (suc j) f) ≡ size k f
          sized = ap (λ (i : ℕ). size k (take i f)) s ∙ size_all k f

          asked : request_in k (take (suc j) f) ≡ request_in k f
          asked = ap (λ (i : ℕ). request_in k (take i f)) s ∙ asked_take k f

      pub by_record : replay (within l n m []) f ≡ replay (take_in (within l n m []) (take (size k f) f) (whole (request_in k f))) (drop (size k f) f)
      by_record =
          let s : suc (size k f - 1) ≡ size k f = omega (arith, size_some k f) in
          ap (replay (within l n m [])) (sym (take-append-drop (size k f) f))
          ∙ pieces (within l n m []) (take (size k f) f) (drop (size k f) f)
          ∙ ap (λ (z : Recovered). replay z (drop (size k f) f))
          (subst
          (λ (i : ℕ). replay (within l n m []) (take i f) ≡ take_in (within l n m []) (take i f) (whole (request_in k f))) s (all_of (size k f - 1) s))

      -- and is done: it counts, and recovery goes on behind it
      pub by_done : number_at l (request_in k f) ≡ 0 →
          replay (within l n m []) f ≡ replay (within (book_after l (request_in k f)) (n + 1) (m + size k f) []) (drop (size k f) f)
      unfolding take_in
      by_done z =
          by_record
          ∙ ap (λ (s : Recovered). replay s (drop (size k f) f))
          (pick_true _ _ (eq-eqb _ _ z)
          ∙ ap (λ (i : ℕ). within (book_after l (request_in k f)) (n + 1) (m + i) []) (length-take-le (size k f) f h))

      -- or is refused: recovery stops before it
      pub by_refused : (number_at l (request_in k f) ≡ 0 → ⊥) → replay (within l n m []) f ≡ stopped l n m (take (size k f) f) (Refused (number_at l (request_in k f)))
      unfolding take_in
      by_refused z =
          by_record
          ∙ ap (λ (s : Recovered). replay s (drop (size k f) f)) (pick_false _ _ (ne_eqb _ _ z))
          ∙ stays_refused l n m (take (size k f) f) (number_at l (request_in k f)) (drop (size k f) f)
