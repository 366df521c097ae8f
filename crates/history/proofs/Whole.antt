-- Reading byte by byte comes to the lines of the whole input: their number, and the words of their entries.
-- Assumes nothing.
use Prim.Native.Nat.{ℕ, suc, ◌+◌, ◌*◌, ◌≤◌, ◌<◌}
use native.Mathlib.Nat.{add-zero, zero-add}
use native.Mathlib.Omega.{arith}
use mathlib.Core.Path.{◌≡◌, refl, sym, ◌∙◌, ap, ap₂, subst}
use mathlib.Core.Logic.{⊎_elim}
use mathlib.Core.List.{List, [], ◌∷◌, ◌++◌, append-nil, append_assoc}
use mathlib.Core.Bool.{Bool, true, false}
use lib.Dec.{ltb}
use lib.ListN.{length, take, drop, length-append, length-replicate}
use lib.Seq.{sets, sets-eq, length-sets, take_all, take-append-le, take_at, length-take-le}
use borrow.Author.Tests.{eq-eqb, ne_eqb, lt-ltb, le-ltb}
use Rattle.loops.specs.Loops.{pick}
use Rattle.loops.proofs.BoolLaws.{eq_or_ne, le_or_lt, pick_true, pick_false}
use Rattle.history.specs.Entry.{entry_in, stored}
use Rattle.history.specs.Stream.{lines_from, lines_of, words_of, Read, start, ended, grown, fed, through, finished}
use Rattle.history.proofs.Accepted.{stored_length, entry_long}

-- ---- of a long line 112 bytes are enough

cut : (p : List ℕ) → entry_in (take 112 p) ≡ entry_in p
cut p =
    ⊎_elim
    (λ (l : length p ≤ 112). ap entry_in (take_all 112 p l))
    (λ (l : 112 < length p).
    let e = length-take-le 112 p (omega arith) in
    entry_long (take 112 p) (omega arith) ∙ sym (entry_long p (omega arith)))
    (le_or_lt (length p) 112)

cut_more : (p : List ℕ) (b : ℕ) → pick (ltb (length (take 112 p)) 112) (take 112 p ++ (b ∷ [])) (take 112 p) ≡ take 112 (p ++ (b ∷ []))
cut_more p b =
    let more = length-append p (b ∷ []) in
    ⊎_elim
    (λ (l : 112 ≤ length p).
    pick_false _ _ (le-ltb (length (take 112 p)) 112 (rw (length-take-le 112 p l) (omega arith))) ∙ sym (take-append-le 112 p (b ∷ []) l))
    (λ (l : length p < 112).
    let e : take 112 p ≡ p = take_all 112 p (omega arith) in
    pick_true _ _ (lt-ltb (length (take 112 p)) 112 (rw e l)) ∙ ap (λ (q : List ℕ). q ++ (b ∷ [])) e ∙ sym (take_all 112 (p ++ (b ∷ [])) (omega arith)))
    (le_or_lt 112 (length p))

-- ---- line by line

-- what has been read, with s as the line so far
at_line : Read → List ℕ → Read
at_line r s = record { words = r.words; lines = r.lines; line = s }

all : Read → List (List ℕ) → Read
all r [] = r
all r (s ∷ ss) = all (ended (at_line r s)) ss

ended_cut : (r : Read) (p : List ℕ) → r.line ≡ take 112 p → ended r ≡ ended (at_line r p)
unfolding ended at_line
ended_cut r p e =
    ap
    (λ (ws : List ℕ).
    pick (ltb r.lines 256) (record { words = sets r.words (r.lines * 11) ws; lines = r.lines + 1; line = [] })
    (record { words = r.words; lines = 257; line = [] }))
    (ap stored (ap entry_in e ∙ cut p))

ended_empty : (r : Read) → (ended r).line ≡ []
unfolding ended pick
ended_empty r = both (ltb r.lines 256) _ _ refl refl
  where
    both : (t : Bool) (a b : Read) → a.line ≡ [] → b.line ≡ [] → (pick {A = Read} t a b).line ≡ []
    both true a b p q = p
    both false a b p q = q

at_own : (r : Read) (s : List ℕ) → r.line ≡ s → at_line r s ≡ r
unfolding at_line
at_own r s e = ap (λ (l : List ℕ). record { words = r.words; lines = r.lines; line = l }) (sym e)

all_last : (r : Read) (p : List ℕ) → r.line ≡ take 112 p → finished r ≡ all (at_line r []) (lines_from p [])
unfolding finished all at_line lines_from
all_last r [] e =
    pick_true _ _ (eq-eqb _ 0 (ap length e)) ∙ sym (at_own r [] e) ∙ sym (ap (all (at_line r [])) (pick_true _ _ (eq-eqb 0 0 refl)))
all_last r (b ∷ p) e =
    pick_false _ _ (ne_eqb (length r.line) 0 (λ z. let w = ap length e in omega arith)) ∙ ended_cut r (b ∷ p) e
    ∙ sym (ap (all (at_line r [])) (pick_false _ _ (ne_eqb (suc (length p)) 0 (λ z. omega arith))))

-- one byte, of the text and of what has been read
module _ (r : Read) (p t : List ℕ) (b : ℕ) where
  fed_end : b ≡ 10 → fed r b ≡ ended r
  unfolding fed
  fed_end h = pick_true _ _ (eq-eqb b 10 h)

  fed_on : (b ≡ 10 → ⊥) → fed r b ≡ grown r b
  unfolding fed
  fed_on h = pick_false _ _ (ne_eqb b 10 h)

  lines_end : b ≡ 10 → lines_from p (b ∷ t) ≡ p ∷ lines_from [] t
  unfolding lines_from
  lines_end h = pick_true _ _ (eq-eqb b 10 h)

  lines_on : (b ≡ 10 → ⊥) → lines_from p (b ∷ t) ≡ lines_from (p ++ (b ∷ [])) t
  unfolding lines_from
  lines_on h = pick_false _ _ (ne_eqb b 10 h)

  grown_line : r.line ≡ take 112 p → (grown r b).line ≡ take 112 (p ++ (b ∷ []))
  unfolding grown
  grown_line e = ap (λ (l : List ℕ). pick (ltb (length l) 112) (l ++ (b ∷ [])) l) e ∙ cut_more p b

  grown_at : at_line (grown r b) [] ≡ at_line r []
  unfolding grown at_line
  grown_at = refl

  ended_at : r.line ≡ take 112 p → at_line (ended r) [] ≡ ended (at_line (at_line r []) p)
  unfolding at_line
  ended_at e = at_own (ended r) [] (ended_empty r) ∙ ended_cut r p e

all_lines : (r : Read) (p t : List ℕ) → r.line ≡ take 112 p → finished (through r t) ≡ all (at_line r []) (lines_from p t)
unfolding through all
all_lines r p [] e = all_last r p e
all_lines r p (b ∷ t) e =
    ⊎_elim
    (λ (h : b ≡ 10).
    ap (λ (q : Read). finished (through q t)) (fed_end r p t b h) ∙ all_lines (ended r) [] t (ended_empty r)
    ∙ ap (λ (q : Read). all q (lines_from [] t)) (ended_at r p t b e) ∙ sym (ap (all (at_line r [])) (lines_end r p t b h)))
    (λ (h : b ≡ 10 → ⊥).
    ap (λ (q : Read). finished (through q t)) (fed_on r p t b h) ∙ all_lines (grown r b) (p ++ (b ∷ [])) t (grown_line r p t b e)
    ∙ ap (λ (q : Read). all q (lines_from (p ++ (b ∷ [])) t)) (grown_at r p t b) ∙ sym (ap (all (at_line r [])) (lines_on r p t b h)))
    (eq_or_ne b 10)

-- ---- the words

sets_take : (w vs : List ℕ) (at : ℕ) → length vs ≡ 11 → at + 11 ≤ length w → take (at + 11) (sets w at vs) ≡ take at w ++ vs
sets_take w vs at e l =
    let long : length (take at w ++ vs) ≡ at + 11 = length-append (take at w) vs ∙ ap₂ (λ (x y : ℕ). x + y) (length-take-le at w (omega arith)) e in
    ap (take (at + 11)) (sets-eq vs w at (omega arith))
    ∙ take_at (take at w ++ vs) (drop (at + length vs) w) (at + 11) long

ended_few : (r : Read) (s : List ℕ) → r.lines < 256
    → ended (at_line r s) ≡ record { words = sets r.words (r.lines * 11) (stored (entry_in s)); lines = r.lines + 1; line = [] }
unfolding ended at_line
ended_few r s l = pick_true _ _ (lt-ltb _ 256 l)

ended_many : (r : Read) (s : List ℕ) → 256 ≤ r.lines → ended (at_line r s) ≡ record { words = r.words; lines = 257; line = [] }
unfolding ended at_line
ended_many r s l = pick_false _ _ (le-ltb _ 256 l)

-- after as many lines as there is room for
record Few (r : Read) (ss : List (List ℕ)) (q : Read) : Type 0 where
  counted : q.lines ≡ r.lines + length ss
  words : take ((r.lines + length ss) * 11) q.words ≡ take (r.lines * 11) r.words ++ words_of ss

few_more : (r : Read) (s : List ℕ) (ss : List (List ℕ)) (q : Read) → length r.words ≡ 2816 → r.lines + suc (length ss) ≤ 256
    → Few (record { words = sets r.words (r.lines * 11) (stored (entry_in s)); lines = r.lines + 1; line = [] }) ss q → Few r (s ∷ ss) q
unfolding words_of
few_more r s ss q e l rest =
    let shift : r.lines + 1 + length ss ≡ r.lines + suc (length ss) = omega arith in
    let next : (r.lines + 1) * 11 ≡ r.lines * 11 + 11 = omega arith in
    record {
      counted = rest.counted ∙ shift;
      words =
          ap (λ (n : ℕ). take (n * 11) q.words) (sym shift) ∙ rest.words
          ∙ ap (λ (l : List ℕ). l ++ words_of ss)
          (ap (λ (n : ℕ). take n (sets r.words (r.lines * 11) (stored (entry_in s)))) next
          ∙ sets_take r.words (stored (entry_in s)) (r.lines * 11) (stored_length s) (omega arith))
          ∙ append_assoc (take (r.lines * 11) r.words) (stored (entry_in s)) (words_of ss);
    }

all_few : (r : Read) (ss : List (List ℕ)) → length r.words ≡ 2816 → r.lines + length ss ≤ 256 → Few r ss (all r ss)
unfolding all words_of
all_few r [] e l =
    record { counted = sym (add-zero r.lines); words = ap (λ (n : ℕ). take (n * 11) r.words) (add-zero r.lines) ∙ sym (append-nil _) }
all_few r (s ∷ ss) e l =
    subst (λ (q : Read). Few r (s ∷ ss) (all q ss)) (sym (ended_few r s (omega arith)))
    (few_more r s ss _ e l (all_few (record { words = sets r.words (r.lines * 11) (stored (entry_in s)); lines = r.lines + 1; line = [] }) ss (length-sets r.words (r.lines * 11) (stored (entry_in s)) ∙ e) (omega arith)))

all_many : (r : Read) (ss : List (List ℕ)) → r.lines ≤ 257 → 256 < r.lines + length ss → (all r ss).lines ≡ 257
unfolding all
all_many r [] l m = omega arith
all_many r (s ∷ ss) l m =
    ⊎_elim
    (λ (h : 256 ≤ r.lines). ap (λ (q : Read). (all q ss).lines) (ended_many r s h) ∙ all_many (record { words = r.words; lines = 257; line = [] }) ss (omega arith) (omega arith))
    (λ (h : r.lines < 256).
    ap (λ (q : Read). (all q ss).lines) (ended_few r s h)
    ∙ all_many (record { words = sets r.words (r.lines * 11) (stored (entry_in s)); lines = r.lines + 1; line = [] }) ss (omega arith) (omega arith))
    (le_or_lt 256 r.lines)

-- ---- the whole input

module _ (t : List ℕ) where
  whole : finished (through start t) ≡ all start (lines_of t)
  unfolding lines_of at_line
  whole = all_lines start [] t refl

  pub read_few : length (lines_of t) ≤ 256
      → ((finished (through start t)).lines ≡ length (lines_of t)) × (take (length (lines_of t) * 11) (finished (through start t)).words ≡ words_of (lines_of t))
  read_few l =
      let few = all_few start (lines_of t) (length-replicate {A = ℕ} 2816 0) (omega arith) in (
        ap (λ (q : Read). q.lines) whole ∙ few.counted ∙ zero-add (length (lines_of t)),
        ap (λ (q : Read). take (length (lines_of t) * 11) q.words) whole
            ∙ ap (λ (n : ℕ). take (n * 11) (all start (lines_of t)).words) (sym (zero-add (length (lines_of t)))) ∙ few.words,
      )

  pub read_many : 256 < length (lines_of t) → (finished (through start t)).lines ≡ 257
  read_many l = ap (λ (q : Read). q.lines) whole ∙ all_many start (lines_of t) (omega arith) (omega arith)
