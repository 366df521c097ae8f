-- What a table's stores add to its bits: one law for the store of a word that is joined to its old one, and one for turns after one another.
-- Assumes nothing.
use Prim.Native.Nat.{ℕ, ◌+◌, ◌*◌, ◌/◌, ◌%◌, ◌^◌, ◌≤◌, ◌<◌}
use native.Mathlib.Omega.{arith}
use native.Mathlib.Nat.{div-eq_of_lt}
use mathlib.Core.Path.{◌≡◌, refl, sym, ◌∙◌, ap, ap₂}
use mathlib.Core.Logic.{⊎_elim}
use mathlib.Core.Bool.{Bool, true, false, ◌&&◌, ◌||◌, or_assoc, or-false}
use mathlib.Core.List.{List}
use lib.Dec.{eqb}
use lib.Bits.{bit_or}
use lib.ListN.{length, get_or, set, replicate, length-set, get_or-replicate}
use lib.Pow.{pow_pos}
use lib.Seq.{get_or-set_same, get_or-set_other}
use borrow.Author.Tests.{eqb-true, eq-eqb, ne_eqb}
use Rattle.loops.proofs.BoolLaws.{together, both_ways, and_left, and_right, and_intro, and_next, and_stop, or_next, or_cases, or_left, eq_or_ne}
use Rattle.chains.specs.Chain.{Grid, some}
use Rattle.chains.specs.Table.{place, bit_of, bit, Adds, one, direct, joins, turns}
use Rattle.chains.proofs.SomeLaws.{some_more, some_here, some_where}
use Rattle.chains.proofs.BitLaws.{bit_or_law, bit_one, mask_is}

-- what adds nothing
pub or_absorbs : (g : Bool) {t : Bool} → (t ≡ true → g ≡ true) → g || t ≡ g
or_absorbs g {t} f = together (g || t) g (λ e. ⊎_elim (λ (p : g ≡ true). p) f (or_cases g t e)) (λ e. or_left g t e)

adds_same : {m : List ℕ} {P Q : Grid} {l : List ℕ} → Adds m P l → ((a b : ℕ) → a < 256 → b < 256 → P a b ≡ Q a b) → Adds m Q l
adds_same {m} h f = record { sized = h.sized; bits = λ a b la lb. h.bits a b la lb ∙ ap (λ (t : Bool). bit m a b || t) (f a b la lb) }

-- nothing is added
pub adds_nothing : (m : List ℕ) (P : Grid) → length m ≡ 1024 → ((a b : ℕ) → P a b ≡ false) → Adds m P m
adds_nothing m P e f = record { sized = e; bits = λ a b la lb. sym (or_absorbs (bit m a b) (λ h. absurd (both_ways h (f a b)))) }

-- the word w is joined to the word at p
adds_word : (m : List ℕ) (p w : ℕ) → length m ≡ 1024 → p < 1024 → Adds m (λ a b. eqb (place a b) p && bit_of w (b % 64)) (set m p (bit_or (get_or m p 0) w))
unfolding bit
adds_word m p w e l =
    record {
      sized = simp length-set e;
      bits = λ a b la lb.
          ⊎_elim
          (λ (s : place a b ≡ p).
          ap (λ (v : ℕ). bit_of v (b % 64)) (ap (λ (q : ℕ). get_or (set m p (bit_or (get_or m p 0) w)) q 0) s ∙ get_or-set_same m p _ 0 (omega arith))
          ∙ bit_or_law (get_or m p 0) w (b % 64)
          ∙ ap₂ (λ (x y : Bool). x || y) (ap (λ (q : ℕ). bit_of (get_or m q 0) (b % 64)) (sym s)) (sym (and_next _ (eq-eqb (place a b) p s))))
          (λ (s : place a b ≡ p → ⊥).
          ap (λ (v : ℕ). bit_of v (b % 64)) (get_or-set_other m p (place a b) _ 0 s)
          ∙ sym (ap (λ (t : Bool). bit_of (get_or m (place a b) 0) (b % 64) || t) (and_stop _ (ne_eqb (place a b) p s)) ∙ or-false _))
          (eq_or_ne (place a b) p);
    }

-- one bit
pub adds_one : (m : List ℕ) (i j : ℕ) → length m ≡ 1024 → i < 256 → j < 256
    → Adds m (one i j) (set m (place i j) (bit_or (get_or m (place i j) 0) ((1 * 2 ^ (j % 64)) % 18446744073709551616)))
unfolding one
adds_one m i j e li lj =
    adds_same (adds_word m (place i j) _ e (omega arith)) λ a b la lb.
    ap (λ (t : Bool). eqb (place a b) (place i j) && t) (ap (λ (w : ℕ). bit_of w (b % 64)) (mask_is (j % 64) (omega arith)) ∙ bit_one (j % 64) (b % 64))
    ∙ together _ _
    (λ h.
    let p = eqb-true (place a b) (place i j) (and_left (eqb (place a b) (place i j)) _ h) in
    let q = eqb-true (b % 64) (j % 64) (and_right (eqb (place a b) (place i j)) _ h) in
    and_intro (eq-eqb a i (omega arith)) (eq-eqb b j (omega arith)))
    (λ h.
    let p = eqb-true a i (and_left (eqb a i) _ h) in
    let q = eqb-true b j (and_right (eqb a i) _ h) in
    and_intro (eq-eqb (place a b) (place i j) (ap₂ (λ (x y : ℕ). place x y) p q)) (eq-eqb (b % 64) (j % 64) (ap (λ (y : ℕ). y % 64) q)))

-- one bit, if R leads there
pub adds_direct : (R : Grid) (i j : ℕ) {m l : List ℕ} → R i j ≡ true → Adds m (one i j) l → Adds m (direct R i j) l
unfolding direct
adds_direct R i j on h = adds_same h (λ a b la lb. sym (and_next _ on))

pub adds_indirect : (R : Grid) (i j : ℕ) {m : List ℕ} → length m ≡ 1024 → R i j ≡ false → Adds m (direct R i j) m
unfolding direct
adds_indirect R i j e off = adds_nothing _ _ e (λ a b. and_stop _ off)

-- a word of row k, where the row of p has bit k and where it has not
pub adds_joined : (m : List ℕ) (k p : ℕ) → length m ≡ 1024 → p < 1024 → bit m (p / 4) k ≡ true
    → Adds m (joins (bit m) k p) (set m p (bit_or (get_or m p 0) (get_or m (k * 4 + p % 4) 0)))
unfolding joins bit
adds_joined m k p e l on =
    adds_same (adds_word m p _ e l) λ a b la lb.
    ⊎_elim
    (λ (s : place a b ≡ p).
    let row : p / 4 ≡ a = omega arith in
    let word : p % 4 ≡ b / 64 = omega arith in
    ap (λ (t : Bool). eqb (place a b) p && t)
    (ap (λ (x : ℕ). bit_of (get_or m (k * 4 + x) 0) (b % 64)) word ∙ sym (and_next _ (ap (λ (x : ℕ). bit m x k) (sym row) ∙ on))))
    (λ (s : place a b ≡ p → ⊥). and_stop _ (ne_eqb (place a b) p s) ∙ sym (and_stop _ (ne_eqb (place a b) p s)))
    (eq_or_ne (place a b) p)

pub adds_unjoined : (m : List ℕ) (k p : ℕ) → length m ≡ 1024 → bit m (p / 4) k ≡ false → Adds m (joins (bit m) k p) m
unfolding joins
adds_unjoined m k p e off =
    record {
      sized = e;
      bits = λ a b la lb.
          sym
          (or_absorbs (bit m a b)
          (λ h.
          let s = eqb-true (place a b) p (and_left (eqb (place a b) p) _ h) in
          let row : a ≡ p / 4 = omega arith in
          absurd (both_ways (and_left (bit m a k) _ (and_right (eqb (place a b) p) _ h)) (ap (λ (x : ℕ). bit m x k) row ∙ off))));
    }

-- ---- turns after one another

pub turns_none : (m : List ℕ) (P : ℕ → Grid) → length m ≡ 1024 → Adds m (turns 0 P) m
unfolding turns some
turns_none m P e = adds_nothing m _ e (λ a b. refl)

pub turns_more : {m : List ℕ} (P : ℕ → Grid) (x : ℕ) {l l' : List ℕ} → Adds m (turns x P) l → Adds l (P x) l' → Adds m (turns (x + 1) P) l'
unfolding turns
turns_more {m} P x h k =
    record {
      sized = k.sized;
      bits = λ a b la lb.
          k.bits a b la lb ∙ ap (λ (t : Bool). t || P x a b) (h.bits a b la lb) ∙ or_assoc (bit m a b) _ _
          ∙ ap (λ (t : Bool). bit m a b || t) (sym (some_more x (λ y. P y a b)));
    }

-- no turn of joining row k changes that row, or bit k of another; so each turn adds what it would have added at first
module _ (m : List ℕ) (k x : ℕ) (l : List ℕ) (h : Adds m (turns x (joins (bit m) k)) l) (lk : k < 256) where
  row_stays : (b : ℕ) → b < 256 → bit l k b ≡ bit m k b
  unfolding turns joins
  row_stays b lb =
      h.bits k b lk lb
      ∙ or_absorbs (bit m k b) (λ s. let w = some_where x _ s in and_right (bit m k k) _ (and_right (eqb (place k b) w.0) _ w.2))

  bit_stays : (a : ℕ) → a < 256 → bit l a k ≡ bit m a k
  unfolding turns joins
  bit_stays a la =
      h.bits a k la lk
      ∙ or_absorbs (bit m a k) (λ s. let w = some_where x _ s in and_left (bit m a k) _ (and_right (eqb (place a k) w.0) _ w.2))

  pub turns_joined : {l' : List ℕ} → Adds l (joins (bit l) k x) l' → Adds m (turns (x + 1) (joins (bit m) k)) l'
  unfolding joins
  turns_joined j =
      turns_more _ x h (adds_same j (λ a b la lb. ap₂ (λ (s t : Bool). eqb (place a b) x && (s && t)) (bit_stays a la) (row_stays b lb)))

-- ---- the steps of R, marked in a table of zeros

zero_bits : (a b : ℕ) → a < 256 → b < 256 → bit (replicate 1024 0) a b ≡ false
unfolding bit bit_of
zero_bits a b la lb =
    ap (λ (w : ℕ). eqb (w / 2 ^ (b % 64) % 2) 1) (get_or-replicate 1024 (place a b) 0 0 (omega arith))
    ∙ ap (λ (w : ℕ). eqb (w % 2) 1) (div-eq_of_lt (pow_pos (b % 64)))

pub marked_steps : (R : Grid) (n : ℕ) {z t : List ℕ} → n ≤ 256 → z ≡ replicate 1024 0 → Adds z (turns n (λ i. turns n (direct R i))) t
    → (a b : ℕ) → a < n → b < n → bit t a b ≡ R a b
unfolding turns direct one
marked_steps R n {z} few e h a b la lb =
    let a₀ : a < 256 = omega arith in
    let b₀ : b < 256 = omega arith in
    h.bits a b a₀ b₀
    ∙ or_next _ (ap (λ (l : List ℕ). bit l a b) e ∙ zero_bits a b a₀ b₀)
    ∙ together _ _
    (λ s.
    let i = some_where n _ s in
    let j = some_where n _ i.2 in
    let at = and_right (R i.0 j.0) _ j.2 in
    ap₂ R (eqb-true a i.0 (and_left (eqb a i.0) _ at)) (eqb-true b j.0 (and_right (eqb a i.0) _ at)) ∙ and_left (R i.0 j.0) _ j.2)
    (λ r. some_here n _ a la (some_here n _ b lb (and_intro r (and_intro (eq-eqb a a refl) (eq-eqb b b refl)))))
