-- From steps to chains, row by row: once row k has been joined to each row that has bit k, chains through k are bits. So after n rows the bits
-- are closed under chains, and none was ever set without a chain.
-- Assumes nothing.
use Prim.Native.Nat.{ℕ, ◌+◌, ◌*◌, ◌≤◌, ◌<◌}
use native.Mathlib.Omega.{arith}
use native.Mathlib.Nat.{lt_of_lt_of_le, lt_trans}
use mathlib.Core.Path.{◌≡◌, refl, sym, ◌∙◌, subst}
use mathlib.Core.Logic.{◌⊎◌, inl, inr, ⊎_elim}
use mathlib.Core.Bool.{true, ◌&&◌}
use mathlib.Core.List.{List}
use lib.Dec.{eqb}
use borrow.Author.Tests.{eq-eqb}
use Rattle.loops.proofs.BoolLaws.{and_left, and_right, and_intro, or_cases, or_left, or_right, eq_or_ne}
use Rattle.chains.specs.Chain.{Grid, Chain, step, steps, Closed}
use Rattle.chains.specs.Table.{place, bit, Adds, joins, turns}
use Rattle.chains.proofs.SomeLaws.{some_here, some_where}

-- ---- chains

pub chain_from : {n : ℕ} {R : Grid} {i j : ℕ} → Chain n R i j → i < n
chain_from (step l m h) = l
chain_from (steps c d) = chain_from c

pub chain_to : {n : ℕ} {R : Grid} {i j : ℕ} → Chain n R i j → j < n
chain_to (step l m h) = m
chain_to (steps c d) = chain_to d

-- steps that are steps of another relation make chains of it
chain_same : {n : ℕ} {R S : Grid} {i j : ℕ} → ((a b : ℕ) → a < n → b < n → R a b ≡ true → S a b ≡ true) → Chain n R i j → Chain n S i j
chain_same f (step l m h) = step l m (f _ _ l m h)
chain_same f (steps c d) = steps (chain_same f c) (chain_same f d)

-- where every step goes down, every chain does
pub chain_down : {n : ℕ} {R : Grid} {i j : ℕ} → ((a b : ℕ) → a < n → b < n → R a b ≡ true → b < a) → Chain n R i j → j < i
chain_down f (step l m h) = f _ _ l m h
chain_down f (steps c d) = lt_trans (chain_down f d) (chain_down f c)

-- of two relations with the same steps the chains are the same
pub closed_same : {n k : ℕ} {R S G : Grid} → n ≡ k → ((a b : ℕ) → a < n → b < n → R a b ≡ S a b) → Closed n R G → Closed k S G
closed_same {S = S} {G = G} e f c =
    subst (λ (m : ℕ). Closed m S G) e
    (record {
      sound = λ i j l m g. chain_same (λ a b la lb r. sym (f a b la lb) ∙ r) (c.sound i j l m g);
      complete = λ s. c.complete (chain_same (λ a b la lb r. f a b la lb ∙ r) s);
    })

-- ---- closing

-- what the first k turns have reached
pub record Closing (n : ℕ) (R : Grid) (k : ℕ) (G : Grid) : Type 0 where
  pub sound : (a b : ℕ) → a < n → b < n → G a b ≡ true → Chain n R a b
  pub direct : (a b : ℕ) → a < n → b < n → R a b ≡ true → G a b ≡ true
  pub across : (a b c : ℕ) → a < n → b < n → c < n → c < k → G a c ≡ true → G c b ≡ true → G a b ≡ true

pub closing_none : (n : ℕ) (R : Grid) → Closing n R 0 R
closing_none n R = record { sound = λ a b l m h. step l m h; direct = λ a b l m h. h; across = λ a b c l m o z p q. absurd (omega arith) }

-- what the turn of row k makes of the bits G
record Turn (n k : ℕ) (G H : Grid) : Type 0 where
  was : (a b : ℕ) → a < n → b < n → G a b ≡ true → H a b ≡ true
  new : (a b : ℕ) → a < n → b < n → G a k ≡ true → G k b ≡ true → H a b ≡ true
  old : (a b : ℕ) → a < n → b < n → H a b ≡ true → (G a b ≡ true) ⊎ ((G a k ≡ true) × (G k b ≡ true))

turn_of : (m : List ℕ) (n k : ℕ) {l : List ℕ} → n ≤ 256 → Adds m (turns (n * 4) (joins (bit m) k)) l → Turn n k (bit m) (bit l)
unfolding turns joins
turn_of m n k few h =
    record {
      was = λ a b la lb p. h.bits a b (lt_of_lt_of_le la few) (lt_of_lt_of_le lb few) ∙ or_left (bit m a b) _ p;
      new = λ a b la lb p q.
          h.bits a b (lt_of_lt_of_le la few) (lt_of_lt_of_le lb few)
          ∙ or_right (bit m a b) _ (some_here (n * 4) _ (place a b) (omega arith) (and_intro (eq-eqb (place a b) (place a b) refl) (and_intro p q)));
      old = λ a b la lb p.
          ⊎_elim (λ (e : bit m a b ≡ true). inl e)
          (λ s.
          let w = some_where (n * 4) _ s in
          let t = and_right (eqb (place a b) w.0) (bit m a k && bit m k b) w.2 in
          inr (and_left (bit m a k) _ t, and_right (bit m a k) _ t))
          (or_cases (bit m a b) _ (sym (h.bits a b (lt_of_lt_of_le la few) (lt_of_lt_of_le lb few)) ∙ p));
    }

module _ {n : ℕ} {R : Grid} {k : ℕ} {G H : Grid} (inv : Closing n R k G) (lk : k < n) (turn : Turn n k G H) where
  to_k : (a : ℕ) → a < n → H a k ≡ true → G a k ≡ true
  to_k a l h = ⊎_elim (λ (e : G a k ≡ true). e) (λ (e : (G a k ≡ true) × (G k k ≡ true)). e.0) (turn.old a k l lk h)

  from_k : (b : ℕ) → b < n → H k b ≡ true → G k b ≡ true
  from_k b l h = ⊎_elim (λ (e : G k b ≡ true). e) (λ (e : (G k k ≡ true) × (G k b ≡ true)). e.1) (turn.old k b lk l h)

  across_old : (a b c : ℕ) → a < n → b < n → c < n → c < k → H a c ≡ true → H c b ≡ true → H a b ≡ true
  across_old a b c la lb lc ck p q =
      ⊎_elim
      (λ (e : G a c ≡ true).
      ⊎_elim
      (λ (f : G c b ≡ true). turn.was a b la lb (inv.across a b c la lb lc ck e f))
      (λ (f : (G c k ≡ true) × (G k b ≡ true)). turn.new a b la lb (inv.across a k c la lk lc ck e f.0) f.1)
      (turn.old c b lc lb q))
      (λ (e : (G a k ≡ true) × (G k c ≡ true)).
      ⊎_elim
      (λ (f : G c b ≡ true). turn.new a b la lb e.0 (inv.across k b c lk lb lc ck e.1 f))
      (λ (f : (G c k ≡ true) × (G k b ≡ true)). turn.new a b la lb e.0 f.1)
      (turn.old c b lc lb q))
      (turn.old a c la lc p)

  closing_turn : Closing n R (k + 1) H
  closing_turn =
      record {
        sound = λ a b la lb h.
            ⊎_elim (λ (e : G a b ≡ true). inv.sound a b la lb e)
            (λ (e : (G a k ≡ true) × (G k b ≡ true)). steps (inv.sound a k la lk e.0) (inv.sound k b lk lb e.1))
            (turn.old a b la lb h);
        direct = λ a b la lb h. turn.was a b la lb (inv.direct a b la lb h);
        across = λ a b c la lb lc ck p q.
            ⊎_elim (λ (e : c ≡ k). turn.new a b la lb (to_k a la (rw e at p)) (from_k b lb (rw e at q)))
            (λ (e : c ≡ k → ⊥). across_old a b c la lb lc (omega arith) p q)
            (eq_or_ne c k);
      }

pub closing_more : {n : ℕ} {R : Grid} {k : ℕ} (m : List ℕ) {l : List ℕ} → n ≤ 256 → k < n → Closing n R k (bit m) → Adds m (turns (n * 4) (joins (bit m) k)) l
    → Closing n R (k + 1) (bit l)
closing_more m few lk inv h = closing_turn inv lk (turn_of m _ _ few h)

pub closing_done : {n : ℕ} {R : Grid} {k : ℕ} {G : Grid} → n ≤ k → Closing n R k G → Closed n R G
closing_done {n} {R} {k} {G} nk inv = record { sound = inv.sound; complete = λ c. all c }
  where
    all : {a b : ℕ} → Chain n R a b → G a b ≡ true
    all (step l m h) = inv.direct _ _ l m h
    all (steps c d) = inv.across _ _ _ (chain_from c) (chain_to d) (chain_to c) (lt_of_lt_of_le (chain_to c) nk) (all c) (all d)
