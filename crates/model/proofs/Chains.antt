-- First in, first out, with rising stamps: from the last stamp seen over the messages of a link to the sender's clock is one chain.
-- Assumes nothing.
use Prim.Native.Nat.{ℕ, ◌≤◌, ◌<◌}
use native.Mathlib.Omega.{arith}
use mathlib.Core.Path.{◌≡◌, refl, sym, subst}
use mathlib.Core.Logic.{⊎_elim}
use mathlib.Core.List.{List, [], ◌∷◌, ◌++◌, Memᴰ}
use Rattle.model.specs.Parts.{Message, stamp_of}

-- each stamp is above the one before it, a before the first, and b is the last
unfoldable pub Chain : ℕ → List Message → ℕ → Type 0
Chain a [] b = a ≡ b
Chain a (m ∷ l) b = (a < stamp_of m) × Chain (stamp_of m) l b

pub chain_below : (a b : ℕ) (l : List Message) → Chain a l b → a ≤ b
unfolding Chain
chain_below a b [] e = omega arith
chain_below a b (m ∷ l) c = let t = chain_below (stamp_of m) b l c.1 in omega arith

pub chain_member : (a b : ℕ) {m : Message} (l : List Message) → Chain a l b → Memᴰ m l → a < stamp_of m
unfolding Chain
chain_member a b [] c i = absurd (mathlib.Core.List.Memᴰ.not-nil i)
chain_member a b {m} (n ∷ l) c i = ⊎_elim
    (λ (e : m ≡ n). subst (λ y. a < stamp_of y) (sym e) c.0)
    (λ (i : Memᴰ m l). let t = chain_member (stamp_of n) b l c.1 i in omega arith)
    (mathlib.Core.List.Memᴰ.cases_cons i)

pub chain_last : (a b : ℕ) (m : Message) (l : List Message) → Chain a l b → b < stamp_of m → Chain a (l ++ (m ∷ [])) (stamp_of m)
unfolding Chain
chain_last a b m [] e h = (let t : a ≡ b = e in omega arith, refl)
chain_last a b m (n ∷ l) c h = (c.0, chain_last (stamp_of n) b m l c.1 h)

pub chain_next : (a b : ℕ) (m : Message) (l : List Message) → Chain a (m ∷ l) b → (a < stamp_of m) × Chain (stamp_of m) l b
unfolding Chain
chain_next a b m l c = c

pub chain_empty : (a b : ℕ) {l : List Message} → l ≡ [] → Chain a l b → a ≡ b
unfolding Chain
chain_empty a b e c = subst (λ l. Chain a l b) e c

pub chain_start : Chain 0 [] 0
unfolding Chain
chain_start = refl
