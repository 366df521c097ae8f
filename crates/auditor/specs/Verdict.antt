-- What the auditor finds.
-- Assumes nothing.
use Rattle.std.specs.Prelude.{ℕ, ◌*◌, ◌%◌, ◌<◌, ◌≡◌, Bool, true, ◌&&◌, ◌||◌, not, List, leb, eqb, length}
use Rattle.loops.specs.Loops.{pick}
use Rattle.order.specs.Vector.{zeros}
use Rattle.order.specs.Record.{most_depots}
use Rattle.chains.specs.Chain.{some}
use Rattle.entries.specs.Entries.{entry_words, most_entries, entries, origin, vector, stamp, is_write, is_read, twin, source}
use Rattle.entries.specs.Rests.{OnCircle, LowRead}
use Rattle.auditor.specs.declared.finding.Finding.{Finding}
use Rattle.auditor.specs.declared.finding.Finding.TheVariants.{TooMany, BadLength, Refused, Circle, Low, Causal}

-- ---- entries that are refused

-- a write whose origin is over 3 or whose stamp is 0, or one of two with the same bearing, vector and origin
unfoldable pub bad_write : List ℕ → ℕ → Bool
bad_write h i = leb most_depots (origin h i) || (eqb (stamp h i) 0 || some (entries h) (twin h i))

-- a read of a version that nobody wrote, unwritten excepted, or whose value or card differs
unfoldable pub bad_read : List ℕ → ℕ → Bool
bad_read h i = not (zeros most_depots (vector h i)) && not (some (entries h) (source h i))

-- and what is neither a write nor a read
unfoldable pub bad : List ℕ → ℕ → Bool
bad h i = pick (is_write h i) (bad_write h i) (pick (is_read h i) (bad_read h i) true)

abbrev pub Bad : List ℕ → ℕ → Type 0
Bad h i = bad h i ≡ true

-- ---- answers in their order

-- f where P is so, else what the rest says
pub data If {A : Type 0} (P : Type 0) (f : A) (Rest : A → Type 0) : A → Type 0 where
  so : P → If P f Rest f
  not_so : {g : A} → (P → ⊥) → Rest g → If P f Rest g

-- i is the first of the n entries of which P is so
pub record First (n : ℕ) (P : ℕ → Type 0) (i : ℕ) : Type 0 where
  pub below : i < n
  pub here : P i
  pub before : (j : ℕ) → j < i → P j → ⊥

-- the first of the n entries of which P is so, named by f; where there is none, what the rest says
pub data Names {A : Type 0} (n : ℕ) (P : ℕ → Type 0) (f : ℕ → A) (Rest : A → Type 0) : A → Type 0 where
  first : {i : ℕ} → First n P i → Names n P f Rest (f i)
  none : {g : A} → ((j : ℕ) → j < n → P j → ⊥) → Rest g → Names n P f Rest g

-- what is found of whole entries, not too many: the lowest bad one, then the first on a circle, then the first low read, then nothing
abbrev pub Judged : List ℕ → Finding → Type 0
Judged h = Names (entries h) (Bad h) Refused (Names (entries h) (OnCircle h) Circle (Names (entries h) (LowRead h) Low (λ f. f ≡ Causal)))

-- what is found of any words: more than 256 entries are refused before all else, then words that are no whole number of entries
abbrev pub Verdict : List ℕ → Finding → Type 0
Verdict h = If (most_entries * entry_words < length h) TooMany (If (length h % entry_words ≡ 0 → ⊥) BadLength (Judged h))
