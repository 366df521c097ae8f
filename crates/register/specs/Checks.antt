-- What the shared checks answer: the numbers that were named, each of its own kind, or the refusal.
-- Assumes nothing.
use Rattle.std.specs.Prelude.{ℕ, ◌+◌, ◌≡◌, ◌||◌, not, List, [], ◌∷◌, leb, Result, Ok, Err}
use Rattle.book.specs.Numbers.{Depot, Shelf, Bearing, Crew}
use Rattle.book.specs.Layout.{counts_of, home, clock}
use Rattle.named.specs.Named.{base_fit}
use Rattle.paper.specs.declared.answer.Payload.{Payload}
use Rattle.paper.specs.declared.answer.Refusal.{Refusal}
use Rattle.paper.specs.Calls.{first}
use Rattle.register.specs.Table.{shelf_of, write_number}
use Rattle.paper.specs.Answers.{number_of}

-- the length, the counts and the homes, then a depot and a shelf: all of a tick's and a refresh's table that no further part has a say in
unfoldable pub place_number : List ℕ → ℕ → ℕ → ℕ
place_number l d s = first
    ((not (base_fit l), 1)
    ∷ (leb (counts_of l).depots d, 2)
    ∷ (leb (counts_of l).shelves s, 3)
    ∷ [])

-- a depot and a shelf where the number is 0, else the refusal that has it
unfoldable pub PlaceChecked : ℕ → ℕ → ℕ → Result (Depot × Shelf) Refusal → Type 0
PlaceChecked number d s (Ok (a, b)) = (number ≡ 0) × (record { 0 = d } ≡ a) × (record { 0 = s } ≡ b)
PlaceChecked number d s (Err r) = number ≡ number_of r

-- the same, with a crew and a bearing, of a read's and a write's table
unfoldable pub asked_number : List ℕ → ℕ → ℕ → ℕ
asked_number l c k = first
    ((not (base_fit l), 1)
    ∷ (leb (counts_of l).crews c, 5)
    ∷ (leb (counts_of l).bearings k, 4)
    ∷ [])

-- a crew and a bearing where the number is 0, else the refusal that has it
unfoldable pub AskChecked : ℕ → ℕ → ℕ → Result (Crew × Bearing) Refusal → Type 0
AskChecked number c k (Ok (a, b)) = (number ≡ 0) × (record { 0 = c } ≡ a) × (record { 0 = k } ≡ b)
AskChecked number c k (Err r) = number ≡ number_of r

-- the same, with a depot, a shelf and the depot that a message comes from, of a take's table
unfoldable pub link_number : List ℕ → ℕ → ℕ → ℕ → ℕ
link_number l d s from = first
    ((not (base_fit l), 1)
    ∷ (leb (counts_of l).depots d || leb (counts_of l).depots from, 2)
    ∷ (leb (counts_of l).shelves s, 3)
    ∷ [])

-- these three where the number is 0, else the refusal that has it
unfoldable pub LinkChecked : ℕ → ℕ → ℕ → ℕ → Result (Depot × Shelf × Depot) Refusal → Type 0
LinkChecked number d s from (Ok (a, b, e)) = (number ≡ 0) × (record { 0 = d } ≡ a) × (record { 0 = s } ≡ b) × (record { 0 = from } ≡ e)
LinkChecked number d s from (Err r) = number ≡ number_of r

-- crew c may write this payload to bearing k, at its home: n depots, home depot d, shelf s, and the stamp that it gets
pub record MayWrite (l : List ℕ) (c k : ℕ) (payload : Payload) (n d s stamp : ℕ) : Type 0 where
  pub passed : write_number l c k payload ≡ 0
  pub depots : n ≡ (counts_of l).depots
  pub depot : d ≡ home l c
  pub shelf : s ≡ shelf_of l k
  pub stamped : stamp ≡ clock l (home l c) (shelf_of l k) + 1
