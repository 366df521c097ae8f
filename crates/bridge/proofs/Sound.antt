-- What a fit book gives, in the form in which this crate uses it.
-- Assumes nothing.
use Prim.Native.Nat.{ℕ, ◌+◌, ◌-◌, ◌%◌, ◌≤◌, ◌<◌}
use native.Mathlib.Nat.{zero-add}
use native.Mathlib.Omega.{arith}
use mathlib.Core.Path.{◌≡◌, subst}
use mathlib.Core.Logic.{◌⊎◌, inl, inr, ⊎_elim}
use mathlib.Core.Bool.{true, false}
use mathlib.Core.List.{List}
use lib.ListN.{length}
use Rattle.order.specs.Vector.{zeros}
use Rattle.order.specs.Record.{bearing_of, origin_of, vector_of}
use Rattle.order.proofs.VectorLaws.{written_at}
use Rattle.book.specs.declared.parts.Counts as book
use Rattle.book.specs.Layout.{end, book_words, counts_of, home, link_of, held, taken, slot, copy_kind, beat_kind, kind_of, beat_of, record_of}
use Rattle.fit.specs.Fit.{fit}
use Rattle.shelf.proofs.AllLaws.{all_slots_at}
use Rattle.shelf.proofs.ShowLaws.{taken_slots, untaken_slots}
use Rattle.register.proofs.FitParts.{IsCopy, IsMessage, LinkOk, Whole, whole_open}
use Rattle.register.proofs.FitMessage.{CopyOk, copy_open, message_cases}
use Rattle.model.specs.Parts.{Counts}
use Rattle.bridge.specs.View.{to_model, counts_in}

-- the counts name only parts that the layout has
pub record Small (π : Counts) : Type 0 where
  pub depots : π.depots ≤ 4
  pub shelf : 0 < π.shelves
  pub shelves : π.shelves ≤ 4
  pub bearings : π.bearings ≤ 160
  pub crews : π.crews ≤ 16

-- the record of a copy on a link of shelf s out of a depot
pub record Carried (π : Counts) (s from : ℕ) (r : List ℕ) : Type 0 where
  pub known : bearing_of r < π.bearings
  pub lies : bearing_of r % π.shelves ≡ s
  pub origin : origin_of r ≡ from
  pub written : zeros π.depots (vector_of r) ≡ false

pub record SoundLink (π : Counts) (l : List ℕ) (s from q : ℕ) : Type 0 where
  pub few : held l q ≤ 16
  pub order : taken l q ≤ held l q
  pub copies : (i : ℕ) → i < taken l q → (kind_of (slot l q i) ≡ copy_kind) × Carried π s from (record_of (slot l q i))
  pub messages : (i : ℕ) → taken l q ≤ i → i < held l q → (kind_of (slot l q i) ≡ beat_kind) ⊎ ((kind_of (slot l q i) ≡ copy_kind) × Carried π s from (record_of (slot l q i)))

pub record Sound (π : Counts) (l : List ℕ) : Type 0 where
  pub full : length l ≡ book_words
  pub small : Small π
  pub homes : (c : ℕ) → c < π.crews → home l c < π.depots
  pub links : (s from to : ℕ) → s < π.shelves → from < π.depots → to < π.depots → (from ≡ to → ⊥) → SoundLink π l s from (link_of s from to)

module _ (n : book.Counts) where
  carried : (s from : ℕ) (m : List ℕ) → CopyOk n s from m → (kind_of m ≡ copy_kind) × Carried (to_model n) s from (record_of m)
  carried s from m c = (
    c.kind,
    record {
      known = c.bearing;
      lies = c.shelf;
      origin = c.origin;
      written = written_at n.depots (vector_of (record_of m)) (origin_of (record_of m)) c.version.origin c.version.stamp;
    },
  )

  linked : (l : List ℕ) (s from q : ℕ) → LinkOk n l s from q → SoundLink (to_model n) l s from q
  unfolding taken_slots untaken_slots
  linked l s from q k =
      record {
        few = k.room;
        order = k.first;
        copies = λ i h.
            carried s from _
            (copy_open n s from _ (subst (λ (j : ℕ). IsCopy n s from (slot l q j)) (zero-add i) (all_slots_at (IsCopy n s from) l q 0 (taken l q) k.copies i h)));
        messages = λ i p h.
            let back : taken l q + (i - taken l q) ≡ i = omega arith in
            ⊎_elim
            (λ (b : (kind_of (slot l q i) ≡ beat_kind) × (beat_of (slot l q i) ≤ end)). inl b.0)
            (λ (c : CopyOk n s from (slot l q i)). inr (carried s from _ c))
            (message_cases n s from _
            (subst (λ (j : ℕ). IsMessage n s from (slot l q j)) back
            (all_slots_at (IsMessage n s from) l q (taken l q) (held l q - taken l q) k.messages (i - taken l q) (omega arith))));
      }

  pub sound_whole : (l : List ℕ) → Whole n l → Sound (to_model n) l
  sound_whole l W =
      let w = W.within in
      record {
        full = W.full;
        small = record { depots = w.depots; shelf = w.shelf; shelves = w.shelves; bearings = w.bearings; crews = w.crews };
        homes = W.parts.homes;
        links = λ s from to ks kf kt apart. linked l s from (link_of s from to) (W.parts.links s from to ks kf kt apart);
      }

pub sound : (l : List ℕ) → fit l ≡ true → Sound (counts_in l) l
sound l h = sound_whole (counts_of l) l (whole_open l h)
