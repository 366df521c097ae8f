-- The invariant and the growth of every history do not look at the counts.
-- Assumes nothing.
use Prim.Native.Nat.{ℕ}
use mathlib.Core.Path.{◌≡◌}
use mathlib.Core.List.{List}
use Rattle.order.proofs.VectorLaws.{covered_intro}
use Rattle.model.specs.Parts.{Counts, room}
use Rattle.model.specs.Rules.{holds}
use Rattle.model.specs.Calls.{setup}
use Rattle.model.specs.Everywhere.{Everywhere}
use Rattle.model.proofs.Refusals.{SetUp, setting_up}
use Rattle.model.proofs.Histories.{inv, history_grows}
use Rattle.model.proofs.Limits.{history_fits}

pub everywhere : (π : Counts) (homes : List ℕ) → setup π homes ≡ 0 → Everywhere π homes
unfolding holds room
everywhere π homes e = record {
  hidden = λ h d s k hd hs. covered_intro π.depots d _ _ (λ x hx n. ((inv π homes u h).sound.shelf d s hd hs).covers k x (record { below = hx; apart = n }));
  not_invented = λ h d s k hd hs. ((inv π homes u h).sound.shelf d s hd hs).stores k;
  crew_rises = λ l h c x. (history_grows π homes u l h).crew c x;
  store_rises = λ l h d s k. ((history_grows π homes u l h).store d s k).holds;
  stable_rises = λ l h d s x. (history_grows π homes u l h).stable d s x;
  seen_rises = λ l h d s x. (history_grows π homes u l h).seen d s x;
  clock_rises = λ l h d s. (history_grows π homes u l h).clock d s;
  links = λ h d s o. (history_fits π homes h d s).links o;
  own = λ h d s. (history_fits π homes h d s).own;
}
  where
    u : SetUp π homes
    u = setting_up π homes e
