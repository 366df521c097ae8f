-- What raise and show makes of the stable vector.
-- Assumes nothing.
use Prim.Native.Nat.{ℕ, ◌+◌, ◌<◌, max}
use native.Mathlib.Omega.{arith}
use mathlib.Core.Path.{◌≡◌, ◌∙◌}
use mathlib.Core.List.{List}
use lib.ListN.{length, get_or}
use Rattle.order.specs.Vector.{Vec}
use Rattle.order.proofs.VectorLaws.{merged_entry, merged_own}
use Rattle.book.specs.Layout.{stable_at, stable}
use Rattle.shelf.specs.Show.{settled}
use Rattle.shelf.proofs.ShowFrame.{Ready, shown_off, raised_ready}
use Rattle.shelf.proofs.ShownLaws.{raised_book}

module _ (n d s : ℕ) (offered : Vec) (l : List ℕ) (full : length l ≡ 16384) (R : Ready n d s l) where
  -- the stable vector is the raised one, and its own entry stays
  pub settled_word : (x : ℕ) → x < 4 → get_or (settled n d s offered l) (stable_at d s + x) 0 ≡ get_or (raised_book n d s offered l) (stable_at d s + x) 0
  unfolding settled
  settled_word x k =
      let a = R.depots in
      let b = R.depot in
      let c = R.shelf in
      shown_off n d s (raised_book n d s offered l) (raised_ready n d s offered l R) (stable_at d s + x) (λ from y z. (omega arith, omega arith)) (omega arith)

  pub settled_raised : (x : ℕ) → x < n → (x ≡ d → ⊥) → stable (settled n d s offered l) d s x ≡ max (stable l d s x) (offered x)
  settled_raised x k f =
      let a = R.depots in
      let b = R.depot in
      let c = R.shelf in
      settled_word x (omega arith) ∙ merged_entry n d offered (stable_at d s) l (rw full (omega arith)) x k f

  pub settled_own : stable (settled n d s offered l) d s d ≡ stable l d s d
  settled_own = settled_word d R.depot ∙ merged_own n d offered (stable_at d s) l
