-- Recovery's promise tells what is left.
-- Assumes nothing.
use Prim.Native.Nat.{ℕ, ◌≤◌}
use mathlib.Core.Path.{◌≡◌, ◌∙◌, ap₂}
use mathlib.Core.List.{List, [], ◌∷◌}
use lib.ListN.{length}
use Rattle.book.specs.Words.{put}
use Rattle.room.proofs.RoomLaws.{with_room}
use Rattle.recovery.specs.declared.Recovered as answer
use Rattle.recovery.specs.Promises.{Recovery}
use Rattle.recovery_told.specs.Told.{recovered_counts, left, left_by}

pub recovered_left :
    {l f l' : List ℕ} {a : answer.Recovered} (o : List ℕ) {o' : List ℕ} → recovered_counts ≤ length o → Recovery l f a l' → o' ≡ put o 0 (a.done ∷ a.bytes ∷ []) →
    left a.end l' o' ≡ left_by f l o
unfolding left_by
recovered_left o h p q =
    let n = p.end in
    let b = p.book in
    let w = q ∙ ap₂ (λ (x y : ℕ). put o 0 (x ∷ y ∷ [])) p.done p.bytes in
    (λ i. left (n i) (b i) (w i)) ∙ with_room _ _ _ _ h
