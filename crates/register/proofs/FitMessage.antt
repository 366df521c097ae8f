-- What a fit message, a fit copy and a fit version say, and when a record may be stored.
-- Assumes nothing.
use Prim.Native.Nat.{ℕ, ◌%◌, ◌≤◌, ◌<◌}
use native.Mathlib.Omega.{arith}
use mathlib.Core.Path.{◌≡◌, sym, subst}
use mathlib.Core.Logic.{◌⊎◌, inl, inr, ⊎_elim}
use mathlib.Core.List.{List}
use mathlib.Core.Bool.{true, ◌&&◌}
use lib.Dec.{ltb, eqb}
use borrow.Author.Tests.{leb-true, le-leb, ltb-true, lt-ltb, eqb-true, eq-eqb, ne_eqb}
use Rattle.order.specs.Vector.{zeros}
use Rattle.order.specs.Record.{bearing_of, diameter_of, width_of, origin_of, vector_of}
use Rattle.card.specs.Card.{card_fit}
use Rattle.loops.proofs.BoolLaws.{and_left, and_right, and_intro, or_cases, or_left, or_right, pick_true, pick_false}
use Rattle.loops.proofs.LoopLaws.{every_at, every_intro}
use Rattle.order.proofs.VectorLaws.{zeros_at}
use Rattle.book.specs.declared.parts.Counts.{Counts}
use Rattle.book.specs.Layout.{end, copy_kind, beat_kind, kind_of, beat_of, record_of}
use Rattle.fit.specs.Fit.{in_range, version_fit, carried_fit, copy_fit, beat_fit, message_fit, kept_fit}
use Rattle.links.specs.Send.{stamp_from}
use Rattle.register.proofs.FitParts.{IsCopy, IsMessage}

pub record VersionOk (n : Counts) (r : List ℕ) : Type 0 where
  pub entries : (x : ℕ) → x < n.depots → vector_of r x ≤ end
  pub origin : origin_of r < n.depots
  pub stamp : 0 < vector_of r (origin_of r)
  pub card : card_fit (diameter_of r) (width_of r) ≡ true

pub version_open : (n : Counts) (r : List ℕ) → version_fit n r ≡ true → VersionOk n r
unfolding version_fit in_range
version_open n r h =
    let h1 = and_right (in_range n.depots (vector_of r)) _ h in
    let h2 = and_right (ltb (origin_of r) n.depots) _ h1 in
    record {
      entries = λ x k. leb-true _ _ (every_at n.depots _ (and_left (in_range n.depots (vector_of r)) _ h) x k);
      origin = ltb-true _ _ (and_left (ltb (origin_of r) n.depots) _ h1);
      stamp = ltb-true _ _ (and_left (ltb 0 (vector_of r (origin_of r))) _ h2);
      card = and_right (ltb 0 (vector_of r (origin_of r))) _ h2;
    }

pub version_close : (n : Counts) (r : List ℕ) → VersionOk n r → version_fit n r ≡ true
unfolding version_fit in_range
version_close n r h =
    and_intro (every_intro n.depots _ (λ x k. le-leb _ _ (h.entries x k))) (and_intro (lt-ltb _ _ h.origin) (and_intro (lt-ltb 0 _ h.stamp) h.card))

pub record CopyOk (n : Counts) (s from : ℕ) (m : List ℕ) : Type 0 where
  pub kind : kind_of m ≡ copy_kind
  pub version : VersionOk n (record_of m)
  pub origin : origin_of (record_of m) ≡ from
  pub bearing : bearing_of (record_of m) < n.bearings
  pub shelf : bearing_of (record_of m) % n.shelves ≡ s

pub copy_open : (n : Counts) (s from : ℕ) (m : List ℕ) → IsCopy n s from m → CopyOk n s from m
unfolding copy_fit carried_fit
copy_open n s from m h =
    let h1 = and_right (eqb (kind_of m) copy_kind) _ h in
    let h2 = and_right (version_fit n (record_of m)) _ h1 in
    let h3 = and_right (eqb (origin_of (record_of m)) from) _ h2 in
    record {
      kind = eqb-true _ _ (and_left (eqb (kind_of m) copy_kind) _ h);
      version = version_open n (record_of m) (and_left (version_fit n (record_of m)) _ h1);
      origin = eqb-true _ _ (and_left (eqb (origin_of (record_of m)) from) _ h2);
      bearing = ltb-true _ _ (and_left (ltb (bearing_of (record_of m)) n.bearings) _ h3);
      shelf = eqb-true _ _ (and_right (ltb (bearing_of (record_of m)) n.bearings) _ h3);
    }

pub copy_close : (n : Counts) (s from : ℕ) (m : List ℕ) → CopyOk n s from m → IsCopy n s from m
unfolding copy_fit carried_fit
copy_close n s from m h =
    and_intro (eq-eqb _ _ h.kind)
    (and_intro (version_close n (record_of m) h.version) (and_intro (eq-eqb _ _ h.origin) (and_intro (lt-ltb _ _ h.bearing) (eq-eqb _ _ h.shelf))))

pub copy_message : (n : Counts) (s from : ℕ) (m : List ℕ) → IsCopy n s from m → IsMessage n s from m
unfolding message_fit
copy_message n s from m h = or_right (beat_fit m) _ h

pub beat_message : (n : Counts) (s from : ℕ) (m : List ℕ) → kind_of m ≡ beat_kind → beat_of m ≤ end → IsMessage n s from m
unfolding message_fit beat_fit
beat_message n s from m e h = or_left (beat_fit m) _ (and_intro (eq-eqb _ _ e) (le-leb _ _ h))

-- a fit message is a heartbeat with its stamp in range, or a fit copy
pub message_cases : (n : Counts) (s from : ℕ) (m : List ℕ) → IsMessage n s from m → ((kind_of m ≡ beat_kind) × (beat_of m ≤ end)) ⊎ CopyOk n s from m
unfolding message_fit beat_fit
message_cases n s from m h =
    ⊎_elim
    (λ (b : beat_fit m ≡ true). inl (eqb-true _ _ (and_left (eqb (kind_of m) beat_kind) _ b), leb-true _ _ (and_right (eqb (kind_of m) beat_kind) _ b)))
    (λ (c : copy_fit n s from m ≡ true). inr (copy_open n s from m c))
    (or_cases (beat_fit m) _ h)

-- its stamp is in range
pub stamp_range : (n : Counts) (s from : ℕ) (m : List ℕ) → from < n.depots → IsMessage n s from m → stamp_from from m ≤ end
unfolding stamp_from
stamp_range n s from m k h =
    ⊎_elim
    (λ (b : (kind_of m ≡ beat_kind) × (beat_of m ≤ end)). subst (λ (x : ℕ). x ≤ end) (sym (pick_true _ _ (eq-eqb _ _ b.0))) b.1)
    (λ (c : CopyOk n s from m).
    subst (λ (x : ℕ). x ≤ end) (sym (pick_false _ _ (ne_eqb (kind_of m) beat_kind (λ e. let z = c.kind in omega arith)))) (c.version.entries from k))
    (message_cases n s from m h)

-- a version may be stored at its bearing
pub version_kept : (n : Counts) (k : ℕ) (r : List ℕ) → VersionOk n r → bearing_of r ≡ k → kept_fit n k r ≡ true
unfolding kept_fit
version_kept n k r h e = or_right (zeros n.depots (vector_of r)) _ (and_intro (version_close n r h) (eq-eqb _ _ e))

-- what is stored has its entries in range
pub kept_range : (n : Counts) (k : ℕ) (r : List ℕ) → kept_fit n k r ≡ true → (x : ℕ) → x < n.depots → vector_of r x ≤ end
unfolding kept_fit
kept_range n k r h x z =
    ⊎_elim
    (λ (e : zeros n.depots (vector_of r) ≡ true). let a = zeros_at n.depots (vector_of r) e x z in omega arith)
    (λ (e : version_fit n r && eqb (bearing_of r) k ≡ true). (version_open n r (and_left (version_fit n r) _ e)).entries x z)
    (or_cases (zeros n.depots (vector_of r)) _ h)
