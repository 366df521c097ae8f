-- Taking on the words is taking in the model: the stamp seen becomes the message's; a copy is the last of the taken, a heartbeat leaves the link.
-- Assumes nothing.
use Prim.Native.Nat.{ℕ, ◌+◌, ◌≤◌, ◌<◌}
use native.Mathlib.Nat.{le_refl}
use native.Mathlib.Omega.{arith}
use mathlib.Core.Path.{◌≡◌, refl, sym, ◌∙◌, ap, fun_ext, subst}
use mathlib.Core.Logic.{⊎_elim}
use mathlib.Core.Bool.{true, false}
use mathlib.Core.List.{List, [], ◌∷◌, ◌++◌, map, append-nil}
use lib.Dec.{eqb}
use lib.ListN.{length, get_or}
use borrow.Author.Tests.{eq-eqb, ne_eqb, eqb-true, eqb-false}
use Rattle.loops.specs.Loops.{pick}
use Rattle.loops.proofs.BoolLaws.{decided, pick_true, pick_false, eq_or_ne}
use Rattle.book.specs.Layout.{seen_at, clock_at, stable_at, link_of, held_at, slot_at, seen, held, taken, slot, copy_kind, beat_kind, kind_of, beat_of, record_of}
use Rattle.links.specs.Send.{stamp_from, took}
use Rattle.links.proofs.SendFrame.{length_took, took_off}
use Rattle.shelf.proofs.ShowLaws.{taken_slots}
use Rattle.links.proofs.TookLaws.{took_copies, took_waiting, took_seen}
use Rattle.model.specs.Parts.{Counts, Write, Message, copy, heartbeat, put, other, set_shelf, stamp_of}
use Rattle.model.specs.Rules.{held_of, taking}
use Rattle.model.proofs.Places.{Other, other_true, other_intro}
use Rattle.bridge.specs.View.{write_of, message_of, taken_on, untaken_on, shelf_at, view_by}
use Rattle.bridge.proofs.Basics.{pick_then, same_entries, shelf_path}
use Rattle.bridge.proofs.Sound.{Sound, SoundLink, Carried}
use Rattle.bridge.proofs.Looks.{taken_here, untaken_here}
use Rattle.bridge.proofs.Kept.{LinkKept, store_kept}
use Rattle.bridge.proofs.Decoded.{version_entry, version_origin, map_snoc, taken_decoded, untaken_decoded}
use Rattle.bridge.proofs.Moved.{OffShelf, view_moved, taken_put, untaken_put}

module _ (π : Counts) (l : List ℕ) (S : Sound π l) (d s from : ℕ) (kd : d < π.depots) (ks : s < π.shelves) (kf : Other π.depots d from)
    (some : taken l (link_of s from d) < held l (link_of s from d)) where
  abbrev q : ℕ
  q = link_of s from d

  abbrev h : ℕ
  h = held l q

  abbrev t : ℕ
  t = taken l q

  L : SoundLink π l s from q
  L = S.links s from d ks kf.below kd kf.apart

  m : List ℕ
  m = slot l q t

  msg : Message
  msg = message_of π.depots m

  -- ---- the message

  beat_decoded : kind_of m ≡ beat_kind → msg ≡ heartbeat (beat_of m)
  unfolding msg message_of
  beat_decoded e = pick_true _ _ (eq-eqb _ _ e)

  copy_decoded : (kind_of m ≡ beat_kind → ⊥) → msg ≡ copy (write_of π.depots (record_of m))
  unfolding msg message_of
  copy_decoded e = pick_false _ _ (ne_eqb _ _ e)

  is_copy : (kind_of m ≡ beat_kind → ⊥) → Carried π s from (record_of m)
  unfolding m
  is_copy e =
      ⊎_elim
      (λ (b : kind_of (slot l q t) ≡ beat_kind). absurd (e b))
      (λ (c : (kind_of (slot l q t) ≡ copy_kind) × Carried π s from (record_of (slot l q t))). c.1)
      (L.messages t (le_refl t) some)

  stamp_decoded : stamp_of msg ≡ stamp_from from m
  unfolding stamp_of stamp_from write_of
  stamp_decoded =
      ⊎_elim
      (λ (e : kind_of m ≡ beat_kind). ap stamp_of (beat_decoded e) ∙ sym (pick_true _ _ (eq-eqb _ _ e)))
      (λ (e : kind_of m ≡ beat_kind → ⊥).
      let c = is_copy e in
      ap stamp_of (copy_decoded e)
      ∙ ap (λ (x : ℕ). (write_of π.depots (record_of m)).version.vector x) (version_origin π.depots (record_of m) c.written ∙ c.origin)
      ∙ version_entry π.depots (record_of m) from kf.below
      ∙ sym (pick_false _ _ (ne_eqb _ _ e)))
      (eq_or_ne (kind_of m) beat_kind)

  -- ---- the link

  v : List ℕ
  v = took d s from l

  size : length v ≡ length l
  unfolding v
  size = length_took d s from l

  hd : d < 4
  hd = let a = S.small.depots in omega arith

  hs : s < 4
  hs = let a = S.small.shelves in omega arith

  hf : from < 4
  hf = let a = S.small.depots in let b = kf.below in omega arith

  untaken_first : untaken_on π.depots l q ≡ msg ∷ untaken_on π.depots v q
  unfolding msg m v
  untaken_first =
      untaken_decoded π.depots l q
      ∙ ap (map (message_of π.depots)) (took_waiting d s from l hd hs hf S.full L.few some)
      ∙ ap (λ (x : List Message). message_of π.depots (slot l q t) ∷ x) (sym (untaken_decoded π.depots v q))

  takens : taken_on π.depots v q ≡ taken_on π.depots l q ++ held_of msg
  unfolding held_of m v
  takens =
      taken_decoded π.depots v q
      ∙ ap (map copied) (took_copies d s from l hd hs hf S.full L.few some)
      ∙ ⊎_elim
      (λ (e : kind_of (slot l q t) ≡ beat_kind).
      ap (map copied) (pick_true _ _ (eq-eqb _ _ e)) ∙ sym (taken_decoded π.depots l q) ∙ sym (append-nil (taken_on π.depots l q))
      ∙ ap (λ (x : Message). taken_on π.depots l q ++ held_of x) (sym (beat_decoded e)))
      (λ (e : kind_of (slot l q t) ≡ beat_kind → ⊥).
      ap (map copied) (pick_false _ _ (ne_eqb _ _ e)) ∙ map_snoc copied (taken_slots l q) (slot l q t)
      ∙ ap (λ (x : List Write). x ++ (copied (slot l q t) ∷ [])) (sym (taken_decoded π.depots l q))
      ∙ ap (λ (x : Message). taken_on π.depots l q ++ held_of x) (sym (copy_decoded e)))
      (eq_or_ne (kind_of (slot l q t)) beat_kind)
    where
      copied : List ℕ → Write
      copied x = write_of π.depots (record_of x)

  -- ---- the shelf

  off : (j : ℕ) → OffShelf d s j → get_or v j 0 ≡ get_or l j 0
  unfolding v
  off j o =
      let a = S.small.depots in let b = S.small.shelves in let c = kf.below in let f = L.few in
      took_off d s from l j some (λ e. o.seen (omega arith) (omega arith)) (λ x y. o.slots from (omega arith) (omega arith) (omega arith)) (o.heads from (omega arith))

  same : (j : ℕ) → (j ≡ seen_at d s + from → ⊥) → (held_at q ≤ j → j < held_at q + 2 → ⊥) → (slot_at q 0 ≤ j → j < slot_at q 0 + 160 → ⊥) → get_or v j 0 ≡ get_or l j 0
  unfolding v
  same j x y z = let f = L.few in took_off d s from l j some x (λ a b. z (omega arith) (omega arith)) y

  taking_here : shelf_at π v d s ≡ taking from (msg ∷ untaken_on π.depots v q) (shelf_at π l d s)
  unfolding taking shelf_at
  taking_here =
      let a = S.small.depots in let b = S.small.shelves in let c = kf.below in let f = L.few in
      let kept : (x : ℕ) → Other π.depots d x → (x ≡ from → ⊥) → LinkKept l v (link_of s x d)
      = (λ x k e. let g = k.below in record { head = λ j p r. same j (omega arith) (omega arith) (omega arith); slots = λ j p r. same j (omega arith) (omega arith) (omega arith) }) in
      shelf_path
      (same (clock_at d s) (omega arith) (omega arith) (omega arith))
      (same_entries π.depots l v (stable_at d s) (λ j x y. same j (omega arith) (omega arith) (omega arith)))
      seens
      (store_kept π l v size d s S.small.bearings (λ j x y. same j (omega arith) (omega arith) (omega arith)))
      (taken_put π l v size S d s from kd ks kf kept _ (takens ∙ ap (λ (x : List Write). x ++ held_of msg) (sym (taken_here π l d s from kf))))
      (untaken_put π l v size S d s from kd ks kf kept _ refl)
    where
      stamped : get_or v (seen_at d s + from) 0 ≡ stamp_from from m
      stamped = unfold v m in took_seen d s from l hd hs hf S.full L.few some

      seens : (λ (x : ℕ). pick (other π.depots d x) (seen v d s x) 0) ≡ put from (stamp_of msg) (λ x. pick (other π.depots d x) (seen l d s x) 0)
      seens = unfold put in fun_ext λ x.
          ⊎_elim
          (λ (e : eqb x from ≡ true).
          subst (λ (y : ℕ). pick (other π.depots d y) (seen v d s y) 0 ≡ stamp_of msg) (sym (eqb-true x from e)) (pick_true _ _ (other_intro kf) ∙ stamped ∙ sym stamp_decoded)
          ∙ sym (pick_true _ _ e))
          (λ (e : eqb x from ≡ false).
          pick_then (other π.depots d x) 0
          (λ t. let a = S.small.depots in let b = S.small.shelves in let c = kf.below in let k = (other_true π.depots d x t).below in let n = eqb-false x from e in
          same (seen_at d s + x) (omega arith) (omega arith) (omega arith))
          ∙ sym (pick_false _ _ e))
          (decided (eqb x from))

  pub took_view : view_by π (took d s from l) ≡ set_shelf d s (taking from ((shelf_at π l d s).untaken from) (shelf_at π l d s)) (view_by π l)
  unfolding v
  took_view =
      view_moved π l v size S d s kd ks off _
      (λ r e. let a = S.small.depots in let b = S.small.shelves in let c = kf.below in let f = L.few in
      store_kept π l v size d r S.small.bearings (λ j x y. same j (omega arith) (omega arith) (omega arith)))
      (taking_here ∙ ap (λ (u : List Message). taking from u (shelf_at π l d s)) (sym (untaken_here π l d s from kf ∙ untaken_first)))

  pub took_below : (j : ℕ) → j < 84 → get_or (took d s from l) j 0 ≡ get_or l j 0
  unfolding v
  took_below j k = same j (omega arith) (omega arith) (omega arith)
