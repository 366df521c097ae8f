-- Sending on the words is sending in the model: the clock stands at the new stamp, and every link out has the message last.
-- Assumes nothing.
use Prim.Native.Nat.{ℕ, suc, ◌≤◌, ◌<◌}
use native.Mathlib.Nat.{le_of_eq, le_trans}
use native.Mathlib.Omega.{arith}
use mathlib.Core.Path.{◌≡◌, sym, ◌∙◌, ap, fun_ext, subst}
use mathlib.Core.Logic.{⊎_elim}
use mathlib.Core.Bool.{◌&&◌}
use mathlib.Core.List.{List, [], ◌∷◌, ◌++◌, map}
use lib.Dec.{ltb}
use lib.ListN.{length, get_or}
use borrow.Author.Tests.{ltb-true}
use Rattle.loops.proofs.BoolLaws.{and_left, and_right, eq_or_ne}
use Rattle.book.specs.Layout.{clock_at, stable_at, link_of, clock, held, taken, record_of}
use Rattle.links.specs.Send.{sent}
use Rattle.links.proofs.SendFrame.{OffOut, Free, length_sent, sent_off}
use Rattle.shelf.proofs.ShowLaws.{untaken_slots}
use Rattle.links.proofs.SentLaws.{sent_clock, sent_copies, sent_waiting}
use Rattle.model.specs.Parts.{Counts, Message, Shelf, other, empty_shelf, set_shelf}
use Rattle.model.specs.Rules.{ticked, receiving, emit, send}
use Rattle.model.proofs.Places.{Other, other_true, put_other, set_shelf_all, emit_all}
use Rattle.bridge.specs.View.{write_of, message_of, taken_on, untaken_on, shelf_at, view_by}
use Rattle.bridge.proofs.Basics.{pick_then, same_entries, shelf_path, state_path}
use Rattle.bridge.proofs.Sound.{Sound}
use Rattle.bridge.proofs.Looks.{shelf_here, untaken_here}
use Rattle.bridge.proofs.Kept.{taken_on_kept, store_kept, seen_kept, shelf_kept, links_kept, crews_kept, homes_kept}
use Rattle.bridge.proofs.Moved.{untaken_put}
use Rattle.bridge.proofs.Decoded.{map_snoc, taken_decoded, untaken_decoded}

module _ (π : Counts) (l : List ℕ) (S : Sound π l) (d s stamp : ℕ) (m : List ℕ) (ten : length m ≡ 10) (kd : d < π.depots) (ks : s < π.shelves)
    (room : (to : ℕ) → to < π.depots → (to ≡ d → ⊥) → held l (link_of s d to) < 16) where
  free : Free π.depots d s l
  free = let a = S.small.depots in let b = S.small.shelves in record { depots = a; depot = omega arith; shelf = omega arith; room = room }

  short : length m ≤ 10
  short = le_of_eq ten

  v : List ℕ
  v = sent π.depots d s stamp m l

  size : length v ≡ length l
  unfolding v
  size = length_sent π.depots d s stamp m l

  same : (j : ℕ) → (j ≡ clock_at d s → ⊥) → OffOut π.depots d s l j → get_or v j 0 ≡ get_or l j 0
  unfolding v
  same = sent_off π.depots d s stamp m l short free

  -- ---- the link to depot e

  module _ (e : ℕ) (ke : e < π.depots) (apart : e ≡ d → ⊥) where
    ordered : taken l (link_of s d e) ≤ held l (link_of s d e)
    ordered = (S.links s d e ks kd ke (λ x. apart (sym x))).order

    taken_sent : taken_on π.depots v (link_of s d e) ≡ taken_on π.depots l (link_of s d e)
    unfolding v
    taken_sent =
        taken_decoded π.depots v (link_of s d e)
        ∙ ap (map (λ m. write_of π.depots (record_of m))) (sent_copies π.depots d s stamp m l ten S.full free e ke apart ordered)
        ∙ sym (taken_decoded π.depots l (link_of s d e))

    untaken_sent : untaken_on π.depots v (link_of s d e) ≡ untaken_on π.depots l (link_of s d e) ++ (message_of π.depots m ∷ [])
    unfolding v
    untaken_sent =
        untaken_decoded π.depots v (link_of s d e)
        ∙ ap (map (message_of π.depots)) (sent_waiting π.depots d s stamp m l ten S.full free e ke apart ordered)
        ∙ map_snoc (message_of π.depots) (untaken_slots l (link_of s d e)) m
        ∙ ap (λ (x : List Message). x ++ (message_of π.depots m ∷ [])) (sym (untaken_decoded π.depots l (link_of s d e)))

  -- ---- the shelves

  -- a shelf of another depot has the message last on its link
  received : (e : ℕ) → Other π.depots d e → shelf_at π v e s ≡ receiving d (message_of π.depots m) (shelf_at π l e s)
  unfolding receiving shelf_at
  received e k =
      let a = S.small.depots in
      let b = S.small.shelves in
      let c = k.below in
      let f = k.apart in
      let k' : Other π.depots e d = record { below = kd; apart = λ x. f (sym x) } in
      shelf_path
      (same (clock_at e s) (omega arith) (λ x y z. omega arith))
      (same_entries π.depots l v (stable_at e s) (λ j x y. same j (omega arith) (λ to z g. omega arith)))
      (seen_kept π l v size e s a (λ j x y. same j (omega arith) (λ to z g. omega arith)))
      (store_kept π l v size e s S.small.bearings (λ j x y. same j (omega arith) (λ to z g. let r = room to z g in omega arith)))
      (fun_ext λ o. pick_then (other π.depots e o) [] λ t. let ko = other_true π.depots e o t in takens o ko)
      (untaken_put π l v size S e s d k.below ks k' (λ x kx y. let g = kx.below in record {
        head = λ j p r. same j (omega arith) (λ to z g. omega arith);
        slots = λ j p r. same j (omega arith) (λ to z g. let w = room to z g in omega arith);
      }) _
      (untaken_sent e k.below k.apart ∙ ap (λ (x : List Message). x ++ (message_of π.depots m ∷ [])) (sym (untaken_here π l e s d k'))))
    where
      takens : (o : ℕ) → Other π.depots e o → taken_on π.depots v (link_of s o e) ≡ taken_on π.depots l (link_of s o e)
      takens o ko =
          ⊎_elim
          (λ (w : o ≡ d). subst (λ (x : ℕ). taken_on π.depots v (link_of s x e) ≡ taken_on π.depots l (link_of s x e)) (sym w) (taken_sent e k.below k.apart))
          (λ (w : o ≡ d → ⊥).
          let a = S.small.depots in let b = S.small.shelves in let c = k.below in let g = ko.below in
          let L = S.links s o e ks ko.below k.below ko.apart in
          taken_on_kept π.depots l v size (link_of s o e) (record {
            head = λ j p r. same j (omega arith) (λ to z f. omega arith);
            slots = λ j p r. same j (omega arith) (λ to z f. let u = room to z f in omega arith);
          }) (le_trans L.order L.few))
          (eq_or_ne o d)

  -- the sending shelf has its clock moved on
  clocked : stamp ≡ suc (clock l d s) → shelf_at π v d s ≡ ticked (shelf_at π l d s)
  unfolding ticked shelf_at v
  clocked e =
      let a = S.small.depots in
      let b = S.small.shelves in
      let t = links_kept π l v size d s (λ o k. let c = k.below in let f = k.apart in let L = S.links s o d ks k.below kd k.apart in (
        record {
          head = λ j p r. same j (omega arith) (λ to z g. omega arith);
          slots = λ j p r. same j (omega arith) (λ to z g. let w = room to z g in omega arith);
        },
        L.few,
        L.order,
      )) in
      shelf_path
      (sent_clock π.depots d s stamp m l ten S.full free ∙ e)
      (same_entries π.depots l v (stable_at d s) (λ j x y. same j (omega arith) (λ to z g. omega arith)))
      (seen_kept π l v size d s a (λ j x y. same j (omega arith) (λ to z g. omega arith)))
      (store_kept π l v size d s S.small.bearings (λ j x y. same j (omega arith) (λ to z g. let r = room to z g in omega arith)))
      t.0 t.1

  -- every other shelf stays
  stays : (e r : ℕ) → e < π.depots → r < π.shelves → ((e ≡ d) × (r ≡ s) → ⊥) → (Other π.depots d e → r ≡ s → ⊥) → shelf_at π v e r ≡ shelf_at π l e r
  stays e r ke kr apart unsent =
      let a = S.small.depots in
      let b = S.small.shelves in
      let g : r ≡ s → ⊥ = (λ x. ⊎_elim (λ (y : e ≡ d). apart (y, x)) (λ (y : e ≡ d → ⊥). unsent (record { below = ke; apart = y }) x) (eq_or_ne e d)) in
      shelf_kept π l v size e r a
      (record { clock = same _ (omega arith) (λ x y z. omega arith); stable = λ j x y. same j (omega arith) (λ to z g. omega arith); seen = λ j x y. same j (omega arith) (λ to z g. omega arith) })
      (store_kept π l v size e r S.small.bearings (λ j x y. same j (omega arith) (λ to z g. let r = room to z g in omega arith)))
      (λ o k. let c = k.below in let L = S.links r o e kr k.below ke k.apart in (
        record {
          head = λ j p q. same j (omega arith) (λ to z h. omega arith);
          slots = λ j p q. same j (omega arith) (λ to z h. let w = room to z h in omega arith);
        },
        L.few,
        L.order,
      ))

  -- ---- the whole

  pub sent_view : stamp ≡ suc (clock l d s) → view_by π (sent π.depots d s stamp m l) ≡ send π d s (message_of π.depots m) (view_by π l)
  unfolding v send emit set_shelf
  sent_view e =
      let σ = view_by π l in
      let msg = message_of π.depots m in
      let τ = set_shelf d s (ticked (σ.shelf d s)) σ in
      state_path
      (emit_all π (λ f r g. (view_by π v).shelf f r ≡ g) d s msg τ
      (λ f k.
      shelf_here π v f s k.below ks ∙ received f k
      ∙ ap (receiving d msg) (sym (elsewhere f k ∙ shelf_here π l f s k.below ks)))
      (λ f r.
      set_shelf_all (λ f r g. (Other π.depots d f → r ≡ s → ⊥) → (view_by π v).shelf f r ≡ g) d s (ticked (σ.shelf d s)) σ
      (λ unsent. shelf_here π v d s kd ks ∙ clocked e ∙ ap ticked (sym (shelf_here π l d s kd ks)))
      (λ f r apart unsent. kept f r apart unsent) f r))
      (crews_kept π l v size S.small.depots S.small.crews (λ j x y. same j (omega arith) (λ to z g. omega arith)))
      (homes_kept π l v size S.small.crews (λ j x y. same j (omega arith) (λ to z g. omega arith)))
    where
      elsewhere : (f : ℕ) → Other π.depots d f → (set_shelf d s (ticked ((view_by π l).shelf d s)) (view_by π l)).shelf f s ≡ (view_by π l).shelf f s
      elsewhere f k = ap (λ (g : ℕ → Shelf). g s) (put_other d _ _ f k.apart)

      kept : (f r : ℕ) → ((f ≡ d) × (r ≡ s) → ⊥) → (Other π.depots d f → r ≡ s → ⊥) → (view_by π v).shelf f r ≡ (view_by π l).shelf f r
      kept f r apart unsent = unfold view_by in
          pick_then (ltb f π.depots && ltb r π.shelves) empty_shelf λ t.
          stays f r (ltb-true f _ (and_left (ltb f π.depots) _ t)) (ltb-true r _ (and_right (ltb f π.depots) _ t)) apart unsent

  -- the counts, homes and crews stay
  pub sent_below : (j : ℕ) → j < 84 → get_or (sent π.depots d s stamp m l) j 0 ≡ get_or l j 0
  unfolding v
  sent_below j k = same j (omega arith) λ to z g. omega arith
