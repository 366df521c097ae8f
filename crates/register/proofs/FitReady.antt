-- What a fit book has ready for a call: links that may be shown, and room on the links out, before a write and after its store.
-- Assumes nothing.
use Prim.Native.Nat.{ℕ, ◌+◌, ◌%◌, ◌≤◌, ◌<◌}
use native.Mathlib.Nat.{zero-add, mod-lt}
use native.Mathlib.Omega.{arith}
use mathlib.Core.Path.{◌≡◌, sym, ◌∙◌, subst}
use mathlib.Core.Logic.{⊎_elim}
use mathlib.Core.List.{List}
use mathlib.Core.Bool.{true}
use lib.Dec.{eqb, ltb}
use lib.Seq.{get_or-set_other}
use borrow.Author.Tests.{eqb-true, ltb-true, ne_eqb}
use Rattle.loops.proofs.BoolLaws.{and_left, and_right, or_cases, or_next}
use Rattle.loops.proofs.LoopLaws.{every_at}
use Rattle.book.specs.declared.parts.Counts.{Counts}
use Rattle.book.specs.Layout.{crew_at, held_at, counts_of, home, crew_vector, link_of, held, taken, slot}
use Rattle.fit.specs.Fit.{Within, crew_fit, stable_fit, link_fit, stored_fit}
use Rattle.named.specs.Named.{arrival_fit, show_fit, home_parts, read_parts, write_parts}
use Rattle.named.proofs.NamedLaws.{Based, base_open, write_based, write_named}
use Rattle.shelf.specs.Asks.{Sound, Ready, Free}
use Rattle.shelf.specs.Show.{kept_in}
use Rattle.links.specs.Send.{roomy}
use Rattle.shelf.proofs.FrameLaws.{kept_in_low}
use Rattle.shelf.proofs.AllLaws.{all_slots_at}
use Rattle.shelf.proofs.ShowLaws.{taken_slots}
use Rattle.shelf.proofs.ShowFrame.{settled_off}
use Rattle.paper.specs.declared.answer.Payload.{Payload}
use Rattle.register.specs.Table.{shelf_of}
use Rattle.register.specs.Calls.{settled_home, new_stamp, made_record, written_crew}
use Rattle.register.proofs.Numbers.{WriteDone}
use Rattle.register.proofs.FitParts.{IsCopy, LinkOk, Whole, link_open}
use Rattle.register.proofs.FitMessage.{copy_open}

-- a fit link is sound
pub link_sound : (n : Counts) (l : List ℕ) (s from q : ℕ) → n.bearings ≤ 160 → LinkOk n l s from q → Sound l q
unfolding taken_slots
link_sound n l s from q small h =
    record {
      room = h.room;
      first = h.first;
      bearings = λ i k.
          let c = copy_open n s from (slot l q i) (subst (λ (j : ℕ). IsCopy n s from (slot l q j)) (zero-add i) (all_slots_at (IsCopy n s from) l q 0 (taken l q) h.copies i k)) in
          let b = c.bearing in
          omega arith;
    }

pub whole_ready : (n : Counts) (l : List ℕ) → Whole n l → (d s : ℕ) → d < n.depots → s < n.shelves → Ready n.depots d s l
whole_ready n l W d s hd hs =
    let a = W.within.depots in
    let b = W.within.shelves in
    record {
      depots = a;
      depot = omega arith;
      shelf = omega arith;
      links = λ from k f. link_sound n l s from (link_of s from d) W.within.bearings (W.parts.links s from d hs k hd f);
    }

-- the same, of the parts that raise and show touches
pub show_ready : (n : Counts) (l : List ℕ) → Within n → (d s : ℕ) → d < n.depots → s < n.shelves → show_fit n l d s ≡ true → Ready n.depots d s l
unfolding show_fit arrival_fit
show_ready n l W d s hd hs h =
    let a = W.depots in
    let b = W.shelves in
    record {
      depots = a;
      depot = omega arith;
      shelf = omega arith;
      links = λ from k f.
          link_sound n l s from (link_of s from d) W.bearings
          (link_open n l s from (link_of s from d)
          (and_left (link_fit n l s from (link_of s from d)) _
          (sym (or_next (arrival_fit n l d s from) (ne_eqb from d f)) ∙ every_at n.depots _ (and_right (stable_fit n l d s) _ h) from k)));
    }

-- room on every link out
pub roomy_free : (n : Counts) (l : List ℕ) → Within n → (d s : ℕ) → d < n.depots → s < n.shelves → roomy n.depots d s l ≡ true → Free n.depots d s l
unfolding roomy
roomy_free n l W d s hd hs h =
    let a = W.depots in
    let b = W.shelves in
    record {
      depots = a;
      depot = omega arith;
      shelf = omega arith;
      room = λ to k f.
          ⊎_elim (λ (e : eqb to d ≡ true). absurd (f (eqb-true to d e))) (λ (e : ltb (held l (link_of s d to)) 16 ≡ true). ltb-true _ _ e)
          (or_cases (eqb to d) _ (every_at n.depots _ h to k));
    }

-- the shelf of a bearing
pub shelf_in : (n : Counts) → Within n → (k : ℕ) → k % n.shelves < n.shelves
shelf_in n W k = mod-lt k W.shelf

-- ---- a write

-- a crew's home shelf, of the parts that a read names
pub read_ready : (l : List ℕ) (c k : ℕ) → Based l → c < (counts_of l).crews → read_parts (counts_of l) l c k ≡ true → Ready (counts_of l).depots (home l c) (shelf_of l k) l
unfolding read_parts home_parts
read_ready l c k B hc h =
    show_ready (counts_of l) l B.within (home l c) (shelf_of l k) (B.homes c hc) (shelf_in (counts_of l) B.within k)
    (and_right (stored_fit (counts_of l) l (home l c) k) _ (and_right (crew_fit (counts_of l) l c) _ h))

module _ (l : List ℕ) (c k : ℕ) (payload : Payload) (t : WriteDone l c k payload) where
  pub based : Based l
  based = base_open l (write_based l c k t.fits)

  hc : home l c < (counts_of l).depots
  hc = based.homes c t.crew

  hs : shelf_of l k < (counts_of l).shelves
  hs = shelf_in (counts_of l) based.within k

  pub ready : Ready (counts_of l).depots (home l c) (shelf_of l k) l
  unfolding write_parts
  ready =
      read_ready l c k based t.crew
      (and_left (read_parts (counts_of l) l c k) _ (sym (write_named l c k (write_based l c k t.fits) t.crew t.bearing) ∙ t.fits))

  -- a link out counts what it counted: showing only frees incoming links
  pub out_stays :
      (to : ℕ) → to < (counts_of l).depots → (to ≡ home l c → ⊥) →
      held (kept_in (counts_of l).depots (home l c) (made_record l c k payload) (written_crew l c k)) (link_of (shelf_of l k) (home l c) to) ≡ held l (link_of (shelf_of l k) (home l c) to)
  unfolding written_crew settled_home
  out_stays to z f =
      let a = based.within.depots in
      let b = based.within.shelves in
      let e = based.within.crews in
      let g = t.crew in
      let x = hc in
      let y = hs in
      kept_in_low (counts_of l).depots (home l c) (made_record l c k payload) (written_crew l c k) (held_at (link_of (shelf_of l k) (home l c) to)) (omega arith)
      ∙ get_or-set_other (settled_home l c k) (crew_at c + home l c) (held_at (link_of (shelf_of l k) (home l c) to)) (new_stamp l c k) 0 (omega arith)
      ∙ settled_off (counts_of l).depots (home l c) (shelf_of l k) (crew_vector l c) l ready
      (held_at (link_of (shelf_of l k) (home l c) to)) (omega arith) (λ from i j. (omega arith, omega arith)) (omega arith)

  pub free : Free (counts_of l).depots (home l c) (shelf_of l k) (kept_in (counts_of l).depots (home l c) (made_record l c k payload) (written_crew l c k))
  free =
      let old = roomy_free (counts_of l) l based.within (home l c) (shelf_of l k) hc hs t.room in
      record { depots = old.depots; depot = old.depot; shelf = old.shelf; room = λ to z f. subst (λ (x : ℕ). x < 16) (sym (out_stays to z f)) (old.room to z f) }
