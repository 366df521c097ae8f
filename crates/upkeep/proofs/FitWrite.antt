-- A write that is done keeps every part of the book, and so leaves a fit book fit.
-- Assumes nothing.
use Prim.Native.Nat.{ℕ, suc, ◌+◌, ◌%◌, ◌≤◌, ◌<◌}
use native.Mathlib.Nat.{le_of_eq}
use native.Mathlib.Omega.{arith}
use mathlib.Core.Path.{◌≡◌, refl, sym, ◌∙◌, ap, subst}
use mathlib.Core.List.{List, ◌∷◌}
use mathlib.Core.Bool.{true}
use lib.Dec.{eqb}
use lib.ListN.{get_or}
use lib.Seq.{get_or-set_other}
use borrow.Author.Tests.{eq-eqb}
use Rattle.order.specs.Record.{bearing_of, origin_of, vector_of}
use Rattle.loops.proofs.BoolLaws.{and_left, pick_true}
use Rattle.book.specs.Layout.{end, copy_kind, crew_at, counts_of, home, crew_vector, clock}
use Rattle.fit.specs.Fit.{fit}
use Rattle.named.specs.Named.{read_parts, write_parts}
use Rattle.named.proofs.NamedLaws.{Based}
use Rattle.shelf.specs.Show.{kept_in}
use Rattle.shelf.proofs.FrameLaws.{pick_cases, kept_in_low}
use Rattle.links.proofs.SendFrame.{OffOut, sent_off}
use Rattle.card.specs.Card.{card_fit}
use Rattle.paper.specs.declared.answer.Payload.{Payload}
use Rattle.register.specs.Table.{shelf_of, write_number}
use Rattle.register.specs.Calls.{settled_home, new_stamp, made_vector, made_record, written_crew, write_book}
use Rattle.register.proofs.FitParts.{IsMessage, Whole}
use Rattle.register.proofs.FitMessage.{VersionOk, copy_close, copy_message}
use Rattle.register.proofs.Numbers.{WriteDone, write_done}
use Rattle.register.proofs.FitReady.{shelf_in, free}
use Rattle.register.proofs.MadeLaws.{length_made, made_entry, made_record_of, made_bearing, made_origin}
use Rattle.upkeep.proofs.FitFrame.{Keeps, keeps_then, keeps_fit}
use Rattle.upkeep.proofs.FitSent.{sent_keeps}
use Rattle.upkeep.proofs.FitSettled.{Settles, settles_then}
use Rattle.upkeep.proofs.FitStored.{crew_set_keeps, kept_in_keeps}
use Rattle.upkeep.proofs.FitKept.{HomeOk, home_open, whole_home, home_settles, write_asked}

-- ---- the record

pub made_ok : (l : List ℕ) (c k : ℕ) (payload : Payload) → HomeOk l c k → clock l (home l c) (shelf_of l k) < end → card_fit payload.diameter payload.width ≡ true
    → VersionOk (counts_of l) (made_record l c k payload)
made_ok l c k payload H hk card =
    record {
      entries = λ x z. subst (λ (y : ℕ). y ≤ end) (sym (made_entry l c k payload x H.within.depots z)) (range x z);
      origin = unfold made_record in H.depot;
      stamp = subst (λ (y : ℕ). 0 < y) (sym stamped) (omega arith);
      card = unfold made_record in card;
    }
  where
    range : (x : ℕ) → x < (counts_of l).depots → made_vector l c k x ≤ end
    range x z = unfold made_vector in pick_cases (λ (y : ℕ). y ≤ end) (eqb x (home l c)) (new_stamp l c k) (crew_vector l c x) (λ e. omega arith) λ e. H.crew x z

    stamped : vector_of (made_record l c k payload) (origin_of (made_record l c k payload)) ≡ new_stamp l c k
    stamped =
        ap (vector_of (made_record l c k payload)) origin
        ∙ made_entry l c k payload (home l c) H.within.depots H.depot
        ∙ own
      where
        origin : origin_of (made_record l c k payload) ≡ home l c
        origin = unfold made_record in refl

        own : made_vector l c k (home l c) ≡ new_stamp l c k
        own = unfold made_vector in pick_true (new_stamp l c k) (crew_vector l c (home l c)) (eq-eqb (home l c) (home l c) refl)

pub made_version :
    (l : List ℕ) (c k : ℕ) (payload : Payload) → Whole (counts_of l) l → c < (counts_of l).crews → clock l (home l c) (shelf_of l k) < end
    → card_fit payload.diameter payload.width ≡ true → VersionOk (counts_of l) (made_record l c k payload)
made_version l c k payload W hc = made_ok l c k payload (whole_home l c k W hc)

-- ---- the copy

pub made_message :
    (l : List ℕ) (c k : ℕ) (payload : Payload) → k < (counts_of l).bearings → VersionOk (counts_of l) (made_record l c k payload) →
    IsMessage (counts_of l) (shelf_of l k) (home l c) (copy_kind ∷ made_record l c k payload)
made_message l c k payload hk ok =
    let e = made_record_of l c k payload in
    copy_message (counts_of l) (shelf_of l k) (home l c) _
    (copy_close (counts_of l) (shelf_of l k) (home l c) (copy_kind ∷ made_record l c k payload)
    (record {
      kind = refl;
      version = subst (VersionOk (counts_of l)) (sym e) ok;
      origin = ap origin_of e ∙ made_origin l c k payload;
      bearing =
          subst (λ (r : List ℕ). bearing_of r < (counts_of l).bearings) (sym e) (subst (λ (x : ℕ). x < (counts_of l).bearings) (sym (made_bearing l c k payload)) hk);
      shelf = ap (λ (r : List ℕ). bearing_of r % (counts_of l).shelves) e ∙ ap (λ (x : ℕ). x % (counts_of l).shelves) (made_bearing l c k payload);
    }))

-- ---- the book

module _ (l : List ℕ) (c k : ℕ) (payload : Payload) (t : WriteDone l c k payload) where
  B : Based l
  B = (write_asked l c k t).0

  H : HomeOk l c k
  unfolding write_parts
  H = (home_open l c k B t.crew (and_left (read_parts (counts_of l) l c k) _ (write_asked l c k t).1)).0

  S : Settles (counts_of l) l (settled_home l c k) (home l c) (shelf_of l k)
  S = home_settles l c k H

  crewed : Keeps (counts_of l) (settled_home l c k) (written_crew l c k)
  crewed =
      let a = t.clocked in
      unfold written_crew in
      crew_set_keeps (counts_of l) (settled_home l c k) B.within (S.keeps.size ∙ B.full) c (home l c) (new_stamp l c k) t.crew H.depot (omega arith)

  kept : List ℕ
  kept = kept_in (counts_of l).depots (home l c) (made_record l c k payload) (written_crew l c k)

  storing : Keeps (counts_of l) (written_crew l c k) kept
  unfolding kept
  storing =
      kept_in_keeps (counts_of l) (written_crew l c k) B.within (crewed.size ∙ S.keeps.size ∙ B.full) (home l c) (made_record l c k payload)
      H.depot (length_made l c k payload) (made_ok l c k payload H t.clocked t.carded)
      (subst (λ (x : ℕ). x < (counts_of l).bearings) (sym (made_bearing l c k payload)) t.bearing)

  sending : Keeps (counts_of l) kept (write_book l c k payload)
  unfolding kept write_book
  sending =
      let a = t.clocked in
      sent_keeps (counts_of l) kept B.within (storing.size ∙ crewed.size ∙ S.keeps.size ∙ B.full) (home l c) (shelf_of l k) (new_stamp l c k)
      (copy_kind ∷ made_record l c k payload) H.depot (shelf_in (counts_of l) B.within k) (omega arith) (ap suc (length_made l c k payload))
      (made_message l c k payload t.bearing (made_ok l c k payload H t.clocked t.carded)) (free l c k payload t)

  -- the links into the shelf are left as raise and show left them
  stays :
      (j : ℕ) → 100 ≤ j → j < 10596 → OffOut (counts_of l).depots (home l c) (shelf_of l k) kept j →
      get_or (write_book l c k payload) j 0 ≡ get_or (settled_home l c k) j 0
  unfolding kept write_book written_crew
  stays j low high out =
      let a = B.within.depots in
      let b = B.within.crews in
      let e = B.within.shelves in
      let g = t.crew in
      let x = H.depot in
      let y = shelf_in (counts_of l) B.within k in
      sent_off (counts_of l).depots (home l c) (shelf_of l k) (new_stamp l c k) (copy_kind ∷ made_record l c k payload) kept
      (le_of_eq (ap suc (length_made l c k payload))) (free l c k payload t) j (omega arith) out
      ∙ kept_in_low (counts_of l).depots (home l c) (made_record l c k payload) (written_crew l c k) j high
      ∙ get_or-set_other (settled_home l c k) (crew_at c + home l c) j (new_stamp l c k) 0 (omega arith)

  written : Settles (counts_of l) l (write_book l c k payload) (home l c) (shelf_of l k)
  unfolding kept
  written =
      let a = B.within.depots in
      let e = B.within.shelves in
      let x = H.depot in
      let y = shelf_in (counts_of l) B.within k in
      settles_then (counts_of l) l (settled_home l c k) (write_book l c k payload) (home l c) (shelf_of l k) y H.depot H.arrivals S
      (keeps_then (counts_of l) _ _ _ crewed (keeps_then (counts_of l) _ _ _ storing sending))
      (λ from z f j u v. stays j (omega arith) (omega arith) (λ to p q. let r = (free l c k payload t).room to p q in (omega arith, omega arith)))
      (λ from z f j u v. stays j (omega arith) (omega arith) (λ to p q. let r = (free l c k payload t).room to p q in (omega arith, omega arith)))

pub write_settles :
    (l : List ℕ) (c k : ℕ) (payload : Payload) → write_number l c k payload ≡ 0 → Settles (counts_of l) l (write_book l c k payload) (home l c) (shelf_of l k)
write_settles l c k payload h = written l c k payload (write_done l c k payload h)

pub write_fit_law : (l : List ℕ) (c k : ℕ) (payload : Payload) → fit l ≡ true → write_number l c k payload ≡ 0 → fit (write_book l c k payload) ≡ true
write_fit_law l c k payload F h = keeps_fit l _ (write_settles l c k payload h).keeps F
