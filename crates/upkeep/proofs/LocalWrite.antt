-- A write is local: it begins as a read, and ends as a tick of the home shelf.
-- Assumes nothing.
use Prim.Native.Nat.{ℕ, suc, ◌+◌, ◌%◌, ◌<◌}
use native.Mathlib.Nat.{le_of_eq}
use native.Mathlib.Omega.{arith}
use mathlib.Core.Path.{◌≡◌, refl, sym, ◌∙◌, ap, ap₂, subst}
use mathlib.Core.Logic.{◌⊎◌, inl, inr, ⊎_elim}
use mathlib.Core.List.{List, ◌∷◌}
use mathlib.Core.Bool.{Bool, true, not, ◌&&◌}
use lib.Dec.{leb, ltb, eqb}
use lib.ListN.{length, get_or, length-set}
use lib.Seq.{get_or-set_other}
use borrow.Author.Tests.{leb-false, not-false}
use Rattle.order.specs.Order.{above}
use Rattle.order.specs.Record.{rank_of}
use Rattle.loops.proofs.BoolLaws.{and_left}
use Rattle.book.specs.declared.parts.Counts.{Counts}
use Rattle.book.specs.Layout.{end, copy_kind, crew_at, stored_at, slot_at, link_of, counts_of, home, crew_vector, clock}
use Rattle.named.specs.Named.{base_fit, show_fit, read_parts, tick_parts, write_parts, write_fit}
use Rattle.named.proofs.NamedLaws.{base_open, write_based, write_named}
use Rattle.shelf.specs.Show.{kept_in}
use Rattle.links.specs.Send.{roomy, sent}
use Rattle.shelf.proofs.FrameLaws.{Off, length_kept_in, kept_in_off}
use Rattle.links.proofs.SendFrame.{length_sent, sent_off}
use Rattle.shelf.proofs.ShowFrame.{length_settled}
use Rattle.paper.specs.declared.answer.Payload.{Payload}
use Rattle.paper.specs.Calls.{write}
use Rattle.register.specs.Answers.{cut, written}
use Rattle.register.specs.Table.{shelf_of, write_number}
use Rattle.register.specs.Calls.{settled_home, new_stamp, made_vector, made_record, written_crew, is_current, write_book}
use Rattle.register.proofs.Numbers.{WriteDone, write_done}
use Rattle.register.proofs.FitReady.{free, out_stays}
use Rattle.register.proofs.HomeLaws.{cut_same}
use Rattle.register.proofs.MadeLaws.{length_made, made_bearing}
use Rattle.upkeep.specs.Requests.{call, number_at, done_answer, changed_by}
use Rattle.upkeep.specs.Local.{Agree, In, BaseWord, of_crew, of_stored, of_home, TickWord, ReadWord, as_read, as_tick, Named, based, by_write}
use Rattle.upkeep.specs.Local.{the_clock, the_count, the_slot, WroteWord, the_own, the_stored, the_shelf, the_copy, Changed, writing, Alike}
use Rattle.upkeep.proofs.LocalBasics.{or_alike, and_alike, first_alike, pick_alike, agree_fewer, set_agrees, part_agrees}
use Rattle.upkeep.proofs.LocalParts.{counts_agree, base_agrees, clock_agrees, count_held, tick_parts_agree, room_agrees}
use Rattle.upkeep.proofs.LocalMoves.{kept_in_agrees, SlotsOut, sent_agrees}
use Rattle.upkeep.proofs.LocalShow.{settled_named}
use Rattle.upkeep.proofs.LocalHome.{read_shows, same_home, same_crew, read_parts_agree, settled_home_agrees, settled_home_stays}
use Rattle.upkeep.proofs.LocalTick.{sent_named}
use Rattle.upkeep.proofs.LocalAlike.{alike_by}

does : (l : List ℕ) (c k : ℕ) (payload : Payload) (j : ℕ) → Changed l (call (write c k payload)) j → WroteWord (counts_of l) l c k (home l c) (shelf_of l k) j
does l c k payload j (writing w) = w

done_shows : (l : List ℕ) (c k : ℕ) {payload : Payload} → WriteDone l c k payload → show_fit (counts_of l) l (home l c) (shelf_of l k) ≡ true
unfolding write_parts
done_shows l c k t =
    read_shows l c k
    (and_left (read_parts (counts_of l) l c k) _ (sym (write_named l c k (write_based l c k t.fits) t.crew t.bearing) ∙ t.fits))

-- the book before it is sent
abbrev stocked : List ℕ → ℕ → ℕ → Payload → List ℕ
stocked l c k payload = kept_in (counts_of l).depots (home l c) (made_record l c k payload) (written_crew l c k)

length_stocked : (l : List ℕ) (c k : ℕ) (payload : Payload) → length (stocked l c k payload) ≡ length l
unfolding written_crew settled_home
length_stocked l c k payload =
    length_kept_in _ _ (made_record l c k payload) (written_crew l c k)
    ∙ length-set (settled_home l c k) _ _
    ∙ length_settled (counts_of l).depots (home l c) (shelf_of l k) (crew_vector l c) l

module _ (S : ℕ → Type 0) (l m : List ℕ) (c k : ℕ) (payload : Payload) (H : (j : ℕ) → Named l (call (write c k payload)) j → S j) (A : Agree S l m) where
  B : (j : ℕ) → BaseWord l j → S j
  B j x = H j (based x)

  counts : counts_of l ≡ counts_of m
  counts = counts_agree S l m A B

  module _ (f : base_fit l ≡ true) (hc : c < (counts_of l).crews) (hk : k < (counts_of l).bearings) where
    W : (j : ℕ) → ReadWord (counts_of l) l c k j → S j
    W j x = H j (by_write f hc hk (as_read x))

    Y : (j : ℕ) → TickWord (counts_of l) (home l c) (shelf_of l k) j → S j
    Y j x = H j (by_write f hc hk (as_tick x))

    same_home_here : home l c ≡ home m c
    same_home_here = same_home l c k f hc S m A B W

    same_clock : clock l (home l c) (shelf_of l k) ≡ clock m (home m c) (shelf_of m k)
    same_clock = clock_agrees S l m A (counts_of l) (home l c) (shelf_of l k) Y ∙ ap₂ (λ (e : ℕ) (n : Counts). clock m e (k % n.shelves)) same_home_here counts

    parts : write_parts (counts_of l) l c k ≡ write_parts (counts_of m) m c k
    unfolding write_parts
    parts =
        ap₂ (λ (a b : Bool). a && b) (read_parts_agree l c k f hc S m A B W)
        (tick_parts_agree S l m A (counts_of l) (home l c) (shelf_of l k) Y ∙ ap₂ (λ (e : ℕ) (n : Counts). tick_parts n m e (k % n.shelves)) same_home_here counts)

    room : roomy (counts_of l).depots (home l c) (shelf_of l k) l ≡ roomy (counts_of m).depots (home m c) (shelf_of m k) m
    room =
        room_agrees S l m A (counts_of l) (home l c) (shelf_of l k) Y ∙ ap₂ (λ (e : ℕ) (n : Counts). roomy n.depots e (k % n.shelves) m) same_home_here counts

    own_entry : crew_vector l c (home l c) ≡ crew_vector m c (home m c)
    own_entry = same_crew l c k f hc S m A B W (home l c) ((base_open l f).homes c hc) ∙ ap (crew_vector m c) same_home_here

  fits : write_fit l c k ≡ write_fit m c k
  unfolding write_fit
  fits =
      and_alike (base_agrees S l m A B) λ f.
      or_alike (ap (λ (n : Counts). leb n.crews c) counts) λ a.
      or_alike (ap (λ (n : Counts). leb n.bearings k) counts) λ b. parts f (leb-false _ _ a) (leb-false _ _ b)

  number : write_number l c k payload ≡ write_number m c k payload
  unfolding write_number
  number =
      first_alike 1 _ _ (ap not fits) λ z.
      first_alike 5 _ _ (ap (λ (n : Counts). leb n.crews c) counts) λ a.
      first_alike 4 _ _ (ap (λ (n : Counts). leb n.bearings k) counts) λ b.
      let f = write_based l c k (not-false _ z) in
      let hc = leb-false _ _ a in
      let hk = leb-false _ _ b in
      first_alike 16 _ _ refl λ y.
      first_alike 14 _ _ refl λ z.
      first_alike 8 _ _ (ap₂ ltb (same_clock f hc hk) (own_entry f hc hk)) λ e.
      first_alike 10 _ _ (ap (leb end) (same_clock f hc hk)) λ g. first_alike 9 _ _ (ap not (room f hc hk)) λ h. refl

  module _ (t : WriteDone l c k payload) where
    F : base_fit l ≡ true
    F = write_based l c k t.fits

    R : (j : ℕ) → ReadWord (counts_of l) l c k j → S j
    R = W F t.crew t.bearing

    T : (j : ℕ) → TickWord (counts_of l) (home l c) (shelf_of l k) j → S j
    T = Y F t.crew t.bearing

    eh : home l c ≡ home m c
    eh = same_home_here F t.crew t.bearing

    stamp : new_stamp l c k ≡ new_stamp m c k
    stamp = ap (λ (x : ℕ). x + 1) (same_clock F t.crew t.bearing)

    entries : cut (counts_of l).depots (made_vector l c k) ≡ cut (counts_of m).depots (made_vector m c k)
    unfolding made_vector
    entries =
        cut_same (counts_of l).depots _ _ (base_open l F).within.depots
        (λ x z. pick_alike (λ (a b : ℕ). a ≡ b) (ap (eqb x) eh) (λ e. stamp) λ e. same_crew l c k F t.crew S m A B R x z)
        ∙ ap (λ (n : Counts). cut n.depots (made_vector m c k)) counts

    made : made_record l c k payload ≡ made_record m c k payload
    unfolding made_record
    made = λ i. k ∷ payload.value ∷ payload.diameter ∷ payload.width ∷ eh i ∷ entries i

    crewed : Agree S (written_crew l c k) (written_crew m c k)
    unfolding written_crew
    crewed =
        set_agrees S (settled_home l c k) (settled_home m c k) (ap (λ (e : ℕ). crew_at c + e) eh) stamp
        (settled_home_agrees l c k F t.crew S m A B R (done_shows l c k t))

    current : is_current l c k payload ≡ is_current m c k payload
    unfolding is_current
    current =
        let e = part_agrees S (written_crew l c k) (written_crew m c k) 9 (ap (λ (x : ℕ). stored_at x k) eh) (λ j x. R j (of_stored x)) crewed in
        λ i. above (counts i).depots (rank_of (made i)) (rank_of (e i))

    stock : Agree S (stocked l c k payload) (stocked m c k payload)
    stock =
        subst (Agree S (stocked l c k payload)) (λ i. kept_in (counts i).depots (eh i) (made i) (written_crew m c k))
        (kept_in_agrees S (counts_of l).depots (home l c) (made_record l c k payload) (written_crew l c k) (written_crew m c k)
        (λ j x. R j (of_stored (subst (λ (b : ℕ). In (stored_at (home l c) b) 9 j) (made_bearing l c k payload) x))) crewed)

    -- what a write writes is named, but for the free slots
    named :
        (j : ℕ) → WroteWord (counts_of l) l c k (home l c) (shelf_of l k) j →
        S j ⊎ SlotsOut (counts_of l).depots (home l c) (shelf_of l k) (stocked l c k payload) j
    named j (the_own e) = let a = (base_open l F).homes c t.crew in inl (R j (of_crew (omega arith, omega arith)))
    named j (the_stored i) = inl (R j (of_stored i))
    named j (the_shelf w) = inl (R j (of_home (settled_named (counts_of l) l (home l c) (shelf_of l k) j w)))
    named j (the_copy w) =
        ⊎_elim (λ (y : S j). inl y)
        (λ (y : SlotsOut (counts_of l).depots (home l c) (shelf_of l k) l j).
        let e = sym (out_stays l c k payload t y.0 y.1 y.2) in
        inr (y.0, y.1, y.2, subst (λ (h : ℕ). In (slot_at (link_of (shelf_of l k) (home l c) y.0) h) 10 j) e y.3))
        (sent_named S (counts_of l) l (home l c) (shelf_of l k) T j w)

    book : Agree (λ (j : ℕ). S j ⊎ Changed l (call (write c k payload)) j) (write_book l c k payload) (write_book m c k payload)
    unfolding write_book
    book =
        let Q : ℕ → Type 0 = λ (j : ℕ). S j ⊎ SlotsOut (counts_of l).depots (home l c) (shelf_of l k) (stocked l c k payload) j in
        agree_fewer Q _ _ _ (λ j z. ⊎_elim (λ (y : S j). inl y) (λ (y : Changed l (call (write c k payload)) j). named j (does l c k payload j y)) z)
        (subst (Agree Q (sent (counts_of l).depots (home l c) (shelf_of l k) (new_stamp l c k) (copy_kind ∷ made_record l c k payload) (stocked l c k payload)))
        (λ i. sent (counts i).depots (eh i) (k % (counts i).shelves) (stamp i) (copy_kind ∷ made i) (stocked m c k payload))
        (sent_agrees S (counts_of l).depots (home l c) (shelf_of l k) (new_stamp l c k) (copy_kind ∷ made_record l c k payload) (ap suc (length_made l c k payload))
        (stocked l c k payload) (stocked m c k payload) (length_stocked l c k payload ∙ (base_open l F).full) (free l c k payload t)
        (count_held S l m A (counts_of l) (home l c) (shelf_of l k) T) stock))

  pub write_alike : Alike S l m (call (write c k payload))
  unfolding number_at done_answer changed_by
  write_alike =
      alike_by S l m (call (write c k payload)) number
      (λ z. let t = write_done l c k payload z in ap₂ written (stamp t) (current t))
      (λ z. book (write_done l c k payload z)) A

module _ (l : List ℕ) (c k : ℕ) (payload : Payload) where
  pub write_stays :
      (j : ℕ) → number_at l (call (write c k payload)) ≡ 0 → (Changed l (call (write c k payload)) j → ⊥) →
      get_or (changed_by l (call (write c k payload))) j 0 ≡ get_or l j 0
  unfolding number_at changed_by write_book written_crew
  write_stays j z out =
      let t = write_done l c k payload z in
      let n = (counts_of l).depots in
      let d = home l c in
      let s = shelf_of l k in
      let r = made_record l c k payload in
      sent_off n d s (new_stamp l c k) (copy_kind ∷ r) (stocked l c k payload) (le_of_eq (ap suc (length_made l c k payload))) (free l c k payload t) j
      (λ e. out (writing (the_copy (the_clock e))))
      (λ to y f. (
        subst (λ (h : ℕ). Off (slot_at (link_of s d to) h) 10 j) (sym (out_stays l c k payload t to y f))
            (λ a b. out (writing (the_copy (the_slot to y f (a, b))))),
        λ e. out (writing (the_copy (the_count to y f e))),
      ))
      ∙ kept_in_off n d r (written_crew l c k) j (le_of_eq (length_made l c k payload))
      (subst (λ (b : ℕ). Off (stored_at d b) 9 j) (sym (made_bearing l c k payload)) (λ a b. out (writing (the_stored (a, b)))))
      ∙ get_or-set_other (settled_home l c k) (crew_at c + d) j (new_stamp l c k) 0 (λ e. out (writing (the_own e)))
      ∙ settled_home_stays l c k (write_based l c k t.fits) t.crew (done_shows l c k t) j λ w. out (writing (the_shelf w))

  pub write_size : length (changed_by l (call (write c k payload))) ≡ length l
  unfolding changed_by write_book
  write_size = length_sent _ (home l c) (shelf_of l k) _ _ (stocked l c k payload) ∙ length_stocked l c k payload
