-- What `who_has` tells after every history: the demands are carried to the bits. A bit says that a depot's version is not above another's, and of
-- versions that a history stores this is "it or a greater one", since no two writes share vector and origin.
-- Assumes nothing.
use Prim.Native.Nat.{ℕ, ◌-◌, ◌^◌, ◌<◌}
use mathlib.Core.Path.{◌≡◌, sym, ◌∙◌, ap, subst, subst₂}
use mathlib.Core.Logic.{inl, inr, ⊎_elim}
use mathlib.Core.Bool.{true, false, not}
use mathlib.Core.List.{List, [], ◌∷◌, ◌++◌}
use lib.Dec.{leb}
use Rattle.loops.proofs.BoolLaws.{decided, both_ways, not_passed, not_failed}
use Rattle.order.specs.Vector.{zeros}
use Rattle.order.specs.Order.{above}
use Rattle.order.specs.Record.{vector_of}
use Rattle.order.proofs.OrderLaws.{above_asym, above_written}
use Rattle.book.specs.declared.parts.Counts.{Counts}
use Rattle.book.specs.Layout.{counts_of, stored}
use Rattle.paper.specs.Calls.{Call, first}
use Rattle.register.specs.Table.{setup_number}
use Rattle.register.proofs.TableLaws.{first_next}
use Rattle.model.specs.Parts.{Version, Write, rank, unwritten}
use Rattle.model.specs.Calls.{shelf_of}
use Rattle.model.specs.System.{of_model, run}
use Rattle.model.specs.Demands.{AtLeast, MadeAt, now, earlier, NotInvented}
use Rattle.model.proofs.Showing.{AtMost, at_most_same, at_most_trans}
use Rattle.model.proofs.Invariant.{unwritten_zeros}
use Rattle.model.proofs.Refusals.{setting_up, shelf_below}
use Rattle.model.proofs.Histories.{inv}
use Rattle.model.proofs.Unique.{at_least}
use Rattle.model.proofs.Transfer as transfer
use Rattle.bridge.specs.View.{to_model, version_of}
use Rattle.bridge.specs.Systems.{of_books}
use Rattle.bridge.specs.Demands.{book_of, Demands}
use Rattle.bridge.proofs.Decoded.{version_unwritten, version_zeros, version_above}
use Rattle.bridge.proofs.SetupView.{setup_open, setup_model}
use Rattle.bridge.proofs.Followed.{book_follows}
use Rattle.bridge.proofs.TheDemands.{the_demands}
use Rattle.who.specs.Who.{has_it, who_number, has, who_told}
use Rattle.who.proofs.Telling.{fit_who, fit_number, told_all_law, all_told}
use Rattle.everybody.specs.Everybody.{present, everyone, Everybody}

-- ---- a bit, as the model compares

module _ (n : ℕ) (l : List ℕ) (d k x : ℕ) where
  most_of : has_it n l d k x ≡ true → AtMost n (version_of n (stored l d k)) (version_of n (stored l x k))
  unfolding has_it
  most_of h = record { holds = version_above n _ _ ∙ not_passed h }

  of_most : AtMost n (version_of n (stored l d k)) (version_of n (stored l x k)) → has_it n l d k x ≡ true
  unfolding has_it
  of_most m = not_failed (sym (version_above n _ _) ∙ m.holds)

-- what is it or a greater one is not below it
most_by : {n : ℕ} {a b : Version} → AtLeast n a b → AtMost n b a
most_by {n} {a} {b} t =
    ⊎_elim (λ (e : a ≡ b). at_most_same (sym e)) (λ (h : above n (rank a) (rank b) ≡ true). record { holds = above_asym n (rank a) (rank b) h }) t

module _ (b : List ℕ) (n : Counts) (homes : List ℕ) (done : setup_number b n homes ≡ 0) where
  D : Demands n homes
  D = the_demands b n homes done

  -- what was made lies on a bearing
  bearing_named : {h g : List Call} {c : ℕ} {w : Write} → MadeAt (of_books n homes) h g c w → w.bearing < n.bearings
  bearing_named (now {h = h} {q = q} {c = c} {w = w} t) =
      let a = transfer.alike (book_follows b n homes done) h in
      let p = sym (a.number q) ∙ t.passed in
      (a.writes q c w p (a.makes_to q c w p t.makes)).1
  bearing_named (earlier m) = bearing_named m

  module _ (h : List Call) where
    counted : counts_of (book_of n homes h) ≡ n
    counted = D.first.counts h

    number_done : (d k : ℕ) → d < n.depots → k < n.bearings → who_number (book_of n homes h) d k ≡ 0
    number_done d k hd hk =
        fit_number (book_of n homes h) d k (D.first.fits h) (subst (λ (m : Counts). d < m.depots) (sym counted) hd) (subst (λ (m : Counts). k < m.bearings) (sym counted) hk)

    -- all bits, where every depot has it, and the other way round
    all_of : (d k : ℕ) → d < n.depots → k < n.bearings → ((x : ℕ) → x < n.depots → has_it n.depots (book_of n homes h) d k x ≡ true) → who_told (book_of n homes h) d k ≡ everyone n homes
    all_of d k hd hk =
        subst (λ (m : Counts). ((x : ℕ) → x < m.depots → has_it m.depots (book_of n homes h) d k x ≡ true) → who_told (book_of n homes h) d k ≡ has (2 ^ m.depots - 1) m.depots) counted
        (told_all_law (book_of n homes h) d k (number_done d k hd hk))

    of_all : (d k : ℕ) → who_told (book_of n homes h) d k ≡ everyone n homes → (x : ℕ) → x < n.depots → has_it n.depots (book_of n homes h) d k x ≡ true
    of_all d k =
        subst (λ (m : Counts). who_told (book_of n homes h) d k ≡ has (2 ^ m.depots - 1) m.depots → (x : ℕ) → x < m.depots → has_it m.depots (book_of n homes h) d k x ≡ true) counted
        (all_told (book_of n homes h) d k)

    -- only a number out of range is refused
    numbered : (d k : ℕ) → who_number (book_of n homes h) d k ≡ first ((leb n.depots d, 2) ∷ (leb n.bearings k, 4) ∷ [])
    unfolding who_number
    numbered d k =
        first_next _ _ _ (ap not (fit_who (book_of n homes h) (D.first.fits h) d k))
        ∙ ap (λ (m : Counts). first ((leb m.depots d, 2) ∷ (leb m.bearings k, 4) ∷ [])) counted

    -- a version that is not below what depot d stores, both of them stored after a history, is it or a greater one
    module _ (d k x : ℕ) (hd : d < n.depots) (hk : k < n.bearings) (hx : x < n.depots) (low : AtMost n.depots (present n homes h d k) (present n homes h x k)) where
      same_d : present n homes h d k ≡ (of_model (to_model n) homes).store (run (to_model n) homes h) d k
      same_d = (transfer.alike (book_follows b n homes done) h).store d k hd hk

      same_x : present n homes h x k ≡ (of_model (to_model n) homes).store (run (to_model n) homes h) x k
      same_x = (transfer.alike (book_follows b n homes done) h).store x k hx hk

      written : zeros n.depots (vector_of (stored (book_of n homes h) d k)) ≡ false → AtLeast n.depots (present n homes h x k) (present n homes h d k)
      written z =
          let u = setting_up (to_model n) homes (setup_model (setup_open b n homes done)) in
          let from : (y : ℕ) → y < n.depots → NotInvented (to_model n) (of_model (to_model n) homes) h k ((of_model (to_model n) homes).store (run (to_model n) homes h) y k)
          = λ y hy. ((inv (to_model n) homes u h).sound.shelf y (shelf_of (to_model n) k) hy (shelf_below (to_model n) u k)).stores k in
          subst₂ (AtLeast n.depots) (sym same_x) (sym same_d)
          (⊎_elim
          (λ e. absurd (both_ways (unwritten_zeros n.depots (same_d ∙ e)) (version_zeros n.depots (stored (book_of n homes h) d k) ∙ z)))
          (λ m. at_least (to_model n) homes u h _ _ m (subst₂ (AtMost n.depots) same_d same_x low) (from x hx))
          (from d hd))

      least_of : AtLeast n.depots (present n homes h x k) (present n homes h d k)
      least_of =
          let here = stored (book_of n homes h) d k in
          let there = stored (book_of n homes h) x k in
          ⊎_elim
          (λ (z : zeros n.depots (vector_of here) ≡ true). ⊎_elim
          (λ (t : zeros n.depots (vector_of there) ≡ true). inl (version_unwritten n.depots there t ∙ sym (version_unwritten n.depots here z)))
          (λ (t : zeros n.depots (vector_of there) ≡ false). inr (version_above n.depots there here ∙ above_written n.depots _ _ t z))
          (decided (zeros n.depots (vector_of there))))
          written
          (decided (zeros n.depots (vector_of here)))

  pub everybody : Everybody n homes
  everybody = record {
    numbers = numbered;
    has_it_there = λ h d k x hd hk hx t. least_of h d k x hd hk hx (most_of _ _ d k x t);
    it_has = λ h d k x t. of_most n.depots (book_of n homes h) d k x (most_by t);
    delivered = λ g h w d hd made rounds same.
        all_of h d w.bearing hd (bearing_named made.at) (λ x hx. of_most n.depots (book_of n homes h) d w.bearing x
        (most_by (subst (AtLeast n.depots (present n homes h x w.bearing)) (sym same) (D.others.third.delivered g h w made rounds x hx))));
    keeps = keeping;
    all_keep = λ l h d k hd hk same told. all_of (l ++ h) d k hd hk (λ x hx. keeping l h d k x hd hk hx same (of_all h d k told x hx));
  }
    where
      keeping : (l h : List Call) (d k x : ℕ) → d < n.depots → k < n.bearings → x < n.depots → present n homes (l ++ h) d k ≡ present n homes h d k
          → has_it n.depots (book_of n homes h) d k x ≡ true → has_it n.depots (book_of n homes (l ++ h)) d k x ≡ true
      keeping l h d k x hd hk hx same t =
          of_most n.depots (book_of n homes (l ++ h)) d k x
          (subst (λ (v : Version). AtMost n.depots v (present n homes (l ++ h) x k)) (sym same)
          (at_most_trans (most_of n.depots (book_of n homes h) d k x t) (record { holds = D.others.second.store_rises l h x k hx hk })))
