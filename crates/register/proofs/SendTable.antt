-- The rows of each table: refused by the shared checks, by the parts that the call names, or by what comes after.
-- Assumes nothing.
use Prim.Native.Nat.{ℕ, ◌≤◌, ◌<◌}
use mathlib.Core.Path.{◌≡◌, ◌∙◌, ap}
use mathlib.Core.List.{List, [], ◌∷◌}
use mathlib.Core.Bool.{true, false, not}
use lib.Dec.{leb, ltb, eqb}
use borrow.Author.Tests.{le-leb, lt-leb, lt-ltb, le-ltb, eq-eqb, ne_eqb}
use Rattle.loops.proofs.BoolLaws.{not_failed, or_next, or_stop}
use Rattle.book.specs.Layout.{end, counts_of, home, crew_vector, clock, link_of, held, taken}
use Rattle.named.specs.Named.{base_fit, tick_parts, take_parts, refresh_parts, read_parts, write_parts, tick_fit, take_fit, refresh_fit, read_fit, write_fit}
use Rattle.named.proofs.NamedLaws.{tick_named, take_named, refresh_named, read_named, write_named}
use Rattle.links.specs.Send.{roomy}
use Rattle.card.specs.Card.{card_fit}
use Rattle.paper.specs.declared.answer.Payload.{Payload}
use Rattle.paper.specs.Calls.{last_day, first}
use Rattle.register.specs.Table.{shelf_of, read_number, refresh_number, tick_number, take_number, write_number}
use Rattle.register.specs.Checks.{place_number, asked_number, link_number}
use Rattle.register.proofs.TableLaws.{first_stop, first_next, first_none, two_bad, three_bad}

-- ---- tick

module _ (l : List ℕ) (d s : ℕ) where
  pub tick_bad : eqb (place_number l d s) 0 ≡ false → tick_number l d s ≡ place_number l d s
  unfolding place_number tick_number tick_fit
  tick_bad h = two_bad (base_fit l) (leb (counts_of l).depots d) (leb (counts_of l).shelves s) _ _ _ _ h

  pub tick_book_law : base_fit l ≡ true → d < (counts_of l).depots → s < (counts_of l).shelves → tick_parts (counts_of l) l d s ≡ false → tick_number l d s ≡ 1
  unfolding tick_number
  tick_book_law f a b h = first_stop _ _ _ (not_failed (tick_named l d s f a b ∙ h))

  module _ (f : tick_fit l d s ≡ true) (hd : d < (counts_of l).depots) (hs : s < (counts_of l).shelves) where
    past : tick_number l d s ≡ first ((leb end (clock l d s), 10) ∷ (not (roomy (counts_of l).depots d s l), 9) ∷ [])
    unfolding tick_number
    past = first_next _ _ _ (ap not f) ∙ first_next _ _ _ (lt-leb _ _ hd) ∙ first_next _ _ _ (lt-leb _ _ hs)

    pub tick_end : end ≤ clock l d s → tick_number l d s ≡ 10
    tick_end h = past ∙ first_stop _ _ _ (le-leb _ _ h)

    pub tick_full : clock l d s < end → roomy (counts_of l).depots d s l ≡ false → tick_number l d s ≡ 9
    tick_full h r = past ∙ first_next _ _ _ (lt-leb _ _ h) ∙ first_stop _ _ _ (not_failed r)

    pub tick_good : clock l d s < end → roomy (counts_of l).depots d s l ≡ true → tick_number l d s ≡ 0
    tick_good h r = past ∙ first_next _ _ _ (lt-leb _ _ h) ∙ first_next _ _ _ (ap not r) ∙ first_none

-- ---- refresh

module _ (l : List ℕ) (d s : ℕ) where
  pub refresh_bad : eqb (place_number l d s) 0 ≡ false → refresh_number l d s ≡ place_number l d s
  unfolding place_number refresh_number refresh_fit
  refresh_bad h = two_bad (base_fit l) (leb (counts_of l).depots d) (leb (counts_of l).shelves s) _ _ _ _ h

  pub refresh_book_law : base_fit l ≡ true → d < (counts_of l).depots → s < (counts_of l).shelves → refresh_parts (counts_of l) l d s ≡ false → refresh_number l d s ≡ 1
  unfolding refresh_number
  refresh_book_law f a b h = first_stop _ _ _ (not_failed (refresh_named l d s f a b ∙ h))

  pub refresh_good : base_fit l ≡ true → d < (counts_of l).depots → s < (counts_of l).shelves → refresh_parts (counts_of l) l d s ≡ true → refresh_number l d s ≡ 0
  unfolding refresh_number
  refresh_good f a b h =
      first_next _ _ _ (ap not (refresh_named l d s f a b ∙ h)) ∙ first_next _ _ _ (lt-leb _ _ a) ∙ first_next _ _ _ (lt-leb _ _ b) ∙ first_none

-- ---- read

module _ (l : List ℕ) (c k : ℕ) where
  pub read_bad : eqb (asked_number l c k) 0 ≡ false → read_number l c k ≡ asked_number l c k
  unfolding asked_number read_number read_fit
  read_bad h = two_bad (base_fit l) (leb (counts_of l).crews c) (leb (counts_of l).bearings k) _ _ _ _ h

  pub read_book_law : base_fit l ≡ true → c < (counts_of l).crews → k < (counts_of l).bearings → read_parts (counts_of l) l c k ≡ false → read_number l c k ≡ 1
  unfolding read_number
  read_book_law f a b h = first_stop _ _ _ (not_failed (read_named l c k f a b ∙ h))

  pub read_good : base_fit l ≡ true → c < (counts_of l).crews → k < (counts_of l).bearings → read_parts (counts_of l) l c k ≡ true → read_number l c k ≡ 0
  unfolding read_number
  read_good f a b h =
      first_next _ _ _ (ap not (read_named l c k f a b ∙ h)) ∙ first_next _ _ _ (lt-leb _ _ a) ∙ first_next _ _ _ (lt-leb _ _ b) ∙ first_none

-- ---- take

module _ (l : List ℕ) (d s from : ℕ) where
  pub take_bad : eqb (link_number l d s from) 0 ≡ false → take_number l d s from ≡ link_number l d s from
  unfolding link_number take_number take_fit
  take_bad h = three_bad (base_fit l) (leb (counts_of l).depots d) (leb (counts_of l).depots from) (leb (counts_of l).shelves s) _ _ _ _ h

  module _ (g : base_fit l ≡ true) (hd : d < (counts_of l).depots) (ho : from < (counts_of l).depots) (hs : s < (counts_of l).shelves) where
    -- of a depot that takes from itself no part is named
    pub take_self : d ≡ from → take_fit l d s from ≡ true
    take_self e = take_named l d s from g hd ho hs ∙ or_stop _ (eq-eqb d from e)

    pub take_parts_law : (d ≡ from → ⊥) → take_fit l d s from ≡ take_parts (counts_of l) l d s from
    take_parts_law e = take_named l d s from g hd ho hs ∙ or_next _ (ne_eqb d from e)

    pub take_book_law : (d ≡ from → ⊥) → take_parts (counts_of l) l d s from ≡ false → take_number l d s from ≡ 1
    unfolding take_number
    take_book_law e h = first_stop _ _ _ (not_failed (take_parts_law e ∙ h))

  module _ (f : take_fit l d s from ≡ true) (hd : d < (counts_of l).depots) (ho : from < (counts_of l).depots) (hs : s < (counts_of l).shelves) where
    named : take_number l d s from ≡ first ((eqb d from, 6) ∷ (leb (held l (link_of s from d)) (taken l (link_of s from d)), 7) ∷ [])
    unfolding take_number
    named = first_next _ _ _ (ap not f) ∙ first_next _ _ _ (or_next _ (lt-leb _ _ hd) ∙ lt-leb _ _ ho) ∙ first_next _ _ _ (lt-leb _ _ hs)

    pub take_same : d ≡ from → take_number l d s from ≡ 6
    take_same e = named ∙ first_stop _ _ _ (eq-eqb d from e)

    pub take_empty : (d ≡ from → ⊥) → held l (link_of s from d) ≤ taken l (link_of s from d) → take_number l d s from ≡ 7
    take_empty e h = named ∙ first_next _ _ _ (ne_eqb d from e) ∙ first_stop _ _ _ (le-leb _ _ h)

    pub take_good : (d ≡ from → ⊥) → taken l (link_of s from d) < held l (link_of s from d) → take_number l d s from ≡ 0
    take_good e h = named ∙ first_next _ _ _ (ne_eqb d from e) ∙ first_next _ _ _ (lt-leb _ _ h) ∙ first_none

-- ---- write

module _ (l : List ℕ) (c k : ℕ) (payload : Payload) where
  pub write_bad : eqb (asked_number l c k) 0 ≡ false → write_number l c k payload ≡ asked_number l c k
  unfolding asked_number write_number write_fit
  write_bad h = two_bad (base_fit l) (leb (counts_of l).crews c) (leb (counts_of l).bearings k) _ _ _ _ h

  pub write_book_law : base_fit l ≡ true → c < (counts_of l).crews → k < (counts_of l).bearings → write_parts (counts_of l) l c k ≡ false → write_number l c k payload ≡ 1
  unfolding write_number
  write_book_law f a b h = first_stop _ _ _ (not_failed (write_named l c k f a b ∙ h))

  module _ (f : write_fit l c k ≡ true) (hc : c < (counts_of l).crews) (hk : k < (counts_of l).bearings) where
    asked :
        write_number l c k payload
        ≡ first
        ((ltb last_day payload.value, 16)
        ∷ (not (card_fit payload.diameter payload.width), 14)
        ∷ (ltb (clock l (home l c) (shelf_of l k)) (crew_vector l c (home l c)), 8)
        ∷ (leb end (clock l (home l c) (shelf_of l k)), 10)
        ∷ (not (roomy (counts_of l).depots (home l c) (shelf_of l k) l), 9)
        ∷ [])
    unfolding write_number
    asked = first_next _ _ _ (ap not f) ∙ first_next _ _ _ (lt-leb _ _ hc) ∙ first_next _ _ _ (lt-leb _ _ hk)

    pub write_date : last_day < payload.value → write_number l c k payload ≡ 16
    write_date h = asked ∙ first_stop _ _ _ (lt-ltb _ _ h)

    pub write_card : payload.value ≤ last_day → card_fit payload.diameter payload.width ≡ false → write_number l c k payload ≡ 14
    write_card hv hg = asked ∙ first_next _ _ _ (le-ltb _ _ hv) ∙ first_stop _ _ _ (not_failed hg)

    module _ (hv : payload.value ≤ last_day) (hg : card_fit payload.diameter payload.width ≡ true) where
      dated :
          write_number l c k payload
          ≡ first
          ((ltb (clock l (home l c) (shelf_of l k)) (crew_vector l c (home l c)), 8)
          ∷ (leb end (clock l (home l c) (shelf_of l k)), 10)
          ∷ (not (roomy (counts_of l).depots (home l c) (shelf_of l k) l), 9)
          ∷ [])
      dated = asked ∙ first_next _ _ _ (le-ltb _ _ hv) ∙ first_next _ _ _ (ap not hg)

      pub write_wait : clock l (home l c) (shelf_of l k) < crew_vector l c (home l c) → write_number l c k payload ≡ 8
      write_wait h = dated ∙ first_stop _ _ _ (lt-ltb _ _ h)

      pub write_end : crew_vector l c (home l c) ≤ clock l (home l c) (shelf_of l k) → end ≤ clock l (home l c) (shelf_of l k) → write_number l c k payload ≡ 10
      write_end h e = dated ∙ first_next _ _ _ (le-ltb _ _ h) ∙ first_stop _ _ _ (le-leb _ _ e)

      pub write_full :
          crew_vector l c (home l c) ≤ clock l (home l c) (shelf_of l k) → clock l (home l c) (shelf_of l k) < end →
          roomy (counts_of l).depots (home l c) (shelf_of l k) l ≡ false → write_number l c k payload ≡ 9
      write_full h e r = dated ∙ first_next _ _ _ (le-ltb _ _ h) ∙ first_next _ _ _ (lt-leb _ _ e) ∙ first_stop _ _ _ (not_failed r)

      pub write_good :
          crew_vector l c (home l c) ≤ clock l (home l c) (shelf_of l k) → clock l (home l c) (shelf_of l k) < end →
          roomy (counts_of l).depots (home l c) (shelf_of l k) l ≡ true → write_number l c k payload ≡ 0
      write_good h e r = dated ∙ first_next _ _ _ (le-ltb _ _ h) ∙ first_next _ _ _ (lt-leb _ _ e) ∙ first_next _ _ _ (ap not r) ∙ first_none
