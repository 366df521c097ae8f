-- From a number to the answer and the buffer after it; and the two tables, row by row.
-- Assumes nothing.
use Rattle.std.specs.Prelude.{Result, Ok, Err}
use Prim.Native.Nat.{ℕ, ◌+◌, ◌-◌, ◌*◌, ◌≤◌, ◌<◌}
use native.Mathlib.Omega.{arith}
use native.Mathlib.Nat.{lt_of_lt_of_le}
use mathlib.Core.Path.{◌≡◌, refl, sym, ◌∙◌, ap, subst}
use mathlib.Core.List.{List, [], ◌∷◌}
use mathlib.Core.Bool.{Bool, true, false, not, ◌||◌, true≢false}
use lib.Dec.{eqb, ltb, leb}
use lib.ListN.{length}
use borrow.Author.Tests.{eq-eqb, ne_eqb, le-leb, lt-leb, le-ltb, lt-ltb}
use Rattle.loops.specs.Loops.{pick}
use Rattle.loops.proofs.BoolLaws.{pick_true, pick_false, and_next, or_next, or_stop, not_failed}
use Rattle.book.specs.Layout.{slot_words, counts_of, link_of, held, taken}
use Rattle.fit.specs.Fit.{Within}
use Rattle.named.specs.Named.{waiting_fit, base_fit}
use Rattle.named.proofs.NamedLaws.{base_open}
use Rattle.paper.specs.Calls.{first}
use Rattle.register.specs.Checks.{link_number}
use Rattle.register.proofs.CallLaws.{refusal_counts}
use Rattle.register.proofs.TableLaws.{first_stop, first_next, first_none, three_bad}
use Rattle.frame.specs.declared.Route.{Route}
use Rattle.frame.specs.declared.FrameRefusal.{FrameRefusal}
use Rattle.frame.specs.declared.FrameRefusal.TheVariants.{Link, NoRoom, BadCount, BadFrame, Old, Gap}
use Rattle.frame.specs.Frame.{frame_size, count_in, serial_in, formed, is_old, is_expected}
use Rattle.frame.specs.Promises.{frame_number, Tells, Outcome, Ready, route_in, untaken, link_read, bad_count, writer_number, arrival_rows, reader_number}
use Rattle.frame.specs.Stretch.{Known}

-- ---- refused, and done

-- no refusal has the number of what is done
pub counts : (x : FrameRefusal) → eqb (frame_number x) 0 ≡ false
unfolding frame_number
counts (Link r) = refusal_counts r
counts NoRoom = refl
counts BadCount = refl
counts BadFrame = refl
counts Old = refl
counts Gap = refl

pub refused_as : {number : ℕ} (x : FrameRefusal) (told : ℕ) (made o : List ℕ) → number ≡ frame_number x → Outcome number told made o (Err x) o
unfolding Tells
refused_as x told made o e = record { answer = e; buffer = sym (pick_false _ _ (ap (λ (n : ℕ). eqb n 0) e ∙ counts x)) }

pub done_as : {number n told : ℕ} {made o o' : List ℕ} → number ≡ 0 → n ≡ told → o' ≡ made → Outcome number told made o (Ok n) o'
unfolding Tells
done_as {number} e t m = record { answer = (e, t); buffer = m ∙ sym (pick_true _ _ (eq-eqb number 0 e)) }

pub outcome_same : {number other told : ℕ} {made o o' : List ℕ} {a : Result ℕ FrameRefusal} → other ≡ number → Outcome number told made o a o' → Outcome other told made o a o'
outcome_same {told = told} {made = made} {o = o} {o' = o'} {a = a} e h = subst (λ (n : ℕ). Outcome n told made o a o') (sym e) h

-- ---- the numbers of a link

pub route_ready : (l : List ℕ) (d s from : ℕ) → base_fit l ≡ true → d < (counts_of l).depots → from < (counts_of l).depots → s < (counts_of l).shelves → Ready (route_in l d s from)
route_ready l d s from h a b c =
    let w = base_open l h in record { counts = w.within; shelf = lt_of_lt_of_le c w.within.shelves; from = b; to = a }

pub ready_known : (r : Route) → Ready r → Known r
ready_known r h =
    record {
      depot = omega (arith, h.from);
      depots = h.counts.depots;
      bearings = h.counts.bearings;
      shelf = h.shelf;
      from = lt_of_lt_of_le h.from h.counts.depots;
      to = lt_of_lt_of_le h.to h.counts.depots;
    }

-- ---- the reader's table

of_link : (f a c : Bool) (rest : List (Bool × ℕ)) → eqb (first ((not f, 1) ∷ (a, 2) ∷ (c, 3) ∷ [])) 0 ≡ false → first ((not f, 1) ∷ (a, 2) ∷ (c, 3) ∷ rest) ≡ first ((not f, 1) ∷ (a, 2) ∷ (c, 3) ∷ [])
unfolding first pick
of_link false a c rest h = refl
of_link true true c rest h = refl
of_link true false true rest h = refl
of_link true false false rest h = absurd (true≢false h)

module _ (l : List ℕ) (d s from e : ℕ) (f : List ℕ) (room : ℕ) where
  pub reader_bad : eqb (link_number l d s from) 0 ≡ false → reader_number l d s from e f room ≡ link_number l d s from
  unfolding reader_number link_number
  reader_bad h = of_link (base_fit l) _ _ _ h

  module _ (b : base_fit l ≡ true) (hd : d < (counts_of l).depots) (ho : from < (counts_of l).depots) (hs : s < (counts_of l).shelves) where
    named : reader_number l d s from e f room ≡ first ((eqb d from, 6) ∷ arrival_rows (route_in l d s from) e f room)
    unfolding reader_number
    named = first_next _ _ _ (ap not b) ∙ first_next _ _ _ (or_next _ (lt-leb _ _ hd) ∙ lt-leb _ _ ho) ∙ first_next _ _ _ (lt-leb _ _ hs)

    pub reader_same : d ≡ from → reader_number l d s from e f room ≡ 6
    reader_same q = named ∙ first_stop _ _ _ (eq-eqb d from q)

    pub reader_on : (d ≡ from → ⊥) → reader_number l d s from e f room ≡ first (arrival_rows (route_in l d s from) e f room)
    reader_on q = named ∙ first_next _ _ _ (ne_eqb d from q)

module _ (r : Route) (e : ℕ) (f : List ℕ) (room : ℕ) where
  pub arrival_bad : formed r f ≡ false → first (arrival_rows r e f room) ≡ 102
  unfolding arrival_rows
  arrival_bad h = first_stop _ _ _ (not_failed h)

  module _ (h : formed r f ≡ true) where
    pub arrival_old : is_old e (serial_in f) ≡ true → first (arrival_rows r e f room) ≡ 103
    unfolding arrival_rows
    arrival_old o = first_next _ _ _ (ap not h) ∙ first_stop _ _ _ o

    module _ (o : is_old e (serial_in f) ≡ false) where
      pub arrival_gap : is_expected e (serial_in f) ≡ false → first (arrival_rows r e f room) ≡ 104
      unfolding arrival_rows
      arrival_gap x = first_next _ _ _ (ap not h) ∙ first_next _ _ _ o ∙ first_stop _ _ _ (not_failed x)

      pub arrival_room : is_expected e (serial_in f) ≡ true → room < slot_words * count_in f → first (arrival_rows r e f room) ≡ 100
      unfolding arrival_rows
      arrival_room x k = first_next _ _ _ (ap not h) ∙ first_next _ _ _ o ∙ first_next _ _ _ (ap not x) ∙ first_stop _ _ _ (lt-ltb _ _ k)

      pub arrival_good : is_expected e (serial_in f) ≡ true → slot_words * count_in f ≤ room → first (arrival_rows r e f room) ≡ 0
      unfolding arrival_rows
      arrival_good x k = first_next _ _ _ (ap not h) ∙ first_next _ _ _ o ∙ first_next _ _ _ (ap not x) ∙ first_next _ _ _ (le-ltb _ _ k) ∙ first_none

-- ---- the writer's table

module _ (l : List ℕ) (d s from count room : ℕ) where
  pub writer_bad : eqb (link_number l d s from) 0 ≡ false → writer_number l d s from count room ≡ link_number l d s from
  unfolding writer_number link_number link_read
  writer_bad h = three_bad (base_fit l) (leb (counts_of l).depots d) (leb (counts_of l).depots from) (leb (counts_of l).shelves s) _ _ _ _ h

  module _ (b : base_fit l ≡ true) (hd : d < (counts_of l).depots) (ho : from < (counts_of l).depots) (hs : s < (counts_of l).shelves) where
    pub read_link : link_read l d s from ≡ eqb d from || waiting_fit (counts_of l) l s from (link_of s from d)
    unfolding link_read
    read_link = and_next _ b ∙ or_next _ (lt-leb _ _ hd) ∙ or_next _ (lt-leb _ _ ho) ∙ or_next _ (lt-leb _ _ hs)

    -- past the parts and the numbers
    past : link_read l d s from ≡ true → writer_number l d s from count room ≡ first
        ((eqb d from, 6)
        ∷ (leb (held l (link_of s from d)) (taken l (link_of s from d)), 7)
        ∷ (bad_count count (held l (link_of s from d) - taken l (link_of s from d)), 101)
        ∷ (ltb room (frame_size (route_in l d s from) count (untaken l d s from)), 100)
        ∷ [])
    unfolding writer_number
    past p = first_next _ _ _ (ap not p) ∙ first_next _ _ _ (or_next _ (lt-leb _ _ hd) ∙ lt-leb _ _ ho) ∙ first_next _ _ _ (lt-leb _ _ hs)

    pub writer_same : d ≡ from → writer_number l d s from count room ≡ 6
    writer_same q = past (read_link ∙ or_stop _ (eq-eqb d from q)) ∙ first_stop _ _ _ (eq-eqb d from q)

    module _ (q : d ≡ from → ⊥) where
      other : link_read l d s from ≡ waiting_fit (counts_of l) l s from (link_of s from d)
      other = read_link ∙ or_next _ (ne_eqb d from q)

      pub writer_book : waiting_fit (counts_of l) l s from (link_of s from d) ≡ false → writer_number l d s from count room ≡ 1
      unfolding writer_number
      writer_book h = first_stop _ _ _ (not_failed (other ∙ h))

      module _ (g : waiting_fit (counts_of l) l s from (link_of s from d) ≡ true) where
        pub writer_empty : held l (link_of s from d) ≤ taken l (link_of s from d) → writer_number l d s from count room ≡ 7
        writer_empty h = past (other ∙ g) ∙ first_next _ _ _ (ne_eqb d from q) ∙ first_stop _ _ _ (le-leb _ _ h)

        module _ (w : taken l (link_of s from d) < held l (link_of s from d)) where
          waits : writer_number l d s from count room ≡ first
              ((bad_count count (held l (link_of s from d) - taken l (link_of s from d)), 101) ∷ (ltb room (frame_size (route_in l d s from) count (untaken l d s from)), 100) ∷ [])
          waits = past (other ∙ g) ∙ first_next _ _ _ (ne_eqb d from q) ∙ first_next _ _ _ (lt-leb _ _ w)

          pub writer_count : bad_count count (held l (link_of s from d) - taken l (link_of s from d)) ≡ true → writer_number l d s from count room ≡ 101
          writer_count h = waits ∙ first_stop _ _ _ h

          module _ (k : bad_count count (held l (link_of s from d) - taken l (link_of s from d)) ≡ false) where
            pub writer_room : room < frame_size (route_in l d s from) count (untaken l d s from) → writer_number l d s from count room ≡ 100
            writer_room h = waits ∙ first_next _ _ _ k ∙ first_stop _ _ _ (lt-ltb _ _ h)

            pub writer_good : frame_size (route_in l d s from) count (untaken l d s from) ≤ room → writer_number l d s from count room ≡ 0
            writer_good h = waits ∙ first_next _ _ _ k ∙ first_next _ _ _ (le-ltb _ _ h) ∙ first_none
