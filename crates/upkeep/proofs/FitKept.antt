-- Every call that is done keeps every part of the book, and so leaves a fit book fit: tick, take, refresh, read.
-- Assumes nothing.
use Prim.Native.Nat.{ℕ, ◌+◌, ◌-◌, ◌≤◌, ◌<◌}
use native.Mathlib.Nat.{le_refl, le_trans, min-le_left}
use native.Mathlib.Omega.{arith}
use mathlib.Core.Path.{◌≡◌, refl, sym, ◌∙◌}
use mathlib.Core.List.{List}
use mathlib.Core.Bool.{true}
use lib.Dec.{leb}
use lib.ListN.{length}
use borrow.Author.Tests.{leb-true, ne_eqb}
use Rattle.loops.specs.Loops.{every}
use Rattle.loops.proofs.BoolLaws.{and_left, and_right, or_next}
use Rattle.loops.proofs.LoopLaws.{times_keeps, every_at}
use Rattle.book.specs.declared.parts.Counts.{Counts}
use Rattle.book.specs.Layout.{end, counts_of, home, crew_vector, clock, seen, link_of, held, taken, stored}
use Rattle.fit.specs.Fit.{in_range, crew_fit, stable_fit, seen_fit, head_fit, link_fit, kept_fit, stored_fit, Within, fit}
use Rattle.named.specs.Named.{waiting_fit, arrival_fit, show_fit, tick_parts, take_parts, refresh_parts, home_parts, read_parts, write_parts}
use Rattle.named.proofs.NamedLaws.{Based, base_open, tick_named, take_named, refresh_named, read_named, write_named}
use Rattle.named.proofs.NamedLaws.{tick_based, take_based, refresh_based, read_based, write_based}
use Rattle.links.specs.Send.{beat, lowest, lowest_seen}
use Rattle.shelf.proofs.FrameLaws.{pick_cases}
use Rattle.shelf.proofs.AllLaws.{all_slots}
use Rattle.shelf.proofs.ShowLaws.{untaken_slots}
use Rattle.paper.specs.declared.answer.Payload.{Payload}
use Rattle.register.specs.Table.{shelf_of, read_number, tick_number, take_number, refresh_number}
use Rattle.register.specs.Calls.{settled_home, read_record, read_book, tick_book, take_book, refresh_book}
use Rattle.register.proofs.FitParts.{IsMessage, Whole, link_open}
use Rattle.register.proofs.FitMessage.{beat_message, kept_range}
use Rattle.register.proofs.FitReady.{roomy_free, shelf_in}
use Rattle.register.proofs.Numbers.{TickDone, TakeDone, RefreshDone, ReadDone, WriteDone, tick_done, take_done, refresh_done, read_done}
use Rattle.upkeep.proofs.FitFrame.{CrewOk, WaitingOk, Keeps, keeps_whole, keeps_fit}
use Rattle.upkeep.proofs.FitSent.{sent_keeps}
use Rattle.upkeep.proofs.FitTook.{took_keeps}
use Rattle.upkeep.proofs.FitSettled.{Arrivals, Settles, settles_then, settled_settles}
use Rattle.upkeep.proofs.FitStored.{crew_merged_off, crew_merged_keeps}

-- ---- a call that is done has the length, the counts and the homes, and the parts that it names

pub tick_asked : (l : List ℕ) (d s : ℕ) → TickDone l d s → Based l × (tick_parts (counts_of l) l d s ≡ true)
tick_asked l d s t = let b = tick_based l d s t.fits in (base_open l b, sym (tick_named l d s b t.depot t.shelf) ∙ t.fits)

pub take_asked : (l : List ℕ) (d s from : ℕ) → TakeDone l d s from → Based l × (take_parts (counts_of l) l d s from ≡ true)
take_asked l d s from t =
    let b = take_based l d s from t.fits in (
      base_open l b,
      sym (or_next _ (ne_eqb d from t.apart)) ∙ sym (take_named l d s from b t.depot t.sender t.shelf) ∙ t.fits,
    )

pub refresh_asked : (l : List ℕ) (d s : ℕ) → RefreshDone l d s → Based l × (refresh_parts (counts_of l) l d s ≡ true)
refresh_asked l d s t = let b = refresh_based l d s t.fits in (base_open l b, sym (refresh_named l d s b t.depot t.shelf) ∙ t.fits)

pub read_asked : (l : List ℕ) (c k : ℕ) → ReadDone l c k → Based l × (read_parts (counts_of l) l c k ≡ true)
read_asked l c k t = let b = read_based l c k t.fits in (base_open l b, sym (read_named l c k b t.crew t.bearing) ∙ t.fits)

pub write_asked : (l : List ℕ) (c k : ℕ) {payload : Payload} → WriteDone l c k payload → Based l × (write_parts (counts_of l) l c k ≡ true)
write_asked l c k t = let b = write_based l c k t.fits in (base_open l b, sym (write_named l c k b t.crew t.bearing) ∙ t.fits)

pub show_arrivals : (n : Counts) (l : List ℕ) (d s : ℕ) → show_fit n l d s ≡ true → Arrivals n l d s
unfolding show_fit arrival_fit
show_arrivals n l d s h from k f =
    link_open n l s from (link_of s from d)
    (and_left (link_fit n l s from (link_of s from d)) _
    (sym (or_next (arrival_fit n l d s from) (ne_eqb from d f)) ∙ every_at n.depots _ (and_right (stable_fit n l d s) _ h) from k))

pub crew_open : (n : Counts) (l : List ℕ) (c : ℕ) → crew_fit n l c ≡ true → CrewOk n l c
unfolding crew_fit in_range
crew_open n l c h x k = leb-true _ _ (every_at n.depots _ h x k)

pub waiting_open : (n : Counts) (l : List ℕ) (s from q : ℕ) → waiting_fit n l s from q ≡ true → WaitingOk n l s from q
unfolding waiting_fit head_fit untaken_slots
waiting_open n l s from q h =
    let a = and_left (head_fit l q) _ h in
    record {
      room = leb-true _ _ (and_left (leb (held l q) 16) _ a);
      first = leb-true _ _ (and_right (leb (held l q) 16) _ a);
      messages = all_slots (IsMessage n s from) l q (taken l q) (held l q - taken l q) (every_at (held l q - taken l q) _ (and_right (head_fit l q) _ h));
    }

-- ---- tick, take, refresh

pub tick_keeps : (l : List ℕ) (d s : ℕ) → tick_number l d s ≡ 0 → Keeps (counts_of l) l (tick_book l d s)
unfolding tick_book
tick_keeps l d s h =
    let t = tick_done l d s h in
    let B = (tick_asked l d s t).0 in
    let c = t.clocked in
    sent_keeps (counts_of l) l B.within B.full d s (clock l d s + 1) (beat (clock l d s + 1)) t.depot t.shelf (omega arith) refl
    (beat_message (counts_of l) s d _ refl (omega arith)) (roomy_free (counts_of l) l B.within d s t.depot t.shelf t.room)

pub take_keeps : (l : List ℕ) (d s from : ℕ) → take_number l d s from ≡ 0 → Keeps (counts_of l) l (take_book l d s from)
unfolding take_book take_parts
take_keeps l d s from h =
    let t = take_done l d s from h in
    let A = take_asked l d s from t in
    took_keeps (counts_of l) l A.0.within A.0.full d s from t.depot t.shelf t.sender
    (waiting_open (counts_of l) l s from (link_of s from d) (and_right (leb (seen l d s from) end) _ A.1)) t.more

lowest_range : (p d x : ℕ) (l : List ℕ) → lowest p d x l ≤ end
unfolding lowest
lowest_range p d x l = times_keeps (λ (m : ℕ). m ≤ end) p _ end (λ s m k h. le_trans (min-le_left m _) h) (le_refl _)

pub lowest_seen_range : (n p d : ℕ) (l : List ℕ) (x : ℕ) → lowest_seen n p d l x ≤ end
unfolding lowest_seen
lowest_seen_range n p d l x = pick_cases (λ (v : ℕ). v ≤ end) _ (lowest p d x l) 0 (λ e. lowest_range p d x l) λ e. omega arith

pub refresh_arrivals : (l : List ℕ) (d s : ℕ) → RefreshDone l d s → Arrivals (counts_of l) l d s
unfolding refresh_parts
refresh_arrivals l d s t = show_arrivals (counts_of l) l d s (and_right (every (counts_of l).shelves (seen_fit (counts_of l) l d)) _ (refresh_asked l d s t).1)

pub refresh_settles : (l : List ℕ) (d s : ℕ) → refresh_number l d s ≡ 0 → Settles (counts_of l) l (refresh_book l d s) d s
unfolding refresh_book
refresh_settles l d s h =
    let t = refresh_done l d s h in
    let B = (refresh_asked l d s t).0 in
    settled_settles (counts_of l) l B.within B.full d s _ t.depot t.shelf (refresh_arrivals l d s t)
    (λ x k f. lowest_seen_range (counts_of l).depots (counts_of l).shelves d l x)

-- ---- a crew at its home shelf

-- what raise and show there asks: the crew's vector, and the links into the shelf
pub record HomeOk (l : List ℕ) (c k : ℕ) : Type 0 where
  pub within : Within (counts_of l)
  pub full : length l ≡ 16384
  pub depot : home l c < (counts_of l).depots
  pub crew : CrewOk (counts_of l) l c
  pub arrivals : Arrivals (counts_of l) l (home l c) (shelf_of l k)

-- and the stored version, of the parts that a read names
pub home_open :
    (l : List ℕ) (c k : ℕ) → Based l → c < (counts_of l).crews → read_parts (counts_of l) l c k ≡ true →
    HomeOk l c k × (kept_fit (counts_of l) k (stored l (home l c) k) ≡ true)
unfolding read_parts home_parts stored_fit
home_open l c k B hc h =
    let g = and_right (crew_fit (counts_of l) l c) _ h in (
      record {
        within = B.within;
        full = B.full;
        depot = B.homes c hc;
        crew = crew_open (counts_of l) l c (and_left (crew_fit (counts_of l) l c) _ h);
        arrivals = show_arrivals (counts_of l) l (home l c) (shelf_of l k) (and_right (stored_fit (counts_of l) l (home l c) k) _ g);
      },
      and_left (stored_fit (counts_of l) l (home l c) k) _ g,
    )

pub home_settles : (l : List ℕ) (c k : ℕ) → HomeOk l c k → Settles (counts_of l) l (settled_home l c k) (home l c) (shelf_of l k)
unfolding settled_home
home_settles l c k H =
    settled_settles (counts_of l) l H.within H.full (home l c) (shelf_of l k) (crew_vector l c) H.depot (shelf_in (counts_of l) H.within k)
    H.arrivals
    λ x z f. H.crew x z

pub read_settles : (l : List ℕ) (c k : ℕ) → read_number l c k ≡ 0 → Settles (counts_of l) l (read_book l c k) (home l c) (shelf_of l k)
unfolding read_book read_record
read_settles l c k h =
    let t = read_done l c k h in
    let A = read_asked l c k t in
    let H = home_open l c k A.0 t.crew A.1 in
    let S = home_settles l c k H.0 in
    let a = A.0.within.depots in
    let b = A.0.within.crews in
    let e = t.crew in
    settles_then (counts_of l) l (settled_home l c k) _ (home l c) (shelf_of l k) (shelf_in (counts_of l) A.0.within k) H.0.depot H.0.arrivals S
    (crew_merged_keeps (counts_of l) (settled_home l c k) A.0.within (S.keeps.size ∙ A.0.full) c _ t.crew
    (kept_range (counts_of l) k (stored (settled_home l c k) (home l c) k) (S.keeps.stores (home l c) k H.0.depot t.bearing H.1)))
    (λ from z f j x y. crew_merged_off (counts_of l) (settled_home l c k) c _ j (omega arith))
    (λ from z f j x y. crew_merged_off (counts_of l) (settled_home l c k) c _ j (omega arith))

-- ---- so a fit book stays fit

pub tick_fit_law : (l : List ℕ) (d s : ℕ) → fit l ≡ true → tick_number l d s ≡ 0 → fit (tick_book l d s) ≡ true
tick_fit_law l d s F h = keeps_fit l _ (tick_keeps l d s h) F

pub take_fit_law : (l : List ℕ) (d s from : ℕ) → fit l ≡ true → take_number l d s from ≡ 0 → fit (take_book l d s from) ≡ true
take_fit_law l d s from F h = keeps_fit l _ (take_keeps l d s from h) F

pub refresh_fit_law : (l : List ℕ) (d s : ℕ) → fit l ≡ true → refresh_number l d s ≡ 0 → fit (refresh_book l d s) ≡ true
refresh_fit_law l d s F h = keeps_fit l _ (refresh_settles l d s h).keeps F

pub read_fit_law : (l : List ℕ) (c k : ℕ) → fit l ≡ true → read_number l c k ≡ 0 → fit (read_book l c k) ≡ true
read_fit_law l c k F h = keeps_fit l _ (read_settles l c k h).keeps F

pub whole_home : (l : List ℕ) (c k : ℕ) → Whole (counts_of l) l → c < (counts_of l).crews → HomeOk l c k
whole_home l c k W hc =
    record {
      within = W.within;
      full = W.full;
      depot = W.parts.homes c hc;
      crew = W.parts.crews c hc;
      arrivals = λ from a f. W.parts.links (shelf_of l k) from (home l c) (shelf_in (counts_of l) W.within k) a (W.parts.homes c hc) f;
    }

pub settled_home_whole : (l : List ℕ) (c k : ℕ) → Whole (counts_of l) l → c < (counts_of l).crews → Whole (counts_of l) (settled_home l c k)
settled_home_whole l c k W hc = keeps_whole (counts_of l) l _ (home_settles l c k (whole_home l c k W hc)).keeps W
