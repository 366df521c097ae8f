-- From book to book: the frame that a writer makes is accepted by the box that expects it, and a box that takes what it is handed has taken what as many takes
-- of the link would give.
-- Assumes nothing.
use Prim.Native.Nat.{ℕ, zero, suc, ◌+◌, ◌-◌, ◌≤◌, ◌<◌}
use native.Mathlib.Omega.{arith}
use mathlib.Core.Path.{◌≡◌, sym, ◌∙◌}
use mathlib.Core.Bool.{true, false, not, ◌&&◌, ◌||◌}
use mathlib.Core.List.{List, [], ◌∷◌}
use lib.Dec.{eqb, ltb, leb, lit<}
use lib.ListN.{length, get_or, take, drop}
use lib.Seq.{get_or-drop}
use borrow.Author.Tests.{leb-false, ltb-false, eqb-false, not-false}
use Rattle.loops.specs.Loops.{times, every}
use Rattle.loops.proofs.BoolLaws.{and_left, and_right, or_next}
use Rattle.loops.proofs.LoopLaws.{every_at}
use Rattle.book.specs.Words.{part}
use Rattle.book.specs.Layout.{counts_of, link_of, held, taken, slot, slot_at}
use Rattle.fit.specs.Fit.{message_fit, head_fit}
use Rattle.named.specs.Named.{waiting_fit, base_fit}
use Rattle.named.proofs.NamedLaws.{base_open, waiting_room}
use Rattle.links.specs.Send.{took}
use Rattle.paper.specs.Calls.{first}
use Rattle.register.proofs.Numbers.{first_passed, or_none}
use Rattle.wire.specs.Wire.{half_limit, word_limit, Below}
use Rattle.wire.proofs.WireLaws.{below_none, below_more}
use Rattle.frame.specs.declared.Route.{Route}
use Rattle.frame.specs.Frame.{encode_frame, frame_size, decode_frame, accepted, meant_body}
use Rattle.frame.specs.Promises.{route_in, untaken, link_read, bad_count, writer_number}
use Rattle.frame.specs.Stretch.{Sendable}
use Rattle.frame.specs.Taken.{takes_all, standing_in}
use Rattle.frame.proofs.PromiseLaws.{route_ready, ready_known, read_link}
use Rattle.frame.proofs.Theorems.{reads_back}
use Rattle.frame.proofs.TakenLaws.{stands_in}

-- what a writer that is done has found
pub record Found (l : List ℕ) (d s from count : ℕ) : Type 0 where
  pub base : base_fit l ≡ true
  pub depot : d < (counts_of l).depots
  pub sender : from < (counts_of l).depots
  pub shelf : s < (counts_of l).shelves
  pub link : waiting_fit (counts_of l) l s from (link_of s from d) ≡ true
  pub some : 1 ≤ count
  pub few : count ≤ 16
  pub waits : taken l (link_of s from d) + count ≤ held l (link_of s from d)

pub writer_open : (l : List ℕ) (d s from count room : ℕ) → writer_number l d s from count room ≡ 0 → Found l d s from count
unfolding writer_number link_read bad_count
writer_open l d s from count room h =
    let a = first_passed (not (link_read l d s from)) 1 _ (omega arith) h in
    let b = first_passed (leb (counts_of l).depots d || leb (counts_of l).depots from) 2 _ (omega arith) a.1 in
    let c = first_passed (leb (counts_of l).shelves s) 3 _ (omega arith) b.1 in
    let e = first_passed (eqb d from) 6 _ (omega arith) c.1 in
    let g = first_passed (leb (held l (link_of s from d)) (taken l (link_of s from d))) 7 _ (omega arith) e.1 in
    let k = first_passed (bad_count count (held l (link_of s from d) - taken l (link_of s from d))) 101 _ (omega arith) g.1 in
    let o = or_none (leb (counts_of l).depots d) _ b.0 in
    let hd = leb-false _ _ o.0 in
    let ho = leb-false _ _ o.1 in
    let hs = leb-false _ _ c.0 in
    let z = or_none (eqb count 0) _ k.0 in
    let y = or_none (ltb 16 count) _ z.1 in
    let r : link_read l d s from ≡ true = not-false _ a.0 in
    let p : base_fit l ≡ true = and_left (base_fit l) _ r in
    let v : eqb d from || waiting_fit (counts_of l) l s from (link_of s from d) ≡ true = sym (read_link l d s from count room p hd ho hs) ∙ r in
    let w : taken l (link_of s from d) < held l (link_of s from d) = leb-false _ _ g.0 in
    let under : count ≤ held l (link_of s from d) - taken l (link_of s from d) = ltb-false (held l (link_of s from d) - taken l (link_of s from d)) count y.1 in
    record {
      base = p;
      depot = hd;
      sender = ho;
      shelf = hs;
      link = sym (or_next _ e.0) ∙ v;
      some = let n = eqb-false count 0 z.0 in omega (arith, n);
      few = ltb-false 16 count y.0;
      waits = omega (arith, under, w);
    }

-- words of a part are words
below_take : (n : ℕ) (l : List ℕ) → Below word_limit l → Below word_limit (take n l)
below_take zero l b = below_none _ (lit< tt)
below_take (suc n) [] b = below_none _ (lit< tt)
below_take (suc n) (x ∷ l) b = below_more _ x (take n l) (b.at 0) (below_take n l (record { at = λ i. b.at (suc i) }))

part_words : (l : List ℕ) (a n : ℕ) → Below word_limit l → Below word_limit (part l a n)
unfolding part
part_words l a n b = below_take n (drop a l) (record { at = λ i. rw (get_or-drop a l i 0) (b.at (a + i)) })

pub record Carried (l : List ℕ) (d s from count serial : ℕ) : Type 0 where
  -- the box that expects the frame is handed the messages
  pub accepted : decode_frame (route_in l d s from) serial (encode_frame (route_in l d s from) serial count (untaken l d s from)) ≡ accepted count
      (meant_body (route_in l d s from) count (untaken l d s from))
  -- and taking them makes of it what as many takes make of the link
  pub taken :
      takes_all (route_in l d s from) count (meant_body (route_in l d s from) count (untaken l d s from)) (standing_in (route_in l d s from) l)
      ≡ standing_in (route_in l d s from) (times count (λ i b. took d s from b) l)

pub carried : (l : List ℕ) (d s from count serial room : ℕ) → Below word_limit l → serial < half_limit → writer_number l d s from count room ≡ 0 → Carried l d s from count serial
unfolding waiting_fit
carried l d s from count serial room b n h =
    let w = writer_open l d s from count room h in
    let ready = route_ready l d s from w.base w.depot w.sender w.shelf in
    let q : ℕ = link_of s from d in
    let fits : (i : ℕ) → i < count → message_fit (counts_of l) s from (slot l q (taken l q + i)) ≡ true = λ i k. every_at (held l q - taken l q) _
    (and_right (head_fit l q) _ w.link) i (omega (arith, w.waits)) in
    record {
      accepted = reads_back (route_in l d s from) serial count (untaken l d s from) (ready_known _ ready) n
          (record { some = w.some; few = w.few; fit = fits; words = λ i k. part_words l (slot_at q (taken l q + i)) 10 b });
      taken = sym (stands_in (route_in l d s from) l count ready (base_open l w.base).full (waiting_room (counts_of l) l s from q w.link) w.waits);
    }
