-- A box that takes what it is handed has taken what the link's takes would give. Take by take: what waits is what waited without the first, so
-- message i of a frame is the one that the i-th take finds.
-- Assumes nothing.
use Prim.Native.Nat.{ℕ, zero, suc, ◌+◌, ◌-◌, ◌*◌, ◌≤◌, ◌<◌}
use native.Mathlib.Omega.{arith}
use native.Mathlib.Nat.{zero-add, le_refl}
use mathlib.Core.Path.{◌≡◌, refl, sym, ◌∙◌, ap, ap₂, subst}
use mathlib.Core.Logic.{⊎_elim}
use mathlib.Core.Bool.{Bool, true, false}
use mathlib.Core.List.{List, [], ◌∷◌, ◌++◌, map}
use lib.Dec.{eqb, lit<}
use lib.ListN.{length, get_or}
use borrow.Author.Tests.{eq-eqb, ne_eqb, eqb-true, eqb-false}
use Rattle.loops.specs.Loops.{times, pick}
use Rattle.loops.proofs.BoolLaws.{decided, pick_true, pick_false}
use Rattle.loops.proofs.LoopLaws.{times_suc, times_same}
use Rattle.order.specs.Record.{vector_of}
use Rattle.book.specs.Layout.{beat_kind, seen_at, kind_of, beat_of, record_of, link_of, seen, held, taken, slot}
use Rattle.shelf.proofs.SlotLaws.{slots, slots_none, slots_suc, slots_first}
use Rattle.shelf.proofs.ShowLaws.{taken_slots, untaken_slots}
use Rattle.links.specs.Send.{beat, stamp_from, took}
use Rattle.links.proofs.SendFrame.{length_took}
use Rattle.links.proofs.TookLaws.{next_of, took_head, took_first, took_copies, took_waiting, took_seen}
use Rattle.wire.specs.Wire.{joined}
use Rattle.frame.specs.declared.Route.{Route}
use Rattle.frame.specs.Frame.{meant_copy, meant, meant_body, message_in}
use Rattle.frame.specs.Promises.{Ready}
use Rattle.frame.specs.Taken.{Standing, takes, takes_all, gathered, standing_in}
use Rattle.frame.proofs.MessageLaws.{same_entry}
use Rattle.frame.proofs.Theorems.{message_of_law}

abbrev link_in : Route → ℕ
link_in r = link_of r.shelf.0 r.from.0 r.to.0

abbrev take_in : Route → List ℕ → List ℕ
take_in r b = took r.to.0 r.shelf.0 r.from.0 b

-- ---- what a frame says of a message keeps its kind and its stamp

meant_ten : (r : Route) (m : List ℕ) → length (meant r m) ≡ 10
unfolding meant meant_copy
meant_ten r m =
    ⊎_elim
    (λ (h : eqb (kind_of m) beat_kind ≡ true). ap length (pick_true (beat (beat_of m)) (meant_copy r m) h))
    (λ (h : eqb (kind_of m) beat_kind ≡ false). ap length (pick_false (beat (beat_of m)) (meant_copy r m) h))
    (decided (eqb (kind_of m) beat_kind))

meant_kind : (r : Route) (m : List ℕ) → kind_of (meant r m) ≡ kind_of m
unfolding meant meant_copy
meant_kind r m =
    ⊎_elim
    (λ (h : eqb (kind_of m) beat_kind ≡ true). ap kind_of (pick_true (beat (beat_of m)) (meant_copy r m) h) ∙ sym (eqb-true _ _ h))
    (λ (h : eqb (kind_of m) beat_kind ≡ false). ap kind_of (pick_false (beat (beat_of m)) (meant_copy r m) h))
    (decided (eqb (kind_of m) beat_kind))

meant_stamp : (r : Route) (m : List ℕ) → Ready r → stamp_from r.from.0 (meant r m) ≡ stamp_from r.from.0 m
unfolding stamp_from meant
meant_stamp r m ready =
    ap (λ (k : ℕ). pick (eqb k beat_kind) (beat_of (meant r m)) (vector_of (record_of (meant r m)) r.from.0)) (meant_kind r m)
    ∙ ⊎_elim
    (λ (h : eqb (kind_of m) beat_kind ≡ true). pick_true _ _ h ∙ ap beat_of (pick_true (beat (beat_of m)) (meant_copy r m) h) ∙ sym (pick_true _ _ h))
    (λ (h : eqb (kind_of m) beat_kind ≡ false).
    pick_false _ _ h
    ∙ ap (λ (x : List ℕ). vector_of (record_of x) r.from.0) (pick_false (beat (beat_of m)) (meant_copy r m) h)
    ∙ same_entry r m ready.counts.depots r.from.0 ready.from
    ∙ sym (pick_false _ _ h))
    (decided (eqb (kind_of m) beat_kind))

-- ---- lists

map_append : (f : List ℕ → List ℕ) (a b : List (List ℕ)) → map f (a ++ b) ≡ map f a ++ map f b
map_append f [] b = refl
map_append f (x ∷ a) b = ap (λ (l : List (List ℕ)). f x ∷ l) (map_append f a b)

map_pick : (f : List ℕ → List ℕ) (b : Bool) (x y : List (List ℕ)) → map f (pick b x y) ≡ pick b (map f x) (map f y)
unfolding pick
map_pick f true x y = refl
map_pick f false x y = refl

gathered_slots : (f : List ℕ → List ℕ) (l : List ℕ) (q n : ℕ) → gathered n (λ i. f (slot l q i)) ≡ map f (slots l q 0 n)
unfolding gathered
gathered_slots f l q zero = ap (map f) (sym (slots_none l q 0))
gathered_slots f l q (suc n) =
    ap₂ (λ (a : List (List ℕ)) (i : ℕ). a ++ (f (slot l q i) ∷ [])) (gathered_slots f l q n) (sym (zero-add n))
    ∙ sym (ap (map f) (slots_suc l q 0 n) ∙ map_append f (slots l q 0 n) (slot l q (0 + n) ∷ []))

-- ---- one take

module _ (r : Route) (ready : Ready r) (b : List ℕ) (full : length b ≡ 16384) (room : held b (link_in r) ≤ 16) (k : taken b (link_in r) < held b (link_in r)) where
  hd : r.to.0 < 4
  hd = omega (arith, ready.to, ready.counts.depots)

  hf : r.from.0 < 4
  hf = omega (arith, ready.from, ready.counts.depots)

  next : List ℕ
  next = slot b (link_in r) (taken b (link_in r))

  copies_took :
      gathered (taken (take_in r b) (link_in r)) (λ i. meant r (slot (take_in r b) (link_in r) i))
      ≡ pick (eqb (kind_of next) beat_kind) (gathered (taken b (link_in r)) (λ i. meant r (slot b (link_in r) i)))
      (gathered (taken b (link_in r)) (λ i. meant r (slot b (link_in r) i)) ++ (meant r next ∷ []))
  unfolding taken_slots next
  copies_took =
      gathered_slots (meant r) (take_in r b) (link_in r) (taken (take_in r b) (link_in r))
      ∙ ap (map (meant r)) (took_copies r.to.0 r.shelf.0 r.from.0 b hd ready.shelf hf full room k)
      ∙ map_pick (meant r) _ _ _
      ∙ ap₂ (λ (x y : List (List ℕ)). pick (eqb (kind_of (slot b (link_in r) (taken b (link_in r)))) beat_kind) x y)
      (sym (gathered_slots (meant r) b (link_in r) (taken b (link_in r))))
      (map_append (meant r) (slots b (link_in r) 0 (taken b (link_in r))) _ ∙ ap
      (λ (x : List (List ℕ)). x ++ (meant r (slot b (link_in r) (taken b (link_in r))) ∷ [])) (sym (gathered_slots (meant r) b (link_in r) (taken b (link_in r)))))

  -- it does what taking the message does
  pub take_stands : standing_in r (take_in r b) ≡ takes r (meant r (slot b (link_in r) (taken b (link_in r)))) (standing_in r b)
  unfolding standing_in takes next
  take_stands =
      let stamp : seen (take_in r b) r.to.0 r.shelf.0 r.from.0 ≡ stamp_from r.from.0 (meant r next) = took_seen r.to.0 r.shelf.0
      r.from.0 b hd ready.shelf hf full room k ∙ sym (meant_stamp r next ready) in
      let copies = copies_took ∙ ap (λ (x : ℕ). pick (eqb x beat_kind) (gathered (taken b (link_in r)) (λ i. meant r (slot b (link_in r) i)))
      (gathered (taken b (link_in r)) (λ i. meant r (slot b (link_in r) i)) ++ (meant r next ∷ []))) (sym (meant_kind r next)) in
      λ i. record { stamp = stamp i; copies = copies i }

-- ---- take after take

-- the book b after i takes from l, where n messages waited
record After (r : Route) (l : List ℕ) (n i : ℕ) (b : List ℕ) : Type 0 where
  full : length b ≡ 16384
  room : held b (link_in r) ≤ 16
  left : held b (link_in r) ≡ taken b (link_in r) + (n - i)
  waiting : untaken_slots b (link_in r) ≡ slots l (link_in r) (taken l (link_in r) + i) (n - i)

module _ (r : Route) (ready : Ready r) (l : List ℕ) (n : ℕ) where
  one : (i : ℕ) (b : List ℕ) → i < n → After r l n i b → (slot b (link_in r) (taken b (link_in r)) ≡ slot l (link_in r) (taken l (link_in r) + i)) × After r l n (suc i) (take_in r b)
  one i b h a =
      let k : taken b (link_in r) < held b (link_in r) = omega (arith, a.left) in
      let d4 : r.to.0 < 4 = hd r ready b a.full a.room k in
      let f4 : r.from.0 < 4 = hf r ready b a.full a.room k in
      let w = took_waiting r.to.0 r.shelf.0 r.from.0 b d4 ready.shelf f4 a.full a.room k in
      let m : n - i ≡ suc (n - suc i) = omega arith in
      let v : slots l (link_in r) (taken l (link_in r) + i) (n - i) ≡ slot l (link_in r) (taken l (link_in r) + i) ∷ slots l (link_in r) (taken l (link_in r) + i + 1)
      (n - suc i) = ap (slots l (link_in r) (taken l (link_in r) + i)) m ∙ slots_first l (link_in r) (taken l (link_in r) + i) (n - suc i) in
      let both : slot b (link_in r) (taken b (link_in r)) ∷ untaken_slots (take_in r b) (link_in r) ≡ slot l (link_in r) (taken l (link_in r) + i) ∷ slots l (link_in r)
      (taken l (link_in r) + i + 1) (n - suc i) = sym w ∙ a.waiting ∙ v in
      let first : slot b (link_in r) (taken b (link_in r)) ≡ slot l (link_in r) (taken l (link_in r) + i) = cc in
      let rest : untaken_slots (take_in r b) (link_in r) ≡ slots l (link_in r) (taken l (link_in r) + i + 1) (n - suc i) = cc in
      let e : taken l (link_in r) + i + 1 ≡ taken l (link_in r) + suc i = omega arith in
      let head = took_head r.to.0 r.shelf.0 r.from.0 b d4 ready.shelf f4 a.full a.room k in
      let mark = took_first r.to.0 r.shelf.0 r.from.0 b d4 ready.shelf f4 a.full a.room k in (
        first,
        ⊎_elim
            (λ (z : eqb (kind_of (slot b (link_in r) (taken b (link_in r)))) beat_kind ≡ true).
            let hh : held (take_in r b) (link_in r) ≡ held b (link_in r) - 1 = head ∙ pick_true _ _ z in
            let tt' : taken (take_in r b) (link_in r) ≡ taken b (link_in r) = mark ∙ pick_true _ _ z in
            record {
              full = length_took r.to.0 r.shelf.0 r.from.0 b ∙ a.full;
              room = omega (arith, hh, a.room);
              left = omega (arith, hh, tt', a.left);
              waiting = rest ∙ ap (λ (x : ℕ). slots l (link_in r) x (n - suc i)) e;
            })
            (λ (z : eqb (kind_of (slot b (link_in r) (taken b (link_in r)))) beat_kind ≡ false).
            let hh : held (take_in r b) (link_in r) ≡ held b (link_in r) = head ∙ pick_false _ _ z in
            let tt' : taken (take_in r b) (link_in r) ≡ taken b (link_in r) + 1 = mark ∙ pick_false _ _ z in
            record {
              full = length_took r.to.0 r.shelf.0 r.from.0 b ∙ a.full;
              room = omega (arith, hh, a.room);
              left = omega (arith, hh, tt', a.left);
              waiting = rest ∙ ap (λ (x : ℕ). slots l (link_in r) x (n - suc i)) e;
            })
            (decided (eqb (kind_of (slot b (link_in r) (taken b (link_in r)))) beat_kind)),
      )

  many :
      (i : ℕ) → i ≤ n → After r l n 0 l →
      (standing_in r (times i (λ j b. take_in r b) l) ≡ times i (λ j y. takes r (meant r (slot l (link_in r) (taken l (link_in r) + j))) y) (standing_in r l))
      × After r l n i (times i (λ j b. take_in r b) l)
  unfolding times
  many zero h a = (refl, a)
  many (suc i) h a =
      let w = many i (omega arith) a in
      let b : List ℕ = times i (λ j c. take_in r c) l in
      let o = one i b h w.1 in (
        take_stands r ready b w.1.full w.1.room (omega (arith, w.1.left))
            ∙ ap₂ (λ (m : List ℕ) (y : Standing). takes r (meant r m) y) o.0 w.0,
        o.1,
      )

-- so frames can stand in for a link: what a box makes of the words that it is handed is what as many takes make of the link itself
pub stands_in :
    (r : Route) (l : List ℕ) (count : ℕ) → Ready r → length l ≡ 16384 → held l (link_in r) ≤ 16 → taken l (link_in r) + count ≤ held l (link_in r) →
    standing_in r (times count (λ i b. took r.to.0 r.shelf.0 r.from.0 b) l)
    ≡ takes_all r count (meant_body r count (λ i. slot l (link_in r) (taken l (link_in r) + i))) (standing_in r l)
unfolding takes_all meant_body untaken_slots
stands_in r l count ready full room h =
    let n : ℕ = held l (link_in r) - taken l (link_in r) in
    let z : taken l (link_in r) ≡ taken l (link_in r) + 0 = omega arith in
    let all : n ≡ n - 0 = omega arith in
    let start : After r l n 0 l = record { full = full; room = room; left = omega arith; waiting = ap₂ (λ (x y : ℕ). slots l (link_in r) x y) z all } in
    (many r ready l n count (omega arith) start).0
    ∙ times_same count _ _ (standing_in r l)
    (λ i y k. ap (λ (m : List ℕ). takes r m y) (sym (message_of_law count (λ j. meant r (slot l (link_in r) (taken l (link_in r) + j))) (λ j. meant_ten r _) i k)))
