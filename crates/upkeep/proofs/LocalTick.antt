-- A tick is local.
-- Assumes nothing.
use Prim.Native.Nat.{ℕ, ◌+◌}
use native.Mathlib.Omega.{arith}
use mathlib.Core.Path.{◌≡◌, refl, ◌∙◌, ap, subst₂}
use mathlib.Core.Logic.{◌⊎◌, inl, inr, ⊎_elim}
use mathlib.Core.List.{List}
use mathlib.Core.Bool.{not}
use lib.Dec.{leb}
use lib.ListN.{length, get_or}
use borrow.Author.Tests.{leb-false, not-false}
use Rattle.book.specs.declared.parts.Counts.{Counts}
use Rattle.book.specs.Layout.{end, counts_of, clock}
use Rattle.named.specs.Named.{tick_parts, tick_fit}
use Rattle.named.proofs.NamedLaws.{base_open, tick_based}
use Rattle.links.specs.Send.{roomy, sent, beat}
use Rattle.links.proofs.SendFrame.{length_sent, sent_off}
use Rattle.paper.specs.Calls.{tick}
use Rattle.register.specs.Table.{tick_number}
use Rattle.register.specs.Calls.{tick_book}
use Rattle.register.proofs.Numbers.{TickDone, tick_done}
use Rattle.register.proofs.FitReady.{roomy_free}
use Rattle.upkeep.specs.Requests.{call, number_at, done_answer, changed_by}
use Rattle.upkeep.specs.Local.{Agree, BaseWord, TickWord, of_clock, of_head_out, Named, based, by_tick}
use Rattle.upkeep.specs.Local.{SentWord, the_clock, the_count, the_slot, Changed, ticking, Alike}
use Rattle.upkeep.proofs.LocalBasics.{or_alike, and_alike, first_alike, agree_fewer}
use Rattle.upkeep.proofs.LocalParts.{counts_agree, base_agrees, clock_agrees, count_held, tick_parts_agree, room_agrees}
use Rattle.upkeep.proofs.LocalMoves.{SlotsOut, sent_agrees}
use Rattle.upkeep.proofs.LocalAlike.{alike_by}

-- what sending writes is named, but for the free slots
pub sent_named :
    (S : ℕ → Type 0) (n : Counts) (l : List ℕ) (d s : ℕ) → ((j : ℕ) → TickWord n d s j → S j) → (j : ℕ) → SentWord n l d s j →
    S j ⊎ SlotsOut n.depots d s l j
sent_named S n l d s W j (the_clock e) = inl (W j (of_clock e))
sent_named S n l d s W j (the_count to k f e) = inl (W j (of_head_out to k f (omega arith, omega arith)))
sent_named S n l d s W j (the_slot to k f i) = inr (to, k, f, i)

ticks : (l : List ℕ) (d s j : ℕ) → Changed l (call (tick d s)) j → SentWord (counts_of l) l d s j
ticks l d s j (ticking w) = w

module _ (S : ℕ → Type 0) (l m : List ℕ) (d s : ℕ) (H : (j : ℕ) → Named l (call (tick d s)) j → S j) (A : Agree S l m) where
  B : (j : ℕ) → BaseWord l j → S j
  B j x = H j (based x)

  counts : counts_of l ≡ counts_of m
  counts = counts_agree S l m A B

  fits : tick_fit l d s ≡ tick_fit m d s
  unfolding tick_fit
  fits =
      and_alike (base_agrees S l m A B) λ f.
      or_alike (ap (λ (n : Counts). leb n.depots d) counts) λ a.
      or_alike (ap (λ (n : Counts). leb n.shelves s) counts) λ b.
      tick_parts_agree S l m A (counts_of l) d s (λ j x. H j (by_tick f (leb-false _ _ a) (leb-false _ _ b) x)) ∙ ap (λ (n : Counts). tick_parts n m d s) counts

  number : tick_number l d s ≡ tick_number m d s
  unfolding tick_number
  number =
      first_alike 1 _ _ (ap not fits) λ z.
      first_alike 2 _ _ (ap (λ (n : Counts). leb n.depots d) counts) λ a.
      first_alike 3 _ _ (ap (λ (n : Counts). leb n.shelves s) counts) λ b.
      let f = tick_based l d s (not-false _ z) in
      let W : (j : ℕ) → TickWord (counts_of l) d s j → S j = λ j x. H j (by_tick f (leb-false _ _ a) (leb-false _ _ b) x) in
      first_alike 10 _ _ (ap (leb end) (clock_agrees S l m A (counts_of l) d s W)) λ c.
      first_alike 9 _ _ (ap not (room_agrees S l m A (counts_of l) d s W ∙ ap (λ (n : Counts). roomy n.depots d s m) counts)) λ e. refl

  book : TickDone l d s → Agree (λ (j : ℕ). S j ⊎ Changed l (call (tick d s)) j) (tick_book l d s) (tick_book m d s)
  unfolding tick_book
  book t =
      let f = tick_based l d s t.fits in
      let O = base_open l f in
      let n = (counts_of l).depots in
      let F = roomy_free (counts_of l) l O.within d s t.depot t.shelf t.room in
      let W : (j : ℕ) → TickWord (counts_of l) d s j → S j = λ j x. H j (by_tick f t.depot t.shelf x) in
      let st = clock l d s + 1 in
      let C = sent_agrees S n d s st (beat st) refl l m O.full F (count_held S l m A (counts_of l) d s W) A in
      agree_fewer _ _ _ _ (λ j k. ⊎_elim (λ (y : S j). inl y) (λ (y : Changed l (call (tick d s)) j). sent_named S (counts_of l) l d s W j (ticks l d s j y)) k)
      (subst₂ (λ (k z : ℕ). Agree (λ (j : ℕ). S j ⊎ SlotsOut n d s l j) (sent n d s st (beat st) l) (sent k d s z (beat z) m))
      (ap (λ (k : Counts). k.depots) counts) (ap (λ (k : ℕ). k + 1) (clock_agrees S l m A (counts_of l) d s W)) C)

  pub tick_alike : Alike S l m (call (tick d s))
  unfolding number_at done_answer changed_by
  tick_alike = alike_by S l m (call (tick d s)) number (λ z. refl) (λ z. book (tick_done l d s z)) A

module _ (l : List ℕ) (d s : ℕ) where
  pub tick_stays : (j : ℕ) → number_at l (call (tick d s)) ≡ 0 → (Changed l (call (tick d s)) j → ⊥) → get_or (changed_by l (call (tick d s))) j 0 ≡ get_or l j 0
  unfolding number_at changed_by tick_book
  tick_stays j z out =
      let t = tick_done l d s z in
      let O = base_open l (tick_based l d s t.fits) in
      sent_off (counts_of l).depots d s _ (beat _) l (omega arith) (roomy_free (counts_of l) l O.within d s t.depot t.shelf t.room) j
      (λ e. out (ticking (the_clock e))) λ to k f. (λ a b. out (ticking (the_slot to k f (a, b))), λ e. out (ticking (the_count to k f e)))

  pub tick_size : length (changed_by l (call (tick d s))) ≡ length l
  unfolding changed_by tick_book
  tick_size = length_sent _ d s _ (beat _) l
