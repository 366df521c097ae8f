-- What is put on the links and what they hold is computed; that depots are alike where no link holds any copy is what is proved of every history.
-- Assumes nothing.
use Prim.Native.Nat.{ℕ, ◌<◌}
use native.Mathlib.Omega.{arith}
use mathlib.Core.Path.{◌≡◌, refl, sym, subst, ap, ◌∙◌}
use mathlib.Core.Bool.{true, false}
use mathlib.Core.List.{List, [], ◌∷◌, reverse}
use lib.ListN.{take}
use Rattle.loops.specs.Loops.{every, pick}
use Rattle.paper.specs.Calls.{Call, first}
use Rattle.model.specs.Parts.{Version, Write, State, unwritten, fresh}
use Rattle.model.specs.Rules.{copies, shown_of, shown, settled, settle, storing, keep}
use Rattle.model.specs.Calls.{within, setup, shelf_of, home_shelf, entries, step, ends}
use Rattle.model.specs.System.{after, run}
use Rattle.model.specs.Cases.{counts, homes, day, pair, listing_to_b}
use Rattle.model.specs.Words.{all_refreshed, all_ticked, two_writes, first_takes, one_round, second_takes, two_rounds, duo}
use Rattle.model.specs.Links.{Sent, covered_at, Bare, NothingLost}
use Rattle.model.proofs.Linked.{puts, put_in}
use Rattle.model.proofs.Links.{sent_is, nothing_lost}
use Rattle.model.proofs.Lawful.{dominates, lawful, lawful_agrees, like, knowing, knowing_agrees}
use Rattle.model.proofs.Computed.{answers_now, ends_now, ends_computed}
use Rattle.model.proofs.Worked.{pair_rank, first_decides}
use Rattle.model.proofs.RoundsWorked.{OfLinks, all_links}
use Rattle.carried.specs.Carried.{hidden_yet, listing_end, end_of_a, end_of_b, written, twenty, thirty, taken_on, coming_on, stored_at, ListingLinks, seven, nine, ClashLinks, moved_there, written_there, here, there, MovedLinks, Carried}

lost : NothingLost counts duo
unfolding counts homes setup within first pick every
lost = nothing_lost counts homes refl

-- whoever unfolds this unfolds all that a history is computed from, but for the order
unfoldable looked : List Call → State
unfolding answers_now counts homes after step home_shelf settled shown shown_of settle storing keep copies
looked h = run counts homes h

sent_by : (h : List Call) (o s : ℕ) {l : List Write} → put_in counts homes h o s ≡ l → Sent counts duo o s h l
sent_by h o s e = subst (Sent counts duo o s h) e (sent_is counts homes h o s)

-- ---- the listing

sent_twenty : Sent counts duo 0 0 end_of_b (twenty ∷ [])
unfolding looked puts put_in listing_to_b end_of_b written twenty
sent_twenty = sent_by end_of_b 0 0 refl

sent_thirty : Sent counts duo 0 1 end_of_b (thirty ∷ [])
unfolding looked puts put_in listing_to_b end_of_b written thirty
sent_thirty = sent_by end_of_b 0 1 refl

sent_nothing : Sent counts duo 1 0 end_of_b []
unfolding looked puts put_in listing_to_b end_of_b
sent_nothing = sent_by end_of_b 1 0 refl

twenty_vector : entries 2 twenty.version.vector ≡ pair 1 0
unfolding looked listing_to_b written twenty
twenty_vector = refl

thirty_vector : entries 2 thirty.version.vector ≡ pair 2 0
unfolding looked listing_to_b written thirty
thirty_vector = refl

twenty_hidden : covered_at counts duo hidden_yet 1 0 twenty ≡ false
unfolding looked listing_to_b hidden_yet written twenty covered_at
twenty_hidden = refl

twenty_held : taken_on hidden_yet 1 0 0 ≡ twenty ∷ []
unfolding looked listing_to_b hidden_yet written twenty
twenty_held = refl

twenty_covered : covered_at counts duo listing_end 1 0 twenty ≡ true
unfolding looked listing_to_b listing_end written twenty covered_at
twenty_covered = refl

twenty_gone : taken_on listing_end 1 0 0 ≡ []
unfolding looked listing_to_b listing_end
twenty_gone = refl

thirty_coming : coming_on listing_end 1 1 0 ≡ thirty ∷ []
unfolding looked listing_to_b listing_end written thirty
thirty_coming = refl

thirty_taken : coming_on end_of_a 1 1 0 ≡ []
unfolding looked listing_to_b end_of_a
thirty_taken = refl

-- the listing's first n calls, computed with the order's laws
computed : ℕ → State
unfolding ends_now dominates lawful counts homes listing_to_b
computed n = ends_now lawful counts (fresh homes) (take n listing_to_b)

computes : (n : ℕ) → ends counts (fresh homes) (take n listing_to_b) ≡ computed n
unfolding computed
computes n = ends_computed counts lawful lawful_agrees (fresh homes) (take n listing_to_b)

after_end : run counts homes listing_end ≡ computed 11
unfolding listing_to_b listing_end after ends
after_end = computes 11

after_a : run counts homes end_of_a ≡ computed 14
unfolding listing_to_b end_of_a after ends
after_a = computes 14

after_b : run counts homes end_of_b ≡ computed 18
unfolding listing_to_b end_of_b after ends
after_b = computes 18

held_thirty : ((computed 14).shelf 1 1).taken 0 ≡ thirty ∷ []
unfolding looked computed written thirty
held_thirty = refl

none_taken : OfLinks (λ d s o. ((computed 18).shelf d s).taken o ≡ [])
unfolding looked computed
none_taken = all_links (λ d s o. ((computed 18).shelf d s).taken o ≡ []) refl refl refl refl

none_coming : OfLinks (λ d s o. copies (((computed 18).shelf d s).untaken o) ≡ [])
unfolding looked computed
none_coming = all_links (λ d s o. copies (((computed 18).shelf d s).untaken o) ≡ []) refl refl refl refl

computed_twenty : ((computed 11).shelf 1 0).store 0 ≡ twenty.version
unfolding looked computed written twenty
computed_twenty = refl

computed_thirty : ((computed 18).shelf 1 1).store 1 ≡ thirty.version
unfolding looked computed written thirty
computed_thirty = refl

computed_two : ((computed 18).shelf 1 0).store 2 ≡ unwritten
unfolding looked computed
computed_two = refl

thirty_held : taken_on end_of_a 1 1 0 ≡ thirty ∷ []
thirty_held = ap (λ (σ : State). (σ.shelf 1 1).taken 0) after_a ∙ held_thirty

listing_bare : Bare counts duo end_of_b
unfolding counts
listing_bare = record {
  taken = subst (λ (σ : State). OfLinks (λ d s o. (σ.shelf d s).taken o ≡ [])) (sym after_b) none_taken;
  coming = subst (λ (σ : State). OfLinks (λ d s o. copies ((σ.shelf d s).untaken o) ≡ [])) (sym after_b) none_coming;
}

-- where no link holds any copy both depots store the same
alike_at : (h : List Call) → Bare counts duo h → (k : ℕ) → k < 4 → stored_at h 0 k ≡ stored_at h 1 k
unfolding counts
alike_at h bare k hk = lost.alike h bare 0 1 k (omega arith) (omega arith) hk

-- ---- (f)

sent_seven : Sent counts duo 0 0 two_rounds (seven ∷ [])
unfolding looked puts put_in all_refreshed all_ticked two_writes first_takes second_takes one_round two_rounds written seven
sent_seven = sent_by two_rounds 0 0 refl

sent_nine : Sent counts duo 1 0 two_rounds (nine ∷ [])
unfolding looked puts put_in all_refreshed all_ticked two_writes first_takes second_takes one_round two_rounds written nine
sent_nine = sent_by two_rounds 1 0 refl

seven_held : taken_on one_round 1 0 0 ≡ seven ∷ []
unfolding looked all_refreshed all_ticked two_writes first_takes one_round written seven
seven_held = refl

nine_held : taken_on one_round 0 0 1 ≡ nine ∷ []
unfolding looked all_refreshed all_ticked two_writes first_takes one_round written nine
nine_held = refl

-- one depot still stores the 7, the other the 9
differ : stored_at one_round 0 0 ≡ stored_at one_round 1 0 → ⊥
unfolding ends_now dominates lawful counts homes all_refreshed all_ticked two_writes first_takes one_round after ends
differ e = let days = sym (at_first 0) ∙ ap (λ (v : Version). v.payload.value) e ∙ at_first 1 in let n : ◌≡◌ {A = ℕ} 7 9 = days in omega arith
  where
    at_first : (d : ℕ) → (duo.store (after duo one_round) d 0).payload.value ≡ (((ends_now lawful counts (fresh homes) (reverse one_round)).shelf d 0).store 0).payload.value
    at_first d = ap (λ (σ : State). ((σ.shelf d 0).store 0).payload.value) (ends_computed counts lawful lawful_agrees (fresh homes) (reverse one_round))

clash_bare : Bare counts duo two_rounds
unfolding looked all_refreshed all_ticked two_writes first_takes second_takes one_round two_rounds
clash_bare = record {
  taken = all_links (λ d s o. taken_on two_rounds d s o ≡ []) refl refl refl refl;
  coming = all_links (λ d s o. coming_on two_rounds d s o ≡ []) refl refl refl refl;
}

seven_stored : stored_at two_rounds 1 0 ≡ seven.version
unfolding ends_now dominates lawful like knowing pair_rank counts homes all_refreshed all_ticked two_writes first_takes second_takes one_round two_rounds written seven after ends
seven_stored = ap (λ (σ : State). (σ.shelf 1 0).store 0)
    (ends_computed counts (knowing 2 (pair_rank 1 0 0) (pair_rank 0 1 1)) (knowing_agrees 2 (pair_rank 1 0 0) (pair_rank 0 1 1) first_decides) (fresh homes) (reverse two_rounds))

-- ---- a crew that moves

sent_here : Sent counts duo 0 0 written_there (here ∷ [])
unfolding looked puts put_in written_there moved_there written here
sent_here = sent_by written_there 0 0 refl

sent_there : Sent counts duo 1 0 written_there (there ∷ [])
unfolding looked puts put_in written_there moved_there written there
sent_there = sent_by written_there 1 0 refl

comes_back : coming_on written_there 0 0 1 ≡ there ∷ []
unfolding looked written_there moved_there written there
comes_back = refl

pub carried : Carried
unfolding counts shelf_of
carried = record {
  listed = record {
    sent_twenty = sent_twenty;
    sent_thirty = sent_thirty;
    sent_nothing = sent_nothing;
    twenty_vector = twenty_vector;
    thirty_vector = thirty_vector;
    twenty_hidden = twenty_hidden;
    twenty_held = twenty_held;
    twenty_covered = twenty_covered;
    twenty_gone = twenty_gone;
    twenty_stored = ap (λ (σ : State). (σ.shelf 1 0).store 0) after_end ∙ computed_twenty;
    thirty_coming = thirty_coming;
    thirty_taken = thirty_taken;
    thirty_held = thirty_held;
    bare = listing_bare;
    thirty_alike = alike_at end_of_b listing_bare 1 (omega arith);
    thirty_stored = ap (λ (σ : State). (σ.shelf 1 1).store 1) after_b ∙ computed_thirty;
    two_alike = alike_at end_of_b listing_bare 2 (omega arith);
    two_unwritten = ap (λ (σ : State). (σ.shelf 1 0).store 2) after_b ∙ computed_two;
  };
  clash = record {
    sent_seven = sent_seven;
    sent_nine = sent_nine;
    seven_held = seven_held;
    nine_held = nine_held;
    not_yet = differ;
    bare = clash_bare;
    alike = alike_at two_rounds clash_bare 0 (omega arith);
    seven_stored = seven_stored;
  };
  moved = record { sent_here = sent_here; sent_there = sent_there; comes_back = comes_back };
}
