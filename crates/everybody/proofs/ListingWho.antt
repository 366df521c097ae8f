-- Who has it, asked of the listing's book: the model computes what is stored, and the bridge carries it over.
-- Assumes nothing.
use Prim.Native.Nat.{ℕ, ◌+◌, ◌*◌, ◌%◌, ◌≤◌, ◌<◌}
use mathlib.Core.Path.{◌≡◌, refl, sym, ◌∙◌, ap, ap₂, subst}
use mathlib.Core.Bool.{Bool, true, false, not}
use mathlib.Core.List.{List, map}
use lib.Dec.{eqb, lit≤}
use lib.ListN.{length}
use borrow.Author.Tests.{eq-eqb}
use Rattle.loops.specs.Loops.{pick}
use Rattle.loops.proofs.BoolLaws.{pick_true, pick_false}
use Rattle.order.specs.Order.{above}
use Rattle.order.proofs.OrderLaws.{above_irrefl, above_unwritten}
use Rattle.book.specs.Layout.{book_words, counts_of}
use Rattle.register.specs.Calls.{set_up}
use Rattle.paper.specs.Calls.{Call}
use Rattle.model.specs.Parts.{Counts, State, Version, rank, fresh}
use Rattle.model.specs.Calls.{ends}
use Rattle.model.specs.Cases as cases
use Rattle.model.proofs.Lawful.{dominates, lawful, lawful_agrees}
use Rattle.model.proofs.Computed.{ends_now, ends_computed}
use Rattle.upkeep.specs.Requests.{call, last}
use Rattle.bridge.specs.View.{to_model}
use Rattle.bridge.specs.Listing.{counts, homes}
use Rattle.bridge.proofs.Decoded.{version_above}
use Rattle.bridge.proofs.Agrees.{Agrees, store_by}
use Rattle.bridge.proofs.Followed.{agrees_start, last_model}
use Rattle.bridge.proofs.ListingHolds.{set, set_book}
use Rattle.who.specs.Bits.{mask_of, count_of}
use Rattle.who.specs.Who.{has_it, who_number, has, refused, holders, who_told}
use Rattle.who.proofs.WhoLaws.{who_depot, who_key}
use Rattle.who.proofs.Telling.{fit_number, own_has}
use Rattle.named.proofs.NamedLaws.{fit_base}
use Rattle.everybody.specs.Listing.{listing_end, book_at, WhoListed}

-- what depot d stores of bearing k in a state is above what depot x does
over : State → ℕ → ℕ → ℕ → Bool
over σ d k x = above 2 (rank ((σ.shelf d (k % 2)).store k)) (rank ((σ.shelf x (k % 2)).store k))

-- after the listing's calls, as the model computes them
over_now : List Call → ℕ → ℕ → ℕ → Bool
unfolding ends_now over
over_now calls d k x = over (ends_now lawful cases.counts (fresh cases.homes) calls) d k x

module _ (l : List ℕ) (full : length l ≡ book_words) where
  module _ (calls : List Call) where
    agrees : Agrees cases.counts (ends cases.counts (fresh cases.homes) calls) (book_at l calls)
    unfolding book_at last counts homes cases.counts cases.homes
    agrees =
        subst (λ (b : List ℕ). Agrees (to_model counts) (ends (to_model counts) (fresh homes) calls) (last b (map call calls))) (sym (set_book l full))
        (last_model (to_model counts) (fresh homes) (set_up counts homes) calls (agrees_start l counts homes (set l full)))

    two : ((counts_of (book_at l calls)).depots ≡ 2) × ((counts_of (book_at l calls)).bearings ≡ 4)
    unfolding cases.counts
    two = (ap (λ (p : Counts). p.depots) agrees.counts, ap (λ (p : Counts). p.bearings) agrees.counts)

    -- a bit, by what the model computes
    bit : (d k x : ℕ) → d < 2 → k < 4 → x < 2 → has_it 2 (book_at l calls) d k x ≡ not (over (ends cases.counts (fresh cases.homes) calls) d k x)
    unfolding has_it over cases.counts
    bit d k x hd hk hx =
        ap not
        (sym (version_above 2 _ _)
        ∙ ap₂ (λ (a b : Version). above 2 (rank a) (rank b)) (sym (store_by cases.counts _ _ agrees d k hd hk)) (sym (store_by cases.counts _ _ agrees x k hx hk)))

    bit_now : (d k x : ℕ) → d < 2 → k < 4 → x < 2 → has_it 2 (book_at l calls) d k x ≡ not (over_now calls d k x)
    unfolding over_now
    bit_now d k x hd hk hx = bit d k x hd hk hx ∙ ap (λ (σ : State). not (over σ d k x)) (ends_computed cases.counts lawful lawful_agrees (fresh cases.homes) calls)

    -- two bits are the mask and the count
    told : (d k : ℕ) → d < 2 → k < 4 → {p q : Bool} → has_it 2 (book_at l calls) d k 0 ≡ p → has_it 2 (book_at l calls) d k 1 ≡ q
        → who_told (book_at l calls) d k ≡ has (pick q 1 0 * 2 + (pick p 1 0 * 1 + 0)) (pick q 1 0 + (pick p 1 0 + 0))
    unfolding who_told holders mask_of count_of
    told d k hd hk {p} {q} zero one =
        let b = book_at l calls in
        let done = fit_number b d k agrees.fits (subst (λ (m : ℕ). d < m) (sym two.0) hd) (subst (λ (m : ℕ). k < m) (sym two.1) hk) in
        pick_true _ _ (eq-eqb _ 0 done) ∙ ap (λ (m : ℕ). has (mask_of m (has_it m b d k)) (count_of m (has_it m b d k))) two.0
        ∙ ap₂ (λ (p q : Bool). has (pick q 1 0 * 2 + (pick p 1 0 * 1 + 0)) (pick q 1 0 + (pick p 1 0 + 0))) zero one

  -- the 30 of depot 0 is above what depot 1 stores at the listing's end, and no longer after (b)
  thirty_above : over_now listing_end 0 1 1 ≡ true
  unfolding over_now ends_now dominates lawful cases.counts cases.homes cases.listing_to_b listing_end
  thirty_above = lawful_agrees 2 _ _ ∙ refl

  twenty_same : over_now listing_end 0 0 1 ≡ false
  unfolding over_now ends_now dominates lawful cases.counts cases.homes cases.listing_to_b listing_end
  twenty_same = above_irrefl 2 _

  none_above : over_now listing_end 1 1 0 ≡ false
  unfolding over_now ends_now dominates lawful cases.counts cases.homes cases.listing_to_b listing_end
  none_above = above_unwritten 2 _ _ refl

  thirty_same : over_now cases.listing_to_b 0 1 1 ≡ false
  unfolding over_now ends_now dominates lawful cases.counts cases.homes cases.listing_to_b
  thirty_same = above_irrefl 2 _

  refused_as : (b : List ℕ) (d k : ℕ) {m : ℕ} → who_number b d k ≡ m → eqb m 0 ≡ false → who_told b d k ≡ refused m
  unfolding who_told
  refused_as b d k e z = pick_false _ _ (ap (λ (m : ℕ). eqb m 0) e ∙ z) ∙ ap refused e

  pub who_listed : WhoListed l
  unfolding pick
  who_listed = record {
    twenty = told listing_end 0 0 (lit≤ tt) (lit≤ tt) (own_has 2 _ 0 0) (bit_now listing_end 0 0 1 (lit≤ tt) (lit≤ tt) (lit≤ tt) ∙ ap not twenty_same);
    thirty = told listing_end 0 1 (lit≤ tt) (lit≤ tt) (own_has 2 _ 0 1) (bit_now listing_end 0 1 1 (lit≤ tt) (lit≤ tt) (lit≤ tt) ∙ ap not thirty_above);
    unwritten = told listing_end 1 1 (lit≤ tt) (lit≤ tt) (bit_now listing_end 1 1 0 (lit≤ tt) (lit≤ tt) (lit≤ tt) ∙ ap not none_above) (own_has 2 _ 1 1);
    shown = told cases.listing_to_b 0 1 (lit≤ tt) (lit≤ tt) (own_has 2 _ 0 1) (bit_now cases.listing_to_b 0 1 1 (lit≤ tt) (lit≤ tt) (lit≤ tt) ∙ ap not thirty_same);
    no_depot = refused_as _ 2 4 (who_depot _ 2 4 (fit_base _ (agrees listing_end).fits) (subst (λ (m : ℕ). m ≤ 2) (sym (two listing_end).0) (lit≤ tt))) refl;
    no_bearing = refused_as _ 1 4
        (who_key _ 1 4 (fit_base _ (agrees listing_end).fits) (subst (λ (m : ℕ). 1 < m) (sym (two listing_end).0) (lit≤ tt))
        (subst (λ (m : ℕ). m ≤ 4) (sym (two listing_end).1) (lit≤ tt))) refl;
  }
