-- After a round every clock of a depot is past any lower bound that they had, and every write with a stamp within that bound is stored everywhere.
-- Assumes nothing.
use Prim.Native.Nat.{ℕ, suc, ◌+◌, ◌≤◌, ◌<◌, min}
use native.Mathlib.Omega.{arith}
use native.Mathlib.Nat.{le_trans}
use mathlib.Core.Path.{◌≡◌, sym, subst}
use mathlib.Core.List.Memᴰ
use mathlib.Core.List.{List, [], ◌∷◌, ◌++◌, Memᴰ}
use Rattle.model.specs.Parts.{Counts, Write, copy, stamp, end}
use Rattle.paper.specs.Calls.{Call}
use Rattle.model.specs.Calls.{shelf_of}
use Rattle.model.specs.System.{of_model, run}
use Rattle.model.specs.Demands.{Made, Round, Rounds, begin, between, round, lowest_clock}
use Rattle.model.proofs.Places.{Other, lowest_below, lowest_end}
use Rattle.model.proofs.Showing.{AtMost, at_most_trans}
use Rattle.model.proofs.Chains.{chain_empty}
use Rattle.model.proofs.Invariant.{Stands, stored, held, coming}
use Rattle.model.proofs.Refusals.{SetUp, shelf_below, take_seven}
use Rattle.model.proofs.Histories.{inv, history_grows, call_changes, made_more}
use Rattle.model.proofs.Refreshes.{Empty, Reached, Late, reached_later, refreshes_empty, refreshes_late}
use Rattle.model.proofs.Ticks.{ticks_reach}

module _ (π : Counts) (homes : List ℕ) (u : SetUp π homes) where
  module _ {g h : List Call} (r : Round π (of_model π homes) g h) where
    -- the history before the ticks
    abbrev settled_at : List Call
    settled_at = r.refreshes ++ (r.takes ++ g)

    round_empty : Empty π homes (r.takes ++ g)
    unfolding Empty
    round_empty = λ d s o hd hs ho n. take_seven π _ d s o hd hs (record { below = ho; apart = n }) (r.emptied d s o hd hs ho n)

    round_late : (o b : ℕ) → Reached π homes g o b → (e s : ℕ) → e < π.depots → s < π.shelves → Other π.depots e o → Late π homes settled_at e s o b
    round_late o b t e s he hs a = refreshes_late π homes u r.refreshes (r.takes ++ g) e s o b he hs a r.are_refreshes round_empty (reached_later π homes u r.takes g o b t)
        (r.refreshed e s he hs)

    pub round_reaches : (o b : ℕ) → o < π.depots → Reached π homes g o b → Reached π homes h o (min (suc b) end)
    round_reaches o b ho t = subst (λ h. Reached π homes h o (min (suc b) end)) (sym r.ends)
        (ticks_reach π o b homes u ho r.ticks settled_at r.are_ticks (λ s hs. r.ticked o s ho hs) (refreshes_empty π homes u r.refreshes (r.takes ++ g) r.are_refreshes round_empty)
        (reached_later π homes u r.refreshes (r.takes ++ g) o b (reached_later π homes u r.takes g o b t)) (round_late o b t))

    made_on : (l : List Call) {f : List Call} {w : Write} → Made (of_model π homes) f w → Made (of_model π homes) (l ++ f) w
    made_on [] m = m
    made_on (q ∷ l) m = made_more π homes _ (made_on l m)

    pub round_made : {w : Write} → Made (of_model π homes) g w → Made (of_model π homes) h w
    round_made {w} m = subst (λ h. Made (of_model π homes) h w) (sym r.ends) (made_on r.ticks (made_on r.refreshes (made_on r.takes m)))

    pub round_delivers : (b : ℕ) (w : Write) → Made (of_model π homes) g w → Reached π homes g w.version.origin b → stamp w.version ≤ b → (d : ℕ) → d < π.depots
        → AtMost π.depots w.version (((run π homes h).shelf d (shelf_of π w.bearing)).store w.bearing)
    unfolding Late Empty
    round_delivers b w m t low d hd = subst (λ h. AtMost π.depots w.version (((run π homes h).shelf d (shelf_of π w.bearing)).store w.bearing)) (sym r.ends)
        (at_most_trans (by (((inv π homes u settled_at).good w (made_on r.refreshes (made_on r.takes m))).stands d hd)) ((history_grows π homes u r.ticks settled_at).store d _ _))
      where
        empty : Empty π homes settled_at
        empty = refreshes_empty π homes u r.refreshes (r.takes ++ g) r.are_refreshes round_empty

        by : Stands π (run π homes settled_at) w d → AtMost π.depots w.version (((run π homes settled_at).shelf d (shelf_of π w.bearing)).store w.bearing)
        by (stored s) = s
        by (held o i) = absurd (let l = round_late w.version.origin b t d (shelf_of π w.bearing) hd (shelf_below π u w.bearing) o w i in omega arith)
        by (coming o i) = absurd (Memᴰ.not-nil (subst (λ l. Memᴰ (copy w) l)
            (empty d (shelf_of π w.bearing) w.version.origin hd (shelf_below π u w.bearing) o.below o.apart) i))

    -- its takes leave the sender's clock as the stamp seen
    pub round_sees : (o b : ℕ) → o < π.depots → Reached π homes g o b → (d s : ℕ) → d < π.depots → s < π.shelves → Other π.depots d o → b ≤ ((run π homes h).shelf d s).seen o
    unfolding Empty Reached
    round_sees o b ho t d s hd hs a =
        let taken = r.takes ++ g in
        let all = chain_empty _ _ (round_empty d s o hd hs a.below a.apart) ((inv π homes u taken).sound.chain d s o hd hs a) in
        let low = reached_later π homes u r.takes g o b t s hs in
        let first = (history_grows π homes u r.refreshes taken).seen d s o in
        let last = (history_grows π homes u r.ticks settled_at).seen d s o in
        subst (λ h. b ≤ ((run π homes h).shelf d s).seen o) (sym r.ends) (omega arith)

  pub rounds_reach : {n : ℕ} {g h : List Call} → Rounds π (of_model π homes) n g h → (o b : ℕ) → o < π.depots → b ≤ end → Reached π homes g o b → Reached π homes h o (min (b + n) end)
  unfolding Reached
  rounds_reach begin o b ho top t s hs = let a = t s hs in omega arith
  rounds_reach (between r) o b ho top t s hs = le_trans (rounds_reach r o b ho top t s hs) ((call_changes π homes u _ _).grows.clock o s)
  rounds_reach (round {n = n} r i) o b ho top t s hs = let a = round_reaches i o (min (b + n) end) ho (rounds_reach r o b ho top t) s hs in omega arith

  pub rounds_made : {n : ℕ} {g h : List Call} {w : Write} → Rounds π (of_model π homes) n g h → Made (of_model π homes) g w → Made (of_model π homes) h w
  rounds_made begin m = m
  rounds_made (between r) m = made_more π homes _ (rounds_made r m)
  rounds_made (round r i) m = round_made i (rounds_made r m)

  -- the clocks of depot o are at least their lowest
  pub lowest_reached : (g : List Call) (o : ℕ) → Reached π homes g o (lowest_clock π (of_model π homes) g o)
  unfolding Reached lowest_clock
  lowest_reached g o s hs = lowest_below π.shelves _ s hs

  pub lowest_top : (g : List Call) (o : ℕ) → lowest_clock π (of_model π homes) g o ≤ end
  unfolding lowest_clock
  lowest_top g o = lowest_end π.shelves _

  pub rounds_deliver : {m n : ℕ} {g h : List Call} → Rounds π (of_model π homes) m g h → m ≡ suc n → (w : Write) → Made (of_model π homes) g w → (b : ℕ) → b ≤ end
      → Reached π homes g w.version.origin b → stamp w.version ≤ b + n
      → (d : ℕ) → d < π.depots → AtMost π.depots w.version (((run π homes h).shelf d (shelf_of π w.bearing)).store w.bearing)
  rounds_deliver begin e w m b top t low d hd = absurd (omega arith)
  rounds_deliver (between r) e w m b top t low d hd = at_most_trans (rounds_deliver r e w m b top t low d hd) ((call_changes π homes u _ _).grows.store d _ _)
  rounds_deliver {g = g} (round {n = k} {h = h} r i) e w m b top t low d hd =
      let good = (inv π homes u g).good w m in
      let stamped = good.rests.top w.version.origin good.rests.depot in
      round_delivers i (min (b + k) end) w (rounds_made r m) (rounds_reach r w.version.origin b good.rests.depot top t) (omega arith) d hd

  -- after one round more than the clocks of depot o need, every shelf has seen it
  pub rounds_see : {m n : ℕ} {g h : List Call} → Rounds π (of_model π homes) m g h → m ≡ suc n → (o b : ℕ) → o < π.depots → b ≤ end → Reached π homes g o b
      → (d s : ℕ) → d < π.depots → s < π.shelves → Other π.depots d o → min (b + n) end ≤ ((run π homes h).shelf d s).seen o
  rounds_see begin e o b ho top t d s hd hs a = absurd (omega arith)
  rounds_see (between r) e o b ho top t d s hd hs a = le_trans (rounds_see r e o b ho top t d s hd hs a) ((call_changes π homes u _ _).grows.seen d s o)
  rounds_see (round {n = k} r i) e o b ho top t d s hd hs a = let sees = round_sees i o (min (b + k) end) ho (rounds_reach r o b ho top t) d s hd hs a in omega arith
