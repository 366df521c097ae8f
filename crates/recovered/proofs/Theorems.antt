-- Whatever the bytes are, the recovered book is that of a history, and the demands hold of it.
-- Assumes nothing.
use Prim.Native.Nat.{ℕ}
use native.Mathlib.Omega.{arith}
use mathlib.Core.Path.{◌≡◌, refl, sym, ◌∙◌, ap}
use mathlib.Core.Bool.{false}
use mathlib.Core.List.{List, [], ◌∷◌, ◌++◌, map, reverse_aux}
use lib.ListN.{length}
use Rattle.paper.specs.Calls.{Call}
use Rattle.book.specs.declared.parts.Counts.{Counts}
use Rattle.named.specs.Named.{base_fit}
use Rattle.wire.specs.Wire.{byte_limit, Below}
use Rattle.upkeep.specs.Requests.{Request, setup, call, number_at, book_after, last}
use Rattle.upkeep.proofs.NeverBadAnswer.{refused_stays}
use Rattle.model.specs.System.{after}
use Rattle.bridge.specs.Histories.{book, NoneSetUp, start, refused, called, calls_in}
use Rattle.bridge.specs.Systems.{of_books}
use Rattle.bridge.proofs.LastSetup.{last_setup}
use Rattle.bridge.proofs.TheDemands.{the_demands}
use Rattle.journal.specs.Journal as journal
use Rattle.journal.specs.Journal.{Done}
use Rattle.journal.proofs.Histories.{only_histories}
use Rattle.journal.proofs.ZeroStart.{bad_book}
use Rattle.recovered.specs.Past.{HistoryOf, newest, StandsFor}

-- requests oldest first and newest first leave the same book
newest_first : (l : List ℕ) (h rs : List Request) → last (book l h) rs ≡ book l (reverse_aux rs h)
unfolding last book
newest_first l h [] = refl
newest_first l h (r ∷ rs) = newest_first l (r ∷ h) rs

book_told : (l : List ℕ) (rs : List Request) → last l rs ≡ book l (newest rs)
unfolding book
book_told l rs = newest_first l [] rs

-- ---- a history goes on

module _ (n : Counts) (homes : List ℕ) (calls : List Call) {b : List ℕ} (e : b ≡ after (of_books n homes) calls) where
  -- with later calls
  later_calls : (later : List Call) → book b (map call later) ≡ after (of_books n homes) (later ++ calls)
  unfolding book after
  later_calls [] = e
  later_calls (q ∷ later) = ap (λ (x : List ℕ). book_after x (call q)) (later_calls later)

  -- with requests among which no setup is done
  later_requests : {h : List Request} → NoneSetUp b h → book b h ≡ after (of_books n homes) (calls_in h ++ calls)
  unfolding book after calls_in
  later_requests start = e
  later_requests (refused u z) = refused_stays _ _ z ∙ later_requests u
  later_requests (called {q = q} u) = ap (λ (x : List ℕ). book_after x (call q)) (later_requests u)

  pub history_of : (m : List ℕ) → number_at m (setup n homes) ≡ 0 → HistoryOf b n homes calls
  unfolding number_at
  history_of m done = record { leaves = e; goes_on = later_calls; demands = the_demands m n homes done }

-- ---- a book that was never set up

module _ (l : List ℕ) where
  all_but_last : {r : Request} {h : List Request} → NoneSetUp l (r ∷ h) → NoneSetUp l h
  all_but_last (refused u z) = u
  all_but_last (called u) = u

  oldest : (rs h : List Request) → NoneSetUp l (reverse_aux rs h) → NoneSetUp l h
  oldest [] h u = u
  oldest (r ∷ rs) h u = all_but_last (oldest rs (r ∷ h) u)

  not_done : {n : Counts} {homes : List ℕ} → NoneSetUp l (setup n homes ∷ []) → number_at l (setup n homes) ≡ 0 → ⊥
  unfolding book
  not_done (refused u z) = z

  none_done : base_fit l ≡ false → {rs : List Request} → Done l rs → NoneSetUp l (newest rs) → rs ≡ []
  none_done f journal.none u = refl
  none_done f (journal.more {r = setup n homes} {rs = rs} b z d) u = absurd (not_done (oldest rs (setup n homes ∷ []) u) z)
  none_done f (journal.more {r = call q} b z d) u = let e : ◌≡◌ {A = ℕ} 1 0 = sym (bad_book l f q) ∙ z in absurd (omega arith)

-- ---- whatever the bytes are

pub stands_for : (l f : List ℕ) → Below byte_limit f → StandsFor l f (journal.replay (journal.start l) f)
unfolding last
stands_for l f b =
    let t = only_histories l f b in
    let same : (journal.replay (journal.start l) f).book ≡ book l (newest t.requests) = t.book ∙ book_told l t.requests in
    record {
      told = t;
      setups = last_setup l (newest t.requests);
      from_setup = λ since. history_of since.counts since.homes (calls_in since.later) (same ∙ since.leaves) (book l since.before) since.done;
      from_start = λ u own.
          history_of own.counts own.homes (calls_in (newest t.requests) ++ own.calls)
          (same ∙ later_requests own.counts own.homes own.calls own.leaves u) own.before own.done;
      from_unset = λ u z. let none = none_done l z t.history u in (t.book ∙ ap (last l) none, t.done ∙ ap length none);
    }
