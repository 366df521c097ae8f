-- Demand 1 for books: after every history the book is fit, what a promise leaves open is one reply and one book, and a refused call moves nothing.
-- Assumes nothing.
use Prim.Native.Nat.{ℕ, ◌<◌}
use native.Mathlib.Omega.{arith}
use mathlib.Core.Path.{◌≡◌, refl, sym, ◌∙◌, ap}
use mathlib.Core.Logic.{inr}
use mathlib.Core.Bool.{true}
use mathlib.Core.List.{List, ◌∷◌}
use lib.Dec.{eqb}
use borrow.Author.Tests.{eq-eqb}
use Rattle.loops.proofs.BoolLaws.{pick_true}
use Rattle.loops.proofs.LoopLaws.{times_keeps}
use Rattle.order.proofs.VectorLaws.{length_merged, merged_other}
use Rattle.book.specs.declared.parts.Counts.{Counts}
use Rattle.book.specs.Layout.{stored_at, crew_at, counts_of, home, stored}
use Rattle.fit.specs.Fit.{fit}
use Rattle.shelf.proofs.FrameLaws.{part_off}
use Rattle.register.specs.Answers.{told}
use Rattle.register.specs.Calls.{settled_home, read_record, read_book}
use Rattle.register.specs.Promises as promises
use Rattle.register.specs.Table as table
use Rattle.register.proofs.Numbers.{read_done}
use Rattle.upkeep.specs.Requests.{call, number_at, done_answer, reply_to, changed_by, book_after}
use Rattle.upkeep.proofs.NeverBadBook.{fit_number}
use Rattle.upkeep.proofs.NeverBadAnswer.{settled, refused_stays}
use Rattle.model.specs.Parts as model
use Rattle.model.specs.Parts.{State}
use Rattle.model.specs.Rules as rules
use Rattle.paper.specs.Calls.{Call, read, write, tick, take, refresh, move, list, reads, answer_by}
use Rattle.model.specs.Calls.{refusal, reading, listing, paged, acted}
use Rattle.model.specs.System.{after, run}
use Rattle.model.proofs.Places.{put_other}
use Rattle.bridge.specs.View.{to_model}
use Rattle.bridge.specs.Systems.{of_books}
use Rattle.bridge.specs.Demands.{Demand1}
use Rattle.bridge.proofs.Basics.{pick_then, pick_ap, pick_same}
use Rattle.bridge.proofs.Sound.{sound}
use Rattle.bridge.proofs.Numbers.{step_state}
use Rattle.bridge.proofs.Agrees.{sound_by, home_by, home_below_by}
use Rattle.bridge.proofs.Followed.{followed}

-- ---- homes stay, but for a move

module _ (π : model.Counts) where
  acted_home : (σ : State) (q : Call) (c : ℕ) → ((d : ℕ) → q ≡ move c d → ⊥) → (acted π σ q).state.home c ≡ σ.home c
  unfolding acted reading listing paged rules.send rules.emit rules.settle rules.keep model.set_shelf model.set_crew model.set_home
  acted_home σ (read b k) c n = refl
  acted_home σ (write b k payload) c n = refl
  acted_home σ (tick d s) c n = refl
  acted_home σ (take d s from) c n = refl
  acted_home σ (refresh d s) c n = refl
  acted_home σ (list b ks) c n = times_keeps (λ (τ : State). τ.home c ≡ σ.home c) π.shelves _ σ (λ s τ k e. e) refl
  acted_home σ (move b d) c n = put_other b d σ.home c (λ e. n d (ap (λ (x : ℕ). move x d) (sym e)))

  run_home : (homes : List ℕ) (h : List Call) (q : Call) (c : ℕ) → ((d : ℕ) → q ≡ move c d → ⊥) → (run π homes (q ∷ h)).home c ≡ (run π homes h).home c
  unfolding after
  run_home homes h q c n =
      let σ = run π homes h in
      ap (λ (τ : State). τ.home c) (step_state π σ q)
      ∙ pick_ap (λ (τ : State). τ.home c) (eqb (refusal π σ q) 0) (acted π σ q).state σ
      ∙ pick_then (eqb (refusal π σ q) 0) (σ.home c) (λ t. acted_home σ q c n)
      ∙ pick_same (eqb (refusal π σ q) 0) (σ.home c)

-- ---- the words of a read

-- what is stored is no word of a crew's vector
read_stores : (l : List ℕ) → fit l ≡ true → (c k : ℕ) → c < (counts_of l).crews → stored (read_book l c k) (home l c) k ≡ read_record l c k
unfolding read_book read_record
read_stores l F c k kc =
    let S = sound l F in
    let a = S.small.depots in let b = S.small.crews in
    let D = (counts_of l).depots in
    part_off _ (settled_home l c k) (stored_at (home l c) k) 9 (length_merged D D _ (crew_at c) (settled_home l c k))
    λ j x y. merged_other D D _ (crew_at c) (settled_home l c k) j (inr (omega arith))

read_tells : (l : List ℕ) → fit l ≡ true → (c k : ℕ) → number_at l (call (read c k)) ≡ 0
    → reply_to l (call (read c k)) ≡ reads (told (counts_of l).depots (stored (book_after l (call (read c k))) (home l c) k))
unfolding number_at reply_to done_answer answer_by book_after changed_by promises.after
read_tells l F c k e =
    pick_true _ _ (eq-eqb _ 0 e)
    ∙ ap (λ (r : List ℕ). reads (told (counts_of l).depots r))
    (sym (ap (λ (m : List ℕ). stored m (home l c) k) (pick_true _ _ (eq-eqb _ 0 e)) ∙ read_stores l F c k (read_done l c k e).crew))

-- ---- the demand

pub book_demand1 : (l : List ℕ) (n : Counts) (homes : List ℕ) → table.setup_number l n homes ≡ 0 → Demand1 n homes
unfolding after
book_demand1 l n homes done = record {
  fits = λ h. (followed l n homes done h).fits;
  counts = λ h. ap back (followed l n homes done h).counts;
  homed = λ h c k. home_below_by (to_model n) _ _ (followed l n homes done h) c k;
  home_stays = λ h q c k e.
      sym (home_by (to_model n) _ _ (followed l n homes done (q ∷ h)) c k) ∙ run_home (to_model n) homes h q c e ∙ home_by (to_model n) _ _ (followed l n homes done h) c k;
  taken_held = λ h s o d ks ko kd apart. ((sound_by (to_model n) _ _ (followed l n homes done h)).links s o d ks ko kd apart).order;
  never_bad = λ h r. fit_number (after (of_books n homes) h) (followed l n homes done h).fits r;
  settled = λ h r a m c. settled c;
  tells_stored = λ h c k e.
      read_tells (after (of_books n homes) h) (followed l n homes done h).fits c k e
      ∙ ap (λ (m : Counts). reads (told m.depots (stored (after (of_books n homes) (read c k ∷ h)) (home (after (of_books n homes) h) c) k)))
      (ap back (followed l n homes done h).counts);
  refused = λ h r e. refused_stays (after (of_books n homes) h) r e;
}
  where
    back : model.Counts → Counts
    back π = record { depots = π.depots; shelves = π.shelves; bearings = π.bearings; crews = π.crews }
