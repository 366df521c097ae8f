-- Tick: what the words do is what the model does.
-- Assumes nothing.
use Prim.Native.Nat.{ℕ, suc, ◌+◌}
use native.Mathlib.Numerals.{add-one}
use native.Mathlib.Omega.{arith}
use mathlib.Core.Path.{◌≡◌, refl, sym, ◌∙◌, ap}
use mathlib.Core.Bool.{true}
use mathlib.Core.List.{List}
use Rattle.loops.specs.Loops.{pick}
use Rattle.book.specs.Layout.{clock}
use Rattle.fit.specs.Fit.{fit}
use Rattle.links.specs.Send.{beat}
use Rattle.register.specs.Table.{tick_number}
use Rattle.register.specs.Calls.{tick_book}
use Rattle.register.specs.Promises.{after}
use Rattle.register.proofs.Numbers.{tick_done}
use Rattle.upkeep.proofs.FitKept.{tick_fit_law}
use Rattle.model.specs.Parts.{heartbeat, Shelf}
use Rattle.model.specs.Rules.{send}
use Rattle.paper.specs.Calls.{tick, Answer, done, answer_by}
use Rattle.model.specs.Calls.{acted}
use Rattle.bridge.specs.View.{counts_in, message_of, shelf_at, view}
use Rattle.bridge.specs.Bridged.{Bridged}
use Rattle.bridge.proofs.Sound.{sound}
use Rattle.bridge.proofs.Looks.{shelf_here, roomy_open}
use Rattle.bridge.proofs.Numbers.{tick_number_law}
use Rattle.bridge.proofs.SendView.{sent_view, sent_below}
use Rattle.bridge.proofs.Assembly.{counts_same, view_by_law, Does, bridged_done}

module _ (l : List ℕ) (F : fit l ≡ true) (d s : ℕ) where
  does : tick_number l d s ≡ 0 → Does l (tick d s) (tick_book l d s)
  unfolding tick_book acted message_of pick shelf_at view
  does z =
      let S = sound l F in
      let o = tick_done l d s z in
      let room = roomy_open (counts_in l).depots d s l o.room in
      let stamp = clock l d s + 1 in
      let same : counts_in (tick_book l d s) ≡ counts_in l
      = counts_same l (tick_book l d s) (λ j k. sent_below (counts_in l) l S d s stamp (beat stamp) refl o.depot o.shelf room j (omega arith)) in
      record {
        leaves = view_by_law l (tick_book l d s) same
            ∙ sent_view (counts_in l) l S d s stamp (beat stamp) refl o.depot o.shelf room (add-one _)
            ∙ ap (λ (t : ℕ). send (counts_in l) d s (heartbeat t) (view l)) (add-one _ ∙ ap (λ (h : Shelf). suc h.clock) (sym (shelf_here (counts_in l) l d s o.depot o.shelf)));
        counts = same;
        fits = tick_fit_law l d s F z;
      }

  pub tick_bridge : (r : Answer) (l' : List ℕ) → r ≡ answer_by (tick_number l d s) done → l' ≡ after (tick_number l d s) (tick_book l d s) l → Bridged l (tick d s) r l'
  unfolding acted
  tick_bridge r l' answer book = bridged_done l F (tick d s) (tick_number l d s) (tick_number_law l F d s) (tick_book l d s) does refl r l' answer book
