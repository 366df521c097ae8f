-- Take: what the words do is what the model does.
-- Assumes nothing.
use Prim.Native.Nat.{ℕ}
use native.Mathlib.Omega.{arith}
use mathlib.Core.Path.{◌≡◌, refl, sym, ◌∙◌, ap}
use mathlib.Core.Bool.{true}
use mathlib.Core.List.{List}
use Rattle.fit.specs.Fit.{fit}
use Rattle.register.specs.Table.{take_number}
use Rattle.register.specs.Calls.{take_book}
use Rattle.register.specs.Promises.{after}
use Rattle.register.proofs.Numbers.{take_done}
use Rattle.upkeep.proofs.FitKept.{take_fit_law}
use Rattle.model.specs.Parts.{Shelf, set_shelf}
use Rattle.model.specs.Rules.{taking}
use Rattle.paper.specs.Calls.{take, Answer, done, answer_by}
use Rattle.model.specs.Calls.{acted}
use Rattle.model.proofs.Places.{Other}
use Rattle.bridge.specs.View.{counts_in, view}
use Rattle.bridge.specs.Bridged.{Bridged}
use Rattle.bridge.proofs.Sound.{sound}
use Rattle.bridge.proofs.Looks.{shelf_here}
use Rattle.bridge.proofs.Numbers.{take_number_law}
use Rattle.bridge.proofs.TakeView.{took_view, took_below}
use Rattle.bridge.proofs.Assembly.{counts_same, view_by_law, Does, bridged_done}

module _ (l : List ℕ) (F : fit l ≡ true) (d s from : ℕ) where
  does : take_number l d s from ≡ 0 → Does l (take d s from) (take_book l d s from)
  unfolding take_book acted view
  does z =
      let S = sound l F in
      let o = take_done l d s from z in
      let sender : Other (counts_in l).depots d from = record { below = o.sender; apart = λ e. o.apart (sym e) } in
      let same : counts_in (take_book l d s from) ≡ counts_in l
      = counts_same l (take_book l d s from) (λ j k. took_below (counts_in l) l S d s from o.depot o.shelf sender o.more j (omega arith)) in
      record {
        leaves = view_by_law l (take_book l d s from) same
            ∙ took_view (counts_in l) l S d s from o.depot o.shelf sender o.more
            ∙ ap (λ (h : Shelf). set_shelf d s (taking from (h.untaken from) h) (view l)) (sym (shelf_here (counts_in l) l d s o.depot o.shelf));
        counts = same;
        fits = take_fit_law l d s from F z;
      }

  pub take_bridge : (r : Answer) (l' : List ℕ) → r ≡ answer_by (take_number l d s from) done → l' ≡ after (take_number l d s from) (take_book l d s from) l → Bridged l (take d s from) r l'
  unfolding acted
  take_bridge r l' answer book =
      bridged_done l F (take d s from) (take_number l d s from) (take_number_law l F d s from) (take_book l d s from) does refl r l' answer book
