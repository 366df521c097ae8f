-- Refresh: what the words do is what the model does.
-- Assumes nothing.
use Prim.Native.Nat.{ℕ, ◌<◌, min}
use native.Mathlib.Omega.{arith}
use mathlib.Core.Path.{◌≡◌, refl, sym, ◌∙◌, ap}
use mathlib.Core.Bool.{true}
use mathlib.Core.List.{List}
use Rattle.loops.proofs.BoolLaws.{pick_true}
use Rattle.loops.proofs.LoopLaws.{times_same}
use Rattle.book.specs.Layout.{seen}
use Rattle.fit.specs.Fit.{fit}
use Rattle.links.specs.Send as words
use Rattle.register.specs.Table.{refresh_number}
use Rattle.register.specs.Calls.{refresh_book}
use Rattle.register.specs.Promises.{after}
use Rattle.register.proofs.Numbers.{refresh_done}
use Rattle.upkeep.proofs.FitKept.{refresh_fit_law}
use Rattle.model.specs.Parts.{Counts, Shelf, end, lowest, other}
use Rattle.model.specs.Rules.{lowest_seen}
use Rattle.paper.specs.Calls.{refresh, Answer, done, answer_by}
use Rattle.model.specs.Calls.{acted}
use Rattle.model.proofs.Places.{Other, other_intro}
use Rattle.bridge.specs.View.{counts_in, shelf_at, view_by, view}
use Rattle.bridge.specs.Bridged.{Bridged}
use Rattle.bridge.proofs.Sound.{sound}
use Rattle.bridge.proofs.Looks.{shelf_here}
use Rattle.bridge.proofs.Numbers.{refresh_number_law}
use Rattle.bridge.proofs.SettleView.{settled_view, settled_below}
use Rattle.bridge.proofs.Assembly.{counts_same, view_by_law, Does, bridged_done}

-- the lowest stamp seen, of another depot
pub lowest_here : (π : Counts) (l : List ℕ) (d x : ℕ) → d < π.depots → Other π.depots d x → words.lowest_seen π.depots π.shelves d l x ≡ lowest_seen π d (view_by π l) x
unfolding words.lowest_seen words.lowest lowest_seen lowest end other
lowest_here π l d x kd o =
    pick_true _ _ (other_intro o)
    ∙ times_same π.shelves _ _ 2147483647 λ s m k. ap (λ (t : ℕ). min m t) (sym (ap (λ (h : Shelf). h.seen x) (shelf_here π l d s kd k) ∙ seen_here s))
  where
    seen_here : (s : ℕ) → (shelf_at π l d s).seen x ≡ seen l d s x
    seen_here s = unfold shelf_at in pick_true _ _ (other_intro o)

module _ (l : List ℕ) (F : fit l ≡ true) (d s : ℕ) where
  does : refresh_number l d s ≡ 0 → Does l (refresh d s) (refresh_book l d s)
  unfolding refresh_book acted view
  does z =
      let S = sound l F in
      let o = refresh_done l d s z in
      let π = counts_in l in
      let u = words.lowest_seen π.depots π.shelves d l in
      let same : counts_in (refresh_book l d s) ≡ counts_in l
      = counts_same l (refresh_book l d s) (λ j k. settled_below π l S d s o.depot o.shelf u u (λ x y. refl) j (omega arith)) in
      record {
        leaves = view_by_law l (refresh_book l d s) same ∙ settled_view π l S d s o.depot o.shelf u (lowest_seen π d (view l)) (λ x k. lowest_here π l d x o.depot k);
        counts = same;
        fits = refresh_fit_law l d s F z;
      }

  pub refresh_bridge : (r : Answer) (l' : List ℕ) → r ≡ answer_by (refresh_number l d s) done → l' ≡ after (refresh_number l d s) (refresh_book l d s) l → Bridged l (refresh d s) r l'
  unfolding acted
  refresh_bridge r l' answer book =
      bridged_done l F (refresh d s) (refresh_number l d s) (refresh_number_law l F d s) (refresh_book l d s) does refl r l' answer book
