-- Every date that a book stores exists: a value stored is at most the last day, and the calendar has a date for each such day.
-- Assumes nothing.
use Prim.Native.Nat.{ℕ, ◌≤◌}
use native.Mathlib.Omega.{arith}
use mathlib.Core.Path.{◌≡◌, sym, ap, subst}
use mathlib.Core.Logic.{inl, inr, ⊎_elim}
use mathlib.Core.Bool.{true, false}
use mathlib.Core.List.{List}
use Rattle.loops.proofs.BoolLaws.{decided}
use Rattle.order.specs.Vector.{zeros}
use Rattle.order.specs.Record.{value_of, vector_of}
use Rattle.book.specs.declared.parts.Counts.{Counts}
use Rattle.book.specs.Layout.{stored}
use Rattle.paper.specs.Calls.{last_day}
use Rattle.calendar.specs.Dates.{date_of}
use Rattle.calendar.proofs.Theorems.{date_answered}
use Rattle.model.specs.Parts.{Version, unwritten}
use Rattle.model.specs.Demands as demands
use Rattle.model.specs.Demands.{Dated}
use Rattle.bridge.specs.View.{to_model, version_of}
use Rattle.bridge.specs.Systems.{of_books}
use Rattle.bridge.specs.Demands.{HasDate, book_of, DatesExist}
use Rattle.bridge.proofs.Decoded.{version_written}

-- the value of a version that is unwritten, or dated, is at most the last day
dated_value : (v : Version) → Dated v → v.payload.value ≤ last_day
unfolding unwritten
dated_value v t = ⊎_elim (λ e. subst (λ (u : Version). u.payload.value ≤ last_day) (sym e) (omega arith)) (λ h. h) t

has_date : (k : ℕ) → k ≤ last_day → HasDate k
has_date k h = let t = date_answered k h in record { date = date_of k; answer = t.0; good = t.1 }

pub dates_exist : (n : Counts) (homes : List ℕ) → demands.Limits (to_model n) (of_books n homes) → DatesExist n homes
dates_exist n homes L = record {
  stored_dates = λ h d k hd hk.
      let r = stored (book_of n homes h) d k in
      ⊎_elim
      (λ (z : zeros n.depots (vector_of r) ≡ true). inl z)
      (λ (z : zeros n.depots (vector_of r) ≡ false).
      inr (has_date (value_of r) (subst (λ (x : ℕ). x ≤ last_day) (ap (λ (v : Version). v.payload.value) (version_written n.depots r z)) (dated_value _ (L.stores_dated h d k hd hk)))))
      (decided (zeros n.depots (vector_of r)));
}
