-- `records::asking::beside_by` meets its contract.
-- Assumes nothing.
use Prim.Native.Nat.{ℕ, ◌-◌, ◌≤◌}
use mathlib.Core.Path.{◌≡◌, sym, ◌∙◌, ap, subst}
use mathlib.Core.List.{List}
use lib.ListN.{length, take, drop, length-drop}
use lib.Seq.{take-length}
use Rattle.journal.specs.declared.record.Kind.{Kind}
use Rattle.journal.specs.Record.{form_of}
use Rattle.records.specs.declared.kinds.Shape.{Shape}
use Rattle.records.specs.Kinds.{shape_by, own_of, beside_by}
use borrow.Author.Rules.{rules}
use Rattle.records.proofs.asking.beside_by.Goals as goal

own_fits : (k : Kind) {s : Shape} {n : ℕ} → s ≡ shape_by (form_of k) → own_of k ≤ n → s.own ≤ n
unfolding own_of
own_fits k {n = n} e h = subst (λ (x : Shape). x.own ≤ n) (sym e) h

pub offset_bounds-numbers-own : goal.offset_bounds-numbers-own
offset_bounds-numbers-own c = let h = own_fits _ c.shape_of-shape.ensures c.requires in search rules

pub slice_bounds-result-count : goal.slice_bounds-result-count
slice_bounds-result-count c = own_fits _ c.shape_of-shape.ensures c.requires

pub slice_bounds-result-start : goal.slice_bounds-result-start
slice_bounds-result-start c = own_fits _ c.shape_of-shape.ensures c.requires

rest_of : (ns : List ℕ) (k : ℕ) → take (length ns - k) (drop k ns) ≡ drop k ns
rest_of ns k = rw (← length-drop k ns) (take-length (drop k ns))

pub returns : goal.returns
unfolding beside_by own_of
returns c =
    let ns = c.args.numbers.now in
    rest_of ns _ ∙ ap (λ (s : Shape). drop s.own ns) c.shape_of-shape.ensures
