-- Kinds and forms as the code has them.
-- Assumes nothing.
use Rattle.std.specs.Prelude.{ℕ, true, false, List, drop, Option, Some, None}
use Rattle.std.proofs.Math.Option as maybe
use Rattle.journal.specs.declared.record.Kind.{Kind}
use Rattle.journal.specs.Record.{Form, plain, counted, form_of}
use Rattle.records.specs.declared.kinds.Shape.{Shape}

-- a kind, or none
unfoldable pub named_by : maybe.Option Kind → Option Kind
named_by maybe.none = None
named_by (maybe.some k) = Some k

-- a form: how many numbers, and whether a byte counts more
unfoldable pub shape_by : Form → Shape
shape_by (plain n) = record { own = n; counted = false }
shape_by (counted n) = record { own = n; counted = true }

-- how many numbers a request of a kind has of its own
unfoldable pub own_of : Kind → ℕ
own_of k = (shape_by (form_of k)).own

-- and the numbers beside them, those that follow
unfoldable pub beside_by : Kind → List ℕ → List ℕ
beside_by k ns = drop (own_of k) ns
