-- `rehome::has_seen` meets its contract: the crew's vector and the lowest stamps, both copied out, compared in the entries that count.
-- Assumes nothing.
use Prim.Native.Nat.{ℕ}
use mathlib.Core.Path.{◌∙◌, ap}
use Rattle.order.specs.Vector.{vector_in, covered}
use Rattle.book.specs.declared.parts.Counts.{Counts}
use Rattle.book.specs.Layout.{crew_vector}
use Rattle.links.specs.Send.{lowest_seen}
use Rattle.register.specs.Table.{arrived}
use Rattle.register.proofs.MoveTable.{covered_four}
use Rattle.rehome.proofs.has_seen.Goals as goal

pub returns : goal.returns
unfolding arrived
returns c =
    let args = c.args in
    let book = args.book.now in
    let lowest = c.lowest_seen-lowest in
    let vector = c.crew_vector-vector in
    c.is_covered.ensures
    ∙ ap (λ (x : ℕ). covered args.n.depots x (vector_in vector.result) (vector_in lowest.result)) c.index.ensures
    ∙ covered_four args.n.depots args.d.0 (crew_vector book args.c.0) (lowest_seen args.n.depots args.n.shelves args.d.0 book)
    c.requires.1.depots vector.ensures lowest.ensures
    ∙ ap (λ (n : Counts). covered n.depots args.d.0 (crew_vector book args.c.0) (lowest_seen n.depots n.shelves args.d.0 book)) c.requires.2
