-- The four kinds of number, for whoever names several.
-- Assumes nothing.
use Rattle.book.specs.declared.numbers.Depot as depot
use Rattle.book.specs.declared.numbers.Shelf as shelf
use Rattle.book.specs.declared.numbers.Bearing as bearing
use Rattle.book.specs.declared.numbers.Crew as crew

-- a depot of a register
abbrev pub Depot : Type 0
Depot = depot.Depot

-- a shelf of each depot
abbrev pub Shelf : Type 0
Shelf = shelf.Shelf

-- a bearing
abbrev pub Bearing : Type 0
Bearing = bearing.Bearing

-- a crew
abbrev pub Crew : Type 0
Crew = crew.Crew
