-- `records::kinds::kind_of` meets its contract: one law serves the eight kinds.
-- Assumes nothing.
use mathlib.Core.Path.{sym, ap}
use Rattle.journal.specs.declared.record.Kind.TheVariants.{Setup, Read, Write, Tick, Take, Refresh, Move, Page}
use Rattle.journal.specs.Record.{byte_of}
use Rattle.records.specs.Kinds.{named_by}
use Rattle.records.proofs.KindLaws.{names_kind, names_none}
use Rattle.records.proofs.kinds.kind_of.Goals as goal

-- any other number
pub returns-in_default : goal.returns-in_default
unfolding named_by
returns-in_default c =
    let other = c.in_default.in_default-own.rest in
    sym
    (ap named_by
    (names_none _ other.0.0.0.0.0.0.0.1 other.0.0.0.0.0.0.1 other.0.0.0.0.0.1 other.0.0.0.0.1 other.0.0.0.1 other.0.0.1
    other.0.1 other.1))

pub returns-in-1 : goal.returns-in-1
unfolding byte_of
returns-in-1 c = names_kind Setup c.in-1.is

pub returns-in-2 : goal.returns-in-2
unfolding byte_of
returns-in-2 c = names_kind Read c.in-2.is

pub returns-in-3 : goal.returns-in-3
unfolding byte_of
returns-in-3 c = names_kind Write c.in-3.is

pub returns-in-4 : goal.returns-in-4
unfolding byte_of
returns-in-4 c = names_kind Tick c.in-4.is

pub returns-in-5 : goal.returns-in-5
unfolding byte_of
returns-in-5 c = names_kind Take c.in-5.is

pub returns-in-6 : goal.returns-in-6
unfolding byte_of
returns-in-6 c = names_kind Refresh c.in-6.is

pub returns-in-7 : goal.returns-in-7
unfolding byte_of
returns-in-7 c = names_kind Move c.in-7.is

pub returns-in-8 : goal.returns-in-8
unfolding byte_of
returns-in-8 c = names_kind Page c.in-8.is
