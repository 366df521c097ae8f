-- Each promise of a date settles its answer.
-- Assumes nothing.
use mathlib.Core.Path.{◌∙◌, sym}
use Rattle.loops.specs.Settled.{Settled}
use Rattle.calendar.proofs.dates.is_date.Kinds as is-date-kinds
use Rattle.calendar.proofs.dates.is_date.Reads as is-date
use Rattle.calendar.proofs.dates.day_number.Kinds as day-number-kinds
use Rattle.calendar.proofs.dates.day_number.Reads as day-number
use Rattle.calendar.proofs.dates.date_of.Kinds as date-of-kinds
use Rattle.calendar.proofs.dates.date_of.Reads as date-of
use Rattle.calendar.proofs.dates.next_date.Kinds as next-date-kinds
use Rattle.calendar.proofs.dates.next_date.Reads as next-date

pub is_date_unique : Settled 0 is-date-kinds.ps is-date-kinds.r is-date.Learnt
is_date_unique κs args one other end end' p q = p ∙ sym q

pub day_number_unique : Settled 0 day-number-kinds.ps day-number-kinds.r day-number.Learnt
day_number_unique κs args one other end end' p q = p ∙ sym q

pub date_of_unique : Settled 0 date-of-kinds.ps date-of-kinds.r date-of.Learnt
date_of_unique κs args one other end end' p q = p ∙ sym q

pub next_date_unique : Settled 0 next-date-kinds.ps next-date-kinds.r next-date.Learnt
next_date_unique κs args one other end end' p q = p ∙ sym q
