-- `calendar::dates::index_of` meets its contract: a date that exists has a year and a month within their bounds, so nothing wraps.
-- Assumes nothing.
use native.Mathlib.Omega.{arith}
use Rattle.calendar.proofs.DateLaws.{date_real}
use Rattle.calendar.proofs.dates.index_of.Goals as goal

pub overflow_sub-result : goal.overflow_sub-result
overflow_sub-result c = let w = date_real _ _ _ c.requires in omega arith

pub overflow_mul-result : goal.overflow_mul-result
overflow_mul-result c = let w = date_real _ _ _ c.requires in omega arith

pub overflow_sub-result-2 : goal.overflow_sub-result-2
overflow_sub-result-2 c = let w = date_real _ _ _ c.requires in omega arith

pub overflow_add-result : goal.overflow_add-result
overflow_add-result c = let w = date_real _ _ _ c.requires in omega arith
