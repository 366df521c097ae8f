-- The promises of the functions for C, and of a line and its answer, settle what comes back.
-- Assumes nothing.
use mathlib.Core.Path.{◌∙◌, sym}
use Rattle.loops.specs.Settled.{Settled}
use Rattle.image.proofs.Unique.{save_unique, load_unique}
use Rattle.recorder_told.proofs.Unique as recorder
use Rattle.recovery_told.proofs.Unique as recovery
use Rattle.judged.proofs.NumberLaws.{audited_unique}
use Rattle.events.proofs.answer.answer_line.Kinds as answer-line-kinds
use Rattle.events.proofs.answer.answer_line.Reads as answer_line
use Rattle.export.proofs.depot_setup.Kinds as setup-kinds
use Rattle.export.proofs.depot_setup.Reads as depot_setup
use Rattle.export.proofs.depot_read.Kinds as read-kinds
use Rattle.export.proofs.depot_read.Reads as depot_read
use Rattle.export.proofs.depot_write.Kinds as write-kinds
use Rattle.export.proofs.depot_write.Reads as depot_write
use Rattle.export.proofs.depot_grams.Kinds as grams-kinds
use Rattle.export.proofs.depot_grams.Reads as depot_grams
use Rattle.export.proofs.pages.depot_list.Kinds as list-kinds
use Rattle.export.proofs.pages.depot_list.Reads as depot_list
use Rattle.export.proofs.moves.depot_move.Kinds as move-kinds
use Rattle.export.proofs.moves.depot_move.Reads as depot_move
use Rattle.export.proofs.depot_tick.Kinds as tick-kinds
use Rattle.export.proofs.depot_tick.Reads as depot_tick
use Rattle.export.proofs.depot_take.Kinds as take-kinds
use Rattle.export.proofs.depot_take.Reads as depot_take
use Rattle.export.proofs.depot_refresh.Kinds as refresh-kinds
use Rattle.export.proofs.depot_refresh.Reads as depot_refresh
use Rattle.export.proofs.depot_who_has.Kinds as who-has-kinds
use Rattle.export.proofs.depot_who_has.Reads as depot_who_has
use Rattle.export.proofs.depot_is_fit.Kinds as is-fit-kinds
use Rattle.export.proofs.depot_is_fit.Reads as depot_is_fit
use Rattle.export.proofs.depot_greater.Kinds as greater-kinds
use Rattle.export.proofs.depot_greater.Reads as depot_greater
use Rattle.export.proofs.depot_line.Kinds as line-kinds
use Rattle.export.proofs.depot_line.Reads as depot_line
use Rattle.export.proofs.audit.depot_audit.Kinds as audit-kinds
use Rattle.export.proofs.audit.depot_audit.Reads as depot_audit
use Rattle.export.proofs.images.depot_save_image.Kinds as save-image-kinds
use Rattle.export.proofs.images.depot_save_image.Reads as depot_save_image
use Rattle.export.proofs.images.depot_load_image.Kinds as load-image-kinds
use Rattle.export.proofs.images.depot_load_image.Reads as depot_load_image
use Rattle.export.proofs.journals.depot_recorded.Kinds as recorded-kinds
use Rattle.export.proofs.journals.depot_recorded.Reads as depot_recorded
use Rattle.export.proofs.journals.depot_recover.Kinds as recover-kinds
use Rattle.export.proofs.journals.depot_recover.Reads as depot_recover
use Rattle.export.proofs.days.depot_is_date.Kinds as is-date-kinds
use Rattle.export.proofs.days.depot_is_date.Reads as depot_is_date
use Rattle.export.proofs.days.depot_day_number.Kinds as day-number-kinds
use Rattle.export.proofs.days.depot_day_number.Reads as depot_day_number
use Rattle.export.proofs.days.depot_date_of.Kinds as date-of-kinds
use Rattle.export.proofs.days.depot_date_of.Reads as depot_date_of
use Rattle.export.proofs.days.depot_next_date.Kinds as next-date-kinds
use Rattle.export.proofs.days.depot_next_date.Reads as depot_next_date

-- a line and its answer: any two ends of the answer that satisfy the promise are the same
pub answer_line_unique : Settled 3 answer-line-kinds.ps answer-line-kinds.r answer_line.Learnt
answer_line_unique κs args one other end end' p q = p.1.after ∙ sym q.1.after

-- the calls: any two numbers that satisfy the promise are the same
pub setup_unique : Settled 2 setup-kinds.ps setup-kinds.r depot_setup.Learnt
setup_unique κs args one other end end' p q = p.0 ∙ sym q.0

pub read_unique : Settled 2 read-kinds.ps read-kinds.r depot_read.Learnt
read_unique κs args one other end end' p q = p.0 ∙ sym q.0

pub write_unique : Settled 2 write-kinds.ps write-kinds.r depot_write.Learnt
write_unique κs args one other end end' p q = p.0 ∙ sym q.0

pub grams_unique : Settled 1 grams-kinds.ps grams-kinds.r depot_grams.Learnt
grams_unique κs args one other end end' p q = p.0 ∙ sym q.0

pub tick_unique : Settled 1 tick-kinds.ps tick-kinds.r depot_tick.Learnt
tick_unique κs args one other end end' p q = p.0 ∙ sym q.0

pub take_unique : Settled 1 take-kinds.ps take-kinds.r depot_take.Learnt
take_unique κs args one other end end' p q = p.0 ∙ sym q.0

pub refresh_unique : Settled 1 refresh-kinds.ps refresh-kinds.r depot_refresh.Learnt
refresh_unique κs args one other end end' p q = p.0 ∙ sym q.0

pub move_unique : Settled 1 move-kinds.ps move-kinds.r depot_move.Learnt
move_unique κs args one other end end' p q = p.0 ∙ sym q.0

pub list_unique : Settled 3 list-kinds.ps list-kinds.r depot_list.Learnt
list_unique κs args one other end end' p q = p.0 ∙ sym q.0

pub who_has_unique : Settled 2 who-has-kinds.ps who-has-kinds.r depot_who_has.Learnt
who_has_unique κs args one other end end' p q = p.0 ∙ sym q.0

-- the whole book's check, the greater of two records, a line
pub is_fit_unique : Settled 1 is-fit-kinds.ps is-fit-kinds.r depot_is_fit.Learnt
is_fit_unique κs args one other end end' p q = p ∙ sym q

pub greater_unique : Settled 2 greater-kinds.ps greater-kinds.r depot_greater.Learnt
greater_unique κs args one other end end' p q = p ∙ sym q

pub line_unique : Settled 3 line-kinds.ps line-kinds.r depot_line.Learnt
line_unique κs args one other end end' p q = p.0 ∙ sym q.0

-- images
pub save_image_unique : Settled 2 save-image-kinds.ps save-image-kinds.r depot_save_image.Learnt
save_image_unique κs args one other end end' p q = (save_unique p q).0

pub load_image_unique : Settled 2 load-image-kinds.ps load-image-kinds.r depot_load_image.Learnt
load_image_unique κs args one other end end' p q = (load_unique p q).0

-- a call with its record, and recovery
pub recorded_unique : Settled 4 recorded-kinds.ps recorded-kinds.r depot_recorded.Learnt
recorded_unique κs args one other end end' p q = (recorder.left_unique p q).0

pub recover_unique : Settled 3 recover-kinds.ps recover-kinds.r depot_recover.Learnt
recover_unique κs args one other end end' p q = (recovery.left_unique p q).0

-- the calendar
pub is_date_unique : Settled 0 is-date-kinds.ps is-date-kinds.r depot_is_date.Learnt
is_date_unique κs args one other end end' p q = p ∙ sym q

pub day_number_unique : Settled 1 day-number-kinds.ps day-number-kinds.r depot_day_number.Learnt
day_number_unique κs args one other end end' p q = p.0 ∙ sym q.0

pub date_of_unique : Settled 1 date-of-kinds.ps date-of-kinds.r depot_date_of.Learnt
date_of_unique κs args one other end end' p q = p.0 ∙ sym q.0

pub next_date_unique : Settled 1 next-date-kinds.ps next-date-kinds.r depot_next_date.Learnt
next_date_unique κs args one other end end' p q = p.0 ∙ sym q.0

-- the auditor
pub audit_unique : Settled 1 audit-kinds.ps audit-kinds.r depot_audit.Learnt
audit_unique κs args one other end end' p q = audited_unique p q
