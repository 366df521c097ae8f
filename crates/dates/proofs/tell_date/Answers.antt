-- `dates::tell_date` meets its contract: no room, the number of the refusal, or 0 and the date.
-- Assumes nothing.
use mathlib.Core.Path.{sym, ◌∙◌, ap}
use Rattle.calendar.specs.Dates.{DateAnswer}
use Rattle.book.specs.Words.{put}
use Rattle.room.proofs.RoomLaws.{with_room, no_room_law}
use Rattle.dates.specs.Told.{date_number, date_out}
use Rattle.dates.proofs.tell_date.Goals as goal

pub returns-then-out-lt-DATE_WORDS : goal.returns-then-out-lt-DATE_WORDS
returns-then-out-lt-DATE_WORDS c = record { value = no_room_law _ _ _ _ c.if-out-lt-DATE_WORDS.true; out_after = no_room_law _ _ _ _ c.if-out-lt-DATE_WORDS.true }

pub returns-in-Err : goal.returns-in-Err
returns-in-Err c =
    let out = c.args.out.now in
    let wide = c.if-out-lt-DATE_WORDS.false in
    let e = sym c.date_of.ensures ∙ c.in-Err.is in
    record { value = c.refusal_number.ensures ∙ sym (ap date_number e) ∙ with_room _ _ _ _ wide; out_after = sym (ap (λ (x : DateAnswer). date_out x out) e) ∙ with_room _ _ _ _ wide }

pub returns-in-Ok : goal.returns-in-Ok
unfolding put
returns-in-Ok c =
    let out = c.args.out.now in
    let wide = c.if-out-lt-DATE_WORDS.false in
    let e = sym c.date_of.ensures ∙ c.in-Ok.is in
    record { value = sym (ap date_number e) ∙ with_room _ _ _ _ wide; out_after = c.write_words.ensures ∙ sym (ap (λ (x : DateAnswer). date_out x out) e) ∙ with_room _ _ _ _ wide }
