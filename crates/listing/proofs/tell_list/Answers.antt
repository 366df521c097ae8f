-- `listing::tell_list` meets its contract: without room nothing is done; with it the promise of the list, and its words.
-- Assumes nothing.
use mathlib.Core.Path.{◌∙◌}
use Rattle.paper.specs.Calls.{number_in}
use Rattle.paper.specs.Answers.{paper_list}
use Rattle.room.proofs.RoomLaws.{with_room, no_room_law}
use Rattle.listing.proofs.ListLaws.{list_book_law, list_number_law, done_words, refused_words}
use Rattle.listing.proofs.tell_list.Goals as goal

pub returns-then-out-lt-LIST_WORDS : goal.returns-then-out-lt-LIST_WORDS
returns-then-out-lt-LIST_WORDS c =
    let short = c.if-out-lt-LIST_WORDS.true in
    record { value = no_room_law _ _ _ _ short; book_after = no_room_law _ _ _ _ short; out_after = no_room_law _ _ _ _ short }

pub returns-in-Ok : goal.returns-in-Ok
unfolding number_in paper_list
returns-in-Ok c =
    let wide = c.if-out-lt-LIST_WORDS.false in
    let p = c.list.ensures in
    let e = c.in-Ok.is in
    record {
      value = list_number_law p e ∙ with_room _ _ _ _ wide;
      book_after = list_book_law p ∙ with_room _ _ _ _ wide;
      out_after = c.fill.ensures ∙ done_words p e _ ∙ with_room _ _ _ _ wide;
    }

pub returns-in-Err : goal.returns-in-Err
unfolding number_in paper_list
returns-in-Err c =
    let wide = c.if-out-lt-LIST_WORDS.false in
    let p = c.list.ensures in
    let e = c.in-Err.is in
    record {
      value = c.number_of.ensures ∙ list_number_law p e ∙ with_room _ _ _ _ wide;
      book_after = list_book_law p ∙ with_room _ _ _ _ wide;
      out_after = refused_words p e _ ∙ with_room _ _ _ _ wide;
    }
