-- `stream::keep_piece` meets its contract: no bytes are the end of the input, others are fed.
-- Assumes nothing.
use native.Mathlib.Omega.{arith}
use mathlib.Core.Path.{sym, ◌∙◌}
use Rattle.line.proofs.PrintLaws.{wrote_same}
use Rattle.events.specs.Answering.{answer_to, record_to}
use Rattle.stream.proofs.StreamLaws.{answers_most, records_most, piece_room, piece_end, piece_gives_end, piece_some, piece_gives}
use Rattle.stream.proofs.keep_piece.Goals as goal

pub finish-requires : goal.finish-requires
finish-requires c = let pre = c.requires in (pre.0, omega (arith, pre.1), omega (arith, pre.2))

pub returns-then-piece-eq0 : goal.returns-then-piece-eq0
returns-then-piece-eq0 c =
    let none = c.if-piece-eq0.true in
    let pre = c.requires in
    let end = piece_end _ _ _ none in
    let done = c.finish.ensures in
    let said = wrote_same (sym (piece_gives_end answer_to _ _ _ none)) done.wrote in
    let logged = wrote_same (sym (piece_gives_end record_to _ _ _ none)) done.wrote_2 in
    record {
      book_after = done.book_after ∙ sym end.0;
      holder = (done.holder.0, done.holder.1 ∙ sym end.1);
      wrote = said;
      wrote_2 = logged;
      out_in_bounds = (piece_room answers_most _ _ _ said pre.1, piece_room records_most _ _ _ logged pre.2);
    }

pub feed-requires : goal.feed-requires
feed-requires c = let pre = c.requires in (pre.0, omega (arith, pre.1), omega (arith, pre.2))

pub returns : goal.returns
returns c =
    let not_None = c.if-piece-eq0.false in
    let pre = c.requires in
    let some = piece_some _ _ _ not_None in
    let done = c.feed.ensures in
    let said = wrote_same (sym (piece_gives answer_to _ _ _ not_None)) done.wrote in
    let logged = wrote_same (sym (piece_gives record_to _ _ _ not_None)) done.wrote_2 in
    record {
      book_after = done.book_after ∙ sym some.0;
      holder = (done.holder.0, done.holder.1 ∙ sym some.1);
      wrote = said;
      wrote_2 = logged;
      out_in_bounds = (piece_room answers_most _ _ _ said pre.1, piece_room records_most _ _ _ logged pre.2);
    }
