-- `stream::feed_byte` meets its contract: a line feed answers the line so far, any other byte grows it while there is room.
-- Assumes nothing.
use native.Mathlib.Omega.{arith}
use mathlib.Core.Path.{sym, ◌∙◌}
use lib.Seq.{length-take-le}
use Rattle.line.proofs.PrintLaws.{wrote_same, wrote_nothing}
use Rattle.stream.specs.Stream.{line_in}
use Rattle.stream.proofs.StreamLaws.{line_ends, book_ends, gives_ends, line_grows, line_full, book_stays, gives_nothing, held_length, held_none, held_more}
use Rattle.stream.proofs.feed_byte.Goals as goal

pub slice_bounds-keep_line-end : goal.slice_bounds-keep_line-end
slice_bounds-keep_line-end c = let holder = c.requires.0 in omega (arith, holder.room, holder.counted)

pub slice_bounds-keep_line-end-then-byte-eq-LINE_FEED : goal.slice_bounds-keep_line-end-then-byte-eq-LINE_FEED
slice_bounds-keep_line-end-then-byte-eq-LINE_FEED c = let holder = c.requires.0 in sym (length-take-le _ _ (omega (arith, holder.room, holder.counted)))

pub returns-then-byte-eq-LINE_FEED : goal.returns-then-byte-eq-LINE_FEED
unfolding line_in
returns-then-byte-eq-LINE_FEED c =
    let kept = c.keep_line-next.ensures in
    let end = c.if-byte-eq-LINE_FEED.true in
    let none = held_none c.requires.0 in
    record {
      book_after = kept.book_after ∙ sym (book_ends _ _ _ end);
      holder = (none.0, none.1 ∙ sym (line_ends _ _ end));
      wrote = wrote_same (sym (gives_ends _ _ _ _ end)) kept.wrote;
      wrote_2 = wrote_same (sym (gives_ends _ _ _ _ end)) kept.wrote_2;
    }

-- any other byte gives nothing
pub returns-then-kept-lt-KEPT_BYTES : goal.returns-then-kept-lt-KEPT_BYTES
returns-then-kept-lt-KEPT_BYTES c =
    let other = c.if-byte-eq-LINE_FEED.false in
    let few = held_length c.requires.0 in
    let more = held_more c.requires.0 c.args.byte c.if-kept-lt-KEPT_BYTES.true in
    record {
      book_after = sym (book_stays _ _ _ other);
      holder = (more.0, more.1 ∙ sym (line_grows _ _ other (omega (arith, few, c.if-kept-lt-KEPT_BYTES.true))));
      wrote = wrote_same (sym (gives_nothing _ _ _ _ other)) (wrote_nothing _ _);
      wrote_2 = wrote_same (sym (gives_nothing _ _ _ _ other)) (wrote_nothing _ _);
    }

pub returns-else-kept-lt-KEPT_BYTES : goal.returns-else-kept-lt-KEPT_BYTES
returns-else-kept-lt-KEPT_BYTES c =
    let other = c.if-byte-eq-LINE_FEED.false in
    let holder = c.requires.0 in
    let few = held_length holder in
    record {
      book_after = sym (book_stays _ _ _ other);
      holder = (holder, sym (line_full _ _ other (omega (arith, few, c.if-kept-lt-KEPT_BYTES.false))));
      wrote = wrote_same (sym (gives_nothing _ _ _ _ other)) (wrote_nothing _ _);
      wrote_2 = wrote_same (sym (gives_nothing _ _ _ _ other)) (wrote_nothing _ _);
    }
