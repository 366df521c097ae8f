-- `history::stream::feed_byte` meets its contract. A line feed, a byte that is kept, or one too many.
-- Assumes nothing.
use Rattle.history.proofs.StreamLaws.{fed_end, fed_more, fed_full}
use Rattle.history.proofs.stream.feed_byte.Goals as goal

pub returns-then-byte-eq-LINE_FEED : goal.returns-then-byte-eq-LINE_FEED
returns-then-byte-eq-LINE_FEED c =
    let done = c.end_line.ensures in
    let told = fed_end _ _ _ _ c.requires _ c.if-byte-eq-LINE_FEED.true done.kept_value.0 done.fits done.kept_value.1 in
    record { fits = told.0; lines_after = told.1 }

pub returns-then-kept-lt-KEPT_BYTES : goal.returns-then-kept-lt-KEPT_BYTES
returns-then-kept-lt-KEPT_BYTES c =
    let told = fed_more _ _ _ _ c.requires _ c.if-byte-eq-LINE_FEED.false c.if-kept-lt-KEPT_BYTES.true in
    record { fits = told.0; lines_after = told.1 }

pub returns : goal.returns
returns c = record { fits = c.requires; lines_after = fed_full _ _ _ _ c.requires _ c.if-byte-eq-LINE_FEED.false c.if-kept-lt-KEPT_BYTES.false }
