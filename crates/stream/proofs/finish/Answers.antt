-- `stream::finish` meets its contract: a last line counts if not empty, and a new line begins.
-- Assumes nothing.
use native.Mathlib.Omega.{arith}
use mathlib.Core.Path.{sym, ◌∙◌}
use lib.Seq.{length-take-le}
use Rattle.line.proofs.PrintLaws.{wrote_same, wrote_nothing}
use Rattle.stream.specs.Stream.{line_in}
use Rattle.stream.proofs.StreamLaws.{last_none, last_gives_none, last_some, last_gives, held_length, held_none, held_empty, held_some}
use Rattle.stream.proofs.finish.Goals as goal

pub returns-then-kept-eq0 : goal.returns-then-kept-eq0
returns-then-kept-eq0 c =
    let holder = c.requires.0 in
    let none = held_length holder ∙ c.if-kept-eq0.true in
    record {
      book_after = sym (last_none _ _ none);
      holder = (holder, held_empty holder c.if-kept-eq0.true);
      wrote = wrote_same (sym (last_gives_none _ _ none _)) (wrote_nothing _ _);
      wrote_2 = wrote_same (sym (last_gives_none _ _ none _)) (wrote_nothing _ _);
    }

pub slice_bounds-keep_line-end : goal.slice_bounds-keep_line-end
slice_bounds-keep_line-end c = let holder = c.requires.0 in omega (arith, holder.room, holder.counted)

pub slice_bounds-keep_line-end-2 : goal.slice_bounds-keep_line-end-2
slice_bounds-keep_line-end-2 c = let holder = c.requires.0 in sym (length-take-le _ _ (omega (arith, holder.room, holder.counted)))

pub returns : goal.returns
unfolding line_in
returns c =
    let holder = c.requires.0 in
    let kept = c.keep_line-next.ensures in
    let some = held_some holder c.if-kept-eq0.false in
    record {
      book_after = kept.book_after ∙ sym (last_some _ _ some);
      holder = held_none holder;
      wrote = wrote_same (sym (last_gives _ _ some _)) kept.wrote;
      wrote_2 = wrote_same (sym (last_gives _ _ some _)) kept.wrote_2;
    }
