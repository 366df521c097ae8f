-- `moment::tell_one` meets its contract: the record, then its words.
-- Assumes nothing.
use Prim.Native.Nat.{ℕ}
use mathlib.Core.Path.{◌∙◌, ap}
use mathlib.Core.List.{List}
use Rattle.book.specs.Words.{put}
use Rattle.book.proofs.WordsLaws.{part_from}
use Rattle.paper.specs.Answers.{told_words}
use Rattle.register.specs.Answers.{told}
use Rattle.moment.proofs.tell_one.Goals as goal

pub returns : goal.returns
returns c =
    let args = c.args in
    c.write_words.ensures
    ∙ ap (λ (w : List ℕ). put args.words.now args.at w)
    (c.told_words-telling.ensures ∙ ap (λ (r : List ℕ). told_words (told args.n r))
    (part_from args.book.now 9 c.stored_at-from.ensures))
