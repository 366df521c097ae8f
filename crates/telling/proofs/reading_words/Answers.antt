-- `telling::reading_words` meets its contract: what was found, and the entries of its vector.
-- Assumes nothing.
use mathlib.Core.Path.{◌∙◌, refl, ap}
use Rattle.paper.specs.Answers.{paper_found, entries_in, padded, told_words}
use Rattle.telling.specs.Told.{words_of}
use Rattle.telling.proofs.ToldLaws.{found_as, vector_told, after_four}
use Rattle.telling.proofs.reading_words.Goals as goal

pub returns-in-Some-clause-words : goal.returns-in-Some-clause-words
unfolding words_of paper_found entries_in padded
returns-in-Some-clause-words c =
    let e = c.in-Some.is in
    λ h. after_four (vector_told c.args.reading e h) ∙ ap words_of (found_as c.args.reading e)

pub returns-in-None-clause-words : goal.returns-in-None-clause-words
unfolding words_of paper_found entries_in padded
returns-in-None-clause-words c =
    let e = c.in-None.is in
    λ h. after_four (vector_told c.args.reading e h) ∙ ap words_of (found_as c.args.reading e)

pub returns-in-Some-clause-told : goal.returns-in-Some-clause-told
unfolding told_words padded
returns-in-Some-clause-told c = rw c.in-Some.is refl

pub returns-in-None-clause-told : goal.returns-in-None-clause-told
unfolding told_words padded
returns-in-None-clause-told c = rw c.in-None.is refl
