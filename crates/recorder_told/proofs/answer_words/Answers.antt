-- `recorder_told::answer_words` meets its contract: what is told leaves the words of what it is on paper.
-- Assumes nothing.
use mathlib.Core.Path.{refl}
use Rattle.paper.specs.Answers.{paper_list, tellings}
use Rattle.request.specs.Replies.{paper_reply, on_paper, Carries}
use Rattle.request.proofs.Known.{known_done, carried}
use Rattle.telling.specs.Told.{words_of}
use Rattle.recorder_told.proofs.ToldLaws.{words_as, no_words}
use Rattle.recorder_told.proofs.answer_words.Goals as goal

pub returns-in-Done : goal.returns-in-Done
unfolding on_paper paper_reply words_of
returns-in-Done c = no_words (known_done c.in-Ok.is c.in-Done.is) refl

pub returns-in-Read : goal.returns-in-Read
unfolding on_paper paper_reply Carries
returns-in-Read c = words_as (known_done c.in-Ok.is c.in-Read.is) c.fill.ensures (c.reading_words.ensures.words (carried (known_done c.in-Ok.is c.in-Read.is) c.requires))

pub returns-in-Written : goal.returns-in-Written
unfolding on_paper paper_reply
returns-in-Written c = words_as (known_done c.in-Ok.is c.in-Written.is) c.fill-in-Written.ensures c.written_words.ensures

pub returns-in-Listed : goal.returns-in-Listed
unfolding on_paper paper_reply Carries paper_list tellings words_of
returns-in-Listed c =
    let e = known_done c.in-Ok.is c.in-Listed.is in
    let holds = carried e c.requires in
    words_as e c.fill-in-Listed.ensures holds.words

pub returns-in_default : goal.returns-in_default
unfolding on_paper words_of
returns-in_default c = no_words c.in_default.is refl
