-- `telling::written_words` meets its contract: the stamp, and how the version stands.
-- Assumes nothing.
use mathlib.Core.Path.{sym, ap}
use Rattle.std.specs.Prelude.{Ok}
use Rattle.paper.specs.declared.answer.Written.{Written}
use Rattle.paper.specs.Answers.{paper_write}
use Rattle.telling.specs.Told.{words_of}
use Rattle.telling.proofs.written_words.Goals as goal

pub returns-in-Current : goal.returns-in-Current
unfolding words_of paper_write
returns-in-Current c = sym (ap (λ (x : Written). words_of (paper_write (Ok x))) c.in-Current.is)

pub returns-in-Superseded : goal.returns-in-Superseded
unfolding words_of paper_write
returns-in-Superseded c = sym (ap (λ (x : Written). words_of (paper_write (Ok x))) c.in-Superseded.is)
