-- `recorder_told::tell` meets its contract: the first word, and the answer behind it.
-- Assumes nothing.
use native.Mathlib.Omega.{arith}
use mathlib.Core.Path.{◌∙◌, ap}
use lib.ListN.{length, length-set}
use mathlib.Core.List.{List, ◌∷◌}
use Prim.Native.Nat.{ℕ}
use Rattle.book.specs.Words.{put}
use Rattle.book.proofs.WordsLaws.{length_put}
use Rattle.recorder_told.proofs.ToldLaws.{length_answer}
use Rattle.recorder_told.proofs.tell.Goals as goal

pub write_words-requires : goal.write_words-requires
write_words-requires c =
    let long = ap (λ (w : List ℕ). length w) c.answer_words-words.ensures ∙ length_answer _ in
    simp length-set (omega (arith, long, c.requires.0))

pub returns : goal.returns
unfolding put
returns c =
    c.write_words.ensures ∙ ap (λ (w : List ℕ). put c.args.out.now 0 (c.args.size ∷ w)) c.answer_words-words.ensures

pub shape_of-out : goal.shape_of-out
shape_of-out c = ap length c.write_words.ensures ∙ length_put _ _ _ ∙ simp length-set
