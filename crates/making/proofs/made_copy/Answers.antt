-- `making::made_copy` meets its contract: the fields of the version, in their places.
-- Assumes nothing.
use mathlib.Core.Path.{◌∙◌}
use mathlib.Core.List.{[], ◌∷◌}
use lib.ListN.{get_or}
use Rattle.book.specs.Layout.{copy_kind}
use Rattle.card.specs.Card.{word_of}
use Rattle.register.specs.Answers.{cut}
use Rattle.making.proofs.made_copy.Goals as goal

pub returns : goal.returns
unfolding cut
returns c =
    let origin = c.word-2.ensures ∙ c.index-2.ensures in
    let bearing = c.word.ensures ∙ c.index.ensures in
    let vector = c.made_vector-vector.ensures in
    let args = c.args in
    c.message_of.ensures
    ∙ (λ z. copy_kind ∷ bearing z ∷ args.value ∷ word_of args.card.diameter ∷ word_of args.card.width ∷ origin z ∷ get_or (vector z) 0 0 ∷ get_or
    (vector z) 1 0 ∷ get_or (vector z) 2 0 ∷ get_or (vector z) 3 0 ∷ [])
