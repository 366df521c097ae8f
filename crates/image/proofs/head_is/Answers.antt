-- `image::head_is` meets its contract.
-- Assumes nothing.
use mathlib.Core.Path.{refl, ◌∙◌, ap₂}
use borrow.Author.Rules.{rules}
use borrow.Author.Tests.{tests}
use Rattle.loops.proofs.ChainLaws.{every_from_all}
use Rattle.image.specs.Image.{same}
use Rattle.image.proofs.ImageLaws.{same_places}
use Rattle.image.proofs.head_is.Goals as goal

pub returns : goal.returns
returns c =
    every_from_all 8 _ c.all.result c.all.ensures.ran refl (λ x b q k. search (rules, tests))
    ∙ same_places 8 _ _ (search rules) (search rules)
    ∙ ap₂ same c.read_words.ensures c.head_of-right.ensures
