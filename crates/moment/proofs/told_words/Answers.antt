-- `moment::told_words` meets its contract: the vector, and whether it is all zeros.
-- Assumes nothing.
use Prim.Native.Nat.{ℕ}
use mathlib.Core.Path.{◌≡◌, ◌∙◌, sym, ap}
use mathlib.Core.List.{[], List, ◌∷◌}
use lib.ListN.{get_or}
use Rattle.order.specs.Record.{value_of, diameter_of, width_of, vector_of}
use Rattle.order.specs.Vector.{zeros}
use Rattle.order.proofs.RecordLaws.{zeros_part}
use Rattle.register.specs.Answers.{cut}
use Rattle.register.proofs.HomeLaws.{cut_part}
use Rattle.moment.proofs.MomentLaws.{words_unwritten, words_value}
use Rattle.moment.proofs.told_words.Goals as goal
use Rattle.moment.proofs.told_words.Lts as lts
use Rattle.moment.proofs.told_words.Tie as tie
use Rattle.moment.proofs.told_words.Reads as reads

-- what is known at a place, for the lemmas below
abbrev After-cut_vector-v : Type 0
After-cut_vector-v = lts.After-cut_vector tie.the-claims reads.Pre reads.Post

abbrev After-is_zero : Type 0
After-is_zero = lts.After-is_zero tie.the-claims reads.Pre reads.Post

-- what the two callees say of the record's own vector
vector_said : (c : After-cut_vector-v) → let args = c.args in c.cut_vector-v.result ≡ cut args.n (vector_of args.version.now)
vector_said c = c.cut_vector-v.ensures ∙ cut_part c.args.n c.args.version.now c.requires.1

said : (c : After-is_zero) → let args = c.args in c.is_zero.result ≡ zeros args.n (vector_of args.version.now)
said c = c.is_zero.ensures ∙ zeros_part c.args.n c.args.version.now c.requires.1

pub returns-then-is_zero : goal.returns-then-is_zero
unfolding cut
returns-then-is_zero c =
    ap (λ (v : List ℕ). 0 ∷ 0 ∷ 0 ∷ 0 ∷ get_or v 0 0 ∷ get_or v 1 0 ∷ get_or v 2 0 ∷ get_or v 3 0 ∷ []) (vector_said c.before.before.before.before)
    ∙ sym (words_unwritten _ c.args.version.now c.requires.1 (sym (said c.before.before) ∙ c.if-is_zero.true))

pub returns : goal.returns
unfolding cut
returns c =
    let r = c.args.version.now in
    ap (λ (v : List ℕ). 1 ∷ value_of r ∷ diameter_of r ∷ width_of r ∷ get_or v 0 0 ∷ get_or v 1 0 ∷ get_or v 2 0 ∷ get_or v 3 0 ∷ []) (vector_said c.before.before.before.before.before.before.before)
    ∙ sym (words_value _ r c.requires.1 (sym (said c.before.before.before.before.before) ∙ c.if-is_zero.false))
