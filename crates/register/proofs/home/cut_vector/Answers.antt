-- `register::calls::home::cut_vector` meets its contract: entry by entry.
-- Assumes nothing.
use Prim.Native.Nat.{ℕ}
use Rattle.std.proofs.Common.{rules, tests}
use lib.Dec.{ltb}
use Rattle.loops.specs.Loops.{pick}
use Rattle.order.specs.Vector.{vector_in}
use Rattle.links.proofs.FourLaws.{four_made}
use Rattle.register.specs.Answers.{cut}
use Rattle.register.proofs.home.cut_vector.Goals as goal

pub returns : goal.returns
unfolding cut
returns c =
    let v = c.args.v.now in
    let n = c.args.n in
    four_made (λ (x : ℕ). pick (ltb x n) (vector_in v x) 0) _ _ (λ x b q l k. search (rules, tests)) c.from_fn.ensures.items
