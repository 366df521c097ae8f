-- `register::calls::read::tell` meets its contract: the vector, and whether it is all zeros.
-- Assumes nothing.
use mathlib.Core.Path.{◌≡◌, ◌∙◌, refl, sym, ap}
use mathlib.Core.List.{List}
use Prim.Native.Nat.{ℕ}
use lib.ListN.{take}
use Rattle.order.specs.Record.{vector_of}
use Rattle.order.specs.Vector.{zeros}
use Rattle.loops.proofs.BoolLaws.{pick_true, pick_false}
use Rattle.order.proofs.RecordLaws.{zeros_part}
use Rattle.paper.specs.Calls.{reads, read_value, read_unwritten}
use Rattle.paper.specs.Answers.{paper_found, paper_read}
use Rattle.register.specs.Answers.{cut, payload_of, told}
use Rattle.register.proofs.HomeLaws.{cut_part}
use Rattle.read.proofs.tell.Goals as goal
use Rattle.read.proofs.tell.Lts as lts
use Rattle.read.proofs.tell.Tie as tie
use Rattle.read.proofs.tell.Reads as reads

-- what is known at a place, for the lemmas below
abbrev After-cut_vector-vector : Type 0
After-cut_vector-vector = lts.After-cut_vector tie.the-claims reads.Pre reads.Post tie.handed_clauses

abbrev After-is_zero : Type 0
After-is_zero = lts.After-is_zero tie.the-claims reads.Pre reads.Post tie.handed_clauses

-- what the two callees say of the record's own vector
vector_said : (c : After-cut_vector-vector) → let args = c.args in c.cut_vector-vector.result ≡ cut args.n (vector_of args.version.now)
vector_said c = c.cut_vector-vector.ensures ∙ cut_part c.args.n c.args.version.now c.requires.1

said : (c : After-is_zero) → let args = c.args in c.is_zero.result ≡ zeros args.n (vector_of args.version.now)
said c = c.is_zero.ensures ∙ zeros_part c.args.n c.args.version.now c.requires.1

pub returns-then-is_zero : goal.returns-then-is_zero
unfolding told paper_read paper_found
returns-then-is_zero c =
    let vector = vector_said c.before.before.before.before in
    let n = c.args.n in
    record { result_value = ap (λ (v : List ℕ). reads (read_unwritten (take n v))) vector ∙ ap reads (sym (pick_true _ _ (sym (said c.before.before) ∙ c.if-is_zero.true))); vector_value = (vector, refl) }

pub returns : goal.returns
unfolding told paper_read paper_found
returns c =
    let vector = vector_said c.before.before.before.before.before.before.before in
    let args = c.args in
    let payload = payload_of args.version.now in
    record { result_value = ap (λ (v : List ℕ). reads (read_value payload (take args.n v))) vector ∙ ap reads (sym (pick_false _ _ (sym (said c.before.before.before.before.before) ∙ c.if-is_zero.false))); vector_value = (vector, refl) }
