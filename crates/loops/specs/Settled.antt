-- That a promise settles its answer: two answers that satisfy a function's contract, for the same arguments, are the same. The contract is the
-- function's own, as a caller reads it (`Learnt`), and no copy.
-- Assumes nothing.
use Rattle.std.specs.Prelude.{ℕ, ◌≡◌, List}
use contract.Lifetimes.{Lfts}
use denote.Triple.Clauses.{AtExit}
use borrow.Fn.Kinds.{ParamKind, ResultKind, Dens, Out, res_t, ended_of}

-- a promise about n lifetimes, parameters of the kinds ps and an answer of the kind r leaves one answer
abbrev pub Settled : (n : ℕ) (ps : List (ParamKind n)) (r : ResultKind n) → Out n ps r → Type 0
Settled n ps r promise =
    (κs : Lfts n) (args : Dens κs ps) (one other : (res_t r κs).Denot) (end end' : AtExit (ended_of n ps r) κs) →
    promise κs args one end → promise κs args other end' → one ≡ other
