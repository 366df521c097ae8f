-- `request::ask::beside_in` meets its contract: past the last number nothing follows.
-- Assumes nothing.
use Prim.Native.Nat.{ℕ, ◌-◌}
use native.Mathlib.Omega.{arith}
use mathlib.Core.Path.{◌≡◌, sym, ◌∙◌, ap}
use mathlib.Core.List.{List}
use lib.ListN.{length, take, drop, length-drop, drop_of_length-le}
use lib.Seq.{take-length, drop-length}
use Rattle.request.specs.Requests.{own_numbers, beside_in}
use Rattle.request.proofs.ask.beside_in.Goals as goal

-- all that follows the first k
rest_of : (ns : List ℕ) (k : ℕ) → take (length ns - k) (drop k ns) ≡ drop k ns
rest_of ns k = rw (← length-drop k ns) (take-length (drop k ns))

pub returns-then-end-own : goal.returns-then-end-own
unfolding beside_in
returns-then-end-own c =
    let ns = c.args.numbers.now in
    let own = c.own_numbers-own.ensures in
    rest_of ns (length ns) ∙ drop-length ns ∙ sym (drop_of_length-le ns {i = own_numbers _} (omega (arith, own, c.if-end-own.true)))

pub returns : goal.returns
unfolding beside_in
returns c =
    let ns = c.args.numbers.now in
    rest_of ns _ ∙ ap (λ (k : ℕ). drop k ns) c.own_numbers-own.ensures
