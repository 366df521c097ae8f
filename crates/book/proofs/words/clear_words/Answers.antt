-- `book::words::clear_words` meets its contract: the zeros that fill the run are put there.
-- Assumes nothing.
use Prim.Native.Nat.{ℕ}
use native.Mathlib.Omega.{arith}
use mathlib.Core.Path.{◌∙◌, refl, ap}
use lib.ListN.{length, replicate, length-replicate}
use Rattle.book.proofs.WordsLaws.{length_part, part_lent, put_run}
use Rattle.book.proofs.words.clear_words.Goals as goal

pub returns : goal.returns
returns c =
    let args = c.args in
    let size = length-replicate {A = ℕ} args.n 0 in
    let lent = ap length (part_lent args.book.now args.at _ args.n refl) ∙ length_part args.book.now args.at args.n c.requires in
    put_run _ _ _ _ (c.fill.ensures.after (λ y e. e) ∙ ap (λ (k : ℕ). replicate k 0) lent) (omega (arith, size)) (omega (arith, size))
