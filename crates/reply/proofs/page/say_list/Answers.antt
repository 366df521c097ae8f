-- `reply::page::say_list` meets its contract: the 0, then what is told of each bearing.
-- Assumes nothing.
use native.Mathlib.Omega.{arith}
use lib.ListN.{length-set}
use Rattle.line.proofs.PrintLaws.{wrote_after, wrote_length}
use Rattle.reply.proofs.page.say_list.Goals as goal

pub say_page-requires : goal.say_page-requires
say_page-requires c =
    (c.requires.0, c.requires.1, simp length-set (omega (arith, c.requires.2)))

pub returns : goal.returns
returns c = wrote_after 48 c.say_page.ensures

pub shape_of-out : goal.shape_of-out
shape_of-out c = wrote_length (wrote_after 48 c.say_page.ensures)
