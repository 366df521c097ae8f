-- `report::say::say_finding` meets its contract: a text for each answer.
-- Assumes nothing.
use native.Mathlib.Omega.{arith}
use Rattle.report.specs.Report.{spoken_finding}
use Rattle.report.proofs.SayLaws.{room_text, room_numbered}
use Rattle.report.proofs.say.say_finding.Goals as goal

pub say_text-requires : goal.say_text-requires
say_text-requires c = room_text _ _ (omega (arith, c.requires))

pub say_text-requires-in-BadLength : goal.say_text-requires-in-BadLength
say_text-requires-in-BadLength c = room_text _ _ (omega (arith, c.requires))

pub say_numbered-requires : goal.say_numbered-requires
say_numbered-requires c = room_numbered _ _ _ (omega (arith, c.requires))

pub say_numbered-requires-in-Circle : goal.say_numbered-requires-in-Circle
say_numbered-requires-in-Circle c = room_numbered _ _ _ (omega (arith, c.requires))

pub say_numbered-requires-in-Low : goal.say_numbered-requires-in-Low
say_numbered-requires-in-Low c = room_numbered _ _ _ (omega (arith, c.requires))

pub say_text-requires-in-Causal : goal.say_text-requires-in-Causal
say_text-requires-in-Causal c = room_text _ _ (omega (arith, c.requires))

pub returns-in-TooMany : goal.returns-in-TooMany
unfolding spoken_finding
returns-in-TooMany c = rw c.in-TooMany.is c.say_text.ensures

pub returns-in-BadLength : goal.returns-in-BadLength
unfolding spoken_finding
returns-in-BadLength c = rw c.in-BadLength.is c.say_text-in-BadLength.ensures

pub returns-in-Refused : goal.returns-in-Refused
unfolding spoken_finding
returns-in-Refused c = rw c.in-Refused.is c.say_numbered.ensures

pub returns-in-Circle : goal.returns-in-Circle
unfolding spoken_finding
returns-in-Circle c = rw c.in-Circle.is c.say_numbered-in-Circle.ensures

pub returns-in-Low : goal.returns-in-Low
unfolding spoken_finding
returns-in-Low c = rw c.in-Low.is c.say_numbered-in-Low.ensures

pub returns-in-Causal : goal.returns-in-Causal
unfolding spoken_finding
returns-in-Causal c = rw c.in-Causal.is c.say_text-in-Causal.ensures
