-- `line::reader::read_line` meets its contract: one law serves the seven letters.
-- Assumes nothing.
use Prim.Native.Nat.{ℕ, ◌≤◌}
use mathlib.Core.Path.{◌≡◌, sym, ◌∙◌, ap}
use mathlib.Core.List.{List}
use Rattle.std.specs.Prelude.{Option}
use lib.ListN.{length, get_or, drop}
use Rattle.line.specs.Grammar.{letter, least, most}
use Rattle.line.specs.Reading.{numbers_in, counted, reading, line_of}
use Rattle.request.specs.declared.ask.Event.{Event}
use Rattle.request.specs.declared.ask.Event.TheVariants as event
use Rattle.line.specs.declared.reader.Line.{Line}
use Rattle.line.proofs.LineLaws.{no_letter, reading_long, reading_empty, reading_event, reading_other}
use Rattle.line.proofs.reader.read_line.Goals as goal

-- the answer of a line whose first byte is the letter of e
answer : (e : Event) {r : Option Line} (s : List ℕ)
    → r ≡ line_of (counted e (least e) (numbers_in (most e) (drop 1 s)))
    → length s ≤ 120
    → (length s ≡ 0 → ⊥)
    → get_or s 0 0 ≡ letter e
    → r ≡ line_of (reading s)
answer e s p h k q = p ∙ ap line_of (sym (reading_event e s h k q))

pub returns-then-s-gt-MOST_BYTES : goal.returns-then-s-gt-MOST_BYTES
unfolding line_of
returns-then-s-gt-MOST_BYTES c = ap line_of (sym (reading_long _ c.if-s-gt-MOST_BYTES.true))

pub returns-then-s-eq0 : goal.returns-then-s-eq0
unfolding line_of
returns-then-s-eq0 c = ap line_of (sym (reading_empty _ c.if-s-eq0.true))

pub returns-in-83 : goal.returns-in-83
returns-in-83 c = answer event.Setup _ c.read_numbers.ensures c.if-s-gt-MOST_BYTES.false c.if-s-eq0.false c.in-83.is

pub returns-in-82 : goal.returns-in-82
returns-in-82 c = answer event.Read _ c.read_numbers-in-82.ensures c.if-s-gt-MOST_BYTES.false c.if-s-eq0.false c.in-82.is

pub returns-in-87 : goal.returns-in-87
returns-in-87 c = answer event.Write _ c.read_numbers-in-87.ensures c.if-s-gt-MOST_BYTES.false c.if-s-eq0.false c.in-87.is

pub returns-in-75 : goal.returns-in-75
returns-in-75 c = answer event.Tick _ c.read_numbers-in-75.ensures c.if-s-gt-MOST_BYTES.false c.if-s-eq0.false c.in-75.is

pub returns-in-84 : goal.returns-in-84
returns-in-84 c = answer event.Take _ c.read_numbers-in-84.ensures c.if-s-gt-MOST_BYTES.false c.if-s-eq0.false c.in-84.is

pub returns-in-70 : goal.returns-in-70
returns-in-70 c = answer event.Refresh _ c.read_numbers-in-70.ensures c.if-s-gt-MOST_BYTES.false c.if-s-eq0.false c.in-70.is

pub returns-in-76 : goal.returns-in-76
returns-in-76 c = answer event.List _ c.read_numbers-in-76.ensures c.if-s-gt-MOST_BYTES.false c.if-s-eq0.false c.in-76.is

-- any other first byte
pub returns-in_default : goal.returns-in_default
unfolding line_of
returns-in_default c =
    let other = c.in_default.in_default-own.rest in
    ap line_of
    (sym
    (reading_other _ c.if-s-gt-MOST_BYTES.false
    (no_letter _ other.0.0.0.0.0.0.1 other.0.0.0.0.0.1 other.0.0.0.0.1 other.0.0.0.1 other.0.0.1 other.0.1 other.1)))
