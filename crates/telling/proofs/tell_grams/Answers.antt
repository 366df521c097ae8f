-- `telling::tell_grams` meets its contract: without room nothing is written; no card is told by its number, and grams by their two words.
-- Assumes nothing.
use Prim.Native.Nat.{ℕ}
use mathlib.Core.Path.{sym, ◌∙◌, ap, ap₂}
use mathlib.Core.List.{[], ◌∷◌}
use Rattle.std.specs.Prelude.{Option}
use Rattle.paper.specs.Answers.{number_of}
use Rattle.card.specs.Card.{grams_number}
use Rattle.room.specs.Room.{filled}
use Rattle.room.proofs.RoomLaws.{with_room, no_room_law, filled_none}
use Rattle.telling.specs.Told.{grams_out}
use Rattle.telling.proofs.tell_grams.Goals as goal

pub returns-then-out-lt-GRAMS_WORDS : goal.returns-then-out-lt-GRAMS_WORDS
returns-then-out-lt-GRAMS_WORDS c = let short = c.if-out-lt-GRAMS_WORDS.true in
    record {
      value = no_room_law _ _ _ _ short;
      out_after = no_room_law _ _ _ _ short;
    }

pub returns-in_default : goal.returns-in_default
unfolding number_of grams_number grams_out
returns-in_default c =
    let wide = c.if-out-lt-GRAMS_WORDS.false in
    let none = sym c.in_default.is ∙ c.grams.ensures in
    let out = c.args.out.now in
    record {
      value = c.number_of.ensures ∙ ap grams_number none ∙ with_room _ _ _ _ wide;
      out_after = filled_none _ ∙ ap (λ (a : Option ℕ). filled (grams_out a) out) none ∙ with_room _ _ _ _ wide;
    }

pub returns : goal.returns
unfolding grams_number grams_out
returns c =
    let wide = c.if-out-lt-GRAMS_WORDS.false in
    let some = sym c.in-Some.is ∙ c.grams.ensures in
    let out = c.args.out.now in
    let words = ap₂ (λ (a b : ℕ). filled (a ∷ b ∷ []) out) c.low_word.ensures c.high_word.ensures in
    record {
      value = ap grams_number some ∙ with_room _ _ _ _ wide;
      out_after = c.fill.ensures ∙ words ∙ ap (λ (a : Option ℕ). filled (grams_out a) out) some ∙ with_room _ _ _ _ wide;
    }
