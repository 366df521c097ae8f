-- `holders::tell_who` meets its contract: no room, the number of the refusal, or 0, the mask and the count.
-- Assumes nothing.
use Prim.Native.Nat.{ℕ}
use mathlib.Core.Path.{◌≡◌, sym, ◌∙◌, ap}
use mathlib.Core.List.{List}
use Rattle.paper.specs.declared.answer.Refusal.{Refusal}
use Rattle.paper.specs.Answers.{number_of}
use Rattle.book.specs.Words.{put}
use Rattle.room.proofs.RoomLaws.{with_room, no_room_law}
use Rattle.std.specs.Prelude.{Result, Ok, Err}
use Rattle.who.specs.declared.Holders.{Holders}
use Rattle.who.specs.Who.{Told, refused, has, paper_who, who_told, WhoHas}
use Rattle.holders.specs.Told.{told_number, told_out}
use Rattle.holders.proofs.tell_who.Goals as goal

-- what an answer, known by its case, is on paper
as_refused : {l : List ℕ} {d k : ℕ} {a : Result Holders Refusal} {r : Refusal} → WhoHas l d k a → a ≡ Err r → who_told l d k ≡ refused (number_of r)
unfolding paper_who
as_refused p e = sym p.answer ∙ ap paper_who e

as_has : {l : List ℕ} {d k : ℕ} {a : Result Holders Refusal} {h : Holders} → WhoHas l d k a → a ≡ Ok h → who_told l d k ≡ has h.mask h.count
unfolding paper_who
as_has p e = sym p.answer ∙ ap paper_who e

pub returns-then-out-lt-WHO_WORDS : goal.returns-then-out-lt-WHO_WORDS
returns-then-out-lt-WHO_WORDS c = record { value = no_room_law _ _ _ _ c.if-out-lt-WHO_WORDS.true; out_after = no_room_law _ _ _ _ c.if-out-lt-WHO_WORDS.true }

pub returns-in-Err : goal.returns-in-Err
unfolding told_number told_out
returns-in-Err c =
    let out = c.args.out.now in
    let wide = c.if-out-lt-WHO_WORDS.false in
    let e = as_refused c.who_has.ensures c.in-Err.is in
    record { value = c.number_of.ensures ∙ sym (ap told_number e) ∙ with_room _ _ _ _ wide; out_after = sym (ap (λ (x : Told). told_out x out) e) ∙ with_room _ _ _ _ wide }

pub returns-in-Ok : goal.returns-in-Ok
unfolding put told_number told_out
returns-in-Ok c =
    let out = c.args.out.now in
    let wide = c.if-out-lt-WHO_WORDS.false in
    let e = as_has c.who_has.ensures c.in-Ok.is in
    record { value = sym (ap told_number e) ∙ with_room _ _ _ _ wide; out_after = c.write_words.ensures ∙ sym (ap (λ (x : Told). told_out x out) e) ∙ with_room _ _ _ _ wide }
