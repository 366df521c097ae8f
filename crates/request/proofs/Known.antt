-- A reply, known by its case.
-- Assumes nothing.
use mathlib.Core.Path.{◌≡◌, ◌∙◌, ap, subst}
use Rattle.std.specs.Prelude.{Result, Ok}
use Rattle.paper.specs.declared.answer.Refusal.{Refusal}
use Rattle.request.specs.declared.reply.Reply.{Reply}
use Rattle.request.specs.Replies.{on_paper, Carries}

pub known_done : {r : Result Reply Refusal} {x y : Reply} → r ≡ Ok x → x ≡ y → r ≡ Ok y
known_done e f = e ∙ ap (λ (z : Reply). Ok z) f

-- its room holds what it tells, as it did
pub carried : {r s : Result Reply Refusal} → r ≡ s → Carries (on_paper r) r → Carries (on_paper s) s
carried e h = subst (λ (x : Result Reply Refusal). Carries (on_paper x) x) e h
