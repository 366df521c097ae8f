-- `request::reply::number_in` meets its contract: 0, or the number of the refusal.
-- Assumes nothing.
use Prim.Native.Nat.{ℕ}
use mathlib.Core.Path.{◌≡◌, refl, sym, ◌∙◌, ap}
use mathlib.Core.List.{List}
use Rattle.std.specs.Prelude.{Option, Some, None, Result}
use Rattle.paper.specs.Calls.{number_in}
use Rattle.paper.specs.declared.answer.Payload.{Payload}
use Rattle.paper.specs.declared.answer.Refusal.{Refusal}
use Rattle.paper.specs.declared.answer.Written.{Written}
use Rattle.paper.specs.Answers.{paper_found, paper_read, paper_write, paper_list}
use Rattle.request.specs.declared.reply.Reply.{Reply}
use Rattle.request.specs.Replies.{paper_reply, on_paper}
use Rattle.request.proofs.reply.number_in.Goals as goal

found_number : (f : Option Payload) (u : List ℕ) → 0 ≡ number_in (paper_found f u)
unfolding number_in paper_found
found_number (Some p) u = refl
found_number None u = refl

-- what is done has the number 0
done_number : (x : Reply) → 0 ≡ number_in (paper_reply x)
unfolding number_in paper_reply paper_read paper_write paper_list
done_number Reply.Done = refl
done_number (Reply.Read a) = found_number a.payload _
done_number (Reply.Written (Written.Current stamp)) = refl
done_number (Reply.Written (Written.Superseded stamp)) = refl
done_number (Reply.Listed a) = refl

pub returns-in-Ok : goal.returns-in-Ok
unfolding on_paper
returns-in-Ok c = done_number _ ∙ sym (ap (λ (x : Result Reply Refusal). number_in (on_paper x)) c.in-Ok.is)

pub returns-in-Err : goal.returns-in-Err
unfolding number_in on_paper
returns-in-Err c = c.number_of.ensures ∙ sym (ap (λ (x : Result Reply Refusal). number_in (on_paper x)) c.in-Err.is)
