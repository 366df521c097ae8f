-- What stands on paper, and what its room holds, settle the reply: it is got back from it, by a table that serves this proof alone.
-- Assumes nothing.
use Prim.Native.Nat.{ℕ}
use mathlib.Core.Path.{◌≡◌, refl, sym, ◌∙◌, ap}
use mathlib.Core.List.{List}
use Rattle.std.specs.Prelude.{Option, Some, None, Result, Ok, Err}
use Rattle.paper.specs.Calls.{Answer, refused, done, reads, current, superseded, listed}
use Rattle.paper.specs.declared.answer.Payload.{Payload}
use Rattle.paper.specs.declared.answer.Refusal.{Refusal}
use Rattle.paper.specs.declared.answer.Reading.{Reading}
use Rattle.paper.specs.declared.answer.Written.{Written}
use Rattle.paper.specs.declared.answer.Page.{Page}
use Rattle.paper.specs.Answers.{paper_found, paper_read, paper_write, paper_list}
use Rattle.paper.proofs.Settles.{refusal_at, refusal_back, reading_of, reading_at, reading_back, page_of, page_back}
use Rattle.request.specs.declared.reply.Reply.{Reply}
use Rattle.request.specs.Replies.{paper_reply, on_paper, Carries}

reply_at : Answer → Result Reply Refusal
reply_at (refused n) = Err (refusal_at n)
reply_at done = Ok Reply.Done
reply_at (reads t) = Ok (Reply.Read (reading_at t))
reply_at (current stamp) = Ok (Reply.Written (Written.Current stamp))
reply_at (superseded stamp) = Ok (Reply.Written (Written.Superseded stamp))
reply_at (listed told) = Ok (Reply.Listed (page_of told))

found_back : (f : Option Payload) (u : List ℕ) → reply_at (paper_found f u) ≡ Ok (Reply.Read (reading_of f u))
unfolding paper_found reply_at reading_at
found_back (Some p) u = refl
found_back None u = refl

reply_back : (x : Result Reply Refusal) → Carries (on_paper x) x → reply_at (on_paper x) ≡ x
unfolding on_paper paper_reply Carries paper_read paper_write paper_list reply_at
reply_back (Ok Reply.Done) h = refl
reply_back (Ok (Reply.Read a)) h = found_back a.payload _ ∙ ap (λ (y : Reading). Ok (Reply.Read y)) (reading_back a h)
reply_back (Ok (Reply.Written (Written.Current stamp))) h = refl
reply_back (Ok (Reply.Written (Written.Superseded stamp))) h = refl
reply_back (Ok (Reply.Listed a)) h = ap (λ (y : Page). Ok (Reply.Listed y)) (page_back a h)
reply_back (Err r) h = ap Err (refusal_back r)

pub reply_settles : (a b : Result Reply Refusal) → on_paper a ≡ on_paper b → Carries (on_paper a) a → Carries (on_paper b) b → a ≡ b
reply_settles a b e h k = sym (reply_back a h) ∙ ap reply_at e ∙ reply_back b k
