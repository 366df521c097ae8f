-- The reply to whatever is asked as the paper has it, and the room that it has for what it tells.
-- Assumes nothing.
use Rattle.std.specs.Prelude.{Result, Ok, Err, ⊤}
use Rattle.paper.specs.Calls.{Answer, refused, done}
use Rattle.paper.specs.declared.answer.Refusal.{Refusal}
use Rattle.paper.specs.Answers.{number_of, paper_read, paper_write, paper_list, Holds, HoldsAll}
use Rattle.request.specs.declared.reply.Reply.{Reply}

-- what any request that is done tells
unfoldable pub paper_reply : Reply → Answer
paper_reply Reply.Done = done
paper_reply (Reply.Read a) = paper_read (Ok a)
paper_reply (Reply.Written a) = paper_write (Ok a)
paper_reply (Reply.Listed a) = paper_list (Ok a)

-- the reply to any request
unfoldable pub on_paper : Result Reply Refusal → Answer
on_paper (Ok x) = paper_reply x
on_paper (Err r) = refused (number_of r)

-- the room of a reply holds what the answer a tells and nothing else: the entries of a read, and what is told of each bearing of a list
unfoldable pub Carries : Answer → Result Reply Refusal → Type 0
Carries a (Ok Reply.Done) = ⊤
Carries a (Ok (Reply.Read x)) = Holds a x.vector x.depots
Carries a (Ok (Reply.Written x)) = ⊤
Carries a (Ok (Reply.Listed x)) = HoldsAll a x
Carries a (Err r) = ⊤
