-- What a call answers, what is done made a reply; what a call promises, its reply promises; and the dispatcher's promise leaves one outcome.
-- Assumes nothing.
use Prim.Native.Nat.{ℕ}
use mathlib.Core.Path.{◌≡◌, refl, sym, ◌∙◌, ap, subst}
use mathlib.Core.List.{List}
use Rattle.std.specs.Prelude.{Result, Ok, Err, IsOkAnd, IfOk, MatchResult}
use Rattle.paper.specs.Calls.{Answer}
use Rattle.paper.specs.declared.answer.Refusal.{Refusal}
use Rattle.paper.specs.declared.answer.Reading.{Reading}
use Rattle.paper.specs.declared.answer.Written.{Written}
use Rattle.paper.specs.declared.answer.Page.{Page}
use Rattle.paper.specs.Answers.{paper_read, paper_write, paper_list, Holds, HoldsAll}
use Rattle.request.specs.Replies.{paper_reply, on_paper, Carries}
use Rattle.request.specs.declared.ask.Request as request
use Rattle.request.specs.declared.reply.Reply.{Reply}
use Rattle.request.proofs.Settles.{reply_settles}
use Rattle.upkeep.specs.Requests.{Request, Called}
use Rattle.upkeep.proofs.NeverBadAnswer.{settled}
use Rattle.calls.specs.Performed.{asked, Performed}

-- ---- the reply to each call

-- is the answer a on paper, and holds what it tells
abbrev Replies : Result Reply Refusal → Answer → Type 0
Replies r a = (on_paper r ≡ a) × Carries (on_paper r) r

-- what is done made a reply, and a refusal as it is
abbrev Mapped : {A : Type 0} → (A → Reply) → Result A Refusal → Result Reply Refusal → Type 0
Mapped k a r = MatchResult a (λ x. IsOkAnd r (λ y. y ≡ k x)) (λ e. r ≡ Err e)

-- the same, of what is known of each reply that is made
pub mapped : {A : Type 0} {k : A → Reply} {Q : A → Reply → Type 0} (a : Result A Refusal) (r : Result Reply Refusal)
    → MatchResult a (λ x. IsOkAnd r (Q x)) (λ e. r ≡ Err e) → ((x : A) (y : Reply) → Q x y → y ≡ k x) → Mapped k a r
mapped (Ok x) (Ok y) p h = h x y p
mapped (Ok x) (Err e) p h = absurd p
mapped (Err e) r p h = p

same_reply : {r s : Result Reply Refusal} {a : Answer} → r ≡ s → Replies s a → Replies r a
same_reply {a = a} e h = subst (λ (x : Result Reply Refusal). Replies x a) (sym e) h

pub read_reply : (a : Result Reading Refusal) (r : Result Reply Refusal) → Mapped (λ x. Reply.Read x) a r → IfOk a (λ x. Holds (paper_read a) x.vector x.depots) → Replies r (paper_read a)
unfolding on_paper paper_reply Carries
read_reply (Ok x) (Ok y) p h = same_reply (ap (λ (z : Reply). Ok z) p) (refl, h)
read_reply (Ok x) (Err e) p h = absurd p
read_reply (Err e) r p h = same_reply p (unfold paper_read in refl, tt)

pub write_reply : (a : Result Written Refusal) (r : Result Reply Refusal) → Mapped (λ x. Reply.Written x) a r → Replies r (paper_write a)
unfolding on_paper paper_reply Carries
write_reply (Ok x) (Ok y) p = same_reply (ap (λ (z : Reply). Ok z) p) (refl, tt)
write_reply (Ok x) (Err e) p = absurd p
write_reply (Err e) r p = same_reply p (unfold paper_write in refl, tt)

pub list_reply : (a : Result Page Refusal) (r : Result Reply Refusal) → Mapped (λ x. Reply.Listed x) a r → IfOk a (λ x. HoldsAll (paper_list a) x) → Replies r (paper_list a)
unfolding on_paper paper_reply Carries
list_reply (Ok x) (Ok y) p h = same_reply (ap (λ (z : Reply). Ok z) p) (refl, h)
list_reply (Ok x) (Err e) p h = absurd p
list_reply (Err e) r p h = same_reply p (unfold paper_list in refl, tt)

-- ---- a request, known by its case, and the promise of its call

pub performed :
    (beside : List ℕ) {q q' : request.Request} {l l' : List ℕ} {x : Answer} {a : Result Reply Refusal} → q ≡ q' → Called l l' (asked q' beside) x → on_paper a ≡ x →
    Carries (on_paper a) a → Performed l (asked q beside) a l'
performed beside {l = l} {l' = l'} {a = a} p c e h =
    subst (λ (y : request.Request). Performed l (asked y beside) a l') (sym p) (record { answer = e ∙ (settled c).0; holds = h; book = (settled c).1 })

-- ---- any two outcomes that satisfy the promise coincide

pub perform_unique : (l : List ℕ) (r : Request) {a a' : Result Reply Refusal} {m m' : List ℕ} → Performed l r a m → Performed l r a' m' → (a ≡ a') × (m ≡ m')
perform_unique l r p q = (reply_settles _ _ (p.answer ∙ sym q.answer) p.holds q.holds, p.book ∙ sym q.book)
