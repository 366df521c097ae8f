-- A call by its number: refused, there is no record; done, it is the request's; and with or without room for it.
-- Assumes nothing.
use Prim.Native.Nat.{ℕ, ◌+◌, ◌≤◌, ◌<◌}
use native.Mathlib.Omega.{arith}
use mathlib.Core.Path.{◌≡◌, refl, sym, ◌∙◌, ap, subst}
use mathlib.Core.Bool.{Bool, true, false}
use mathlib.Core.List.{List, []}
use lib.Dec.{eqb, ltb}
use lib.ListN.{length}
use borrow.Author.Tests.{eq-eqb, ne_eqb, lt-ltb, le-ltb}
use Rattle.std.specs.Prelude.{Result}
use Rattle.loops.specs.Loops.{pick}
use Rattle.loops.proofs.BoolLaws.{pick_true, pick_false}
use Rattle.paper.specs.Calls.{number_in, refused}
use Rattle.paper.specs.declared.answer.Refusal.{Refusal}
use Rattle.request.specs.declared.reply.Reply.{Reply}
use Rattle.request.specs.Replies.{on_paper, Carries}
use Rattle.book.specs.Words.{put}
use Rattle.book.proofs.WordsLaws.{put_none}
use Rattle.upkeep.specs.Requests.{Request, number_at}
use Rattle.upkeep.proofs.NeverBadAnswer.{reply_number}
use Rattle.wire.specs.Wire.{byte_limit, Below}
use Rattle.journal.specs.Record.{record_bytes}
use Rattle.journal.specs.Recording.{recorded_number, recorded_book, recorded_in, recorded_size}
use Rattle.journal.proofs.OneJournal.{record_bytes_law}
use Rattle.calls.specs.Performed.{Performed}
use Rattle.recorder.specs.declared.answer.Recorded.{Recorded}
use Rattle.recorder.specs.Promises.{record_of, Appended, recorded_reply, Recording}

-- the number that a reply tells
pub told_number_law : {l l' : List ℕ} {r : Request} {a : Result Reply Refusal} {n : ℕ} → Performed l r a l' → n ≡ number_in (on_paper a) → n ≡ number_at l r
told_number_law {l} {r = r} p e = e ∙ ap number_in p.answer ∙ reply_number l r

-- ---- by the number

pub record_none : (l : List ℕ) (r : Request) → (number_at l r ≡ 0 → ⊥) → record_of l r ≡ []
unfolding record_of
record_none l r h = pick_false _ _ (ne_eqb _ _ h)

pub record_done : (l : List ℕ) (r : Request) → number_at l r ≡ 0 → record_of l r ≡ record_bytes r
unfolding record_of
record_done l r h = pick_true _ _ (eq-eqb _ _ h)

pub appended_none :
    {l l' : List ℕ} {r : Request} (o : List ℕ) (at : ℕ) {a : Result Reply Refusal} {n : ℕ} → Performed l r a l' → n ≡ number_at l r → (n ≡ 0 → ⊥) →
    Appended l r o at (record { number = n; reply = a; size = 0 }) l' o
appended_none {l} {r = r} o at p e h =
    let none = record_none l r (λ z. h (e ∙ z)) in record {
      number = e;
      performed = p;
      size = sym (ap length none);
      buffer = sym (ap (put o at) none ∙ put_none o at);
    }

pub appended_done :
    {l l' : List ℕ} {r : Request} (o : List ℕ) (at : ℕ) {a : Result Reply Refusal} {size : ℕ} {o' : List ℕ} → Performed l r a l' → number_at l r ≡ 0 → size ≡ length (record_bytes r) →
    o' ≡ put o at (record_bytes r) → Appended l r o at (record { number = 0; reply = a; size = size }) l' o'
appended_done {l} {r = r} o at p z s w =
    let done = record_done l r z in record {
      number = sym z;
      performed = p;
      size = s ∙ sym (ap length done);
      buffer = w ∙ sym (ap (put o at) done);
    }

-- what is to be written of a request that is done is its record, which is made of bytes
pub record_asks :
    (l : List ℕ) (r : Request) (at room : ℕ) → number_at l r ≡ 0 → at + length (record_of l r) ≤ room → (at + length (record_bytes r) ≤ room) × Below byte_limit (record_bytes r)
record_asks l r at room z h = (subst (λ (u : List ℕ). at + length u ≤ room) (record_done l r z) h, record_bytes_law l r z)

-- ---- by the room

length_pick : (b : Bool) (u : List ℕ) → length (pick b u []) ≡ pick b (length u) 0
unfolding pick
length_pick true u = refl
length_pick false u = refl

put_pick : (b : Bool) (o u : List ℕ) → put o 0 (pick b u []) ≡ pick b (put o 0 u) o
unfolding pick
put_pick true o u = refl
put_pick false o u = put_none o 0

pick_room : (b : Bool) (u : List ℕ) (n : ℕ) → length u ≤ n → 0 + length (pick b u []) ≤ n
unfolding pick
pick_room true u n h = omega arith
pick_room false u n h = omega arith

-- room for the request's record is room for what is written
pub record_room_law : (l : List ℕ) (r : Request) (n : ℕ) → length (record_bytes r) ≤ n → 0 + length (record_of l r) ≤ n
unfolding record_of
record_room_law l r n h = pick_room (eqb (number_at l r) 0) (record_bytes r) n h

pub recording_room : {l l' : List ℕ} {r : Request} {o o' : List ℕ} {a : Recorded} → length (record_bytes r) ≤ length o → Appended l r o 0 a l' o' → Recording l r o a l' o'
unfolding recorded_number recorded_book recorded_in recorded_size recorded_reply record_of
recording_room {l} {r = r} {o = o} h p =
    let wide : ltb (length o) (length (record_bytes r)) ≡ false = le-ltb _ _ h in
    let n : recorded_number l r (length o) ≡ number_at l r = pick_false _ _ wide in record {
      number = p.number ∙ sym n;
      reply = p.performed.answer ∙ sym (pick_false _ _ wide);
      holds = p.performed.holds;
      size = p.size ∙ length_pick (eqb (number_at l r) 0) (record_bytes r) ∙ ap (λ (k : ℕ). pick (eqb k 0) (length (record_bytes r)) 0) (sym n);
      book = p.performed.book ∙ sym (pick_false _ _ wide);
      buffer = p.buffer ∙ put_pick (eqb (number_at l r) 0) o (record_bytes r) ∙ ap (λ (k : ℕ). pick (eqb k 0) (put o 0 (record_bytes r)) o) (sym n);
    }

pub recording_none :
    (l : List ℕ) (r : Request) (o : List ℕ) {a : Result Reply Refusal} → length o < length (record_bytes r) → on_paper a ≡ refused 1 → Carries (on_paper a) a →
    Recording l r o (record { number = 100; reply = a; size = 0 }) l o
unfolding recorded_number recorded_book recorded_in recorded_size recorded_reply
recording_none l r o h e k =
    let short : ltb (length o) (length (record_bytes r)) ≡ true = lt-ltb _ _ h in
    let n : recorded_number l r (length o) ≡ 100 = pick_true _ _ short in
    let some : eqb (recorded_number l r (length o)) 0 ≡ false = ap (λ (x : ℕ). eqb x 0) n in record {
      number = sym n;
      reply = e ∙ sym (pick_true _ _ short);
      holds = k;
      size = sym (pick_false _ _ some);
      book = sym (pick_true _ _ short);
      buffer = sym (pick_false _ _ some);
    }
