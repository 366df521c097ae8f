-- Every promise settles its call: any two outcomes, answer and book, that satisfy it coincide. They are one on paper, and the paper settles the answer.
-- Assumes nothing.
use Prim.Native.Nat.{ℕ}
use mathlib.Core.Path.{◌≡◌, sym, ◌∙◌}
use mathlib.Core.List.{List}
use Rattle.std.proofs.Common.{Result}
use Rattle.book.specs.declared.parts.Counts.{Counts}
use Rattle.paper.specs.declared.answer.Payload.{Payload}
use Rattle.paper.specs.declared.answer.Refusal.{Refusal}
use Rattle.paper.specs.declared.answer.Reading.{Reading}
use Rattle.paper.specs.declared.answer.Written.{Written}
use Rattle.paper.specs.declared.answer.Page.{Page}
use Rattle.paper.proofs.Settles.{plain_settles, read_settles, written_settles, list_settles}
use Rattle.register.specs.Promises.{Setup, Read, Write, Tick, Take, Refresh, Move, Listing}

pub setup_unique : (l : List ℕ) (n : Counts) (homes : List ℕ) {r r' : Result Unit Refusal} {m m' : List ℕ} → Setup l n homes r m → Setup l n homes r' m' → (r ≡ r') × (m ≡ m')
setup_unique l n homes p q = (plain_settles _ _ (p.answer ∙ sym q.answer), p.book ∙ sym q.book)

pub read_unique : (l : List ℕ) (c k : ℕ) {r r' : Result Reading Refusal} {m m' : List ℕ} → Read l c k r m → Read l c k r' m' → (r ≡ r') × (m ≡ m')
read_unique l c k p q = (read_settles _ _ (p.answer ∙ sym q.answer) p.holds q.holds, p.book ∙ sym q.book)

pub write_unique : (l : List ℕ) (c k : ℕ) (payload : Payload) {r r' : Result Written Refusal} {m m' : List ℕ} → Write l c k payload r m → Write l c k payload r' m' → (r ≡ r') × (m ≡ m')
write_unique l c k payload p q = (written_settles _ _ (p.answer ∙ sym q.answer), p.book ∙ sym q.book)

pub tick_unique : (l : List ℕ) (d s : ℕ) {r r' : Result Unit Refusal} {m m' : List ℕ} → Tick l d s r m → Tick l d s r' m' → (r ≡ r') × (m ≡ m')
tick_unique l d s p q = (plain_settles _ _ (p.answer ∙ sym q.answer), p.book ∙ sym q.book)

pub take_unique : (l : List ℕ) (d s from : ℕ) {r r' : Result Unit Refusal} {m m' : List ℕ} → Take l d s from r m → Take l d s from r' m' → (r ≡ r') × (m ≡ m')
take_unique l d s from p q = (plain_settles _ _ (p.answer ∙ sym q.answer), p.book ∙ sym q.book)

pub refresh_unique : (l : List ℕ) (d s : ℕ) {r r' : Result Unit Refusal} {m m' : List ℕ} → Refresh l d s r m → Refresh l d s r' m' → (r ≡ r') × (m ≡ m')
refresh_unique l d s p q = (plain_settles _ _ (p.answer ∙ sym q.answer), p.book ∙ sym q.book)

pub move_unique : (l : List ℕ) (c d : ℕ) {r r' : Result Unit Refusal} {m m' : List ℕ} → Move l c d r m → Move l c d r' m' → (r ≡ r') × (m ≡ m')
move_unique l c d p q = (plain_settles _ _ (p.answer ∙ sym q.answer), p.book ∙ sym q.book)

pub list_unique : (l : List ℕ) (c : ℕ) (ks : List ℕ) {r r' : Result Page Refusal} {m m' : List ℕ} → Listing l c ks r m → Listing l c ks r' m' → (r ≡ r') × (m ≡ m')
list_unique l c ks p q = (list_settles _ _ (p.answer ∙ sym q.answer) p.holds q.holds, p.book ∙ sym q.book)
