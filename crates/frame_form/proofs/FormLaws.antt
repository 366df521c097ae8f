-- A message of no known kind; where the next message begins; and each message of a frame is there.
-- Assumes nothing.
use Prim.Native.Nat.{ℕ, ◌+◌, ◌*◌, ◌<◌}
use native.Mathlib.Omega.{arith}
use native.Mathlib.Numerals.{add-one}
use mathlib.Core.Path.{◌≡◌, sym, ◌∙◌, ap, ap₂}
use mathlib.Core.Logic.{⊎_elim}
use mathlib.Core.Bool.{Bool, true, false, ◌&&◌, and-false}
use mathlib.Core.List.{List}
use lib.Dec.{eqb, leb}
use lib.ListN.{length, get_or}
use borrow.Author.Tests.{eq-eqb, lt-ltb}
use Rattle.loops.specs.Loops.{every}
use Rattle.loops.proofs.BoolLaws.{and_next}
use Rattle.book.specs.Layout.{beat_kind, copy_kind, kind_of}
use Rattle.messages.proofs.MessageLaws.{message_none}
use Rattle.wire.specs.Wire.{half_at}
use Rattle.frame.specs.declared.Route.{Route}
use Rattle.frame.specs.Frame.{offset_at, body_at, size_of, count_in, start_in, message_at, message_right, messages_right, formed}
use Rattle.frame.specs.Promises.{Ready}
use Rattle.frame.proofs.MessageLaws.{IsBeat, IsCopied, size_beat, size_copy, kind_read, fit_kind}
use Rattle.frame.proofs.DecodeLaws.{formed_says}
use Rattle.frame.proofs.PromiseLaws.{ready_known}
use Rattle.frame_form.specs.Asks.{There}

-- ---- a message

-- one of no known kind is not right
pub right_strange :
    (r : Route) (f : List ℕ) (i at : ℕ) → half_at f (offset_at i) ≡ at → at < length f → size_of r.counts.depots (get_or f at 0) ≡ 0 →
    false ≡ message_right r f i at
unfolding message_right
right_strange r f i at a b h =
    let no-beat : (kind_of (message_at r f at) ≡ beat_kind → ⊥) = λ e. omega (arith, size_beat r.counts.depots (get_or f at 0) (sym (kind_read r f at) ∙ e)) in
    let no_copy : (kind_of (message_at r f at) ≡ copy_kind → ⊥) = λ e. omega (arith, size_copy r.counts.depots (get_or f at 0) (sym (kind_read r f at) ∙ e)) in
    sym (and_next _ (eq-eqb _ _ a) ∙ and_next _ (lt-ltb _ _ b) ∙ ap (λ (x : Bool). leb (at + size_of r.counts.depots (get_or f at 0)) (length f) && x)
    (sym (message_none r.counts r.shelf.0 r.from.0 (message_at r f at) no-beat no_copy)) ∙ and-false (leb (at + size_of r.counts.depots (get_or f at 0)) (length f)))

-- ---- from one to the next

pub start_none : (depots : ℕ) (f : List ℕ) {count : ℕ} → count ≡ count_in f → 4 + 2 * count ≡ start_in depots f 0
unfolding start_in
start_none depots f e = ap body_at e

pub start_more :
    (depots : ℕ) (f : List ℕ) (i : ℕ) {at size : ℕ} → at ≡ start_in depots f i → size ≡ size_of depots (get_or f at 0) → at + size ≡ start_in depots f (i + 1)
unfolding start_in
start_more depots f i p q = ap₂ (λ (a b : ℕ). a + b) p (q ∙ ap (λ (a : ℕ). size_of depots (get_or f a 0)) p) ∙ ap (start_in depots f) (sym (add-one i))

-- the last test, where every message is right
pub right_ends :
    (r : Route) (f : List ℕ) {at : ℕ} → messages_right r f ≡ true → at ≡ start_in r.counts.depots f (count_in f) →
    eqb at (length f) ≡ messages_right r f && eqb (start_in r.counts.depots f (count_in f)) (length f)
right_ends r f h e = ap (λ (a : ℕ). eqb a (length f)) e ∙ sym (and_next _ h)

pub all_right : (r : Route) (f : List ℕ) {n : ℕ} → n ≡ count_in f → every n (λ i. message_right r f i (start_in r.counts.depots f i)) ≡ messages_right r f
unfolding messages_right
all_right r f e = ap (λ (n : ℕ). every n (λ i. message_right r f i (start_in r.counts.depots f i))) e

-- a message of a frame of the link is there
pub there_at : (r : Route) (f : List ℕ) (i : ℕ) {at : ℕ} → Ready r → formed r f ≡ true → i < count_in f → at ≡ start_in r.counts.depots f i → There r f at
there_at r f i {at} ready h l e =
    let w = (formed_says r f h).at i l in
    rw e (record { begins = w.there; known = some (fit_kind r _ (ready_known r ready).bearings w.fit); ends = w.ends })
  where
    some : mathlib.Core.Logic.◌⊎◌ (IsBeat (message_at r f (start_in r.counts.depots f i))) (IsCopied (message_at r f (start_in r.counts.depots f i))) →
        0 < size_of r.counts.depots (get_or f (start_in r.counts.depots f i) 0)
    some =
        ⊎_elim
        (λ (b : IsBeat (message_at r f (start_in r.counts.depots f i))). omega (arith, size_beat r.counts.depots _ (sym (kind_read r f (start_in r.counts.depots f i)) ∙ b.kind)))
        (λ (c : IsCopied (message_at r f (start_in r.counts.depots f i))). omega (arith, size_copy r.counts.depots _ (sym (kind_read r f (start_in r.counts.depots f i)) ∙ c.kind)))
