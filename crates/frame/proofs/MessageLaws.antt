-- A message in bytes: how many there are, what they read back as, that no others read as the same, and that what reads back is fit.
-- Assumes nothing.
use Prim.Native.Nat.{ℕ, zero, suc, ◌+◌, ◌*◌, ◌%◌, ◌≤◌, ◌<◌}
use native.Mathlib.Omega.{arith}
use mathlib.Core.Path.{◌≡◌, refl, sym, ◌∙◌, ap, ap₂, subst}
use mathlib.Core.Logic.{◌⊎◌, inl, inr, ⊎_elim}
use mathlib.Core.Bool.{Bool, true, false}
use mathlib.Core.List.{List, [], ◌∷◌, ◌++◌}
use lib.Dec.{eqb, ltb, lit<, lit≤}
use lib.ListN.{length, get_or}
use borrow.Author.Tests.{eq-eqb, ne_eqb, ltb-true, lt-ltb, le-ltb, eqb-true, eqb-false}
use Rattle.loops.specs.Loops.{pick}
use Rattle.loops.proofs.BoolLaws.{decided, eq_or_ne, pick_true, pick_false}
use Rattle.order.specs.Record.{bearing_of, origin_of, vector_of}
use Rattle.book.specs.Words.{part}
use Rattle.book.specs.Layout.{end, copy_kind, beat_kind, kind_of, beat_of, record_of}
use Rattle.book.proofs.WordsLaws.{part_at}
use Rattle.fit.specs.Fit.{message_fit}
use Rattle.register.proofs.FitMessage.{VersionOk, CopyOk, copy_close, copy_message, beat_message, message_cases}
use Rattle.wire.specs.Wire.{byte_limit, word_limit, word_bytes, word_at, joined, Below}
use Rattle.wire.proofs.WireLaws.{Stands, stands_right, stands_run, word_stands, word_read, part_cons, part_runs, joined_long}
use Rattle.links.specs.Send.{beat}
use Rattle.frame.specs.declared.Route.{Route}
use Rattle.frame.specs.Frame.{size_of, sent_word, beat_bytes, copy_bytes, message_bytes, entry_at, copy_at, message_at, meant_entry, meant_copy, meant}
use Rattle.frame.specs.Stretch.{Known}

-- a message is a heartbeat, or a copy of a bearing whose number is a byte
pub record IsBeat (m : List ℕ) : Type 0 where
  pub kind : kind_of m ≡ beat_kind

pub record IsCopied (m : List ℕ) : Type 0 where
  pub kind : kind_of m ≡ copy_kind
  pub bearing : get_or m 1 0 < byte_limit

-- ---- a choice by the kind

module _ {ℓ} {A : Type ℓ} {k : ℕ} (x y z : A) where
  pub by_beat : k ≡ beat_kind → pick (eqb k beat_kind) x y ≡ x
  by_beat e = pick_true _ _ (eq-eqb _ _ e)

  pub by_copy : k ≡ copy_kind → pick (eqb k beat_kind) x (pick (eqb k copy_kind) y z) ≡ y
  by_copy e = pick_false _ _ (ne_eqb k beat_kind (λ b. omega arith)) ∙ pick_true _ _ (eq-eqb _ _ e)

  pub not_beat : k ≡ copy_kind → pick (eqb k beat_kind) x y ≡ y
  not_beat e = pick_false _ _ (ne_eqb k beat_kind (λ b. omega arith))

-- ---- how many bytes

pub size_beat : (depots kind : ℕ) → kind ≡ beat_kind → size_of depots kind ≡ 5
unfolding size_of
size_beat depots kind e = by_beat _ _ 0 e

-- a kind that is neither takes no bytes
size_none : (depots kind : ℕ) → (kind ≡ beat_kind → ⊥) → (kind ≡ copy_kind → ⊥) → size_of depots kind ≡ 0
unfolding size_of
size_none depots kind b c = pick_false _ _ (ne_eqb _ _ b) ∙ pick_false _ _ (ne_eqb _ _ c)

pub size_copy : (depots kind : ℕ) → kind ≡ copy_kind → size_of depots kind ≡ 14 + 4 * depots
unfolding size_of
size_copy depots kind e = by_copy _ _ _ e

pub size_other : (depots kind : ℕ) → (kind ≡ beat_kind → ⊥) → 0 < size_of depots kind → size_of depots kind ≡ 14 + 4 * depots
size_other depots kind b h =
    ⊎_elim
    (λ (c : kind ≡ copy_kind). size_copy depots kind c)
    (λ (c : kind ≡ copy_kind → ⊥). absurd (omega (arith, size_none depots kind b c)))
    (eq_or_ne kind copy_kind)

words_long : (depots : ℕ) (m : List ℕ) (i : ℕ) → length (joined i (λ j. word_bytes (sent_word m j))) ≡ 4 * i
unfolding word_bytes
words_long depots m i = joined_long i 4 _ (λ j. refl)

pub message_long : (depots : ℕ) (m : List ℕ) → length (message_bytes depots m) ≡ size_of depots (kind_of m)
unfolding message_bytes size_of beat_bytes copy_bytes word_bytes
message_long depots m =
    ⊎_elim
    (λ (e : eqb (kind_of m) beat_kind ≡ true). ap length (pick_true _ _ e) ∙ sym (pick_true _ _ e))
    (λ (e : eqb (kind_of m) beat_kind ≡ false). ap length (pick_false _ _ e)
    ∙ ⊎_elim
    (λ (c : eqb (kind_of m) copy_kind ≡ true). ap length (pick_true _ _ c) ∙ omega (arith, words_long depots m (3 + depots)) ∙ sym (pick_true _ _ c))
    (λ (c : eqb (kind_of m) copy_kind ≡ false). ap length (pick_false _ _ c) ∙ sym (pick_false _ _ c))
    (decided (eqb (kind_of m) copy_kind))
    ∙ sym (pick_false _ _ e))
    (decided (eqb (kind_of m) beat_kind))

-- the entries of a record stand last
pub last_four : (p : ℕ → ℕ) (a b c d e o x : ℕ) → x < 4 → get_or (a ∷ b ∷ c ∷ d ∷ e ∷ o ∷ p 0 ∷ p 1 ∷ p 2 ∷ p 3 ∷ []) (6 + x) 0 ≡ p x
last_four p a b c d e o zero h = refl
last_four p a b c d e o (suc zero) h = refl
last_four p a b c d e o (suc (suc zero)) h = refl
last_four p a b c d e o (suc (suc (suc zero))) h = refl
last_four p a b c d e o (suc (suc (suc (suc x)))) h = absurd (omega arith)

-- ---- what they read back as

behind_first : (f : List ℕ) (at a : ℕ) (v : List ℕ) → Stands f at (a ∷ v) → Stands f (at + 1) v
behind_first f at a v s = stands_right f at (a ∷ []) v s

first_byte : (f : List ℕ) (at a : ℕ) (v : List ℕ) → Stands f at (a ∷ v) → get_or f at 0 ≡ a
first_byte f at a v s = let e : at ≡ at + 0 = omega arith in ap (λ (k : ℕ). get_or f k 0) e ∙ s.byte 0 (omega arith)

value_sent : (m : List ℕ) → sent_word m 0 ≡ get_or m 2 0
unfolding sent_word pick
value_sent m = refl

diameter_sent : (m : List ℕ) → sent_word m 1 ≡ get_or m 3 0
unfolding sent_word pick
diameter_sent m = refl

width_sent : (m : List ℕ) → sent_word m 2 ≡ get_or m 4 0
unfolding sent_word pick
width_sent m = refl

entry_sent : (m : List ℕ) (x : ℕ) → sent_word m (3 + x) ≡ get_or m (6 + x) 0
unfolding sent_word
entry_sent m x =
    let past : ltb (3 + x) 3 ≡ false = le-ltb (3 + x) 3 (omega arith) in
    let e : 3 + (3 + x) ≡ 6 + x = omega arith in
    ap (λ (k : ℕ). get_or m k 0) (pick_false _ _ past ∙ e)

word_is_small : (m : List ℕ) (i : ℕ) → Below word_limit m → sent_word m i < word_limit
unfolding sent_word
word_is_small m i b = b.at _

module _ (depots : ℕ) (f : List ℕ) (at : ℕ) (m : List ℕ) (b : Below word_limit m) (s : Stands f (at + 2) (joined (3 + depots) (λ i. word_bytes (sent_word m i)))) where
  word_there : (i place : ℕ) → i < 3 + depots → place ≡ at + 2 + 4 * i → word_at f place ≡ sent_word m i
  word_there i place h e =
      ap (word_at f) (e ∙ ap (λ (k : ℕ). at + 2 + k) (sym (words_long depots m i)))
      ∙ word_stands f _ (sent_word m i) (word_is_small m i b) (stands_run f (at + 2) (3 + depots) _ s i h)

  entry_there : (x : ℕ) → entry_at depots f at x ≡ meant_entry depots m x
  unfolding entry_at meant_entry
  entry_there x =
      ⊎_elim
      (λ (e : ltb x depots ≡ true).
      pick_true _ _ e ∙ word_there (3 + x) _ (omega (arith, ltb-true x depots e)) (omega arith) ∙ entry_sent m x ∙ sym (pick_true _ _ e))
      (λ (e : ltb x depots ≡ false). pick_false _ _ e ∙ sym (pick_false _ _ e))
      (decided (ltb x depots))

module _ (r : Route) (f : List ℕ) (at : ℕ) (m : List ℕ) (s : Stands f at (message_bytes r.counts.depots m)) where
  beat_stands : IsBeat m → Stands f at (beat_kind ∷ word_bytes (beat_of m))
  unfolding message_bytes beat_bytes
  beat_stands h = subst (Stands f at) (by_beat _ _ [] h.kind) s

  copy_stands : IsCopied m → Stands f at (copy_kind ∷ get_or m 1 0 % 256 ∷ joined (3 + r.counts.depots) (λ i. word_bytes (sent_word m i)))
  unfolding message_bytes copy_bytes
  copy_stands h = subst (Stands f at) (by_copy _ _ _ h.kind) s

  pub kind_beat : IsBeat m → get_or f at 0 ≡ kind_of m
  kind_beat h = first_byte f at _ _ (beat_stands h) ∙ sym h.kind

  pub kind_copy : IsCopied m → get_or f at 0 ≡ kind_of m
  kind_copy h = first_byte f at _ _ (copy_stands h) ∙ sym h.kind

  pub reads_beat : Below word_limit m → IsBeat m → message_at r f at ≡ meant r m
  unfolding message_at meant
  reads_beat b h =
      by_beat _ _ [] (kind_beat h ∙ h.kind)
      ∙ ap beat (word_stands f (at + 1) (beat_of m) (b.at 1) (behind_first f at _ _ (beat_stands h)))
      ∙ sym (by_beat _ _ [] h.kind)

  pub reads_copy : Below word_limit m → IsCopied m → message_at r f at ≡ meant r m
  unfolding message_at meant copy_at meant_copy
  reads_copy b h =
      let t : Stands f (at + 1) (get_or m 1 0 % 256 ∷ joined (3 + r.counts.depots) (λ i. word_bytes (sent_word m i))) = behind_first f at _ _ (copy_stands h) in
      let two : at + 1 + 1 ≡ at + 2 = omega arith in
      let u : Stands f (at + 2) (joined (3 + r.counts.depots) (λ i. word_bytes (sent_word m i))) = subst
      (λ (k : ℕ). Stands f k (joined (3 + r.counts.depots) (λ i. word_bytes (sent_word m i)))) two (behind_first f (at + 1) _ _ t) in
      let bearing : get_or f (at + 1) 0 ≡ get_or m 1 0 = first_byte f (at + 1) _ _ t ∙ omega (arith, h.bearing) in
      not_beat _ _ [] (kind_copy h ∙ h.kind)
      ∙ rw (
        kind_copy h,
        bearing,
        word_there r.counts.depots f at m b u 0 (at + 2) (omega arith) (omega arith) ∙ value_sent m,
        word_there r.counts.depots f at m b u 1 (at + 6) (omega arith) (omega arith) ∙ diameter_sent m,
        word_there r.counts.depots f at m b u 2 (at + 10) (omega arith) (omega arith) ∙ width_sent m,
        entry_there r.counts.depots f at m b u 0,
        entry_there r.counts.depots f at m b u 1,
        entry_there r.counts.depots f at m b u 2,
        entry_there r.counts.depots f at m b u 3,
      )
      (sym (not_beat _ _ [] h.kind))

-- ---- no other bytes read as the same

entry_said : (depots : ℕ) (f : List ℕ) (at x : ℕ) → x < depots → entry_at depots f at x ≡ word_at f (at + 14 + 4 * x)
unfolding entry_at
entry_said depots f at x h = pick_true _ _ (lt-ltb _ _ h)

copy_word : (r : Route) (f : List ℕ) (at i : ℕ) → r.counts.depots ≤ 4 → i < 3 + r.counts.depots → sent_word (copy_at r f at) i ≡ word_at f (at + 2 + 4 * i)
unfolding copy_at
copy_word r f at zero k h = let e : at + 2 ≡ at + 2 + 4 * 0 = omega arith in value_sent (copy_at r f at) ∙ ap (word_at f) e
copy_word r f at (suc zero) k h = let e : at + 6 ≡ at + 2 + 4 * 1 = omega arith in diameter_sent (copy_at r f at) ∙ ap (word_at f) e
copy_word r f at (suc (suc zero)) k h = let e : at + 10 ≡ at + 2 + 4 * 2 = omega arith in width_sent (copy_at r f at) ∙ ap (word_at f) e
copy_word r f at (suc (suc (suc x))) k h =
    let three : suc (suc (suc x)) ≡ 3 + x = omega arith in
    let e : at + 14 + 4 * x ≡ at + 2 + 4 * suc (suc (suc x)) = omega arith in
    ap (sent_word (copy_at r f at)) three
    ∙ entry_sent (copy_at r f at) x
    ∙ last_four (entry_at r.counts.depots f at) _ _ _ _ _ _ x (omega arith)
    ∙ entry_said r.counts.depots f at x (omega arith)
    ∙ ap (word_at f) e

module _ (r : Route) (f : List ℕ) (at : ℕ) (b : Below byte_limit f) (there : at < length f) (long : at + size_of r.counts.depots (get_or f at 0) ≤ length f) where
  only_beat : get_or f at 0 ≡ beat_kind → part f at 5 ≡ beat_kind ∷ word_bytes (word_at f (at + 1))
  unfolding size_of
  only_beat e =
      let size : size_of r.counts.depots (get_or f at 0) ≡ 5 = by_beat _ _ 0 e in
      part_cons f at 4 there ∙ ap₂ (λ (x : ℕ) (l : List ℕ). x ∷ l) e (word_read f (at + 1) (omega arith) b)

  only_copy :
      r.counts.depots ≤ 4 → get_or f at 0 ≡ copy_kind →
      part f at (14 + 4 * r.counts.depots) ≡ copy_kind ∷ get_or f (at + 1) 0 % 256 ∷ joined (3 + r.counts.depots) (λ i. word_bytes (sent_word (copy_at r f at) i))
  unfolding size_of
  only_copy k e =
      let size : size_of r.counts.depots (get_or f at 0) ≡ 14 + 4 * r.counts.depots = by_copy _ _ _ e in
      let n : 14 + 4 * r.counts.depots ≡ suc (suc (4 * (3 + r.counts.depots))) = omega arith in
      let two : at + 1 + 1 ≡ at + 2 = omega arith in
      let bearing : get_or f (at + 1) 0 ≡ get_or f (at + 1) 0 % 256 = omega (arith, b.at (at + 1)) in
      ap (part f at) n
      ∙ part_cons f at (suc (4 * (3 + r.counts.depots))) there
      ∙ ap₂ (λ (x : ℕ) (l : List ℕ). x ∷ l) e
      (part_cons f (at + 1) (4 * (3 + r.counts.depots)) (omega arith)
      ∙ ap₂ (λ (x : ℕ) (l : List ℕ). x ∷ l) bearing
      (ap (λ (a : ℕ). part f a (4 * (3 + r.counts.depots))) two
      ∙ part_runs f (at + 2) 4 (3 + r.counts.depots) _ (λ i h. word_read f (at + 2 + 4 * i) (omega arith) b ∙ ap word_bytes (sym (copy_word r f at i k h)))))

  pub only_message :
      r.counts.depots ≤ 4 → (get_or f at 0 ≡ beat_kind) ⊎ (get_or f at 0 ≡ copy_kind) →
      part f at (size_of r.counts.depots (get_or f at 0)) ≡ message_bytes r.counts.depots (message_at r f at)
  unfolding size_of message_bytes beat_bytes copy_bytes message_at copy_at
  only_message k =
      ⊎_elim
      (λ (e : get_or f at 0 ≡ beat_kind).
      ap (part f at) (by_beat _ _ 0 e)
      ∙ only_beat e
      ∙ sym (ap (message_bytes r.counts.depots) (by_beat (beat (word_at f (at + 1))) (copy_at r f at) [] e) ∙ by_beat {k = beat_kind} _ _ [] refl))
      (λ (e : get_or f at 0 ≡ copy_kind).
      ap (part f at) (by_copy _ _ _ e)
      ∙ only_copy k e
      ∙ sym (ap (message_bytes r.counts.depots) (not_beat (beat (word_at f (at + 1))) (copy_at r f at) [] e) ∙ by_copy {k = get_or f at 0} _ _ _ e))

-- the kind of what is read is its first byte
pub kind_read : (r : Route) (f : List ℕ) (at : ℕ) → kind_of (message_at r f at) ≡ get_or f at 0
unfolding message_at copy_at
kind_read r f at =
    ⊎_elim
    (λ (e : eqb (get_or f at 0) beat_kind ≡ true). ap kind_of (pick_true (beat (word_at f (at + 1))) (copy_at r f at) e) ∙ sym (eqb-true _ _ e))
    (λ (e : eqb (get_or f at 0) beat_kind ≡ false). ap kind_of (pick_false (beat (word_at f (at + 1))) (copy_at r f at) e))
    (decided (eqb (get_or f at 0) beat_kind))

-- ---- fitness

-- a fit message is a heartbeat or a copy
pub fit_kind : (r : Route) (m : List ℕ) → r.counts.bearings ≤ 160 → message_fit r.counts r.shelf.0 r.from.0 m ≡ true → IsBeat m ⊎ IsCopied m
fit_kind r m k h =
    ⊎_elim
    (λ (b : (kind_of m ≡ beat_kind) × (beat_of m ≤ end)). inl (record { kind = b.0 }))
    (λ (c : CopyOk r.counts r.shelf.0 r.from.0 m).
    let one : bearing_of (record_of m) ≡ get_or m 1 0 = part_at m 1 9 0 (lit< tt) in
    inr (record { kind = c.kind; bearing = omega (arith, c.bearing) }))
    (message_cases r.counts r.shelf.0 r.from.0 m h)

-- what a frame carries of a fit message is fit
module _ (r : Route) (m : List ℕ) (k : r.counts.depots ≤ 4) where
  pub same_entry : (x : ℕ) → x < r.counts.depots → vector_of (record_of (meant_copy r m)) x ≡ vector_of (record_of m) x
  unfolding meant_copy meant_entry
  same_entry x h =
      let e : 1 + (5 + x) ≡ 6 + x = omega arith in
      part_at (meant_copy r m) 1 9 (5 + x) (omega arith)
      ∙ ap (λ (i : ℕ). get_or (meant_copy r m) i 0) e
      ∙ last_four (meant_entry r.counts.depots m) _ _ _ _ _ _ x (omega arith)
      ∙ pick_true _ _ (lt-ltb _ _ h)
      ∙ ap (λ (i : ℕ). get_or m i 0) (sym e)
      ∙ sym (part_at m 1 9 (5 + x) (omega arith))

  same_word : (j : ℕ) → j < 4 → get_or (record_of (meant_copy r m)) j 0 ≡ get_or (record_of m) j 0
  unfolding meant_copy
  same_word j h = part_at (meant_copy r m) 1 9 j (omega arith) ∙ there j h ∙ sym (part_at m 1 9 j (omega arith))
    where
      there : (j : ℕ) → j < 4 → get_or (meant_copy r m) (1 + j) 0 ≡ get_or m (1 + j) 0
      there zero h = refl
      there (suc zero) h = refl
      there (suc (suc zero)) h = refl
      there (suc (suc (suc zero))) h = refl
      there (suc (suc (suc (suc j)))) h = absurd (omega arith)

  copy_fit_law : CopyOk r.counts r.shelf.0 r.from.0 m → CopyOk r.counts r.shelf.0 r.from.0 (meant_copy r m)
  unfolding meant_copy
  copy_fit_law c =
      let v = c.version in
      let o : origin_of (record_of (meant_copy r m)) ≡ r.from.0 = part_at (meant_copy r m) 1 9 4 (lit< tt) in
      let below : r.from.0 < r.counts.depots = subst (λ (x : ℕ). x < r.counts.depots) c.origin v.origin in
      record {
        kind = c.kind;
        version = record {
          entries = λ x h. rw (same_entry x h) (v.entries x h);
          origin = rw o below;
          stamp = rw (o, same_entry r.from.0 below) (subst (λ (x : ℕ). 0 < vector_of (record_of m) x) c.origin v.stamp);
          card = rw (same_word 2 (lit< tt), same_word 3 (lit< tt)) v.card;
        };
        origin = o;
        bearing = rw (same_word 0 (lit< tt)) c.bearing;
        shelf = rw (same_word 0 (lit< tt)) c.shelf;
      }

  pub meant_fit : message_fit r.counts r.shelf.0 r.from.0 m ≡ true → message_fit r.counts r.shelf.0 r.from.0 (meant r m) ≡ true
  unfolding meant
  meant_fit h =
      ⊎_elim
      (λ (b : (kind_of m ≡ beat_kind) × (beat_of m ≤ end)).
      rw (by_beat (beat (beat_of m)) (meant_copy r m) [] b.0) (beat_message r.counts r.shelf.0 r.from.0 (beat (beat_of m)) refl b.1))
      (λ (c : CopyOk r.counts r.shelf.0 r.from.0 m).
      rw (not_beat (beat (beat_of m)) (meant_copy r m) [] c.kind) (copy_message _ _ _ _ (copy_close _ _ _ _ (copy_fit_law c))))
      (message_cases r.counts r.shelf.0 r.from.0 m h)
