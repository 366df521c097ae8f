-- Where the next message goes, and runs of bytes written one behind the other.
-- Assumes nothing.
use Prim.Native.Nat.{ℕ, ◌+◌, ◌*◌, ◌%◌, ◌≤◌, ◌<◌}
use native.Mathlib.Omega.{arith}
use native.Mathlib.Numerals.{add-one}
use native.Mathlib.Nat.{zero-add}
use mathlib.Core.Path.{◌≡◌, refl, sym, ◌∙◌, ap, ap₂}
use mathlib.Core.List.{List, [], ◌++◌}
use lib.Dec.{lit<}
use lib.ListN.{length, get_or, set, length-append}
use borrow.Author.Tests.{ne_eqb}
use Rattle.loops.proofs.BoolLaws.{pick_false}
use Rattle.book.specs.Words.{put}
use Rattle.book.specs.Layout.{slot_at, copy_kind, beat_kind, kind_of, beat_of, slot}
use Rattle.book.proofs.WordsLaws.{part_at}
use Rattle.book.proofs.WordsLaws as words
use Rattle.wire.specs.Wire.{half_bytes, word_bytes, joined}
use Rattle.wire.proofs.WireLaws.{put_append, put_cons, joined_long}
use Rattle.frame.specs.declared.Route.{Route}
use Rattle.frame.specs.Frame.{body_at, size_of, sent_word, beat_bytes, copy_bytes, message_bytes, size_to, place_of, head_of, offsets_of, messages_of, encode_frame}
use Rattle.frame.proofs.MessageLaws.{by_beat, by_copy}
use Rattle.frame.proofs.EncodeLaws.{head_long, offsets_long, runs_long, sizes_most, sizes_grow}

-- the kind of the message in a slot, where it stands
pub kind_there : (l : List ℕ) (q i : ℕ) {at : ℕ} → at ≡ slot_at q i → get_or l at 0 ≡ kind_of (slot l q i)
kind_there l q i {at} e = let z : slot_at q i ≡ slot_at q i + 0 = omega arith in ap (λ (a : ℕ). get_or l a 0) (e ∙ z) ∙ sym (part_at l (slot_at q i) 10 0 (lit< tt))

pub place_none : (depots count : ℕ) (g : ℕ → List ℕ) → body_at count ≡ place_of depots count g 0
unfolding place_of size_to
place_none depots count g = omega arith

pub place_more :
    (depots count : ℕ) (g : ℕ → List ℕ) (i : ℕ) {at size : ℕ} → at ≡ place_of depots count g i → size ≡ size_of depots (kind_of (g i)) → at + size ≡ place_of depots count g (i + 1)
unfolding place_of size_to
place_more depots count g i p q =
    ap₂ (λ (a b : ℕ). a + b) p q ∙ plus (4 + 2 * count) (size_to depots g i) (size_of depots (kind_of (g i))) ∙ ap (place_of depots count g) (sym (add-one i))
  where
    plus : (a b c : ℕ) → a + b + c ≡ a + (b + c)
    plus a b c = omega arith

-- no place lies past the longest frame
pub place_most : (depots count : ℕ) (g : ℕ → List ℕ) (i : ℕ) → depots ≤ 4 → place_of depots count g i ≤ 4 + 2 * count + 30 * i
unfolding place_of
place_most depots count g i h = omega (arith, sizes_most depots g i h)

-- message i goes where the bytes of those before it end
pub place_runs : (depots count : ℕ) (g : ℕ → List ℕ) (i : ℕ) {at : ℕ} → at ≡ place_of depots count g i → at ≡ body_at count + length (joined i (λ j. message_bytes depots (g j)))
unfolding place_of
place_runs depots count g i e = e ∙ ap (λ (k : ℕ). body_at count + k) (sym (runs_long depots g i))

pub offset_runs : (depots count : ℕ) (g : ℕ → List ℕ) (i : ℕ) → 4 + 2 * i ≡ 4 + length (joined i (λ j. half_bytes (place_of depots count g j)))
offset_runs depots count g i = ap (λ (k : ℕ). 4 + k) (sym (offsets_long depots count g i))

pub word_runs : (m : List ℕ) (at i : ℕ) → at + 4 * i ≡ at + length (joined i (λ j. word_bytes (sent_word m j)))
unfolding word_bytes
word_runs m at i = ap (λ (k : ℕ). at + k) (sym (joined_long i 4 _ (λ j. refl)))

-- head, offsets and messages, one behind the other
pub frame_put :
    (r : Route) (serial count : ℕ) (g : ℕ → List ℕ) (o : List ℕ) {a b c : List ℕ} →
    a ≡ put o 0 (head_of r serial count) → b ≡ put a 4 (offsets_of r.counts.depots count g) → c ≡ put b (body_at count) (messages_of r.counts.depots count g) →
    c ≡ put o 0 (encode_frame r serial count g)
unfolding encode_frame offsets_of
frame_put r serial count g o {a} {b} {c} p q s =
    let h : List ℕ = head_of r serial count in
    let f : List ℕ = joined count (λ i. half_bytes (place_of r.counts.depots count g i)) in
    let four : 4 ≡ 0 + length h = sym (zero-add _ ∙ head_long r serial count) in
    let body : body_at count ≡ 0 + length (h ++ f) = sym (zero-add _ ∙ length-append h f ∙ ap₂ (λ (x y : ℕ). x + y) (head_long r serial count) (offsets_long r.counts.depots count g count)) in
    let two : b ≡ put o 0 (h ++ f) = q ∙ ap₂ (λ (x : List ℕ) (k : ℕ). put x k f) p four ∙ put_append o 0 h f in
    s ∙ ap₂ (λ (x : List ℕ) (k : ℕ). put x k (messages_of r.counts.depots count g)) two body ∙ put_append o 0 (h ++ f) _

-- every message has room where the frame has
pub place_room :
    (depots count : ℕ) (g : ℕ → List ℕ) (i room : ℕ) {at : ℕ} → i < count → at ≡ place_of depots count g i → place_of depots count g count ≤ room → at + size_of depots (kind_of (g i)) ≤ room
unfolding place_of
place_room depots count g i room h e k = omega (arith, sizes_grow depots g count i h)

pub place_least : (depots count : ℕ) (g : ℕ → List ℕ) (i : ℕ) → body_at count ≤ place_of depots count g i
unfolding place_of
place_least depots count g i = omega arith

-- ---- a message

module _ (depots : ℕ) (m o : List ℕ) (at : ℕ) where
  pub beat_put : {a : ℕ} {b : List ℕ} → kind_of m ≡ beat_kind → a ≡ beat_kind → b ≡ put (set o at a) (at + 1) (word_bytes (beat_of m)) → b ≡ put o at (message_bytes depots m)
  unfolding message_bytes beat_bytes
  beat_put k e q = q ∙ ap (λ (x : ℕ). put (set o at x) (at + 1) (word_bytes (beat_of m))) e ∙ put_cons o at beat_kind _ ∙ ap (put o at) (sym (by_beat _ _ [] k))

  pub copy_put :
      {a c : ℕ} {b : List ℕ} → kind_of m ≡ copy_kind → a ≡ copy_kind → c ≡ get_or m 1 0 % 256 →
      b ≡ put (set (set o at a) (at + 1) c) (at + 2) (joined (3 + depots) (λ i. word_bytes (sent_word m i))) → b ≡ put o at (message_bytes depots m)
  unfolding message_bytes copy_bytes
  copy_put k e f q =
      let two : at + 2 ≡ at + 1 + 1 = omega arith in
      q
      ∙ ap₂ (λ (x y : ℕ). put (set (set o at x) (at + 1) y) (at + 2) (joined (3 + depots) (λ i. word_bytes (sent_word m i)))) e f
      ∙ ap (λ (n : ℕ). put (set (set o at copy_kind) (at + 1) (get_or m 1 0 % 256)) n (joined (3 + depots) (λ i. word_bytes (sent_word m i)))) two
      ∙ put_cons (set o at copy_kind) (at + 1) _ _
      ∙ put_cons o at copy_kind _
      ∙ ap (put o at) (sym (by_copy _ _ _ k))

  pub none_put : (kind_of m ≡ beat_kind → ⊥) → (kind_of m ≡ copy_kind → ⊥) → o ≡ put o at (message_bytes depots m)
  unfolding message_bytes
  none_put b c = sym (ap (put o at) (pick_false _ _ (ne_eqb _ _ b) ∙ pick_false _ _ (ne_eqb _ _ c)) ∙ words.put_none o at)
