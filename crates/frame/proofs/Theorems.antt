-- What the writer makes reads back the same; an accepted frame is the only one for its link, messages and serial; and when one is accepted, OLD or a GAP.
-- Assumes nothing.
use Prim.Native.Nat.{ℕ, zero, suc, ◌+◌, ◌-◌, ◌*◌, ◌%◌, ◌≤◌, ◌<◌}
use native.Mathlib.Omega.{arith}
use native.Mathlib.Nat.{zero-add}
use mathlib.Core.Path.{◌≡◌, refl, sym, ◌∙◌, ap, ap₂, subst, subst₃}
use mathlib.Core.Logic.{◌↔◌, ◌⊎◌, inl, inr, ⊎_elim}
use mathlib.Core.Bool.{Bool, true, false}
use mathlib.Core.List.{List, [], ◌∷◌, ◌++◌}
use lib.Dec.{eqb, ltb, leb, lit<}
use lib.ListN.{length, get_or}
use lib.Seq.{ext_get_or}
use borrow.Author.Tests.{eqb-true, eq-eqb, ne_eqb, leb-true, le-leb, lt-leb}
use Rattle.loops.specs.Loops.{pick}
use Rattle.loops.proofs.BoolLaws.{decided, both_ways, and_left, and_right, and_intro, failed, pick_true, pick_false}
use Rattle.book.specs.Words.{part}
use Rattle.book.specs.Layout.{beat_kind}
use Rattle.book.proofs.WordsLaws.{length_part, part_at}
use Rattle.fit.specs.Fit.{between}
use Rattle.links.specs.Send.{beat}
use Rattle.wire.specs.Wire.{byte_limit, half_limit, word_limit, half_at, word_at, joined, Below}
use Rattle.wire.proofs.WireLaws.{Stands, stands_all, stands_run, joined_long, joined_same, word_small, below_none, below_more}
use Rattle.frame.specs.declared.Route.{Route}
use Rattle.frame.specs.Frame.{encode_frame, count_in, serial_in, start_in, entry_at, copy_at, message_at, formed, body_in, behind, is_old, is_expected, by_serial, decode_frame}
use Rattle.frame.specs.Frame.{Reading, bad, old, gap, accepted, meant_entry, meant_copy, meant, meant_body, message_in}
use Rattle.frame.specs.Stretch.{Known, Sendable}
use Rattle.frame.proofs.MessageLaws.{last_four}
use Rattle.frame.proofs.EncodeLaws.{encode_same, count_back, serial_back, body_back, written_formed}
use Rattle.frame.proofs.DecodeLaws.{Formed, formed_says, read_at, frame_is}

-- ---- reads back

-- what the writer makes is a frame of its link, and its serial decides
pub written_reads :
    (r : Route) (serial count : ℕ) (g : ℕ → List ℕ) (expected : ℕ) → Known r → serial < half_limit → Sendable r count g →
    decode_frame r expected (encode_frame r serial count g) ≡ by_serial expected serial count (meant_body r count g)
unfolding decode_frame
written_reads r serial count g expected known numbered ok =
    pick_true _ _ (written_formed r known serial count g numbered ok)
    ∙ rw (count_back r known serial count g numbered ok, serial_back r known serial count g numbered ok, body_back r known serial count g numbered ok)

-- ---- how far behind

-- the distance is the number that, added to the serial, wraps to the expected one
pub behind_is : (e s : ℕ) → e < half_limit → s < half_limit → (behind e s + s) % half_limit ≡ e
unfolding behind
behind_is e s p q = omega arith

pub behind_one : (e s d : ℕ) → e < half_limit → s < half_limit → d < half_limit → (d + s) % half_limit ≡ e → d ≡ behind e s
unfolding behind
behind_one e s d p q r h = omega arith

pub behind_none : (e s : ℕ) → e < half_limit → s < half_limit → behind e s ≡ 0 → s ≡ e
unfolding behind
behind_none e s p q h = omega arith

pub behind_own : (e : ℕ) → e < half_limit → behind e e ≡ 0
unfolding behind
behind_own e h = omega arith

-- the serial is 1 to 32,767 behind the expected one, around the wrap
pub record OldBy (expected serial : ℕ) : Type 0 where
  pub far : ℕ
  pub some : 1 ≤ far
  pub few : far ≤ 32767
  pub wraps : (far + serial) % half_limit ≡ expected

module _ (e s : ℕ) (he : e < half_limit) (hs : s < half_limit) where
  pub old_by : is_old e s ≡ true → OldBy e s
  unfolding is_old between
  old_by h = record {
    far = behind e s;
    some = leb-true _ _ (and_left (leb 1 (behind e s)) _ h);
    few = leb-true _ _ (and_right (leb 1 (behind e s)) _ h);
    wraps = behind_is e s he hs;
  }

  pub by_old : OldBy e s → is_old e s ≡ true
  unfolding is_old between
  by_old o =
      let k : o.far ≡ behind e s = behind_one e s o.far he hs (omega (arith, o.few)) o.wraps in
      rw (← k) (and_intro (le-leb _ _ o.some) (le-leb _ _ o.few))

  pub as_expected : is_expected e s ≡ true → s ≡ e
  unfolding is_expected
  as_expected h = behind_none e s he hs (eqb-true _ _ h)

  pub expected_as : s ≡ e → (is_expected e s ≡ true) × (is_old e s ≡ false)
  unfolding is_expected is_old between
  expected_as h =
      let z : behind e s ≡ 0 = ap (behind e) h ∙ behind_own e he in
      (eq-eqb _ _ z, rw z refl)

-- ---- the four readings, told apart

-- the one that a choice comes to is the one that it is known to be
module _ (r : Route) (e : ℕ) (f : List ℕ) where
  bad_reads : formed r f ≡ false → decode_frame r e f ≡ bad
  unfolding decode_frame
  bad_reads h = pick_false _ _ h

  old_reads : formed r f ≡ true → is_old e (serial_in f) ≡ true → decode_frame r e f ≡ old
  unfolding decode_frame by_serial
  old_reads h o = pick_true _ _ h ∙ pick_true _ _ o

  accepted_reads : formed r f ≡ true → is_old e (serial_in f) ≡ false → is_expected e (serial_in f) ≡ true → decode_frame r e f ≡ accepted (count_in f) (body_in r f)
  unfolding decode_frame by_serial
  accepted_reads h o x = pick_true _ _ h ∙ pick_false _ _ o ∙ pick_true _ _ x

  gap_reads : formed r f ≡ true → is_old e (serial_in f) ≡ false → is_expected e (serial_in f) ≡ false → decode_frame r e f ≡ gap
  unfolding decode_frame by_serial
  gap_reads h o x = pick_true _ _ h ∙ pick_false _ _ o ∙ pick_false _ _ x

  -- it is one of the four
  pub data Sort : Type 0 where
    is_bad : formed r f ≡ false → decode_frame r e f ≡ bad → Sort
    is_old_law : formed r f ≡ true → is_old e (serial_in f) ≡ true → decode_frame r e f ≡ old → Sort
    is_accepted : formed r f ≡ true → is_old e (serial_in f) ≡ false → is_expected e (serial_in f) ≡ true → decode_frame r e f ≡ accepted (count_in f) (body_in r f) → Sort
    is_gap : formed r f ≡ true → is_old e (serial_in f) ≡ false → is_expected e (serial_in f) ≡ false → decode_frame r e f ≡ gap → Sort

  pub sort : Sort
  sort =
      ⊎_elim
      (λ (h : formed r f ≡ true). ⊎_elim
      (λ (o : is_old e (serial_in f) ≡ true). is_old_law h o (old_reads h o))
      (λ (o : is_old e (serial_in f) ≡ false). ⊎_elim
      (λ (x : is_expected e (serial_in f) ≡ true). is_accepted h o x (accepted_reads h o x))
      (λ (x : is_expected e (serial_in f) ≡ false). is_gap h o x (gap_reads h o x))
      (decided (is_expected e (serial_in f))))
      (decided (is_old e (serial_in f))))
      (λ (h : formed r f ≡ false). is_bad h (bad_reads h))
      (decided (formed r f))

clash : {A : Type 0} → ◌≡◌ {A = ℕ} 0 1 → A
clash z = absurd (omega arith)

module _ (r : Route) (e : ℕ) (f : List ℕ) (he : e < half_limit) (hs : serial_in f < half_limit) where
  -- accepted exactly where it is a frame of the link with the expected serial
  pub accepted_exactly : (decode_frame r e f ≡ accepted (count_in f) (body_in r f)) ↔ ((formed r f ≡ true) × (serial_in f ≡ e))
  accepted_exactly = ((λ q. go q (sort r e f)), (λ w. let x = expected_as e (serial_in f) he hs w.1 in accepted_reads r e f w.0 x.1 x.0))
    where
      go : decode_frame r e f ≡ accepted (count_in f) (body_in r f) → Sort r e f → (formed r f ≡ true) × (serial_in f ≡ e)
      go q (is_bad h d) = clash (cc)
      go q (is_old_law h o d) = clash (cc)
      go q (is_accepted h o x d) = (h, as_expected e (serial_in f) he hs x)
      go q (is_gap h o x d) = clash (cc)

  -- OLD exactly where it is one, and its serial is 1 to 32,767 behind
  pub old_where : (decode_frame r e f ≡ old) ↔ ((formed r f ≡ true) × OldBy e (serial_in f))
  old_where = ((λ q. go q (sort r e f)), (λ w. old_reads r e f w.0 (by_old e (serial_in f) he hs w.1)))
    where
      go : decode_frame r e f ≡ old → Sort r e f → (formed r f ≡ true) × OldBy e (serial_in f)
      go q (is_bad h d) = clash (cc)
      go q (is_old_law h o d) = (h, old_by e (serial_in f) he hs o)
      go q (is_accepted h o x d) = clash (cc)
      go q (is_gap h o x d) = clash (cc)

  -- a GAP exactly where it is one, and its serial is any other but the expected one
  pub gap_where : (decode_frame r e f ≡ gap) ↔ ((formed r f ≡ true) × (OldBy e (serial_in f) → ⊥) × (serial_in f ≡ e → ⊥))
  gap_where = ((λ q. go q (sort r e f)), (λ w. gap_reads r e f w.0 (failed _ (λ o. w.1 (old_by e (serial_in f) he hs o))) (failed _ (λ x. w.2 (as_expected e (serial_in f) he hs x)))))
    where
      go : decode_frame r e f ≡ gap → Sort r e f → (formed r f ≡ true) × (OldBy e (serial_in f) → ⊥) × (serial_in f ≡ e → ⊥)
      go q (is_bad h d) = clash (cc)
      go q (is_old_law h o d) = clash (cc)
      go q (is_accepted h o x d) = clash (cc)
      go q (is_gap h o x d) = (h, (λ b. both_ways (by_old e (serial_in f) he hs b) o), (λ s. both_ways (expected_as e (serial_in f) he hs s).0 x))

-- so what the writer makes reads back the same, at the box that expects its serial
pub reads_back :
    (r : Route) (serial count : ℕ) (g : ℕ → List ℕ) → Known r → serial < half_limit → Sendable r count g →
    decode_frame r serial (encode_frame r serial count g) ≡ accepted count (meant_body r count g)
unfolding by_serial
reads_back r serial count g known numbered ok =
    let x = expected_as serial serial numbered numbered refl in
    written_reads r serial count g serial known numbered ok ∙ pick_false _ _ x.1 ∙ pick_true _ _ x.0

-- ---- an accepted frame is the only one

pub message_ten : (r : Route) (f : List ℕ) (at : ℕ) → length (message_at r f at) ≡ 10
unfolding message_at copy_at
message_ten r f at =
    ⊎_elim
    (λ (h : eqb (get_or f at 0) beat_kind ≡ true). ap length (pick_true (beat (word_at f (at + 1))) (copy_at r f at) h))
    (λ (h : eqb (get_or f at 0) beat_kind ≡ false). ap length (pick_false (beat (word_at f (at + 1))) (copy_at r f at) h))
    (decided (eqb (get_or f at 0) beat_kind))

-- message i of the words of many
pub message_of_law : (n : ℕ) (g : ℕ → List ℕ) → ((i : ℕ) → length (g i) ≡ 10) → (i : ℕ) → i < n → message_in (joined n g) i ≡ g i
message_of_law n g e i h =
    let run : Stands (joined n g) (0 + length (joined i g)) (g i) = stands_run (joined n g) 0 n g (stands_all (joined n g)) i h in
    let place : 0 + length (joined i g) ≡ 10 * i = zero-add _ ∙ joined_long i 10 g e in
    let long : length (part (joined n g) (10 * i) 10) ≡ 10 = length_part (joined n g) (10 * i) 10 (omega (arith, joined_long n 10 g e)) in
    ext_get_or 0 _ _ (long ∙ sym (e i))
    (λ j l.
    part_at (joined n g) (10 * i) 10 j (omega (arith, long))
    ∙ ap (λ (a : ℕ). get_or (joined n g) (a + j) 0) (sym place)
    ∙ run.byte j (omega (arith, long, e i)))

-- a frame says of what it carries what it says
module _ (r : Route) (f : List ℕ) (at : ℕ) where
  entry_meant : (x : ℕ) → x < 4 → meant_entry r.counts.depots (copy_at r f at) x ≡ entry_at r.counts.depots f at x
  unfolding meant_entry copy_at entry_at
  entry_meant x h =
      ⊎_elim
      (λ (e : ltb x r.counts.depots ≡ true). pick_true _ _ e ∙ last_four (entry_at r.counts.depots f at) _ _ _ _ _ _ x h)
      (λ (e : ltb x r.counts.depots ≡ false). pick_false _ _ e ∙ sym (pick_false _ _ e))
      (decided (ltb x r.counts.depots))

  pub meant_read : meant r (message_at r f at) ≡ message_at r f at
  unfolding meant meant_copy message_at copy_at pick
  meant_read =
      ⊎_elim
      (λ (h : eqb (get_or f at 0) beat_kind ≡ true). rw (pick_true (beat (word_at f (at + 1))) (copy_at r f at) h) refl)
      (λ (h : eqb (get_or f at 0) beat_kind ≡ false).
      rw (pick_false (beat (word_at f (at + 1))) (copy_at r f at) h)
      (pick_false (beat (get_or f (at + 1) 0)) (meant_copy r (copy_at r f at)) h
      ∙ rw (entry_meant 0 (lit< tt), entry_meant 1 (lit< tt), entry_meant 2 (lit< tt), entry_meant 3 (lit< tt)) refl))
      (decided (eqb (get_or f at 0) beat_kind))

-- its words are words
pub half_small : (f : List ℕ) (at : ℕ) → Below byte_limit f → half_at f at < half_limit
unfolding half_at
half_small f at b = omega (arith, b.at at, b.at (at + 1))

module _ (r : Route) (known : Known r) (f : List ℕ) (b : Below byte_limit f) (at : ℕ) where
  byte_word : (i : ℕ) → get_or f i 0 < word_limit
  byte_word i = omega (arith, b.at i)

  entry_word : (x : ℕ) → entry_at r.counts.depots f at x < word_limit
  unfolding entry_at
  entry_word x =
      ⊎_elim
      (λ (e : ltb x r.counts.depots ≡ true). rw (pick_true (word_at f (at + 14 + 4 * x)) 0 e) (word_small f (at + 14 + 4 * x) b))
      (λ (e : ltb x r.counts.depots ≡ false). rw (pick_false (word_at f (at + 14 + 4 * x)) 0 e) (lit< tt))
      (decided (ltb x r.counts.depots))

  copy_words : Below word_limit (copy_at r f at)
  unfolding copy_at
  copy_words =
      below_more _ _ _ (byte_word at)
      (below_more _ _ _ (byte_word (at + 1))
      (below_more _ _ _ (word_small f (at + 2) b)
      (below_more _ _ _ (word_small f (at + 6) b)
      (below_more _ _ _ (word_small f (at + 10) b)
      (below_more _ _ _ (omega (arith, known.from))
      (below_more _ _ _ (entry_word 0) (below_more _ _ _ (entry_word 1) (below_more _ _ _ (entry_word 2) (below_more _ _ _ (entry_word 3) (below_none _ (lit< tt)))))))))))

  zero_more : (l : List ℕ) → Below word_limit l → Below word_limit (0 ∷ l)
  zero_more l h = below_more _ _ _ (lit< tt) h

  beat_words : Below word_limit (beat (word_at f (at + 1)))
  beat_words =
      below_more _ _ _ (lit< tt)
      (below_more _ _ _ (word_small f (at + 1) b) (zero_more _ (zero_more _ (zero_more _ (zero_more _ (zero_more _ (zero_more _ (zero_more _ (zero_more _ (below_none _ (lit< tt)))))))))))

  message_words : Below word_limit (message_at r f at)
  unfolding message_at
  message_words =
      ⊎_elim
      (λ (h : eqb (get_or f at 0) beat_kind ≡ true). rw (pick_true (beat (word_at f (at + 1))) (copy_at r f at) h) beat_words)
      (λ (h : eqb (get_or f at 0) beat_kind ≡ false). rw (pick_false (beat (word_at f (at + 1))) (copy_at r f at) h) copy_words)
      (decided (eqb (get_or f at 0) beat_kind))

-- the frame of these messages with this serial: it may be sent, and it says of them what they are
pub record Only (r : Route) (serial count : ℕ) (body f : List ℕ) : Type 0 where
  pub frame : f ≡ encode_frame r serial count (message_in body)
  pub sendable : Sendable r count (message_in body)
  pub same : meant_body r count (message_in body) ≡ body

module _ (r : Route) (known : Known r) (f : List ℕ) (b : Below byte_limit f) where
  its_own : Formed r f → Only r (serial_in f) (count_in f) (body_in r f) f
  unfolding body_in meant_body read_at
  its_own w =
      let at : (i : ℕ) → i < count_in f → message_in (body_in r f) i ≡ message_at r f (start_in r.counts.depots f i) = message_of_law (count_in f) _ (λ i. message_ten r f _) in
      record {
        frame = frame_is r known f b w ∙ encode_same r (serial_in f) (count_in f) _ _ (λ i h. sym (at i h));
        sendable = record {
          some = w.head.some;
          few = w.head.few;
          fit = λ i h. rw (at i h) (w.at i h).fit;
          words = λ i h. subst (Below word_limit) (sym (at i h)) (message_words r known f b _);
        };
        same = joined_same (count_in f) _ _ (λ i h. ap (meant r) (at i h) ∙ meant_read r f _);
      }

  pub only : (e count : ℕ) (body : List ℕ) → e < half_limit → decode_frame r e f ≡ accepted count body → Only r e count body f
  only e count body he q = go (sort r e f)
    where
      go : Sort r e f → Only r e count body f
      go (is_bad h d) = clash (cc)
      go (is_old_law h o d) = clash (cc)
      go (is_accepted h o x d) =
          let n : count_in f ≡ count = cc in
          let l : body_in r f ≡ body = cc in
          subst₃ (λ (s k : ℕ) (y : List ℕ). Only r s k y f) (as_expected e (serial_in f) he (half_small f 2 b) x) n l (its_own (formed_says r f h))
      go (is_gap h o x d) = clash (cc)

-- so two frames that are accepted alike are the same
pub one_frame :
    (r : Route) (known : Known r) (f g : List ℕ) (e count : ℕ) (body : List ℕ) → Below byte_limit f → Below byte_limit g → e < half_limit →
    decode_frame r e f ≡ accepted count body → decode_frame r e g ≡ accepted count body → f ≡ g
one_frame r known f g e count body p q he h k = (only r known f p e count body he h).frame ∙ sym (only r known g q e count body he k).frame
