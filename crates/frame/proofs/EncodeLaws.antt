-- What stands where in a frame that is written, and that it is a frame of its link.
-- Assumes nothing.
use Prim.Native.Nat.{ℕ, zero, suc, ◌+◌, ◌*◌, ◌≤◌, ◌<◌}
use native.Mathlib.Omega.{arith}
use native.Mathlib.Nat.{le_step, le_refl, zero-add}
use mathlib.Core.Path.{◌≡◌, refl, sym, ◌∙◌, ap, ap₂, subst}
use mathlib.Core.Logic.{◌⊎◌, ⊎_elim}
use mathlib.Core.Bool.{true, false}
use mathlib.Core.List.{List, [], ◌∷◌, ◌++◌}
use lib.Dec.{eqb}
use lib.ListN.{length, get_or, length-append}
use borrow.Author.Tests.{eq-eqb, lt-ltb, le-leb}
use Rattle.loops.specs.Loops.{every, pick}
use Rattle.loops.proofs.BoolLaws.{decided, and_intro, eq_or_ne, pick_true, pick_false}
use Rattle.loops.proofs.LoopLaws.{every_intro}
use Rattle.book.specs.Layout.{copy_kind, beat_kind, kind_of}
use Rattle.fit.specs.Fit.{between}
use Rattle.wire.specs.Wire.{half_limit, half_bytes, half_at, joined}
use Rattle.wire.proofs.WireLaws.{Stands, stands_all, stands_left, stands_right, stands_run, half_stands, joined_long, joined_same}
use Rattle.frame.specs.declared.Route.{Route}
use Rattle.frame.specs.Frame.{offset_at, body_at, size_of, message_bytes, size_to, place_of, whom, head_of, offsets_of, messages_of, encode_frame, frame_size}
use Rattle.frame.specs.Frame.{count_in, serial_in, start_in, message_at, message_right, head_right, messages_right, formed, body_in, meant, meant_body}
use Rattle.frame.specs.Stretch.{Known, Sendable}
use Rattle.frame.proofs.MessageLaws.{IsBeat, IsCopied, by_beat, by_copy, message_long, kind_beat, kind_copy, reads_beat, reads_copy, fit_kind, meant_fit}

-- ---- sizes

size_most : (depots kind : ℕ) → depots ≤ 4 → size_of depots kind ≤ 30
unfolding size_of
size_most depots kind h =
    ⊎_elim
    (λ (e : eqb kind beat_kind ≡ true). rw (pick_true 5 (pick (eqb kind copy_kind) (14 + 4 * depots) 0) e) (omega arith))
    (λ (e : eqb kind beat_kind ≡ false). rw (pick_false 5 (pick (eqb kind copy_kind) (14 + 4 * depots) 0) e)
    (⊎_elim
    (λ (c : eqb kind copy_kind ≡ true). rw (pick_true (14 + 4 * depots) 0 c) (omega arith))
    (λ (c : eqb kind copy_kind ≡ false). rw (pick_false (14 + 4 * depots) 0 c) (omega arith))
    (decided (eqb kind copy_kind))))
    (decided (eqb kind beat_kind))

pub sizes_most : (depots : ℕ) (g : ℕ → List ℕ) (i : ℕ) → depots ≤ 4 → size_to depots g i ≤ 30 * i
unfolding size_to
sizes_most depots g zero h = omega arith
sizes_most depots g (suc i) h = omega (arith, sizes_most depots g i h, size_most depots (kind_of (g i)) h)

-- a message ends before the next begins, or where the last ends
pub sizes_grow : (depots : ℕ) (g : ℕ → List ℕ) (n i : ℕ) → i < n → size_to depots g i + size_of depots (kind_of (g i)) ≤ size_to depots g n
unfolding size_to
sizes_grow depots g zero i h = absurd (omega arith)
sizes_grow depots g (suc n) i h =
    ⊎_elim
    (λ (e : i ≡ n). rw e (le_refl _))
    (λ (e : i ≡ n → ⊥). omega (arith, sizes_grow depots g n i (omega arith)))
    (eq_or_ne i n)

pub runs_long : (depots : ℕ) (g : ℕ → List ℕ) (i : ℕ) → length (joined i (λ j. message_bytes depots (g j))) ≡ size_to depots g i
unfolding joined size_to
runs_long depots g zero = refl
runs_long depots g (suc i) = length-append (joined i (λ j. message_bytes depots (g j))) _ ∙ ap₂ (λ (a b : ℕ). a + b) (runs_long depots g i) (message_long depots (g i))

pub offsets_long : (depots count : ℕ) (g : ℕ → List ℕ) (i : ℕ) → length (joined i (λ j. half_bytes (place_of depots count g j))) ≡ 2 * i
unfolding half_bytes
offsets_long depots count g i = joined_long i 2 _ (λ j. refl)

pub head_long : (r : Route) (serial count : ℕ) → length (head_of r serial count) ≡ 4
unfolding head_of half_bytes
head_long r serial count = refl

front_long : (r : Route) (serial count : ℕ) (g : ℕ → List ℕ) → length (head_of r serial count ++ offsets_of r.counts.depots count g) ≡ body_at count
unfolding offsets_of
front_long r serial count g =
    length-append (head_of r serial count) _ ∙ ap₂ (λ (a b : ℕ). a + b) (head_long r serial count) (offsets_long r.counts.depots count g count)

pub frame_long : (r : Route) (serial count : ℕ) (g : ℕ → List ℕ) → length (encode_frame r serial count g) ≡ frame_size r count g
unfolding encode_frame messages_of frame_size place_of
frame_long r serial count g =
    length-append (head_of r serial count ++ offsets_of r.counts.depots count g) _
    ∙ ap₂ (λ (a b : ℕ). a + b) (front_long r serial count g) (runs_long r.counts.depots g count)

-- messages that are the same make the same frame
pub sizes_same : (depots : ℕ) (g h : ℕ → List ℕ) (i : ℕ) → ((j : ℕ) → j < i → g j ≡ h j) → size_to depots g i ≡ size_to depots h i
unfolding size_to
sizes_same depots g h zero e = refl
sizes_same depots g h (suc i) e = ap₂ (λ (a b : ℕ). a + b) (sizes_same depots g h i (λ j l. e j (le_step l))) (ap (λ (m : List ℕ). size_of depots (kind_of m)) (e i (le_refl _)))

pub encode_same : (r : Route) (serial count : ℕ) (g h : ℕ → List ℕ) → ((i : ℕ) → i < count → g i ≡ h i) → encode_frame r serial count g ≡ encode_frame r serial count h
unfolding encode_frame offsets_of messages_of place_of
encode_same r serial count g h e =
    ap₂ (λ (a b : List ℕ). head_of r serial count ++ a ++ b)
    (joined_same count _ _ (λ i l. ap (λ (n : ℕ). half_bytes (body_at count + n)) (sizes_same r.counts.depots g h i (λ j k. e j (omega arith)))))
    (joined_same count _ _ (λ i l. ap (message_bytes r.counts.depots) (e i l)))

-- ---- what stands where

module _ (r : Route) (known : Known r) (serial count : ℕ) (g : ℕ → List ℕ) (numbered : serial < half_limit) (ok : Sendable r count g) where
  head_stands : Stands (encode_frame r serial count g) 0 (head_of r serial count)
  unfolding encode_frame
  head_stands = stands_left _ 0 _ _ (stands_left _ 0 _ _ (stands_all (encode_frame r serial count g)))

  offsets_stand : Stands (encode_frame r serial count g) 4 (offsets_of r.counts.depots count g)
  unfolding encode_frame
  offsets_stand =
      subst (λ (k : ℕ). Stands (encode_frame r serial count g) k (offsets_of r.counts.depots count g)) (zero-add _ ∙ head_long r serial count)
      (stands_right (encode_frame r serial count g) 0 (head_of r serial count) _ (stands_left _ 0 _ _ (stands_all (encode_frame r serial count g))))

  messages_stand : Stands (encode_frame r serial count g) (body_at count) (messages_of r.counts.depots count g)
  unfolding encode_frame
  messages_stand =
      subst (λ (k : ℕ). Stands (encode_frame r serial count g) k (messages_of r.counts.depots count g)) (zero-add _ ∙ front_long r serial count g)
      (stands_right (encode_frame r serial count g) 0 (head_of r serial count ++ offsets_of r.counts.depots count g) _ (stands_all (encode_frame r serial count g)))

  pub whom_back : get_or (encode_frame r serial count g) 0 0 ≡ whom r
  unfolding head_of
  whom_back = head_stands.byte 0 (omega (arith, head_long r serial count))

  pub count_back : count_in (encode_frame r serial count g) ≡ count
  unfolding head_of
  count_back = head_stands.byte 1 (omega (arith, head_long r serial count))

  pub serial_back : serial_in (encode_frame r serial count g) ≡ serial
  unfolding head_of
  serial_back = half_stands _ 2 serial numbered (stands_right (encode_frame r serial count g) 0 (whom r ∷ count ∷ []) (half_bytes serial) head_stands)

  offset_back : (i : ℕ) → i < count → half_at (encode_frame r serial count g) (offset_at i) ≡ place_of r.counts.depots count g i
  unfolding offsets_of place_of
  offset_back i h =
      ap (λ (k : ℕ). half_at (encode_frame r serial count g) (4 + k)) (sym (offsets_long r.counts.depots count g i))
      ∙ half_stands _ _ _ (omega (arith, sizes_most r.counts.depots g i known.depots, ok.few)) (stands_run _ 4 count _ offsets_stand i h)

  message_stands : (i : ℕ) → i < count → Stands (encode_frame r serial count g) (place_of r.counts.depots count g i) (message_bytes r.counts.depots (g i))
  unfolding messages_of place_of
  message_stands i h =
      subst (λ (k : ℕ). Stands (encode_frame r serial count g) (body_at count + k) (message_bytes r.counts.depots (g i))) (runs_long r.counts.depots g i)
      (stands_run _ (body_at count) count _ messages_stand i h)

  kind_of_law : (i : ℕ) → i < count → IsBeat (g i) ⊎ IsCopied (g i)
  kind_of_law i h = fit_kind r (g i) known.bearings (ok.fit i h)

  kind_back : (i : ℕ) → i < count → get_or (encode_frame r serial count g) (place_of r.counts.depots count g i) 0 ≡ kind_of (g i)
  kind_back i h = ⊎_elim (kind_beat r _ _ _ (message_stands i h)) (kind_copy r _ _ _ (message_stands i h)) (kind_of_law i h)

  message_back : (i : ℕ) → i < count → message_at r (encode_frame r serial count g) (place_of r.counts.depots count g i) ≡ meant r (g i)
  message_back i h =
      ⊎_elim (reads_beat r _ _ _ (message_stands i h) (ok.words i h)) (reads_copy r _ _ _ (message_stands i h) (ok.words i h)) (kind_of_law i h)

  size_some : (i : ℕ) → i < count → 5 ≤ size_of r.counts.depots (kind_of (g i))
  unfolding size_of
  size_some i h =
      ⊎_elim
      (λ (b : IsBeat (g i)). omega (arith, by_beat 5 (pick (eqb (kind_of (g i)) copy_kind) (14 + 4 * r.counts.depots) 0) 0 b.kind))
      (λ (c : IsCopied (g i)). omega (arith, by_copy 5 (14 + 4 * r.counts.depots) 0 c.kind))
      (kind_of_law i h)

  start_back : (i : ℕ) → i ≤ count → start_in r.counts.depots (encode_frame r serial count g) i ≡ place_of r.counts.depots count g i
  unfolding start_in place_of size_to
  start_back zero h = ap body_at count_back ∙ omega arith
  start_back (suc i) h =
      ap (λ (k : ℕ). k + size_of r.counts.depots (get_or (encode_frame r serial count g) k 0)) (start_back i (omega arith))
      ∙ ap (λ (k : ℕ). body_at count + size_to r.counts.depots g i + size_of r.counts.depots k) (kind_back i h)
      ∙ omega arith

  pub body_back : body_in r (encode_frame r serial count g) ≡ meant_body r count g
  unfolding body_in meant_body
  body_back =
      ap (λ (n : ℕ). joined n (λ i. message_at r (encode_frame r serial count g) (start_in r.counts.depots (encode_frame r serial count g) i))) count_back
      ∙ joined_same count _ _ (λ i h. ap (message_at r (encode_frame r serial count g)) (start_back i (omega arith)) ∙ message_back i h)

  head_right_law : head_right r (encode_frame r serial count g) ≡ true
  unfolding head_right between frame_size place_of
  head_right_law =
      let long = frame_long r serial count g in
      let body : body_at count ≤ length (encode_frame r serial count g) = omega arith in
      let head : body_at 0 ≤ length (encode_frame r serial count g) = omega arith in
      rw (whom_back, count_back)
      (and_intro (le-leb _ _ head) (and_intro (eq-eqb (whom r) _ refl) (and_intro (and_intro (le-leb _ _ ok.some) (le-leb _ _ ok.few)) (le-leb _ _ body))))

  right_at : (i : ℕ) → i < count → message_right r (encode_frame r serial count g) i (place_of r.counts.depots count g i) ≡ true
  unfolding message_right frame_size place_of
  right_at i h =
      let long = frame_long r serial count g in
      let grows = sizes_grow r.counts.depots g count i h in
      let some = size_some i h in
      let there : place_of r.counts.depots count g i < length (encode_frame r serial count g) = omega arith in
      let ends : place_of r.counts.depots count g i + size_of r.counts.depots (kind_of (g i)) ≤ length (encode_frame r serial count g) = omega arith in
      and_intro (eq-eqb _ _ (offset_back i h))
      (and_intro (lt-ltb _ _ there)
      (rw (kind_back i h, message_back i h) (and_intro (le-leb _ _ ends) (meant_fit r (g i) known.depots (ok.fit i h)))))

  messages_right_law : messages_right r (encode_frame r serial count g) ≡ true
  unfolding messages_right
  messages_right_law = rw count_back (every_intro count _ (λ i h. rw (start_back i (omega arith)) (right_at i h)))

  -- what is written is a frame of its link
  pub written_formed : formed r (encode_frame r serial count g) ≡ true
  unfolding formed frame_size
  written_formed =
      and_intro head_right_law
      (and_intro messages_right_law
      (eq-eqb _ _ (ap (start_in r.counts.depots (encode_frame r serial count g)) count_back ∙ start_back count (le_refl _) ∙ sym (frame_long r serial count g))))
