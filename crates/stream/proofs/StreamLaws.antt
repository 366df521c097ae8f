-- The laws of the input byte by byte: what one byte does, that pieces may be cut anywhere, and what a loop over a piece knows after i bytes. What a line gives, its
-- answer or its record, is g.
-- Assumes nothing.
use Prim.Native.Nat.{ℕ, ◌+◌, ◌*◌, ◌≤◌, ◌<◌}
use native.Mathlib.Nat.{mul-le-mul_left}
use native.Mathlib.Numerals.{add-one}
use native.Mathlib.Omega.{arith}
use mathlib.Core.Path.{◌≡◌, refl, sym, ◌∙◌, ap, ap₂, subst}
use mathlib.Core.Logic.{⊎_elim}
use mathlib.Core.List.{List, [], ◌∷◌, ◌++◌, append-nil, append_assoc}
use lib.ListN.{length, get_or, take, drop, set, length-append, length-set, replicate}
use lib.Seq.{take-suc, take-set-le, get_or-set_same, length-take-le, take_all}
use borrow.Author.Tests.{eq-eqb, ne_eqb, lt-ltb, le-ltb}
use Rattle.loops.proofs.BoolLaws.{eq_or_ne, pick_true, pick_false}
use Rattle.line.specs.Printing.{Wrote}
use Rattle.line.proofs.PrintLaws.{wrote_nothing, wrote_same, wrote_then, wrote_length}
use Rattle.reply.specs.Printed.{answer_room}
use Rattle.events.specs.Answering.{line_feed, Giving, answer_to, record_to, record_room, book_after_line}
use Rattle.events.proofs.SayLaws.{answer_length}
use Rattle.events.proofs.KeepLaws.{record_length}
use Rattle.stream.specs.Stream.{line_at, book_at, gives_at, line_through, book_through, gives_through, book_last, gives_last, line_piece}
use Rattle.stream.specs.Stream.{book_piece, gives_piece, line_in, Holder}

-- ---- one byte

module _ (p : List ℕ) (b : ℕ) where
  pub line_ends : b ≡ line_feed → line_at p b ≡ []
  unfolding line_at
  line_ends h = pick_true _ _ (eq-eqb b 10 h)

  pub line_grows : (b ≡ line_feed → ⊥) → length p < 121 → line_at p b ≡ p ++ (b ∷ [])
  unfolding line_at
  line_grows h k = pick_false _ _ (ne_eqb b 10 h) ∙ pick_true _ _ (lt-ltb (length p) 121 k)

  pub line_full : (b ≡ line_feed → ⊥) → 121 ≤ length p → line_at p b ≡ p
  unfolding line_at
  line_full h k = pick_false _ _ (ne_eqb b 10 h) ∙ pick_false _ _ (le-ltb (length p) 121 k)

module _ (l p : List ℕ) (b : ℕ) where
  pub book_ends : b ≡ line_feed → book_at l p b ≡ book_after_line l p
  unfolding book_at
  book_ends h = pick_true _ _ (eq-eqb b 10 h)

  pub book_stays : (b ≡ line_feed → ⊥) → book_at l p b ≡ l
  unfolding book_at
  book_stays h = pick_false _ _ (ne_eqb b 10 h)

module _ {A : Type 0} (g : Giving A) (l p : List ℕ) (b : ℕ) where
  pub gives_ends : b ≡ line_feed → gives_at g l p b ≡ g l p
  unfolding gives_at
  gives_ends h = pick_true _ _ (eq-eqb b 10 h)

  pub gives_nothing : (b ≡ line_feed → ⊥) → gives_at g l p b ≡ []
  unfolding gives_at
  gives_nothing h = pick_false _ _ (ne_eqb b 10 h)

-- ---- the buffer of the line so far

module _ {m : List ℕ} (h : Holder m) where
  pub held_length : length (line_in m) ≡ get_or m 121 0
  unfolding line_in
  held_length = length-take-le (get_or m 121 0) m (omega (arith, h.room, h.counted))

  -- with a count of nothing it holds no line
  pub held_none : Holder (set m 121 0) × (line_in (set m 121 0) ≡ [])
  unfolding line_in
  held_none =
      let none : get_or (set m 121 0) 121 0 ≡ 0 = get_or-set_same m 121 0 0 (omega (arith, h.room)) in
      (record { room = length-set m 121 0 ∙ h.room; counted = omega arith }, ap (λ (k : ℕ). take k (set m 121 0)) none)

  -- a byte stored after those that count, and counted
  pub held_more : (b : ℕ) → get_or m 121 0 < 121
      → Holder (set (set m (get_or m 121 0) b) 121 (get_or m 121 0 + 1)) × (line_in (set (set m (get_or m 121 0) b) 121 (get_or m 121 0 + 1)) ≡ line_in m ++ (b ∷ []))
  unfolding line_in
  held_more b few =
      let kept = get_or m 121 0 in
      let m' = set m kept b in
      let longer : length m' ≡ 122 = length-set m kept b ∙ h.room in
      let count : get_or (set m' 121 (kept + 1)) 121 0 ≡ kept + 1 = get_or-set_same m' 121 (kept + 1) 0 (omega arith) in
      let byte : get_or m' kept 0 ≡ b = get_or-set_same m kept b 0 (omega (arith, h.room)) in
      let grown : take (kept + 1) m' ≡ take kept m' ++ (get_or m' kept 0 ∷ []) = rw (add-one, take-suc m' kept 0 (omega arith)) in (
        record { room = length-set m' 121 (kept + 1) ∙ longer; counted = omega arith },
        ap (λ (k : ℕ). take k (set m' 121 (kept + 1))) count
            ∙ take-set-le (kept + 1) m' 121 (kept + 1) (omega arith)
            ∙ grown
            ∙ ap₂ (λ (x : List ℕ) (y : ℕ). x ++ (y ∷ [])) (take-set-le kept m kept b (omega arith)) byte,
      )

-- a buffer whose count is nothing holds no line
pub held_empty : {m : List ℕ} → Holder m → get_or m 121 0 ≡ 0 → line_in m ≡ []
unfolding line_in
held_empty {m} h none = ap (λ (k : ℕ). take k m) none

-- and one whose count is something holds some
pub held_some : {m : List ℕ} → Holder m → (get_or m 121 0 ≡ 0 → ⊥) → length (line_in m) ≡ 0 → ⊥
held_some h n z = n (sym (held_length h) ∙ z)

-- ---- pieces may be cut anywhere

pub line_append : (p s t : List ℕ) → line_through p (s ++ t) ≡ line_through (line_through p s) t
unfolding line_through
line_append p [] t = refl
line_append p (b ∷ s) t = line_append (line_at p b) s t

pub book_append : (l p s t : List ℕ) → book_through l p (s ++ t) ≡ book_through (book_through l p s) (line_through p s) t
unfolding book_through line_through
book_append l p [] t = refl
book_append l p (b ∷ s) t = book_append (book_at l p b) (line_at p b) s t

pub gives_append : {A : Type 0} (g : Giving A) (l p s t : List ℕ) → gives_through g l p (s ++ t) ≡ gives_through g l p s ++ gives_through g (book_through l p s) (line_through p s) t
unfolding gives_through book_through line_through
gives_append g l p [] t = refl
gives_append {A} g l p (b ∷ s) t =
    ap (λ (x : List A). gives_at g l p b ++ x) (gives_append g (book_at l p b) (line_at p b) s t)
    ∙ sym (append_assoc (gives_at g l p b) (gives_through g (book_at l p b) (line_at p b) s) _)

-- one byte more
module _ (t : List ℕ) (i : ℕ) (h : i < length t) where
  one_more : take (i + 1) t ≡ take i t ++ (get_or t i 0 ∷ [])
  one_more = rw (add-one, take-suc t i 0 h)

  line_more : (p : List ℕ) → line_through p (take (i + 1) t) ≡ line_at (line_through p (take i t)) (get_or t i 0)
  unfolding line_through
  line_more p = ap (line_through p) one_more ∙ line_append p (take i t) (get_or t i 0 ∷ [])

  book_more : (l p : List ℕ) → book_through l p (take (i + 1) t) ≡ book_at (book_through l p (take i t)) (line_through p (take i t)) (get_or t i 0)
  unfolding book_through
  book_more l p = ap (book_through l p) one_more ∙ book_append l p (take i t) (get_or t i 0 ∷ [])

  gives_more :
      {A : Type 0} (g : Giving A) (l p : List ℕ) →
      gives_through g l p (take (i + 1) t) ≡ gives_through g l p (take i t) ++ gives_at g (book_through l p (take i t)) (line_through p (take i t)) (get_or t i 0)
  unfolding gives_through
  gives_more {A} g l p =
      ap (gives_through g l p) one_more
      ∙ gives_append g l p (take i t) (get_or t i 0 ∷ [])
      ∙ ap (λ (x : List A). gives_through g l p (take i t) ++ x) (append-nil _)

-- ---- how much is given at most

-- a line gives no more than n bytes
pub record Most (g : Giving ℕ) (n : ℕ) : Type 0 where
  pub most : (l s : List ℕ) → length (g l s) ≤ n

module _ {g : Giving ℕ} {n : ℕ} (m : Most g n) where
  at_length : (l p : List ℕ) (b : ℕ) → length (gives_at g l p b) ≤ n
  at_length l p b =
      ⊎_elim
      (λ (e : b ≡ 10). subst (λ (x : List ℕ). length x ≤ n) (sym (gives_ends g l p b e)) (m.most l p))
      (λ (e : b ≡ 10 → ⊥). subst (λ (x : List ℕ). length x ≤ n) (sym (gives_nothing g l p b e)) (omega arith))
      (eq_or_ne b 10)

  last_length : (l p : List ℕ) → length (gives_last g l p) ≤ n
  unfolding gives_last
  last_length l p =
      ⊎_elim
      (λ (e : length p ≡ 0). subst (λ (x : List ℕ). length x ≤ n) (sym (pick_true _ _ (eq-eqb _ 0 e))) (omega arith))
      (λ (e : length p ≡ 0 → ⊥). subst (λ (x : List ℕ). length x ≤ n) (sym (pick_false _ _ (ne_eqb _ 0 e))) (m.most l p))
      (eq_or_ne (length p) 0)

  through_length : (l p t : List ℕ) → length (gives_through g l p t) ≤ n * length t
  unfolding gives_through
  through_length l p [] = omega arith
  through_length l p (b ∷ t) =
      let one = at_length l p b in
      let rest = through_length (book_at l p b) (line_at p b) t in
      let both = length-append (gives_at g l p b) (gives_through g (book_at l p b) (line_at p b) t) in
      omega arith

  pub piece_length : (l p c : List ℕ) → length (gives_piece g l p c) ≤ n * (length c + 1)
  unfolding gives_piece
  piece_length l p [] = let h = last_length l p in omega arith
  piece_length l p (b ∷ c) = let h = through_length l p (b ∷ c) in omega arith

  -- so what a piece gives ends in a buffer that has the room for it
  pub piece_room : (l p c : List ℕ) {o o' : List ℕ} {next : ℕ} → Wrote o 0 (gives_piece g l p c) o' next → n * (length c + 1) ≤ length o → next ≤ length o'
  piece_room l p c w h =
      let most = piece_length l p c in
      let same = wrote_length w in
      omega (arith, w.after)

pub answers_most : Most answer_to answer_room
answers_most = record { most = answer_length }

pub records_most : Most record_to record_room
records_most = record { most = record_length }

-- ---- after i bytes of the piece t

-- the book, and the line so far
pub record Fed (l₀ p₀ t l line : List ℕ) (i : ℕ) : Type 0 where
  pub inside : i ≤ length t
  pub holder : Holder line
  pub words : l ≡ book_through l₀ p₀ (take i t)
  pub so_far : line_in line ≡ line_through p₀ (take i t)

-- and what was given, in the buffer o before the place next
pub record Given (g : Giving ℕ) (n : ℕ) (l₀ p₀ t o₀ o : List ℕ) (next i : ℕ) : Type 0 where
  pub wrote : Wrote o₀ 0 (gives_through g l₀ p₀ (take i t)) o next
  pub room : next ≤ n * i

pub fed_start : (l₀ line t : List ℕ) → Holder line → Fed l₀ (line_in line) t l₀ line 0
unfolding book_through line_through
fed_start l₀ line t h = record { inside = omega arith; holder = h; words = refl; so_far = refl }

pub given_start : (g : Giving ℕ) (n : ℕ) (l₀ p₀ t o₀ : List ℕ) → Given g n l₀ p₀ t o₀ o₀ 0 0
unfolding gives_through
given_start g n l₀ p₀ t o₀ = record { wrote = wrote_nothing o₀ 0; room = omega arith }

pub given_room : {g : Giving ℕ} {n : ℕ} {l₀ p₀ t o₀ o : List ℕ} {next i : ℕ} → Given g n l₀ p₀ t o₀ o next i → i < length t → n * length t ≤ length o₀ → next + n ≤ length o
given_room {n = n} {t = t} {i = i} w h k =
    let e = wrote_length w.wrote in
    let more : n * (i + 1) ≤ n * length t = mul-le-mul_left n (omega arith) in
    omega (arith, w.room)

module _ {l₀ p₀ t l line : List ℕ} {i : ℕ} (f : Fed l₀ p₀ t l line i) (h : i < length t) where
  pub fed_step : {l' line' : List ℕ}
      → l' ≡ book_at l (line_in line) (get_or t i 0)
      → Holder line' × (line_in line' ≡ line_at (line_in line) (get_or t i 0))
      → Fed l₀ p₀ t l' line' (i + 1)
  fed_step words so_far =
      record {
        inside = omega arith;
        holder = so_far.0;
        words = words ∙ ap₂ (λ (x y : List ℕ). book_at x y (get_or t i 0)) f.words f.so_far ∙ sym (book_more t i h l₀ p₀);
        so_far = so_far.1 ∙ ap (λ (y : List ℕ). line_at y (get_or t i 0)) f.so_far ∙ sym (line_more t i h p₀);
      }

  pub given_step : {g : Giving ℕ} {n : ℕ} {o₀ o o' : List ℕ} {next next' : ℕ}
      → Most g n
      → Given g n l₀ p₀ t o₀ o next i
      → Wrote o next (gives_at g l (line_in line) (get_or t i 0)) o' next'
      → Given g n l₀ p₀ t o₀ o' next' (i + 1)
  given_step {g} {n} m w more =
      record {
        wrote =
            wrote_same
            (ap (λ (z : List ℕ). gives_through g l₀ p₀ (take i t) ++ z) (ap₂ (λ (x y : List ℕ). gives_at g x y (get_or t i 0)) f.words f.so_far)
            ∙ sym (gives_more t i h g l₀ p₀))
            (wrote_then w.wrote more);
        room = let k = at_length m l (line_in line) (get_or t i 0) in omega (arith, w.room, more.after);
      }

-- after all of them
module _ {l₀ p₀ t l line : List ℕ} {i : ℕ} (f : Fed l₀ p₀ t l line i) (h : length t ≤ i) where
  pub fed_words : l ≡ book_through l₀ p₀ t
  fed_words = f.words ∙ ap (book_through l₀ p₀) (take_all i t h)

  pub fed_line : line_in line ≡ line_through p₀ t
  fed_line = f.so_far ∙ ap (line_through p₀) (take_all i t h)

pub given_all : {g : Giving ℕ} {n : ℕ} {l₀ p₀ t o₀ o : List ℕ} {next i : ℕ} → Given g n l₀ p₀ t o₀ o next i → length t ≤ i → Wrote o₀ 0 (gives_through g l₀ p₀ t) o next
given_all {g} {l₀ = l₀} {p₀ = p₀} {t = t} {i = i} w h = wrote_same (ap (gives_through g l₀ p₀) (take_all i t h)) w.wrote

-- ---- the end of the input

module _ (l p : List ℕ) (h : length p ≡ 0) where
  pub last_none : book_last l p ≡ l
  unfolding book_last
  last_none = pick_true _ _ (eq-eqb _ 0 h)

  pub last_gives_none : {A : Type 0} (g : Giving A) → gives_last g l p ≡ []
  unfolding gives_last
  last_gives_none g = pick_true _ _ (eq-eqb _ 0 h)

module _ (l p : List ℕ) (h : length p ≡ 0 → ⊥) where
  pub last_some : book_last l p ≡ book_after_line l p
  unfolding book_last
  last_some = pick_false _ _ (ne_eqb _ 0 h)

  pub last_gives : {A : Type 0} (g : Giving A) → gives_last g l p ≡ g l p
  unfolding gives_last
  last_gives g = pick_false _ _ (ne_eqb _ 0 h)

-- ---- a piece

pub piece_end : (l p c : List ℕ) → length c ≡ 0 → (book_piece l p c ≡ book_last l p) × (line_piece p c ≡ [])
unfolding book_piece line_piece
piece_end l p [] h = (refl, refl)
piece_end l p (b ∷ c) h = absurd (omega arith)

pub piece_gives_end : {A : Type 0} (g : Giving A) (l p c : List ℕ) → length c ≡ 0 → gives_piece g l p c ≡ gives_last g l p
unfolding gives_piece
piece_gives_end g l p [] h = refl
piece_gives_end g l p (b ∷ c) h = absurd (omega arith)

pub piece_some : (l p c : List ℕ) → (length c ≡ 0 → ⊥) → (book_piece l p c ≡ book_through l p c) × (line_piece p c ≡ line_through p c)
unfolding book_piece line_piece
piece_some l p [] h = absurd (h refl)
piece_some l p (b ∷ c) h = (refl, refl)

pub piece_gives : {A : Type 0} (g : Giving A) (l p c : List ℕ) → (length c ≡ 0 → ⊥) → gives_piece g l p c ≡ gives_through g l p c
unfolding gives_piece
piece_gives g l p [] h = absurd (h refl)
piece_gives g l p (b ∷ c) h = refl
