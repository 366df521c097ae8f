-- The laws of printing: bytes after bytes, in the order of the text, and the room that each part has.
-- Assumes nothing.
use Prim.Native.Nat.{ℕ, suc, ◌+◌, ◌-◌, ◌*◌, ◌/◌, ◌%◌, ◌^◌, ◌≤◌, ◌<◌}
use native.Mathlib.Numerals.{add-one}
use native.Mathlib.Nat.{add-zero, le_refl}
use native.Mathlib.Omega.{arith}
use mathlib.Core.Path.{◌≡◌, refl, sym, ◌∙◌, ap, ap₂}
use mathlib.Core.List.{List, [], ◌∷◌, ◌++◌, append_assoc, append-nil}
use mathlib.Core.Bool.{Bool}
use lib.ListN.{length, get_or, take, drop, set, length-append, take-append-drop}
use borrow.Rule.Slice.PartMut.{put_mid}
use lib.Seq.{sets, drop-drop, sets-eq, length-sets, take-suc, take-take, take_all, take-append-le}
use Rattle.line.specs.Number.{decimal}
use Rattle.line.specs.Grammar.{spaced}
use Rattle.paper.specs.declared.answer.Payload.{Payload}
use Rattle.line.specs.Answers.{value_told, unwritten_told, standing, stamp_answer}
use Rattle.line.specs.Printing.{Room, Wrote}
use Rattle.line.proofs.SpellingLaws.{spelled_length, spelled_some, decimal_one, decimal_more}

pub sets_append : (xs ys o : List ℕ) (at : ℕ) → sets o at (xs ++ ys) ≡ sets (sets o at xs) (at + length xs) ys
sets_append [] ys o at = ap (λ (i : ℕ). sets o i ys) (sym (add-zero at))
sets_append (x ∷ xs) ys o at =
    sets_append xs ys (set o at x) (suc at)
    ∙ ap (λ (i : ℕ). sets (sets o at (x ∷ xs)) i ys) (omega arith)

-- words or bytes copied onto their part are stored one after the other
pub sets_copied : (o : List ℕ) (at k : ℕ) {u v : List ℕ} → u ≡ v → length v ≡ k → at + k ≤ length o → put_mid at (at + k - at) o u ≡ sets o at v
sets_copied o at k {u} {v} e n h =
    let size : at + k - at ≡ k = omega arith in
    rw (e, size, drop-drop k at o, ← n, ← append_assoc (take at o) v (drop (at + length v) o)) (sym (sets-eq v o at (omega (arith, n, h))))

-- one byte
pub wrote_byte : (o : List ℕ) (at b : ℕ) → Wrote o at (b ∷ []) (set o at b) (at + 1)
wrote_byte o at b = record { stored = refl; after = omega arith }

-- bytes after bytes
pub wrote_then : {o o' o'' xs ys : List ℕ} {at mid next : ℕ} → Wrote o at xs o' mid → Wrote o' mid ys o'' next → Wrote o at (xs ++ ys) o'' next
wrote_then {o} {xs = xs} {ys = ys} {at = at} p q =
    record {
      stored = q.stored ∙ ap₂ (λ (l : List ℕ) (i : ℕ). sets l i ys) p.stored p.after ∙ sym (sets_append xs ys o at);
      after = let e = length-append xs ys in omega (arith, p.after, q.after);
    }

pub wrote_same : {o o' : List ℕ} {at next : ℕ} {xs ys : List ℕ} → xs ≡ ys → Wrote o at xs o' next → Wrote o at ys o' next
wrote_same e w = rw (← e) w

pub wrote_length : {o o' xs : List ℕ} {at next : ℕ} → Wrote o at xs o' next → length o' ≡ length o
wrote_length {o} {xs = xs} {at = at} w = ap length w.stored ∙ length-sets o at xs

-- what is left of the room
pub room_first : {o : List ℕ} {at : ℕ} (xs ys : List ℕ) → Room o at (xs ++ ys) → Room o at xs
room_first xs ys h = let e = length-append xs ys in record { room = omega (arith, h.room) }

pub room_then : {o o' xs : List ℕ} {at mid : ℕ} (ys : List ℕ) → Room o at (xs ++ ys) → Wrote o at xs o' mid → Room o' mid ys
room_then {xs} ys h w = let e = length-append xs ys in let l = wrote_length w in record { room = omega (arith, h.room, w.after) }

-- a byte and then the rest
pub room_byte : (b : ℕ) {o ys : List ℕ} {at : ℕ} → Room o at (b ∷ ys) → Room (set o at b) (at + 1) ys
room_byte b {o} {ys} {at} h = room_then {xs = b ∷ []} ys h (wrote_byte o at b)

pub wrote_after : (b : ℕ) {o o' ys : List ℕ} {at next : ℕ} → Wrote (set o at b) (at + 1) ys o' next → Wrote o at (b ∷ ys) o' next
wrote_after b {o} {at} w = wrote_then (wrote_byte o at b) w

-- the same where the byte came by a call that says which it is
pub wrote_byte_as : (o : List ℕ) (at : ℕ) {b b' : ℕ} → b ≡ b' → Wrote o at (b' ∷ []) (set o at b) (at + 1)
wrote_byte_as o at {b} e = rw (← e) (wrote_byte o at b)

pub wrote_after_as : {b b' : ℕ} {o o' ys : List ℕ} {at next : ℕ} → b ≡ b' → Wrote (set o at b) (at + 1) ys o' next → Wrote o at (b' ∷ ys) o' next
wrote_after_as {b} e w = rw (← e) (wrote_after b w)

pub room_byte_as : {b b' : ℕ} {o ys : List ℕ} {at : ℕ} → b ≡ b' → Room o at (b' ∷ ys) → Room (set o at b) (at + 1) ys
room_byte_as {b'} e h = rw e (room_byte b' h)

-- ---- a number

pub room_one : (o : List ℕ) (at n : ℕ) → n < 10 → Room o at (decimal n) → at < length o
room_one o at n l h = let e = ap length (decimal_one n l) in omega (arith, h.room)

pub wrote_one : (o : List ℕ) (at n : ℕ) → n < 10 → Wrote o at (decimal n) (set o at (48 + n)) (at + 1)
wrote_one o at n l = wrote_same (sym (decimal_one n l)) (wrote_byte o at (48 + n))

pub room_front : (o : List ℕ) (at n : ℕ) → 10 ≤ n → n < 2 ^ 32 → Room o at (decimal n) → Room o at (decimal (n / 10) ++ ((48 + n % 10) ∷ []))
room_front o at n l f h = rw (← decimal_more n l (omega arith)) h

pub wrote_number : (n : ℕ) {o o' : List ℕ} {at last : ℕ} → 10 ≤ n → n < 2 ^ 32 → Wrote o at (decimal (n / 10)) o' last → Wrote o at (decimal n) (set o' last (48 + n % 10)) (last + 1)
wrote_number n {o'} {last} l f w = wrote_same (sym (decimal_more n l (omega arith))) (wrote_then w (wrote_byte o' last (48 + n % 10)))

-- ---- numbers after spaces

pub wrote_nothing : (o : List ℕ) (at : ℕ) → Wrote o at [] o at
wrote_nothing o at = record { stored = refl; after = omega arith }

pub spaced_append : (xs ys : List ℕ) → spaced (xs ++ ys) ≡ spaced xs ++ spaced ys
unfolding spaced
spaced_append [] ys = refl
spaced_append (x ∷ xs) ys = ap (λ (l : List ℕ). 32 ∷ (decimal x ++ l)) (spaced_append xs ys) ∙ ap (λ (l : List ℕ). 32 ∷ l) (sym (append_assoc (decimal x) (spaced xs) (spaced ys)))

module _ (ns : List ℕ) (i : ℕ) where
  -- one number more
  pub spaced_more : i < length ns → spaced (take (i + 1) ns) ≡ spaced (take i ns) ++ (32 ∷ decimal (get_or ns i 0))
  unfolding spaced
  spaced_more h =
      let one_more : take (i + 1) ns ≡ take i ns ++ (get_or ns i 0 ∷ []) = rw (add-one, take-suc ns i 0) in
      ap spaced one_more
      ∙ spaced_append (take i ns) (get_or ns i 0 ∷ [])
      ∙ ap (λ (l : List ℕ). spaced (take i ns) ++ (32 ∷ l)) (append-nil (decimal (get_or ns i 0)))

  pub room_spaced : (n : ℕ) {o o' : List ℕ} {at next : ℕ}
      → i < n
      → n ≤ length ns
      → Room o at (spaced (take n ns))
      → Wrote o at (spaced (take i ns)) o' next
      → Room o' next (32 ∷ decimal (get_or ns i 0))
  room_spaced n h l r w =
      let within : i < length ns = omega arith in
      let whole : spaced (take n ns) ≡ spaced (take (i + 1) ns) ++ spaced (drop (i + 1) (take n ns)) =
      ap spaced (sym (take-append-drop (i + 1) (take n ns)))
      ∙ spaced_append (take (i + 1) (take n ns)) (drop (i + 1) (take n ns))
      ∙ ap (λ (l : List ℕ). spaced l ++ spaced (drop (i + 1) (take n ns))) (take-take (i + 1) n ns (omega arith)) in
      room_then (32 ∷ decimal (get_or ns i 0)) (rw (spaced_more within) at (room_first (spaced (take (i + 1) ns)) _ (rw whole at r))) w

  pub wrote_spaced : {o o' o'' : List ℕ} {at mid next : ℕ}
      → i < length ns
      → Wrote o at (spaced (take i ns)) o' mid
      → Wrote o' mid (32 ∷ decimal (get_or ns i 0)) o'' next
      → Wrote o at (spaced (take (i + 1) ns)) o'' next
  wrote_spaced h p q = wrote_same (sym (spaced_more h)) (wrote_then p q)

pub spaced_none : (ns : List ℕ) → [] ≡ spaced (take 0 ns)
unfolding spaced
spaced_none ns = refl

-- ---- how long a text is at most, so that room for the longest serves

pub decimal_length : (n : ℕ) → length (decimal n) ≤ 10
unfolding decimal
decimal_length n = spelled_length 10 n

pub spaced_length : (ns : List ℕ) → length (spaced ns) ≤ 11 * length ns
unfolding spaced
spaced_length [] = omega arith
spaced_length (n ∷ ns) =
    let e = length-append (decimal n) (spaced ns) in
    let h = decimal_length n in
    let k = spaced_length ns in
    omega arith

-- and at least
pub spaced_least : (ns : List ℕ) → 2 * length ns ≤ length (spaced ns)
unfolding spaced decimal
spaced_least [] = omega arith
spaced_least (n ∷ ns) =
    let e = length-append (decimal n) (spaced ns) in
    let h = spelled_some 9 n in
    let k = spaced_least ns in
    omega arith

pub room_enough : {o : List ℕ} {at : ℕ} (bytes : List ℕ) (n : ℕ) → length bytes ≤ n → at + n ≤ length o → Room o at bytes
room_enough bytes n h l = record { room = omega arith }

-- what is told of a bearing of a register of D depots has at most 33 + 11 D bytes
pub value_told_length : (p : Payload) (vector : List ℕ) → length (value_told p vector) ≤ 33 + 11 * length vector
value_told_length p vector =
    let e = length-append (spaced (p.value ∷ p.diameter ∷ p.width ∷ [])) (spaced vector) in
    let h = spaced_length (p.value ∷ p.diameter ∷ p.width ∷ []) in
    let k = spaced_length vector in
    omega arith

pub unwritten_told_length : (vector : List ℕ) → length (unwritten_told vector) ≤ 2 + 11 * length vector
unwritten_told_length vector = let k = spaced_length vector in omega arith

pub stamp_answer_length : (stamp : ℕ) (current : Bool) → length (stamp_answer stamp current) ≤ 14
stamp_answer_length stamp current =
    let e = length-append (decimal stamp) (32 ∷ (standing current ∷ [])) in
    let h = decimal_length stamp in
    omega arith

-- what was written at the start of an output is its beginning
pub wrote_start : {o o' xs : List ℕ} {next : ℕ} → Wrote o 0 xs o' next → next ≤ length o' → take next o' ≡ xs
wrote_start {o} {o'} {xs} {next} w h =
    let same = wrote_length w in
    let whole : o' ≡ xs ++ drop (0 + length xs) o = w.stored ∙ sets-eq xs o 0 (omega (arith, w.after)) in
    let end : next ≡ length xs = omega (arith, w.after) in
    ap₂ (λ (n : ℕ) (x : List ℕ). take n x) end whole
    ∙ take-append-le (length xs) xs (drop (0 + length xs) o) (le_refl _)
    ∙ take_all (length xs) xs (le_refl _)
