-- The theorems on an entry's line, for any bytes whatsoever: it is accepted exactly if it is in the grammar, it has one reading, and none is longer
-- than 111 bytes.
-- Assumes nothing.
use Prim.Native.Nat.{ℕ, zero, suc, ◌+◌, ◌-◌, ◌≤◌}
use native.Mathlib.Omega.{arith}
use mathlib.Core.Path.{◌≡◌, refl, sym, ◌∙◌, ap, ap₂}
use mathlib.Core.Logic.{◌↔◌, ◌⊎◌, inl, inr, ⊎_elim}
use mathlib.Core.List.{List, [], ◌∷◌, ◌++◌, append-nil}
use Rattle.std.specs.Prelude.{Option, None, Some}
use mathlib.Core.Bool.{Bool, true, false, ◌&&◌, not}
use lib.Dec.{leb, eqb}
use lib.ListN.{length, get_or, take, drop, replicate, length-append, take-append-drop, drop_of_length-le}
use lib.Seq.{sets, sets-eq, take_at, drop-cons, get_or-append-add}
use borrow.Author.Tests.{eq-eqb, eqb-true, ne_eqb, leb-true}
use Rattle.loops.specs.Loops.{pick}
use Rattle.loops.proofs.BoolLaws.{decided, failed, both_ways, and_left, and_right, and_intro, not_failed, not_passed, eq_or_ne, pick_true, pick_false}
use Rattle.line.specs.Number.{decimal, is_digit, digit_run, most_number}
use Rattle.line.specs.Grammar.{spaced, word_sized}
use Rattle.line.specs.Reading.{numbers_in}
use Rattle.line.proofs.GrammarLaws.{numbers_printed, numbers_read}
use Rattle.line.proofs.PrintLaws.{spaced_length}
use Rattle.line.proofs.Theorems.{decimal_spells}
use Rattle.history.specs.Entry.{Says, a_write, a_read, an_unwritten, unwritten, kinded, dashed, read_in, entry_in, stored}
use Rattle.history.proofs.ReadLaws.{read_plain, read_dashed, entry_empty, entry_write, entry_read, entry_other}

-- ---- no dash stands among numbers

plain : List ℕ → Bool
plain [] = true
plain (b ∷ l) = not (eqb b 45) && plain l

plain_at : (l : List ℕ) (i : ℕ) → plain l ≡ true → get_or l i 0 ≡ 45 → ⊥
unfolding plain
plain_at [] i h e = omega arith
plain_at (b ∷ l) zero h e = both_ways (eq-eqb b 45 e) (not_passed (and_left (not (eqb b 45)) _ h))
plain_at (b ∷ l) (suc i) h e = plain_at l i (and_right (not (eqb b 45)) _ h) e

plain_append : (l m : List ℕ) → plain l ≡ true → plain m ≡ true → plain (l ++ m) ≡ true
unfolding plain
plain_append [] m p q = q
plain_append (b ∷ l) m p q = and_intro (and_left (not (eqb b 45)) _ p) (plain_append l m (and_right (not (eqb b 45)) _ p) q)

plain_digits : (l : List ℕ) → digit_run l ≡ length l → plain l ≡ true
unfolding plain digit_run is_digit
plain_digits [] h = refl
plain_digits (b ∷ l) h =
    ⊎_elim
    (λ (d : leb 48 b && leb b 57 ≡ true).
    let low = leb-true 48 b (and_left (leb 48 b) _ d) in
    let rest : suc (digit_run l) ≡ suc (length l) = sym (pick_true _ _ d) ∙ h in
    and_intro (not_failed (ne_eqb b 45 (λ e. omega arith))) (plain_digits l (omega arith)))
    (λ (d : leb 48 b && leb b 57 ≡ false). let None : 0 ≡ suc (length l) = sym (pick_false _ _ d) ∙ h in absurd (omega arith))
    (decided (leb 48 b && leb b 57))

plain_spaced : (ns : List ℕ) → word_sized ns ≡ true → plain (spaced ns) ≡ true
unfolding plain spaced word_sized
plain_spaced [] r = refl
plain_spaced (n ∷ ns) r =
    plain_append (decimal n) (spaced ns) (plain_digits (decimal n) (decimal_spells n (leb-true n most_number (and_left (leb n most_number) _ r))).all_digits)
    (plain_spaced ns (and_right (leb n most_number) _ r))

plain_line : (ns : List ℕ) → word_sized ns ≡ true → plain (82 ∷ spaced ns) ≡ true
unfolding plain
plain_line ns r = plain_spaced ns r

dash_at : (s : List ℕ) → dashed s ≡ true → get_or s (length s - 1) 0 ≡ 45
unfolding dashed
dash_at s h =
    eqb-true _ 45 (and_right (eqb (get_or s (length s - 2) 0) 32) _ (and_right (leb 3 (length s)) _ h))

-- ---- the eleven words

whole_words : (k : ℕ) (ns : List ℕ) → length ns ≡ 10 → sets (replicate 11 0) 0 (k ∷ ns) ≡ k ∷ ns
whole_words k ns e =
    sets-eq (k ∷ ns) (replicate 11 0) 0 (omega arith)
    ∙ ap (λ (l : List ℕ). (k ∷ ns) ++ l) (drop_of_length-le (replicate 11 0) {i = 0 + suc (length ns)} (omega arith)) ∙ append-nil (k ∷ ns)

kinded_some : (kind count : ℕ) (ns : List ℕ) → length ns ≡ count → kinded kind count (Some ns) ≡ Some (sets (replicate 11 0) 0 (kind ∷ ns))
unfolding kinded
kinded_some kind count ns e = pick_true _ _ (eq-eqb _ _ e)

-- what the words of so many numbers after a first byte are
record Kinded (kind count : ℕ) (l ws : List ℕ) : Type 0 where
  numbers : List ℕ
  counted : length numbers ≡ count
  bytes : l ≡ spaced numbers
  in_range : word_sized numbers ≡ true
  words : sets (replicate 11 0) 0 (kind ∷ numbers) ≡ ws

never : {ws : List ℕ} → None ≡ Some ws → ⊥
never e = let z : ◌≡◌ {A = ℕ} 0 1 = cc in omega arith

kinded_parts : (kind count : ℕ) (l ws : List ℕ) (m : Option (List ℕ)) → numbers_in count l ≡ m → kinded kind count m ≡ Some ws → Kinded kind count l ws
unfolding kinded
kinded_parts kind count l ws None p h = absurd (never h)
kinded_parts kind count l ws (Some ns) p h =
    ⊎_elim
    (λ (t : eqb (length ns) count ≡ true).
    let same : Some (sets (replicate 11 0) 0 (kind ∷ ns)) ≡ Some ws = sym (pick_true _ _ t) ∙ h in
    let prints = numbers_read count l ns p in
    record { numbers = ns; counted = eqb-true (length ns) count t; bytes = prints.bytes; in_range = prints.in_range; words = cc })
    (λ (t : eqb (length ns) count ≡ false). absurd (never (sym (pick_false _ _ t) ∙ h)))
    (decided (eqb (length ns) count))

-- ---- a line in the grammar is read as what it says

module _ (c k : ℕ) where
  head : List ℕ
  head = 82 ∷ spaced (c ∷ k ∷ [])

  line : List ℕ
  line = head ++ (32 ∷ 45 ∷ [])

  long : length line ≡ length head + 2
  unfolding line
  long = length-append head (32 ∷ 45 ∷ [])

  unwritten_read : word_sized (c ∷ k ∷ []) ≡ true → read_in line ≡ Some (unwritten c k)
  unfolding head line kinded pick
  unwritten_read r =
      let two : length line - 2 ≡ length head + 0 = let e = long in omega arith in
      let one : length line - 1 ≡ length head + 1 = let e = long in omega arith in
      let all : length line - 2 ≡ length head = let e = long in omega arith in
      read_dashed line (let e = long in omega arith)
      (ap (λ (i : ℕ). get_or line i 0) two ∙ get_or-append-add head (32 ∷ 45 ∷ []) 0 0)
      (ap (λ (i : ℕ). get_or line i 0) one ∙ get_or-append-add head (32 ∷ 45 ∷ []) 1 0)
      ∙ ap (λ (l : List ℕ). kinded 1 2 (numbers_in 2 (drop 1 l))) (ap (λ (i : ℕ). take i line) all ∙ take_at head (32 ∷ 45 ∷ []) (length head) refl)
      ∙ ap (kinded 1 2) (numbers_printed 2 (c ∷ k ∷ []) (omega arith) r)

pub says_read : {s ws : List ℕ} → Says s ws → entry_in s ≡ Some ws
says_read (a_write {ns} e r) =
    entry_write (87 ∷ spaced ns) (λ z. omega arith) refl
    ∙ ap (kinded 0 10) (numbers_printed 10 ns (omega arith) r) ∙ kinded_some 0 10 ns e ∙ ap Some (whole_words 0 ns e)
says_read (a_read {ns} e r) =
    entry_read (82 ∷ spaced ns) (λ z. omega arith) refl
    ∙ numbered
    ∙ ap (kinded 1 10) (numbers_printed 10 ns (omega arith) r) ∙ kinded_some 1 10 ns e ∙ ap Some (whole_words 1 ns e)
  where
    numbered : read_in (82 ∷ spaced ns) ≡ kinded 1 10 (numbers_in 10 (spaced ns))
    numbered =
        read_plain (82 ∷ spaced ns)
        (failed _ (λ h. plain_at (82 ∷ spaced ns) (length (82 ∷ spaced ns) - 1) (plain_line ns r) (dash_at (82 ∷ spaced ns) h)))
says_read (an_unwritten {c} {k} r) = unfold line head in entry_read (line c k) (λ z. omega (arith, long c k)) refl ∙ unwritten_read c k r

-- ---- what is read as an entry is in the grammar and says so

said_as : {s s' ws ws' : List ℕ} → s ≡ s' → ws ≡ ws' → Says s ws → Says s' ws'
said_as p q h = rw (← p, ← q) h

tens : (kind b : ℕ) (l ws : List ℕ) → Kinded kind 10 l ws → ((ns : List ℕ) → length ns ≡ 10 → word_sized ns ≡ true → Says (b ∷ spaced ns) (kind ∷ ns)) → Says (b ∷ l) ws
tens kind b l ws p f =
    said_as (ap (λ (x : List ℕ). b ∷ x) (sym p.bytes)) (sym (whole_words kind p.numbers p.counted) ∙ p.words) (f p.numbers p.counted p.in_range)

-- the last two bytes
last_two : (l : List ℕ) → 2 ≤ length l → get_or l (length l - 2) 0 ≡ 32 → get_or l (length l - 1) 0 ≡ 45 → drop (length l - 2) l ≡ 32 ∷ 45 ∷ []
last_two l h p q =
    let next : suc (length l - 2) ≡ length l - 1 = omega arith in
    drop-cons l (length l - 2) 0 (omega arith)
    ∙ ap₂ (λ (x : ℕ) (y : List ℕ). x ∷ y) p
    (ap (λ (i : ℕ). drop i l) next ∙ drop-cons l (length l - 1) 0 (omega arith)
    ∙ ap₂ (λ (x : ℕ) (y : List ℕ). x ∷ y) q (drop_of_length-le l {i = suc (length l - 1)} (omega arith)))

dash_says : (l ws : List ℕ) → dashed (82 ∷ l) ≡ true → read_in (82 ∷ l) ≡ Some ws → Says (82 ∷ l) ws
unfolding read_in dashed
dash_says l ws t h = pairs p.numbers p.counted p.bytes p.in_range p.words
  where
    two : 2 ≤ length l
    two = let m = leb-true 3 (suc (length l)) (and_left (leb 3 (suc (length l))) _ t) in omega arith

    here : suc (length l) - 2 ≡ suc (length l - 2)
    here = let m = two in omega arith

    space : get_or l (length l - 2) 0 ≡ 32
    space =
        sym (ap (λ (i : ℕ). get_or (82 ∷ l) i 0) here)
        ∙ eqb-true _ 32 (and_left (eqb (get_or (82 ∷ l) (suc (length l) - 2) 0) 32) _ (and_right (leb 3 (suc (length l))) _ t))

    dash : get_or l (length l - 1) 0 ≡ 45
    dash =
        let next : suc (length l) - 1 ≡ suc (length l - 1) = let m = two in omega arith in
        sym (ap (λ (i : ℕ). get_or (82 ∷ l) i 0) next) ∙ dash_at (82 ∷ l) t

    p : Kinded 1 2 (take (length l - 2) l) ws
    p =
        kinded_parts 1 2 (take (length l - 2) l) ws (numbers_in 2 (take (length l - 2) l)) refl
        (sym (pick_true _ _ t ∙ ap (λ (i : ℕ). kinded 1 2 (numbers_in 2 (drop 1 (take i (82 ∷ l))))) here) ∙ h)

    pairs : (ns : List ℕ) → length ns ≡ 2 → take (length l - 2) l ≡ spaced ns → word_sized ns ≡ true → sets (replicate 11 0) 0 (1 ∷ ns) ≡ ws → Says (82 ∷ l) ws
    pairs [] e b r w = absurd (omega arith)
    pairs (c ∷ []) e b r w = absurd (omega arith)
    pairs (c ∷ k ∷ []) e b r w =
        said_as
        (ap (λ (x : List ℕ). 82 ∷ x)
        (sym (sym (take-append-drop (length l - 2) l) ∙ ap₂ (λ (x y : List ℕ). x ++ y) b (last_two l two space dash)))) w (an_unwritten {c = c} {k = k} r)
    pairs (c ∷ k ∷ x ∷ ns) e b r w = absurd (omega arith)

pub read_says : (s ws : List ℕ) → entry_in s ≡ Some ws → Says s ws
read_says [] ws h = absurd (never (sym (entry_empty [] refl) ∙ h))
read_says (b ∷ l) ws h =
    ⊎_elim
    (λ (w : b ≡ 87).
    said_as (ap (λ (x : ℕ). x ∷ l) (sym w)) refl
    (tens 0 87 l ws (kinded_parts 0 10 l ws (numbers_in 10 l) refl (sym (entry_write (b ∷ l) (λ z. omega arith) w) ∙ h)) (λ ns e r. a_write e r)))
    (λ (w : b ≡ 87 → ⊥).
    ⊎_elim
    (λ (r : b ≡ 82).
    said_as (ap (λ (x : ℕ). x ∷ l) (sym r)) refl
    (reads (ap read_in (ap (λ (x : ℕ). x ∷ l) (sym r)) ∙ sym (entry_read (b ∷ l) (λ z. omega arith) r) ∙ h) (decided (dashed (82 ∷ l)))))
    (λ (r : b ≡ 82 → ⊥). absurd (never (sym (entry_other (b ∷ l) w r) ∙ h)))
    (eq_or_ne b 82))
    (eq_or_ne b 87)
  where
    reads : read_in (82 ∷ l) ≡ Some ws → (dashed (82 ∷ l) ≡ true) ⊎ (dashed (82 ∷ l) ≡ false) → Says (82 ∷ l) ws
    reads k (inl t) = dash_says l ws t k
    reads k (inr t) = tens 1 82 l ws (kinded_parts 1 10 l ws (numbers_in 10 l) refl (sym (read_plain (82 ∷ l) t) ∙ k)) (λ ns e r. a_read e r)

-- accepted exactly if it is in the grammar
pub accepted_exactly : (s ws : List ℕ) → (entry_in s ≡ Some ws) ↔ Says s ws
accepted_exactly s ws = (read_says s ws, λ h. says_read h)

-- and bad exactly if it is not
pub refused_exactly : (s : List ℕ) → (entry_in s ≡ None) ↔ ((ws : List ℕ) → Says s ws → ⊥)
refused_exactly s = (λ h ws w. never (sym h ∙ says_read w), λ h. other (entry_in s) refl h)
  where
    other : (m : Option (List ℕ)) → entry_in s ≡ m → ((ws : List ℕ) → Says s ws → ⊥) → entry_in s ≡ None
    other None p h = p
    other (Some ws) p h = absurd (h ws (read_says s ws p))

-- one reading
pub one_reading : {s ws ws' : List ℕ} → Says s ws → Says s ws' → ws ≡ ws'
one_reading {ws = ws} {ws' = ws'} p q = let same : Some ws ≡ Some ws' = sym (says_read p) ∙ says_read q in cc

-- and eleven words
pub says_words : {s ws : List ℕ} → Says s ws → length ws ≡ 11
says_words (a_write e r) = ap suc e
says_words (a_read e r) = ap suc e
says_words (an_unwritten r) = refl

-- as many as are stored of any line
pub stored_length : (s : List ℕ) → length (stored (entry_in s)) ≡ 11
stored_length s = go (entry_in s) refl
  where
    go : (m : Option (List ℕ)) → entry_in s ≡ m → length (stored m) ≡ 11
    go None e = unfold stored in refl
    go (Some ws) e = unfold stored in says_words (read_says s ws e)

-- no line of the grammar is longer than 111 bytes
says_short : {s ws : List ℕ} → Says s ws → length s ≤ 111
says_short (a_write {ns} e r) = let l = spaced_length ns in omega arith
says_short (a_read {ns} e r) = let l = spaced_length ns in omega arith
says_short (an_unwritten {c} {k} r) =
    let l = spaced_length (c ∷ k ∷ []) in let e = length-append (spaced (c ∷ k ∷ [])) (32 ∷ 45 ∷ []) in omega arith

pub entry_long : (s : List ℕ) → 112 ≤ length s → entry_in s ≡ None
entry_long s l = (refused_exactly s).1 (λ ws w. let m = says_short w in omega arith)
