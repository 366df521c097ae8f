-- What is told of a bearing has its room, and a page is written bearing by bearing: what the first so many words tell, and one run more.
-- Assumes nothing.
use Prim.Native.Nat.{ℕ, zero, suc, ◌+◌, ◌*◌, ◌-◌, ◌≤◌, ◌<◌}
use native.Mathlib.Numerals.{add-one}
use native.Mathlib.Omega.{arith}
use mathlib.Core.Path.{◌≡◌, refl, sym, ◌∙◌, ap}
use mathlib.Core.Logic.{⊎_elim}
use mathlib.Core.List.{List, [], ◌∷◌, ◌++◌, append_assoc, append-nil}
use mathlib.Core.Bool.{true, false}
use lib.Dec.{eqb}
use lib.ListN.{length, get_or, take, drop, length-take, length-drop, length-append}
use lib.Seq.{drop-drop, take_all}
use borrow.Author.Tests.{eq-eqb, ne_eqb}
use Rattle.loops.proofs.BoolLaws.{decided, pick_true, pick_false}
use Rattle.paper.specs.Calls.{Told, read_value, read_unwritten}
use Rattle.paper.specs.declared.answer.Payload.{Payload}
use Rattle.paper.specs.Answers.{told_in, told_all, entries_told, depots_told}
use Rattle.line.specs.Answers.{value_told, unwritten_told}
use Rattle.line.specs.Printing.{Room, Wrote}
use Rattle.line.proofs.PrintLaws.{wrote_then, wrote_same, wrote_length, room_enough, value_told_length, unwritten_told_length}
use Rattle.reply.specs.Printed.{told_bytes, page_bytes, told_room}

-- ---- what eight words tell

module _ (n : ℕ) (w : List ℕ) where
  pub told_none : get_or w 0 0 ≡ 0 → told_bytes (told_in n w) ≡ unwritten_told (take n (drop 4 w))
  unfolding told_in told_bytes
  told_none h = ap told_bytes (pick_true _ _ (eq-eqb (get_or w 0 0) 0 h))

  pub told_some :
      (get_or w 0 0 ≡ 0 → ⊥) →
      told_bytes (told_in n w) ≡ value_told (record { value = get_or w 1 0; diameter = get_or w 2 0; width = get_or w 3 0 }) (take n (drop 4 w))
  unfolding told_in told_bytes
  told_some h = ap told_bytes (pick_false _ _ (ne_eqb (get_or w 0 0) 0 h))

  entries_in_law : entries_told (told_in n w) ≡ take n (drop 4 w)
  unfolding told_in entries_told
  entries_in_law =
      ⊎_elim
      (λ (z : eqb (get_or w 0 0) 0 ≡ true). ap entries_told (pick_true _ _ z))
      (λ (z : eqb (get_or w 0 0) 0 ≡ false). ap entries_told (pick_false _ _ z))
      (decided (eqb (get_or w 0 0) 0))

  few_in : length w ≤ 8 → length (entries_told (told_in n w)) ≤ 4
  few_in h =
      let same = ap length entries_in_law in
      let part = length-take n (drop 4 w) in
      let rest = length-drop 4 w in
      omega arith

-- the last four of eight words
pub last_four : (w : List ℕ) → take (length w - 4) (drop 4 w) ≡ drop 4 w
last_four w = let e = length-drop 4 w in take_all (length w - 4) (drop 4 w) (omega arith)

pub four_long : (w : List ℕ) → length w ≡ 8 → length (take (length w - 4) (drop 4 w)) ≡ 4
four_long w h = let same = ap length (last_four w) in let e = length-drop 4 w in omega arith

-- ---- how long it is at most

module _ {o : List ℕ} {at : ℕ} (n : ℕ) (u : List ℕ) (h : length u ≡ 4) (r : at + told_room ≤ length o) where
  pub room_value : (p : Payload) → Room o at (value_told p (take n u))
  room_value p = let l = value_told_length p (take n u) in let k = length-take n u in room_enough _ told_room (omega arith) r

  pub room_unwritten : Room o at (unwritten_told (take n u))
  room_unwritten = let l = unwritten_told_length (take n u) in let k = length-take n u in room_enough _ told_room (omega arith) r

pub told_length : (t : Told) → length (entries_told t) ≤ 4 → length (told_bytes t) ≤ told_room
unfolding told_bytes entries_told
told_length (read_value p u) h = let l = value_told_length p u in omega arith
told_length (read_unwritten u) h = let l = unwritten_told_length u in omega arith

-- each of a list tells at most four entries
unfoldable pub AllFew : List Told → Type 0
AllFew [] = Unit
AllFew (t ∷ ts) = (length (entries_told t) ≤ 4) × AllFew ts

pub page_length : (ts : List Told) → AllFew ts → length (page_bytes ts) ≤ told_room * length ts
unfolding page_bytes AllFew
page_length [] h = omega arith
page_length (t ∷ ts) h =
    let e = length-append (told_bytes t) (page_bytes ts) in
    let k = told_length t h.0 in
    let m = page_length ts h.1 in
    omega arith

first_few : (n : ℕ) (w : List ℕ) → length (entries_told (told_in n (take 8 w))) ≤ 4
first_few n w = let e = length-take 8 w in few_in n (take 8 w) (omega arith)

pub all_few : (n i : ℕ) (w : List ℕ) → AllFew (told_all n i w)
unfolding told_all AllFew
all_few n zero w = tt
all_few n (suc i) w = (first_few n w, all_few n i (drop 8 w))

pub few_depots : (n i : ℕ) (w : List ℕ) → depots_told (told_all n i w) ≤ 4
unfolding told_all depots_told
few_depots n zero w = omega arith
few_depots n (suc i) w = first_few n w

pub told_count : (n i : ℕ) (w : List ℕ) → length (told_all n i w) ≡ i
unfolding told_all
told_count n zero w = refl
told_count n (suc i) w = ap suc (told_count n i (drop 8 w))

-- ---- one bearing more

told_more : (n i : ℕ) (w : List ℕ) → told_all n (suc i) w ≡ told_all n i w ++ (told_in n (take 8 (drop (8 * i) w)) ∷ [])
unfolding told_all
told_more n zero w = refl
told_more n (suc i) w =
    let next : 8 + 8 * i ≡ 8 * suc i = omega arith in
    ap (λ (ts : List Told). told_in n (take 8 w) ∷ ts)
    (told_more n i (drop 8 w)
    ∙ ap (λ (x : List ℕ). told_all n i (drop 8 w) ++ (told_in n (take 8 x) ∷ [])) (drop-drop (8 * i) 8 w ∙ ap (λ (j : ℕ). drop j w) next))

bytes_append : (xs ys : List Told) → page_bytes (xs ++ ys) ≡ page_bytes xs ++ page_bytes ys
unfolding page_bytes
bytes_append [] ys = refl
bytes_append (x ∷ xs) ys = ap (λ (l : List ℕ). told_bytes x ++ l) (bytes_append xs ys) ∙ sym (append_assoc (told_bytes x) (page_bytes xs) (page_bytes ys))

pub page_none : (n : ℕ) (w : List ℕ) → [] ≡ page_bytes (told_all n 0 w)
unfolding told_all page_bytes
page_none n w = refl

module _ (n i : ℕ) (w : List ℕ) where
  page_more : page_bytes (told_all n (i + 1) w) ≡ page_bytes (told_all n i w) ++ told_bytes (told_in n (take 8 (drop (8 * i) w)))
  unfolding page_bytes
  page_more =
      let t = told_in n (take 8 (drop (8 * i) w)) in
      rw add-one
      (ap page_bytes (told_more n i w)
      ∙ bytes_append (told_all n i w) (t ∷ [])
      ∙ ap (λ (l : List ℕ). page_bytes (told_all n i w) ++ l) (append-nil (told_bytes t)))

  pub wrote_told : {o o' o'' : List ℕ} {at mid next : ℕ}
      → Wrote o at (page_bytes (told_all n i w)) o' mid
      → Wrote o' mid (told_bytes (told_in n (take 8 (drop (8 * i) w)))) o'' next
      → Wrote o at (page_bytes (told_all n (i + 1) w)) o'' next
  wrote_told p q = wrote_same (sym page_more) (wrote_then p q)

  -- with room for all of them there is room for one more
  pub room_told : {o o' : List ℕ} {at next : ℕ} (m : ℕ)
      → i < m
      → at + told_room * m ≤ length o
      → Wrote o at (page_bytes (told_all n i w)) o' next
      → next + told_room ≤ length o'
  room_told m h r p =
      let long = page_length (told_all n i w) (all_few n i w) in
      let count = told_count n i w in
      let same = wrote_length p in
      omega (arith, p.after)
