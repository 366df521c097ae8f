-- Two parts that differ lie apart: the one lemma on disjoint places. So a part that was written reads back, and every other part stays.
-- The regions of the book stand in a row, which is one computed test; within a region the strides keep the parts apart.
-- Assumes nothing.
use Prim.Native.Nat.{ℕ, suc, ◌+◌, ◌*◌, ◌≤◌, ◌<◌}
use native.Mathlib.Nat.{le_trans, mul-suc, mul-le-mul_left}
use native.Mathlib.Omega.{arith}
use mathlib.Core.Path.{◌≡◌, refl, sym, ◌∙◌, ap, subst}
use mathlib.Core.Logic.{◌⊎◌, inl, inr, ⊎_elim}
use mathlib.Core.List.{List, [], ◌∷◌}
use lib.Dec.{leb}
use lib.ListN.{length, get_or}
use borrow.Author.Tests.{leb-true}
use Rattle.loops.specs.Loops.{every}
use Rattle.loops.proofs.BoolLaws.{le_or_lt, eq_or_ne}
use Rattle.loops.proofs.LoopLaws.{every_at}
use Rattle.book.specs.Words.{part, put, Apart}
use Rattle.book.specs.Layout.{book_words}
use Rattle.book.specs.Parts.{Part, a_count, a_home, a_crew, a_clock, a_stable, a_seen, a_head, a_slot, a_stored, place_of, size_of, InBook, read_part, write_part}
use Rattle.book.proofs.WordsLaws.{put_same, put_other}

-- ---- every part by three numbers: its region, and its row and column there

record Code : Type 0 where
  region : ℕ
  row : ℕ
  column : ℕ

code : Part → Code
code (a_count i) = record { region = 0; row = 0; column = i }
code (a_home c) = record { region = 1; row = 0; column = c }
code (a_crew c) = record { region = 2; row = 0; column = c }
code (a_clock d s) = record { region = 3; row = d; column = s }
code (a_stable d s) = record { region = 4; row = d; column = s }
code (a_seen d s) = record { region = 5; row = d; column = s }
code (a_head q) = record { region = 6; row = 0; column = q }
code (a_slot q i) = record { region = 7; row = q; column = i }
code (a_stored d k) = record { region = 8; row = d; column = k }

-- the three numbers name the part
named : Code → Part
named c =
    get_or
    (a_count c.column ∷ a_home c.column ∷ a_crew c.column ∷ a_clock c.row c.column ∷ a_stable c.row c.column ∷ a_seen c.row c.column
    ∷ a_head c.column ∷ a_slot c.row c.column ∷ a_stored c.row c.column ∷ [])
    c.region (a_count 0)

named_code : (p : Part) → named (code p) ≡ p
unfolding named code
named_code (a_count i) = refl
named_code (a_home c) = refl
named_code (a_crew c) = refl
named_code (a_clock d s) = refl
named_code (a_stable d s) = refl
named_code (a_seen d s) = refl
named_code (a_head q) = refl
named_code (a_slot q i) = refl
named_code (a_stored d k) = refl

-- where each region starts and where the last one ends; the stride of a row, that of a column, and how many columns a row has
starts : List ℕ
starts = 0 ∷ 4 ∷ 20 ∷ 84 ∷ 100 ∷ 164 ∷ 228 ∷ 356 ∷ 10596 ∷ 16356 ∷ []

rows : List ℕ
rows = 4 ∷ 16 ∷ 64 ∷ 4 ∷ 16 ∷ 16 ∷ 128 ∷ 160 ∷ 1440 ∷ []

columns : List ℕ
columns = 1 ∷ 1 ∷ 4 ∷ 1 ∷ 4 ∷ 4 ∷ 2 ∷ 10 ∷ 9 ∷ []

counts : List ℕ
counts = 4 ∷ 16 ∷ 16 ∷ 4 ∷ 4 ∷ 4 ∷ 64 ∷ 16 ∷ 160 ∷ []

-- what the three numbers say of a part's place
record Placed (p : Part) (c : Code) : Type 0 where
  known : c.region < 9
  place : place_of p ≡ get_or starts c.region 0 + get_or rows c.region 0 * c.row + get_or columns c.region 0 * c.column
  fits : c.column < get_or counts c.region 0
  small : size_of p ≤ get_or columns c.region 0
  ends : place_of p + size_of p ≤ get_or starts (suc c.region) 0

placed : (p : Part) → InBook p → Placed p (code p)
unfolding code starts rows columns counts
placed (a_count i) h = omega arith
placed (a_home c) h = omega arith
placed (a_crew c) h = omega arith
placed (a_clock d s) h = omega arith
placed (a_stable d s) h = omega arith
placed (a_seen d s) h = omega arith
placed (a_head q) h = omega arith
placed (a_slot q i) h = omega arith
placed (a_stored d k) h = omega arith

-- the regions stand in a row, and the columns of a row fit into its stride: computed
rise : (r r' : ℕ) → r < r' → r' < 9 → get_or starts (suc r) 0 ≤ get_or starts r' 0
unfolding starts every
rise r r' h k = leb-true _ _ (every_at r' _ (every_at 9 (λ n. every n (λ m. leb (get_or starts (suc m) 0) (get_or starts n 0))) refl r' k) r h)

narrow : (r : ℕ) → r < 9 → get_or columns r 0 * get_or counts r 0 ≤ get_or rows r 0
unfolding columns counts rows every
narrow r h = leb-true _ _ (every_at 9 (λ n. leb (get_or columns n 0 * get_or counts n 0) (get_or rows n 0)) refl r h)

-- ---- two places in one region

-- one row ends before a later one begins, and one column before a later one
earlier_row : (b M m n i j i' j' z : ℕ) → m * n ≤ M → j < n → z ≤ m → i < i' → b + M * i + m * j + z ≤ b + M * i' + m * j'
earlier_row b M m n i j i' j' z wide col size less =
    let p : M * suc i ≤ M * i' = mul-le-mul_left M less in
    let q : M * suc i ≡ M * i + M = mul-suc M i in
    let t : m * suc j ≤ m * n = mul-le-mul_left m col in
    let u : m * suc j ≡ m * j + m = mul-suc m j in
    omega arith

earlier_column : (b M m i j j' z : ℕ) → z ≤ m → j < j' → b + M * i + m * j + z ≤ b + M * i + m * j'
earlier_column b M m i j j' z size less =
    let t : m * suc j ≤ m * j' = mul-le-mul_left m less in
    let u : m * suc j ≡ m * j + m = mul-suc m j in
    omega arith

in_region : (p q : Part) (c c' : Code) → Placed p c → Placed q c' → c.region ≡ c'.region → (c ≡ c' → ⊥) → Apart (place_of p) (size_of p) (place_of q) (size_of q)
in_region p q c c' P Q e differ = by_row (eq_or_ne c.row c'.row) (le_or_lt c.row c'.row) (le_or_lt c.column c'.column)
  where
    b : ℕ
    b = get_or starts c.region 0

    M : ℕ
    M = get_or rows c.region 0

    m : ℕ
    m = get_or columns c.region 0

    here : place_of p ≡ b + M * c.row + m * c.column
    here = P.place

    there : place_of q ≡ b + M * c'.row + m * c'.column
    there = subst (λ (r : ℕ). place_of q ≡ get_or starts r 0 + get_or rows r 0 * c'.row + get_or columns r 0 * c'.column) (sym e) Q.place

    fits : c'.column < get_or counts c.region 0
    fits = subst (λ (r : ℕ). c'.column < get_or counts r 0) (sym e) Q.fits

    small : size_of q ≤ m
    small = subst (λ (r : ℕ). size_of q ≤ get_or columns r 0) (sym e) Q.small

    wide : m * get_or counts c.region 0 ≤ M
    wide = narrow c.region P.known

    by_row :
        (c.row ≡ c'.row) ⊎ (c.row ≡ c'.row → ⊥) → (c.row ≤ c'.row) ⊎ (c'.row < c.row) → (c.column ≤ c'.column) ⊎ (c'.column < c.column) →
        Apart (place_of p) (size_of p) (place_of q) (size_of q)
    by_row (inr n) (inl l) k =
        inl (rw (here, there) (earlier_row b M m _ c.row c.column c'.row c'.column (size_of p) wide P.fits P.small (omega arith)))
    by_row (inr n) (inr l) k =
        inr (rw (here, there) (earlier_row b M m _ c'.row c'.column c.row c.column (size_of q) wide fits small l))
    by_row (inl r) l (inl k) =
        inl
        (rw (here, there, ← r)
        (earlier_column b M m c.row c.column c'.column (size_of p) P.small (less k)))
      where
        less : c.column ≤ c'.column → c.column < c'.column
        less k =
            ⊎_elim
            (λ (s : c.column ≡ c'.column). absurd (differ (λ i. record { region = e i; row = r i; column = s i })))
            (λ (s : c.column ≡ c'.column → ⊥). omega arith)
            (eq_or_ne c.column c'.column)
    by_row (inl r) l (inr k) = inr (rw (here, there, r) (earlier_column b M m c'.row c'.column c.column (size_of q) small k))

-- ---- the laws

pub parts_apart : (p q : Part) → InBook p → InBook q → (p ≡ q → ⊥) → Apart (place_of p) (size_of p) (place_of q) (size_of q)
parts_apart p q hp hq differ = go (eq_or_ne (code p).region (code q).region) (le_or_lt (code p).region (code q).region)
  where
    P : Placed p (code p)
    P = placed p hp

    Q : Placed q (code q)
    Q = placed q hq

    go :
        ((code p).region ≡ (code q).region) ⊎ ((code p).region ≡ (code q).region → ⊥) → ((code p).region ≤ (code q).region) ⊎ ((code q).region < (code p).region) →
        Apart (place_of p) (size_of p) (place_of q) (size_of q)
    go (inl e) l = in_region p q (code p) (code q) P Q e λ s. differ (sym (named_code p) ∙ ap named s ∙ named_code q)
    go (inr n) (inl l) =
        let up = rise (code p).region (code q).region (omega arith) Q.known in
        let from = Q.place in
        let to = P.ends in
        inl (omega arith)
    go (inr n) (inr l) =
        let up = rise (code q).region (code p).region l P.known in
        let from = P.place in
        let to = Q.ends in
        inr (omega arith)

pub part_inside : (p : Part) → InBook p → place_of p + size_of p ≤ book_words
unfolding starts every
part_inside p h = le_trans (placed p h).ends (leb-true _ _ (every_at 9 (λ r. leb (get_or starts (suc r) 0) book_words) refl (code p).region (placed p h).known))

-- reads back what was written
pub write_read : (l : List ℕ) (p : Part) (v : List ℕ) → length l ≡ book_words → InBook p → length v ≡ size_of p → read_part (write_part l p v) p ≡ v
write_read l p v full h e =
    let room : place_of p + length v ≤ length l = (let k = part_inside p h in omega arith) in
    ap (part (put l (place_of p) v) (place_of p)) (sym e) ∙ put_same l (place_of p) v room

-- leaves every other part alone
pub write_other : (l : List ℕ) (p q : Part) (v : List ℕ) → InBook p → InBook q → (p ≡ q → ⊥) → length v ≡ size_of p → read_part (write_part l p v) q ≡ read_part l q
write_other l p q v hp hq differ e = put_other l (place_of p) v (place_of q) (size_of q) (rw e (parts_apart p q hp hq differ))
