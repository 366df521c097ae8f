-- A record is read off bytes that begin with it: its kind, how many bytes it has, its request. And bytes that name a kind and are as many as it has begin with the
-- record of what they ask. By the form of a kind.
-- Assumes nothing.
use Prim.Native.Nat.{ℕ, suc, ◌+◌, ◌*◌, ◌≤◌, ◌<◌}
use native.Mathlib.Omega.{arith}
use native.Mathlib.Nat.{le_refl}
use mathlib.Core.Path.{◌≡◌, refl, sym, ◌∙◌, ap, ap₂, subst}
use mathlib.Core.Logic.{⊎_elim}
use mathlib.Core.Option.{Option, none, some}
use mathlib.Core.List.{List, [], ◌∷◌, ◌++◌}
use lib.ListN.{length, get_or, take, length-append, length-drop}
use lib.Seq.{get_or-take, take-add}
use borrow.Author.Tests.{lt-ltb, le-ltb}
use Rattle.loops.proofs.BoolLaws.{le_or_lt, pick_true, pick_false}
use Rattle.book.specs.Words.{part}
use Rattle.upkeep.specs.Requests.{Request, number_at}
use Rattle.wire.specs.Wire.{byte_limit, word_limit, Below}
use Rattle.wire.proofs.WireLaws.{Stands, stands_all, stands_left, stands_right}
use Rattle.numbers.specs.Numbers.{bytes_of, words_at}
use Rattle.numbers.proofs.NumberLaws.{length_bytes, length_words, words_stand, words_take, words_small, bytes_read}
use Rattle.journal.specs.declared.record.Kind.{Kind}
use Rattle.journal.specs.Record.{byte_of, kind_of, Form, plain, counted, form_of, head_by, head_size, numbers_by, numbers_in, size}
use Rattle.journal.specs.Record.{kind_in, numbers_of, count_by, head_of, record_bytes, request_by, request_in, begun, strange, whole, piece_by, piece}
use Rattle.journal.proofs.ByKind.{kind_back, kind_byte, request_back, numbers_long, numbers_few, kind_kept, numbers_kept}

-- ---- how many bytes

head_some : (f : Form) → 0 < head_by f
unfolding head_by
head_some (plain n) = omega arith
head_some (counted n) = omega arith

pub size_some : (k : Kind) (p : List ℕ) → 0 < size k p
unfolding size head_size
size_some k p = omega (arith, head_some (form_of k))

head_in_size : (k : Kind) (p : List ℕ) → head_size k ≤ size k p
unfolding size
head_in_size k p = omega arith

-- the bytes before the numbers say it
numbers_take : (f : Form) (j : ℕ) (p : List ℕ) → head_by f ≤ j → numbers_by f (take j p) ≡ numbers_by f p
unfolding head_by numbers_by
numbers_take (plain n) j p h = refl
numbers_take (counted n) j p h = ap (λ (x : ℕ). n + x) (get_or-take j p 1 0 (omega arith))

size_take : (k : Kind) (j : ℕ) (p : List ℕ) → head_size k ≤ j → size k (take j p) ≡ size k p
unfolding size head_size numbers_in
size_take k j p h = ap (λ (x : ℕ). head_by (form_of k) + 4 * x) (numbers_take (form_of k) j p h)

pub size_all : (k : Kind) (p : List ℕ) → size k (take (size k p) p) ≡ size k p
size_all k p = size_take k (size k p) p (head_in_size k p)

-- of fewer bytes than there are it is still more
pub size_part : (k : Kind) (j : ℕ) (p : List ℕ) → j < size k p → j < size k (take j p)
size_part k j p h =
    ⊎_elim
    (λ (l : head_size k ≤ j). omega (arith, size_take k j p l))
    (λ (l : j < head_size k). omega (arith, head_in_size k (take j p)))
    (le_or_lt (head_size k) j)

-- what is asked stands in them alone
pub asked_take : (k : Kind) (p : List ℕ) → request_in k (take (size k p) p) ≡ request_in k p
unfolding request_in head_size numbers_in size
asked_take k p =
    ap (request_by k)
    (ap (words_at (take (size k p) p) (head_by (form_of k))) (numbers_take (form_of k) (size k p) p (head_in_size k p))
    ∙ words_take p (head_by (form_of k)) (numbers_by (form_of k) p) (size k p) (le_refl _))

-- ---- what bytes are

pub is_begun : (k : Kind) (p : List ℕ) → kind_of (get_or p 0 0) ≡ some k → length p < size k p → piece p ≡ begun
unfolding piece piece_by
is_begun k p e h = ap (λ (o : Option Kind). piece_by o p) e ∙ pick_true _ _ (lt-ltb _ _ h)

pub is_whole : (k : Kind) (p : List ℕ) → kind_of (get_or p 0 0) ≡ some k → size k p ≤ length p → piece p ≡ whole (request_in k p)
unfolding piece piece_by
is_whole k p e h = ap (λ (o : Option Kind). piece_by o p) e ∙ pick_false _ _ (le-ltb _ _ h)

pub is_strange : (b : ℕ) → kind_of b ≡ none → piece (b ∷ []) ≡ strange
unfolding piece piece_by
is_strange b e = ap (λ (o : Option Kind). piece_by o (b ∷ [])) e

-- ---- a record, and bytes behind it

count_long : (f : Form) (ns : List ℕ) → suc (length (count_by f ns)) ≡ head_by f
unfolding count_by head_by
count_long (plain n) ns = refl
count_long (counted n) ns = refl

head_long : (r : Request) → length (head_of r) ≡ head_size (kind_in r)
unfolding head_of head_size
head_long r = count_long (form_of (kind_in r)) (numbers_of r)

pub record_long : (r : Request) → length (record_bytes r) ≡ head_size (kind_in r) + 4 * length (numbers_of r)
unfolding record_bytes
record_long r = length-append (head_of r) (bytes_of (numbers_of r)) ∙ ap₂ (λ (x y : ℕ). x + y) (head_long r) (length_bytes (numbers_of r))

-- a record of a request that is done has at most 82 bytes
head_few : (f : Form) → head_by f ≤ 2
unfolding head_by
head_few (plain n) = omega arith
head_few (counted n) = omega arith

pub record_few : (l : List ℕ) (r : Request) → number_at l r ≡ 0 → length (record_bytes r) ≤ 82
unfolding head_size
record_few l r z = omega (arith, record_long r, numbers_few l r z, head_few (form_of (kind_in r)))

module _ (r : Request) (g : List ℕ) where
  pub record_kind : kind_of (get_or (record_bytes r ++ g) 0 0) ≡ some (kind_in r)
  unfolding record_bytes head_of
  record_kind = kind_back (kind_in r)

  record_numbers : numbers_in (kind_in r) (record_bytes r ++ g) ≡ length (numbers_of r)
  unfolding numbers_in record_bytes head_of
  record_numbers = numbers_long r (byte_of (kind_in r)) (bytes_of (numbers_of r)) g

  pub record_size : size (kind_in r) (record_bytes r ++ g) ≡ length (record_bytes r)
  unfolding size
  record_size = ap (λ (n : ℕ). head_size (kind_in r) + 4 * n) record_numbers ∙ sym (record_long r)

  numbers_stand : Stands (record_bytes r ++ g) (head_size (kind_in r)) (bytes_of (numbers_of r))
  unfolding record_bytes
  numbers_stand =
      subst (λ (n : ℕ). Stands (record_bytes r ++ g) n (bytes_of (numbers_of r))) (add_none (length (head_of r)) ∙ head_long r)
      (stands_right (record_bytes r ++ g) 0 (head_of r) (bytes_of (numbers_of r))
      (stands_left (record_bytes r ++ g) 0 (record_bytes r) g (stands_all (record_bytes r ++ g))))
    where
      add_none : (n : ℕ) → 0 + n ≡ n
      add_none n = omega arith

  pub record_asks : Below word_limit (numbers_of r) → request_in (kind_in r) (record_bytes r ++ g) ≡ r
  unfolding request_in
  record_asks b =
      ap (request_by (kind_in r))
      (ap (words_at (record_bytes r ++ g) (head_size (kind_in r))) record_numbers
      ∙ words_stand (record_bytes r ++ g) (head_size (kind_in r)) (numbers_of r) b numbers_stand)
      ∙ request_back r

-- ---- bytes that begin with a whole record

take_one : (p : List ℕ) → 1 ≤ length p → get_or p 0 0 ∷ [] ≡ take 1 p
take_one [] h = absurd (omega arith)
take_one (a ∷ p) h = refl

take_two : (p : List ℕ) → 2 ≤ length p → get_or p 0 0 ∷ get_or p 1 0 ∷ [] ≡ take 2 p
take_two [] h = absurd (omega arith)
take_two (a ∷ []) h = absurd (omega arith)
take_two (a ∷ b ∷ p) h = refl

count_kept : (f : Form) (p : List ℕ) → head_by f ≤ length p → get_or p 0 0 ∷ count_by f (words_at p (head_by f) (numbers_by f p)) ≡ take (head_by f) p
unfolding head_by count_by numbers_by
count_kept (plain n) p h = take_one p h
count_kept (counted n) p h =
    ap (λ (x : ℕ). get_or p 0 0 ∷ x ∷ []) (length-drop n (words_at p 2 (n + get_or p 1 0)) ∙ omega (arith, length_words p 2 (n + get_or p 1 0))) ∙ take_two p h

module _ (k : Kind) (p : List ℕ) (e : kind_of (get_or p 0 0) ≡ some k) (h : size k p ≤ length p) where
  head_kept : head_of (request_in k p) ≡ take (head_size k) p
  unfolding head_of head_size numbers_in request_in
  head_kept =
      ap (λ (j : Kind). byte_of j ∷ count_by (form_of j) (numbers_of (request_in k p))) (kind_kept k _)
      ∙ ap₂ (λ (b : ℕ) (ns : List ℕ). b ∷ count_by (form_of k) ns) (sym (kind_byte _ k e)) (numbers_kept k p)
      ∙ count_kept (form_of k) p (omega (arith, head_in_size k p))

  pub whole_record : Below byte_limit p → record_bytes (request_in k p) ≡ take (size k p) p
  unfolding record_bytes size part
  whole_record b =
      ap₂ (λ (x y : List ℕ). x ++ y) head_kept (ap bytes_of (numbers_kept k p) ∙ sym (bytes_read p (head_size k) (numbers_in k p) (omega arith) b))
      ∙ sym (take-add (head_size k) (4 * numbers_in k p) p)

pub whole_words : (k : Kind) (p : List ℕ) → Below byte_limit p → Below word_limit (numbers_of (request_in k p))
whole_words k p b = subst (Below word_limit) (sym (numbers_kept k p)) (words_small p (head_size k) (numbers_in k p) b)
