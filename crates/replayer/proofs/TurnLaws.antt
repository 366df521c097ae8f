-- The next record, read off its bytes: how many numbers it has, and that the call made is the one that it asks.
-- Assumes nothing.
use Prim.Native.Nat.{ℕ, ◌+◌, ◌*◌, ◌≤◌}
use native.Mathlib.Omega.{arith}
use mathlib.Core.Path.{◌≡◌, refl, sym, ◌∙◌, ap, ap₂, subst}
use mathlib.Core.Bool.{Bool, true, false, true≢false, false≢true}
use mathlib.Core.Option as maybe
use mathlib.Core.Option.{none, some}
use Rattle.std.specs.Prelude.{Option, Some, None}
use mathlib.Core.List.{List, ◌++◌}
use lib.Dec.{lit≤}
use lib.ListN.{length, get_or, take, drop}
use lib.Seq.{length-take-le, take_at}
use Rattle.calls.specs.Performed.{Performed}
use Rattle.upkeep.specs.Requests.{Request, number_at, book_after}
use Rattle.upkeep.proofs.NeverBadAnswer.{reply_number}
use Rattle.paper.specs.Calls.{number_in}
use Rattle.numbers.specs.Numbers.{words_at}
use Rattle.numbers.proofs.NumberLaws.{length_words}
use Rattle.std.specs.Prelude.{Result}
use Rattle.paper.specs.declared.answer.Refusal.{Refusal}
use Rattle.request.specs.declared.reply.Reply.{Reply}
use Rattle.request.specs.Replies.{on_paper}
use Rattle.journal.specs.declared.record.Kind.{Kind}
use Rattle.journal.specs.declared.record.Kind.TheVariants.{Setup, Read, Write, Tick, Take, Refresh, Move, Page}
use Rattle.journal.specs.Record.{kind_of, Form, plain, counted, form_of, head_by, head_size, numbers_by, numbers_in, size, request_by, request_in}
use Rattle.records.specs.declared.kinds.Shape.{Shape}
use Rattle.records.specs.Kinds.{named_by, shape_by, own_of}

-- ---- what a byte names

named_back : Option Kind → maybe.Option Kind
named_back None = none
named_back (Some k) = some k

named_is : (o : maybe.Option Kind) → named_back (named_by o) ≡ o
unfolding named_by named_back
named_is none = refl
named_is (some k) = refl

-- a name that was told, known by its case
module _ (b : ℕ) {x : ℕ} {n : Option Kind} (e : x ≡ b) (h : n ≡ named_by (kind_of x)) where
  told_back : named_back n ≡ kind_of b
  told_back = ap named_back h ∙ named_is (kind_of x) ∙ ap kind_of e

  pub names_nothing : n ≡ None → kind_of b ≡ none
  unfolding named_back
  names_nothing q = sym told_back ∙ ap named_back q

  pub names_kind : {k : Kind} → n ≡ Some k → kind_of b ≡ some k
  unfolding named_back
  names_kind q = sym told_back ∙ ap named_back q

-- ---- how many numbers

pub own_few : (k : Kind) {s : Shape} → s ≡ shape_by (form_of k) → s.own ≤ 5
own_few k {s} e = subst (λ (x : Shape). x.own ≤ 5) (sym e) (few k)
  where
    few : (k : Kind) → (shape_by (form_of k)).own ≤ 5
    few Setup = unfold shape_by form_of in lit≤ tt
    few Read = unfold shape_by form_of in lit≤ tt
    few Write = unfold shape_by form_of in lit≤ tt
    few Tick = unfold shape_by form_of in lit≤ tt
    few Take = unfold shape_by form_of in lit≤ tt
    few Refresh = unfold shape_by form_of in lit≤ tt
    few Move = unfold shape_by form_of in lit≤ tt
    few Page = unfold shape_by form_of in lit≤ tt

counted_few : (k : Kind) → (shape_by (form_of k)).counted ≡ true → (shape_by (form_of k)).own ≤ 4
unfolding shape_by form_of
counted_few Setup h = lit≤ tt
counted_few Read h = lit≤ tt
counted_few Write h = absurd (false≢true h)
counted_few Tick h = lit≤ tt
counted_few Take h = lit≤ tt
counted_few Refresh h = lit≤ tt
counted_few Move h = lit≤ tt
counted_few Page h = lit≤ tt

pub own_counted : (k : Kind) {s : Shape} → s ≡ shape_by (form_of k) → s.counted ≡ true → s.own ≤ 4
own_counted k {s} e h = subst (λ (x : Shape). x.own ≤ 4) (sym e) (counted_few k (sym (ap (λ (x : Shape). x.counted) e) ∙ h))

-- a byte counts only in a form that has one
module _ (p : List ℕ) where
  form_counted : (f : Form) (s : Shape) → s ≡ shape_by f → s.counted ≡ true → (2 ≡ head_by f) × (s.own + get_or p 1 0 ≡ numbers_by f p)
  unfolding shape_by head_by numbers_by
  form_counted (plain n) s e h = absurd (false≢true (sym (ap (λ (x : Shape). x.counted) e) ∙ h))
  form_counted (counted n) s e h = (refl, ap (λ (x : Shape). x.own + get_or p 1 0) e)

  form_plain : (f : Form) (s : Shape) → s ≡ shape_by f → s.counted ≡ false → (1 ≡ head_by f) × (s.own ≡ numbers_by f p)
  unfolding shape_by head_by numbers_by
  form_plain (plain n) s e h = (refl, ap (λ (x : Shape). x.own) e)
  form_plain (counted n) s e h = absurd (true≢false (sym (ap (λ (x : Shape). x.counted) e) ∙ h))

  pub extent_counted : (k : Kind) {s : Shape} {n : ℕ} → s ≡ shape_by (form_of k) → s.counted ≡ true → n ≡ get_or p 1 0 → (2 ≡ head_size k) × (s.own + n ≡ numbers_in k p)
  unfolding head_size numbers_in
  extent_counted k {s} e h q = let w = form_counted (form_of k) s e h in (w.0, ap (λ (x : ℕ). s.own + x) q ∙ w.1)

  pub extent_plain : (k : Kind) {s : Shape} → s ≡ shape_by (form_of k) → s.counted ≡ false → (1 ≡ head_size k) × (s.own ≡ numbers_in k p)
  unfolding head_size numbers_in
  extent_plain k {s} e h = form_plain (form_of k) s e h

  own_in : (f : Form) → (shape_by f).own ≤ numbers_by f p
  unfolding shape_by numbers_by
  own_in (plain n) = omega arith
  own_in (counted n) = omega arith

  pub own_numbers_law : (k : Kind) → own_of k ≤ numbers_in k p
  unfolding own_of numbers_in
  own_numbers_law k = own_in (form_of k)

head_few : (f : Form) → head_by f ≤ 2
unfolding head_by
head_few (plain n) = lit≤ tt
head_few (counted n) = lit≤ tt

module _ (f : List ℕ) (k : Kind) {head n : ℕ} (h : head ≡ head_size k) (e : n ≡ numbers_in k f) where
  pub size_is : head + 4 * n ≡ size k f
  unfolding size
  size_is = ap₂ (λ (x y : ℕ). x + 4 * y) h e

  pub head_small : head ≤ 2
  unfolding head_size
  head_small = subst (λ (x : ℕ). x ≤ 2) (sym h) (head_few (form_of k))

  -- the numbers that were read into the first of xs: they are as many, and ask what the bytes do
  module _ (xs ys : List ℕ) (l : n ≤ length xs) (w : ys ≡ words_at f head (length (take n xs))) where
    read_long : length ys ≡ n
    read_long = ap length w ∙ length_words f head (length (take n xs)) ∙ length-take-le n xs l

    pub read_all : take n (ys ++ drop n xs) ≡ ys
    read_all = take_at ys (drop n xs) n read_long

    pub read_count : n ≡ length (take n (ys ++ drop n xs))
    read_count = sym (ap length read_all ∙ read_long)

    pub read_own : own_of k ≤ length (take n (ys ++ drop n xs))
    read_own = omega (arith, own_numbers_law f k, e, read_count)

    pub asks : request_by k (take n (ys ++ drop n xs)) ≡ request_in k f
    unfolding request_in
    asks = ap (request_by k) (read_all ∙ w ∙ ap₂ (words_at f) h (length-take-le n xs l ∙ e))

-- and a call that is made for it has its number and leaves its book
pub replays :
    {l l' : List ℕ} {q q' : Request} {a : Result Reply Refusal} {n : ℕ} → Performed l q a l' → q ≡ q' → n ≡ number_in (on_paper a) → (n ≡ number_at l q') × (l' ≡ book_after l q')
replays {l} {q = q} p e h = (h ∙ ap number_in p.answer ∙ reply_number l q ∙ ap (number_at l) e, p.book ∙ ap (book_after l) e)
