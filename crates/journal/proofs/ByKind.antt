-- What goes kind by kind: a byte and its kind, a request and its numbers. One line for each kind in each law; all else goes by a kind's form.
-- Assumes nothing.
use Prim.Native.Nat.{ℕ, suc, ◌+◌, ◌≤◌, ◌<◌}
use native.Mathlib.Omega.{arith}
use mathlib.Core.Path.{◌≡◌, refl, sym, ◌∙◌, ap, subst}
use mathlib.Core.Logic.{⊎_elim}
use mathlib.Core.Bool.{true, false}
use mathlib.Core.Option.{Option, none, some}
use mathlib.Core.List.{List, ◌∷◌, ◌++◌}
use lib.Dec.{eqb, lit<, lit≤}
use lib.ListN.{length, get_or}
use borrow.Author.Tests.{eqb-true}
use Rattle.loops.specs.Loops.{pick}
use Rattle.loops.proofs.BoolLaws.{decided, pick_true, pick_false}
use Rattle.paper.specs.Calls.{read, write, tick, take, refresh, move, list}
use Rattle.fit.proofs.FitLaws.{counts_within}
use Rattle.register.proofs.Numbers.{setup_done}
use Rattle.register.proofs.ListTable.{list_done, list_size_in}
use Rattle.upkeep.specs.Requests.{Request, setup, call, number_at}
use Rattle.wire.specs.Wire.{byte_limit}
use Rattle.numbers.specs.Numbers.{words_at}
use Rattle.journal.specs.declared.record.Kind.{Kind}
use Rattle.journal.specs.declared.record.Kind.TheVariants.{Setup, Read, Write, Tick, Take, Refresh, Move, Page}
use Rattle.journal.specs.Record.{byte_of, kind_of, form_of, head_by, head_size, numbers_by, numbers_in, kind_in, numbers_of, count_by, request_by, request_in}

-- ---- a kind and its byte

pub kind_back : (k : Kind) → kind_of (byte_of k) ≡ some k
unfolding kind_of byte_of pick
kind_back Setup = refl
kind_back Read = refl
kind_back Write = refl
kind_back Tick = refl
kind_back Take = refl
kind_back Refresh = refl
kind_back Move = refl
kind_back Page = refl

pub byte_small : (k : Kind) → byte_of k < byte_limit
unfolding byte_of
byte_small Setup = lit< tt
byte_small Read = lit< tt
byte_small Write = lit< tt
byte_small Tick = lit< tt
byte_small Take = lit< tt
byte_small Refresh = lit< tt
byte_small Move = lit< tt
byte_small Page = lit< tt

-- a byte that names a kind is its byte
kind_next :
    (b i : ℕ) (j : Kind) (rest : Option Kind) (k : Kind) → i ≡ byte_of j → (rest ≡ some k → b ≡ byte_of k) → pick (eqb b i) (some j) rest ≡ some k → b ≡ byte_of k
kind_next b i j rest k e f h =
    ⊎_elim
    (λ (t : eqb b i ≡ true). let q : some j ≡ some k = sym (pick_true _ _ t) ∙ h in let w : j ≡ k = cc in eqb-true b i t ∙ e ∙ ap byte_of w)
    (λ (t : eqb b i ≡ false). f (sym (pick_false _ _ t) ∙ h))
    (decided (eqb b i))

pub kind_byte : (b : ℕ) (k : Kind) → kind_of b ≡ some k → b ≡ byte_of k
unfolding kind_of byte_of
kind_byte b k =
    kind_next b 1 Setup _ k refl
    (kind_next b 2 Read _ k refl
    (kind_next b 3 Write _ k refl
    (kind_next b 4 Tick _ k refl
    (kind_next b 5 Take _ k refl
    (kind_next b 6 Refresh _ k refl (kind_next b 7 Move _ k refl (kind_next b 8 Page _ k refl (λ h. absurd (no_kind h)))))))))
  where
    no_kind : none ≡ some k → ⊥
    no_kind h = let z : ◌≡◌ {A = ℕ} 0 1 = cc in omega arith

-- ---- a request and its numbers

pub request_back : (r : Request) → request_by (kind_in r) (numbers_of r) ≡ r
unfolding request_by kind_in numbers_of
request_back (setup n homes) = refl
request_back (call (read c k)) = refl
request_back (call (write c k payload)) = refl
request_back (call (tick d s)) = refl
request_back (call (take d s from)) = refl
request_back (call (refresh d s)) = refl
request_back (call (move c d)) = refl
request_back (call (list c ks)) = refl

-- bytes that begin as its record say how many they are
pub numbers_long : (r : Request) (b : ℕ) (p q : List ℕ) → numbers_by (form_of (kind_in r)) (b ∷ ((count_by (form_of (kind_in r)) (numbers_of r) ++ p) ++ q)) ≡ length (numbers_of r)
unfolding form_of kind_in numbers_of numbers_by count_by
numbers_long (setup n homes) b p q = omega arith
numbers_long (call (read c k)) b p q = refl
numbers_long (call (write c k payload)) b p q = refl
numbers_long (call (tick d s)) b p q = refl
numbers_long (call (take d s from)) b p q = refl
numbers_long (call (refresh d s)) b p q = refl
numbers_long (call (move c d)) b p q = refl
numbers_long (call (list c ks)) b p q = omega arith

-- a request that is done has few: a setup at most sixteen homes, a list at most eight bearings
pub numbers_few : (l : List ℕ) (r : Request) → number_at l r ≡ 0 → length (numbers_of r) ≤ 20
unfolding numbers_of number_at
numbers_few l (setup n homes) z = let s = setup_done l n homes z in omega (arith, s.crews, (counts_within n s.counts).crews)
numbers_few l (call (read c k)) z = lit≤ tt
numbers_few l (call (write c k payload)) z = lit≤ tt
numbers_few l (call (tick d s)) z = lit≤ tt
numbers_few l (call (take d s from)) z = lit≤ tt
numbers_few l (call (refresh d s)) z = lit≤ tt
numbers_few l (call (move c d)) z = lit≤ tt
numbers_few l (call (list c ks)) z = omega (arith, (list_size_in ks (list_done l c ks z).size).1)

-- ---- what bytes ask

pub kind_kept : (k : Kind) (ns : List ℕ) → kind_in (request_by k ns) ≡ k
unfolding kind_in request_by
kind_kept Setup ns = refl
kind_kept Read ns = refl
kind_kept Write ns = refl
kind_kept Tick ns = refl
kind_kept Take ns = refl
kind_kept Refresh ns = refl
kind_kept Move ns = refl
kind_kept Page ns = refl

-- its numbers are those that were read
pub numbers_kept : (k : Kind) (p : List ℕ) → numbers_of (request_in k p) ≡ words_at p (head_size k) (numbers_in k p)
unfolding request_in numbers_of request_by words_at head_size head_by numbers_in numbers_by form_of
numbers_kept Setup p =
    let e : 4 + get_or p 1 0 ≡ suc (suc (suc (suc (get_or p 1 0)))) = omega arith in
    subst (λ (n : ℕ). numbers_of (request_by Setup (words_at p 2 n)) ≡ words_at p 2 n) (sym e) refl
numbers_kept Read p = refl
numbers_kept Write p = refl
numbers_kept Tick p = refl
numbers_kept Take p = refl
numbers_kept Refresh p = refl
numbers_kept Move p = refl
numbers_kept Page p =
    let e : 1 + get_or p 1 0 ≡ suc (get_or p 1 0) = omega arith in
    subst (λ (n : ℕ). numbers_of (request_by Page (words_at p 2 n)) ≡ words_at p 2 n) (sym e) refl
