-- Raising with a vector that was copied out: only the entries that count are read.
-- Assumes nothing.
use Prim.Native.Nat.{ℕ, zero, suc, ◌+◌, ◌-◌, ◌%◌, ◌≤◌, ◌<◌}
use native.Mathlib.Nat.{lt_of_lt_of_le}
use native.Mathlib.Omega.{arith}
use mathlib.Core.Path.{◌≡◌, refl, sym, ◌∙◌, ap, ap₂, subst, subst₂}
use mathlib.Core.Logic.{⊎_elim}
use mathlib.Core.List.{List, [], ◌∷◌}
use mathlib.Core.Bool.{Bool, true, false, ◌&&◌}
use lib.Dec.{ltb}
use lib.ListN.{length, get_or, take, drop, length-take}
use lib.Seq.{get_or-take, get_or-drop}
use borrow.Author.Tests.{ltb-true}
use Rattle.loops.specs.Loops.{pick}
use Rattle.order.specs.Vector.{Vec, vector_in, zeros, merge_one, merged_at}
use Rattle.order.specs.Record.{vector_of}
use Rattle.loops.proofs.BoolLaws.{decided, pick_true, pick_false}
use Rattle.loops.proofs.LoopLaws.{times_same}
use Rattle.book.specs.declared.parts.Counts.{Counts}
use Rattle.book.specs.Layout.{stable_at, stored_at, crew_at, counts_of, home, crew_vector, stored}
use Rattle.book.proofs.WordsLaws.{part_from}
use Rattle.shelf.specs.Asks.{Ready}
use Rattle.shelf.specs.Show.{shown, settled}
use Rattle.links.specs.Send.{four_of}
use Rattle.paper.specs.Calls.{Told, Answer, reads}
use Rattle.paper.specs.Answers.{entries_in, padded, Holds}
use Rattle.register.specs.Answers.{cut, told}
use Rattle.register.specs.Calls.{settled_home, read_record, read_book}
use Rattle.named.specs.Named.{tick_parts, home_parts, read_parts, write_parts}
use Rattle.named.proofs.NamedLaws.{Based}
use Rattle.register.proofs.FitReady.{read_ready}
use Rattle.register.proofs.MadeLaws.{cut_at}

pub merged_same : (n d at : ℕ) (u v : Vec) (l : List ℕ) → ((x : ℕ) → x < n → u x ≡ v x) → merged_at n d u at l ≡ merged_at n d v at l
unfolding merged_at
merged_same n d at u v l h = times_same n _ _ l λ x m k. ap (λ (y : ℕ). merge_one d at x y m) (h x k)

pub settled_same : (n d s : ℕ) (u v : Vec) (l : List ℕ) → ((x : ℕ) → x < n → u x ≡ v x) → settled n d s u l ≡ settled n d s v l
unfolding settled
settled_same n d s u v l h = ap (shown n d s) (merged_same n d (stable_at d s) u v l h)

pub four_at : (v : Vec) (x : ℕ) → x < 4 → vector_in (four_of v) x ≡ v x
four_at v zero h = refl
four_at v (suc zero) h = refl
four_at v (suc (suc zero)) h = refl
four_at v (suc (suc (suc zero))) h = refl
four_at v (suc (suc (suc (suc x)))) h = absurd (omega arith)

pub settled_four : (n d s : ℕ) (v : Vec) (l : List ℕ) {w : List ℕ} → n ≤ 4 → w ≡ four_of v → settled n d s (vector_in w) l ≡ settled n d s v l
settled_four n d s v l {w} h e = settled_same n d s (vector_in w) v l λ x k. ap (λ (m : List ℕ). vector_in m x) e ∙ four_at v x (lt_of_lt_of_le k h)

-- ---- a crew's home shelf

module _ (l : List ℕ) (c k : ℕ) {n : Counts} {d s : ℕ} (en : n ≡ counts_of l) (ed : d ≡ home l c) (es : s ≡ k % n.shelves) where
  pub home_done : {m : List ℕ} → m ≡ settled n.depots d s (crew_vector l c) l → m ≡ settled_home l c k
  unfolding settled_home
  home_done h =
      h
      ∙ ap₂ (λ (x y : ℕ). settled n.depots x y (crew_vector l c) l) ed es
      ∙ ap (λ (m : Counts). settled m.depots (home l c) (k % m.shelves) (crew_vector l c) l) en

  pub home_ready : Based l → c < (counts_of l).crews → read_parts (counts_of l) l c k ≡ true → Ready n.depots d s l
  home_ready B hc h =
      subst₂ (λ (x y : ℕ). Ready n.depots x y l) (sym ed) (sym es)
      (subst (λ (m : Counts). Ready m.depots (home l c) (k % m.shelves) l) (sym en) (read_ready l c k B hc h))

  -- what is said of the parts by the numbers worked out is said of them by the crew and the bearing
  pub parts_home : home_parts n l c k d s ≡ read_parts (counts_of l) l c k
  unfolding read_parts
  parts_home =
      ap₂ (λ (x y : ℕ). home_parts n l c k x y) ed es ∙ ap (λ (m : Counts). home_parts m l c k (home l c) (k % m.shelves)) en

  pub parts_write : home_parts n l c k d s && tick_parts n l d s ≡ write_parts (counts_of l) l c k
  unfolding write_parts
  parts_write =
      ap₂ (λ (a b : Bool). a && b) parts_home
      (ap₂ (λ (x y : ℕ). tick_parts n l x y) ed es ∙ ap (λ (m : Counts). tick_parts m l (home l c) (k % m.shelves)) en)

-- ---- what a read tells, and the crew's maximum with it

pub cut_same : (n : ℕ) (u v : Vec) → n ≤ 4 → ((x : ℕ) → x < n → u x ≡ v x) → cut n u ≡ cut n v
unfolding cut
cut_same n u v h e = λ i. one 0 i ∷ one 1 i ∷ one 2 i ∷ one 3 i ∷ []
  where
    one : (x : ℕ) → pick (ltb x n) (u x) 0 ≡ pick (ltb x n) (v x) 0
    one x =
        ⊎_elim
        (λ (b : ltb x n ≡ true). pick_true (u x) 0 b ∙ e x (ltb-true x n b) ∙ sym (pick_true (v x) 0 b))
        (λ (b : ltb x n ≡ false). pick_false (u x) 0 b ∙ sym (pick_false (v x) 0 b))
        (decided (ltb x n))

-- the vector as the last four words of a record
pub cut_part : (n : ℕ) (r : List ℕ) → n ≤ 4 → cut n (vector_in (take 4 (drop 5 r))) ≡ cut n (vector_of r)
cut_part n r h = cut_same n _ _ h λ x l. get_or-take 4 (drop 5 r) x 0 (lt_of_lt_of_le l h) ∙ get_or-drop 5 r x 0

-- the room of a vector holds the entries that are told of it
pub cut_padded : (n : ℕ) (v : Vec) → n ≤ 4 → cut n v ≡ padded (take n (cut n v))
unfolding cut padded pick
cut_padded zero v h = refl
cut_padded (suc zero) v h = refl
cut_padded (suc (suc zero)) v h = refl
cut_padded (suc (suc (suc zero))) v h = refl
cut_padded (suc (suc (suc (suc zero)))) v h = refl
cut_padded (suc (suc (suc (suc (suc n))))) v h = absurd (omega arith)

pub cut_count : (n : ℕ) (v : Vec) → n ≤ 4 → n ≡ length (take n (cut n v))
unfolding cut
cut_count n v h = sym (length-take n (cut n v) ∙ omega arith)

pub told_entries : (n : ℕ) (r : List ℕ) → entries_in (reads (told n r)) ≡ take n (cut n (vector_of r))
unfolding told entries_in
told_entries n r =
    ⊎_elim
    (λ (z : zeros n (vector_of r) ≡ true). ap (λ (t : Told). entries_in (reads t)) (pick_true _ _ z))
    (λ (z : zeros n (vector_of r) ≡ false). ap (λ (t : Told). entries_in (reads t)) (pick_false _ _ z))
    (decided (zeros n (vector_of r)))

pub told_holds :
    (n : ℕ) (r : List ℕ) {a : Answer} {v : List ℕ} {m : ℕ} → n ≤ 4 → a ≡ reads (told n r) → v ≡ cut n (vector_of r) → m ≡ n → Holds a v m
told_holds n r h ea ev em =
    let same = ap entries_in ea ∙ told_entries n r in
    record { vector = ev ∙ cut_padded n _ h ∙ sym (ap padded same); count = em ∙ cut_count n _ h ∙ sym (ap (λ (u : List ℕ). length u) same) }

module _ (l : List ℕ) (c k : ℕ) {n : Counts} (en : n ≡ counts_of l) {m : List ℕ} (em : m ≡ settled_home l c k) where
  -- the record that was looked up
  pub record_read : {d at : ℕ} → d ≡ home l c → at ≡ stored_at d k → take (at + 9 - at) (drop at m) ≡ read_record l c k
  unfolding read_record
  record_read ed ea = part_from m 9 ea ∙ ap₂ (λ (w : List ℕ) (x : ℕ). stored w x k) em ed

  -- what is told of it, with the depots read
  pub told_done : {A : Type 0} (f : ℕ → List ℕ → A) {r : List ℕ} {a : A} → r ≡ read_record l c k → a ≡ f n.depots r → a ≡ f (counts_of l).depots (read_record l c k)
  told_done f e h = h ∙ ap₂ f (ap (λ (v : Counts). v.depots) en) e

  pub merged_done :
      {at : ℕ} {v m₂ : List ℕ} → (counts_of l).depots ≤ 4 → at ≡ crew_at c → v ≡ cut (counts_of l).depots (vector_of (read_record l c k)) →
      m₂ ≡ merged_at n.depots n.depots (vector_in v) at m → m₂ ≡ read_book l c k
  unfolding read_book
  merged_done {at} {v} small ea ev h =
      h
      ∙ ap (λ (w : Counts). merged_at w.depots w.depots (vector_in v) at m) en
      ∙ ap₂ (λ (w : List ℕ) (x : ℕ). merged_at (counts_of l).depots (counts_of l).depots (vector_in v) x w) em ea
      ∙ merged_same (counts_of l).depots _ _ (vector_in v) (vector_of (read_record l c k)) (settled_home l c k)
      (λ x z. ap (λ (u : List ℕ). get_or u x 0) ev ∙ cut_at (counts_of l).depots (vector_of (read_record l c k)) x small z)
