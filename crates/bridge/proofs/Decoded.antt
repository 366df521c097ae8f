-- What a record, a message and a link's slots say, decoded: the order looks at the same entries, and a list of slots is decoded one by one.
-- Assumes nothing.
use Prim.Native.Nat.{ℕ, zero, suc, ◌+◌, ◌-◌, ◌≤◌, ◌<◌}
use native.Mathlib.Nat.{zero-add}
use mathlib.Core.Path.{◌≡◌, refl, sym, ◌∙◌, ap, fun_ext}
use mathlib.Core.Logic.{◌⊎◌, inl, inr, ⊎_elim}
use mathlib.Core.Bool.{Bool, true, false}
use mathlib.Core.List.{List, [], ◌∷◌, ◌++◌, map}
use lib.Dec.{ltb}
use borrow.Author.Tests.{lt-ltb, le-ltb, ltb-true}
use Rattle.loops.specs.Loops.{pick}
use Rattle.order.specs.Vector.{Vec, covered, zeros}
use Rattle.order.specs.Order.{above}
use Rattle.order.specs.Record.{origin_of, vector_of, rank_of}
use Rattle.loops.proofs.BoolLaws.{decided, pick_true, pick_false}
use Rattle.order.proofs.VectorLaws.{covered_same, zeros_same, zeros_at}
use Rattle.order.proofs.OrderLaws.{above_unwritten, above_written, above_cong}
use Rattle.book.specs.Layout.{held, taken, slot, record_of}
use Rattle.shelf.proofs.SlotLaws as slotted
use Rattle.shelf.proofs.ShowLaws.{taken_slots, untaken_slots}
use Rattle.register.specs.Answers.{payload_of}
use Rattle.model.specs.Parts.{Version, rank, unwritten, greater}
use Rattle.model.specs.Rules.{clear}
use Rattle.bridge.specs.View.{entries_at, version_of, VersionKept, write_of, message_of, listed, taken_on, untaken_on}
use Rattle.bridge.proofs.Basics.{pick_then}

-- ---- a record

module _ (n : ℕ) where
  pub version_unwritten : (r : List ℕ) → zeros n (vector_of r) ≡ true → version_of n r ≡ unwritten
  unfolding version_of
  version_unwritten r z = pick_true _ _ z

  pub version_written : (r : List ℕ) → zeros n (vector_of r) ≡ false → version_of n r ≡ record { payload = payload_of r; origin = origin_of r; vector = entries_at n r 5 }
  unfolding version_of
  version_written r z = pick_false _ _ z

  entry_here : (r : List ℕ) (x : ℕ) → x < n → entries_at n r 5 x ≡ vector_of r x
  unfolding entries_at
  entry_here r x h = pick_true _ _ (lt-ltb x n h)

  -- the n entries are the record's
  pub version_entry : (r : List ℕ) (x : ℕ) → x < n → (version_of n r).vector x ≡ vector_of r x
  unfolding unwritten
  version_entry r x h =
      ⊎_elim
      (λ (z : zeros n (vector_of r) ≡ true). ap (λ (v : Version). v.vector x) (version_unwritten r z) ∙ sym (zeros_at n (vector_of r) z x h))
      (λ (z : zeros n (vector_of r) ≡ false). ap (λ (v : Version). v.vector x) (version_written r z) ∙ entry_here r x h)
      (decided (zeros n (vector_of r)))

  -- and 0 beyond
  pub version_beyond : (r : List ℕ) (x : ℕ) → n ≤ x → (version_of n r).vector x ≡ 0
  unfolding unwritten entries_at
  version_beyond r x h =
      ⊎_elim
      (λ (z : zeros n (vector_of r) ≡ true). ap (λ (v : Version). v.vector x) (version_unwritten r z))
      (λ (z : zeros n (vector_of r) ≡ false). ap (λ (v : Version). v.vector x) (version_written r z) ∙ pick_false _ _ (le-ltb x n h))
      (decided (zeros n (vector_of r)))

  pub version_zeros : (r : List ℕ) → zeros n (version_of n r).vector ≡ zeros n (vector_of r)
  version_zeros r = zeros_same n _ _ (version_entry r)

  pub version_origin : (r : List ℕ) → zeros n (vector_of r) ≡ false → (version_of n r).origin ≡ origin_of r
  version_origin r z = ap (λ (v : Version). v.origin) (version_written r z)

  -- the order compares versions as it compares records
  pub version_above : (a b : List ℕ) → above n (rank (version_of n a)) (rank (version_of n b)) ≡ above n (rank_of a) (rank_of b)
  version_above a b = go (decided (zeros n (vector_of a))) (decided (zeros n (vector_of b)))
    where
      go : (zeros n (vector_of a) ≡ true) ⊎ (zeros n (vector_of a) ≡ false) → (zeros n (vector_of b) ≡ true) ⊎ (zeros n (vector_of b) ≡ false)
          → above n (rank (version_of n a)) (rank (version_of n b)) ≡ above n (rank_of a) (rank_of b)
      go (inl p) q = above_unwritten n _ _ (version_zeros a ∙ p) ∙ sym (above_unwritten n _ _ p)
      go (inr p) (inl q) = above_written n _ _ (version_zeros a ∙ p) (version_zeros b ∙ q) ∙ sym (above_written n _ _ p q)
      go (inr p) (inr q) =
          above_cong n _ _ _ _ (version_entry a) (version_origin a p) (version_entry b) (version_origin b q)

  pub version_greater : (a b : List ℕ) → greater n (version_of n a) (version_of n b) ≡ pick (above n (rank_of b) (rank_of a)) (version_of n b) (version_of n a)
  unfolding greater
  version_greater a b = ap (λ (t : Bool). pick t (version_of n b) (version_of n a)) (version_above b a)

  pub write_clear : (d : ℕ) (u v : Vec) (r : List ℕ) → ((x : ℕ) → x < n → u x ≡ v x) → clear n d u (write_of n r) ≡ covered n d (vector_of r) v
  unfolding clear write_of
  write_clear d u v r e = covered_same n d _ _ _ _ (version_entry r) e

  entries_same : (r s : List ℕ) → ((x : ℕ) → x < n → vector_of r x ≡ vector_of s x) → entries_at n r 5 ≡ entries_at n s 5
  unfolding entries_at
  entries_same r s e = fun_ext λ x. pick_then (ltb x n) 0 (λ t. e x (ltb-true x n t))

  pub version_kept : VersionKept n
  version_kept = record {
    told_apart = λ r s y e.
        let z : zeros n (vector_of s) ≡ false = sym (version_zeros s) ∙ ap (λ (v : Version). zeros n v.vector) (sym e) ∙ version_zeros r ∙ y in
        let f = sym (version_written r y) ∙ e ∙ version_written s z in
        record {
          payload = ap (λ (v : Version). v.payload) f;
          origin = ap (λ (v : Version). v.origin) f;
          entries = λ x k. sym (version_entry r x k) ∙ ap (λ (v : Version). v.vector x) e ∙ version_entry s x k;
        };
    the_same = λ r s e.
        let zeros-too : zeros n (vector_of r) ≡ zeros n (vector_of s) = zeros_same n _ _ e.entries in
        ⊎_elim
        (λ (z : zeros n (vector_of r) ≡ true). version_unwritten r z ∙ sym (version_unwritten s (sym zeros-too ∙ z)))
        (λ (z : zeros n (vector_of r) ≡ false).
        version_written r z
        ∙ (λ i. record { payload = e.payload i; origin = e.origin i; vector = entries_same r s e.entries i })
        ∙ sym (version_written s (sym zeros-too ∙ z)))
        (decided (zeros n (vector_of r)));
    compares = version_above;
  }

-- ---- a link

module _ {A : Type 0} where
  pub map_snoc : (f : List ℕ → A) (a : List (List ℕ)) (x : List ℕ) → map f (a ++ (x ∷ [])) ≡ map f a ++ (f x ∷ [])
  map_snoc f [] x = refl
  map_snoc f (y ∷ a) x = ap (λ (r : List A). f y ∷ r) (map_snoc f a x)

  decoded : (f : List ℕ → A) (n : ℕ) (g : ℕ → List ℕ) → listed n (λ i. f (g i)) ≡ map f (slotted.listed n g)
  unfolding listed slotted.listed
  decoded f zero g = refl
  decoded f (suc n) g = ap (λ (a : List A). a ++ (f (g n) ∷ [])) (decoded f n g) ∙ sym (map_snoc f (slotted.listed n g) (g n))

module _ (n : ℕ) (l : List ℕ) (q : ℕ) where
  pub taken_decoded : taken_on n l q ≡ map (λ m. write_of n (record_of m)) (taken_slots l q)
  unfolding taken_on taken_slots slotted.slots
  taken_decoded =
      decoded (λ m. write_of n (record_of m)) (taken l q) (slot l q)
      ∙ ap (map (λ m. write_of n (record_of m))) (slotted.listed_same (taken l q) _ _ λ i h. ap (slot l q) (sym (zero-add i)))

  pub untaken_decoded : untaken_on n l q ≡ map (message_of n) (untaken_slots l q)
  unfolding untaken_on untaken_slots slotted.slots
  untaken_decoded = decoded (message_of n) (held l q - taken l q) (λ i. slot l q (taken l q + i))
