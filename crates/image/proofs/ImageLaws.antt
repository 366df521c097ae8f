-- The laws of an image's parts: its header, and numbers that are the same; and what saving and loading answer at each check.
-- Assumes nothing.
use Prim.Native.Nat.{ℕ, ◌+◌, ◌≤◌, ◌<◌}
use native.Mathlib.Omega.{arith}
use mathlib.Core.Path.{◌≡◌, refl, sym, ◌∙◌, ap, ap₂, subst}
use mathlib.Core.Bool.{Bool, true, false, not, false≢true}
use mathlib.Core.List.{List, [], ◌∷◌}
use lib.Dec.{eqb}
use lib.ListN.{length, get_or}
use borrow.Author.Tests.{eqb-true, eq-eqb, ne_eqb, lt-ltb, le-ltb}
use Rattle.std.proofs.lemmas.Grind.{same_number_lists}
use Rattle.loops.specs.Loops.{every}
use Rattle.loops.proofs.LoopLaws.{every_at, every_intro}
use Rattle.loops.proofs.BoolLaws.{pick_true, pick_false, and_left, and_right, and_intro, and_next, and_stop, not_failed, together}
use Rattle.paper.specs.Calls.{here, later, otherwise}
use Rattle.book.specs.Words.{put}
use Rattle.book.specs.Layout.{book_words}
use Rattle.fit.specs.Fit.{fit}
use Rattle.room.specs.Room.{no_room}
use Rattle.register.proofs.TableLaws.{says_first}
use Rattle.wire.proofs.WireLaws.{put_append}
use Rattle.numbers.specs.Numbers.{bytes_of, words_at}
use Rattle.numbers.proofs.NumberLaws.{length_bytes, bytes_append}
use Rattle.numbers.proofs.OneByOne.{put_whole}
use Rattle.image.specs.Image.{image_bytes, bad_image, image_head, image_of, book_in, same, head_right, save_number, load_number, saved, loaded, Saving, Loading}

-- ---- a header, and numbers that are the same

pub fit_long : (l : List ℕ) → fit l ≡ true → length l ≡ book_words
unfolding fit
fit_long l h = eqb-true _ _ (and_left (eqb (length l) book_words) _ h)

pub head_long : (l : List ℕ) → length (image_head l) ≡ 8
unfolding image_head
head_long l = refl

pub same_is : (u v : List ℕ) → same u v ≡ true → u ≡ v
unfolding same
same_is [] [] h = refl
same_is [] (b ∷ v) h = absurd (false≢true h)
same_is (a ∷ u) [] h = absurd (false≢true h)
same_is (a ∷ u) (b ∷ v) h =
    ap₂ (λ (x : ℕ) (l : List ℕ). x ∷ l) (eqb-true a b (and_left (eqb a b) (same u v) h)) (same_is u v (and_right (eqb a b) (same u v) h))

pub same_self : (u : List ℕ) → same u u ≡ true
unfolding same
same_self [] = refl
same_self (a ∷ u) = and_intro (eq-eqb a a refl) (same_self u)

-- place by place
pub same_places : (n : ℕ) (u v : List ℕ) → length u ≡ n → length v ≡ n → every n (λ i. eqb (get_or u i 0) (get_or v i 0)) ≡ same u v
same_places n u v p q =
    together _ _
    (λ h.
    let e : u ≡ v = same_number_lists u v (p ∙ sym q) (λ k l. eqb-true _ _ (every_at n _ h k (subst (λ (m : ℕ). k < m) p l))) in
    subst (λ (x : List ℕ). same u x ≡ true) e (same_self u))
    (λ h. every_intro n _ (λ i l. eq-eqb _ _ (ap (λ (x : List ℕ). get_or x i 0) (same_is u v h))))

-- ---- what saving answers

pub not_true : {b : Bool} → b ≡ true → not b ≡ false
not_true h = ap not h

module _ (l o : List ℕ) where
  save_refused : {n : ℕ} → save_number l (length o) ≡ n → eqb n 0 ≡ false → Saving l o n o
  unfolding saved
  save_refused h k = record { answer = sym h; buffer = sym (pick_false _ _ (ap (λ (m : ℕ). eqb m 0) h ∙ k)) }

  pub save_unfit : fit l ≡ false → Saving l o 1 o
  unfolding save_number
  save_unfit h = save_refused (says_first (here (not_failed h))) refl

  module _ (h : fit l ≡ true) where
    pub save_short : length o < image_bytes → Saving l o no_room o
    unfolding save_number
    save_short k = save_refused (says_first (later (not_true h) (here (lt-ltb _ _ k)))) refl

    pub save_done : {e a b : List ℕ} → image_bytes ≤ length o → e ≡ image_head l → a ≡ put o 0 (bytes_of e) → b ≡ put a 32 (bytes_of l) → Saving l o 0 b
    unfolding save_number saved image_of
    save_done k g p q =
        let z : save_number l (length o) ≡ 0 = says_first (later (not_true h) (later (le-ltb _ _ k) otherwise)) in
        let first : List ℕ = bytes_of (image_head l) in
        let behind : 32 ≡ 0 + length first = omega (arith, length_bytes (image_head l), head_long l) in
        record {
          answer = sym z;
          buffer =
              q
              ∙ ap₂ (λ (x : List ℕ) (n : ℕ). put x n (bytes_of l)) (p ∙ ap (λ (x : List ℕ). put o 0 (bytes_of x)) g) behind
              ∙ put_append o 0 first (bytes_of l)
              ∙ ap (put o 0) (sym (bytes_append (image_head l) l))
              ∙ sym (pick_true _ _ (eq-eqb _ _ z));
        }

-- ---- what loading answers

-- an image is accepted for a book of the right length, if its header is right and its book is fit
pub accepts : (f : List ℕ) (n : ℕ) → n ≡ book_words → head_right f ≡ true → fit (book_in f) ≡ true → load_number f n ≡ 0
unfolding load_number
accepts f n h p q = says_first (later (not_true (eq-eqb _ _ h)) (later (not_true p) (later (not_true q) otherwise)))

-- words that were read over as many as a book has are the image's
pub book_read : (f : List ℕ) {n : ℕ} {w : List ℕ} → n ≡ book_words → w ≡ words_at f 32 n → w ≡ book_in f
unfolding book_in
book_read f h p = p ∙ ap (words_at f 32) h

module _ (l f : List ℕ) where
  load_refused : {n : ℕ} → load_number f (length l) ≡ n → eqb n 0 ≡ false → Loading l f n l
  unfolding loaded
  load_refused h k = record { answer = sym h; book = sym (pick_false _ _ (ap (λ (m : ℕ). eqb m 0) h ∙ k)) }

  pub load_other : (length l ≡ book_words → ⊥) → Loading l f no_room l
  unfolding load_number
  load_other h = load_refused (says_first (here (not_failed (ne_eqb _ _ h)))) refl

  module _ (h : length l ≡ book_words) where
    load_bad : head_right f ≡ false → Loading l f bad_image l
    unfolding load_number
    load_bad k = load_refused (says_first (later (not_true (eq-eqb _ _ h)) (here (not_failed k)))) refl

    pub load_short : (length f ≡ image_bytes → ⊥) → Loading l f bad_image l
    unfolding head_right
    load_short k = load_bad (and_stop _ (ne_eqb _ _ k))

    -- w are the words of the book in the image
    module _ {w : List ℕ} (k : length f ≡ image_bytes) (e : w ≡ book_in f) where
      right_is : {b : Bool} → same (words_at f 0 8) (image_head w) ≡ b → head_right f ≡ b
      unfolding head_right
      right_is p = and_next _ (eq-eqb _ _ k) ∙ ap (λ (x : List ℕ). same (words_at f 0 8) (image_head x)) (sym e) ∙ p

      pub load_wrong : same (words_at f 0 8) (image_head w) ≡ false → Loading l f bad_image l
      load_wrong p = load_bad (right_is p)

      module _ (p : same (words_at f 0 8) (image_head w) ≡ true) where
        pub load_unfit : fit w ≡ false → Loading l f 1 l
        unfolding load_number
        load_unfit q =
            load_refused
            (says_first (later (not_true (eq-eqb _ _ h)) (later (not_true (right_is p)) (here (not_failed (ap fit (sym e) ∙ q))))))
            refl

        pub load_done : {b : List ℕ} → fit w ≡ true → b ≡ put l 0 w → Loading l f 0 b
        unfolding loaded
        load_done q r =
            let z : load_number f (length l) ≡ 0 = accepts f (length l) h (right_is p) (ap fit (sym e) ∙ q) in
            record { answer = sym z; book = r ∙ put_whole l w (fit_long w q ∙ sym h) ∙ e ∙ sym (pick_true _ _ (eq-eqb _ _ z)) }
