-- Each part that a call names is fit in both of two books or in neither, where they agree on its words.
-- Assumes nothing.
use Prim.Native.Nat.{ℕ, ◌+◌, ◌*◌, ◌-◌, ◌≤◌, ◌<◌}
use native.Mathlib.Nat.{le_refl}
use native.Mathlib.Omega.{arith}
use mathlib.Core.Path.{◌≡◌, refl, ◌∙◌, ap, ap₂}
use mathlib.Core.List.{List}
use mathlib.Core.Bool.{Bool, true, ◌&&◌}
use lib.Dec.{leb, ltb, eqb}
use lib.ListN.{length, get_or}
use borrow.Author.Tests.{leb-true, eqb-false}
use Rattle.loops.specs.Loops.{every}
use Rattle.order.specs.Vector.{Vec, covered}
use Rattle.order.specs.Record.{bearing_of}
use Rattle.loops.proofs.BoolLaws.{and_left, and_right}
use Rattle.order.proofs.VectorLaws.{covered_same}
use Rattle.book.specs.declared.parts.Counts.{Counts}
use Rattle.book.specs.Layout.{book_words, end, home_at, crew_at, clock_at, stable_at, seen_at, link_of, held_at, taken_at, slot_at, stored_at}
use Rattle.book.specs.Layout.{counts_of, home, clock, held, taken, slot, stored, record_of}
use Rattle.fit.specs.Fit.{counts_fit, home_fit, homes_fit, in_range, others_in_range, crew_fit, clock_fit, stable_fit, seen_fit, copy_fit, message_fit}
use Rattle.fit.specs.Fit.{head_fit, messages_fit, link_fit, kept_fit, stored_fit}
use Rattle.named.specs.Named.{heads_out_fit, waiting_fit, places_fit, arrival_fit, show_fit, tick_parts, take_parts, refresh_parts, home_parts, base_fit}
use Rattle.links.specs.Send.{roomy}
use Rattle.upkeep.specs.Local.{Agree, In, BaseWord, a_count, a_home, LinkWord, of_head, of_messages, WaitingWord, of_its_head, of_untaken}
use Rattle.upkeep.specs.Local.{ArrivalWord, of_link, of_place, ShowWord, of_stable, of_arrival, TickWord, of_clock, of_head_out, TakeWord, of_seen, of_sender}
use Rattle.upkeep.specs.Local.{RefreshWord, of_seens, of_shelf, HomeWord, of_crew, of_stored, of_home}
use Rattle.upkeep.proofs.LocalBasics.{and_alike, or_alike, every_alike, part_agrees}

-- what a fit head says
pub head_open : (l : List ℕ) (q : ℕ) → head_fit l q ≡ true → (held l q ≤ 16) × (taken l q ≤ held l q)
unfolding head_fit
head_open l q h = (leb-true _ _ (and_left (leb (held l q) 16) _ h), leb-true _ _ (and_right (leb (held l q) 16) _ h))

pub link_headed : (n : Counts) (l : List ℕ) (s from q : ℕ) → link_fit n l s from q ≡ true → head_fit l q ≡ true
unfolding link_fit
link_headed n l s from q h = and_left (head_fit l q) _ h

pub base_counted : (l : List ℕ) → base_fit l ≡ true → counts_fit (counts_of l) ≡ true
unfolding base_fit
base_counted l h = and_left (counts_fit (counts_of l)) _ (and_right (eqb (length l) book_words) _ h)

module _ (S : ℕ → Type 0) (l m : List ℕ) (A : Agree S l m) where
  -- ---- the counts and the homes

  module _ (B : (j : ℕ) → BaseWord l j → S j) where
    pub counts_agree : counts_of l ≡ counts_of m
    counts_agree =
        λ i. record {
          depots = A.words 0 (B 0 (a_count (omega arith))) i;
          shelves = A.words 1 (B 1 (a_count (omega arith))) i;
          bearings = A.words 2 (B 2 (a_count (omega arith))) i;
          crews = A.words 3 (B 3 (a_count (omega arith))) i;
        }

    pub home_agrees : counts_fit (counts_of l) ≡ true → (c : ℕ) → c < (counts_of l).crews → home l c ≡ home m c
    home_agrees f c k = A.words (home_at c) (B (home_at c) (a_home f c k refl))

    pub base_agrees : base_fit l ≡ base_fit m
    unfolding base_fit homes_fit home_fit
    base_agrees =
        and_alike (ap (λ (n : ℕ). eqb n book_words) A.size) λ e.
        and_alike (ap counts_fit counts_agree) λ f.
        every_alike _ _ (ap (λ (n : Counts). n.crews) counts_agree) λ c k. ap₂ ltb (home_agrees f c k) (ap (λ (n : Counts). n.depots) counts_agree)

  -- ---- a link, and what arrives by it

  module _ (q : ℕ) (H : (j : ℕ) → In (held_at q) 2 j → S j) where
    pub held_agrees : held l q ≡ held m q
    held_agrees = A.words (held_at q) (H (held_at q) (le_refl _, omega arith))

    pub taken_agrees : taken l q ≡ taken m q
    taken_agrees = A.words (taken_at q) (H (taken_at q) (omega arith, omega arith))

    head_agrees : head_fit l q ≡ head_fit m q
    unfolding head_fit
    head_agrees = ap₂ (λ (h t : ℕ). leb h 16 && leb t h) held_agrees taken_agrees

    -- the untaken messages
    untaken_agree :
        (n : Counts) (s from : ℕ) → ((j : ℕ) → In (slot_at q (taken l q)) (10 * (held l q - taken l q)) j → S j) →
        every (held l q - taken l q) (λ i. message_fit n s from (slot l q (taken l q + i))) ≡
        every (held m q - taken m q) (λ i. message_fit n s from (slot m q (taken m q + i)))
    untaken_agree n s from M =
        every_alike _ _ (ap₂ (λ (h t : ℕ). h - t) held_agrees taken_agrees) λ i k.
        ap (message_fit n s from)
        (part_agrees S l m 10 refl (λ j x. let a = x.0 in let b = x.1 in M j (omega arith, omega arith)) A
        ∙ ap (λ (t : ℕ). slot m q (t + i)) taken_agrees)

    pub waiting_agrees :
        (n : Counts) (s from : ℕ) → ((j : ℕ) → WaitingWord l q j → S j) → waiting_fit n l s from q ≡ waiting_fit n m s from q
    unfolding waiting_fit
    waiting_agrees n s from L = and_alike head_agrees λ f. untaken_agree n s from (λ j x. L j (of_untaken f x))

  module _ (q : ℕ) (L : (j : ℕ) → LinkWord l q j → S j) where
    heads : (j : ℕ) → In (held_at q) 2 j → S j
    heads j x = L j (of_head x)

    pub slot_agrees : head_fit l q ≡ true → (i : ℕ) → i < held l q → slot l q i ≡ slot m q i
    slot_agrees f i k = part_agrees S l m 10 refl (λ j x. let a = x.0 in let b = x.1 in L j (of_messages f (omega arith, omega arith))) A

    pub link_agrees : (n : Counts) (s from : ℕ) → link_fit n l s from q ≡ link_fit n m s from q
    unfolding link_fit messages_fit
    link_agrees n s from =
        and_alike (head_agrees q heads) λ f.
        let z = (head_open l q f).1 in
        and_alike (every_alike _ _ (taken_agrees q heads) λ i k. ap (copy_fit n s from) (slot_agrees f i (omega arith))) λ e.
        untaken_agree q heads n s from (λ j x. let a = x.0 in let b = x.1 in L j (of_messages f (omega arith, omega arith)))

  pub stored_agrees : (d k : ℕ) → ((j : ℕ) → In (stored_at d k) 9 j → S j) → stored l d k ≡ stored m d k
  stored_agrees d k h = part_agrees S l m 9 refl h A

  arrival_agrees : (n : Counts) (d s from : ℕ) → ((j : ℕ) → ArrivalWord n l d s from j → S j) → arrival_fit n l d s from ≡ arrival_fit n m d s from
  unfolding arrival_fit places_fit stored_fit
  arrival_agrees n d s from W =
      let q = link_of s from d in
      let L : (j : ℕ) → LinkWord l (link_of s from d) j → S j = λ j x. W j (of_link x) in
      and_alike (link_agrees q L n s from) λ f.
      every_alike _ _ (taken_agrees q (λ j x. L j (of_head x))) λ i k.
      let h = link_headed n l s from q f in
      let z = (head_open l q h).1 in
      ap (kept_fit n (bearing_of (record_of (slot l q i)))) (stored_agrees d (bearing_of (record_of (slot l q i))) (λ j x. W j (of_place f i k x)))
      ∙ ap (λ (w : List ℕ). stored_fit n m d (bearing_of (record_of w))) (slot_agrees q L h i (omega arith))

  -- ---- a shelf

  pub entry_agrees : (n a : ℕ) → ((j : ℕ) → In a n j → S j) → (x : ℕ) → x < n → get_or l (a + x) 0 ≡ get_or m (a + x) 0
  entry_agrees n a h x k = A.words (a + x) (h (a + x) (omega arith, omega arith))

  pub show_agrees : (n : Counts) (d s : ℕ) → d < n.depots → ((j : ℕ) → ShowWord n l d s j → S j) → show_fit n l d s ≡ show_fit n m d s
  unfolding show_fit stable_fit others_in_range
  show_agrees n d s hd W =
      let stables = entry_agrees n.depots (stable_at d s) (λ j x. W j (of_stable x)) in
      and_alike
      (and_alike (ap (λ (x : ℕ). eqb x 0) (stables d hd)) λ e. covered_same n.depots d _ _ _ _ stables (λ x k. refl))
      λ e.
      every_alike _ _ refl λ from k. or_alike refl λ f. arrival_agrees n d s from (λ j x. W j (of_arrival from k (eqb-false from d f) x))

  -- ---- what each call names

  module _ (n : Counts) (d s : ℕ) (W : (j : ℕ) → TickWord n d s j → S j) where
    pub clock_agrees : clock l d s ≡ clock m d s
    clock_agrees = A.words (clock_at d s) (W (clock_at d s) (of_clock refl))

    pub count_held : (to : ℕ) → to < n.depots → (to ≡ d → ⊥) → S (held_at (link_of s d to))
    count_held to k f = W _ (of_head_out to k f (le_refl _, omega arith))

    pub tick_parts_agree : tick_parts n l d s ≡ tick_parts n m d s
    unfolding tick_parts clock_fit heads_out_fit head_fit
    tick_parts_agree =
        ap₂ (λ (x : ℕ) (b : Bool). leb x end && b) clock_agrees
        (every_alike _ _ refl λ to k. or_alike refl λ e.
        let f = eqb-false to d e in
        ap₂ (λ (h t : ℕ). leb h 16 && leb t h) (A.words _ (count_held to k f)) (A.words _ (W _ (of_head_out to k f (omega arith, omega arith)))))

    pub room_agrees : roomy n.depots d s l ≡ roomy n.depots d s m
    unfolding roomy
    room_agrees = every_alike _ _ refl λ to k. or_alike refl λ e. ap (λ (h : ℕ). ltb h 16) (A.words _ (count_held to k (eqb-false to d e)))

  pub take_parts_agree : (n : Counts) (d s from : ℕ) → ((j : ℕ) → TakeWord l d s from j → S j) → take_parts n l d s from ≡ take_parts n m d s from
  unfolding take_parts
  take_parts_agree n d s from W =
      ap₂ (λ (x : ℕ) (b : Bool). leb x end && b) (A.words (seen_at d s + from) (W _ (of_seen refl)))
      (waiting_agrees (link_of s from d) (λ j x. W j (of_sender (of_its_head x))) n s from (λ j x. W j (of_sender x)))

  pub refresh_parts_agree : (n : Counts) (d s : ℕ) → d < n.depots → ((j : ℕ) → RefreshWord n l d s j → S j) → refresh_parts n l d s ≡ refresh_parts n m d s
  unfolding refresh_parts seen_fit others_in_range
  refresh_parts_agree n d s hd W =
      ap₂ (λ (a b : Bool). a && b)
      (every_alike _ _ refl λ r k. others n.depots d _ _ λ x z f. A.words (seen_at d r + x) (W _ (of_seens r x k z f refl)))
      (show_agrees n d s hd (λ j x. W j (of_shelf x)))
    where
      others : (k e : ℕ) (u v : Vec) → ((x : ℕ) → x < k → (x ≡ e → ⊥) → u x ≡ v x) → covered k e u (λ x. end) ≡ covered k e v (λ x. end)
      others k e u v h = unfold covered in every_alike _ _ refl λ x z. or_alike refl λ f. ap (λ (y : ℕ). leb y end) (h x z (eqb-false x e f))

  pub home_parts_agree : (n : Counts) (c k d s : ℕ) → d < n.depots → ((j : ℕ) → HomeWord n l c k d s j → S j) → home_parts n l c k d s ≡ home_parts n m c k d s
  unfolding home_parts crew_fit in_range stored_fit
  home_parts_agree n c k d s hd W =
      ap₂ (λ (a b : Bool). a && b)
      (every_alike _ _ refl λ x z. ap (λ (y : ℕ). leb y end) (entry_agrees n.depots (crew_at c) (λ j i. W j (of_crew i)) x z))
      (ap₂ (λ (a b : Bool). a && b) (ap (kept_fit n k) (stored_agrees d k (λ j x. W j (of_stored x)))) (show_agrees n d s hd (λ j x. W j (of_home x))))
