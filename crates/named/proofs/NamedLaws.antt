-- The parts that a call names: a fit book has them all fit, and what they say where every number is in range.
-- Assumes nothing.
use Prim.Native.Nat.{ℕ, ◌+◌, ◌-◌, ◌≤◌, ◌%◌, ◌<◌}
use native.Mathlib.Nat.{mod-lt}
use native.Mathlib.Omega.{arith}
use mathlib.Core.Path.{◌≡◌, refl, sym, ◌∙◌, ap, ap₂, subst}
use mathlib.Core.Logic.{⊎_elim}
use mathlib.Core.List.{List}
use mathlib.Core.Bool.{Bool, true, false, ◌&&◌, ◌||◌, not}
use lib.Dec.{leb, eqb}
use lib.ListN.{length, get_or}
use borrow.Author.Tests.{lt-leb, leb-true, leb-false, eqb-true, eqb-false, eq-eqb, ne_eqb, ltb-true, le-leb, not-false}
use Rattle.loops.specs.Loops.{every}
use Rattle.order.specs.Record.{bearing_of}
use Rattle.loops.proofs.BoolLaws.{decided, and_left, and_right, and_intro, and_next, or_left, or_right, or_next}
use Rattle.loops.proofs.LoopLaws.{every_at, every_intro}
use Rattle.order.proofs.VectorLaws.{covered_at_law}
use Rattle.book.specs.declared.parts.Counts.{Counts}
use Rattle.book.specs.Layout.{book_words, link_room, counts_of, home, seen, link_of, held, taken, slot, record_of}
use Rattle.fit.specs.Fit.{counts_fit, Within, home_fit, crew_fit, clock_fit, stable_fit, seen_fit, shelf_fit, others_in_range, stored_fit}
use Rattle.fit.specs.Fit.{copy_fit, message_fit, head_fit, messages_fit, link_fit}
use Rattle.fit.specs.Fit.{homes_fit, crews_fit, shelves_fit, links_fit, stores_fit, parts_fit, fit}
use Rattle.named.specs.Named.{heads_out_fit, waiting_fit, places_fit, arrival_fit, show_fit, tick_parts, take_parts, refresh_parts, home_parts, read_parts, write_parts, move_parts, listed_fit, page_parts, list_parts, is_list, all_below}
use Rattle.named.specs.Named.{base_fit, tick_fit, take_fit, refresh_fit, read_fit, write_fit, move_fit, list_fit}
use Rattle.fit.proofs.FitLaws.{counts_within, IsFit, fit_open}
use Rattle.messages.proofs.MessageLaws.{and_flat, link_heads, link_bearings}

-- a test that is asked only of a number in range
unless : (a : Bool) {b : Bool} → (a ≡ false → b ≡ true) → a || b ≡ true
unless a {b} h = ⊎_elim (λ (e : a ≡ true). or_left a b e) (λ (e : a ≡ false). or_right a b (h e)) (decided a)

-- each bearing of a list, all of which are below n
pub below_at : (n : ℕ) (ks : List ℕ) → all_below n ks ≡ true → (i : ℕ) → i < length ks → get_or ks i 0 < n
unfolding all_below
below_at n ks h i l = ltb-true _ _ (every_at (length ks) _ h i l)

-- a fit link's head and untaken messages are fit
link_waits : (n : Counts) (l : List ℕ) (s from q : ℕ) → link_fit n l s from q ≡ true → waiting_fit n l s from q ≡ true
unfolding link_fit messages_fit waiting_fit
link_waits n l s from q h =
    and_intro (and_left (head_fit l q) _ h) (and_right (every (taken l q) (λ i. copy_fit n s from (slot l q i))) _ (and_right (head_fit l q) _ h))

-- and such a head
pub waiting_room : (n : Counts) (l : List ℕ) (s from q : ℕ) → waiting_fit n l s from q ≡ true → held l q ≤ link_room
unfolding waiting_fit head_fit
waiting_room n l s from q h = leb-true _ _ (and_left (leb (held l q) link_room) _ (and_left (head_fit l q) _ h))

-- ---- every part of a fit book

module _ (n : Counts) (l : List ℕ) (h : parts_fit n l ≡ true) where
  homes_all : homes_fit n l ≡ true
  unfolding parts_fit
  homes_all = and_left (homes_fit n l) _ h

  past_homes : crews_fit n l && (shelves_fit n l && (links_fit n l && stores_fit n l)) ≡ true
  unfolding parts_fit
  past_homes = and_right (homes_fit n l) _ h

  past_crews : shelves_fit n l && (links_fit n l && stores_fit n l) ≡ true
  past_crews = and_right (crews_fit n l) _ past_homes

  crew_fit_law : (c : ℕ) → c < n.crews → crew_fit n l c ≡ true
  unfolding crews_fit
  crew_fit_law c k = every_at n.crews _ (and_left (crews_fit n l) _ past_homes) c k

  home_in : (c : ℕ) → c < n.crews → home l c < n.depots
  unfolding homes_fit home_fit
  home_in c k = ltb-true _ _ (every_at n.crews _ homes_all c k)

  shelf_fit_law : (d s : ℕ) → d < n.depots → s < n.shelves → shelf_fit n l d s ≡ true
  unfolding shelves_fit
  shelf_fit_law d s a b = every_at n.shelves _ (every_at n.depots _ (and_left (shelves_fit n l) _ past_crews) d a) s b

  clock_fit_law : (d s : ℕ) → d < n.depots → s < n.shelves → clock_fit l d s ≡ true
  unfolding shelf_fit
  clock_fit_law d s a b = and_left (clock_fit l d s) _ (shelf_fit_law d s a b)

  stable_fit_law : (d s : ℕ) → d < n.depots → s < n.shelves → stable_fit n l d s ≡ true
  unfolding shelf_fit
  stable_fit_law d s a b = and_left (stable_fit n l d s) _ (and_right (clock_fit l d s) _ (shelf_fit_law d s a b))

  seen_fit_law : (d s : ℕ) → d < n.depots → s < n.shelves → seen_fit n l d s ≡ true
  unfolding shelf_fit
  seen_fit_law d s a b = and_right (stable_fit n l d s) _ (and_right (clock_fit l d s) _ (shelf_fit_law d s a b))

  link_fit_law : (s from to : ℕ) → s < n.shelves → from < n.depots → to < n.depots → eqb from to ≡ false → link_fit n l s from (link_of s from to) ≡ true
  unfolding links_fit
  link_fit_law s from to a b c f =
      sym (or_next (link_fit n l s from (link_of s from to)) f)
      ∙ every_at n.depots _ (every_at n.depots _ (every_at n.shelves _ (and_left (links_fit n l) _ (and_right (shelves_fit n l) _ past_crews)) s a) from b) to c

  stored_fit_law : (d k : ℕ) → d < n.depots → k < n.bearings → stored_fit n l d k ≡ true
  unfolding stores_fit
  stored_fit_law d k a b = every_at n.bearings _ (every_at n.depots _ (and_right (links_fit n l) _ (and_right (shelves_fit n l) _ past_crews)) d a) k b

  -- ---- what each call names of them

  show_fit_law : (d s : ℕ) → d < n.depots → s < n.shelves → show_fit n l d s ≡ true
  unfolding show_fit arrival_fit places_fit
  show_fit_law d s a b =
      and_intro (stable_fit_law d s a b)
      (every_intro n.depots _ (λ from k. unless (eqb from d) (λ f.
      let q = link_fit_law s from d b k a f in
      and_intro q (every_intro _ _ (λ i j. stored_fit_law d _ a (link_bearings n l s from (link_of s from d) q i j))))))

  flip : (x y : ℕ) → eqb x y ≡ false → eqb y x ≡ false
  flip x y f = ne_eqb y x (λ e. eqb-false x y f (sym e))

  tick_parts_law : (d s : ℕ) → d < n.depots → s < n.shelves → tick_parts n l d s ≡ true
  unfolding tick_parts heads_out_fit link_fit
  tick_parts_law d s a b =
      and_intro (clock_fit_law d s a b)
      (every_intro n.depots _ (λ to k. unless (eqb to d) (λ f. and_left (head_fit l (link_of s d to)) _ (link_fit_law s d to b a k (flip to d f)))))

  take_parts_law : (d s from : ℕ) → d < n.depots → s < n.shelves → from < n.depots → eqb d from ≡ false → take_parts n l d s from ≡ true
  unfolding take_parts seen_fit others_in_range
  take_parts_law d s from a b c f =
      and_intro (le-leb _ _ (covered_at_law n.depots d (seen l d s) _ (seen_fit_law d s a b) from c (λ e. eqb-false d from f (sym e))))
      (link_waits n l s from _ (link_fit_law s from d b c a (flip d from f)))

  refresh_parts_law : (d s : ℕ) → d < n.depots → s < n.shelves → refresh_parts n l d s ≡ true
  unfolding refresh_parts
  refresh_parts_law d s a b = and_intro (every_intro n.shelves _ (λ x k. seen_fit_law d x a k)) (show_fit_law d s a b)

  move_parts_law : (c d : ℕ) → c < n.crews → d < n.depots → move_parts n l c d ≡ true
  unfolding move_parts
  move_parts_law c d a b = and_intro (crew_fit_law c a) (every_intro n.shelves _ (λ x k. seen_fit_law d x b k))

  module _ (p : 0 < n.shelves) (c k : ℕ) (hc : c < n.crews) (hk : k < n.bearings) where
    read_parts_law : read_parts n l c k ≡ true
    unfolding read_parts home_parts
    read_parts_law =
        and_intro (crew_fit_law c hc) (and_intro (stored_fit_law (home l c) k (home_in c hc) hk) (show_fit_law (home l c) (k % n.shelves) (home_in c hc) (mod-lt k p)))

    write_parts_law : write_parts n l c k ≡ true
    unfolding write_parts
    write_parts_law = and_intro read_parts_law (tick_parts_law (home l c) (k % n.shelves) (home_in c hc) (mod-lt k p))

  list_parts_law : (c : ℕ) (ks : List ℕ) → c < n.crews → all_below n.bearings ks ≡ true → list_parts n l c ks ≡ true
  unfolding list_parts page_parts listed_fit
  list_parts_law c ks hc hk =
      and_intro (crew_fit_law c hc)
      (and_intro (every_intro (length ks) _ (λ i k. stored_fit_law (home l c) _ (home_in c hc) (below_at n.bearings ks hk i k)))
      (every_intro n.shelves _ (λ s k. show_fit_law (home l c) s (home_in c hc) k)))

-- ---- a fit book is fit for every call

module _ (l : List ℕ) (h : fit l ≡ true) where
  F : IsFit l
  F = fit_open l h

  pub fit_base : base_fit l ≡ true
  unfolding base_fit
  fit_base = and_intro (eq-eqb _ _ F.full) (and_intro F.counts (homes_all (counts_of l) l F.parts))

  pub fit_tick : (d s : ℕ) → tick_fit l d s ≡ true
  unfolding tick_fit
  fit_tick d s = and_intro fit_base (unless _ (λ a. unless _ (λ b. tick_parts_law (counts_of l) l F.parts d s (leb-false _ _ a) (leb-false _ _ b))))

  pub fit_take : (d s from : ℕ) → take_fit l d s from ≡ true
  unfolding take_fit
  fit_take d s from =
      and_intro fit_base
      (unless _ (λ a. unless _ (λ c. unless _ (λ b. unless _ (take_parts_law (counts_of l) l F.parts d s from (leb-false _ _ a) (leb-false _ _ b) (leb-false _ _ c))))))

  pub fit_refresh : (d s : ℕ) → refresh_fit l d s ≡ true
  unfolding refresh_fit
  fit_refresh d s = and_intro fit_base (unless _ (λ a. unless _ (λ b. refresh_parts_law (counts_of l) l F.parts d s (leb-false _ _ a) (leb-false _ _ b))))

  pub fit_read : (c k : ℕ) → read_fit l c k ≡ true
  unfolding read_fit
  fit_read c k =
      and_intro fit_base
      (unless _ (λ a. unless _ (λ b. read_parts_law (counts_of l) l F.parts (counts_within (counts_of l) F.counts).shelf c k (leb-false _ _ a) (leb-false _ _ b))))

  pub fit_write : (c k : ℕ) → write_fit l c k ≡ true
  unfolding write_fit
  fit_write c k =
      and_intro fit_base
      (unless _ (λ a. unless _ (λ b. write_parts_law (counts_of l) l F.parts (counts_within (counts_of l) F.counts).shelf c k (leb-false _ _ a) (leb-false _ _ b))))

  pub fit_move : (c d : ℕ) → move_fit l c d ≡ true
  unfolding move_fit
  fit_move c d = and_intro fit_base (unless _ (λ a. unless _ (λ b. move_parts_law (counts_of l) l F.parts c d (leb-false _ _ a) (leb-false _ _ b))))

  pub fit_list : (c : ℕ) (ks : List ℕ) → list_fit l c ks ≡ true
  unfolding list_fit
  fit_list c ks = and_intro fit_base (unless _ (λ a. unless (not (is_list ks)) (λ b. unless (not (all_below (counts_of l).bearings ks)) (λ e. list_parts_law (counts_of l) l F.parts c ks (leb-false _ _ a) (not-false _ e)))))

-- ---- what a call may use

-- the length, counts in range, and homes that are depots
pub record Based (l : List ℕ) : Type 0 where
  pub full : length l ≡ book_words
  pub within : Within (counts_of l)
  pub homes : (c : ℕ) → c < (counts_of l).crews → home l c < (counts_of l).depots

pub base_open : (l : List ℕ) → base_fit l ≡ true → Based l
unfolding base_fit homes_fit home_fit
base_open l h =
    let a = and_right (eqb (length l) book_words) _ h in
    record {
      full = eqb-true _ _ (and_left (eqb (length l) book_words) _ h);
      within = counts_within (counts_of l) (and_left (counts_fit (counts_of l)) _ a);
      homes = λ c k. ltb-true _ _ (every_at (counts_of l).crews _ (and_right (counts_fit (counts_of l)) _ a) c k);
    }

-- with every number in range, a call is fit exactly if its parts are
pub tick_named : (l : List ℕ) (d s : ℕ) → base_fit l ≡ true → d < (counts_of l).depots → s < (counts_of l).shelves → tick_fit l d s ≡ tick_parts (counts_of l) l d s
unfolding tick_fit
tick_named l d s f a b = and_next _ f ∙ or_next _ (lt-leb _ _ a) ∙ or_next _ (lt-leb _ _ b)

pub take_named :
    (l : List ℕ) (d s from : ℕ) → base_fit l ≡ true → d < (counts_of l).depots → from < (counts_of l).depots → s < (counts_of l).shelves →
    take_fit l d s from ≡ eqb d from || take_parts (counts_of l) l d s from
unfolding take_fit
take_named l d s from f a c b = and_next _ f ∙ or_next _ (lt-leb _ _ a) ∙ or_next _ (lt-leb _ _ c) ∙ or_next _ (lt-leb _ _ b)

pub refresh_named : (l : List ℕ) (d s : ℕ) → base_fit l ≡ true → d < (counts_of l).depots → s < (counts_of l).shelves → refresh_fit l d s ≡ refresh_parts (counts_of l) l d s
unfolding refresh_fit
refresh_named l d s f a b = and_next _ f ∙ or_next _ (lt-leb _ _ a) ∙ or_next _ (lt-leb _ _ b)

pub read_named : (l : List ℕ) (c k : ℕ) → base_fit l ≡ true → c < (counts_of l).crews → k < (counts_of l).bearings → read_fit l c k ≡ read_parts (counts_of l) l c k
unfolding read_fit
read_named l c k f a b = and_next _ f ∙ or_next _ (lt-leb _ _ a) ∙ or_next _ (lt-leb _ _ b)

pub write_named : (l : List ℕ) (c k : ℕ) → base_fit l ≡ true → c < (counts_of l).crews → k < (counts_of l).bearings → write_fit l c k ≡ write_parts (counts_of l) l c k
unfolding write_fit
write_named l c k f a b = and_next _ f ∙ or_next _ (lt-leb _ _ a) ∙ or_next _ (lt-leb _ _ b)

pub move_named : (l : List ℕ) (c d : ℕ) → base_fit l ≡ true → c < (counts_of l).crews → d < (counts_of l).depots → move_fit l c d ≡ move_parts (counts_of l) l c d
unfolding move_fit
move_named l c d f a b = and_next _ f ∙ or_next _ (lt-leb _ _ a) ∙ or_next _ (lt-leb _ _ b)

pub list_named :
    (l : List ℕ) (c : ℕ) (ks : List ℕ) → base_fit l ≡ true → c < (counts_of l).crews → is_list ks ≡ true → all_below (counts_of l).bearings ks ≡ true →
    list_fit l c ks ≡ list_parts (counts_of l) l c ks
unfolding list_fit
list_named l c ks f a b k = and_next _ f ∙ or_next _ (lt-leb _ _ a) ∙ or_next _ (ap not b) ∙ or_next _ (ap not k)

-- and the length, the counts and the homes are always among them
pub tick_based : (l : List ℕ) (d s : ℕ) → tick_fit l d s ≡ true → base_fit l ≡ true
unfolding tick_fit
tick_based l d s h = and_left (base_fit l) _ h

pub take_based : (l : List ℕ) (d s from : ℕ) → take_fit l d s from ≡ true → base_fit l ≡ true
unfolding take_fit
take_based l d s from h = and_left (base_fit l) _ h

pub refresh_based : (l : List ℕ) (d s : ℕ) → refresh_fit l d s ≡ true → base_fit l ≡ true
unfolding refresh_fit
refresh_based l d s h = and_left (base_fit l) _ h

pub read_based : (l : List ℕ) (c k : ℕ) → read_fit l c k ≡ true → base_fit l ≡ true
unfolding read_fit
read_based l c k h = and_left (base_fit l) _ h

pub write_based : (l : List ℕ) (c k : ℕ) → write_fit l c k ≡ true → base_fit l ≡ true
unfolding write_fit
write_based l c k h = and_left (base_fit l) _ h

pub move_based : (l : List ℕ) (c d : ℕ) → move_fit l c d ≡ true → base_fit l ≡ true
unfolding move_fit
move_based l c d h = and_left (base_fit l) _ h

pub list_based : (l : List ℕ) (c : ℕ) (ks : List ℕ) → list_fit l c ks ≡ true → base_fit l ≡ true
unfolding list_fit
list_based l c ks h = and_left (base_fit l) _ h

-- ---- the code

-- what arrives on a link, by the two numbers of its head
pub arrival_heads :
    (n : Counts) (l : List ℕ) (d s from : ℕ) {q h t : ℕ} → q ≡ link_of s from d → h ≡ held l q → t ≡ taken l q →
    arrival_fit n l d s from
    ≡ leb h link_room && (leb t h && (messages_fit n l s from q t h && every t (λ i. stored_fit n l d (bearing_of (record_of (slot l q i))))))
unfolding arrival_fit places_fit
arrival_heads n l d s from {q} {h} {t} e p r =
    ap (λ (x : ℕ). link_fit n l s from x && every (taken l x) (λ i. stored_fit n l d (bearing_of (record_of (slot l x i))))) (sym e)
    ∙ ap₂ (λ (b : Bool) (x : ℕ). b && every x (λ i. stored_fit n l d (bearing_of (record_of (slot l q i))))) (link_heads n l s from q p r) (sym r)
    ∙ and_flat (leb h link_room) _ _
    ∙ ap (λ (b : Bool). leb h link_room && b) (and_flat (leb t h) _ _)

-- of a link that holds none, none arrives
pub none_arrive : (p : ℕ → Bool) {h t : ℕ} → h ≡ 0 → t ≤ h → every t p ≡ true
unfolding every
none_arrive p {h} {t} e k = let z : t ≡ 0 = omega arith in subst (λ (x : ℕ). every x p ≡ true) (sym z) refl

-- what a take judges of the link, by the two numbers of its head
pub take_heads :
    (n : Counts) (l : List ℕ) (d s from : ℕ) {q h t : ℕ} → q ≡ link_of s from d → h ≡ held l q → t ≡ taken l q →
    waiting_fit n l s from (link_of s from d) ≡ leb h link_room && (leb t h && every (h - t) (λ i. message_fit n s from (slot l q (t + i))))
unfolding waiting_fit head_fit
take_heads n l d s from {q} {h} {t} e p r =
    ap (waiting_fit n l s from) (sym e)
    ∙ ap₂ (λ (x y : ℕ). leb x link_room && leb y x && every (x - y) (λ i. message_fit n s from (slot l q (y + i)))) (sym p) (sym r)
    ∙ and_flat (leb h link_room) _ _
