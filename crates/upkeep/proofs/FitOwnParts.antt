-- What a change keeps, as the tests have it: each part by itself, and the parts that a call names. Of those only the stored versions that raise and
-- show may replace are named by the book itself, by its taken copies: there no new copy may be taken.
-- Assumes nothing.
use Prim.Native.Nat.{ℕ, ◌+◌, ◌-◌, ◌%◌, ◌<◌}
use native.Mathlib.Nat.{zero-add}
use native.Mathlib.Omega.{arith}
use mathlib.Core.Path.{◌≡◌, refl, sym, ◌∙◌, ap, subst}
use mathlib.Core.List.{List}
use mathlib.Core.Bool.{Bool, true, false, ◌&&◌, ◌||◌}
use lib.Dec.{leb, ltb, eqb}
use lib.ListN.{length}
use borrow.Author.Tests.{leb-true, le-leb, eqb-true, eq-eqb, eqb-false}
use Rattle.loops.specs.Loops.{every}
use Rattle.order.specs.Record.{bearing_of}
use Rattle.loops.proofs.BoolLaws.{and_left, and_right, and_intro}
use Rattle.loops.proofs.LoopLaws.{every_at, every_intro}
use Rattle.order.proofs.VectorLaws.{covered_at_law, covered_intro}
use Rattle.book.specs.declared.parts.Counts.{Counts}
use Rattle.book.specs.Layout.{book_words, end, counts_of, home, stable, seen, link_of, held, taken, slot, record_of}
use Rattle.fit.specs.Fit.{counts_fit, home_fit, in_range, others_in_range, crew_fit, clock_fit, stable_fit, seen_fit, head_fit, link_fit, stored_fit, homes_fit, Within}
use Rattle.named.specs.Named.{heads_out_fit, waiting_fit, places_fit, arrival_fit, show_fit, tick_parts, take_parts, refresh_parts, home_parts, read_parts, write_parts, base_fit}
use Rattle.messages.proofs.MessageLaws.{link_bearings}
use Rattle.named.proofs.NamedLaws.{base_open}
use Rattle.shelf.proofs.AllLaws.{AllOf, all_slots, all_slots_at}
use Rattle.shelf.proofs.ShowLaws.{taken_slots, untaken_slots}
use Rattle.register.proofs.FitParts.{IsMessage, link_open, link_close}
use Rattle.register.proofs.FitReady.{shelf_in}
use Rattle.upkeep.specs.Own.{Part, the_length, the_counts, a_home, a_crew, a_clock, a_stable, a_stamp, a_head, a_waiting, a_link, a_stored, Named, fit_part}
use Rattle.upkeep.proofs.FitFrame.{StableOk, HeadOk, WaitingOk, waiting_kept, link_kept, Keeps, counts_same}
use Rattle.upkeep.proofs.FitSettled.{Settles}
use Rattle.upkeep.proofs.FitKept.{crew_open, waiting_open}

-- ---- a test that passes on, place by place

pub and_on : (a b : Bool) {c e : Bool} → (a ≡ true → c ≡ true) → (b ≡ true → e ≡ true) → a && b ≡ true → c && e ≡ true
and_on a b f g h = and_intro (f (and_left a b h)) (g (and_right a b h))

pub or_on : (a b : Bool) {c : Bool} → (a ≡ false → b ≡ true → c ≡ true) → a || b ≡ true → a || c ≡ true
or_on true b f h = refl
or_on false b f h = f refl h

pub every_on : (n : ℕ) (p q : ℕ → Bool) → ((i : ℕ) → i < n → p i ≡ true → q i ≡ true) → every n p ≡ true → every n q ≡ true
every_on n p q f h = every_intro n q λ i k. f i k (every_at n p h i k)

-- ---- the tests as statements, and back

pub stable_open : (n : Counts) (l : List ℕ) (d s : ℕ) → stable_fit n l d s ≡ true → StableOk n l d s
unfolding stable_fit others_in_range
stable_open n l d s h =
    record {
      own = eqb-true _ _ (and_left (eqb (stable l d s d) 0) _ h);
      others = covered_at_law n.depots d _ _ (and_right (eqb (stable l d s d) 0) _ h);
    }

pub stable_close : (n : Counts) (l : List ℕ) (d s : ℕ) → StableOk n l d s → stable_fit n l d s ≡ true
unfolding stable_fit others_in_range
stable_close n l d s h = and_intro (eq-eqb _ _ h.own) (covered_intro n.depots d _ _ h.others)

pub head_open : (l : List ℕ) (q : ℕ) → head_fit l q ≡ true → HeadOk l q
unfolding head_fit
head_open l q h = record { room = leb-true _ _ (and_left (leb (held l q) 16) _ h); first = leb-true _ _ (and_right (leb (held l q) 16) _ h) }

pub head_close : (l : List ℕ) (q : ℕ) → HeadOk l q → head_fit l q ≡ true
unfolding head_fit
head_close l q h = and_intro (le-leb _ _ h.room) (le-leb _ _ h.first)

pub waiting_close : (n : Counts) (l : List ℕ) (s from q : ℕ) → WaitingOk n l s from q → waiting_fit n l s from q ≡ true
unfolding waiting_fit untaken_slots
waiting_close n l s from q h =
    and_intro (head_close l q (record { room = h.room; first = h.first }))
    (every_intro (held l q - taken l q) _ (all_slots_at (IsMessage n s from) l q (taken l q) (held l q - taken l q) h.messages))

-- ---- each part by itself

module _ (n : Counts) (l m : List ℕ) (W : Within n) (K : Keeps n l m) where
  pub keeps_part : (p : Part) → Named n p → fit_part n l p ≡ true → fit_part n m p ≡ true
  unfolding fit_part home_fit crew_fit in_range clock_fit stored_fit
  keeps_part the_length k h = ap (λ (x : ℕ). eqb x book_words) K.size ∙ h
  keeps_part the_counts k h = h
  keeps_part (a_home c) k h = let a = W.crews in ap (λ (x : ℕ). ltb x n.depots) (K.low (4 + c) (omega arith)) ∙ h
  keeps_part (a_crew c) k h = every_intro n.depots _ λ x z. le-leb _ _ (K.crews c k (crew_open n l c h) x z)
  keeps_part (a_clock d s) k h = le-leb _ _ (K.clocks d s k.0 k.1 (leb-true _ _ h))
  keeps_part (a_stable d s) k h = stable_close n m d s (K.stables d s k.0 k.1 (stable_open n l d s h))
  keeps_part (a_stamp d s from) k h = le-leb _ _ (K.stamps d s from k.0 k.1 k.2 (leb-true _ _ h))
  keeps_part (a_head s from to) k h = head_close m _ ((K.links s from to k.0 k.1 k.2 k.3).head (head_open l _ h))
  keeps_part (a_waiting s from to) k h =
      waiting_close n m s from _ (waiting_kept n l m s from _ (K.links s from to k.0 k.1 k.2 k.3) (waiting_open n l s from _ h))
  keeps_part (a_link s from to) k h =
      link_close n m s from _ (link_kept n l m s from _ (K.links s from to k.0 k.1 k.2 k.3) (link_open n l s from _ h))
  keeps_part (a_stored d k) r h = K.stores d k r.0 r.1 h

  -- ---- the parts that a call names

  pub home_stays : (c : ℕ) → c < n.crews → home m c ≡ home l c
  home_stays c k = let a = W.crews in K.low (4 + c) (omega arith)

  homes_kept : homes_fit n l ≡ true → homes_fit n m ≡ true
  unfolding homes_fit fit_part
  homes_kept = every_on n.crews _ _ λ c k. keeps_part (a_home c) k

  pub tick_kept : (d s : ℕ) → d < n.depots → s < n.shelves → tick_parts n l d s ≡ true → tick_parts n m d s ≡ true
  unfolding tick_parts heads_out_fit fit_part
  tick_kept d s hd hs =
      and_on (clock_fit l d s) _ (keeps_part (a_clock d s) (hd, hs))
      (every_on n.depots _ _ λ to k. or_on (eqb to d) _ λ f. keeps_part (a_head s d to) (hs, hd, k, λ e. eqb-false to d f (sym e)))

  pub take_kept :
      (d s from : ℕ) → d < n.depots → s < n.shelves → from < n.depots → (d ≡ from → ⊥) → take_parts n l d s from ≡ true → take_parts n m d s from ≡ true
  unfolding take_parts fit_part
  take_kept d s from hd hs hf apart =
      and_on (leb (seen l d s from) end) _ (keeps_part (a_stamp d s from) (hd, hs, hf, λ e. apart (sym e)))
      (keeps_part (a_waiting s from d) (hs, hf, hd, λ e. apart (sym e)))

  pub seens_kept : (d : ℕ) → d < n.depots → every n.shelves (seen_fit n l d) ≡ true → every n.shelves (seen_fit n m d) ≡ true
  unfolding seen_fit others_in_range
  seens_kept d hd =
      every_on n.shelves _ _ λ s hs h. covered_intro n.depots d _ _ λ x k f. K.stamps d s x hd hs k (covered_at_law n.depots d _ _ h x k f)

pub base_kept : (l m : List ℕ) → Keeps (counts_of l) l m → base_fit l ≡ true → base_fit m ≡ true
unfolding base_fit fit_part
base_kept l m K h =
    let W = (base_open l h).within in
    subst (λ (n : Counts). eqb (length m) book_words && (counts_fit n && homes_fit n m) ≡ true) (sym (counts_same l m (λ j k. K.low j (omega arith))))
    (and_on (eqb (length l) book_words) _ (keeps_part (counts_of l) l m W K the_length tt)
    (and_on (counts_fit (counts_of l)) _ (λ e. e) (homes_kept (counts_of l) l m W K)) h)

-- ---- raise and show

module _ (n : Counts) (l m : List ℕ) (W : Within n) (d s : ℕ) (hd : d < n.depots) (hs : s < n.shelves) (S : Settles n l m d s) where
  -- what is said of a taken copy: it is of a bearing, whose stored version is fit
  Places : List ℕ → Type 0
  Places v = (bearing_of (record_of v) < n.bearings) × (stored_fit n l d (bearing_of (record_of v)) ≡ true)

  places_kept :
      (from : ℕ) → from < n.depots → (from ≡ d → ⊥) → link_fit n l s from (link_of s from d) ≡ true → places_fit n l d (link_of s from d) ≡ true →
      places_fit n m d (link_of s from d) ≡ true
  unfolding places_fit taken_slots Places fit_part
  places_kept from k f q h =
      every_intro (taken m (link_of s from d)) _ λ i z.
      let p =
      subst (λ (j : ℕ). Places (slot m (link_of s from d) j)) (zero-add i) (all_slots_at Places m (link_of s from d) 0 (taken m (link_of s from d)) now i z) in
      keeps_part n l m W S.keeps (a_stored d _) (hd, p.0) p.1
    where
      now : AllOf Places (taken_slots m (link_of s from d))
      now =
          S.fewer Places from k f
          (all_slots Places l (link_of s from d) 0 (taken l (link_of s from d)) λ i z.
          subst (λ (j : ℕ). Places (slot l (link_of s from d) j)) (sym (zero-add i))
          (link_bearings n l s from (link_of s from d) q i z, every_at (taken l (link_of s from d)) _ h i z))

  pub show_kept : show_fit n l d s ≡ true → show_fit n m d s ≡ true
  unfolding show_fit arrival_fit fit_part
  show_kept =
      and_on (stable_fit n l d s) _ (keeps_part n l m W S.keeps (a_stable d s) (hd, hs))
      (every_on n.depots _ _ λ from k. or_on (eqb from d) _ λ f h.
      let q = and_left (link_fit n l s from (link_of s from d)) _ h in
      and_intro (keeps_part n l m W S.keeps (a_link s from d) (hs, k, hd, eqb-false from d f) q)
      (places_kept from k (eqb-false from d f) q (and_right (link_fit n l s from (link_of s from d)) _ h)))

  pub refresh_kept : refresh_parts n l d s ≡ true → refresh_parts n m d s ≡ true
  unfolding refresh_parts
  refresh_kept = and_on (every n.shelves (seen_fit n l d)) _ (seens_kept n l m W S.keeps d hd) show_kept

-- crew c and bearing k at the crew's home
module _ (n : Counts) (l m : List ℕ) (W : Within n) (c k : ℕ) (hc : c < n.crews) (hk : k < n.bearings) (hd : home l c < n.depots)
    (S : Settles n l m (home l c) (k % n.shelves)) where
  pub read_kept : read_parts n l c k ≡ true → read_parts n m c k ≡ true
  unfolding read_parts home_parts fit_part
  read_kept h =
      subst (λ (d : ℕ). home_parts n m c k d (k % n.shelves) ≡ true) (sym (home_stays n l m W S.keeps c hc))
      (and_on (crew_fit n l c) _ (keeps_part n l m W S.keeps (a_crew c) hc)
      (and_on (stored_fit n l (home l c) k) _ (keeps_part n l m W S.keeps (a_stored (home l c) k) (hd, hk))
      (show_kept n l m W (home l c) (k % n.shelves) hd (shelf_in n W k) S)) h)

  pub write_kept : write_parts n l c k ≡ true → write_parts n m c k ≡ true
  unfolding write_parts
  write_kept =
      and_on (read_parts n l c k) _ read_kept λ h.
      subst (λ (d : ℕ). tick_parts n m d (k % n.shelves) ≡ true) (sym (home_stays n l m W S.keeps c hc))
      (tick_kept n l m W S.keeps (home l c) (k % n.shelves) hd (shelf_in n W k) h)
