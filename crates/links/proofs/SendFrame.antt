-- What sending and taking leave alone: all but the clock, one slot and the head of each link out; all but the stamp seen and one link.
-- Assumes nothing.
use Prim.Native.Nat.{ℕ, ◌+◌, ◌*◌, ◌-◌, ◌≤◌, ◌<◌}
use native.Mathlib.Nat.{le_refl, le_step}
use native.Mathlib.Omega.{arith}
use mathlib.Core.Path.{◌≡◌, refl, sym, ◌∙◌, subst}
use mathlib.Core.List.{List}
use lib.Dec.{eqb}
use lib.ListN.{length, get_or, set, length-set}
use lib.Seq.{get_or-set_other}
use borrow.Author.Tests.{eqb-false}
use Rattle.loops.specs.Loops.{times}
use Rattle.book.specs.Words.{put}
use Rattle.book.specs.Layout.{clock_at, seen_at, slot_at, held_at, taken_at, link_of, held, taken}
use Rattle.book.proofs.WordsLaws.{length_put}
pub use Rattle.shelf.specs.Asks.{Free}
use Rattle.shelf.specs.Show.{closed_up}
use Rattle.links.specs.Send.{sent_to, sent, moved_on, took}
use Rattle.shelf.proofs.FrameLaws.{Off, pick_cases, times_grows, put_off, length_closed_up, closed_up_off}

-- ---- one link

module _ (d s : ℕ) (m : List ℕ) (to : ℕ) (l : List ℕ) where
  pub length_sent_to : length (sent_to d s m to l) ≡ length l
  unfolding sent_to
  length_sent_to = pick_cases (λ (v : List ℕ). length v ≡ length l) _ _ _ (λ e. refl) λ e. length-set (put l _ m) _ _ ∙ length_put l _ m

  pub sent_to_off :
      (j : ℕ) → length m ≤ 10 → ((to ≡ d → ⊥) → Off (slot_at (link_of s d to) (held l (link_of s d to))) 10 j) → ((to ≡ d → ⊥) → j ≡ held_at (link_of s d to) → ⊥) →
      get_or (sent_to d s m to l) j 0 ≡ get_or l j 0
  unfolding sent_to
  sent_to_off j short slots head =
      pick_cases (λ (v : List ℕ). get_or v j 0 ≡ get_or l j 0) (eqb to d) _ _ (λ e. refl) λ e.
      get_or-set_other (put l _ m) _ j _ 0 (head (eqb-false to d e)) ∙ put_off l _ m 10 j short (slots (eqb-false to d e))

-- ---- every link out

-- word j lies outside the next free slot and the count of each of the first i depots' links from shelf s of depot d
abbrev pub OffOut : ℕ → ℕ → ℕ → List ℕ → ℕ → Type 0
OffOut i d s l j =
    (to : ℕ) → to < i → (to ≡ d → ⊥) → Off (slot_at (link_of s d to) (held l (link_of s d to))) 10 j × (j ≡ held_at (link_of s d to) → ⊥)

-- after i links of sending
pub record Sending (d s : ℕ) (l : List ℕ) (i : ℕ) (m : List ℕ) : Type 0 where
  pub size : length m ≡ length l
  pub same : (j : ℕ) → (j ≡ clock_at d s → ⊥) → OffOut i d s l j → get_or m j 0 ≡ get_or l j 0

-- the book in which the clock stands at the stamp and the message went on the first i links out
abbrev pub sent_up_to : ℕ → ℕ → ℕ → ℕ → List ℕ → List ℕ → List ℕ
sent_up_to i d s stamp m l = times i (sent_to d s m) (set l (clock_at d s) stamp)

module _ (n d s stamp : ℕ) (m l : List ℕ) where
  pub length_sent_up_to : (i : ℕ) → length (sent_up_to i d s stamp m l) ≡ length l
  length_sent_up_to i =
      times_grows (λ k (v : List ℕ). length v ≡ length l) i (sent_to d s m) _ (length-set l _ stamp) λ to v k e. length_sent_to d s m to v ∙ e

  pub length_sent : length (sent n d s stamp m l) ≡ length l
  unfolding sent
  length_sent = length_sent_up_to n

  module _ (short : length m ≤ 10) (h : Free n d s l) where
    -- a link whose turn has not come counts what it counted
    pub waiting_held : (i : ℕ) (v : List ℕ) → i ≤ n → Sending d s l i v → (to : ℕ) → i ≤ to → to < n → held v (link_of s d to) ≡ held l (link_of s d to)
    waiting_held i v k t to a b =
        let p = h.depots in
        let q = h.depot in
        let r = h.shelf in
        t.same (held_at (link_of s d to)) (omega arith) λ x y z. omega arith

    pub send_turns : (i : ℕ) → i ≤ n → Sending d s l i (sent_up_to i d s stamp m l)
    send_turns i k =
        times_grows (Sending d s l) i (sent_to d s m) _ (record { size = length-set l _ stamp; same = λ j c out. get_or-set_other l _ j stamp 0 c })
        λ to v z t.
        let e = waiting_held to v (omega arith) t to (le_refl _) (omega arith) in
        record {
          size = length_sent_to d s m to v ∙ t.size;
          same = λ j c out.
              sent_to_off d s m to v j short
              (λ f. subst (λ (a : ℕ). Off (slot_at (link_of s d to) a) 10 j) (sym e) (out to (le_refl _) f).0) (λ f. (out to (le_refl _) f).1)
              ∙ t.same j c (λ x y. out x (le_step y));
        }

    pub held_up_to : (i : ℕ) → i < n → held (sent_up_to i d s stamp m l) (link_of s d i) ≡ held l (link_of s d i)
    held_up_to i k = waiting_held i _ (omega arith) (send_turns i (omega arith)) i (le_refl _) k

    pub sent_off : (j : ℕ) → (j ≡ clock_at d s → ⊥) → OffOut n d s l j → get_or (sent n d s stamp m l) j 0 ≡ get_or l j 0
    unfolding sent
    sent_off j c out = (send_turns n (le_refl _)).same j c out

    -- the stored versions, the counts, homes and crews' vectors stay
    pub sent_low : (j : ℕ) → j < 84 → get_or (sent n d s stamp m l) j 0 ≡ get_or l j 0
    sent_low j low = sent_off j (omega arith) λ x y z. (omega arith, omega arith)

    pub sent_high : (j : ℕ) → 10596 ≤ j → get_or (sent n d s stamp m l) j 0 ≡ get_or l j 0
    sent_high j high =
        let p = h.depots in
        let q = h.depot in
        let r = h.shelf in
        sent_off j (omega arith) λ x y z. let f = h.room x y z in (omega arith, omega arith)

-- ---- taking

module _ (q h t : ℕ) (m l : List ℕ) where
  pub length_moved_on : length (moved_on q h t m l) ≡ length l
  unfolding moved_on
  length_moved_on =
      pick_cases (λ (v : List ℕ). length v ≡ length l) _ _ _ (λ e. length-set (closed_up q t 1 h l) _ _ ∙ length_closed_up q t 1 h l) λ e. length-set l _ _

  pub moved_on_off : (j : ℕ) → t < h → Off (slot_at q t) (10 * (h - t)) j → Off (held_at q) 2 j → get_or (moved_on q h t m l) j 0 ≡ get_or l j 0
  unfolding moved_on
  moved_on_off j k slots heads =
      pick_cases (λ (v : List ℕ). get_or v j 0 ≡ get_or l j 0) _ _ _
      (λ e. get_or-set_other (closed_up q t 1 h l) (held_at q) j (h - 1) 0 (λ x. heads (omega arith) (omega arith)) ∙ closed_up_off q t 1 h l j (omega arith) slots)
      λ e. get_or-set_other l (taken_at q) j (t + 1) 0 λ x. heads (omega arith) (omega arith)

module _ (d s from : ℕ) (l : List ℕ) where
  pub length_took : length (took d s from l) ≡ length l
  unfolding took
  length_took = length_moved_on _ _ _ _ (set l (seen_at d s + from) _) ∙ length-set l _ _

  pub took_off :
      (j : ℕ) → taken l (link_of s from d) < held l (link_of s from d) → (j ≡ seen_at d s + from → ⊥) →
      Off (slot_at (link_of s from d) (taken l (link_of s from d))) (10 * (held l (link_of s from d) - taken l (link_of s from d))) j → Off (held_at (link_of s from d)) 2 j →
      get_or (took d s from l) j 0 ≡ get_or l j 0
  unfolding took
  took_off j k seen slots heads = moved_on_off _ _ _ _ (set l (seen_at d s + from) _) j k slots heads ∙ get_or-set_other l _ j _ 0 seen

  -- the counts, the homes, the crews' vectors, the clocks and the stable vectors stay
  pub took_low : taken l (link_of s from d) < held l (link_of s from d) → (j : ℕ) → j < 164 → get_or (took d s from l) j 0 ≡ get_or l j 0
  took_low k j low = took_off j k (omega arith) (omega arith) (omega arith)
