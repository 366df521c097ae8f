-- The steps of a write, put together to what it promises.
-- Assumes nothing.
use Prim.Native.Nat.{ℕ, ◌+◌, ◌-◌, ◌≤◌, ◌<◌}
use native.Mathlib.Nat.{lt_of_lt_of_le}
use mathlib.Core.Path.{◌≡◌, sym, ◌∙◌, ap, subst, subst₃}
use mathlib.Core.Logic.{◌⊎◌, inl, inr}
use mathlib.Core.List.{List, ◌∷◌}
use mathlib.Core.Bool.{Bool, true, false}
use lib.Dec.{eqb}
use lib.ListN.{length, get_or, set, take, drop}
use lib.Seq.{get_or-set_same, get_or-set_other}
use borrow.Author.Tests.{eq-eqb, ne_eqb}
use Rattle.std.specs.Prelude.{Some}
use Rattle.loops.specs.Loops.{pick}
use Rattle.order.specs.Vector.{Vec, vector_in}
use Rattle.order.specs.Order.{above}
use Rattle.order.specs.Record.{bearing_of, rank_of}
use Rattle.loops.proofs.BoolLaws.{eq_or_ne, pick_true, pick_false}
use Rattle.book.specs.Words.{put}
use Rattle.book.specs.Layout.{copy_kind, crew_at, stored_at, counts_of, home, crew_vector, stored}
use Rattle.book.proofs.WordsLaws.{part_from}
use Rattle.card.specs.declared.Card.{Card}
use Rattle.card.specs.Card.{card_answer}
use Rattle.card.proofs.Theorems.{words_back}
use Rattle.shelf.specs.Asks.{Ready, Free}
use Rattle.shelf.specs.Show.{kept_in, settled}
use Rattle.links.specs.Send.{sent, four_of}
use Rattle.register.specs.Answers.{cut, written}
use Rattle.paper.specs.declared.answer.Payload.{Payload}
use Rattle.paper.specs.Calls.{Answer}
use Rattle.register.specs.Checks.{MayWrite}
use Rattle.register.specs.Calls.{settled_home, new_stamp, with_entry, payload_from, made_vector, made_record, written_crew, is_current, write_book}
use Rattle.register.proofs.Numbers.{WriteDone, write_done}
use Rattle.named.proofs.NamedLaws.{Based}
use Rattle.register.proofs.FitReady.{based, ready, free}
use Rattle.register.proofs.HomeLaws.{cut_same, four_at}

-- ---- the card

-- a card made of two words has these words
pub payload_back : (p : Payload) (card : Card) → card_answer p.diameter p.width ≡ Some card → payload_from p.value card ≡ p
payload_back p card e = let w = words_back p.diameter p.width card e in λ i. record { value = p.value; diameter = w.0 i; width = w.1 i }

-- ---- the version

pub entry_set : (v : Vec) {w : List ℕ} (d stamp x : ℕ) → w ≡ four_of v → d < 4 → x < 4 → get_or (set w d stamp) x 0 ≡ with_entry d stamp v x
unfolding with_entry
entry_set v {w} d stamp x e hd hx = go (eq_or_ne x d)
  where
    go : (x ≡ d) ⊎ (x ≡ d → ⊥) → get_or (set w d stamp) x 0 ≡ pick (eqb x d) stamp (v x)
    go (inl q) =
        ap (λ (y : ℕ). get_or (set w d stamp) y 0) q
        ∙ get_or-set_same w d stamp 0 (subst (λ (m : List ℕ). d < length m) (sym e) hd)
        ∙ sym (pick_true _ _ (eq-eqb x d q))
    go (inr q) = get_or-set_other w d x stamp 0 q ∙ ap (λ (m : List ℕ). get_or m x 0) e ∙ four_at v x hx ∙ sym (pick_false _ _ (ne_eqb x d q))

pub cut_set : (n d stamp : ℕ) (v : Vec) {w : List ℕ} {own : ℕ} → n ≤ 4 → d < 4 → w ≡ four_of v → own ≡ d → cut n (vector_in (set w own stamp)) ≡ cut n (with_entry d stamp v)
cut_set n d stamp v {w} h hd e o =
    ap (λ (y : ℕ). cut n (vector_in (set w y stamp))) o ∙ cut_same n _ _ h λ x l. entry_set v d stamp x e hd (lt_of_lt_of_le l h)

-- ---- the store

module _ (n d k : ℕ) (l r : List ℕ) {to : ℕ} {b : Bool} (et : to ≡ stored_at d k) (eb : bearing_of r ≡ k) (q : b ≡ above n (rank_of r) (rank_of (take (to + 9 - to) (drop to l)))) where
  pub kept_said : b ≡ above n (rank_of r) (rank_of (stored l d k))
  kept_said = q ∙ ap (λ (w : List ℕ). above n (rank_of r) (rank_of w)) (part_from l 9 et)

  kept_bearing : above n (rank_of r) (rank_of (stored l d (bearing_of r))) ≡ b
  kept_bearing = ap (λ (x : ℕ). above n (rank_of r) (rank_of (stored l d x))) eb ∙ sym kept_said

  pub kept_greater : {m : List ℕ} → b ≡ true → m ≡ put l to r → m ≡ kept_in n d r l
  unfolding kept_in
  kept_greater t p = p ∙ ap (λ (x : ℕ). put l x r) (et ∙ ap (stored_at d) (sym eb)) ∙ sym (pick_true _ _ (kept_bearing ∙ t))

  pub kept_dropped : b ≡ false → l ≡ kept_in n d r l
  unfolding kept_in
  kept_dropped t = sym (pick_false _ _ (kept_bearing ∙ t))

-- ---- the whole write

module _ (l : List ℕ) (c k : ℕ) (payload : Payload) {n d s stamp : ℕ} (M : MayWrite l c k payload n d s stamp) where
  pub copy_made : {m : List ℕ} → m ≡ copy_kind ∷ k ∷ payload.value ∷ payload.diameter ∷ payload.width ∷ d ∷ cut n (with_entry d stamp (crew_vector l c)) → m ≡ copy_kind ∷ made_record l c k payload
  unfolding made_record made_vector with_entry
  copy_made p = p ∙ (λ z. copy_kind ∷ k ∷ payload.value ∷ payload.diameter ∷ payload.width ∷ M.depot z ∷ cut (M.depots z) (with_entry (M.depot z) (M.stamped z) (crew_vector l c)))

  pub record_made : {m : List ℕ} → m ≡ copy_kind ∷ made_record l c k payload → take (10 - 1) (drop 1 m) ≡ made_record l c k payload
  unfolding made_record cut
  record_made e = ap (λ (w : List ℕ). take (10 - 1) (drop 1 w)) e

  pub crew_made : {m : List ℕ} → m ≡ set (settled n d s (crew_vector l c) l) (crew_at c + d) stamp → m ≡ written_crew l c k
  unfolding written_crew settled_home
  crew_made p = p ∙ (λ z. set (settled (M.depots z) (M.depot z) (M.shelf z) (crew_vector l c) l) (crew_at c + M.depot z) (M.stamped z))

  module _ {r m₁ : List ℕ} (er : r ≡ made_record l c k payload) (em : m₁ ≡ written_crew l c k) where
    pub current_made : {b : Bool} → b ≡ above n (rank_of r) (rank_of (stored m₁ d k)) → b ≡ is_current l c k payload
    unfolding is_current
    current_made p = p ∙ (λ z. above (M.depots z) (rank_of (er z)) (rank_of (stored (em z) (M.depot z) k)))

    pub store_made : {m₂ : List ℕ} → m₂ ≡ kept_in n d r m₁ → m₂ ≡ kept_in (counts_of l).depots (home l c) (made_record l c k payload) (written_crew l c k)
    store_made p = p ∙ (λ z. kept_in (M.depots z) (M.depot z) (er z) (em z))

  pub sent_made :
      {m m₂ m₃ : List ℕ} → m ≡ copy_kind ∷ made_record l c k payload → m₂ ≡ kept_in (counts_of l).depots (home l c) (made_record l c k payload) (written_crew l c k) →
      m₃ ≡ sent n d s stamp m m₂ → m₃ ≡ write_book l c k payload
  unfolding write_book
  sent_made e e₂ p = p ∙ (λ z. sent (M.depots z) (M.depot z) (M.shelf z) (M.stamped z) (e z) (e₂ z))

  pub answer_made : {b : Bool} {a : Answer} → b ≡ is_current l c k payload → a ≡ written stamp b → a ≡ written (new_stamp l c k) (is_current l c k payload)
  answer_made e p = p ∙ (λ z. written (M.stamped z) (e z))

  -- what is known on the way
  pub may_done : WriteDone l c k payload
  may_done = write_done l c k payload M.passed

  pub may_based : Based l
  may_based = based l c k payload may_done

  pub may_ready : Ready n d s l
  may_ready = subst₃ (λ (x y z : ℕ). Ready x y z l) (sym M.depots) (sym M.depot) (sym M.shelf) (ready l c k payload may_done)

  pub may_free :
      {m₂ : List ℕ} → m₂ ≡ kept_in (counts_of l).depots (home l c) (made_record l c k payload) (written_crew l c k) → Free n d s m₂
  may_free e =
      subst (λ (w : List ℕ). Free n d s w) (sym e)
      (subst₃ (λ (x y z : ℕ). Free x y z (kept_in (counts_of l).depots (home l c) (made_record l c k payload) (written_crew l c k))) (sym M.depots) (sym M.depot) (sym M.shelf)
      (free l c k payload may_done))
