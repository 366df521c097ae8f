-- What the view shows of a shelf, a crew and a link that are in use.
-- Assumes nothing.
use Prim.Native.Nat.{ℕ, zero, suc, ◌+◌, ◌-◌, ◌≤◌, ◌<◌}
use native.Mathlib.Omega.{arith}
use mathlib.Core.Path.{◌≡◌, refl, sym, ◌∙◌, ap, ap₂}
use mathlib.Core.Logic.{⊎_elim}
use mathlib.Core.Bool.{Bool, true, false, ◌||◌}
use mathlib.Core.List.{List}
use lib.Dec.{eqb, ltb, leb}
use lib.ListN.{length}
use borrow.Author.Tests.{lt-ltb, ltb-true, eqb-true, eqb-false, le-leb, lt-leb}
use Rattle.loops.proofs.BoolLaws.{and_intro, or_cases, pick_true, le_or_lt}
use Rattle.loops.proofs.LoopLaws.{every_at, every_same}
use Rattle.book.specs.Layout.{link_room, crew_at, link_of, home, held, taken}
use Rattle.links.specs.Send.{roomy}
use Rattle.model.specs.Parts.{Counts, Write, Message, room}
use Rattle.model.specs.Rules as rules
use Rattle.model.specs.Calls.{none}
use Rattle.model.proofs.Places.{Other, other_intro}
use Rattle.bridge.specs.View.{entries_at, listed, taken_on, untaken_on, shelf_at, view_by}
use Rattle.bridge.proofs.Basics.{length_listed, listed_cons}
use Rattle.bridge.proofs.Sound.{Sound}

module _ (π : Counts) (l : List ℕ) where
  pub shelf_here : (d s : ℕ) → d < π.depots → s < π.shelves → (view_by π l).shelf d s ≡ shelf_at π l d s
  unfolding view_by
  shelf_here d s kd ks = pick_true _ _ (and_intro (lt-ltb d _ kd) (lt-ltb s _ ks))

  pub crew_here : (c : ℕ) → c < π.crews → (view_by π l).crew c ≡ entries_at π.depots l (crew_at c)
  unfolding view_by
  crew_here c k = pick_true _ _ (lt-ltb c _ k)

  pub home_here : (c : ℕ) → c < π.crews → (view_by π l).home c ≡ home l c
  unfolding view_by
  home_here c k = pick_true _ _ (lt-ltb c _ k)

  pub taken_here : (d s o : ℕ) → Other π.depots d o → (shelf_at π l d s).taken o ≡ taken_on π.depots l (link_of s o d)
  unfolding shelf_at
  taken_here d s o k = pick_true _ _ (other_intro k)

  pub untaken_here : (d s o : ℕ) → Other π.depots d o → (shelf_at π l d s).untaken o ≡ untaken_on π.depots l (link_of s o d)
  unfolding shelf_at
  untaken_here d s o k = pick_true _ _ (other_intro k)

  -- how many messages hold room
  pub holds_here : (d s o : ℕ) → Other π.depots d o → taken l (link_of s o d) ≤ held l (link_of s o d) → rules.holds o (shelf_at π l d s) ≡ held l (link_of s o d)
  unfolding rules.holds taken_on untaken_on
  holds_here d s o k h =
      ap₂ (λ (a : List Write) (b : List Message). length a + length b) (taken_here d s o k) (untaken_here d s o k)
      ∙ ap₂ (λ (a b : ℕ). a + b) (length_listed (taken l (link_of s o d)) _) (length_listed (held l (link_of s o d) - taken l (link_of s o d)) _)
      ∙ omega arith

-- no untaken message
none_listed : (n : ℕ) (f : ℕ → Message) → none (listed n f) ≡ leb n 0
unfolding none listed
none_listed zero f = refl
none_listed (suc n) f = ap none (listed_cons n f) ∙ sym (lt-leb (suc n) 0 (omega arith))

pub none_here : (n : ℕ) (l : List ℕ) (q : ℕ) → none (untaken_on n l q) ≡ leb (held l q) (taken l q)
unfolding untaken_on
none_here n l q =
    none_listed (held l q - taken l q) _
    ∙ ⊎_elim
    (λ (e : held l q ≤ taken l q). le-leb (held l q - taken l q) 0 (omega arith) ∙ sym (le-leb (held l q) (taken l q) e))
    (λ (e : taken l q < held l q). lt-leb (held l q - taken l q) 0 (omega arith) ∙ sym (lt-leb (held l q) (taken l q) e))
    (le_or_lt (held l q) (taken l q))

or_same : (a : Bool) {b c : Bool} → (a ≡ false → b ≡ c) → a || b ≡ a || c
or_same true h = refl
or_same false h = h refl

-- every link out has room
pub roomy_here : (π : Counts) (l : List ℕ) (d s : ℕ) → Sound π l → d < π.depots → s < π.shelves → rules.roomy π d s (view_by π l) ≡ roomy π.depots d s l
unfolding rules.roomy roomy room
roomy_here π l d s S kd ks =
    every_same π.depots _ _ λ e ke. or_same (eqb e d) λ t.
    let apart = eqb-false e d t in
    ap (λ (h : ℕ). ltb h 16)
    (ap (rules.holds d) (shelf_here π l e s ke ks)
    ∙ holds_here π l e s d (record { below = kd; apart = λ q. apart (sym q) }) (S.links s d e ks kd ke (λ q. apart (sym q))).order)

-- and what that says of each
pub roomy_open : (n d s : ℕ) (l : List ℕ) → roomy n d s l ≡ true → (to : ℕ) → to < n → (to ≡ d → ⊥) → held l (link_of s d to) < 16
unfolding roomy
roomy_open n d s l h to k apart =
    ⊎_elim
    (λ (e : eqb to d ≡ true). absurd (apart (eqb-true to d e)))
    (λ (e : ltb (held l (link_of s d to)) link_room ≡ true). ltb-true _ _ e)
    (or_cases (eqb to d) _ (every_at n _ h to k))
