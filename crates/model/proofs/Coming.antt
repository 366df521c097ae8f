-- What is to come on a link: a take of it that is done takes the oldest message, and every other call leaves what is to come as it is, or adds behind it.
-- Assumes nothing.
use Prim.Native.Nat.{ℕ, ◌≤◌}
use native.Mathlib.Omega.{arith}
use mathlib.Core.Path.{◌≡◌, refl, sym, subst, ap, ◌∙◌}
use mathlib.Core.Logic.{⊎_elim}
use mathlib.Core.Bool.{false}
use mathlib.Core.List.{List, [], ◌∷◌, ◌++◌, append-nil}
use lib.ListN.{length}
use Rattle.order.specs.Vector.{Vec}
use Rattle.loops.proofs.LoopLaws.{times_keeps}
use Rattle.loops.proofs.BoolLaws.{eq_or_ne, both_ways}
use Rattle.model.specs.Parts.{Counts, Write, Message, copy, heartbeat, Shelf, State, set_shelf, set_crew, set_home}
use Rattle.model.specs.Rules.{shown, settled, settle, storing, keep, ticked, receiving, send, held_of, copies, taking}
use Rattle.paper.specs.Calls.{Call, read, write, tick, take, refresh, move, list}
use Rattle.model.specs.Calls.{none, home_shelf, refusal, reading, paged, listing, acted}
use Rattle.model.specs.System.{run}
use Rattle.model.proofs.Places.{put_all, put_same, put_other, set_shelf_all, set_shelf_same, set_shelf_here, emit_all}
use Rattle.model.proofs.Refusals.{take_passed}
use Rattle.model.proofs.Histories.{run_done, run_refused}
use Rattle.model.proofs.Linked.{copies_both}

held_one : (m : Message) → length (held_of m) ≤ 1
unfolding held_of
held_one (copy w) = omega arith
held_one (heartbeat t) = omega arith

as_long : {x y : List Message} → y ≡ x → (l : List Message) × (y ≡ x ++ l)
as_long {x} e = ([], e ∙ sym (append-nil x))

module _ (π : Counts) (d s o : ℕ) where
  -- the messages to come on the link from depot o of shelf s of depot d
  abbrev line : State → List Message
  line σ = (σ.shelf d s).untaken o

  -- in τ they are those of σ, and more behind them
  abbrev Longer : State → State → Type 0
  Longer σ τ = (l : List Message) × (line τ ≡ line σ ++ l)

  settle_line : (e r : ℕ) (u : Vec) (σ : State) → line (settle π e r u σ) ≡ line σ
  unfolding settle settled shown
  settle_line e r u σ = set_shelf_same (λ g. g.untaken o) e r _ σ refl d s

  keep_line : (e r : ℕ) (w : Write) (σ : State) → line (keep π e r w σ) ≡ line σ
  unfolding keep storing
  keep_line e r w σ = set_shelf_same (λ g. g.untaken o) e r _ σ refl d s

  send_line : (e r : ℕ) (m : Message) (σ : State) → Longer σ (send π e r m σ)
  unfolding send receiving ticked
  send_line e r m σ =
      let t = emit_all π (λ x y g. (l : List Message) × (g.untaken o ≡ (mid.shelf x y).untaken o ++ l)) e r m mid
      (λ x a. put_all (λ p (y : List Message). (l : List Message) × (y ≡ (mid.shelf x r).untaken p ++ l)) e (m ∷ [], refl) (λ p apart. as_long refl) o)
      (λ x y apart. as_long refl) d s in
      (t.0, t.1 ∙ ap (λ x. x ++ t.0) (set_shelf_same (λ g. g.untaken o) e r _ σ refl d s))
    where
      mid : State
      mid = set_shelf e r (ticked (σ.shelf e r)) σ

  -- a take of another link
  elsewhere : (e r p : ℕ) (σ : State) → (take e r p ≡ take d s o → ⊥) → (l : List Message) → line (set_shelf e r (taking p l (σ.shelf e r)) σ) ≡ line σ
  unfolding taking
  elsewhere e r p σ n [] = set_shelf_same (λ g. g.untaken o) e r _ σ refl d s
  elsewhere e r p σ n (m ∷ l) = set_shelf_all (λ x y g. (take e r p ≡ take x y o → ⊥) → g.untaken o ≡ (σ.shelf x y).untaken o) e r _ σ
      (λ n. put_other p l (σ.shelf e r).untaken o (λ f. n (ap (take e r) (sym f)))) (λ x y apart n. refl) d s n

  acted_line : (σ : State) (q : Call) → (q ≡ take d s o → ⊥) → Longer σ (acted π σ q).state
  unfolding acted reading home_shelf settle set_crew set_home listing paged
  acted_line σ (read c k) n = as_long (settle_line _ _ _ σ)
  acted_line σ (write c k v) n =
      let t = send_line _ _ _ (keep π _ _ _ (set_crew c _ (settle π _ _ _ σ))) in
      (t.0, t.1 ∙ ap (λ x. x ++ t.0) (keep_line _ _ _ (set_crew c _ (settle π _ _ _ σ)) ∙ settle_line _ _ _ σ))
  acted_line σ (tick e r) n = send_line e r _ σ
  acted_line σ (take e r p) n = as_long (elsewhere e r p σ n ((σ.shelf e r).untaken p))
  acted_line σ (refresh e r) n = as_long (settle_line e r _ σ)
  acted_line σ (move c e) n = as_long refl
  acted_line σ (list c ks) n = as_long (times_keeps (λ τ. line τ ≡ line σ) π.shelves _ σ (λ i τ hi e. settle_line _ _ _ τ ∙ e) refl)

  took : (σ : State) → refusal π σ (take d s o) ≡ 0 → (m : Message) × (line σ ≡ m ∷ line (acted π σ (take d s o)).state)
  unfolding acted
  took σ e = go (line σ) refl
    where
      go : (l : List Message) → line σ ≡ l → (m : Message) × (line σ ≡ m ∷ line (set_shelf d s (taking o (line σ) (σ.shelf d s)) σ))
      go [] f = absurd (both_ways {b = none []} (unfold none in refl) (subst (λ l. none l ≡ false) f (take_passed π σ d s o e).some))
      go (m ∷ l) f = (
        m,
        f ∙ ap (λ x. m ∷ x) (sym (ap (λ (g : Shelf). g.untaken o) (set_shelf_here d s _ σ) ∙ ap (λ x. (taking o x (σ.shelf d s)).untaken o) f
            ∙ unfold taking in put_same o l _)),
      )

  module _ (homes : List ℕ) where
    -- the copies among them
    abbrev comes : List Call → List Write
    comes h = copies (line (run π homes h))

    pub comes_taken : (h : List Call) → refusal π (run π homes h) (take d s o) ≡ 0 → (l : List Write) × (length l ≤ 1) × (comes h ≡ l ++ comes (take d s o ∷ h))
    unfolding copies
    comes_taken h e =
        let t = took (run π homes h) e in
        (held_of t.0, held_one t.0, ap copies t.1 ∙ ap (λ σ. held_of t.0 ++ copies (line σ)) (sym (run_done π homes h _ e)))

    pub comes_on : (h : List Call) (q : Call) → (q ≡ take d s o → refusal π (run π homes h) q ≡ 0 → ⊥) → (l : List Write) × (comes (q ∷ h) ≡ comes h ++ l)
    comes_on h q n = ⊎_elim
        (λ (e : refusal π (run π homes h) q ≡ 0). let t = acted_line (run π homes h) q (λ f. n f e) in
        (copies t.0, ap (λ σ. copies (line σ)) (run_done π homes h q e) ∙ ap copies t.1 ∙ copies_both (line (run π homes h)) t.0))
        (λ (e : refusal π (run π homes h) q ≡ 0 → ⊥). ([], ap (λ σ. copies (line σ)) (run_refused π homes h q e) ∙ sym (append-nil (comes h))))
        (eq_or_ne (refusal π (run π homes h) q) 0)
