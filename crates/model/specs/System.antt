-- A system: something that answers calls one after another, and what the demands look at of it. The model is one; a book that was set up is another.
-- Assumes nothing.
use Rattle.std.specs.Prelude.{ℕ, ◌≡◌, ◌⊎◌}
use mathlib.Core.List.{List, [], ◌∷◌, Memᴰ}
use Rattle.order.specs.Vector.{Vec}
use Rattle.model.specs.Parts.{Counts, Version, Write, State, fresh}
use Rattle.model.specs.Rules.{copies, holds}
use Rattle.paper.specs.declared.answer.Payload.{Payload}
use Rattle.paper.specs.Calls.{Call, read, write, list, Answer}
use Rattle.model.specs.Calls.{shelf_of, made, answered, on_page, refusal, step}

pub record System : Type 1 where
  pub State : Type 0
  pub start : State
  -- a call asked at a state: its number, 0 is done; what it answers; the state that it leaves
  pub number : State → Call → ℕ
  pub answer : State → Call → Answer
  pub next : State → Call → State
  -- of a crew: its home, its vector
  pub home : State → ℕ → ℕ
  pub crew : State → ℕ → Vec
  -- of a depot and a shelf: the clock, the stable vector, the stamps seen, and how many messages hold room on the link from another depot
  pub clock : State → ℕ → ℕ → ℕ
  pub stable : State → ℕ → ℕ → Vec
  pub seen : State → ℕ → ℕ → Vec
  pub held : State → ℕ → ℕ → ℕ → ℕ
  -- and the copies on that link, oldest first: those taken and not yet shown, and those not yet taken
  pub taken : State → ℕ → ℕ → ℕ → List Write
  pub coming : State → ℕ → ℕ → ℕ → List Write
  -- of a depot and a bearing: the version that its shelf stores
  pub store : State → ℕ → ℕ → Version
  -- a call asked at a state is crew c's write w; it answers crew c, of bearing k, with the version v
  pub makes : State → Call → ℕ → Write → Type 0
  pub gets : State → Call → ℕ → ℕ → Version → Type 0

-- what a history of calls, newest first, leaves
unfoldable pub after : (S : System) → List Call → S.State
after S [] = S.start
after S (q ∷ h) = S.next (after S h) q

-- the model, freshly set up
abbrev pub of_model : Counts → List ℕ → System
of_model π homes = record {
  State = State;
  start = fresh homes;
  number = refusal π;
  answer = λ σ q. (step π σ q).answer;
  next = λ σ q. (step π σ q).state;
  home = λ σ. σ.home;
  crew = λ σ. σ.crew;
  clock = λ σ d s. (σ.shelf d s).clock;
  stable = λ σ d s. (σ.shelf d s).stable;
  seen = λ σ d s. (σ.shelf d s).seen;
  held = λ σ d s o. holds o (σ.shelf d s);
  taken = λ σ d s o. (σ.shelf d s).taken o;
  coming = λ σ d s o. copies ((σ.shelf d s).untaken o);
  store = λ σ d k. (σ.shelf d (shelf_of π k)).store k;
  makes = λ σ q c w. (p : Payload) × (q ≡ write c w.bearing p) × (w.version ≡ made π c w.bearing p σ);
  gets = λ σ q c k v. ((q ≡ read c k) × (v ≡ answered π c k σ)) ⊎ ((ks : List ℕ) × (q ≡ list c ks) × Memᴰ k ks × (v ≡ on_page π c k σ));
}

abbrev pub run : Counts → List ℕ → List Call → State
run π homes h = after (of_model π homes) h
