-- A fit book whose view is a state: what each part of the state is in the book's words.
-- Assumes nothing.
use Prim.Native.Nat.{ℕ, suc, ◌%◌, ◌<◌}
use native.Mathlib.Nat.{mod-lt}
use mathlib.Core.Path.{◌≡◌, refl, sym, ◌∙◌, ap, ap₂, subst}
use mathlib.Core.Bool.{true}
use mathlib.Core.List.{List}
use borrow.Author.Tests.{lt-ltb, eq-eqb}
use Rattle.order.specs.Vector.{Vec}
use Rattle.loops.proofs.BoolLaws.{and_intro, pick_true}
use Rattle.book.specs.Layout.{home, crew_vector, clock, stable, seen, link_of, held, stored}
use Rattle.fit.specs.Fit.{fit}
use Rattle.register.specs.Table.{list_number}
use Rattle.register.specs.Calls.{read_record, made_record, page_book}
use Rattle.register.proofs.ListTable.{list_done}
use Rattle.paper.specs.declared.answer.Payload.{Payload}
use Rattle.model.specs.Parts.{Counts, Write, Message, Shelf, State, put}
use Rattle.model.specs.Rules.{settled, holds, copies}
use Rattle.model.specs.Calls.{made, answered, on_page, home_shelf, shelf_of}
use Rattle.model.proofs.Places.{Other, other_intro}
use Rattle.bridge.specs.View.{counts_in, entries_at, version_of, write_of, taken_on, untaken_on, store_at, shelf_at, view_by, view}
use Rattle.bridge.proofs.Sound.{Sound, sound}
use Rattle.bridge.proofs.Looks.{shelf_here, crew_here, home_here, holds_here, taken_here, untaken_here}
use Rattle.bridge.proofs.Numbers.{home_clock}
use Rattle.bridge.proofs.HomeView.{home_stored}
use Rattle.bridge.proofs.MadeView.{new_vector, made_write}
use Rattle.bridge.proofs.ListCall.{on_page_here}

pub record Agrees (π : Counts) (σ : State) (l : List ℕ) : Type 0 where
  pub fits : fit l ≡ true
  pub counts : counts_in l ≡ π
  pub views : view l ≡ σ

-- ---- the version that a write makes and that a read answers, at the book's own counts

module _ (l : List ℕ) (F : fit l ≡ true) (c k : ℕ) (kc : c < (counts_in l).crews) where
  at_home : (view l).home c ≡ home l c
  unfolding view
  at_home = home_here (counts_in l) l c kc

  made_here : (payload : Payload) → version_of (counts_in l).depots (made_record l c k payload) ≡ made (counts_in l) c k payload (view l)
  unfolding made shelf_of new_vector write_of
  made_here payload =
      ap (λ (w : Write). w.version) (made_write l F c k payload kc)
      ∙ sym (ap₂ (λ (d t : ℕ). record { payload = payload; origin = d; vector = put d (suc t) ((view l).crew c) }) at_home (home_clock l F c k kc))

  answered_here : k < (counts_in l).bearings → version_of (counts_in l).depots (read_record l c k) ≡ answered (counts_in l) c k (view l)
  unfolding answered home_shelf shelf_of read_record
  answered_here kk =
      sym (home_stored l F c k kc kk)
      ∙ sym (ap (λ (d : ℕ). (settled (counts_in l).depots d ((view l).crew c) ((view l).shelf d (k % (counts_in l).shelves))).store k) at_home)

-- ---- each part of the state

module _ (π : Counts) (σ : State) (l : List ℕ) (A : Agrees π σ l) where
  pub views_by : view_by π l ≡ σ
  unfolding view
  views_by = sym (ap (λ (p : Counts). view_by p l) A.counts) ∙ A.views

  pub sound_by : Sound π l
  sound_by = subst (λ (p : Counts). Sound p l) A.counts (sound l A.fits)

  pub shelf_by : (d s : ℕ) → d < π.depots → s < π.shelves → σ.shelf d s ≡ shelf_at π l d s
  shelf_by d s kd ks = ap (λ (τ : State). τ.shelf d s) (sym views_by) ∙ shelf_here π l d s kd ks

  pub clock_by : (d s : ℕ) → d < π.depots → s < π.shelves → (σ.shelf d s).clock ≡ clock l d s
  unfolding shelf_at
  clock_by d s kd ks = ap (λ (h : Shelf). h.clock) (shelf_by d s kd ks)

  pub stable_by : (d s x : ℕ) → d < π.depots → s < π.shelves → x < π.depots → (σ.shelf d s).stable x ≡ stable l d s x
  unfolding shelf_at entries_at
  stable_by d s x kd ks kx = ap (λ (h : Shelf). h.stable x) (shelf_by d s kd ks) ∙ pick_true _ _ (lt-ltb x _ kx)

  pub seen_by : (d s x : ℕ) → d < π.depots → s < π.shelves → Other π.depots d x → (σ.shelf d s).seen x ≡ seen l d s x
  unfolding shelf_at
  seen_by d s x kd ks kx = ap (λ (h : Shelf). h.seen x) (shelf_by d s kd ks) ∙ pick_true _ _ (other_intro kx)

  pub held_by : (d s o : ℕ) → d < π.depots → s < π.shelves → Other π.depots d o → holds o (σ.shelf d s) ≡ held l (link_of s o d)
  held_by d s o kd ks ko =
      ap (holds o) (shelf_by d s kd ks) ∙ holds_here π l d s o ko (sound_by.links s o d ks ko.below kd ko.apart).order

  pub taken_by : (d s o : ℕ) → d < π.depots → s < π.shelves → Other π.depots d o → (σ.shelf d s).taken o ≡ taken_on π.depots l (link_of s o d)
  taken_by d s o kd ks ko = ap (λ (h : Shelf). h.taken o) (shelf_by d s kd ks) ∙ taken_here π l d s o ko

  pub coming_by : (d s o : ℕ) → d < π.depots → s < π.shelves → Other π.depots d o → copies ((σ.shelf d s).untaken o) ≡ copies (untaken_on π.depots l (link_of s o d))
  coming_by d s o kd ks ko = ap (λ (h : Shelf). copies (h.untaken o)) (shelf_by d s kd ks) ∙ ap (λ (m : List Message). copies m) (untaken_here π l d s o ko)

  pub on_shelf : (k : ℕ) → k % π.shelves < π.shelves
  on_shelf k = mod-lt k sound_by.small.shelf

  pub store_by : (d k : ℕ) → d < π.depots → k < π.bearings → (σ.shelf d (k % π.shelves)).store k ≡ version_of π.depots (stored l d k)
  unfolding shelf_at store_at
  store_by d k kd kk = ap (λ (h : Shelf). h.store k) (shelf_by d (k % π.shelves) kd (on_shelf k)) ∙ pick_true _ _ (and_intro (lt-ltb k _ kk) (eq-eqb (k % π.shelves) _ refl))

  pub crew_by : (c x : ℕ) → c < π.crews → x < π.depots → σ.crew c x ≡ crew_vector l c x
  unfolding entries_at
  crew_by c x kc kx = ap (λ (τ : State). τ.crew c x) (sym views_by) ∙ ap (λ (u : Vec). u x) (crew_here π l c kc) ∙ pick_true _ _ (lt-ltb x _ kx)

  pub home_by : (c : ℕ) → c < π.crews → σ.home c ≡ home l c
  home_by c kc = ap (λ (τ : State). τ.home c) (sym views_by) ∙ home_here π l c kc

  pub home_below_by : (c : ℕ) → c < π.crews → home l c < π.depots
  home_below_by c kc = sound_by.homes c kc

  pub made_by_law : (c k : ℕ) (payload : Payload) → c < π.crews → version_of π.depots (made_record l c k payload) ≡ made π c k payload σ
  made_by_law c k payload kc =
      ap (λ (p : Counts). version_of p.depots (made_record l c k payload)) (sym A.counts)
      ∙ made_here l A.fits c k (subst (λ (p : Counts). c < p.crews) (sym A.counts) kc) payload
      ∙ ap₂ (λ (p : Counts) (τ : State). made p c k payload τ) A.counts A.views

  pub answered_by : (c k : ℕ) → c < π.crews → k < π.bearings → version_of π.depots (read_record l c k) ≡ answered π c k σ
  answered_by c k kc kk =
      ap (λ (p : Counts). version_of p.depots (read_record l c k)) (sym A.counts)
      ∙ answered_here l A.fits c k (subst (λ (p : Counts). c < p.crews) (sym A.counts) kc) (subst (λ (p : Counts). k < p.bearings) (sym A.counts) kk)
      ∙ ap₂ (λ (p : Counts) (τ : State). answered p c k τ) A.counts A.views

  pub on_page_by : (c : ℕ) (ks : List ℕ) (k : ℕ) → list_number l c ks ≡ 0 → k < π.bearings → version_of π.depots (stored (page_book l c) (home l c) k) ≡ on_page π c k σ
  on_page_by c ks k z kk =
      ap (λ (p : Counts). version_of p.depots (stored (page_book l c) (home l c) k)) (sym A.counts)
      ∙ on_page_here l A.fits c ks (list_done l c ks z) k (subst (λ (p : Counts). k < p.bearings) (sym A.counts) kk)
      ∙ ap₂ (λ (p : Counts) (τ : State). on_page p c k τ) A.counts A.views
