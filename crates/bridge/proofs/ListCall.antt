-- List: what the words do is what the model does. Every home shelf settled is the model's turn by turn; the crew's vector is the maximum with every answer.
-- Assumes nothing.
use Prim.Native.Nat.{ℕ, zero, suc, ◌+◌, ◌%◌, ◌≤◌, ◌<◌, max}
use native.Mathlib.Nat.{le_refl, mod-lt, zero-add}
use native.Mathlib.Omega.{arith}
use mathlib.Core.Path.{◌≡◌, refl, sym, ◌∙◌, ap, ap₂, fun_ext, subst}
use mathlib.Core.Logic.{inl, inr, ⊎_elim}
use mathlib.Core.Bool.{Bool, true, false, not}
use mathlib.Core.List.Memᴰ
use mathlib.Core.List.{List, [], ◌∷◌, map, Memᴰ}
use lib.Dec.{eqb, ltb, leb}
use lib.ListN.{length, get_or}
use borrow.Author.Tests.{lt-ltb, ltb-true, ltb-false, leb-false, eq-eqb}
use Rattle.loops.specs.Loops.{times, pick}
use Rattle.loops.proofs.BoolLaws.{decided, together, and_left, and_right, and_intro, pick_true, pick_false}
use Rattle.loops.proofs.LoopLaws.{times_keeps, times_same, every_at, every_intro}
use Rattle.order.specs.Vector.{Vec, vector_in, merged, merged_at}
use Rattle.order.specs.Record.{vector_of}
use Rattle.order.proofs.VectorLaws.{length_merged, merged_other, merged_entry}
use Rattle.book.specs.Layout.{crew_at, stored_at, counts_of, home, crew_vector, stable, stored}
use Rattle.fit.specs.Fit.{fit}
use Rattle.named.specs.Named.{is_list, all_below}
use Rattle.named.proofs.NamedLaws.{fit_list, below_at}
use Rattle.shelf.proofs.FrameLaws.{off_sides, part_off}
use Rattle.links.specs.Send.{four_of}
use Rattle.register.specs.Answers as answers
use Rattle.register.specs.Table as table
use Rattle.register.specs.Calls as words
use Rattle.register.specs.Promises.{after}
use Rattle.register.proofs.FitParts.{Whole, whole_open}
use Rattle.register.proofs.HomeLaws.{four_at}
use Rattle.register.proofs.ListTable.{ListDone, list_done}
use Rattle.register.proofs.PageReady.{page_turn}
use Rattle.upkeep.proofs.FitFrame.{keeps_whole, keeps_fit}
use Rattle.upkeep.proofs.FitSettled.{settled_settles}
use Rattle.upkeep.proofs.FitList.{offers, list_settles}
use Rattle.upkeep.proofs.LocalList.{map_alike}
use Rattle.model.specs.Parts.{Counts, Version, Shelf, State, set_crew}
use Rattle.model.specs.Rules.{settle}
use Rattle.paper.specs.Calls.{first, list, Told, Answer, listed, answer_by}
use Rattle.model.specs.Calls as calls
use Rattle.bridge.specs.View.{counts_in, entries_at, version_of, store_at, shelf_at, view_by, view}
use Rattle.bridge.specs.Bridged.{Bridged}
use Rattle.bridge.proofs.Basics.{pick_else}
use Rattle.bridge.proofs.Sound.{Sound, sound, sound_whole}
use Rattle.bridge.proofs.Looks.{shelf_here, crew_here, home_here}
use Rattle.bridge.proofs.Numbers.{fit_passes}
use Rattle.bridge.proofs.Decoded.{version_entry, version_beyond}
use Rattle.bridge.proofs.SettleView.{settled_view, settled_below}
use Rattle.bridge.proofs.CrewView.{crew_view, told_here}
use Rattle.bridge.proofs.HomeView.{crew_agrees}
use Rattle.bridge.proofs.Assembly.{counts_same, view_by_law, Does, bridged}

-- ---- the number

-- every bearing is below n, place by place and one after the other
below_each : (n : ℕ) (ks : List ℕ) → calls.all_below n ks ≡ true → (i : ℕ) → i < length ks → ltb (get_or ks i 0) n ≡ true
unfolding calls.all_below
below_each n [] h i l = absurd (omega arith)
below_each n (k ∷ ks) h zero l = and_left (ltb k n) _ h
below_each n (k ∷ ks) h (suc i) l = below_each n ks (and_right (ltb k n) _ h) i (omega arith)

each_below : (n : ℕ) (ks : List ℕ) → ((i : ℕ) → i < length ks → ltb (get_or ks i 0) n ≡ true) → calls.all_below n ks ≡ true
unfolding calls.all_below
each_below n [] h = refl
each_below n (k ∷ ks) h = and_intro (h 0 (omega arith)) (each_below n ks (λ i l. h (suc i) (omega arith)))

below_same : (n : ℕ) (ks : List ℕ) → all_below n ks ≡ calls.all_below n ks
unfolding all_below
below_same n ks = together _ _ (λ h. each_below n ks (every_at (length ks) _ h)) (λ h. every_intro (length ks) _ (below_each n ks h))

pub list_number_law : (l : List ℕ) → fit l ≡ true → (c : ℕ) (ks : List ℕ) → table.list_number l c ks ≡ calls.refusal (counts_in l) (view l) (list c ks)
unfolding table.list_number first calls.refusal is_list calls.within
list_number_law l F c ks =
    pick_false _ _ (fit_passes (fit_list l F c ks))
    ∙ ap (λ (b : Bool). pick (leb (counts_in l).crews c) 5 (pick (not (is_list ks)) 15 (pick (not b) 4 0))) (below_same (counts_in l).bearings ks)

-- so each that is listed is
pub listed_below : (n k : ℕ) (ks : List ℕ) → calls.all_below n ks ≡ true → Memᴰ k ks → k < n
unfolding calls.all_below
listed_below n k [] h m = absurd (Memᴰ.not-nil m)
listed_below n k (j ∷ ks) h m =
    ⊎_elim
    (λ (e : k ≡ j). subst (λ (i : ℕ). i < n) (sym e) (ltb-true j n (and_left (ltb j n) _ h)))
    (λ (t : Memᴰ k ks). listed_below n k ks (and_right (ltb j n) _ h) t)
    (Memᴰ.cases_cons m)

-- ---- maxima, one after the other

times_front : {A : Type 0} (n : ℕ) (g : ℕ → A → A) (a : A) → times (suc n) g a ≡ times n (λ i. g (suc i)) (g 0 a)
unfolding times
times_front zero g a = refl
times_front (suc n) g a = ap (g (suc n)) (times_front n g a)

-- what is gathered, entry by entry
gathered_at : (u : Vec) (f : ℕ → Vec) (ks : List ℕ) (x : ℕ) → calls.gathered u f ks x ≡ times (length ks) (λ i y. max y (f (get_or ks i 0) x)) (u x)
unfolding calls.gathered times merged
gathered_at u f [] x = refl
gathered_at u f (k ∷ ks) x =
    gathered_at (merged u (f k)) f ks x
    ∙ sym (times_front (length ks) (λ i y. max y (f (get_or (k ∷ ks) i 0) x)) (u x))

module _ (l : List ℕ) (F : fit l ≡ true) (c : ℕ) (ks : List ℕ) (o : ListDone l c ks) where
  abbrev π : Counts
  π = counts_in l

  abbrev d : ℕ
  d = home l c

  S : Sound (counts_in l) l
  S = sound l F

  kd : home l c < (counts_in l).depots
  kd = S.homes c o.crew

  at_home : (view l).home c ≡ home l c
  unfolding view
  at_home = home_here (counts_in l) l c o.crew

  -- ---- what is offered

  stable_here : (s x : ℕ) → s < (counts_in l).shelves → x < (counts_in l).depots → ((view l).shelf (home l c) s).stable x ≡ stable l (home l c) s x
  unfolding view shelf_at entries_at
  stable_here s x ks kx = ap (λ (h : Shelf). h.stable x) (shelf_here (counts_in l) l (home l c) s kd ks) ∙ pick_true _ _ (lt-ltb x _ kx)

  -- the model's vector, with the home depot e
  model_vector : ℕ → Vec
  model_vector e = times (counts_in l).shelves (λ s u. merged u ((view l).shelf e s).stable) ((view l).crew c)

  gathers : (x : ℕ) → x < (counts_in l).depots → (x ≡ home l c → ⊥) → (i : ℕ) → i ≤ (counts_in l).shelves →
      (length (times i (λ s u. merged_at (counts_in l).depots (home l c) (stable l (home l c) s) 0 u) (four_of (crew_vector l c))) ≡ 4)
      × (get_or (times i (λ s u. merged_at (counts_in l).depots (home l c) (stable l (home l c) s) 0 u) (four_of (crew_vector l c))) x 0
      ≡ times i (λ s u. merged u ((view l).shelf (home l c) s).stable) ((view l).crew c) x)
  unfolding times merged
  gathers x kx f zero k = (refl, four_at (crew_vector l c) x (let a = S.small.depots in omega arith) ∙ crew_agrees l F c 0 o.crew x kx)
  gathers x kx f (suc i) k =
      let h = gathers x kx f i (omega arith) in
      let size = h.0 in
      let a = S.small.depots in (
        length_merged (counts_in l).depots (home l c) (stable l (home l c) i) 0 _ ∙ h.0,
        ap (λ (y : ℕ). get_or (merged_at (counts_in l).depots (home l c) (stable l (home l c) i) 0 (times i (λ s u. merged_at (counts_in l).depots (home l c) (stable l (home l c) s) 0 u) (four_of (crew_vector l c)))) y 0) (sym (zero-add x))
            ∙ merged_entry (counts_in l).depots (home l c) (stable l (home l c) i) 0 _ (omega (arith, size)) x kx f
            ∙ ap₂ max (ap (λ (y : ℕ). get_or (times i (λ s u. merged_at (counts_in l).depots (home l c) (stable l (home l c) s) 0 u) (four_of (crew_vector l c))) y 0) (zero-add x) ∙ h.1) (sym (stable_here i x k kx)),
      )

  offered : (x : ℕ) → x < (counts_in l).depots → (x ≡ home l c → ⊥) → words.page_vector l c x ≡ model_vector (home l c) x
  unfolding words.page_vector words.gathered_from model_vector
  offered x kx f = (gathers x kx f (counts_in l).shelves (le_refl _)).1

  -- ---- every home shelf settled

  abbrev turns : ℕ → List ℕ
  turns i = times i (page_turn (counts_in l).depots (home l c) (words.page_vector l c)) l

  whole : (i : ℕ) → i ≤ (counts_in l).shelves → Whole (counts_of l) (turns i)
  unfolding times
  whole zero k = whole_open l F
  whole (suc i) k =
      let W = whole i (omega arith) in
      keeps_whole (counts_of l) (turns i) _
      (settled_settles (counts_of l) (turns i) W.within W.full (home l c) i (words.page_vector l c) kd k (λ from z f. W.parts.links i from (home l c) k z kd f) (offers l c ks o)).keeps
      W

  sounds : (i : ℕ) → i ≤ (counts_in l).shelves → Sound (counts_in l) (turns i)
  sounds i k = sound_whole (counts_of l) (turns i) (whole i k)

  paged_view : (i : ℕ) → i ≤ (counts_in l).shelves → view_by (counts_in l) (turns i) ≡ times i (λ s τ. settle (counts_in l) (home l c) s (model_vector (home l c)) τ) (view l)
  unfolding times
  paged_view zero k = unfold view in refl
  paged_view (suc i) k =
      settled_view (counts_in l) (turns i) (sounds i (omega arith)) (home l c) i kd k (words.page_vector l c) (model_vector (home l c)) (λ x z. offered x z.below z.apart)
      ∙ ap (settle (counts_in l) (home l c) i (model_vector (home l c))) (paged_view i (omega arith))

  pages_below : (i : ℕ) → i ≤ (counts_in l).shelves → (j : ℕ) → j < 84 → get_or (turns i) j 0 ≡ get_or l j 0
  unfolding times
  pages_below zero k j h = refl
  pages_below (suc i) k j h =
      settled_below (counts_in l) (turns i) (sounds i (omega arith)) (home l c) i kd k (words.page_vector l c) (words.page_vector l c) (λ x y. refl) j h
      ∙ pages_below i (omega arith) j h

  m : List ℕ
  m = words.page_book l c

  paged_by : ℕ → State
  paged_by e = times (counts_in l).shelves (λ s τ. settle (counts_in l) e s (model_vector e) τ) (view l)

  paged_here : view_by (counts_in l) m ≡ paged_by (home l c)
  unfolding m words.page_book words.settled_all paged_by
  paged_here = paged_view (counts_in l).shelves (le_refl _)

  m_sound : Sound (counts_in l) m
  unfolding m words.page_book words.settled_all
  m_sound = sounds (counts_in l).shelves (le_refl _)

  m_below : (j : ℕ) → j < 84 → get_or m j 0 ≡ get_or l j 0
  unfolding m words.page_book words.settled_all
  m_below = pages_below (counts_in l).shelves (le_refl _)

  -- what a home shelf then stores of a bearing
  store_here : (k : ℕ) → k < (counts_in l).bearings → ((paged_by (home l c)).shelf (home l c) (k % (counts_in l).shelves)).store k ≡ version_of (counts_in l).depots (stored m (home l c) k)
  unfolding shelf_at store_at
  store_here k kk =
      ap (λ (τ : State). (τ.shelf (home l c) (k % (counts_in l).shelves)).store k) (sym paged_here)
      ∙ ap (λ (h : Shelf). h.store k) (shelf_here (counts_in l) m (home l c) (k % (counts_in l).shelves) kd (mod-lt k S.small.shelf))
      ∙ pick_true _ _ (and_intro (lt-ltb k _ kk) (eq-eqb (k % (counts_in l).shelves) _ refl))

  -- ---- the crew's vector

  abbrev merges : ℕ → List ℕ
  merges i = times i (λ j v. merged_at (counts_in l).depots (counts_in l).depots (vector_of (stored v (home l c) (get_or ks j 0))) (crew_at c) v) m

  merges_size : (i : ℕ) → length (merges i) ≡ length m
  merges_size i = times_keeps (λ (v : List ℕ). length v ≡ length m) i _ m (λ j v k h. length_merged (counts_in l).depots _ _ (crew_at c) v ∙ h) refl

  merges_off : (i j : ℕ) → (crew_at c ≤ j → j < crew_at c + (counts_in l).depots → ⊥) → get_or (merges i) j 0 ≡ get_or m j 0
  merges_off i j out =
      times_keeps (λ (v : List ℕ). get_or v j 0 ≡ get_or m j 0) i _ m (λ z v k h. merged_other (counts_in l).depots _ _ (crew_at c) v j (off_sides (crew_at c) (counts_in l).depots j out) ∙ h) refl

  merges_stored : (i k : ℕ) → stored (merges i) (home l c) k ≡ stored m (home l c) k
  merges_stored i k =
      let a = S.small.depots in let b = S.small.crews in let g = o.crew in
      part_off _ m (stored_at (home l c) k) 9 (merges_size i) λ j x y. merges_off i j (λ p q. omega arith)

  merges_entry : (x : ℕ) → x < (counts_in l).depots → (i : ℕ) → i ≤ length ks →
      get_or (merges i) (crew_at c + x) 0 ≡ times i (λ j y. max y ((version_of (counts_in l).depots (stored m (home l c) (get_or ks j 0))).vector x)) ((view l).crew c x)
  unfolding times
  merges_entry x kx zero k =
      let a = S.small.depots in let b = S.small.crews in let g = o.crew in
      m_below (crew_at c + x) (omega arith) ∙ crew_agrees l F c 0 o.crew x kx
  merges_entry x kx (suc i) k =
      let a = S.small.depots in let b = S.small.crews in let g = o.crew in let f = m_sound.full in let z = merges_size i in
      merged_entry (counts_in l).depots (counts_in l).depots _ (crew_at c) (merges i) (omega arith) x kx (omega arith)
      ∙ ap₂ max (merges_entry x kx i (omega arith))
      (ap (λ (r : List ℕ). vector_of r x) (merges_stored i (get_or ks i 0)) ∙ sym (version_entry (counts_in l).depots (stored m (home l c) (get_or ks i 0)) x kx))

  -- the model's maximum, with the home depot e
  gathered_by : ℕ → Vec
  gathered_by e = calls.gathered ((view l).crew c) (λ k. (((paged_by e).shelf e (k % (counts_in l).shelves)).store k).vector) ks

  gathered_here : (x : ℕ) → gathered_by (home l c) x ≡ times (length ks) (λ j y. max y ((version_of (counts_in l).depots (stored m (home l c) (get_or ks j 0))).vector x)) ((view l).crew c x)
  unfolding gathered_by
  gathered_here x =
      gathered_at _ _ ks x
      ∙ times_same (length ks) _ _ _ (λ i y k. ap (λ (v : Version). max y (v.vector x)) (store_here (get_or ks i 0) (below_at (counts_in l).bearings ks o.bearings i k)))

  beyond : (x : ℕ) → (counts_in l).depots ≤ x → (i : ℕ) → times i (λ j y. max y ((version_of (counts_in l).depots (stored m (home l c) (get_or ks j 0))).vector x)) 0 ≡ 0
  unfolding times
  beyond x h zero = refl
  beyond x h (suc i) = ap₂ max (beyond x h i) (version_beyond (counts_in l).depots (stored m (home l c) (get_or ks i 0)) x h)

  raised_crew : entries_at (counts_in l).depots (words.list_book l c ks) (crew_at c) ≡ gathered_by (home l c)
  unfolding entries_at words.list_book words.merged_all m view
  raised_crew = fun_ext λ x.
      ⊎_elim
      (λ (e : ltb x (counts_in l).depots ≡ true). pick_true _ _ e ∙ merges_entry x (ltb-true x _ e) (length ks) (le_refl _) ∙ sym (gathered_here x))
      (λ (e : ltb x (counts_in l).depots ≡ false).
      pick_false _ _ e
      ∙ sym (gathered_here x
      ∙ ap (times (length ks) (λ j y. max y ((version_of (counts_in l).depots (stored m (home l c) (get_or ks j 0))).vector x))) (ap (λ (u : Vec). u x) (crew_here (counts_in l) l c o.crew) ∙ pick_false _ _ e)
      ∙ beyond x (ltb-false x _ e) (length ks)))
      (decided (ltb x (counts_in l).depots))

  crewed : view_by (counts_in l) (words.list_book l c ks) ≡ set_crew c (gathered_by (home l c)) (view_by (counts_in l) m)
  unfolding words.list_book words.merged_all m
  crewed =
      let a = S.small.depots in let b = S.small.crews in let g = o.crew in
      crew_view (counts_in l) m (words.list_book l c ks) (merges_size (length ks)) (λ j h. merges_off (length ks) j (λ p q. omega arith)) c _ a b o.crew
      (λ j x y. merges_off (length ks) j (λ p q. omega arith)) (λ j x out. merges_off (length ks) j (λ p q. out p (omega arith))) raised_crew

  counted : counts_in (words.list_book l c ks) ≡ counts_in l
  unfolding words.list_book words.merged_all m
  counted = counts_same l (words.list_book l c ks) λ j h. merges_off (length ks) j (λ p q. omega arith) ∙ m_below j (omega arith)

  -- what the model leaves, and what it answers, with the home depot e
  left_by_law : ℕ → State
  left_by_law e = set_crew c (gathered_by e) (paged_by e)

  told_by : ℕ → List Told
  told_by e = map (λ k. calls.told (counts_in l).depots (((paged_by e).shelf e (k % (counts_in l).shelves)).store k)) ks

  leaves : view (words.list_book l c ks) ≡ (calls.acted (counts_in l) (view l) (list c ks)).state
  unfolding calls.acted calls.listing calls.paged calls.page_vector calls.shelf_of left_by_law gathered_by paged_by model_vector
  leaves = view_by_law l (words.list_book l c ks) counted ∙ crewed ∙ ap (set_crew c (gathered_by (home l c))) paged_here ∙ ap left_by_law (sym at_home)

  tells_same : listed (words.page_told l c ks) ≡ (calls.acted (counts_in l) (view l) (list c ks)).answer
  unfolding calls.acted calls.listing calls.paged calls.page_vector calls.shelf_of told_by paged_by model_vector words.page_told m
  tells_same =
      ap listed
      (map_alike _ _ ks (λ i k.
      told_here (counts_in l).depots (stored m (home l c) (get_or ks i 0)) S.small.depots
      ∙ ap (calls.told (counts_in l).depots) (sym (store_here (get_or ks i 0) (below_at (counts_in l).bearings ks o.bearings i k))))
      ∙ ap told_by (sym at_home))

  -- the version that a list answers with for a bearing
  pub on_page_here : (k : ℕ) → k < (counts_in l).bearings → version_of (counts_in l).depots (stored (words.page_book l c) (home l c) k) ≡ calls.on_page (counts_in l) c k (view l)
  unfolding calls.on_page calls.paged calls.page_vector calls.shelf_of paged_by model_vector m
  on_page_here k kk = sym (store_here k kk) ∙ ap (λ (e : ℕ). ((paged_by e).shelf e (k % (counts_in l).shelves)).store k) (sym at_home)

module _ (l : List ℕ) (F : fit l ≡ true) (c : ℕ) (ks : List ℕ) where
  does : table.list_number l c ks ≡ 0 → Does l (list c ks) (words.list_book l c ks)
  does z =
      let o = list_done l c ks z in
      record { leaves = leaves l F c ks o; counts = counted l F c ks o; fits = keeps_fit l _ (list_settles l c ks z).keeps F }

  pub list_bridge :
      (a : Answer) (l' : List ℕ) → a ≡ answer_by (table.list_number l c ks) (listed (words.page_told l c ks)) → l' ≡ after (table.list_number l c ks) (words.list_book l c ks) l →
      Bridged l (list c ks) a l'
  list_bridge a l' answer book =
      bridged l F (list c ks) (table.list_number l c ks) (list_number_law l F c ks) (words.list_book l c ks) does a _ l' answer (λ z. tells_same l F c ks (list_done l c ks z)) book
