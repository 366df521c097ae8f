-- Lists: every home shelf is raised with one vector, so an answer and what it rests on are shown together.
-- Assumes nothing.
use Prim.Native.Nat.{ℕ, zero, suc, ◌≤◌, ◌<◌, max}
use native.Mathlib.Omega.{arith}
use native.Mathlib.Nat.{le_trans}
use mathlib.Core.Path.{◌≡◌, refl, sym, subst, ap, ◌∙◌}
use mathlib.Core.Logic.{◌⊎◌, inr}
use mathlib.Core.Bool.{true}
use mathlib.Core.List.{List, [], ◌∷◌, map, Memᴰ}
use lib.Dec.{ltb}
use lib.ListN.{length, get_or}
use borrow.Author.Tests.{ltb-true, lt-leb}
use Rattle.loops.specs.Loops.{pick}
use Rattle.loops.proofs.BoolLaws.{and_left}
use Rattle.order.specs.Vector.{Vec, merged}
use Rattle.order.proofs.VectorLaws.{covered_intro}
use Rattle.model.specs.Parts.{Counts, Version, Write, Shelf, State, set_crew, unwritten}
use Rattle.paper.specs.Calls.{Call, read, list, Told, reads, listed, first}
use Rattle.model.specs.Calls.{Outcome, told, all_below, gathered, setup, shelf_of, home_shelf, answered, page_vector, paged, on_page, refusal, reading, listing, acted}
use Rattle.model.specs.System.{of_model, run}
use Rattle.model.specs.Demands.{AtLeast, Tells, by_list, MadeAt, now, earlier, Made, Past, Done, ReadAnswers}
use Rattle.model.specs.Page.{OnePage}
use Rattle.model.proofs.Places.{Other}
use Rattle.model.proofs.Showing.{AtMost}
use Rattle.model.proofs.Settling.{settled_alike}
use Rattle.model.proofs.Refusals.{SetUp, setting_up, list_passed, shelf_below}
use Rattle.model.proofs.Pages.{page_crew, page_below, page_shelf, page_offered, page_covers, page_within, page_made}
use Rattle.model.proofs.Histories.{step_done, run_done, inv}
use Rattle.model.proofs.Causal.{list_crew, made_above, made_since, past_below, past_made, offered_has}
use Rattle.model.proofs.Unique.{at_least}

map_length : (f : ℕ → Told) (ks : List ℕ) → length (map f ks) ≡ length ks
map_length f [] = refl
map_length f (k ∷ ks) = ap suc (map_length f ks)

map_at : (f : ℕ → Told) (ks : List ℕ) (i : ℕ) (t : Told) → i < length ks → get_or (map f ks) i t ≡ f (get_or ks i 0)
map_at f [] i t h = absurd (omega arith)
map_at f (k ∷ ks) zero t h = refl
map_at f (k ∷ ks) (suc i) t h = map_at f ks i t (omega arith)

read_passes : (π : Counts) (σ : State) (c k : ℕ) → c < π.crews → k < π.bearings → refusal π σ (read c k) ≡ 0
unfolding refusal first pick
read_passes π σ c k hc hk = rw (lt-leb π.crews c hc, lt-leb π.bearings k hk) refl

one_below : (n k : ℕ) → all_below n (k ∷ []) ≡ true → k < n
unfolding all_below
one_below n k e = ltb-true k n (and_left (ltb k n) true e)

-- what is gathered is below what all of it is below
gathered_below : (b : ℕ) (v : Vec) (f : ℕ → Vec) (l : List ℕ) (x : ℕ) → v x ≤ b → ((k : ℕ) → f k x ≤ b) → gathered v f l x ≤ b
unfolding gathered merged
gathered_below b v f [] x h k = h
gathered_below b v f (j ∷ l) x h k = gathered_below b (merged v (f j)) f l x (let a = k j in omega arith) k

module _ (π : Counts) (homes : List ℕ) (u : SetUp π homes) (h : List Call) (c : ℕ) (ks : List ℕ) (e : Done (of_model π homes) h (list c ks)) where
  abbrev σ : State
  σ = run π homes h

  abbrev d : ℕ
  d = σ.home c

  hc : c < π.crews
  hc = (list_passed π σ c ks e).crew

  made_or : (k : ℕ) → (on_page π c k σ ≡ unwritten) ⊎ Made (of_model π homes) h (record { bearing = k; version = on_page π c k σ })
  made_or k = page_made π c σ (Made (of_model π homes) h) (inv π homes u h).sound hc (shelf_below π u) k

  pub list_shelf : (k : ℕ) → (run π homes (list c ks ∷ h)).shelf d (shelf_of π k) ≡ (paged π c σ).shelf d (shelf_of π k)
  unfolding acted listing set_crew
  list_shelf k = ap (λ (σ : State). σ.shelf d (shelf_of π k)) (run_done π homes h (list c ks) e)

  pub list_said : (of_model π homes).answer σ (list c ks) ≡ listed (map (λ k. told π.depots (on_page π c k σ)) ks)
  unfolding acted listing on_page
  list_said = ap (λ (o : Outcome). o.answer) (step_done π σ (list c ks) e)

  -- every write made that the vector offered covers is answered, or a greater one
  page_has : (w : Write) → Made (of_model π homes) h w → ((x : ℕ) → Other π.depots d x → w.version.vector x ≤ page_vector π c σ x) → AtLeast π.depots (on_page π c w.bearing σ) w.version
  unfolding on_page
  page_has w m below = at_least π homes u h _ w m
      (subst (λ (g : Shelf). AtMost π.depots w.version (g.store w.bearing)) (sym (page_shelf π c σ (shelf_of π w.bearing) (shelf_below π u w.bearing)))
      (offered_has π homes u h w m d (page_vector π c σ) ((inv π homes u h).sound.crews c hc).depot (page_offered π c σ (Made (of_model π homes) h) (inv π homes u h).sound hc) below))
      (made_or w.bearing)

  -- no answer is lower than a write to that bearing in the crew's past, the other answers counted
  pub list_past : (w : Write) → Past π (of_model π homes) (list c ks ∷ h) c w → AtLeast π.depots (on_page π c w.bearing σ) w.version
  list_past w p = page_has w (before (past_made π homes u p)) (λ x o.
      le_trans (past_below π homes u p x) (subst (λ (v : Vec). v x ≤ page_vector π c σ x) (sym (list_crew π homes h c ks e))
      (gathered_below _ (σ.crew c) _ ks x (page_crew π c σ x) (λ k. page_within π c σ (Made (of_model π homes) h) (inv π homes u h).sound hc (shelf_below π u) k x o))))
    where
      at_before : {g : List Call} {b : ℕ} → MadeAt (of_model π homes) (list c ks ∷ h) g b w → MadeAt (of_model π homes) h g b w
      at_before (now t) = absurd (let q = t.makes.1 in let z : ◌≡◌ {A = ℕ} 0 1 = cc in omega arith)
      at_before (earlier m) = m

      before : Made (of_model π homes) (list c ks ∷ h) w → Made (of_model π homes) h w
      before m = record { before = m.before; author = m.author; at = at_before m.at }

  -- each answer is what a read promises of its answer
  pub listed_answers : (k : ℕ) → Memᴰ k ks → ReadAnswers π (of_model π homes) h (list c ks) c k (on_page π c k σ)
  unfolding on_page
  listed_answers k m = record {
    answer = subst (λ a. Tells (list c ks) a k (told π.depots (on_page π c k σ))) (sym list_said)
        (by_list (map_length _ ks) (λ i hi is. map_at (λ k. told π.depots (on_page π c k σ)) ks i _ hi ∙ ap (λ k. told π.depots (on_page π c k σ)) is));
    stored = ap (λ (g : Shelf). g.store k) (list_shelf k);
    clear = covered_intro π.depots _ _ _ (λ x hx n. subst (λ (g : Shelf). (on_page π c k σ).vector x ≤ g.stable x) (sym (list_shelf k))
        (page_covers π c σ (Made (of_model π homes) h) (inv π homes u h).sound hc (shelf_below π u) k x (record { below = hx; apart = n })));
    written = made_or k;
    causal = λ w same p. subst (λ k. AtLeast π.depots (on_page π c k σ) w.version) same
        (page_has w (past_made π homes u p) (λ x o. le_trans (past_below π homes u p x) (page_crew π c σ x)));
  }

  -- where all home shelves have the same stable vector, they are raised as a read raises one
  same_page : (k : ℕ) → ((r x : ℕ) → r < π.shelves → x < π.depots → (σ.shelf d r).stable x ≡ (σ.shelf d (shelf_of π k)).stable x) → on_page π c k σ ≡ answered π c k σ
  unfolding on_page answered home_shelf
  same_page k same = ap (λ (g : Shelf). g.store k) (page_shelf π c σ (shelf_of π k) (shelf_below π u k)
      ∙ settled_alike π.depots d (page_vector π c σ) (σ.crew c) (σ.shelf d (shelf_of π k)) (λ x o.
      let low = page_crew π c σ x in
      let top = page_below π c σ x (max ((σ.shelf d (shelf_of π k)).stable x) (σ.crew c x)) (omega arith) (λ s hs. let t = same s x hs o.below in omega arith) in
      omega arith))

pub one_page : (π : Counts) (homes : List ℕ) → setup π homes ≡ 0 → OnePage π (of_model π homes)
unfolding acted reading answered
one_page π homes z = record {
  lists = λ h c ks e. record {
    named = (list_passed π _ c ks e).crew;
    version = λ k. on_page π c k (run π homes h);
    answer = list_said π homes u h c ks e;
    got = λ k m. record { passed = e; gets = inr (ks, refl, m, refl) };
    merged = λ x hx. ap (λ (v : Vec). v x) (list_crew π homes h c ks e);
    moment = λ g b v w mv mw is m p. page_has π homes u h c ks e w (made_since π homes m (past_made π homes u p)) (λ x o.
        le_trans (past_below π homes u p x) (le_trans (made_above π homes m x)
        (subst (λ (y : Version). y.vector x ≤ page_vector π c (run π homes h) x) (sym is)
        (page_within π c (run π homes h) (Made (of_model π homes) h) (inv π homes u h).sound (list_passed π _ c ks e).crew (shelf_below π u) v.bearing x o))));
  };
  alone = λ h c k e same.
      let passed = list_passed π (run π homes h) c (k ∷ []) e in (
        told π.depots (on_page π c k (run π homes h)),
        list_said π homes u h c (k ∷ []) e,
        ap (λ (o : Outcome). o.answer) (step_done π (run π homes h) (read c k) (read_passes π _ c k passed.crew (one_below π.bearings k passed.below)))
            ∙ ap (λ (v : Version). reads (told π.depots v)) (sym (same_page π homes u h c (k ∷ []) e k same)),
      );
}
  where
    u : SetUp π homes
    u = setting_up π homes z
