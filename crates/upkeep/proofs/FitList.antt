-- A list keeps every part of the book: each home shelf is raised and shown while the links into the others stay, then a crew's vector rises within its range.
-- Assumes nothing.
use Prim.Native.Nat.{ℕ, ◌+◌, ◌*◌, ◌≤◌, ◌<◌}
use native.Mathlib.Nat.{zero-add, max-le}
use native.Mathlib.Omega.{arith}
use mathlib.Core.Path.{◌≡◌, refl, sym, ◌∙◌, ap, subst}
use mathlib.Core.Logic.{⊎_elim}
use mathlib.Core.List.{List}
use mathlib.Core.Bool.{true}
use lib.ListN.{length, get_or}
use Rattle.loops.specs.Loops.{times, every}
use Rattle.loops.proofs.BoolLaws.{eq_or_ne, and_left, and_right}
use Rattle.loops.proofs.LoopLaws.{times_keeps, every_at}
use Rattle.order.specs.Vector.{Vec, vector_in, merged_at}
use Rattle.order.specs.Record.{vector_of}
use Rattle.order.proofs.VectorLaws.{length_merged, merged_entry}
use Rattle.book.specs.declared.parts.Counts.{Counts}
use Rattle.book.specs.Layout.{end, crew_at, counts_of, home, crew_vector, stable, link_of, stored}
use Rattle.fit.specs.Fit.{crew_fit, stable_fit, kept_fit, stored_fit, Within}
use Rattle.named.specs.Named.{show_fit, listed_fit, page_parts, list_parts, all_below}
use Rattle.named.proofs.NamedLaws.{Based, base_open, list_based, list_named, below_at}
use Rattle.shelf.specs.Asks.{Ready}
use Rattle.shelf.specs.Show.{settled}
use Rattle.shelf.proofs.FrameLaws.{times_grows}
use Rattle.shelf.proofs.AllLaws.{AllOf}
use Rattle.shelf.proofs.ShowLaws.{taken_slots}
use Rattle.shelf.proofs.ShownLaws.{link_same}
use Rattle.shelf.proofs.ShowFrame.{length_settled, settled_off}
use Rattle.links.specs.Send.{four_of}
use Rattle.register.specs.Table.{list_number}
use Rattle.register.specs.Calls.{gathered_from, settled_all, merged_all, page_vector, page_book, list_book}
use Rattle.register.proofs.FitMessage.{kept_range}
use Rattle.register.proofs.FitReady.{link_sound}
use Rattle.register.proofs.HomeLaws.{four_at}
use Rattle.register.proofs.ListTable.{ListDone, list_done}
use Rattle.upkeep.specs.Own.{a_crew, a_stored, fit_part}
use Rattle.upkeep.proofs.FitFrame.{Keeps, keeps_then, link_kept}
use Rattle.upkeep.proofs.FitSettled.{Arrivals, Settles, settled_settles}
use Rattle.upkeep.proofs.FitStored.{crew_merged_off, crew_merged_keeps}
use Rattle.upkeep.proofs.FitKept.{crew_open, show_arrivals}
use Rattle.upkeep.proofs.FitOwnParts.{and_on, every_on, stable_open, keeps_part, home_stays, show_kept}

-- what is kept, and that of the copies taken on the links into any shelf of depot d none is new
pub record PageSettles (n : Counts) (l m : List ℕ) (d : ℕ) : Type 1 where
  pub keeps : Keeps n l m
  pub fewer :
      (s : ℕ) → s < n.shelves → (P : List ℕ → Type 0) (from : ℕ) → from < n.depots → (from ≡ d → ⊥) → AllOf P (taken_slots l (link_of s from d)) →
      AllOf P (taken_slots m (link_of s from d))

none_changed : (n : Counts) (l : List ℕ) (d : ℕ) → PageSettles n l l d
none_changed n l d =
    record {
      keeps =
          record {
            size = refl;
            low = λ j k. refl;
            crews = λ c k h. h;
            clocks = λ e s a b h. h;
            stables = λ e s a b h. h;
            stamps = λ e s x a b k h. h;
            links = λ s from to a b c f. record { head = λ h. h; copies = λ h g. g; messages = λ h g. g };
            stores = λ e k a b h. h;
          };
      fewer = λ s k P from a f h. h;
    }

module _ (n : Counts) (l : List ℕ) (W : Within n) (full : length l ≡ 16384) (d : ℕ) (hd : d < n.depots) (A : (s : ℕ) → s < n.shelves → Arrivals n l d s) where
  -- the links stay fit
  arrivals : (m : List ℕ) → PageSettles n l m d → (s : ℕ) → s < n.shelves → Arrivals n m d s
  arrivals m S s hs from k f = link_kept n l m s from (link_of s from d) (S.keeps.links s from d hs k hd f) (A s hs from k f)

  -- a change that leaves the words of the links into shelf s
  same_fewer :
      (m v : List ℕ) → PageSettles n l m d → length v ≡ length m → (s : ℕ) → s < n.shelves → (P : List ℕ → Type 0) (from : ℕ) → from < n.depots → (from ≡ d → ⊥) →
      ((j : ℕ) → 356 + 160 * link_of s from d ≤ j → j < 516 + 160 * link_of s from d → get_or v j 0 ≡ get_or m j 0) →
      ((j : ℕ) → 228 + 2 * link_of s from d ≤ j → j ≤ 229 + 2 * link_of s from d → get_or v j 0 ≡ get_or m j 0) →
      AllOf P (taken_slots m (link_of s from d)) → AllOf P (taken_slots v (link_of s from d))
  same_fewer m v S size s hs P from k f slots heads h =
      let o = arrivals m S s hs from k f in
      subst (AllOf P) (sym (link_same m v (link_of s from d) size o.room o.first (λ j x y. slots j (omega arith) (omega arith)) (λ j x y. heads j (omega arith) (omega arith))).copies) h

  module _ (offered : Vec) (range : (x : ℕ) → x < n.depots → (x ≡ d → ⊥) → offered x ≤ end) where
    one_shelf : (i : ℕ) (m : List ℕ) → i < n.shelves → PageSettles n l m d → PageSettles n l (settled n.depots d i offered m) d
    one_shelf i m hi S =
        record {
          keeps = keeps_then n l m _ S.keeps T.keeps;
          fewer = λ s hs P from k f h.
              ⊎_elim
              (λ (e : s ≡ i).
              subst (λ (r : ℕ). AllOf P (taken_slots (settled n.depots d i offered m) (link_of r from d))) (sym e)
              (T.fewer P from k f (subst (λ (r : ℕ). AllOf P (taken_slots m (link_of r from d))) e (S.fewer s hs P from k f h))))
              (λ (e : s ≡ i → ⊥).
              let a = W.depots in
              let b = W.shelves in
              same_fewer m _ S (length_settled n.depots d i offered m) s hs P from k f
              (λ j x y. settled_off n.depots d i offered m R j (omega arith) (λ o u w. (omega arith, omega arith)) (omega arith))
              (λ j x y. settled_off n.depots d i offered m R j (omega arith) (λ o u w. (omega arith, omega arith)) (omega arith))
              (S.fewer s hs P from k f h))
              (eq_or_ne s i);
        }
      where
        R : Ready n.depots d i m
        R =
            let a = W.depots in
            let b = W.shelves in
            record { depots = a; depot = omega arith; shelf = omega arith; links = λ from k f. link_sound n m i from (link_of i from d) W.bearings (arrivals m S i hi from k f) }

        T : Settles n m (settled n.depots d i offered m) d i
        T = settled_settles n m W (S.keeps.size ∙ full) d i offered hd hi (arrivals m S i hi) range

    pub all_shelves : PageSettles n l (settled_all n.depots n.shelves d offered l) d
    unfolding settled_all
    all_shelves = times_grows (λ i (m : List ℕ). PageSettles n l m d) n.shelves _ l (none_changed n l d) λ i m k S. one_shelf i m k S

  -- a crew's vector, merged with those of stored versions
  pub all_merged :
      (c : ℕ) (ks m : List ℕ) → c < n.crews → all_below n.bearings ks ≡ true → ((i : ℕ) → i < length ks → kept_fit n (get_or ks i 0) (stored l d (get_or ks i 0)) ≡ true) →
      PageSettles n l m d → PageSettles n l (merged_all n.depots c d ks m) d
  unfolding merged_all
  all_merged c ks m hc hk h S₀ =
      times_grows (λ i (v : List ℕ). PageSettles n l v d) (length ks) _ m S₀ λ i v z S.
      let a = W.depots in
      let b = W.crews in
      let e = W.shelves in
      let u = vector_of (stored v d (get_or ks i 0)) in
      let K =
      crew_merged_keeps n v W (S.keeps.size ∙ full) c u hc
      (kept_range n (get_or ks i 0) (stored v d (get_or ks i 0)) (S.keeps.stores d (get_or ks i 0) hd (below_at n.bearings ks hk i z) (h i z))) in
      record {
        keeps = keeps_then n l v _ S.keeps K;
        fewer = λ s hs P from k f g.
            same_fewer v _ S K.size s hs P from k f (λ j x y. crew_merged_off n v c u j (omega arith)) (λ j x y. crew_merged_off n v c u j (omega arith))
            (S.fewer s hs P from k f g);
      }

-- what a list offers is in range
gathered_range :
    (n p d : ℕ) (l u : List ℕ) → n ≤ 4 → length u ≡ 4 → ((x : ℕ) → x < n → (x ≡ d → ⊥) → get_or u x 0 ≤ end) →
    ((s x : ℕ) → s < p → x < n → (x ≡ d → ⊥) → stable l d s x ≤ end) → (x : ℕ) → x < n → (x ≡ d → ⊥) → get_or (gathered_from n p d l u) x 0 ≤ end
unfolding gathered_from
gathered_range n p d l u small four range stables =
    (times_keeps (λ (w : List ℕ). (length w ≡ 4) × ((x : ℕ) → x < n → (x ≡ d → ⊥) → get_or w x 0 ≤ end)) p _ u
    (λ s w k h. (
      length_merged n d (stable l d s) 0 w ∙ h.0,
      λ x z f.
          let room = h.0 in
          subst (λ (y : ℕ). get_or (merged_at n d (stable l d s) 0 w) y 0 ≤ end) (zero-add x)
          (subst (λ (v : ℕ). v ≤ end) (sym (merged_entry n d (stable l d s) 0 w (omega arith) x z f))
          (max-le (subst (λ (y : ℕ). get_or w y 0 ≤ end) (sym (zero-add x)) (h.1 x z f)) (stables s x k z f))),
    ))
    (four, range)).1

pub list_asked : (l : List ℕ) (c : ℕ) (ks : List ℕ) → ListDone l c ks → Based l × (list_parts (counts_of l) l c ks ≡ true)
list_asked l c ks t = let b = list_based l c ks t.fits in (base_open l b, sym (list_named l c ks b t.crew t.size t.bearings) ∙ t.fits)

module _ (l : List ℕ) (c : ℕ) (ks : List ℕ) (t : ListDone l c ks) where
  B : Based l
  B = (list_asked l c ks t).0

  hd : home l c < (counts_of l).depots
  hd = B.homes c t.crew

  shows : (s : ℕ) → s < (counts_of l).shelves → show_fit (counts_of l) l (home l c) s ≡ true
  unfolding list_parts page_parts
  shows s k =
      every_at (counts_of l).shelves _
      (and_right (listed_fit (counts_of l) l (home l c) ks) _ (and_right (crew_fit (counts_of l) l c) _ (list_asked l c ks t).1)) s k

  stores : (i : ℕ) → i < length ks → kept_fit (counts_of l) (get_or ks i 0) (stored l (home l c) (get_or ks i 0)) ≡ true
  unfolding list_parts page_parts listed_fit stored_fit
  stores i k =
      every_at (length ks) _ (and_left (listed_fit (counts_of l) l (home l c) ks) _ (and_right (crew_fit (counts_of l) l c) _ (list_asked l c ks t).1)) i k

  crews : (x : ℕ) → x < (counts_of l).depots → crew_vector l c x ≤ end
  unfolding list_parts page_parts
  crews = crew_open (counts_of l) l c (and_left (crew_fit (counts_of l) l c) _ (list_asked l c ks t).1)

  arrive : (s : ℕ) → s < (counts_of l).shelves → Arrivals (counts_of l) l (home l c) s
  arrive s k = show_arrivals (counts_of l) l (home l c) s (shows s k)

  pub offers : (x : ℕ) → x < (counts_of l).depots → (x ≡ home l c → ⊥) → page_vector l c x ≤ end
  unfolding page_vector show_fit
  offers =
      gathered_range (counts_of l).depots (counts_of l).shelves (home l c) l (four_of (crew_vector l c)) B.within.depots refl
      (λ x k f. let a = B.within.depots in subst (λ (y : ℕ). y ≤ end) (sym (four_at (crew_vector l c) x (omega arith))) (crews x k))
      (λ s x k z f. (stable_open (counts_of l) l (home l c) s (and_left (stable_fit (counts_of l) l (home l c) s) _ (shows s k))).others x z f)

pub list_settles : (l : List ℕ) (c : ℕ) (ks : List ℕ) → list_number l c ks ≡ 0 → PageSettles (counts_of l) l (list_book l c ks) (home l c)
unfolding list_book page_book
list_settles l c ks h =
    let t = list_done l c ks h in
    let b = (list_asked l c ks t).0 in
    all_merged (counts_of l) l b.within b.full (home l c) (hd l c ks t) (arrive l c ks t) c ks _ t.crew t.bearings (stores l c ks t)
    (all_shelves (counts_of l) l b.within b.full (home l c) (hd l c ks t) (arrive l c ks t) (page_vector l c) (offers l c ks t))

-- so its own parts stay fit
pub list_kept :
    (n : Counts) (l m : List ℕ) → Within n → (c : ℕ) (ks : List ℕ) → c < n.crews → all_below n.bearings ks ≡ true → home l c < n.depots → PageSettles n l m (home l c) →
    list_parts n l c ks ≡ true → list_parts n m c ks ≡ true
unfolding list_parts page_parts listed_fit fit_part
list_kept n l m W c ks hc hk hd S h =
    subst (λ (d : ℕ). page_parts n m c ks d ≡ true) (sym (home_stays n l m W S.keeps c hc))
    (and_on (crew_fit n l c) _ (keeps_part n l m W S.keeps (a_crew c) hc)
    (and_on (every (length ks) (λ i. stored_fit n l (home l c) (get_or ks i 0))) _
    (every_on (length ks) _ _ λ i k. keeps_part n l m W S.keeps (a_stored (home l c) (get_or ks i 0)) (hd, below_at n.bearings ks hk i k))
    (every_on n.shelves _ _ λ s k. show_kept n l m W (home l c) s hd k (record { keeps = S.keeps; fewer = S.fewer s k }))) h)
