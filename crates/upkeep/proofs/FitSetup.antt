-- A setup that is done makes a fit book: the counts, the homes, and 0 everywhere else.
-- Assumes nothing.
use Prim.Native.Nat.{ℕ, ◌+◌, ◌-◌, ◌≤◌, ◌<◌}
use native.Mathlib.Nat.{zero-add}
use native.Mathlib.Omega.{arith}
use mathlib.Core.Path.{◌≡◌, sym, ◌∙◌, ap, ap₂, subst}
use mathlib.Core.Logic.{inl, inr, ⊎_elim}
use mathlib.Core.List.{List, [], ◌∷◌}
use mathlib.Core.Bool.{true}
use lib.Dec.{lit≤}
use lib.ListN.{length, get_or, replicate, length-replicate, get_or-replicate, get_or-eq_default}
use Rattle.order.specs.Vector.{zeros}
use Rattle.order.specs.Record.{vector_of}
use Rattle.loops.proofs.BoolLaws.{or_left, le_or_lt}
use Rattle.order.proofs.VectorLaws.{zeros_intro}
use Rattle.book.specs.declared.parts.Counts.{Counts}
use Rattle.book.specs.Words.{put}
use Rattle.book.specs.Layout.{book_words, counts_of, home, crew_at, crew_vector, clock, stable, seen, clock_at, stable_at, seen_at, stored_at, held_at, taken_at, link_of, held, taken, stored}
use Rattle.book.proofs.WordsLaws.{length_put, put_out, put_in, part_at}
use Rattle.fit.specs.Fit.{kept_fit, fit}
use Rattle.fit.proofs.FitLaws.{counts_within}
use Rattle.shelf.proofs.AllLaws.{AllOf, all_none}
use Rattle.shelf.proofs.SlotLaws.{slots, slots_none}
use Rattle.shelf.proofs.ShowLaws.{taken_slots, untaken_slots}
use Rattle.register.specs.Table.{setup_number}
use Rattle.register.specs.Calls.{set_up}
use Rattle.register.proofs.FitParts.{LinkOk, IsCopy, IsMessage, Whole, whole_close}
use Rattle.register.proofs.Numbers.{SetupDone, setup_done}

zero_word : (j : ℕ) → ◌≡◌ {A = ℕ} (get_or (replicate book_words 0) j 0) 0
zero_word j =
    ⊎_elim
    (λ (h : book_words ≤ j). get_or-eq_default {A = ℕ} (replicate book_words 0) 0 {n = j} (rw (length-replicate {A = ℕ} book_words 0) h))
    (λ (h : j < book_words). get_or-replicate {A = ℕ} book_words j 0 0 h)
    (le_or_lt book_words j)

-- a link that counts nothing is empty, and fit
pub empty_link : (l : List ℕ) (q : ℕ) → held l q ≡ 0 → taken l q ≡ 0 → (taken_slots l q ≡ []) × (untaken_slots l q ≡ [])
unfolding taken_slots untaken_slots
empty_link l q h t =
    (ap (slots l q 0) t ∙ slots_none l q 0, ap₂ (λ (a b : ℕ). slots l q a (b - a)) t h ∙ slots_none l q 0)

empty_fit : (n : Counts) (l : List ℕ) (s from q : ℕ) → held l q ≡ 0 → taken l q ≡ 0 → LinkOk n l s from q
empty_fit n l s from q h t =
    let e = empty_link l q h t in
    record {
      room = omega arith;
      first = omega arith;
      copies = subst (AllOf (IsCopy n s from)) (sym e.0) (all_none (IsCopy n s from));
      messages = subst (AllOf (IsMessage n s from)) (sym e.1) (all_none (IsMessage n s from));
    }

-- what a setup leaves: the counts and homes asked for; every clock, vector and stamp 0, every link empty, every bearing unwritten, and every word
-- but the counts and the homes 0
pub record Afresh (n : Counts) (homes l : List ℕ) : Type 0 where
  pub counts : counts_of l ≡ n
  pub homed : (c : ℕ) → c < n.crews → home l c ≡ get_or homes c 0
  pub clocks : (d s : ℕ) → clock l d s ≡ 0
  pub stables : (d s x : ℕ) → stable l d s x ≡ 0
  pub seens : (d s x : ℕ) → seen l d s x ≡ 0
  pub crews : (c x : ℕ) → crew_vector l c x ≡ 0
  pub copies : (q : ℕ) → taken_slots l q ≡ []
  pub messages : (q : ℕ) → untaken_slots l q ≡ []
  pub bearings : (d k : ℕ) → zeros n.depots (vector_of (stored l d k)) ≡ true
  pub others : (j : ℕ) → 4 + n.crews ≤ j → get_or l j 0 ≡ 0

module _ (n : Counts) (homes : List ℕ) where
  abbrev counted : List ℕ
  counted = n.depots ∷ n.shelves ∷ n.bearings ∷ n.crews ∷ []

  pub length_set_up : length (set_up n homes) ≡ book_words
  unfolding set_up
  length_set_up = length_put (put (replicate book_words 0) 0 counted) 4 homes ∙ length_put (replicate book_words 0) 0 counted ∙ length-replicate {A = ℕ} book_words 0

  -- every word but the counts and the homes is 0
  pub set_up_zero : (j : ℕ) → 4 + length homes ≤ j → get_or (set_up n homes) j 0 ≡ 0
  unfolding set_up
  set_up_zero j h =
      put_out (put (replicate book_words 0) 0 counted) 4 homes j (inr h) ∙ put_out (replicate book_words 0) 0 counted j (inr (omega arith)) ∙ zero_word j

  pub set_up_home : (c : ℕ) → length homes ≤ 16 → c < length homes → home (set_up n homes) c ≡ get_or homes c 0
  unfolding set_up
  set_up_home c room h = put_in (put (replicate book_words 0) 0 counted) 4 homes (rw (length_put, length-replicate) (omega arith)) c h

  set_up_word : (j : ℕ) → j < 4 → get_or (set_up n homes) j 0 ≡ get_or counted j 0
  unfolding set_up
  set_up_word j h =
      put_out (put (replicate book_words 0) 0 counted) 4 homes j (inl h)
      ∙ ap (λ (i : ℕ). get_or (put (replicate book_words 0) 0 counted) i 0) (sym (zero-add j))
      ∙ put_in (replicate book_words 0) 0 counted (rw (length-replicate {A = ℕ} book_words 0) (lit≤ tt)) j h

  pub set_up_counts : counts_of (set_up n homes) ≡ n
  set_up_counts = λ i. record { depots = set_up_word 0 (omega arith) i; shelves = set_up_word 1 (omega arith) i; bearings = set_up_word 2 (omega arith) i; crews = set_up_word 3 (omega arith) i }

  module _ (l : List ℕ) (t : SetupDone l n homes) where
    in_room_law : length homes ≤ 16
    in_room_law = let a = t.crews in let b = (counts_within n t.counts).crews in omega arith

    empty : (j : ℕ) → 20 ≤ j → get_or (set_up n homes) j 0 ≡ 0
    empty j h = let a = in_room_law in set_up_zero j (omega arith)

    unwritten : (d k : ℕ) → zeros n.depots (vector_of (stored (set_up n homes) d k)) ≡ true
    unwritten d k =
        let a = (counts_within n t.counts).depots in
        zeros_intro n.depots (vector_of (stored (set_up n homes) d k))
        (λ x z. part_at (set_up n homes) (stored_at d k) 9 (5 + x) (omega arith) ∙ empty (stored_at d k + (5 + x)) (omega arith))

    set_up_whole : Whole n (set_up n homes)
    set_up_whole =
        record {
          full = length_set_up;
          same = set_up_counts;
          counts = t.counts;
          within = counts_within n t.counts;
          parts =
              record {
                homes = λ c k. subst (λ (x : ℕ). x < n.depots) (sym (set_up_home c in_room_law (rw t.crews k))) (t.homed c k);
                crews = λ c k x z. let e = empty (crew_at c + x) (omega arith) in omega arith;
                shelves = λ d s hd hs.
                    let e = empty (clock_at d s) (omega arith) in
                    record {
                      clocked = omega arith;
                      own = empty (stable_at d s + d) (omega arith);
                      stables = λ x k f. let g = empty (stable_at d s + x) (omega arith) in omega arith;
                      seens = λ x k f. let g = empty (seen_at d s + x) (omega arith) in omega arith;
                    };
                links = λ s from to hs hf ht f.
                    empty_fit n (set_up n homes) s from (link_of s from to) (empty (held_at (link_of s from to)) (omega arith)) (empty (taken_at (link_of s from to)) (omega arith));
                stores = λ d k hd hk. unfold kept_fit in or_left (zeros n.depots (vector_of (stored (set_up n homes) d k))) _ (unwritten d k);
              };
        }

    -- the register starts afresh
    afresh : Afresh n homes (set_up n homes)
    afresh =
        let a = (counts_within n t.counts).crews in
        record {
          counts = set_up_counts;
          homed = λ c k. set_up_home c in_room_law (rw t.crews k);
          clocks = λ d s. empty (clock_at d s) (omega arith);
          stables = λ d s x. empty (stable_at d s + x) (omega arith);
          seens = λ d s x. empty (seen_at d s + x) (omega arith);
          crews = λ c x. empty (crew_at c + x) (omega arith);
          copies = λ q. (empty_link (set_up n homes) q (empty (held_at q) (omega arith)) (empty (taken_at q) (omega arith))).0;
          messages = λ q. (empty_link (set_up n homes) q (empty (held_at q) (omega arith)) (empty (taken_at q) (omega arith))).1;
          bearings = unwritten;
          others = λ j h. set_up_zero j (rw t.crews h);
        }

pub setup_fit : (l : List ℕ) (n : Counts) (homes : List ℕ) → setup_number l n homes ≡ 0 → fit (set_up n homes) ≡ true
setup_fit l n homes h = whole_close n (set_up n homes) (set_up_whole n homes l (setup_done l n homes h))

pub setup_afresh : (l : List ℕ) (n : Counts) (homes : List ℕ) → setup_number l n homes ≡ 0 → Afresh n homes (set_up n homes)
setup_afresh l n homes h = afresh n homes l (setup_done l n homes h)
