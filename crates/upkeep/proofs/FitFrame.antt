-- What a change of the book keeps: each part by itself, fit before, is fit after. A part whose words stay is as fit as it was; changes one after the
-- other keep what each keeps; and so a fit book stays fit.
-- Assumes nothing.
use Prim.Native.Nat.{ℕ, ◌+◌, ◌≤◌, ◌<◌}
use native.Mathlib.Omega.{arith}
use mathlib.Core.Path.{◌≡◌, sym, ◌∙◌, ap, subst}
use mathlib.Core.List.{List}
use mathlib.Core.Bool.{true}
use lib.ListN.{length, get_or}
use Rattle.book.specs.declared.parts.Counts.{Counts}
use Rattle.book.specs.Layout.{end, counts_of, crew_vector, clock, stable, seen, held, taken, stored}
use Rattle.book.specs.Layout.{crew_at, clock_at, stable_at, seen_at, slot_at, held_at, taken_at, link_of}
use Rattle.fit.specs.Fit.{kept_fit, Within, fit}
use Rattle.shelf.proofs.AllLaws.{AllOf}
use Rattle.shelf.proofs.ShowLaws.{taken_slots, untaken_slots}
use Rattle.shelf.proofs.ShownLaws.{link_same}
use Rattle.register.proofs.FitParts.{LinkOk, IsCopy, IsMessage, Whole, whole_open, whole_close}

-- ---- the parts, as statements

abbrev pub CrewOk : Counts → List ℕ → ℕ → Type 0
CrewOk n l c = (x : ℕ) → x < n.depots → crew_vector l c x ≤ end

pub record StableOk (n : Counts) (l : List ℕ) (d s : ℕ) : Type 0 where
  pub own : stable l d s d ≡ 0
  pub others : (x : ℕ) → x < n.depots → (x ≡ d → ⊥) → stable l d s x ≤ end

pub record HeadOk (l : List ℕ) (q : ℕ) : Type 0 where
  pub room : held l q ≤ 16
  pub first : taken l q ≤ held l q

pub record WaitingOk (n : Counts) (l : List ℕ) (s from q : ℕ) : Type 0 where
  pub room : held l q ≤ 16
  pub first : taken l q ≤ held l q
  pub messages : AllOf (IsMessage n s from) (untaken_slots l q)

-- a link: its head and, where that is fit, its taken copies and its untaken messages
pub record LinkKept (n : Counts) (l m : List ℕ) (s from q : ℕ) : Type 0 where
  pub head : HeadOk l q → HeadOk m q
  pub copies : HeadOk l q → AllOf (IsCopy n s from) (taken_slots l q) → AllOf (IsCopy n s from) (taken_slots m q)
  pub messages : HeadOk l q → AllOf (IsMessage n s from) (untaken_slots l q) → AllOf (IsMessage n s from) (untaken_slots m q)

-- so these together are kept
pub waiting_kept : (n : Counts) (l m : List ℕ) (s from q : ℕ) → LinkKept n l m s from q → WaitingOk n l s from q → WaitingOk n m s from q
waiting_kept n l m s from q K h =
    let o : HeadOk l q = record { room = h.room; first = h.first } in
    record { room = (K.head o).room; first = (K.head o).first; messages = K.messages o h.messages }

pub link_kept : (n : Counts) (l m : List ℕ) (s from q : ℕ) → LinkKept n l m s from q → LinkOk n l s from q → LinkOk n m s from q
link_kept n l m s from q K h =
    let o : HeadOk l q = record { room = h.room; first = h.first } in
    record { room = (K.head o).room; first = (K.head o).first; copies = K.copies o h.copies; messages = K.messages o h.messages }

-- what the counts n name and is fit in l is fit in m; the length, the counts and the homes stay
pub record Keeps (n : Counts) (l m : List ℕ) : Type 0 where
  pub size : length m ≡ length l
  pub low : (j : ℕ) → j < 20 → get_or m j 0 ≡ get_or l j 0
  pub crews : (c : ℕ) → c < n.crews → CrewOk n l c → CrewOk n m c
  pub clocks : (d s : ℕ) → d < n.depots → s < n.shelves → clock l d s ≤ end → clock m d s ≤ end
  pub stables : (d s : ℕ) → d < n.depots → s < n.shelves → StableOk n l d s → StableOk n m d s
  pub stamps : (d s x : ℕ) → d < n.depots → s < n.shelves → x < n.depots → seen l d s x ≤ end → seen m d s x ≤ end
  pub links : (s from to : ℕ) → s < n.shelves → from < n.depots → to < n.depots → (from ≡ to → ⊥) → LinkKept n l m s from (link_of s from to)
  pub stores : (d k : ℕ) → d < n.depots → k < n.bearings → kept_fit n k (stored l d k) ≡ true → kept_fit n k (stored m d k) ≡ true

-- ---- words that stay

-- the words from a on, before b, are the same
abbrev pub Same : List ℕ → List ℕ → ℕ → ℕ → Type 0
Same l m a b = (j : ℕ) → a ≤ j → j < b → get_or m j 0 ≡ get_or l j 0

pub counts_same : (l m : List ℕ) → ((j : ℕ) → j < 4 → get_or m j 0 ≡ get_or l j 0) → counts_of m ≡ counts_of l
counts_same l m h = λ i. record { depots = h 0 (omega arith) i; shelves = h 1 (omega arith) i; bearings = h 2 (omega arith) i; crews = h 3 (omega arith) i }

module _ (n : Counts) (l m : List ℕ) (W : Within n) where
  pub crews_same : Same l m 20 84 → (c : ℕ) → c < n.crews → CrewOk n l c → CrewOk n m c
  crews_same same c k h x z =
      let a = W.depots in
      let b = W.crews in
      rw (same (crew_at c + x) (omega arith) (omega arith)) (h x z)

  module _ (d s : ℕ) (hd : d < n.depots) (hs : s < n.shelves) where
    pub clock_same : Same l m 84 100 → clock l d s ≤ end → clock m d s ≤ end
    clock_same same h =
        let a = W.depots in
        let b = W.shelves in
        rw (same (clock_at d s) (omega arith) (omega arith)) h

    pub stable_same : Same l m (stable_at d s) (stable_at d s + 4) → StableOk n l d s → StableOk n m d s
    stable_same same h =
        let a = W.depots in
        record {
          own = same (stable_at d s + d) (omega arith) (omega arith) ∙ h.own;
          others = λ x k f. rw (same (stable_at d s + x) (omega arith) (omega arith)) (h.others x k f);
        }

    pub stamp_same : Same l m 164 228 → (x : ℕ) → x < n.depots → seen l d s x ≤ end → seen m d s x ≤ end
    stamp_same same x k h =
        let a = W.depots in
        let b = W.shelves in
        rw (same (seen_at d s + x) (omega arith) (omega arith)) h

pub link_stays :
    (n : Counts) (l m : List ℕ) (s from q : ℕ) → length m ≡ length l → Same l m (slot_at q 0) (slot_at q 16) → Same l m (held_at q) (held_at q + 2) →
    LinkKept n l m s from q
link_stays n l m s from q size slotted heads =
    let e : held m q ≡ held l q = heads (held_at q) (omega arith) (omega arith) in
    let f : taken m q ≡ taken l q = heads (taken_at q) (omega arith) (omega arith) in
    record {
      head = λ h. let a = h.room in let b = h.first in record { room = omega arith; first = omega arith };
      copies = λ h. subst (AllOf (IsCopy n s from)) (sym (link_same l m q size h.room h.first slotted (λ j x y. heads j x (omega arith))).copies);
      messages = λ h. subst (AllOf (IsMessage n s from)) (sym (link_same l m q size h.room h.first slotted (λ j x y. heads j x (omega arith))).waiting);
    }

pub stored_same : (n : Counts) (l m : List ℕ) (d k : ℕ) → stored m d k ≡ stored l d k → kept_fit n k (stored l d k) ≡ true → kept_fit n k (stored m d k) ≡ true
stored_same n l m d k e h = ap (kept_fit n k) e ∙ h

-- ---- changes together

pub keeps_then : (n : Counts) (l m v : List ℕ) → Keeps n l m → Keeps n m v → Keeps n l v
keeps_then n l m v K J =
    record {
      size = J.size ∙ K.size;
      low = λ j k. J.low j k ∙ K.low j k;
      crews = λ c k h. J.crews c k (K.crews c k h);
      clocks = λ d s a b h. J.clocks d s a b (K.clocks d s a b h);
      stables = λ d s a b h. J.stables d s a b (K.stables d s a b h);
      stamps = λ d s x a b k h. J.stamps d s x a b k (K.stamps d s x a b k h);
      links = λ s from to a b c f.
          let p = K.links s from to a b c f in
          let q = J.links s from to a b c f in
          record {
            head = λ h. q.head (p.head h);
            copies = λ h g. q.copies (p.head h) (p.copies h g);
            messages = λ h g. q.messages (p.head h) (p.messages h g);
          };
      stores = λ d k a b h. J.stores d k a b (K.stores d k a b h);
    }

-- a change of the crews' vectors and of the stored versions alone
pub keeps_off :
    (n : Counts) (l m : List ℕ) → Within n → length m ≡ length l → Same l m 0 20 → ((c : ℕ) → c < n.crews → CrewOk n l c → CrewOk n m c) → Same l m 84 10596 →
    ((d k : ℕ) → d < n.depots → k < n.bearings → kept_fit n k (stored l d k) ≡ true → kept_fit n k (stored m d k) ≡ true) → Keeps n l m
keeps_off n l m W size low crews mid stores =
    let a = W.depots in
    let b = W.shelves in
    record {
      size = size;
      low = λ j k. low j (omega arith) k;
      crews = crews;
      clocks = λ d s hd hs. clock_same n l m W d s hd hs (λ j x y. mid j x (omega arith));
      stables = λ d s hd hs. stable_same n l m W d s hd hs (λ j x y. mid j (omega arith) (omega arith));
      stamps = λ d s x hd hs. stamp_same n l m W d s hd hs (λ j x y. mid j (omega arith) (omega arith)) x;
      links = λ s from to hs hf ht f.
          link_stays n l m s from (link_of s from to) size (λ j x y. mid j (omega arith) (omega arith)) (λ j x y. mid j (omega arith) (omega arith));
      stores = stores;
    }

-- ---- a fit book stays fit

pub keeps_whole : (n : Counts) (l m : List ℕ) → Keeps n l m → Whole n l → Whole n m
keeps_whole n l m K W =
    record {
      full = K.size ∙ W.full;
      same = counts_same l m (λ j k. K.low j (omega arith)) ∙ W.same;
      counts = W.counts;
      within = W.within;
      parts =
          record {
            homes = λ c k. let a = W.within.crews in rw (K.low (4 + c) (omega arith)) (W.parts.homes c k);
            crews = λ c k. K.crews c k (W.parts.crews c k);
            shelves = λ d s hd hs.
                let old = W.parts.shelves d s hd hs in
                let stable = K.stables d s hd hs (record { own = old.own; others = old.stables }) in
                record {
                  clocked = K.clocks d s hd hs old.clocked;
                  own = stable.own;
                  stables = stable.others;
                  seens = λ x k f. K.stamps d s x hd hs k (old.seens x k f);
                };
            links = λ s from to a b c f. link_kept n l m s from (link_of s from to) (K.links s from to a b c f) (W.parts.links s from to a b c f);
            stores = λ d k a b. K.stores d k a b (W.parts.stores d k a b);
          };
    }

pub keeps_fit : (l m : List ℕ) → Keeps (counts_of l) l m → fit l ≡ true → fit m ≡ true
keeps_fit l m K F = whole_close (counts_of l) m (keeps_whole (counts_of l) l m K (whole_open l F))
