-- A list's answer as words, read back; and from the numbers worked out to the crew and the bearings.
-- Assumes nothing.
use Prim.Native.Nat.{ℕ, ◌≤◌, ◌<◌}
use native.Mathlib.Omega.{arith}
use mathlib.Core.Path.{◌≡◌, sym, ◌∙◌, ap, ap₂, subst, subst₂}
use mathlib.Core.List.{List, [], ◌∷◌, map}
use mathlib.Core.Bool.{true}
use lib.ListN.{length, length-map}
use Rattle.std.proofs.Common.{Ok}
use Rattle.loops.proofs.BoolLaws.{and_right}
use Rattle.loops.proofs.LoopLaws.{every_at}
use Rattle.order.specs.Vector.{vector_in}
use Rattle.book.specs.declared.parts.Counts.{Counts}
use Rattle.book.specs.Layout.{counts_of, home, crew_vector, stored}
use Rattle.fit.specs.Fit.{crew_fit}
use Rattle.named.specs.Named.{listed_fit, page_parts, list_parts}
use Rattle.named.proofs.NamedLaws.{Based}
use Rattle.shelf.specs.Asks.{Ready}
use Rattle.links.specs.Send.{four_of}
use Rattle.paper.specs.Calls.{Told, listed}
use Rattle.paper.specs.declared.answer.Page.{Page}
use Rattle.paper.specs.Answers.{told_all, paper_list, tellings, entries_told, depots_told, page_words, HoldsAll}
use Rattle.paper.proofs.Pages.{told_back}
use Rattle.register.specs.Answers.{told}
use Rattle.register.specs.Calls.{gathered_from, settled_all, merged_all, page_vector, page_book, page_told, list_book}
use Rattle.register.proofs.FitReady.{show_ready}
use Rattle.moment.proofs.MomentLaws.{record_back, record_entries}

-- ---- the answer

-- a list that is done tells of each
depots_told_law : (n : ℕ) (f : ℕ → Told) (ks : List ℕ) → ((k : ℕ) → n ≡ length (entries_told (f k))) → 1 ≤ length ks → n ≡ depots_told (map f ks)
unfolding depots_told
depots_told_law n f [] h l = absurd (omega arith)
depots_told_law n f (k ∷ ks) h l = h k

pub list_told :
    (n : ℕ) (r : ℕ → List ℕ) (ks : List ℕ) {w : List ℕ} → n ≤ 4 → 1 ≤ length ks → length ks ≤ 8 → w ≡ page_words 8 (map (λ k. told n (r k)) ks) →
    let a : Page = record { bearings = length ks; depots = n; words = w } in
    (paper_list (Ok a) ≡ listed (map (λ k. told n (r k)) ks)) × HoldsAll (paper_list (Ok a)) a
unfolding paper_list tellings
list_told n r ks {w} h a b e =
    let back = ap (told_all n (length ks)) e ∙ told_back n 8 (λ k. told n (r k)) (λ k. record_back n (r k) h) ks b in (
      ap listed back,
      record {
        words = e ∙ ap (page_words 8) (sym back);
        bearings = sym (length-map ks (λ k. told n (r k))) ∙ ap (λ (ts : List Told). length ts) (sym back);
        depots = depots_told_law n (λ k. told n (r k)) ks (λ k. record_entries n (r k) h) a ∙ ap depots_told (sym back);
      },
    )

-- ---- from the numbers worked out to the crew and the bearings

module _ (l : List ℕ) (c : ℕ) {n : Counts} (en : n ≡ counts_of l) {d : ℕ} (ed : d ≡ home l c) where
  pub parts_listed : (ks : List ℕ) → page_parts n l c ks d ≡ list_parts (counts_of l) l c ks
  unfolding list_parts
  parts_listed ks = ap₂ (λ (m : Counts) (x : ℕ). page_parts m l c ks x) en ed

  -- every home shelf is ready
  pub shelves_ready : (ks : List ℕ) → Based l → c < (counts_of l).crews → list_parts (counts_of l) l c ks ≡ true → (s : ℕ) → s < n.shelves → Ready n.depots d s l
  unfolding list_parts page_parts
  shelves_ready ks B hc h s k =
      let hs = subst (λ (m : Counts). s < m.shelves) en k in
      subst₂ (λ (m : Counts) (x : ℕ). Ready m.depots x s l) (sym en) (sym ed)
      (show_ready (counts_of l) l B.within (home l c) s (B.homes c hc) hs
      (every_at (counts_of l).shelves _ (and_right (listed_fit (counts_of l) l (home l c) ks) _ (and_right (crew_fit (counts_of l) l c) _ h)) s hs))

  -- what is offered, and the shelves raised with it and shown
  pub page_book_law : {u w m : List ℕ} → u ≡ four_of (crew_vector l c) → w ≡ gathered_from n.depots n.shelves d l u → m ≡ settled_all n.depots n.shelves d
      (vector_in w) l → m ≡ page_book l c
  unfolding page_book page_vector
  page_book_law {u} {w} eu ew em =
      em
      ∙ ap (λ (v : Counts). settled_all v.depots v.shelves d (vector_in w) l) en
      ∙ ap₂ (λ (x : ℕ) (y : List ℕ). settled_all (counts_of l).depots (counts_of l).shelves x (vector_in y) l) ed
      (ew
      ∙ ap (λ (v : Counts). gathered_from v.depots v.shelves d l u) en
      ∙ ap₂ (λ (x : ℕ) (y : List ℕ). gathered_from (counts_of l).depots (counts_of l).shelves x l y) ed eu)

  module _ (ks : List ℕ) {m : List ℕ} (em : m ≡ page_book l c) where
    pub page_told_law : map (λ k. told n.depots (stored m d k)) ks ≡ page_told l c ks
    unfolding page_told
    page_told_law =
        ap (λ (v : Counts). map (λ k. told v.depots (stored m d k)) ks) en
        ∙ ap₂ (λ (x : ℕ) (y : List ℕ). map (λ k. told (counts_of l).depots (stored y x k)) ks) ed em

    pub page_merged : {v : List ℕ} → v ≡ merged_all n.depots c d ks m → v ≡ list_book l c ks
    unfolding list_book
    page_merged ev =
        ev
        ∙ ap (λ (v : Counts). merged_all v.depots c d ks m) en
        ∙ ap₂ (λ (x : ℕ) (y : List ℕ). merged_all (counts_of l).depots c x ks y) ed em
