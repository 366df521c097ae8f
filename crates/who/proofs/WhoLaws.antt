-- The table of `who_has`, row by row, and from its number to the promise.
-- Assumes nothing.
use Prim.Native.Nat.{ℕ, ◌≤◌, ◌<◌}
use mathlib.Core.Path.{◌≡◌, sym, ◌∙◌, ap, ap₂}
use mathlib.Core.Bool.{true, false, not}
use mathlib.Core.List.{List}
use lib.Count.{ones}
use borrow.Author.Tests.{le-leb, lt-leb, eq-eqb}
use Rattle.loops.proofs.BoolLaws.{pick_true, pick_false, and_next, and_stop, or_next, or_stop, not_failed}
use Rattle.book.specs.declared.parts.Counts.{Counts}
use Rattle.book.specs.Layout.{counts_of}
use Rattle.named.specs.Named.{base_fit}
use Rattle.paper.specs.declared.answer.Refusal.{Refusal}
use Rattle.paper.specs.Answers.{number_of}
use Rattle.register.proofs.TableLaws.{first_stop, first_next, first_none}
use Rattle.register.proofs.CallLaws.{not_done}
use Rattle.std.specs.Prelude.{Ok, Err}
use Rattle.who.specs.Bits.{mask_of}
use Rattle.who.specs.Who.{has_it, who_parts, who_fit, who_number, has, refused, paper_who, holders, who_told, WhoHas}
use Rattle.who.proofs.MaskLaws.{mask_ones}

module _ (l : List ℕ) (d k : ℕ) where
  -- ---- the rows

  pub who_book : base_fit l ≡ false → who_number l d k ≡ 1
  unfolding who_number who_fit
  who_book f = first_stop _ _ _ (not_failed (and_stop _ f))

  module _ (f : base_fit l ≡ true) where
    pub who_depot : (counts_of l).depots ≤ d → who_number l d k ≡ 2
    unfolding who_number who_fit
    who_depot h = let out = le-leb _ _ h in first_next _ _ _ (ap not (and_next _ f ∙ or_stop _ out)) ∙ first_stop _ _ _ out

    module _ (h : d < (counts_of l).depots) where
      pub who_key : (counts_of l).bearings ≤ k → who_number l d k ≡ 4
      unfolding who_number who_fit
      who_key j =
          let out = le-leb _ _ j in
          let in-range = lt-leb _ _ h in
          first_next _ _ _ (ap not (and_next _ f ∙ or_next _ in-range ∙ or_stop _ out)) ∙ first_next _ _ _ in-range ∙ first_stop _ _ _ out

      module _ (j : k < (counts_of l).bearings) where
        -- with both numbers in range the parts decide
        pub who_named : who_fit l d k ≡ who_parts (counts_of l) l k
        unfolding who_fit
        who_named = and_next _ f ∙ or_next _ (lt-leb _ _ h) ∙ or_next _ (lt-leb _ _ j)

        pub who_parts_law : who_parts (counts_of l) l k ≡ false → who_number l d k ≡ 1
        unfolding who_number
        who_parts_law p = first_stop _ _ _ (not_failed (who_named ∙ p))

        pub who_good : who_parts (counts_of l) l k ≡ true → who_number l d k ≡ 0
        unfolding who_number
        who_good p = first_next _ _ _ (ap not (who_named ∙ p)) ∙ first_next _ _ _ (lt-leb _ _ h) ∙ first_next _ _ _ (lt-leb _ _ j) ∙ first_none

  -- ---- from the number to the promise

  pub who_refused : (r : Refusal) → who_number l d k ≡ number_of r → WhoHas l d k (Err r)
  unfolding paper_who who_told
  who_refused r e = record { answer = ap refused (sym e) ∙ sym (pick_false _ _ (not_done r e)) }

  -- with the counts, the depot and the bearing as the code has them
  pub who_done : who_number l d k ≡ 0 → {n : Counts} {e b mask : ℕ} → n ≡ counts_of l → d ≡ e → k ≡ b → mask ≡ mask_of n.depots (has_it n.depots l e b)
      → WhoHas l d k (Ok (record { mask = mask; count = ones mask }))
  unfolding paper_who who_told holders
  who_done done {n} {e} {b} same depot bearing told =
      let m = told ∙ ap (λ (n : Counts). mask_of n.depots (has_it n.depots l e b)) same
      ∙ ap₂ (λ (x y : ℕ). mask_of (counts_of l).depots (has_it (counts_of l).depots l x y)) (sym depot) (sym bearing) in
      record { answer = ap₂ has m (ap ones m ∙ mask_ones _ (counts_of l).depots) ∙ sym (pick_true _ _ (eq-eqb _ 0 done)) }
