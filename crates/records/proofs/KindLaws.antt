-- A number that is a kind's byte names it, and any other names none; a kind, known by its case.
-- Assumes nothing.
use Prim.Native.Nat.{ℕ}
use mathlib.Core.Path.{◌≡◌, refl, sym, ◌∙◌, ap}
use mathlib.Core.Logic.{⊎_elim}
use mathlib.Core.Option.{none}
use Rattle.std.specs.Prelude.{Some}
use borrow.Author.Tests.{ne_eqb}
use Rattle.loops.proofs.BoolLaws.{pick_false}
use Rattle.journal.specs.declared.record.Kind.{Kind}
use Rattle.journal.specs.Record.{byte_of, kind_of}
use Rattle.journal.proofs.ByKind.{kind_back}
use Rattle.records.specs.Kinds.{named_by}

pub names_kind : (k : Kind) {n : ℕ} → n ≡ byte_of k → Some k ≡ named_by (kind_of n)
unfolding named_by
names_kind k e = sym (ap named_by (ap kind_of e ∙ kind_back k))

pub names_none :
    (n : ℕ) → (n ≡ 1 → ⊥) → (n ≡ 2 → ⊥) → (n ≡ 3 → ⊥) → (n ≡ 4 → ⊥) → (n ≡ 5 → ⊥) → (n ≡ 6 → ⊥) → (n ≡ 7 → ⊥) → (n ≡ 8 → ⊥) → kind_of n ≡ none
unfolding kind_of
names_none n a b c d e f g h =
    pick_false _ _ (ne_eqb n 1 a)
    ∙ pick_false _ _ (ne_eqb n 2 b)
    ∙ pick_false _ _ (ne_eqb n 3 c)
    ∙ pick_false _ _ (ne_eqb n 4 d)
    ∙ pick_false _ _ (ne_eqb n 5 e)
    ∙ pick_false _ _ (ne_eqb n 6 f)
    ∙ pick_false _ _ (ne_eqb n 7 g)
    ∙ pick_false _ _ (ne_eqb n 8 h)
