-- What is told of a journal: whole, cut at any byte, with a record that is refused, or with a byte of no kind. The promise, and what replaying comes to.
-- Assumes nothing.
use Prim.Native.Nat.{ℕ}
use mathlib.Core.Path.{◌≡◌, ◌∙◌, ap}
use mathlib.Core.Option.{none}
use mathlib.Core.List.{List, ◌∷◌, ◌++◌}
use lib.ListN.{length, take}
use Rattle.upkeep.specs.Requests.{Request, number_at, last}
use Rattle.wire.specs.Wire.{word_limit, Below}
use Rattle.journal.specs.Record.{kind_of, numbers_of, record_bytes}
use Rattle.journal.specs.Journal.{journal, Done, whole_in, Recovered, start, replay, end_by, end_of}
use Rattle.journal.proofs.Theorems.{recovers, recovers_cut, stops_refused, stops_strange}
use Rattle.recovery.specs.declared.Recovered as answer
use Rattle.recovery.specs.Promises.{Recovery}

told : {l f l' : List ℕ} {a : answer.Recovered} (s : Recovered) → replay (start l) f ≡ s → Recovery l f a l' → (l' ≡ s.book) × (a.done ≡ s.done) × (a.bytes ≡ s.bytes) × (a.end ≡ end_of s)
told s e p = (
  p.book ∙ ap (λ (x : Recovered). x.book) e,
  p.done ∙ ap (λ (x : Recovered). x.done) e,
  p.bytes ∙ ap (λ (x : Recovered). x.bytes) e,
  p.end ∙ ap end_of e,
)

module _ {l l' : List ℕ} {rs : List Request} {a : answer.Recovered} (d : Done l rs) where
  -- the journal of a history: its book, how many records and bytes, and that it is whole
  pub recover_whole : Recovery l (journal rs) a l' → (l' ≡ last l rs) × (a.done ≡ length rs) × (a.bytes ≡ length (journal rs)) × (a.end ≡ 0)
  unfolding end_of end_by
  recover_whole p = told _ (recovers d) p

  -- cut at any byte: the book after the whole records before the cut, and how many they are
  pub recover_cut :
      (c : ℕ) → Recovery l (take c (journal rs)) a l' →
      (l' ≡ last l (take (whole_in c rs) rs)) × (a.done ≡ whole_in c rs) × (a.bytes ≡ length (journal (take (whole_in c rs) rs)))
  recover_cut c p = let t = told _ (recovers_cut c d) p in (t.0, t.1, t.2)

  -- a record that would be refused: the book before it, and its number
  pub recover_refused :
      (f : List ℕ) (r : Request) → Below word_limit (numbers_of r) → (number_at (last l rs) r ≡ 0 → ⊥) → Recovery l (journal rs ++ (record_bytes r ++ f)) a l' →
      (l' ≡ last l rs) × (a.done ≡ length rs) × (a.bytes ≡ length (journal rs)) × (a.end ≡ number_at (last l rs) r)
  unfolding end_of end_by
  recover_refused f r b z p = told _ (stops_refused d f r b z) p

  -- a byte of no kind
  pub recover_strange :
      (f : List ℕ) (x : ℕ) → kind_of x ≡ none → Recovery l (journal rs ++ (x ∷ f)) a l' →
      (l' ≡ last l rs) × (a.done ≡ length rs) × (a.bytes ≡ length (journal rs)) × (a.end ≡ 110)
  unfolding end_of end_by
  recover_strange f x e p = told _ (stops_strange d f x e) p
