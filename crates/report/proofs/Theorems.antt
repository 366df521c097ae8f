-- What is said of the words that were stored is what is to be said of the lines; one answer fits each input, and it is never "bad length".
-- Assumes nothing.
use Prim.Native.Nat.{ℕ, zero, suc, ◌+◌, ◌*◌, ◌%◌, ◌≤◌, ◌<◌}
use native.Mathlib.Nat.{zero-add}
use native.Mathlib.Omega.{arith}
use mathlib.Core.Path.{◌≡◌, refl, sym, ◌∙◌, ap, ap₂, subst, subst₂}
use mathlib.Core.Logic.{⊎_elim}
use mathlib.Core.List.{List, [], ◌∷◌, ◌++◌}
use Rattle.std.specs.Prelude.{Option, None, Some}
use lib.ListN.{length, get_or, take, length-append, get_or-append}
use lib.Seq.{get_or-append-add, get_or-take, take_at}
use Rattle.line.specs.Printing.{Wrote}
use Rattle.line.proofs.PrintLaws.{wrote_length}
use Rattle.line.proofs.Theorems.{wrote_bytes}
use Rattle.loops.proofs.BoolLaws.{le_or_lt}
use Rattle.entries.specs.Entries.{kind}
use Rattle.auditor.specs.Verdict.{If, so, not_so, Names, first, Verdict}
use Rattle.auditor.specs.Verdict as verdict
use Rattle.auditor.specs.declared.finding.Finding.{Finding}
use Rattle.auditor.specs.declared.finding.Finding.TheVariants.{BadLength}
use Rattle.auditor.proofs.Unique.{One, if_one, names_one, verdict_unique}
use Rattle.history.specs.Entry.{Says, a_write, a_read, an_unwritten, entry_in, stored}
use Rattle.history.specs.Stream.{lines_of, words_of, Read, Seen, state, start, through, finished}
use Rattle.history.proofs.Accepted.{read_says, stored_length}
use Rattle.history.proofs.Whole.{read_few, read_many}
use Rattle.report.specs.Report.{Audited, found, Told, Reported, spoken, Output, Concluded}
use Rattle.report.specs.declared.report.Said.{Said}
use Rattle.report.specs.declared.report.Said.TheVariants.{Found}
use Rattle.report.proofs.SayLaws.{spoken_length}

-- ---- the kind that is stored of a line

words_kind : (ls : List (List ℕ)) (i : ℕ) → i < length ls → get_or (words_of ls) (i * 11) 0 ≡ get_or (stored (entry_in (get_or ls i []))) 0 0
unfolding words_of
words_kind [] i l = absurd (omega arith)
words_kind (s ∷ ss) zero l = let e = stored_length s in get_or-append (stored (entry_in s)) (words_of ss) 0 0 (omega arith)
words_kind (s ∷ ss) (suc i) l =
    let e = stored_length s in
    ap (λ (p : ℕ). get_or (stored (entry_in s) ++ words_of ss) p 0) (omega arith)
    ∙ get_or-append-add (stored (entry_in s)) (words_of ss) (i * 11) 0 ∙ words_kind ss i (omega arith)

says_kind : {s ws : List ℕ} → Says s ws → get_or ws 0 0 ≡ 2 → ⊥
says_kind (a_write e r) k = omega arith
says_kind (a_read e r) k = omega arith
says_kind (an_unwritten r) k = omega arith

kind_bad : (s : List ℕ) → get_or (stored (entry_in s)) 0 0 ≡ 2 → entry_in s ≡ None
unfolding stored
kind_bad s = go (entry_in s) refl
  where
    go : (m : Option (List ℕ)) → entry_in s ≡ m → get_or (stored m) 0 0 ≡ 2 → m ≡ None
    go None e k = refl
    go (Some ws) e k = absurd (says_kind (read_says s ws e) k)

bad_kind_law : (s : List ℕ) → entry_in s ≡ None → get_or (stored (entry_in s)) 0 0 ≡ 2
bad_kind_law s e = ap (λ (m : Option (List ℕ)). get_or (stored m) 0 0) e ∙ unfold stored in refl

-- ---- few lines: the words stored are those of the lines

module _ (words : List ℕ) (lines : ℕ) (ls : List (List ℕ)) (count : lines ≡ length ls) (few : length ls ≤ 256) (same : take (length ls * 11) words ≡ words_of ls) where
  here : (i : ℕ) → i < lines → kind words i ≡ get_or (stored (entry_in (get_or ls i []))) 0 0
  here i l =
      sym (get_or-take (length ls * 11) words (i * 11) 0 (omega arith)) ∙ ap (λ (w : List ℕ). get_or w (i * 11) 0) same ∙ words_kind ls i (omega arith)

  audited : {s : Said} → Audited (take (lines * 11) words) s → Audited (words_of ls) s
  audited {s} a = subst (λ (h : List ℕ). Audited h s) (ap (λ (n : ℕ). take (n * 11) words) count ∙ same) a

  told_few : {s : Said} → Reported words lines s → Told ls s
  told_few (so p) = absurd (omega arith)
  told_few (not_so p (first {i} a)) =
      not_so (λ l. omega arith)
      (first {i = i}
      (record {
        below = let b = a.below in omega arith;
        here = kind_bad (get_or ls i []) (sym (here i a.below) ∙ a.here);
        before = λ j l e. let b = a.below in a.before j l (here j (omega arith) ∙ bad_kind_law (get_or ls j []) e);
      }))
  told_few (not_so p (verdict.none f g)) =
      not_so (λ l. omega arith) (verdict.none (λ j l e. f j (omega arith) (here j (omega arith) ∙ bad_kind_law (get_or ls j []) e)) (audited g))

told_many : (words : List ℕ) (lines : ℕ) (ls : List (List ℕ)) {s : Said} → lines ≡ 257 → 256 < length ls → Reported words lines s → Told ls s
told_many words lines ls e l (so p) = so l
told_many words lines ls e l (not_so p r) = absurd (p (omega arith))

-- ---- the whole input

-- what is said of the words that an input leaves is what is to be said of its lines
pub reported_told : (t : List ℕ) {s : Said} → Reported (finished (through start t)).words (finished (through start t)).lines s → Told (lines_of t) s
reported_told t r =
    ⊎_elim
    (λ (l : length (lines_of t) ≤ 256). let few = read_few t l in told_few _ _ (lines_of t) few.0 l few.1 r)
    (λ (l : 256 < length (lines_of t)). told_many _ _ (lines_of t) (read_many t l) l r)
    (le_or_lt (length (lines_of t)) 256)

-- so the answer's line is the output for the bytes that were read
pub concluded : {words line words' o o' : List ℕ} {kept lines total n : ℕ} {s : Said} → Seen words line kept lines
    → state words' line 0 total ≡ finished (state words line kept lines) → Reported words' total s → Wrote o 0 (spoken s) o' n → 32 ≤ length o
    → Concluded o' n
concluded {words} {line} {words'} {o} {s = s} seen e r w room =
    let end : state words' line 0 _ ≡ finished (through start seen.bytes) = e ∙ ap finished seen.after in
    let length-o' = wrote_length w in
    let short = spoken_length s in
    record {
      within = omega (arith, w.after);
      bytes = seen.bytes;
      output = record {
        said = s;
        told = reported_told seen.bytes (subst₂ (λ (x : List ℕ) (y : ℕ). Reported x y s) (ap (λ (q : Read). q.words) end) (ap (λ (q : Read). q.lines) end) r);
        bytes =
            ap₂ (λ (n : ℕ) (l : List ℕ). take n l) w.after (wrote_bytes (record { room = omega arith }) w)
            ∙ take_at (spoken s) _ (0 + length (spoken s)) (sym (zero-add (length (spoken s))));
      };
    }

-- ---- one answer

audited_one : {h : List ℕ} → One (Audited h)
audited_one f g (found p) (found q) = ap Found (verdict_unique p q)

pub told_unique : (ls : List (List ℕ)) {s s' : Said} → Told ls s → Told ls s' → s ≡ s'
told_unique ls p q = if_one (names_one audited_one) _ _ p q

pub output_unique : {t o o' : List ℕ} → Output t o → Output t o' → o ≡ o'
output_unique {t} p q = p.bytes ∙ ap spoken (told_unique (lines_of t) p.told q.told) ∙ sym q.bytes

-- ---- never "bad length"

words_length : (ls : List (List ℕ)) → length (words_of ls) ≡ length ls * 11
unfolding words_of
words_length [] = refl
words_length (s ∷ ss) = length-append (stored (entry_in s)) (words_of ss) ∙ ap₂ (λ (x y : ℕ). x + y) (stored_length s) (words_length ss) ∙ omega arith

verdict_whole : {h : List ℕ} {f : Finding} → length h % 11 ≡ 0 → Verdict h f → f ≡ BadLength → ⊥
verdict_whole w (so p) e = let z : ◌≡◌ {A = ℕ} 0 1 = cc in omega arith
verdict_whole w (not_so p (so q)) e = q w
verdict_whole w (not_so p (not_so q (first a))) e = let z : ◌≡◌ {A = ℕ} 0 1 = cc in omega arith
verdict_whole w (not_so p (not_so q (verdict.none a (first b)))) e = let z : ◌≡◌ {A = ℕ} 0 1 = cc in omega arith
verdict_whole w (not_so p (not_so q (verdict.none a (verdict.none b (first d))))) e = let z : ◌≡◌ {A = ℕ} 0 1 = cc in omega arith
verdict_whole w (not_so p (not_so q (verdict.none a (verdict.none b (verdict.none d f))))) e = let z : ◌≡◌ {A = ℕ} 0 1 = cc in omega arith

audited_whole : {h : List ℕ} {s : Said} → length h % 11 ≡ 0 → Audited h s → s ≡ Found BadLength → ⊥
audited_whole w (found {f} p) e = let same : f ≡ BadLength = cc in verdict_whole w p same

pub never_bad_length : (ls : List (List ℕ)) {s : Said} → Told ls s → s ≡ Found BadLength → ⊥
never_bad_length ls (so p) e = let z : ◌≡◌ {A = ℕ} 0 1 = cc in omega arith
never_bad_length ls (not_so p (first a)) e = let z : ◌≡◌ {A = ℕ} 0 1 = cc in omega arith
never_bad_length ls (not_so p (verdict.none a b)) e = let l = words_length ls in audited_whole (omega arith) b e
