-- The theorems on lines, for any bytes whatsoever: a line is accepted exactly if it is in the grammar, it has one reading, printing and
-- reading back agree, and each number has one spelling.
-- Assumes nothing.
use Prim.Native.Nat.{ℕ, ◌+◌, ◌-◌, ◌≤◌, ◌<◌}
use native.Mathlib.Omega.{arith}
use mathlib.Core.Path.{◌≡◌, refl, sym, ◌∙◌, ap, subst}
use mathlib.Core.Logic.{◌↔◌, ⊎_elim}
use mathlib.Core.List.{List, [], ◌∷◌, ◌++◌, append-nil}
use Rattle.std.specs.Prelude.{Option, None, Some}
use mathlib.Core.Bool.{true, false}
use lib.Dec.{leb}
use lib.ListN.{length, get_or, take, drop, replicate, length-drop}
use lib.Seq.{sets, sets-eq, take-length, take-append_seam, take_at, drop-append-le, get_or-take}
use Rattle.std.proofs.lemmas.Option.{none-some, same_Some}
use borrow.Author.Tests.{le-leb, leb-true}
use Rattle.loops.proofs.BoolLaws.{decided, le_or_lt, pick_true, pick_false}
use Rattle.line.specs.Number.{decimal, digit_run, value_from, is_number, most_number, Spells}
use Rattle.line.specs.Grammar.{letter, least, most, most_bytes, most_numbers, line_for, word_sized, InGrammar}
use Rattle.line.specs.Reading.{Reading, bad, good, event_of, numbers_in, counted, named, headed, reading, line_of}
use Rattle.line.specs.Printing.{Room, Wrote}
use Rattle.request.specs.declared.ask.Event.{Event}
use Rattle.request.specs.declared.ask.Event.TheVariants as event
use Rattle.line.specs.declared.reader.Line.{Line}
use Rattle.line.proofs.NumberLaws.{number_parts}
use Rattle.line.proofs.LineLaws.{reading_long, reading_short, reading_event}
use Rattle.line.proofs.SpellingLaws.{decimal_run, decimal_value, decimal_is_number}
use Rattle.line.proofs.OneSpelling.{number_is_decimal}
use Rattle.line.proofs.PrintLaws.{spaced_least}
use Rattle.line.proofs.GrammarLaws.{numbers_printed, numbers_read, event_back}

-- ---- numbers

pub decimal_spells : (n : ℕ) → n ≤ most_number → Spells (decimal n) n
unfolding digit_run
decimal_spells n h =
    record {
      all_digits = ap digit_run (sym (append-nil (decimal n))) ∙ decimal_run n [] h refl;
      number = ap is_number (sym (append-nil (decimal n))) ∙ decimal_is_number n [] h refl;
      value = ap (value_from 0) (sym (append-nil (decimal n))) ∙ decimal_value n [] h refl;
    }

-- each number has one spelling
pub one_spelling : (ds : List ℕ) (n : ℕ) → Spells ds n → ds ≡ decimal n
one_spelling ds n h =
    sym (take-length ds)
    ∙ ap (λ (k : ℕ). take k ds) (sym h.all_digits)
    ∙ number_is_decimal ds (number_parts ds h.number)
    ∙ ap decimal h.value

-- and each spelling is one number's
pub one_number : (m n : ℕ) → m ≤ most_number → n ≤ most_number → decimal m ≡ decimal n → m ≡ n
one_number m n p q e = sym (decimal_spells m p).value ∙ ap (value_from 0) e ∙ (decimal_spells n q).value

-- ---- lines

-- a line in the grammar is read as what it says
pub says_read : (s : List ℕ) (e : Event) (ns : List ℕ) → InGrammar s e ns → reading s ≡ good e ns
unfolding line_for counted
says_read s e ns h =
    reading_event e s h.short (λ z. let l = ap length h.bytes in omega arith) (ap (λ (l : List ℕ). get_or l 0 0) h.bytes)
    ∙ ap (λ (l : List ℕ). counted e (least e) (numbers_in (most e) (drop 1 l))) h.bytes
    ∙ ap (counted e (least e)) (numbers_printed (most e) ns h.not_over h.in_range)
    ∙ pick_true _ _ (le-leb (least e) (length ns) h.enough)

-- what a bad line is not
never : (e : Event) (ns : List ℕ) → bad ≡ good e ns → ⊥
never e ns h = let z : ◌≡◌ {A = ℕ} 0 1 = cc in omega arith

counted_says : (b : ℕ) (l : List ℕ) (e' e : Event) (ns : List ℕ) (m : Option (List ℕ))
    → length (b ∷ l) ≤ most_bytes
    → b ≡ letter e'
    → numbers_in (most e') l ≡ m
    → counted e' (least e') m ≡ good e ns
    → InGrammar (b ∷ l) e ns
unfolding counted line_for
counted_says b l e' e ns None short p q h = absurd (never e ns h)
counted_says b l e' e ns (Some ns') short p q h =
    ⊎_elim
    (λ (t : leb (least e') (length ns') ≡ true).
    let same : good e' ns' ≡ good e ns = sym (pick_true _ _ t) ∙ h in
    let event : e' ≡ e = cc in
    let list : ns' ≡ ns = cc in
    let said : InGrammar (b ∷ l) e' ns' =
    let prints = numbers_read (most e') l ns' q in
    record {
      bytes = ap (λ (x : ℕ). x ∷ l) p ∙ ap (λ (y : List ℕ). letter e' ∷ y) prints.bytes;
      enough = leb-true (least e') (length ns') t;
      not_over = prints.not_over;
      in_range = prints.in_range;
      short = short;
    } in
    rw (event, list) at said)
    (λ (t : leb (least e') (length ns') ≡ false). absurd (never e ns (sym (pick_false _ _ t) ∙ h)))
    (decided (leb (least e') (length ns')))

named_says : (b : ℕ) (l : List ℕ) (o : Option Event) (e : Event) (ns : List ℕ)
    → length (b ∷ l) ≤ most_bytes
    → event_of b ≡ o
    → named o l ≡ good e ns
    → InGrammar (b ∷ l) e ns
unfolding named
named_says b l None e ns short p h = absurd (never e ns h)
named_says b l (Some e') e ns short p h = counted_says b l e' e ns (numbers_in (most e') l) short (event_back b e' p) refl h

headed_says : (s : List ℕ) (e : Event) (ns : List ℕ) → length s ≤ most_bytes → headed s ≡ good e ns → InGrammar s e ns
unfolding headed
headed_says [] e ns short h = absurd (never e ns h)
headed_says (b ∷ l) e ns short h = named_says b l (event_of b) e ns short refl h

-- what is read as an event and its numbers is in the grammar and says so
pub read_says : (s : List ℕ) (e : Event) (ns : List ℕ) → reading s ≡ good e ns → InGrammar s e ns
read_says s e ns h =
    ⊎_elim
    (λ (l : length s ≤ 120). headed_says s e ns l (sym (reading_short s l) ∙ h))
    (λ (l : 120 < length s). absurd (never e ns (sym (reading_long s l) ∙ h)))
    (le_or_lt (length s) 120)

-- accepted exactly if it is in the grammar
pub accepted_exactly : (s : List ℕ) (e : Event) (ns : List ℕ) → (reading s ≡ good e ns) ↔ InGrammar s e ns
accepted_exactly s e ns = (read_says s e ns, says_read s e ns)

-- and BAD LINE exactly if it is not
pub refused_exactly : (s : List ℕ) → (reading s ≡ bad) ↔ ((e : Event) (ns : List ℕ) → InGrammar s e ns → ⊥)
refused_exactly s = (λ h e ns w. never e ns (sym h ∙ says_read s e ns w), λ h. other (reading s) refl h)
  where
    other : (r : Reading) → reading s ≡ r → ((e : Event) (ns : List ℕ) → InGrammar s e ns → ⊥) → reading s ≡ bad
    other bad p h = p
    other (good e ns) p h = absurd (h e ns (read_says s e ns p))

-- one reading
pub one_reading : (s : List ℕ) (e e' : Event) (ns ns' : List ℕ) → InGrammar s e ns → InGrammar s e' ns' → (e ≡ e') × (ns ≡ ns')
one_reading s e e' ns ns' p q =
    let same : good e ns ≡ good e' ns' = sym (says_read s e ns p) ∙ says_read s e' ns' q in
    (cc, cc)

-- reading back what was printed gives the same event and numbers
pub read_printed : (e : Event) (ns : List ℕ) → least e ≤ length ns → length ns ≤ most e → word_sized ns ≡ true → length (line_for e ns) ≤ most_bytes → reading (line_for e ns) ≡ good e ns
read_printed e ns p q r l = says_read (line_for e ns) e ns (record { bytes = refl; enough = p; not_over = q; in_range = r; short = l })

-- an accepted line is the printed form of its reading
pub printed_read : (s : List ℕ) (e : Event) (ns : List ℕ) → reading s ≡ good e ns → s ≡ line_for e ns
printed_read s e ns h = (read_says s e ns h).bytes

-- a line of a list takes as many bearings as its bytes hold: only the bytes are counted
pub any_count : (s ns : List ℕ) → s ≡ line_for event.List ns → 1 ≤ length ns → word_sized ns ≡ true → length s ≤ most_bytes → InGrammar s event.List ns
unfolding line_for
any_count s ns e p r l =
    let bytes = spaced_least ns in
    let same = ap length e in
    record { bytes = e; enough = p; not_over = omega arith; in_range = r; short = l }

-- ---- the struct that the reader hands back

-- the first numbers stored are the reading's
pub numbers_stored : (ns : List ℕ) → length ns ≤ most_numbers → take (length ns) (sets (replicate most_numbers 0) 0 ns) ≡ ns
numbers_stored ns h = rw (sets-eq ns (replicate most_numbers 0) 0 (omega arith)) (take-append_seam ns _)

-- one of them, and those from the place k on
pub stored_at : (ns : List ℕ) (i : ℕ) → length ns ≤ most_numbers → i < length ns → get_or (sets (replicate most_numbers 0) 0 ns) i 0 ≡ get_or ns i 0
stored_at ns i h l = sym (get_or-take (length ns) (sets (replicate most_numbers 0) 0 ns) i 0 l) ∙ ap (λ (m : List ℕ). get_or m i 0) (numbers_stored ns h)

pub stored_part : (ns : List ℕ) (k : ℕ) → length ns ≤ most_numbers → k ≤ length ns → take (length ns - k) (drop k (sets (replicate most_numbers 0) 0 ns)) ≡ drop k ns
stored_part ns k h l =
    let rest : List ℕ = drop (0 + length ns) (replicate most_numbers 0) in
    ap (λ (m : List ℕ). take (length ns - k) (drop k m)) (sets-eq ns (replicate most_numbers 0) 0 (omega arith))
    ∙ ap (take (length ns - k)) (drop-append-le k ns rest l)
    ∙ take_at (drop k ns) rest (length ns - k) (length-drop k ns)

-- no event takes more numbers than there is room for
pub most_fits : (e : Event) → most e ≤ most_numbers
most_fits event.Setup = omega arith
most_fits event.Read = omega arith
most_fits event.Write = omega arith
most_fits event.Tick = omega arith
most_fits event.Take = omega arith
most_fits event.Refresh = omega arith
most_fits event.List = omega arith

line_says : (s : List ℕ) (x : Line) (r : Reading) → reading s ≡ r → line_of r ≡ Some x → InGrammar s x.event (take x.count x.numbers)
unfolding line_of
line_says s x bad p h = absurd (none-some x h)
line_says s x (good e ns) p h =
    let said = read_says s e ns p in
    let fits = most_fits e in
    subst (λ (y : Line). InGrammar s y.event (take y.count y.numbers)) (same_Some _ x h) (rw (numbers_stored ns (omega (arith, said.not_over))) said)

-- a line that the reader hands back says its event with the numbers that count
pub answer_says : (s : List ℕ) (x : Line) → line_of (reading s) ≡ Some x → InGrammar s x.event (take x.count x.numbers)
answer_says s x h = line_says s x (reading s) refl h

-- and one in the grammar is handed back so
pub says_answer : (s : List ℕ) (e : Event) (ns : List ℕ) → InGrammar s e ns → (x : Line) × (line_of (reading s) ≡ Some x) × (x.event ≡ e)
unfolding line_of
says_answer s e ns h = (record { event = e; numbers = sets (replicate most_numbers 0) 0 ns; count = length ns }, ap line_of (says_read s e ns h), refl)

-- ---- what is printed

-- what a printer promises settles the output and the place after it
pub one_outcome : {o o' o'' bytes : List ℕ} {at next next' : ℕ} → Wrote o at bytes o' next → Wrote o at bytes o'' next' → (o' ≡ o'') × (next ≡ next')
one_outcome p q = (p.stored ∙ sym q.stored, p.after ∙ sym q.after)

-- the bytes stand there, and nothing else has changed
pub wrote_bytes : {o o' bytes : List ℕ} {at next : ℕ} → Room o at bytes → Wrote o at bytes o' next → o' ≡ take at o ++ bytes ++ drop (at + length bytes) o
wrote_bytes {o} {bytes = bytes} {at = at} r w = w.stored ∙ sets-eq bytes o at r.room
