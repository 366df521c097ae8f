-- The laws of the input byte by byte: what the end of a line and a byte do to the buffers that are lent, and that a loop over a piece goes on as the
-- whole does.
-- Assumes nothing.
use Prim.Native.Nat.{ℕ, ◌+◌, ◌*◌, ◌≤◌, ◌<◌}
use native.Mathlib.Numerals.{add-one}
use native.Mathlib.Omega.{arith}
use mathlib.Core.Path.{◌≡◌, refl, sym, ◌∙◌, ap, ap₂, subst}
use mathlib.Core.List.{List, [], ◌∷◌, ◌++◌}
use lib.ListN.{length, get_or, take, drop, set, replicate, length-set, length-replicate, drop_of_length-le}
use lib.Seq.{sets, length-sets, drop-cons, take-suc-set, length-take-le}
use Rattle.std.specs.Prelude.{Option, None, Some, unwrap_or}
use borrow.Author.Tests.{eq-eqb, ne_eqb, lt-ltb, le-ltb}
use Rattle.loops.proofs.BoolLaws.{pick_true, pick_false}
use Rattle.history.specs.Entry.{bad_words, stored, entry_in}
use Rattle.history.specs.Stream.{Read, Fits, Seen, state, start, ended, grown, fed, through, finished}

-- ---- what is stored of a line

-- of a line that says no entry the bad words
pub stored_or : (m : Option (List ℕ)) → unwrap_or m bad_words ≡ stored m
unfolding stored
stored_or None = refl
stored_or (Some ws) = refl

-- ---- the end of a line

module _ (words line : List ℕ) (kept lines : ℕ) (h : Fits words line kept lines) where
  pub ended_many : 256 ≤ lines → Fits words line 0 257 × (state words line 0 257 ≡ ended (state words line kept lines))
  unfolding ended
  ended_many l = (record { room = h.room; bytes = h.bytes; kept_few = omega arith; lines_few = omega arith }, sym (pick_false _ _ (le-ltb lines 256 l)))

  pub ended_few : lines < 256 → (entry : List ℕ) {out : List ℕ} → entry ≡ stored (entry_in (take kept line)) → out ≡ sets words (lines * 11) entry
      → Fits out line 0 (lines + 1) × (state out line 0 (lines + 1) ≡ ended (state words line kept lines))
  unfolding ended
  ended_few l entry e f = (
    record { room = ap length f ∙ length-sets words (lines * 11) entry ∙ h.room; bytes = h.bytes; kept_few = omega arith; lines_few = omega arith },
    ap (λ (w : List ℕ). state w line 0 (lines + 1)) (f ∙ ap (sets words (lines * 11)) e) ∙ sym (pick_true _ _ (lt-ltb lines 256 l)),
  )

  -- ---- one byte

  pub fed_end : (b : ℕ) {out : List ℕ} {k n : ℕ} → b ≡ 10 → k ≡ 0 → Fits out line 0 n → state out line 0 n ≡ ended (state words line kept lines)
      → Fits out line k n × (state out line k n ≡ fed (state words line kept lines) b)
  unfolding fed
  fed_end b {out} {k} {n} e z fits f =
      (subst (λ (i : ℕ). Fits out line i n) (sym z) fits, ap (λ (i : ℕ). state out line i n) z ∙ f ∙ sym (pick_true _ _ (eq-eqb b 10 e)))

  pub fed_more : (b : ℕ) → (b ≡ 10 → ⊥) → kept < 112
      → Fits words (set line kept b) (kept + 1) lines × (state words (set line kept b) (kept + 1) lines ≡ fed (state words line kept lines) b)
  unfolding fed grown
  fed_more b ne l =
      let inside : kept < length line = omega (arith, h.bytes) in (
        record { room = h.room; bytes = simp length-set h.bytes; kept_few = omega arith; lines_few = h.lines_few },
        ap (λ (p : List ℕ). record { words = words; lines = lines; line = p })
            (ap (λ (n : ℕ). take n (set line kept b)) (add-one kept) ∙ take-suc-set line kept b inside
            ∙ sym (pick_true _ _ (lt-ltb (length (take kept line)) 112 (rw (length-take-le kept line (omega arith)) l))))
            ∙ sym (pick_false _ _ (ne_eqb b 10 ne)),
      )

  pub fed_full : (b : ℕ) → (b ≡ 10 → ⊥) → 112 ≤ kept → state words line kept lines ≡ fed (state words line kept lines) b
  unfolding fed grown
  fed_full b ne l =
      ap (λ (p : List ℕ). record { words = words; lines = lines; line = p })
      (sym (pick_false _ _ (le-ltb (length (take kept line)) 112 (rw (length-take-le kept line (omega (arith, h.bytes, h.kept_few))) l))))
      ∙ sym (pick_false _ _ (ne_eqb b 10 ne))

  -- ---- the end of the input

  pub finished_empty : kept ≡ 0 → Fits words line 0 lines × (state words line 0 lines ≡ finished (state words line kept lines))
  unfolding finished
  finished_empty e = (
    record { room = h.room; bytes = h.bytes; kept_few = omega arith; lines_few = h.lines_few },
    ap (λ (k : ℕ). state words line k lines) (sym e) ∙ sym (pick_true _ _ (eq-eqb _ 0 (ap (λ (k : ℕ). length (take k line)) e))),
  )

  pub finished_last : (kept ≡ 0 → ⊥) → ended (state words line kept lines) ≡ finished (state words line kept lines)
  unfolding finished
  finished_last ne = sym (pick_false _ _ (ne_eqb _ 0 (λ e. ne (sym (length-take-le kept line (omega (arith, h.bytes, h.kept_few))) ∙ e))))

-- ---- pieces

pub through_next : (r : Read) (t : List ℕ) (i : ℕ) {r' : Read} → i < length t → r' ≡ fed r (get_or t i 0) → through r' (drop (i + 1) t) ≡ through r (drop i t)
unfolding through
through_next r t i h e = ap₂ through e (ap (λ (j : ℕ). drop j t) (add-one i)) ∙ sym (ap (through r) (drop-cons t i 0 h))

pub through_over : (r : Read) (t : List ℕ) (i : ℕ) → length t ≤ i → through r (drop i t) ≡ r
unfolding through
through_over r t i h = ap (through r) (drop_of_length-le t h)

-- a piece and then another
pub through_append : (r : Read) (s t : List ℕ) → through r (s ++ t) ≡ through (through r s) t
unfolding through
through_append r [] t = refl
through_append r (b ∷ s) t = through_append (fed r b) s t

-- ---- what was read since the start

pub seen_start : Seen (replicate 2816 0) (replicate 112 0) 0 0
unfolding through
seen_start = record {
  fits = record { room = length-replicate {A = ℕ} 2816 0; bytes = length-replicate {A = ℕ} 112 0; kept_few = omega arith; lines_few = omega arith };
  bytes = [];
  after = refl;
}

pub seen_more : {words line words' line' : List ℕ} {kept lines kept' lines' : ℕ} (t : List ℕ) → Seen words line kept lines → Fits words' line' kept' lines'
    → state words' line' kept' lines' ≡ through (state words line kept lines) t → Seen words' line' kept' lines'
seen_more t s f e = record {
  fits = f;
  bytes = s.bytes ++ t;
  after = e ∙ ap (λ (r : Read). through r t) s.after ∙ sym (through_append start s.bytes t);
}
