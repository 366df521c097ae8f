-- Recovery goes on by one record, or stops before it; behind the last byte it is whole. And it never counts more bytes than there are.
-- Assumes nothing.
use Prim.Native.Nat.{ℕ, ◌+◌, ◌-◌, ◌≤◌, ◌<◌}
use native.Mathlib.Omega.{arith}
use mathlib.Core.Path.{◌≡◌, refl, sym, ◌∙◌, ap, ap₂, subst}
use mathlib.Core.Logic.{⊎_elim}
use mathlib.Core.Bool.{true, false}
use mathlib.Core.List.{List, [], ◌∷◌, ◌++◌}
use lib.Dec.{eqb}
use lib.ListN.{length, take, drop, length-append, length-drop, drop_of_length-le}
use lib.Seq.{length-take-le, take-length, take-add, drop_at, drop-drop}
use Rattle.loops.proofs.BoolLaws.{decided, pick_true, pick_false}
use Rattle.book.specs.Words.{part}
use Rattle.upkeep.specs.Requests.{number_at}
use Rattle.upkeep.proofs.NeverBadAnswer.{refused_stays}
use Rattle.journal.specs.declared.recover.Fault.{Fault}
use Rattle.journal.specs.declared.recover.Fault.TheVariants.{Fine, Refused, Strange}
use Rattle.journal.specs.Record.{request_in, Piece, begun, strange, whole, piece}
use Rattle.journal.specs.Journal.{Recovered, within, stopped, start, take_in, step_by, step, replay, end_by, end_of}
use Rattle.journal.proofs.RecordLaws.{size_some}
use Rattle.journal.proofs.ByRecord.{by_none, by_strange, by_cut, by_done, by_refused}
use Rattle.replayer.specs.declared.Next.{Next}
use Rattle.replayer.specs.Turn.{Turn, no_kind, too_few, a_record}
use Rattle.recovery.specs.declared.Recovered as answer
use Rattle.recovery.specs.Promises.{Recovery}

-- ---- what is told of the state that it ends in

recovered_as :
    (l f : List ℕ) (s : Recovered) (a : answer.Recovered) {l' : List ℕ} → replay (start l) f ≡ s → a.done ≡ s.done → a.bytes ≡ s.bytes → a.end ≡ end_of s → l' ≡ s.book →
    Recovery l f a l'
recovered_as l f s a e n m q b = record {
  done = n ∙ sym (ap (λ (x : Recovered). x.done) e);
  bytes = m ∙ sym (ap (λ (x : Recovered). x.bytes) e);
  end = q ∙ sym (ap end_of e);
  book = b ∙ sym (ap (λ (x : Recovered). x.book) e);
}

end_cut : (l : List ℕ) (n m : ℕ) (p : List ℕ) → 0 < length p → end_of (within l n m p) ≡ 111
unfolding end_of end_by
end_cut l n m [] h = absurd (omega arith)
end_cut l n m (b ∷ p) h = refl

-- ---- so far: the first n records of the bytes f, with m bytes, were done from the book l₀ on, and left the book l

pub record Far (l₀ f l : List ℕ) (n m : ℕ) : Type 0 where
  pub same : replay (start l₀) f ≡ replay (within l n m []) (drop m f)

pub far_start : (l f : List ℕ) → Far l f l 0 0
far_start l f = record { same = refl }

module _ {l₀ f l l' : List ℕ} {n m : ℕ} {r : Next} (far : Far l₀ f l n m) where
  -- a record that is done
  pub far_more : Turn l (drop m f) r l' → r.end ≡ 0 → Far l₀ f l' (n + 1) (m + r.size) × (0 < r.size) × (m + r.size ≤ length f)
  far_more (no_kind e q b) z = let w : ◌≡◌ {A = ℕ} 110 0 = sym q ∙ z in absurd (omega arith)
  far_more (too_few e h q b) z = let w : ◌≡◌ {A = ℕ} 111 0 = sym q ∙ z in absurd (omega arith)
  far_more (a_record {k} e h q s b) z =
      let next : replay (start l₀) f ≡ replay (within l' (n + 1) (m + r.size) []) (drop (m + r.size) f)
      = far.same
      ∙ by_done l n m (drop m f) k e h (sym q ∙ z)
      ∙ ap₂ (λ (x : List ℕ) (i : ℕ). replay (within x (n + 1) (m + i) []) (drop i (drop m f))) (sym b) (sym s)
      ∙ ap (replay (within l' (n + 1) (m + r.size) [])) (drop-drop r.size m f) in
      let some = size_some k (drop m f) in
      let long = length-drop m f in
      (record { same = next }, omega (arith, some, s), omega (arith, h, s, long, some))

  -- one that is not
  pub far_stop : Turn l (drop m f) r l' → (r.end ≡ 0 → ⊥) → m < length f → Recovery l₀ f (record { done = n; bytes = m; end = r.end }) l'
  unfolding end_of end_by
  far_stop (no_kind e q b) z i =
      recovered_as l₀ f (stopped l n m (take 1 (drop m f)) Strange) _ (far.same ∙ by_strange l n m (drop m f) (omega (arith, length-drop m f)) e) refl refl q b
  far_stop (too_few {k} e h q b) z i =
      recovered_as l₀ f (within l n m (drop m f)) _ (far.same ∙ by_cut l n m (drop m f) k e h) refl refl
      (q ∙ sym (end_cut l n m (drop m f) (omega (arith, length-drop m f)))) b
  far_stop (a_record {k} e h q s b) z i =
      let refused : number_at l (request_in k (drop m f)) ≡ 0 → ⊥ = λ w. z (q ∙ w) in
      recovered_as l₀ f _ _ (far.same ∙ by_refused l n m (drop m f) k e h refused) refl refl q (b ∙ refused_stays l (request_in k (drop m f)) refused)

-- behind the last byte
pub far_end : {l₀ f l : List ℕ} {n m : ℕ} → Far l₀ f l n m → length f ≤ m → Recovery l₀ f (record { done = n; bytes = m; end = 0 }) l
unfolding end_of end_by
far_end {l₀} {f} {l} {n} {m} far h =
    recovered_as l₀ f (within l n m []) _ (far.same ∙ ap (replay (within l n m [])) (drop_of_length-le f h) ∙ by_none l n m) refl refl refl refl

-- ---- the bytes that are left

pub left_of : (f : List ℕ) (m : ℕ) → take (length f - m) (drop m f) ≡ drop m f
left_of f m = rw (← length-drop m f) (take-length (drop m f))

pub left_some : (f : List ℕ) (m : ℕ) → m < length f → 0 < length (take (length f - m) (drop m f))
left_some f m h = omega (arith, ap length (left_of f m), length-drop m f)

pub left_turn : {l l' : List ℕ} {r : Next} (f : List ℕ) (m : ℕ) → Turn l (take (length f - m) (drop m f)) r l' → Turn l (drop m f) r l'
left_turn {l} {l'} {r} f m h = subst (λ (x : List ℕ). Turn l x r l') (left_of f m) h

-- ---- no more bytes than there are

reach : Recovered → ℕ
reach s = s.bytes + length s.rest

take_reach : (s : Recovered) (p : List ℕ) (x : Piece) → length p ≡ length s.rest + 1 → reach (take_in s p x) ≤ reach s + 1
unfolding reach take_in
take_reach s p begun h = omega arith
take_reach s p strange h = omega arith
take_reach s p (whole r) h =
    ⊎_elim
    (λ (t : eqb (number_at s.book r) 0 ≡ true).
    subst (λ (x : Recovered). x.bytes + length x.rest ≤ s.bytes + length s.rest + 1) (sym (pick_true _ _ t)) (omega arith))
    (λ (t : eqb (number_at s.book r) 0 ≡ false).
    subst (λ (x : Recovered). x.bytes + length x.rest ≤ s.bytes + length s.rest + 1) (sym (pick_false _ _ t)) (omega arith))
    (decided (eqb (number_at s.book r) 0))

step_reach : (e : Fault) (s : Recovered) (b : ℕ) → reach (step_by e s b) ≤ reach s + 1
unfolding step_by
step_reach Fine s b = take_reach s (s.rest ++ (b ∷ [])) (piece (s.rest ++ (b ∷ []))) (length-append s.rest (b ∷ []))
step_reach (Refused n) s b = omega arith
step_reach Strange s b = omega arith

replay_reach : (s : Recovered) (f : List ℕ) → reach (replay s f) ≤ reach s + length f
unfolding replay step
replay_reach s [] = omega arith
replay_reach s (b ∷ f) = omega (arith, replay_reach (step s b) f, step_reach s.fault s b)

pub bytes_fit : {l f l' : List ℕ} {a : answer.Recovered} → Recovery l f a l' → a.bytes ≤ length f
unfolding reach
bytes_fit {l} {f} p = omega (arith, p.bytes, replay_reach (start l) f)

-- ---- a buffer of which the first n bytes are recovered

module _ {l l' : List ℕ} {a : answer.Recovered} (o : List ℕ) (n : ℕ) (p : Recovery l (take n o) a l') (h : n ≤ length o) where
  pub counted_in : a.bytes ≤ n
  counted_in = omega (arith, bytes_fit p, length-take-le n o h)

  pub behind_counted : part o a.bytes (n - a.bytes) ≡ drop a.bytes (take n o)
  unfolding part
  behind_counted =
      let m : ℕ = a.bytes in
      let e : n ≡ m + (n - m) = omega (arith, counted_in) in
      let both : take n o ≡ take m o ++ take (n - m) (drop m o) = ap (λ (i : ℕ). take i o) e ∙ take-add m (n - m) o in
      sym (ap (drop m) both ∙ drop_at (take m o) (take (n - m) (drop m o)) m (length-take-le m o (omega (arith, counted_in))))
