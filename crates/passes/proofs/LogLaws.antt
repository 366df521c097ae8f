-- The log of a history: each entry has its moment, what came before it is logged there, and every write that was made is an entry.
-- Assumes nothing.
use Prim.Native.Nat.{ℕ, ◌+◌, ◌-◌, ◌≤◌, ◌<◌}
use native.Mathlib.Nat.{le_refl, le_of_lt, lt_of_le_of_lt, lt_of_lt_of_le, le_trans}
use native.Mathlib.Omega.{arith}
use mathlib.Core.Path.{◌≡◌, refl, sym, ◌∙◌, ap, subst}
use mathlib.Core.Logic.{⊎_elim}
use mathlib.Core.List.{List, [], ◌∷◌, ◌++◌, append_assoc}
use lib.ListN.{length, get_or, take, length-append, get_or-append}
use lib.Seq.{get_or-append-add, get_or-take, take-take, take-append-le, take-append_seam, length-take-le}
use Rattle.loops.proofs.BoolLaws.{le_or_lt}
use Rattle.paper.specs.Calls.{Call}
use Rattle.model.specs.Parts.{Counts, Write}
use Rattle.model.specs.System.{System}
use Rattle.model.specs.Demands.{Wrote, Got, MadeAt, now, earlier, Past, kept}
use Rattle.passes.specs.Log.{Entry, nobody, nth, Tells, a_write, a_read, Told, Logged, nothing, call}

-- an entry of the second part
nth_right : (es new : List Entry) (m : ℕ) → length es ≤ m → nth (es ++ new) m ≡ nth new (m - length es)
nth_right es new m l =
    let p : m ≡ length es + (m - length es) = omega arith in
    ap (λ (x : ℕ). nth (es ++ new) x) p ∙ get_or-append-add es new (m - length es) nobody

module _ (S : System) where
  -- entry i of es was made at a moment of history h: by a call, before which the first of es were logged, and whose own entries stand from there on
  pub record At (h : List Call) (es : List Entry) (i : ℕ) : Type 0 where
    pub before : List Call
    pub asked : Call
    pub later : List Call
    pub split : h ≡ later ++ (asked ∷ before)
    pub first : ℕ
    pub since : first ≤ i
    pub logged : Logged S before (take first es)
    pub mine : (m : ℕ) → first ≤ m → m ≤ i → Tells S before asked (nth es m)
    pub once : (m n : ℕ) → first ≤ m → m < n → n ≤ i → (nth es m).kind ≡ 0 → nth es m ≡ nth es n → ⊥

  -- the same in another list that has the same entries up to there, and in a longer history
  moved : {h g : List Call} {es fs : List Entry} {i : ℕ} (l : List Call) → g ≡ l ++ h → ((m : ℕ) → m ≤ i → nth fs m ≡ nth es m)
      → ((n : ℕ) → n ≤ i → take n fs ≡ take n es) → At h es i → At g fs i
  moved {es = es} {fs = fs} l e same front a = record {
    before = a.before;
    asked = a.asked;
    later = l ++ a.later;
    split = e ∙ ap (λ (x : List Call). l ++ x) a.split ∙ sym (append_assoc l a.later (a.asked ∷ a.before));
    first = a.first;
    since = a.since;
    logged = subst (Logged S a.before) (sym (front a.first a.since)) a.logged;
    mine = λ m p q. subst (Tells S a.before a.asked) (sym (same m q)) (a.mine m p q);
    once = λ m n p q r k t.
        a.once m n p q r (ap (λ (x : Entry). x.kind) (sym (same m (le_trans (le_of_lt q) r))) ∙ k) (sym (same m (le_trans (le_of_lt q) r)) ∙ t ∙ same n r);
  }

  at : {h : List Call} {es : List Entry} → Logged S h es → (i : ℕ) → i < length es → At h es i
  at nothing i l = absurd (omega arith)
  at (call {h} {q} {es} {new} g t) i l =
      ⊎_elim
      (λ (m : length es ≤ i).
      let k = length-append es new in
      let own : (x : ℕ) → length es ≤ x → nth (es ++ new) x ≡ nth new (x - length es) = nth_right es new in
      record {
        before = h;
        asked = q;
        later = [];
        split = refl;
        first = length es;
        since = m;
        logged = subst (Logged S h) (sym (take-append_seam es new)) g;
        mine = λ x p r. subst (Tells S h q) (sym (own x p)) (t.each (x - length es) (omega arith));
        once = λ x y p r s z e.
            t.once (x - length es) (y - length es) (omega arith) (omega arith) (ap (λ (n : Entry). n.kind) (sym (own x p)) ∙ z)
            (sym (own x p) ∙ e ∙ own y (omega arith));
      })
      (λ (m : i < length es).
      moved (q ∷ []) refl (λ x p. get_or-append es new nobody x (lt_of_le_of_lt p m)) (λ n p. take-append-le n es new (le_of_lt (lt_of_le_of_lt p m))) (at g i m))
      (le_or_lt (length es) i)

  -- the same in a log that was shorter then
  pub at_of : {h : List Call} (es : List Entry) (n : ℕ) → Logged S h (take n es) → n ≤ length es → (i : ℕ) → i < n → At h es i
  at_of es n g l i m =
      moved [] refl (λ x p. sym (get_or-take n es x nobody (lt_of_le_of_lt p m))) (λ x p. sym (take-take x n es (le_of_lt (lt_of_le_of_lt p m))))
      (at g i (let k = length-take-le n es l in omega arith))

  -- an entry that stands before another: at the moment before the other's call if it is not of that call, and at the moment after it in any case
  pub at_before : {h : List Call} {es : List Entry} {i : ℕ} (a : At h es i) → i < length es → (m : ℕ) → m < a.first → At a.before es m
  at_before {es = es} a l m p = at_of es a.first a.logged (le_of_lt (lt_of_le_of_lt a.since l)) m p

  pub at_upto : {h : List Call} {es : List Entry} {i : ℕ} (a : At h es i) → i < length es → (m : ℕ) → m < i → At (a.asked ∷ a.before) es m
  at_upto {es = es} a l m p =
      ⊎_elim
      (λ (q : a.first ≤ m).
      record {
        before = a.before;
        asked = a.asked;
        later = [];
        split = refl;
        first = a.first;
        since = q;
        logged = a.logged;
        mine = λ x r s. a.mine x r (le_trans s (le_of_lt p));
        once = λ x y r s t. a.once x y r s (le_trans t (le_of_lt p));
      })
      (λ (q : m < a.first). moved (a.asked ∷ []) refl (λ x r. refl) (λ n r. refl) (at_before a l m q))
      (le_or_lt a.first m)

  pub tells : {h : List Call} {es : List Entry} {i : ℕ} (a : At h es i) → Tells S a.before a.asked (nth es i)
  tells a = a.mine _ a.since (le_refl _)

  -- which entries are writes, and which reads
  pub tells_write : {h : List Call} {q : Call} {e : Entry} → Tells S h q e → e.kind ≡ 0 → Wrote S h q e.crew e.write
  tells_write (a_write t) k = t
  tells_write (a_read t) k = absurd (omega arith)

  pub tells_read : {h : List Call} {q : Call} {e : Entry} → Tells S h q e → e.kind ≡ 1 → Got S h q e.crew e.write.bearing e.write.version
  tells_read (a_write t) k = absurd (omega arith)
  tells_read (a_read t) k = t

  pub tells_kind : {h : List Call} {q : Call} {e : Entry} → Tells S h q e → e.kind ≤ 1
  tells_kind (a_write t) = omega arith
  tells_kind (a_read t) = omega arith

  -- every write that was made is an entry
  pub made_logged : {h g : List Call} {b : ℕ} {w : Write} {es : List Entry} → Logged S h es → MadeAt S h g b w
      → (i : ℕ) × (i < length es) × (nth es i ≡ record { kind = 0; crew = b; write = w })
  made_logged (call {es = es} {new = new} g t) (now m) =
      let x = t.all _ (a_write m) in
      let k = length-append es new in
      (length es + x.0, omega (arith, x.1), get_or-append-add es new x.0 nobody ∙ x.2)
  made_logged (call {es = es} {new = new} g t) (earlier m) =
      let x = made_logged g m in
      let k = length-append es new in
      (x.0, omega (arith, x.1), get_or-append es new nobody x.0 x.1 ∙ x.2)
  made_logged {g = g} {b = b} {w = w} nothing m = elim m [ ]

  -- what was made, and what is in a crew's past, stays so
  pub made_later : (l : List Call) {h g : List Call} {b : ℕ} {w : Write} → MadeAt S h g b w → MadeAt S (l ++ h) g b w
  made_later [] m = m
  made_later (q ∷ l) m = earlier (made_later l m)

  pub past_later : (π : Counts) (l : List Call) {h : List Call} {c : ℕ} {w : Write} → Past π S h c w → Past π S (l ++ h) c w
  past_later π [] p = p
  past_later π (q ∷ l) p = kept (past_later π l p)
