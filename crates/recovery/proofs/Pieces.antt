-- The promise of recovery leaves one outcome; and a journal may be recovered in pieces, cut anywhere: recovery counts on from where it stands.
-- Assumes nothing.
use Prim.Native.Nat.{ℕ, ◌+◌}
use native.Mathlib.Omega.{arith}
use mathlib.Core.Path.{◌≡◌, sym, ◌∙◌, ap, ap₂}
use mathlib.Core.List.{List, [], ◌++◌, append_assoc}
use lib.ListN.{drop}
use lib.Seq.{drop-append_seam}
use Rattle.upkeep.specs.Requests.{last}
use Rattle.wire.specs.Wire.{byte_limit, Below}
use Rattle.journal.specs.declared.recover.Fault.TheVariants.{Fine}
use Rattle.journal.specs.Journal.{journal, Recovered, within, start, replay, further, end_of}
use Rattle.journal.proofs.ByRecord.{pieces}
use Rattle.journal.proofs.Theorems.{recovers}
use Rattle.journal.proofs.Histories.{only_histories}
use Rattle.journal.proofs.Pieces.{replay_further}
use Rattle.recovery.specs.declared.Recovered as answer
use Rattle.recovery.specs.Promises.{Recovery, together}

-- the promise settles the answer and the book
pub recover_unique : (l f : List ℕ) {a b : answer.Recovered} {l₁ l₂ : List ℕ} → Recovery l f a l₁ → Recovery l f b l₂ → (a ≡ b) × (l₁ ≡ l₂)
recover_unique l f p q =
    let n = p.done ∙ sym q.done in
    let m = p.bytes ∙ sym q.bytes in
    let e = p.end ∙ sym q.end in
    (λ i. record { done = n i; bytes = m i; end = e i }, p.book ∙ sym q.book)

-- ---- in two pieces

-- recovered f, and then the rest of it with g behind it, gives what f and g in one piece give
pub recover_pieces :
    (f g : List ℕ) {l l₁ l₂ : List ℕ} {a b : answer.Recovered} → Below byte_limit f → Recovery l f a l₁ → Recovery l₁ (drop a.bytes f ++ g) b l₂ →
    Recovery l (f ++ g) (together a b) l₂
unfolding further end_of
recover_pieces f g {l} {l₁} {l₂} {a} {b} small p q =
    let t = only_histories l f small in
    let s : Recovered = replay (start l) f in
    let rest : List ℕ = s.rest ++ t.unread in
    -- the bytes that count are the records of the requests done, and the others are behind them
    let behind : drop a.bytes f ≡ rest
    = ap₂ (λ (i : ℕ) (x : List ℕ). drop i x) (p.bytes ∙ t.bytes) t.splits ∙ drop-append_seam (journal t.requests) rest in
    let both : f ++ g ≡ journal t.requests ++ (drop a.bytes f ++ g)
    = ap (λ (x : List ℕ). x ++ g) t.splits
    ∙ append_assoc (journal t.requests) rest g
    ∙ ap (λ (x : List ℕ). journal t.requests ++ (x ++ g)) (sym behind) in
    let book : last l t.requests ≡ l₁ = sym (p.book ∙ t.book) in
    let on : replay (start l) (f ++ g) ≡ further a.done a.bytes (replay (start l₁) (drop a.bytes f ++ g))
    = ap (replay (start l)) both
    ∙ pieces (start l) (journal t.requests) (drop a.bytes f ++ g)
    ∙ ap (λ (x : Recovered). replay x (drop a.bytes f ++ g)) (recovers t.history ∙ counted book (p.done ∙ t.done) (p.bytes ∙ t.bytes))
    ∙ replay_further a.done a.bytes (start l₁) (drop a.bytes f ++ g) in record {
      done = ap (λ (n : ℕ). a.done + n) q.done ∙ sym (ap (λ (x : Recovered). x.done) on);
      bytes = ap (λ (n : ℕ). a.bytes + n) q.bytes ∙ sym (ap (λ (x : Recovered). x.bytes) on);
      end = q.end ∙ sym (ap end_of on);
      book = q.book ∙ sym (ap (λ (x : Recovered). x.book) on);
    }
  where
    counted : {x y : List ℕ} {i j n m : ℕ} → x ≡ y → n ≡ i → m ≡ j → within x i j [] ≡ further n m (start y)
    counted {y = y} {i = i} {j = j} {n = n} {m = m} e d c =
        let p : i ≡ n + 0 = omega (arith, d) in
        let q : j ≡ m + 0 = omega (arith, c) in
        λ z. record { book = e z; done = p z; bytes = q z; rest = []; fault = Fine }
