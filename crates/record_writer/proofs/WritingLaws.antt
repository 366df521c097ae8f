-- A record is its head and the bytes of its numbers, one after the other; how many they are; and a request, known by its case.
-- Assumes nothing.
use Prim.Native.Nat.{ℕ, ◌+◌, ◌*◌, ◌<◌}
use native.Mathlib.Omega.{arith}
use mathlib.Core.Path.{◌≡◌, sym, ◌∙◌, ap, ap₂, subst}
use mathlib.Core.List.{List, ◌∷◌, ◌++◌}
use lib.ListN.{length, get_or, set}
use Rattle.book.specs.Words.{put}
use Rattle.wire.specs.Wire.{byte_limit, Below}
use Rattle.wire.proofs.WireLaws.{put_append, put_cons}
use Rattle.numbers.specs.Numbers.{bytes_of}
use Rattle.numbers.proofs.NumberLaws.{length_bytes, bytes_append}
use Rattle.request.specs.declared.ask.Request as request
use Rattle.upkeep.specs.Requests.{Request}
use Rattle.calls.specs.Performed.{asked}
use Rattle.journal.specs.Record.{head_size, kind_in, numbers_of, record_bytes}
use Rattle.journal.proofs.RecordLaws.{record_long}

-- ---- a request, known by its case

module _ (beside : List ℕ) {q q' : request.Request} (e : q ≡ q') where
  -- how many bytes its record has
  pub long_as : length (record_bytes (asked q beside)) ≡ head_size (kind_in (asked q' beside)) + 4 * length (numbers_of (asked q' beside))
  long_as = ap (λ (x : request.Request). length (record_bytes (asked x beside))) e ∙ record_long (asked q' beside)

  pub count_as : Below byte_limit (record_bytes (asked q beside)) → get_or (record_bytes (asked q' beside)) 1 0 < byte_limit
  count_as h = (subst (λ (x : request.Request). Below byte_limit (record_bytes (asked x beside))) e h).at 1

  pub written_as : (o : List ℕ) (at : ℕ) {o' : List ℕ} → o' ≡ put o at (record_bytes (asked q' beside)) → o' ≡ put o at (record_bytes (asked q beside))
  written_as o at h = h ∙ sym (ap (λ (x : request.Request). put o at (record_bytes (asked x beside))) e)

-- ---- the bytes one after the other

pub plain_bytes : (o : List ℕ) (at : ℕ) (v : List ℕ) {a b : ℕ} {o' : List ℕ} → b ≡ a → o' ≡ put (set o at b) (at + 1) v → o' ≡ put o at (a ∷ v)
plain_bytes o at v {b = b} e h = h ∙ put_cons o at b v ∙ ap (λ (x : ℕ). put o at (x ∷ v)) e

counted_bytes : (o : List ℕ) (at n : ℕ) (v : List ℕ) {a b : ℕ} → b ≡ a → put (set (set o at b) (at + 1) n) (at + 2) v ≡ put o at (a ∷ n ∷ v)
counted_bytes o at n v {b = b} e =
    let two : at + 2 ≡ at + 1 + 1 = omega arith in
    ap (λ (k : ℕ). put (set (set o at b) (at + 1) n) k v) two ∙ put_cons (set o at b) (at + 1) n v ∙ plain_bytes o at (n ∷ v) e (λ i. put (set o at b) (at + 1) (n ∷ v))

pub counted_numbers :
    (o : List ℕ) (at n : ℕ) (u v : List ℕ) {a b : ℕ} {o' o'' : List ℕ} → b ≡ a → o' ≡ put (set (set o at b) (at + 1) n) (at + 2) (bytes_of u) →
    o'' ≡ put o' (at + 2 + 4 * length u) (bytes_of v) → o'' ≡ put o at (a ∷ n ∷ bytes_of (u ++ v))
counted_numbers o at n u v {b = b} e p q =
    q
    ∙ ap₂ (λ (x : List ℕ) (k : ℕ). put x (at + 2 + k) (bytes_of v)) p (sym (length_bytes u))
    ∙ put_append (set (set o at b) (at + 1) n) (at + 2) (bytes_of u) (bytes_of v)
    ∙ ap (put (set (set o at b) (at + 1) n) (at + 2)) (sym (bytes_append u v))
    ∙ counted_bytes o at n (bytes_of (u ++ v)) e
