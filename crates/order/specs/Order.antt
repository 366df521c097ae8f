-- The order of versions. It is sealed: whoever stands outside this crate uses its laws alone (proofs/OrderLaws.antt), so that only this crate
-- follows a change of the definition.
-- Assumes nothing.
use Rattle.std.specs.Prelude.{ℕ, zero, suc, ◌≡◌, refl, Bool, false, ◌&&◌, ◌||◌, not, ltb, eqb}
use Rattle.order.specs.Vector.{Vec, agree, zeros, sum}

-- what the order looks at: a version's vector and its origin depot
pub record Rank : Type 0 where
  pub vector : Vec
  pub origin : ℕ

-- comparing entry by entry from depot 0 on, the first of the n entries in which u and v differ is greater in u
unfoldable pub leads : ℕ → Vec → Vec → Bool
leads zero u v = false
leads (suc i) u v = leads i u v || agree i u v && ltb (v i) (u i)

-- the sum of u's n entries is greater than that of v's; or the sums are equal, and u leads
unfoldable pub outweighs : ℕ → Vec → Vec → Bool
outweighs n u v = ltb (sum n v) (sum n u) || eqb (sum n u) (sum n v) && leads n u v

-- a is greater than b, with n depots: a is written, and its vector outweighs b's, or the vectors are equal and a has the higher origin
pub above : ℕ → Rank → Rank → Bool
above n a b = not (zeros n a.vector) && (outweighs n a.vector b.vector || agree n a.vector b.vector && ltb b.origin a.origin)

-- the one opening of the seal, for this crate's own proofs
pub above_is : (n : ℕ) (a b : Rank) → above n a b ≡ not (zeros n a.vector) && (outweighs n a.vector b.vector || agree n a.vector b.vector && ltb b.origin a.origin)
unfolding above
above_is n a b = refl
