-- A journal is made of bytes, and is that of one history alone.
-- Assumes nothing.
use Prim.Native.Nat.{ℕ, ◌≤◌, ◌<◌}
use native.Mathlib.Omega.{arith}
use mathlib.Core.Path.{◌≡◌, refl, sym, ◌∙◌, ap, ap₂}
use mathlib.Core.Option.{some}
use mathlib.Core.List.{List, [], ◌∷◌, ◌++◌}
use lib.Dec.{lit<}
use lib.ListN.{length, get_or, drop, length-append, length-drop}
use lib.Seq.{drop-append_seam}
use Rattle.upkeep.specs.Requests.{Request, number_at}
use Rattle.wire.specs.Wire.{byte_limit, word_limit, Below}
use Rattle.wire.proofs.WireLaws.{below_none, below_more}
use Rattle.numbers.proofs.NumberLaws.{below_append, bytes_small}
use Rattle.journal.specs.declared.record.Kind.{Kind}
use Rattle.journal.specs.Record.{kind_of, Form, plain, counted, form_of, kind_in, numbers_of, count_by, head_of, record_bytes, request_in}
use Rattle.journal.specs.Journal.{journal, Done, none, more}
use Rattle.journal.proofs.ByKind.{byte_small, numbers_few}
use Rattle.journal.proofs.RecordLaws.{size_some, record_kind, record_size, record_asks}

-- ---- it is that of one history

-- bytes that begin with the record of r and with that of s ask both, so they are one
one_record :
    (r s : Request) → Below word_limit (numbers_of r) → Below word_limit (numbers_of s) → (f g : List ℕ) → record_bytes r ++ f ≡ record_bytes s ++ g → r ≡ s
one_record r s b c f g e =
    let q : some (kind_in r) ≡ some (kind_in s) = sym (record_kind r f) ∙ ap (λ (p : List ℕ). kind_of (get_or p 0 0)) e ∙ record_kind s g in
    let k : kind_in r ≡ kind_in s = cc in
    sym (record_asks r f b) ∙ ap₂ (λ (j : Kind) (p : List ℕ). request_in j p) k e ∙ record_asks s g c

record_some : (r : Request) (f : List ℕ) → 0 < length (record_bytes r ++ f)
record_some r f = omega (arith, record_size r f, size_some (kind_in r) (record_bytes r ++ f), length-append (record_bytes r) f)

-- two histories with the same journal are the same, from whatever books
pub one_journal : {l m : List ℕ} {rs ss : List Request} → Done l rs → Done m ss → journal rs ≡ journal ss → rs ≡ ss
unfolding journal
one_journal none none e = refl
one_journal none (more {r = s} {rs = ss} c y q) e = absurd (omega (arith, ap length e, record_some s (journal ss)))
one_journal (more {r = r} {rs = rs} b z d) none e = absurd (omega (arith, ap length e, record_some r (journal rs)))
one_journal (more {r = r} {rs = rs} b z d) (more {r = s} {rs = ss} c y q) e =
    let w : r ≡ s = one_record r s b c (journal rs) (journal ss) e in
    let t : journal rs ≡ journal ss
    = sym (drop-append_seam (record_bytes r) (journal rs))
    ∙ ap₂ (λ (x : Request) (f : List ℕ). drop (length (record_bytes x)) f) w e
    ∙ drop-append_seam (record_bytes s) (journal ss) in
    ap₂ (λ (x : Request) (y : List Request). x ∷ y) w (one_journal d q t)

-- ---- it is made of bytes

no_bytes : Below byte_limit []
no_bytes = below_none byte_limit (lit< tt)

count_small : (f : Form) (ns : List ℕ) → length ns ≤ 20 → Below byte_limit (count_by f ns)
unfolding count_by
count_small (plain n) ns h = no_bytes
count_small (counted n) ns h = below_more _ _ _ (omega (arith, length-drop n ns)) no_bytes

-- of a request that is done
pub record_bytes_law : (l : List ℕ) (r : Request) → number_at l r ≡ 0 → Below byte_limit (record_bytes r)
unfolding record_bytes head_of
record_bytes_law l r z =
    below_append byte_limit (head_of r) _ (below_more _ _ _ (byte_small (kind_in r)) (count_small (form_of (kind_in r)) (numbers_of r) (numbers_few l r z)))
    (bytes_small (numbers_of r))

pub journal_bytes : {l : List ℕ} {rs : List Request} → Done l rs → Below byte_limit (journal rs)
unfolding journal
journal_bytes none = no_bytes
journal_bytes {l} (more {r = r} {rs = rs} b z d) = below_append byte_limit (record_bytes r) (journal rs) (record_bytes_law l r z) (journal_bytes d)
