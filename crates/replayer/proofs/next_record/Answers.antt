-- `replayer::next_record` meets its contract: no kind, too few bytes, or a record whose call is made.
-- Assumes nothing.
use Prim.Native.Nat.{ℕ, ◌≤◌, ◌<◌}
use native.Mathlib.Omega.{arith}
use mathlib.Core.Path.{refl, sym, ◌∙◌, ap, subst}
use lib.ListN.{length, get_or}
use lib.Seq.{length-take-le}
use Rattle.upkeep.specs.Requests.{number_at, book_after}
use Rattle.replayer.specs.Turn.{no_kind, too_few, a_record}
use Rattle.replayer.proofs.TurnLaws.{names_nothing, names_kind, size_is, head_small, read_count, read_own, asks}
use Rattle.replayer.proofs.next_record.Goals as goal

pub returns-in_default : goal.returns-in_default
returns-in_default c =
    let args = c.args in
    no_kind
    (names_nothing (get_or args.bytes.now 0 0) c.from.ensures c.kind_of.ensures c.in_default.is) refl refl

pub overflow_add-size : goal.overflow_add-size
overflow_add-size c =
    let args = c.args in
    let extent = c.extent_of-extent.ensures in
    omega (arith, head_small args.bytes.now c.in-Some.kind extent.0 extent.1, extent.2)

pub returns-then-bytes-size : goal.returns-then-bytes-size
returns-then-bytes-size c =
    let f = c.args.bytes.now in
    let extent = c.extent_of-extent.ensures in
    too_few
    (names_kind (get_or f 0 0) c.from.ensures c.kind_of.ensures c.in-Some.is)
    (subst (λ (n : ℕ). length f < n) (size_is f c.in-Some.kind extent.0 extent.1) c.if-bytes-size.true) refl refl

pub slice_bounds-read_words-end-2 : goal.slice_bounds-read_words-end-2
slice_bounds-read_words-end-2 c =
    sym (length-take-le c.extent_of-extent.result.numbers c.args.numbers.now (omega (arith, c.extent_of-extent.ensures.2, c.requires.1)))

pub read_words-requires : goal.read_words-requires
read_words-requires c = omega (arith, sym (length-take-le c.extent_of-extent.result.numbers c.args.numbers.now (omega (arith, c.extent_of-extent.ensures.2, c.requires.1))), c.if-bytes-size.false)

pub slice_bounds-replayed-end-2 : goal.slice_bounds-replayed-end-2
slice_bounds-replayed-end-2 c =
    let extent = c.extent_of-extent.ensures in
    read_count c.args.bytes.now c.in-Some.kind extent.0 extent.1 _ _ (omega (arith, extent.2, c.requires.1)) c.read_words.ensures

pub replayed-end-requires : goal.replayed-end-requires
replayed-end-requires c =
    let extent = c.extent_of-extent.ensures in
    read_own c.args.bytes.now c.in-Some.kind extent.0 extent.1 _ _ (omega (arith, extent.2, c.requires.1)) c.read_words.ensures

pub returns : goal.returns
returns c =
    let l = c.args.book.now in
    let f = c.args.bytes.now in
    let k = c.in-Some.kind in
    let extent = c.extent_of-extent.ensures in
    let asked = asks f k extent.0 extent.1 _ _ (omega (arith, extent.2, c.requires.1)) c.read_words.ensures in
    let size = size_is f k extent.0 extent.1 in
    a_record (names_kind (get_or f 0 0) c.from.ensures c.kind_of.ensures c.in-Some.is)
    (subst (λ (n : ℕ). n ≤ length f) size c.if-bytes-size.false) (c.replayed-end.ensures.value ∙ ap (number_at l) asked) size
    (c.replayed-end.ensures.book_after ∙ ap (book_after l) asked)
