-- `making::write_version` meets its contract: the copy is made, the crew stamped, the record kept, the copy sent.
-- Assumes nothing.
use Prim.Native.Nat.{suc, ◌≤◌, ◌<◌}
use native.Mathlib.Nat.{lt_of_lt_of_le}
use mathlib.Core.Path.{◌≡◌, ◌∙◌, ap}
use mathlib.Core.List.{◌∷◌}
use lib.ListN.{length, take, drop}
use Rattle.order.specs.Record.{bearing_of}
use Rattle.book.specs.Layout.{copy_kind, counts_of, home}
use Rattle.shelf.specs.Show.{kept_in}
use Rattle.paper.specs.declared.answer.Payload.{Payload}
use Rattle.register.specs.Calls.{payload_from, made_record, written_crew}
use Rattle.register.proofs.MadeLaws.{length_made, made_bearing}
use Rattle.register.proofs.WriteLaws.{copy_made, record_made, crew_made, current_made, store_made, sent_made, answer_made, may_done, may_based, may_ready, may_free}
use Rattle.making.proofs.write_version.Goals as goal
use Rattle.making.proofs.write_version.Lts as lts
use Rattle.making.proofs.write_version.Tie as tie
use Rattle.making.proofs.write_version.Reads as reads

-- what is known at a place, for the lemmas below
abbrev Start : Type 0
Start = lts.Start tie.the-claims reads.Pre reads.Post

abbrev After-made_copy-message : Type 0
After-made_copy-message = lts.After-made_copy tie.the-claims reads.Pre reads.Post

abbrev After-stamp_crew : Type 0
After-stamp_crew = lts.After-stamp_crew tie.the-claims reads.Pre reads.Post

abbrev After-keep_record-current : Type 0
After-keep_record-current = lts.After-keep_record tie.the-claims reads.Pre reads.Post

-- what is written
abbrev written : Start → Payload
written c = payload_from c.args.value c.args.card

-- the book's length, and the numbers that name its parts
limits :
    (c : Start) →
    (length c.args.book.now ≡ 16384) × (c.args.n ≤ 4) × (c.args.c.0 < 16) × (c.args.d.0 < 4) × (c.args.k.0 < 160)
limits c =
    let w = may_based _ _ _ (written c) c.requires in
    let done = may_done _ _ _ (written c) c.requires in
    let ready = may_ready _ _ _ (written c) c.requires in
    (w.full, ready.depots, lt_of_lt_of_le done.crew w.within.crews, ready.depot, lt_of_lt_of_le done.bearing w.within.bearings)

-- what each step leaves, in the words of the promise
copy_said :
    (c : After-made_copy-message) →
    let args = c.args in
    c.made_copy-message.result ≡ copy_kind ∷ made_record args.book.now args.c.0 args.k.0 (payload_from args.value args.card)
copy_said c = copy_made c.args.book.now _ _ (written c.before.before) c.requires c.made_copy-message.ensures

record_said :
    (c : After-made_copy-message) →
    let args = c.args in
    take 9 (drop 1 c.made_copy-message.result) ≡ made_record args.book.now args.c.0 args.k.0 (payload_from args.value args.card)
record_said c = record_made c.args.book.now _ _ (written c.before.before) c.requires (copy_said c)

crew_said :
    (c : After-stamp_crew) →
    let args = c.args in
    c.stamp_crew.new.book ≡ written_crew args.book.now args.c.0 args.k.0
crew_said c = crew_made c.args.book.now _ _ (written c.before.before.before.before) c.requires c.stamp_crew.ensures

store_said :
    (c : After-keep_record-current) →
    let args = c.args in
    let book = args.book.now in
    c.keep_record-current.new.book
    ≡ kept_in (counts_of book).depots (home book args.c.0) (made_record book args.c.0 args.k.0 (payload_from args.value args.card)) (written_crew book args.c.0 args.k.0)
store_said c =
    store_made c.args.book.now _ _ (written c.before.before.before.before.before.before.before.before.before) c.requires (record_said c.before.before.before.before.before.before.before) (crew_said c.before.before.before.before.before) c.keep_record-current.ensures.1

pub made_copy-message-requires : goal.made_copy-message-requires
made_copy-message-requires c = let h = limits c.before in (h.0, h.1, h.2, h.3, h.4)

pub stamp_crew-requires : goal.stamp_crew-requires
stamp_crew-requires c = let h = limits c.before.before.before in (h.0, h.2, may_ready _ _ _ (written c.before.before.before) c.requires)

pub keep_record-current-requires : goal.keep_record-current-requires
keep_record-current-requires c =
    let h = limits c.before.before.before.before.before.before.before.before in
    let r = record_said c.before.before.before.before.before.before in
    (c.stamp_crew.auto.book ∙ h.0, h.1, h.3, h.4, ap length r ∙ length_made _ _ _ _, ap bearing_of r ∙ made_bearing _ _ _ _)

pub send-requires : goal.send-requires
send-requires c =
    let h = limits c.before.before.before.before.before.before.before.before.before.before.before.before.before in (
      c.keep_record-current.auto.book ∙ c.stamp_crew.auto.book ∙ h.0,
      ap length (copy_said c.before.before.before.before.before.before.before.before.before.before.before) ∙ ap suc (length_made _ _ _ _),
      may_free _ _ _ (written c.before.before.before.before.before.before.before.before.before.before.before.before.before) c.requires (store_said c.before.before.before.before),
    )

pub returns : goal.returns
returns c =
    let args = c.args in
    let book = args.book.now in (
      answer_made book _ _ (payload_from args.value args.card) c.requires
          (current_made book _ _ (payload_from args.value args.card) c.requires (record_said c.before.before.before.before.before.before.before.before.before.before.before.before.before.before.before.before) (crew_said c.before.before.before.before.before.before.before.before.before.before.before.before.before.before) c.keep_record-current.ensures.0)
          c.answered.ensures,
      sent_made book _ _ (payload_from args.value args.card) c.requires (copy_said c.before.before.before.before.before.before.before.before.before.before.before.before.before.before.before.before) (store_said c.before.before.before.before.before.before.before.before.before) c.send.ensures,
    )
