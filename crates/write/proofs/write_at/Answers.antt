-- `write::write_at` meets its contract: the parts, the checks that need the home shelf, then the version.
-- Assumes nothing.
use Prim.Native.Nat.{ℕ, ◌+◌, ◌%◌, ◌≤◌, ◌<◌}
use native.Mathlib.Nat.{lt_of_lt_of_le}
use native.Mathlib.Omega.{arith}
use mathlib.Core.Path.{◌≡◌, ◌∙◌, sym, ap, subst, subst₂}
use mathlib.Core.Bool.{true}
use lib.ListN.{get_or}
use Rattle.std.specs.Prelude.{None, Some, Err}
use Rattle.loops.proofs.BoolLaws.{test_passed, test_failed}
use Rattle.book.specs.declared.parts.Counts.{Counts}
use Rattle.book.specs.Layout.{end, counts_of, home, crew_vector, clock}
use Rattle.card.specs.Card.{card_fit, card_answer}
use Rattle.card.proofs.Theorems.{good_tells, bad_tells}
use Rattle.fit.specs.Fit.{Within}
use Rattle.named.specs.Named.{write_parts, write_fit}
use Rattle.named.proofs.NamedLaws.{Based, base_open, write_named}
use Rattle.links.specs.Send.{roomy}
use Rattle.paper.specs.declared.answer.Refusal.TheVariants.{BadBook, BadDate, BadCard, Wait, ClockAtEnd, LinkFull}
use Rattle.paper.specs.declared.answer.Payload.{Payload}
use Rattle.paper.specs.Calls.{last_day}
use Rattle.std.proofs.Common.{Ok}
use Rattle.paper.specs.Answers.{number_of, paper_write}
use Rattle.register.specs.Table.{shelf_of, write_number}
use Rattle.register.specs.Calls.{payload_from}
use Rattle.register.specs.Promises.{Write}
use Rattle.register.specs.Checks.{MayWrite}
use Rattle.register.proofs.CallLaws.{by_refusal, by_done, after_refused, after_done}
use Rattle.register.proofs.FitReady.{shelf_in}
use Rattle.register.proofs.HomeLaws.{parts_write}
use Rattle.register.proofs.WriteLaws.{payload_back}
use Rattle.register.proofs.SendTable.{write_book_law, write_date, write_card, write_wait, write_end, write_full, write_good}
use Rattle.write.proofs.write_at.Goals as goal
use Rattle.write.proofs.write_at.Lts as lts
use Rattle.write.proofs.write_at.Tie as tie
use Rattle.write.proofs.write_at.Reads as reads

-- what is known at a place, for the lemmas below
abbrev Else-not-write_parts_fit : Type 0
Else-not-write_parts_fit = lts.Else1 tie.the-claims reads.Pre reads.Post tie.handed_clauses

abbrev Start : Type 0
Start = lts.Start tie.the-claims reads.Pre reads.Post tie.handed_clauses

abbrev Else-payload-gt-LAST_DAY : Type 0
Else-payload-gt-LAST_DAY = lts.Else2 tie.the-claims reads.Pre reads.Post tie.handed_clauses

abbrev In-Ok : Type 0
In-Ok = lts.Past-After-known_told tie.the-claims reads.Pre reads.Post tie.handed_clauses

abbrev After-index : Type 0
After-index = lts.After-index tie.the-claims reads.Pre reads.Post tie.handed_clauses

abbrev Else-clock-book : Type 0
Else-clock-book = lts.Else3 tie.the-claims reads.Pre reads.Post tie.handed_clauses

abbrev After-write_parts_fit : Type 0
After-write_parts_fit = lts.After-write_parts_fit tie.the-claims reads.Pre reads.Post tie.handed_clauses

abbrev After-clock_of-clock : Type 0
After-clock_of-clock = lts.After-clock_of tie.the-claims reads.Pre reads.Post tie.handed_clauses

abbrev After-shelf_for-s : Type 0
After-shelf_for-s = lts.After-shelf_for tie.the-claims reads.Pre reads.Post tie.handed_clauses

abbrev Else-clock-ge-END : Type 0
Else-clock-ge-END = lts.Else4 tie.the-claims reads.Pre reads.Post tie.handed_clauses

abbrev After-is_roomy : Type 0
After-is_roomy = lts.After-is_roomy tie.the-claims reads.Pre reads.Post tie.handed_clauses

abbrev Else-not-is_roomy : Type 0
Else-not-is_roomy = lts.Else5 tie.the-claims reads.Pre reads.Post tie.handed_clauses

-- the steps that later ones look back to: the call's begin, the parts judged, the day, the card, and the crew's home entry
abbrev begin : Else-not-write_parts_fit → Start
begin c = c.before.before.before.before.before.before

abbrev parts : Else-payload-gt-LAST_DAY → Else-not-write_parts_fit
parts c = c.before.before

abbrev day : In-Ok → Else-payload-gt-LAST_DAY
day c = c.before.before.before.before

abbrev card : After-index → In-Ok
card c = c.before.before.before

abbrev index : Else-clock-book → After-index
index c = c.before.before

-- what the shared checks know of the book
base : (c : Start) → Based c.args.book.now
base c = base_open _ c.requires.0

-- what the test of the parts says
parts_said :
    (c : After-write_parts_fit) →
    let args = c.args in
    c.write_parts_fit.result ≡ write_parts (counts_of args.book.now) args.book.now args.c.0 args.k.0
parts_said c =
    c.write_parts_fit.ensures ∙ parts_write _ _ _ c.counts_of-n.ensures c.home_depot-d.ensures c.shelf_for-s.ensures

fits : (c : Else-not-write_parts_fit) → let args = c.args in write_fit args.book.now args.c.0 args.k.0 ≡ true
fits c =
    let start = begin c in
    write_named _ _ _ start.requires.0 start.requires.1 start.requires.2 ∙ test_passed (parts_said c.before) c.if-not-write_parts_fit.false-raw

dated : (c : Else-payload-gt-LAST_DAY) → c.args.payload.value ≤ last_day
dated c = omega (arith, c.if-payload-gt-LAST_DAY.false)

-- the card that was made is the one asked for, and its words are the payload's
good : (c : In-Ok) → let p = c.args.payload in card_answer p.diameter p.width ≡ Some c.in_ok-card.card
good c =
    let some : c.card_of.result ≡ Some c.in_ok-card.card = grind arith in
    sym c.card_of.ensures ∙ some

carded : (c : In-Ok) → let p = c.args.payload in card_fit p.diameter p.width ≡ true
carded c = (good_tells _ _ _ (good c)).0

same_payload : (c : In-Ok) → let p = c.args.payload in payload_from p.value c.in_ok-card.card ≡ p
same_payload c = payload_back _ _ (good c)

-- where the write stands: the home shelf's clock, and the crew's home entry
clock_said :
    (c : After-clock_of-clock) →
    let args = c.args in
    let book = args.book.now in
    c.clock_of-clock.result ≡ clock book (home book args.c.0) (shelf_of book args.k.0)
clock_said c =
    let args = c.args in
    let book = args.book.now in
    c.clock_of-clock.ensures
    ∙ (λ z. clock book (c.home_depot-d.ensures z) (c.shelf_for-s.ensures z))
    ∙ ap (λ (n : Counts). clock book (home book args.c.0) (args.k.0 % n.shelves)) c.counts_of-n.ensures

entry_said :
    (c : After-index) →
    let args = c.args in
    let book = args.book.now in
    get_or book (c.crew_at.result + c.index.result) 0 ≡ crew_vector book args.c.0 (home book args.c.0)
entry_said c =
    let book = c.args.book.now in
    let own = c.index.ensures ∙ c.home_depot-d.ensures in
    λ z. get_or book (c.crew_at.ensures z + own z) 0

-- the numbers that name the parts
small :
    (c : After-shelf_for-s) →
    (c.home_depot-d.result.0 < 4) × (c.shelf_for-s.result.0 < 4) × (c.args.c.0 < 16) × (c.counts_of-n.result.depots ≤ 4) × (c.args.k.0 < 160)
small c =
    let w = base c.before.before.before.before in
    let n = c.counts_of-n.ensures in (
      subst (λ (x : ℕ). x < 4) (sym c.home_depot-d.ensures) (lt_of_lt_of_le (w.homes _ c.requires.1) w.within.depots),
      subst (λ (x : ℕ). x < 4) (sym c.shelf_for-s.ensures)
          (subst (λ (m : Counts). c.args.k.0 % m.shelves < 4) (sym n)
          (lt_of_lt_of_le (shelf_in (counts_of c.args.book.now) w.within c.args.k.0) w.within.shelves)),
      lt_of_lt_of_le c.requires.1 w.within.crews,
      subst (λ (m : Counts). m.depots ≤ 4) (sym n) w.within.depots,
      lt_of_lt_of_le c.requires.2 w.within.bearings,
    )

-- what each test that was passed says
told_no_wait :
    (c : Else-clock-book) →
    let args = c.args in
    let book = args.book.now in
    crew_vector book args.c.0 (home book args.c.0) ≤ clock book (home book args.c.0) (shelf_of book args.k.0)
told_no_wait c =
    let e = entry_said (index c) in
    let t = clock_said (index c).before.before in
    subst₂ (λ (x y : ℕ). x ≤ y) e t c.if-clock-book.false

told_early :
    (c : Else-clock-ge-END) →
    let args = c.args in
    let book = args.book.now in
    clock book (home book args.c.0) (shelf_of book args.k.0) < end
told_early c = subst (λ (x : ℕ). x < end) (clock_said (index c.before).before.before) c.if-clock-ge-END.false

roomy_said :
    (c : After-is_roomy) →
    let args = c.args in
    let book = args.book.now in
    c.is_roomy.result ≡ roomy (counts_of book).depots (home book args.c.0) (shelf_of book args.k.0) book
roomy_said c =
    let args = c.args in
    let book = args.book.now in
    c.is_roomy.ensures
    ∙ (λ z. roomy c.counts_of-n.result.depots (c.home_depot-d.ensures z) (c.shelf_for-s.ensures z) book)
    ∙ ap (λ (n : Counts). roomy n.depots (home book args.c.0) (args.k.0 % n.shelves) book) c.counts_of-n.ensures

abbrev known : Else-not-is_roomy → In-Ok
known c = card (index c.before.before.before)

passed : (c : Else-not-is_roomy) → let args = c.args in write_number args.book.now args.c.0 args.k.0 args.payload ≡ 0
passed c =
    let at = parts (day (known c)) in
    let start = begin at in
    write_good _ _ _ _ (fits at) start.requires.1 start.requires.2 (dated (day (known c))) (carded (known c))
    (told_no_wait c.before.before.before) (told_early c.before.before) (test_passed (roomy_said c.before) c.if-not-is_roomy.false-raw)

may :
    (c : Else-not-is_roomy) →
    let args = c.args in
    MayWrite args.book.now args.c.0 args.k.0 (payload_from args.payload.value c.in_ok-card.card) c.counts_of-n.result.depots
    c.home_depot-d.result.0 c.shelf_for-s.result.0 (c.clock_of-clock.result + 1)
may c =
    let args = c.args in
    record {
      passed = subst (λ (p : Payload). write_number args.book.now args.c.0 args.k.0 p ≡ 0) (sym (same_payload (known c))) (passed c);
      depots = ap (λ (n : Counts). n.depots) c.counts_of-n.ensures;
      depot = c.home_depot-d.ensures;
      shelf = c.shelf_for-s.ensures ∙ ap (λ (n : Counts). args.k.0 % n.shelves) c.counts_of-n.ensures;
      stamped = ap (λ (x : ℕ). x + 1) (clock_said (index c.before.before.before).before.before);
    }

pub counts_of-n-requires : goal.counts_of-n-requires
counts_of-n-requires c = (base c.before).full

pub home_depot-d-requires : goal.home_depot-d-requires
home_depot-d-requires c =
    let w = base c.before.before in (
      w.full,
      lt_of_lt_of_le c.requires.1 w.within.crews,
      subst (λ (n : Counts). home c.args.book.now c.args.c.0 < n.depots) (sym c.counts_of-n.ensures) (w.homes _ c.requires.1),
    )

pub shelf_for-s-requires : goal.shelf_for-s-requires
shelf_for-s-requires c = subst (λ (n : Counts). 0 < n.shelves) (sym c.counts_of-n.ensures) (base c.before.before.before).within.shelf

pub write_parts_fit-requires : goal.write_parts_fit-requires
write_parts_fit-requires c =
    let w = base c.before.before.before.before in
    let h = small c in
    (w.full, subst Within (sym c.counts_of-n.ensures) w.within, h.2, h.4, h.0, h.1)

pub returns-then-not-write_parts_fit : goal.returns-then-not-write_parts_fit
unfolding number_of paper_write
returns-then-not-write_parts_fit c =
    let e = write_book_law _ _ _ _ c.requires.0 c.requires.1 c.requires.2 (test_failed (parts_said c.before) c.if-not-write_parts_fit.true-raw) in
    record { answer = by_refusal BadBook _ e; book = after_refused BadBook _ _ e }

pub returns-then-payload-gt-LAST_DAY : goal.returns-then-payload-gt-LAST_DAY
unfolding number_of paper_write
returns-then-payload-gt-LAST_DAY c =
    let start = begin c.before.before in
    let e = write_date _ _ _ _ (fits c.before.before) start.requires.1 start.requires.2 c.if-payload-gt-LAST_DAY.true in
    record { answer = by_refusal BadDate _ e; book = after_refused BadDate _ _ e }

pub returns-in_err-card : goal.returns-in_err-card
unfolding number_of paper_write
returns-in_err-card c =
    let past = c.before.before.before.before.before in
    let start = begin (parts past) in
    let none : c.card_of.result ≡ None = grind arith in
    let answer : c.from_residual.result ≡ Err BadCard = grind arith in
    let e = write_card _ _ _ _ (fits (parts past)) start.requires.1 start.requires.2 (dated past) (bad_tells _ _ (sym c.card_of.ensures ∙ none)) in
    rw answer (record { answer = by_refusal BadCard _ e; book = after_refused BadCard _ _ e })

pub clock_of-clock-requires : goal.clock_of-clock-requires
clock_of-clock-requires c = let h = small (parts (day c)).before.before in ((base (begin (parts (day c)))).full, h.0, h.1)

pub crew_at-requires : goal.crew_at-requires
crew_at-requires c = (small (parts (day c.before)).before.before).2

pub overflow_add-crew_at : goal.overflow_add-crew_at
overflow_add-crew_at c = let h = small (parts (day (card c))).before.before in omega (arith, h.0, h.2, c.index.ensures, c.crew_at.ensures)

pub offset_bounds-book-crew_at : goal.offset_bounds-book-crew_at
offset_bounds-book-crew_at c = let h = small (parts (day (card c))).before.before in omega (arith, h.0, h.2, c.index.ensures, c.crew_at.ensures)

pub bounds-book-crew_at : goal.bounds-book-crew_at
bounds-book-crew_at c =
    let h = small (parts (day (card c.before.before))).before.before in
    let full = (base (begin (parts (day (card c.before.before))))).full in
    omega (arith, h.0, h.2, full, c.index.ensures, c.crew_at.ensures)

pub returns-then-clock-book : goal.returns-then-clock-book
unfolding number_of paper_write
returns-then-clock-book c =
    let known = card c.before.before.before in
    let start = begin (parts (day known)) in
    let late = subst₂ (λ (x y : ℕ). x < y) (clock_said c.before.before.before.before.before) (entry_said c.before.before.before) c.if-clock-book.true in
    let e = write_wait _ _ _ _ (fits (parts (day known))) start.requires.1 start.requires.2 (dated (day known)) (carded known) late in
    record { answer = by_refusal Wait _ e; book = after_refused Wait _ _ e }

pub returns-then-clock-ge-END : goal.returns-then-clock-ge-END
unfolding number_of paper_write
returns-then-clock-ge-END c =
    let at = index c.before.before in
    let known = card at in
    let start = begin (parts (day known)) in
    let ended = subst (λ (x : ℕ). end ≤ x) (clock_said at.before.before) c.if-clock-ge-END.true in
    let e = write_end _ _ _ _ (fits (parts (day known))) start.requires.1 start.requires.2 (dated (day known)) (carded known) (told_no_wait c.before.before) ended in
    record { answer = by_refusal ClockAtEnd _ e; book = after_refused ClockAtEnd _ _ e }

pub is_roomy-requires : goal.is_roomy-requires
is_roomy-requires c =
    let shelf = (parts (day (card (index c.before)))).before.before in
    let h = small shelf in
    ((base shelf.before.before.before.before).full, h.3, h.0, h.1)

pub returns-then-not-is_roomy : goal.returns-then-not-is_roomy
unfolding number_of paper_write
returns-then-not-is_roomy c =
    let known = card (index c.before.before.before) in
    let start = begin (parts (day known)) in
    let full = test_failed (roomy_said c.before) c.if-not-is_roomy.true-raw in
    let e =
    write_full _ _ _ _ (fits (parts (day known))) start.requires.1 start.requires.2 (dated (day known)) (carded known) (told_no_wait c.before.before.before) (told_early c.before.before) full in
    record { answer = by_refusal LinkFull _ e; book = after_refused LinkFull _ _ e }

pub overflow_add-clock : goal.overflow_add-clock
overflow_add-clock c = let t = c.if-clock-ge-END.false in omega (arith, t)

pub write_version-requires : goal.write_version-requires
write_version-requires c = may c.before

pub returns : goal.returns
returns c =
    let call = c.write_version in
    let e = (may c.before.before.before.before.before).passed in
    let args = c.args in
    subst (λ (p : Payload). Write args.book.now args.c.0 args.k.0 p (Ok call.result) call.new.book) (same_payload (known c.before.before.before.before.before))
    (record { answer = call.ensures.0 ∙ by_done e; book = call.ensures.1 ∙ after_done _ _ e })
