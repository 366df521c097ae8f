-- The past at work: what each read answers is computed, and a write is in a past through one author, then through two.
-- Assumes nothing.
use Prim.Native.Nat.{ℕ}
use mathlib.Core.Path.{◌≡◌, refl, sym, ap, ◌∙◌}
use mathlib.Core.Logic.{inl, inr}
use mathlib.Core.Bool.{false}
use mathlib.Core.List.Memᴰ
use mathlib.Core.List.{List, [], ◌∷◌, ◌++◌}
use Rattle.loops.specs.Loops.{every, pick}
use Rattle.order.specs.Vector.{zeros}
use Rattle.paper.specs.Calls.{Call, read, write, tick, take, refresh, list, first}
use Rattle.model.specs.Parts.{Write, Shelf, State, fresh, unwritten}
use Rattle.model.specs.Rules.{shown_of, shown, settled, settle, storing, keep}
use Rattle.model.specs.Calls.{within, setup, home_shelf, answered, on_page, made, refusal, step, ends}
use Rattle.model.specs.System.{after, run}
use Rattle.model.specs.Demands.{MadeAt, now, earlier, Got, Past, wrote, got, kept, under}
use Rattle.model.specs.Cases.{day}
use Rattle.model.specs.Words.{three, three_homes, trio, twenty_written, thirty_sent, thirty_read, forty_read, twenty}
use Rattle.model.proofs.Refusals.{SetUp, setting_up}
use Rattle.model.proofs.Lists.{list_shelf}
use Rattle.model.proofs.Demand2.{read_shelf}
use Rattle.model.proofs.Lawful.{dominates, lawful, lawful_agrees}
use Rattle.model.proofs.Computed.{answers_now, ends_now, ends_computed}

thirty : Write
thirty = record { bearing = 1; version = made three 0 1 (day 30) (run three three_homes twenty_written) }

forty : Write
forty = record { bearing = 2; version = made three 1 2 (day 40) (run three three_homes thirty_read) }

-- the calls up to 30's sending, oldest first
sent_calls : List Call
sent_calls = write 0 0 (day 20) ∷ (tick 0 1 ∷ (write 0 1 (day 30) ∷ (take 1 0 0 ∷ (take 1 1 0 ∷ (take 1 1 0 ∷ (tick 0 0 ∷ (take 1 0 0 ∷ (refresh 1 1 ∷ []))))))))

-- the state after them and these, computed
computed : List Call → State
unfolding ends_now dominates lawful three three_homes sent_calls
computed l = ends_now lawful three (fresh three_homes) (sent_calls ++ l)

computes : (l : List Call) → ends three (fresh three_homes) (sent_calls ++ l) ≡ computed l
unfolding computed
computes l = ends_computed three lawful lawful_agrees (fresh three_homes) (sent_calls ++ l)

after_sent : run three three_homes thirty_sent ≡ computed []
unfolding thirty_sent twenty_written sent_calls after ends
after_sent = computes []

after_thirty : run three three_homes thirty_read ≡ computed (read 1 1 ∷ [])
unfolding thirty_read thirty_sent twenty_written sent_calls after ends
after_thirty = computes (read 1 1 ∷ [])

after_twenty : run three three_homes (read 1 0 ∷ thirty_read) ≡ computed (read 1 1 ∷ (read 1 0 ∷ []))
unfolding thirty_read thirty_sent twenty_written sent_calls after ends
after_twenty = computes (read 1 1 ∷ (read 1 0 ∷ []))

after_forty : run three three_homes (write 1 2 (day 40) ∷ thirty_read) ≡ computed (read 1 1 ∷ (write 1 2 (day 40) ∷ []))
unfolding thirty_read thirty_sent twenty_written sent_calls after ends
after_forty = computes (read 1 1 ∷ (write 1 2 (day 40) ∷ []))

-- bearings 0 and 1 on one page
abbrev page : Call
page = list 1 (0 ∷ (1 ∷ []))

after_page : run three three_homes (page ∷ thirty_sent) ≡ computed (page ∷ [])
unfolding thirty_sent twenty_written sent_calls after ends
after_page = computes (page ∷ [])

set_up_three : SetUp three three_homes
unfolding three three_homes setup within first pick every
set_up_three = setting_up three three_homes refl

-- the number of a call there
abbrev number_there : List Call → Call → ℕ
number_there h q = refusal three (run three three_homes h) q

writes_twenty : number_there [] (write 0 0 (day 20)) ≡ 0
unfolding answers_now three three_homes after
writes_twenty = refl

writes_thirty : number_there twenty_written (write 0 1 (day 30)) ≡ 0
unfolding answers_now three three_homes twenty_written after step settled shown settle storing keep
writes_thirty = refl

reads_thirty : number_there thirty_sent (read 1 1) ≡ 0
unfolding answers_now three three_homes
reads_thirty = refl

lists_two : number_there thirty_sent page ≡ 0
unfolding answers_now three three_homes
lists_two = refl

reads_twenty : number_there thirty_read (read 1 0) ≡ 0
unfolding answers_now three three_homes
reads_twenty = refl

writes_forty : number_there thirty_read (write 1 2 (day 40)) ≡ 0
unfolding computed
writes_forty = ap (λ (σ : State). refusal three σ (write 1 2 (day 40))) after_thirty

reads_forty : number_there (write 1 2 (day 40) ∷ thirty_read) (read 2 2) ≡ 0
unfolding answers_now three three_homes
reads_forty = refl

-- what the reads answer
answers_thirty : thirty.version ≡ answered three 1 1 (run three three_homes thirty_sent)
unfolding computed thirty twenty_written after step answered home_shelf settled shown shown_of keep settle
answers_thirty = sym (ap (λ (σ : State). answered three 1 1 σ) after_sent)

answers_twenty : twenty.version ≡ answered three 1 0 (run three three_homes thirty_read)
unfolding computed twenty answered
answers_twenty =
    sym (ap (λ (σ : State). (σ.shelf 1 0).store 0) after_twenty)
    ∙ ap (λ (d : ℕ). ((run three three_homes (read 1 0 ∷ thirty_read)).shelf d 0).store 0) (sym (ap (λ (σ : State). σ.home 1) after_thirty))
    ∙ ap (λ (g : Shelf). g.store 0) (read_shelf three three_homes thirty_read 1 0 reads_twenty)

nothing : unwritten ≡ answered three 1 0 (run three three_homes thirty_sent)
unfolding computed answered home_shelf settled shown shown_of
nothing = sym (ap (λ (σ : State). answered three 1 0 σ) after_sent)

together : twenty.version ≡ on_page three 1 0 (run three three_homes thirty_sent)
unfolding computed twenty on_page
together =
    sym (ap (λ (σ : State). (σ.shelf 1 0).store 0) after_page)
    ∙ ap (λ (d : ℕ). ((run three three_homes (page ∷ thirty_sent)).shelf d 0).store 0) (sym (ap (λ (σ : State). σ.home 1) after_sent))
    ∙ ap (λ (g : Shelf). g.store 0) (list_shelf three three_homes set_up_three thirty_sent 1 (0 ∷ (1 ∷ [])) lists_two 0)

answers_forty : forty.version ≡ answered three 2 2 (run three three_homes (write 1 2 (day 40) ∷ thirty_read))
unfolding computed forty answered home_shelf settled shown shown_of
answers_forty = ap (λ (σ : State). made three 1 2 (day 40) σ) after_thirty ∙ sym (ap (λ (σ : State). answered three 2 2 σ) after_forty)

thirty_written : zeros three.depots thirty.version.vector ≡ false
unfolding answers_now three three_homes thirty twenty_written after step settled shown settle storing keep
thirty_written = refl

forty_written : zeros three.depots forty.version.vector ≡ false
unfolding computed forty
forty_written = ap (λ (σ : State). zeros three.depots (made three 1 2 (day 40) σ).vector) after_thirty

wrote_twenty : Past three trio twenty_written 0 twenty
unfolding twenty_written twenty after
wrote_twenty = kept (wrote (record { passed = writes_twenty; makes = (day 20, refl, refl) }))

made_thirty : MadeAt trio thirty_read twenty_written 0 thirty
unfolding thirty_read thirty_sent thirty
made_thirty = earlier (earlier (earlier (earlier (earlier (earlier (earlier (now (record { passed = writes_thirty; makes = (day 30, refl, refl) }))))))))

pub through_read : Past three trio thirty_read 1 twenty
unfolding thirty_read thirty
through_read = under (got (record { passed = reads_thirty; gets = inl (refl, answers_thirty) }) thirty_written) made_thirty wrote_twenty

pub gets_twenty : Got trio thirty_read (read 1 0) 1 0 twenty.version
gets_twenty = record { passed = reads_twenty; gets = inl (refl, answers_twenty) }

-- shelf 0 is raised with shelf 1's stable vector where both are on one page
pub reads_nothing : Got trio thirty_sent (read 1 0) 1 0 unwritten
unfolding answers_now three three_homes
reads_nothing = record { passed = refl; gets = inl (refl, nothing) }

pub lists_twenty : Got trio thirty_sent (list 1 (0 ∷ (1 ∷ []))) 1 0 twenty.version
lists_twenty = record { passed = lists_two; gets = inr (_, refl, Memᴰ.head refl, together) }

pub through_two : Past three trio forty_read 2 twenty
unfolding forty_read forty
through_two = under (got (record { passed = reads_forty; gets = inl (refl, answers_forty) }) forty_written)
    (earlier (now (record { passed = writes_forty; makes = (day 40, refl, refl) }))) through_read
