-- `frame_reader::read_at` meets its contract: another depot, then the frame.
-- Assumes nothing.
use Rattle.std.proofs.Common.{length, sym, subst}
use borrow.Author.Tests.{true-eqb, false-eqb}
use Rattle.paper.specs.Calls.{first}
use Rattle.paper.specs.Answers.{number_of}
use Rattle.paper.specs.declared.answer.Refusal.TheVariants.{SameDepot}
use Rattle.book.specs.declared.parts.Counts.{Counts}
use Rattle.book.specs.Words.{put}
use Rattle.named.proofs.NamedLaws.{base_open}
use Rattle.frame.specs.declared.Route.{Route}
use Rattle.frame.specs.declared.FrameRefusal.TheVariants.{Link}
use Rattle.frame.specs.Frame.{count_in, body_in}
use Rattle.frame.specs.Promises.{frame_number, Outcome, Ready, arrival_rows}
use Rattle.frame.proofs.PromiseLaws.{refused_as, outcome_same, route_ready, reader_same, reader_on}
use Rattle.frame_reader.proofs.read_at.Goals as goal

pub returns-then-eq : goal.returns-then-eq
unfolding frame_number number_of
returns-then-eq c =
    let pre = c.requires in
    refused_as (Link SameDepot) _ _ _
    (reader_same _ _ _ _ _ _ _ pre.0 pre.1 pre.2 pre.3 (true-eqb _ _ c.if-eq.ensures))

pub counts_of-requires : goal.counts_of-requires
counts_of-requires c = (base_open _ c.requires.0).full

pub invariant_of-read_on : goal.invariant_of-read_on
invariant_of-read_on c =
    let args = c.args in
    let pre = c.requires in
    record {
      ready = subst (λ (n : Counts). Ready (record { counts = n; shelf = args.s; from = args.from; to = args.d })) (sym c.counts_of.ensures)
          (route_ready _ _ _ _ pre.0 pre.1 pre.2 pre.3);
    }

pub returns : goal.returns
returns c =
    let args = c.args in
    let pre = c.requires in
    let f = args.f.now in
    let o = args.out.now in
    let call = c.read_on in
    let way : Counts → Route = λ n. record { counts = n; shelf = args.s; from = args.from; to = args.d } in
    outcome_same
    (reader_on _ _ _ _ _ _ _ pre.0 pre.1 pre.2 pre.3 (false-eqb _ _ c.if-eq.ensures))
    (subst (λ (n : Counts). Outcome (first (arrival_rows (way n) args.expected f (length o))) (count_in f) (put o 0 (body_in (way n) f)) o call.result
    call.new.out) c.counts_of.ensures call.ensures)
