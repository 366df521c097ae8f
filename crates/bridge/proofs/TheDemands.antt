-- The demands of books, all together: nothing is assumed but that a setup was done.
-- Assumes nothing.
use Prim.Native.Nat.{ℕ}
use mathlib.Core.Path.{◌≡◌, refl, ◌∙◌, ap}
use mathlib.Core.List.{List, [], ◌∷◌, ◌++◌}
use Rattle.book.specs.declared.parts.Counts.{Counts}
use Rattle.book.specs.Layout.{home}
use Rattle.register.specs.Table.{setup_number}
use Rattle.register.specs.Promises as promises
use Rattle.register.proofs.MoveTable.{move_stays}
use Rattle.shelf.proofs.FrameLaws.{pick_cases}
use Rattle.paper.specs.Calls.{move, Answer}
use Rattle.upkeep.specs.Requests.{Request, call, reply_to, changed_by, book_after}
use Rattle.line.specs.Reading.{Reading}
use Rattle.events.specs.Answering as events
use Rattle.reply.specs.Printed.{printed}
use Rattle.events.specs.Answering.{line_feed, event_says, event_book, reading_says, reading_book, answer_to}
use Rattle.model.specs.System.{after}
use Rattle.model.proofs.TheDemands as met
use Rattle.model.proofs.Moves.{moves}
use Rattle.model.proofs.Lists.{one_page}
use Rattle.model.proofs.Links.{nothing_lost}
use Rattle.model.proofs.Transfer as transfer
use Rattle.bridge.specs.View.{to_model}
use Rattle.bridge.specs.Demands.{book_of, DeskAsModel, Demands}
use Rattle.bridge.proofs.SetupView.{setup_open, setup_model}
use Rattle.bridge.proofs.Agrees.{sound_by}
use Rattle.bridge.proofs.Followed.{agrees_start, book_follows, followed}
use Rattle.bridge.proofs.BookDemand1.{book_demand1}
use Rattle.bridge.proofs.DatesExist.{dates_exist}

-- the desk's lines
desk_as_model : (l : List ℕ) (n : Counts) (homes : List ℕ) → setup_number l n homes ≡ 0 → DeskAsModel n homes
unfolding answer_to events.book_after_line reading_says reading_book event_says event_book after
desk_as_model l n homes done = record {
  says = λ h line e ns q r a.
      ap (λ (x : Reading). reading_says (book_of n homes h) x ++ (line_feed ∷ [])) r
      ∙ ap (λ (x : Request). printed (reply_to (book_of n homes h) x) ++ (line_feed ∷ [])) a
      ∙ ap (λ (x : Answer). printed x ++ (line_feed ∷ [])) ((transfer.alike (book_follows l n homes done) h).answer q);
  leaves = λ h line e ns q r a. ap (reading_book (book_of n homes h)) r ∙ ap (book_after (book_of n homes h)) a;
}

-- a move to the present home moves not one word, done or refused
move_nothing : (l : List ℕ) (c : ℕ) → book_after l (call (move c (home l c))) ≡ l
unfolding book_after changed_by promises.after
move_nothing l c = pick_cases (λ (m : List ℕ). m ≡ l) _ _ l (λ z. move_stays l c) λ z. refl

pub the_demands : (l : List ℕ) (n : Counts) (homes : List ℕ) → setup_number l n homes ≡ 0 → Demands n homes
unfolding after
the_demands l n homes done =
    let follows = book_follows l n homes done in
    let others = transfer.demands_from follows (sound_by (to_model n) _ _ (agrees_start l n homes done)).small.shelf (met.the_demands (to_model n) homes (setup_model (setup_open l n homes done))) in
    record {
      first = book_demand1 l n homes done;
      as_model = record { numbers = λ h q. (transfer.alike follows h).number q; answers = λ h q. (transfer.alike follows h).answer q; leaves = λ h. (followed l n homes done h).views };
      desk = desk_as_model l n homes done;
      others = others;
      moves = transfer.moves_from follows (λ h c hc. move_nothing (book_of n homes h) c) (moves (to_model n) homes (setup_model (setup_open l n homes done)));
      page = transfer.page_from follows (sound_by (to_model n) _ _ (agrees_start l n homes done)).small.shelf (one_page (to_model n) homes (setup_model (setup_open l n homes done)));
      links = transfer.links_from follows (nothing_lost (to_model n) homes (setup_model (setup_open l n homes done)));
      dates = dates_exist n homes others.besides;
    }
