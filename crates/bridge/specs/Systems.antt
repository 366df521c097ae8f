-- The books as a system: each request's number, reply and book after it as the promises have them, from a book that was set up; its versions are the
-- records of nine words in which the book keeps them, read as the model has them. And the history that starts at the last setup done.
-- Assumes nothing.
use Rattle.std.specs.Prelude.{ℕ, ◌≡◌, ◌⊎◌}
use mathlib.Core.List.{List, ◌∷◌, ◌++◌, Memᴰ}
use Rattle.book.specs.declared.parts.Counts.{Counts}
use Rattle.book.specs.Layout.{home, crew_vector, clock, stable, seen, link_of, held, stored}
use Rattle.register.specs.Calls.{set_up, read_record, made_record, page_book}
use Rattle.paper.specs.declared.answer.Payload.{Payload}
use Rattle.paper.specs.Calls.{read, write, list}
use Rattle.model.specs.Rules.{copies}
use Rattle.model.specs.System.{System, after}
use Rattle.bridge.specs.View.{version_of, taken_on, untaken_on}
use Rattle.upkeep.specs.Requests.{Request, setup, call, number_at, reply_to, book_after}
use Rattle.bridge.specs.Histories.{book, NoneSetUp, calls_in}

abbrev pub of_books : Counts → List ℕ → System
of_books n homes = record {
  State = List ℕ;
  start = set_up n homes;
  number = λ l q. number_at l (call q);
  answer = λ l q. reply_to l (call q);
  next = λ l q. book_after l (call q);
  home = home;
  crew = crew_vector;
  clock = clock;
  stable = stable;
  seen = seen;
  held = λ l d s o. held l (link_of s o d);
  taken = λ l d s o. taken_on n.depots l (link_of s o d);
  coming = λ l d s o. copies (untaken_on n.depots l (link_of s o d));
  store = λ l d k. version_of n.depots (stored l d k);
  makes = λ l q c w. (p : Payload) × (q ≡ write c w.bearing p) × (w.version ≡ version_of n.depots (made_record l c w.bearing p));
  gets = λ l q c k v. ((q ≡ read c k) × (v ≡ version_of n.depots (read_record l c k)))
      ⊎ ((ks : List ℕ) × (q ≡ list c ks) × Memᴰ k ks × (v ≡ version_of n.depots (stored (page_book l c) (home l c) k)));
}

-- requests to the book b, newest first, of which a setup was done: the last such setup, and the history of calls that starts there
pub record Since (b : List ℕ) (h : List Request) : Type 0 where
  pub counts : Counts
  pub homes : List ℕ
  pub later : List Request
  pub before : List Request
  pub splits : h ≡ later ++ (setup counts homes ∷ before)
  pub done : number_at (book b before) (setup counts homes) ≡ 0
  pub last : NoneSetUp (set_up counts homes) later
  pub leaves : book b h ≡ after (of_books counts homes) (calls_in later)
