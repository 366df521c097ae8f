-- The promise that a register's history passes the auditor.
-- Assumes nothing.
use Rattle.std.specs.Prelude.{◌≤◌, List, length}
use Rattle.paper.specs.Calls.{Call}
use Rattle.model.specs.Parts.{Counts}
use Rattle.model.specs.System.{System}
use Rattle.entries.specs.Entries.{most_entries}
use Rattle.auditor.specs.Verdict.{Verdict}
use Rattle.auditor.specs.declared.finding.Finding.TheVariants.{Causal}
use Rattle.passes.specs.Log.{Entry, words_of, Logged}

-- the whole history since the start, if within 256 entries, passes
pub record Passes (π : Counts) (S : System) : Type 0 where
  -- every history has its entries
  pub logged : (h : List Call) → (es : List Entry) × Logged S h es
  -- and whichever list of them is taken, the auditor says "causal", which is then its only answer
  pub causal : (h : List Call) (es : List Entry) → Logged S h es → length es ≤ most_entries → Verdict (words_of π es) Causal
