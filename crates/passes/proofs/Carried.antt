-- What follows a system whose history passes has a history that passes: a book that was set up.
-- Assumes nothing.
use Prim.Native.Nat.{ℕ}
use mathlib.Core.Path.{◌≡◌, sym, ◌∙◌}
use mathlib.Core.List.{List}
use Rattle.book.specs.declared.parts.Counts as book
use Rattle.register.specs.Table.{setup_number}
use Rattle.paper.specs.Calls.{Call}
use Rattle.model.specs.Parts.{Counts, Version, Write}
use Rattle.model.specs.System.{System}
use Rattle.model.specs.Demands.{Wrote, Got}
use Rattle.model.specs.Follows.{Follows}
use Rattle.model.proofs.Transfer.{alike}
use Rattle.bridge.specs.View.{to_model}
use Rattle.bridge.specs.Systems.{of_books}
use Rattle.bridge.proofs.SetupView.{setup_open, setup_model}
use Rattle.bridge.proofs.Followed.{book_follows}
use Rattle.passes.specs.Log.{Entry, Tells, a_write, a_read, Told, Logged, nothing, call}
use Rattle.passes.specs.Passes.{Passes}
use Rattle.passes.proofs.Registers.{model_passes}

-- two systems in which the same calls write and are answered with the same
record Same (S T : System) : Type 0 where
  wrote : {h : List Call} {q : Call} {c : ℕ} {w : Write} → Wrote S h q c w → Wrote T h q c w
  got : {h : List Call} {q : Call} {c k : ℕ} {v : Version} → Got S h q c k v → Got T h q c k v

module _ {S T : System} (to : Same S T) (from : Same T S) where
  tells_to : {h : List Call} {q : Call} {e : Entry} → Tells S h q e → Tells T h q e
  tells_to (a_write t) = a_write (to.wrote t)
  tells_to (a_read t) = a_read (to.got t)

  tells_from : {h : List Call} {q : Call} {e : Entry} → Tells T h q e → Tells S h q e
  tells_from (a_write t) = a_write (from.wrote t)
  tells_from (a_read t) = a_read (from.got t)

  -- they have the same log
  logged_to : {h : List Call} {es : List Entry} → Logged S h es → Logged T h es
  logged_to nothing = nothing
  logged_to (call l t) = call (logged_to l) (record { each = λ i m. tells_to (t.each i m); all = λ e u. t.all e (tells_from u); once = t.once })

module _ {π : Counts} {S T : System} (f : Follows π S T) where
  forth : Same S T
  forth = record {
    wrote = λ {h} {q} {c} {w} t. let p = sym ((alike f h).number q) ∙ t.passed in record { passed = p; makes = (alike f h).makes_to q c w p t.makes };
    got = λ {h} {q} {c} {k} {v} t. let p = sym ((alike f h).number q) ∙ t.passed in record { passed = p; gets = (alike f h).gets_to q c k v p t.gets };
  }

  back : Same T S
  back = record {
    wrote = λ {h} {q} {c} {w} t. record { passed = (alike f h).number q ∙ t.passed; makes = (alike f h).makes_from q c w t.passed t.makes };
    got = λ {h} {q} {c} {k} {v} t. record { passed = (alike f h).number q ∙ t.passed; gets = (alike f h).gets_from q c k v t.passed t.gets };
  }

  pub passes_from : Passes π T → Passes π S
  passes_from p = record {
    logged = λ h. let l = p.logged h in (l.0, logged_to back forth l.1);
    causal = λ h es l short. p.causal h es (logged_to forth back l) short;
  }

-- THE BOOKS' HISTORY PASSES: a book that was set up, over every history of calls from there
pub books_pass : (l : List ℕ) (n : book.Counts) (homes : List ℕ) → setup_number l n homes ≡ 0 → Passes (to_model n) (of_books n homes)
books_pass l n homes done = passes_from (book_follows l n homes done) (model_passes (to_model n) homes (setup_model (setup_open l n homes done)))
