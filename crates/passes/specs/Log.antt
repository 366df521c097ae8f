-- The history of a system as the auditor reads it: what its calls that are done wrote and were answered with, oldest first, as words.
-- Assumes nothing.
use Rattle.std.specs.Prelude.{ℕ, ◌<◌, ◌≡◌, List, [], ◌∷◌, ◌++◌, ltb, length, get_or}
use Rattle.loops.specs.Loops.{pick}
use Rattle.paper.specs.Calls.{Call}
use Rattle.model.specs.Parts.{Counts, Version, Write, unwritten}
use Rattle.model.specs.System.{System}
use Rattle.model.specs.Demands.{Wrote, Got}

-- an entry: 0 a write, 1 a read; the crew; the bearing, and the version that was written or shown
pub record Entry : Type 0 where
  pub kind : ℕ
  pub crew : ℕ
  pub write : Write

-- entry i of a list; past its end one of no kind
abbrev pub nobody : Entry
nobody = record { kind = 2; crew = 0; write = record { bearing = 0; version = unwritten } }

abbrev pub nth : List Entry → ℕ → Entry
nth es i = get_or es i nobody

-- ---- its eleven words

-- the entry of depot x, 0 where there is no such depot
unfoldable pub shown : Counts → Version → ℕ → ℕ
shown π v x = pick (ltb x π.depots) (v.vector x) 0

unfoldable pub words : Counts → Entry → List ℕ
words π e =
    e.kind ∷ e.crew ∷ e.write.bearing
    ∷ e.write.version.payload.value ∷ e.write.version.payload.diameter ∷ e.write.version.payload.width ∷ e.write.version.origin
    ∷ shown π e.write.version 0 ∷ shown π e.write.version 1 ∷ shown π e.write.version 2 ∷ shown π e.write.version 3 ∷ []

unfoldable pub words_of : Counts → List Entry → List ℕ
words_of π [] = []
words_of π (e ∷ es) = words π e ++ words_of π es

-- ---- a system's entries

module _ (S : System) where
  -- the call q, done after history h, makes this entry: it wrote the version, or was answered with it
  pub data Tells (h : List Call) (q : Call) : Entry → Type 0 where
    a_write : {c : ℕ} {w : Write} → Wrote S h q c w → Tells h q (record { kind = 0; crew = c; write = w })
    a_read : {c : ℕ} {w : Write} → Got S h q c w.bearing w.version → Tells h q (record { kind = 1; crew = c; write = w })

  -- these are the entries of the call q, asked after history h: all that it makes and no others, in any order, each write once; a call that is refused
  -- makes none
  pub record Told (h : List Call) (q : Call) (new : List Entry) : Type 0 where
    pub each : (i : ℕ) → i < length new → Tells h q (nth new i)
    pub all : (e : Entry) → Tells h q e → (i : ℕ) × (i < length new) × (nth new i ≡ e)
    pub once : (i j : ℕ) → i < j → j < length new → (nth new i).kind ≡ 0 → nth new i ≡ nth new j → ⊥

  -- the entries of history h, oldest first; a history has its newest call first
  pub data Logged : List Call → List Entry → Type 0 where
    nothing : Logged [] []
    call : {h : List Call} {q : Call} {es new : List Entry} → Logged h es → Told h q new → Logged (q ∷ h) (es ++ new)
