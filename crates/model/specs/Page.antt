-- One page, one moment: what is demanded of lists beside demand 2, of any system.
-- Assumes nothing.
use Rattle.std.specs.Prelude.{ℕ, ◌<◌, ◌≡◌}
use mathlib.Core.List.{List, [], ◌∷◌, map, Memᴰ}
use Rattle.paper.specs.Calls.{Call, read, list, Told, reads, listed}
use Rattle.model.specs.Parts.{Counts, Version, Write}
use Rattle.model.specs.Calls.{told, gathered, shelf_of}
use Rattle.model.specs.System.{System, after}
use Rattle.model.specs.Demands.{AtLeast, Done, Got, MadeAt, Past}

module _ (π : Counts) (S : System) where
  -- crew c's list of the bearings ks, done after history h
  pub record ListAnswers (h : List Call) (c : ℕ) (ks : List ℕ) : Type 0 where
    pub named : c < π.crews
    -- it answers each bearing with one version: the same bearing twice, the same answer twice
    pub version : ℕ → Version
    pub answer : S.answer (after S h) (list c ks) ≡ listed (map (λ k. told π.depots (version k)) ks)
    pub got : (k : ℕ) → Memᴰ k ks → Got S h (list c ks) c k (version k)
    -- the crew's vector becomes the entrywise maximum with every answer
    pub merged : (x : ℕ) → x < π.depots → S.crew (after S (list c ks ∷ h)) c x ≡ gathered (S.crew (after S h) c) (λ k. (version k).vector) ks x
    -- one moment: where an answer v rests on a write w to another listed bearing, that bearing's answer is not lower than w
    pub moment : (g : List Call) (b : ℕ) (v w : Write) → Memᴰ v.bearing ks → Memᴰ w.bearing ks → v.version ≡ version v.bearing
        → MadeAt S h g b v → Past π S g b w → AtLeast π.depots (version w.bearing) w.version

  pub record OnePage : Type 0 where
    pub lists : (h : List Call) (c : ℕ) (ks : List ℕ) → Done S h (list c ks) → ListAnswers h c ks
    -- where all home shelves have the same stable vector beforehand, a list of one gives the answer of a plain read
    pub alone : (h : List Call) (c k : ℕ) → Done S h (list c (k ∷ []))
        → ((r x : ℕ) → r < π.shelves → x < π.depots → S.stable (after S h) (S.home (after S h) c) r x ≡ S.stable (after S h) (S.home (after S h) c) (shelf_of π k) x)
        → (t : Told) × (S.answer (after S h) (list c (k ∷ [])) ≡ listed (t ∷ [])) × (S.answer (after S h) (read c k) ≡ reads t)
