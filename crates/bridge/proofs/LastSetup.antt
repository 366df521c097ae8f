-- Whatever is asked of whatever book: either no setup was done, or the book is what the calls since the last one leave.
-- Assumes nothing.
use Prim.Native.Nat.{ℕ}
use mathlib.Core.Path.{◌≡◌, refl, sym, ◌∙◌, ap, subst}
use mathlib.Core.Logic.{◌⊎◌, inl, inr, ⊎_elim}
use mathlib.Core.List.{List, [], ◌∷◌}
use borrow.Author.Tests.{eq-eqb}
use Rattle.loops.proofs.BoolLaws.{pick_true, eq_or_ne}
use Rattle.book.specs.declared.parts.Counts.{Counts}
use Rattle.register.specs.Calls.{set_up}
use Rattle.register.specs.Promises as promises
use Rattle.upkeep.proofs.NeverBadAnswer.{refused_stays}
use Rattle.model.specs.System.{after}
use Rattle.upkeep.specs.Requests.{Request, setup, call, number_at, changed_by, book_after}
use Rattle.bridge.specs.Histories.{book, NoneSetUp, start, refused, called, calls_in}
use Rattle.bridge.specs.Systems.{of_books, Since}

-- a setup that is done leaves what it sets up
setting_up : (l : List ℕ) (n : Counts) (homes : List ℕ) → number_at l (setup n homes) ≡ 0 → book_after l (setup n homes) ≡ set_up n homes
unfolding book_after changed_by promises.after
setting_up l n homes e = pick_true _ _ (eq-eqb _ 0 e)

-- the requests since a setup, of which no other was done, leave what their calls leave
pub calls_leave : (n : Counts) (homes : List ℕ) {h : List Request} → NoneSetUp (set_up n homes) h → book (set_up n homes) h ≡ after (of_books n homes) (calls_in h)
unfolding book after calls_in
calls_leave n homes start = refl
calls_leave n homes (refused u e) = refused_stays _ _ e ∙ calls_leave n homes u
calls_leave n homes (called {q = q} u) = ap (λ (x : List ℕ). book_after x (call q)) (calls_leave n homes u)

-- one request more that sets nothing up
more : (b : List ℕ) (h : List Request) (r : Request) → ((c : List ℕ) (g : List Request) → book c g ≡ book b h → NoneSetUp c g → NoneSetUp c (r ∷ g)) → NoneSetUp b h ⊎ Since b h
    → NoneSetUp b (r ∷ h) ⊎ Since b (r ∷ h)
unfolding book
more b h r f (inl u) = inl (f b h refl u)
more b h r f (inr S) =
    let same = S.leaves ∙ sym (calls_leave S.counts S.homes S.last) in
    let u = f (set_up S.counts S.homes) S.later (sym same) S.last in
    inr (record {
      counts = S.counts;
      homes = S.homes;
      later = r ∷ S.later;
      before = S.before;
      splits = ap (λ (x : List Request). r ∷ x) S.splits;
      done = S.done;
      last = u;
      leaves = ap (λ (x : List ℕ). book_after x r) same ∙ calls_leave S.counts S.homes u;
    })

pub last_setup : (b : List ℕ) (h : List Request) → NoneSetUp b h ⊎ Since b h
unfolding book calls_in after
last_setup b [] = inl start
last_setup b (setup n homes ∷ h) =
    ⊎_elim
    (λ (e : number_at (book b h) (setup n homes) ≡ 0).
    inr (record { counts = n; homes = homes; later = []; before = h; splits = refl; done = e; last = start; leaves = setting_up (book b h) n homes e }))
    (λ (e : number_at (book b h) (setup n homes) ≡ 0 → ⊥).
    more b h (setup n homes) (λ c g same u. refused u (λ z. e (subst (λ (x : List ℕ). number_at x (setup n homes) ≡ 0) same z))) (last_setup b h))
    (eq_or_ne (number_at (book b h) (setup n homes)) 0)
last_setup b (call q ∷ h) = more b h (call q) (λ c g same u. called u) (last_setup b h)
