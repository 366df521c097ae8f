-- A frame of a link is the one that would be written for its serial and its messages.
-- Assumes nothing.
use Prim.Native.Nat.{ℕ, zero, suc, ◌+◌, ◌*◌, ◌≤◌, ◌<◌}
use native.Mathlib.Omega.{arith}
use mathlib.Core.Path.{◌≡◌, refl, sym, ◌∙◌, ap, ap₂, subst}
use mathlib.Core.Logic.{◌⊎◌, inl, inr, ⊎_elim}
use mathlib.Core.Bool.{true}
use mathlib.Core.List.{List, [], ◌∷◌, ◌++◌}
use lib.Dec.{eqb, ltb, leb, lit<, lit≤}
use lib.ListN.{length, get_or, take}
use lib.Seq.{take_all}
use borrow.Author.Tests.{eqb-true, ltb-true, leb-true}
use Rattle.loops.specs.Loops.{every}
use Rattle.loops.proofs.BoolLaws.{and_left, and_right}
use Rattle.loops.proofs.LoopLaws.{every_at}
use Rattle.book.specs.Words.{part}
use Rattle.book.specs.Layout.{link_room, beat_kind, copy_kind, kind_of}
use Rattle.fit.specs.Fit.{between, message_fit}
use Rattle.wire.specs.Wire.{byte_limit, half_bytes, half_at, joined, Below}
use Rattle.wire.proofs.WireLaws.{part_four, part_two, half_read, runs_found}
use Rattle.frame.specs.declared.Route.{Route}
use Rattle.frame.specs.Frame.{offset_at, body_at, size_of, message_bytes, size_to, place_of, whom, head_of, offsets_of, messages_of, encode_frame}
use Rattle.frame.specs.Frame.{count_in, serial_in, start_in, message_at, message_right, head_right, messages_right, formed}
use Rattle.frame.specs.Stretch.{Known}
use Rattle.frame.proofs.MessageLaws.{IsBeat, IsCopied, message_long, kind_read, only_message, fit_kind}

-- what the tests of a header say
pub record Head (r : Route) (f : List ℕ) : Type 0 where
  pub four : 4 ≤ length f
  pub whom : get_or f 0 0 ≡ whom r
  pub some : 1 ≤ count_in f
  pub few : count_in f ≤ link_room
  pub offsets : body_at (count_in f) ≤ length f

pub head_says : (r : Route) (f : List ℕ) → head_right r f ≡ true → Head r f
unfolding head_right between
head_says r f h =
    let a = and_right (leb (body_at 0) (length f)) _ h in
    let b = and_right (eqb (get_or f 0 0) (whom r)) _ a in
    let c = and_left (between 1 (count_in f) link_room) _ b in
    record {
      four = leb-true _ _ (and_left (leb (body_at 0) (length f)) _ h);
      whom = eqb-true _ _ (and_left (eqb (get_or f 0 0) (whom r)) _ a);
      some = leb-true _ _ (and_left (leb 1 (count_in f)) _ c);
      few = leb-true _ _ (and_right (leb 1 (count_in f)) _ c);
      offsets = leb-true _ _ (and_right (between 1 (count_in f) link_room) _ b);
    }

-- what those of a message say
pub record At (r : Route) (f : List ℕ) (i at : ℕ) : Type 0 where
  pub offset : half_at f (offset_at i) ≡ at
  pub there : at < length f
  pub ends : at + size_of r.counts.depots (get_or f at 0) ≤ length f
  pub fit : message_fit r.counts r.shelf.0 r.from.0 (message_at r f at) ≡ true

pub message_says : (r : Route) (f : List ℕ) (i at : ℕ) → message_right r f i at ≡ true → At r f i at
unfolding message_right
message_says r f i at h =
    let a = and_right (eqb (half_at f (offset_at i)) at) _ h in
    let b = and_right (ltb at (length f)) _ a in
    record {
      offset = eqb-true _ _ (and_left (eqb (half_at f (offset_at i)) at) _ h);
      there = ltb-true _ _ (and_left (ltb at (length f)) _ a);
      ends = leb-true _ _ (and_left (leb (at + size_of r.counts.depots (get_or f at 0)) (length f)) _ b);
      fit = and_right (leb (at + size_of r.counts.depots (get_or f at 0)) (length f)) _ b;
    }

-- what all of them say of a frame
pub record Formed (r : Route) (f : List ℕ) : Type 0 where
  pub head : Head r f
  pub at : (i : ℕ) → i < count_in f → At r f i (start_in r.counts.depots f i)
  pub whole : start_in r.counts.depots f (count_in f) ≡ length f

pub formed_says : (r : Route) (f : List ℕ) → formed r f ≡ true → Formed r f
unfolding formed messages_right
formed_says r f h =
    let a = and_right (head_right r f) _ h in
    record {
      head = head_says r f (and_left (head_right r f) _ h);
      at = λ i l. message_says r f i _ (every_at (count_in f) _ (and_left (messages_right r f) _ a) i l);
      whole = eqb-true _ _ (and_right (messages_right r f) _ a);
    }

module _ (r : Route) (known : Known r) (f : List ℕ) (b : Below byte_limit f) (w : Formed r f) where
  -- its message i
  unfoldable pub read_at : ℕ → List ℕ
  read_at i = message_at r f (start_in r.counts.depots f i)

  place_start : (i : ℕ) → place_of r.counts.depots (count_in f) read_at i ≡ start_in r.counts.depots f i
  unfolding place_of size_to start_in read_at
  place_start zero = omega arith
  place_start (suc i) =
      let e : body_at (count_in f) + size_to r.counts.depots read_at i ≡ start_in r.counts.depots f i = place_start i in
      let k : size_of r.counts.depots (kind_of (read_at i)) ≡ size_of r.counts.depots (get_or f (start_in r.counts.depots f i) 0) = ap (size_of r.counts.depots) (kind_read r f _) in
      omega arith

  kind_is : (i : ℕ) → i < count_in f → (get_or f (start_in r.counts.depots f i) 0 ≡ beat_kind) ⊎ (get_or f (start_in r.counts.depots f i) 0 ≡ copy_kind)
  kind_is i h =
      ⊎_elim
      (λ (x : IsBeat (message_at r f (start_in r.counts.depots f i))). inl (sym (kind_read r f _) ∙ x.kind))
      (λ (x : IsCopied (message_at r f (start_in r.counts.depots f i))). inr (sym (kind_read r f _) ∙ x.kind))
      (fit_kind r _ known.bearings (w.at i h).fit)

  head_is : take 4 f ≡ head_of r (serial_in f) (count_in f)
  unfolding head_of part
  head_is =
      part_four f 0 w.head.four
      ∙ ap₂ (λ (a : ℕ) (l : List ℕ). a ∷ count_in f ∷ l) w.head.whom (sym (part_two f 2 w.head.four) ∙ half_read f 2 w.head.four b)

  front_is : take (body_at (count_in f)) f ≡ head_of r (serial_in f) (count_in f) ++ offsets_of r.counts.depots (count_in f) read_at
  unfolding offsets_of half_bytes
  front_is =
      runs_found f offset_at _ (count_in f)
      (λ i h. (
        twice i,
        half_read f (offset_at i) (omega (arith, w.head.offsets)) b ∙ ap half_bytes ((w.at i h).offset ∙ sym (place_start i)),
      ))
      ∙ ap (λ (l : List ℕ). l ++ offsets_of r.counts.depots (count_in f) read_at) head_is
    where
      twice : (i : ℕ) → 4 + 2 * suc i ≡ 4 + 2 * i + 2
      twice i = omega arith

  all_is : take (start_in r.counts.depots f (count_in f)) f ≡ encode_frame r (serial_in f) (count_in f) read_at
  unfolding encode_frame messages_of start_in read_at
  all_is =
      runs_found f (start_in r.counts.depots f) (λ i. message_bytes r.counts.depots (read_at i)) (count_in f)
      (λ i h.
      let size : size_of r.counts.depots (get_or f (start_in r.counts.depots f i) 0) ≡ length (message_bytes r.counts.depots (read_at i)) = ap
      (size_of r.counts.depots) (sym (kind_read r f _)) ∙ sym (message_long r.counts.depots (read_at i)) in (
        ap (λ (k : ℕ). start_in r.counts.depots f i + k) size,
        ap (part f (start_in r.counts.depots f i)) (sym size) ∙ only_message r f _ b (w.at i h).there (w.at i h).ends known.depots (kind_is i h),
      ))
      ∙ ap (λ (l : List ℕ). l ++ messages_of r.counts.depots (count_in f) read_at) front_is

  -- so it is the frame that would be written
  pub frame_is : f ≡ encode_frame r (serial_in f) (count_in f) read_at
  frame_is = sym (take_all (length f) f (native.Mathlib.Nat.le_refl _)) ∙ ap (λ (n : ℕ). take n f) (sym w.whole) ∙ all_is
