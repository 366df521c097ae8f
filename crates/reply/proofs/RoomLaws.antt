-- No answer is longer than its room, with at most four entries and eight bearings; so each has its room where that many bytes are free. And a reply, known by its case.
-- Assumes nothing.
use Prim.Native.Nat.{ℕ, zero, suc, ◌+◌, ◌*◌, ◌≤◌, ◌<◌}
use native.Mathlib.Omega.{arith}
use mathlib.Core.Path.{◌≡◌, refl, sym, ap}
use mathlib.Core.List.{List, [], ◌∷◌}
use mathlib.Core.Bool.{true, false}
use lib.ListN.{length, take, length-take, length-append, replicate}
use Rattle.std.specs.Prelude.{Option, Some, None, Result, Ok}
use Rattle.paper.specs.declared.answer.Payload.{Payload}
use Rattle.paper.specs.declared.answer.Refusal.{Refusal}
use Rattle.paper.specs.declared.answer.Reading.{Reading}
use Rattle.paper.specs.declared.answer.Page.{Page}
use Rattle.paper.specs.Calls.{Told, Answer, refused, done, reads, read_value, read_unwritten, current, superseded, listed}
use Rattle.paper.specs.Answers.{paper_found, paper_read, paper_list, told_all, entries_in, padded, Holds, entries_told, tellings, told_words, page_words, HoldsAll}
use Rattle.request.specs.Replies.{on_paper}
use Rattle.request.specs.declared.reply.Reply.{Reply}
use Rattle.line.specs.Printing.{Room, Wrote}
use Rattle.line.proofs.PrintLaws.{wrote_same, decimal_length, stamp_answer_length}
use Rattle.reply.specs.Printed.{printed, answer_room}
use Rattle.reply.proofs.PageLaws.{AllFew, told_length, page_length, few_depots}

-- at most four entries, at most eight bearings, and of each at most four entries
pub record Short (a : Answer) : Type 0 where
  pub entries : length (entries_in a) ≤ 4
  pub bearings : length (tellings a) ≤ 8
  pub each : AllFew (tellings a)

pub no_list : (a : Answer) → length (entries_in a) ≤ 4 → tellings a ≡ [] → Short a
unfolding AllFew
no_list a h e = record { entries = h; bearings = let n = ap length e in omega arith; each = rw e tt }

pub printed_length : (a : Answer) → Short a → length (printed a) < answer_room
unfolding printed entries_in tellings entries_told
printed_length (refused n) h = let l = decimal_length n in omega arith
printed_length done h = let l = decimal_length 0 in omega arith
printed_length (reads (read_value p u)) h = let l = told_length (read_value p u) h.entries in omega arith
printed_length (reads (read_unwritten u)) h = let l = told_length (read_unwritten u) h.entries in omega arith
printed_length (current stamp) h = let l = stamp_answer_length stamp true in omega arith
printed_length (superseded stamp) h = let l = stamp_answer_length stamp false in omega arith
printed_length (listed ts) h = let l = page_length ts h.each in let k = h.bearings in omega arith

pub printed_room : {o : List ℕ} {at : ℕ} (a : Answer) → Short a → at + answer_room ≤ length o → Room o at (printed a)
printed_room a h k = let l = printed_length a h in record { room = omega arith }

-- ---- what a read or a list tells, whose room holds it

told_words_length : (t : Told) → length (told_words t) ≡ 8
unfolding told_words padded
told_words_length (read_value p u) = refl
told_words_length (read_unwritten u) = refl

page_words_length : (m : ℕ) (ts : List Told) → length (page_words m ts) ≡ 8 * m
unfolding page_words
page_words_length zero ts = refl
page_words_length (suc m) [] =
    let e = length-append (replicate 8 0) (page_words m []) in
    let h = page_words_length m [] in
    omega arith
page_words_length (suc m) (t ∷ ts) =
    let e = length-append (told_words t) (page_words m ts) in
    let l = told_words_length t in
    let h = page_words_length m ts in
    omega arith

entries_found : (f : Option Payload) (u : List ℕ) → entries_in (paper_found f u) ≡ u
unfolding paper_found entries_in
entries_found (Some p) u = refl
entries_found None u = refl

-- a read has four words for a vector, of which at most four count
pub record Few (a : Reading) : Type 0 where
  pub vector : length a.vector ≡ 4
  pub counted : a.depots ≤ 4
  pub entries : length (take a.depots a.vector) ≤ 4

pub holds_few : (a : Reading) → Holds (paper_read (Ok a)) a.vector a.depots → Few a
unfolding paper_read padded
holds_few a h =
    let four : length a.vector ≡ 4 = ap (λ (u : List ℕ). length u) h.vector in
    let part = length-take a.depots a.vector in
    let short : length (take a.depots a.vector) ≤ 4 = omega arith in
    let same = ap (λ (u : List ℕ). length u) (entries_found a.payload (take a.depots a.vector)) in
    let count = h.count in
    record { vector = four; counted = omega arith; entries = short }

-- a list has 64 words, at most four entries of a bearing, and no more bearings than it tells of
pub record FewListed (a : Page) : Type 0 where
  pub words : length a.words ≡ 64
  pub counted : a.depots ≤ 4
  pub bearings : a.bearings ≤ 8

pub holds_few_listed : (a : Page) → HoldsAll (paper_list (Ok a)) a → length (tellings (paper_list (Ok a))) ≤ 8 → FewListed a
unfolding paper_list tellings
holds_few_listed a h k =
    let page = ap (λ (w : List ℕ). length w) h.words in
    let size = page_words_length 8 (told_all a.depots a.bearings a.words) in
    let few = few_depots a.depots a.bearings a.words in
    let count = h.depots in
    let most = h.bearings in
    record { words = omega arith; counted = omega arith; bearings = omega arith }

-- a reply, known by its case
pub said_as :
    {r s : Result Reply Refusal} {o o' : List ℕ} {at next : ℕ} → r ≡ s → Wrote o at (printed (on_paper s)) o' next → Wrote o at (printed (on_paper r)) o' next
said_as e w = wrote_same (sym (ap (λ (x : Result Reply Refusal). printed (on_paper x)) e)) w
