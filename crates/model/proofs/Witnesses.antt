-- The words of the demands at work: the past, rounds, and a crew that waits in silence, which is computed here.
-- Assumes nothing.
use Prim.Native.Nat.{ℕ, ◌-◌, ◌<◌}
use native.Mathlib.Omega.{arith}
use mathlib.Core.Path.{◌≡◌, refl}
use mathlib.Core.Logic.{◌⊎◌, inl, inr}
use mathlib.Core.List.Memᴰ
use mathlib.Core.List.{List, [], ◌∷◌, ◌++◌}
use Rattle.paper.specs.Calls.{Call, take}
use Rattle.model.specs.Rules.{shown, settled, settle, storing, keep}
use Rattle.model.specs.Calls.{step}
use Rattle.model.specs.System.{after}
use Rattle.model.specs.Demands as demands
use Rattle.model.specs.Demands.{IsTake, IsRefresh, IsTick, a_take, a_refresh, a_tick, By, Among, Each, Silent, Rounds, lowest_clock}
use Rattle.model.specs.Cases.{counts, homes}
use Rattle.model.specs.Words.{all_refreshed, all_ticked, twice, asks, waited_once, waited_twice, duo, number_after, Words}
use Rattle.model.proofs.Computed.{answers_now}
use Rattle.model.proofs.PastWorked.{through_read, gets_twenty, reads_nothing, lists_twenty, through_two}
use Rattle.model.proofs.RoundsWorked.{taking, no_takes, OfLinks, all_links, Emptied, all_refreshes, all_ticks, round_of, is_f, f_rounds, not_yet, plain, no_read}

-- takes, refreshes and ticks are no crew's
nobodys : (c : ℕ) {q : Call} → IsTick q ⊎ (IsRefresh q ⊎ IsTake q) → By c q → ⊥
nobodys c (inl a_tick) b = elim b [ ]
nobodys c (inr (inl a_refresh)) b = elim b [ ]
nobodys c (inr (inr a_take)) b = elim b [ ]

silent_through : (l : List Call) {g h : List Call} → ((q : Call) → Among q l → IsTick q ⊎ (IsRefresh q ⊎ IsTake q)) → Silent duo 0 g h → Silent duo 0 g (l ++ h)
silent_through [] each s = s
silent_through (q ∷ l) each s = demands.on (silent_through l (λ q m. each q (Memᴰ.tail m)) s) (λ b p. nobodys 0 (each q (Memᴰ.head refl)) b)

pub silent_round : (takes : List Call) {g h : List Call} → Each IsTake takes → Silent duo 0 g h → Silent duo 0 g (all_ticked ++ (all_refreshed ++ (takes ++ h)))
silent_round takes are s =
    silent_through all_ticked (λ q m. inl (all_ticks q m))
    (silent_through all_refreshed (λ q m. inr (inl (all_refreshes q m))) (silent_through takes (λ q m. inr (inr (are q m))) s))

two_lacking : duo.crew (after duo twice) 0 0 - lowest_clock counts duo twice 0 ≡ 2
unfolding answers_now counts homes twice after step settled shown settle storing keep lowest_clock
two_lacking = refl

in_vain : number_after twice asks ≡ 8
unfolding answers_now counts homes twice after step settled shown settle storing keep
in_vain = refl

in_vain_again : number_after waited_once asks ≡ 8
unfolding answers_now counts homes twice waited_once all_refreshed all_ticked after step settled shown settle storing keep
in_vain_again = refl

at_last : number_after waited_twice asks ≡ 0
unfolding answers_now counts homes twice waited_once waited_twice all_refreshed all_ticked after step settled shown settle storing keep
at_last = refl

abbrev two_takes : List Call
two_takes = take 1 0 0 ∷ (take 1 0 0 ∷ [])

abbrev pub four_takes : List Call
four_takes = take 0 1 1 ∷ (take 0 0 1 ∷ (take 1 1 0 ∷ (take 1 0 0 ∷ [])))

once_emptied : OfLinks (Emptied (two_takes ++ (asks ∷ twice)))
unfolding answers_now counts homes twice after step settled shown settle storing keep
once_emptied = all_links (Emptied (two_takes ++ (asks ∷ twice))) refl refl refl refl

twice_emptied : OfLinks (Emptied (four_takes ++ (asks ∷ waited_once)))
unfolding answers_now counts homes twice waited_once all_refreshed all_ticked after step settled shown settle storing keep
twice_emptied = all_links (Emptied (four_takes ++ (asks ∷ waited_once))) refl refl refl refl

pub waited : Rounds counts duo 2 twice waited_twice
unfolding waited_once waited_twice
waited =
    demands.round (demands.between (demands.round (demands.between demands.begin) (round_of two_takes (asks ∷ twice) (taking (taking no_takes)) once_emptied)))
    (round_of four_takes (asks ∷ waited_once) (taking (taking (taking (taking no_takes)))) twice_emptied)

pub silent : Silent duo 0 twice waited_twice
unfolding waited_once waited_twice
silent =
    silent_round four_takes (taking (taking (taking (taking no_takes))))
    (demands.on (silent_round two_takes (taking (taking no_takes)) (demands.on demands.start (λ b p. never in_vain p))) (λ b p. never in_vain_again p))
  where
    never : {n : ℕ} → n ≡ 8 → n ≡ 0 → ⊥
    never e f = omega arith

pub words : Words
unfolding all_ticked all_refreshed
words = record {
  through_read = through_read;
  gets_twenty = gets_twenty;
  reads_nothing = reads_nothing;
  lists_twenty = lists_twenty;
  through_two = through_two;
  is_f = is_f;
  f_rounds = f_rounds;
  not_yet = not_yet;
  plain = plain;
  read_first = no_read (Memᴰ.append_right all_ticked (Memᴰ.append_right all_refreshed (Memᴰ.head refl)));
  read_between = no_read (Memᴰ.append_right all_ticked (Memᴰ.head refl));
  read_last = no_read (Memᴰ.head refl);
  two_lacking = two_lacking;
  silent = silent;
  waited = waited;
  in_vain = in_vain;
  in_vain_again = in_vain_again;
  at_last = at_last;
}
