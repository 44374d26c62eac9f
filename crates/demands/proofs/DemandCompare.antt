-- Demand 1 of a comparison: what checks 2 to 7 give of the two messages, and the room (comparison, proofs/Entries.antt), in the demand's words.
use mathlib.Core.Path.{◌≡◌, refl, sym}
use mathlib.Core.Logic.{◌≢◌}
use mathlib.Core.List.{List}
use Prim.Native.Nat.{ℕ, ◌+◌, ◌≤◌, ◌<◌}
use native.Mathlib.Omega.{arith}
use lib.ListN.{length}
use Rattle.refusal.specs.Number.{number_of, done, result_number}
use Rattle.refusal.specs.Lowest.{NothingBelow}
use Rattle.refusal.specs.First.{NothingBefore, FirstOf, fault, no_fault}
use Rattle.refusal.specs.declared.Refusal.{Refusal}
use Rattle.refusal.proofs.First.{in_place}
use Rattle.octets.specs.Bytes.{Bytes}
use Rattle.dhcp_message.specs.Message.{Passes27}
use Rattle.dhcp_message.specs.Numbers.{Applies, wrong_size, wrong_cookie, broken_options, no_authentication, repeated_authentication}
use Rattle.dhcp_message.specs.Numbers.{repeated_relay_information, other_form, request_form}
use Rattle.dhcp_message.proofs.Lowest.{lowest_given, shape_given}
use Rattle.comparison.specs.Entry.{text_for, compare_of, room_compared}
use Rattle.comparison.proofs.Entries.{CompareCase, in_first, in_second, in_room, all_written, compare_case, room_by_lem}
use Rattle.demands.specs.Demand1.{CompareFault, of_first, of_second, of_room, compare_number, compare_order}
use Rattle.demands.specs.Demand1.{CompareApplies, first_has, second_has, small_room}
use Rattle.std.specs.Prelude.{Err, Ok, Result, Some, ℕ, slice_get}

-- ---- the places of the order, counted from 2: those of the first message by their numbers, behind them those of the second, then the room

place_of : CompareFault → ℕ
place_of (of_first r) = number_of r
place_of (of_second r) = 6 + number_of r
place_of of_room = 14

place_at : (i : ℕ) (f : CompareFault) → slice_get compare_order i ≡ Some f → 2 + i ≡ place_of f
unfolding place_of
place_at i f e =
    in_place place_of 2 compare_order (refl, (refl, (refl, (refl, (refl, (refl, (refl, (refl, (refl, (refl, (refl, (refl, (refl, tt))))))))))))) i f e

-- where the numbers of a message stand
module _ {m : List ℕ} where
  first_placed : (r : Refusal) → Applies m r → number_of r < 8 → (i : ℕ) × (slice_get compare_order i ≡ Some (of_first r))
  first_placed r (wrong_size h) l = (0, refl)
  first_placed r (wrong_cookie h) l = (1, refl)
  first_placed r (broken_options h) l = (2, refl)
  first_placed r (no_authentication h) l = (3, refl)
  first_placed r (repeated_authentication h) l = (4, refl)
  first_placed r (repeated_relay_information h) l = (5, refl)
  first_placed r (other_form h) l = absurd (omega arith)
  first_placed r (request_form h) l = absurd (omega arith)

  second_placed : (r : Refusal) → Applies m r → number_of r < 8 → (i : ℕ) × (slice_get compare_order i ≡ Some (of_second r))
  second_placed r (wrong_size h) l = (6, refl)
  second_placed r (wrong_cookie h) l = (7, refl)
  second_placed r (broken_options h) l = (8, refl)
  second_placed r (no_authentication h) l = (9, refl)
  second_placed r (repeated_authentication h) l = (10, refl)
  second_placed r (repeated_relay_information h) l = (11, refl)
  second_placed r (other_form h) l = absurd (omega arith)
  second_placed r (request_form h) l = absurd (omega arith)

  -- none of a message's numbers is below 2
  from_two : (r : Refusal) → Applies m r → 1 < number_of r
  from_two r (wrong_size h) = omega arith
  from_two r (wrong_cookie h) = omega arith
  from_two r (broken_options h) = omega arith
  from_two r (no_authentication h) = omega arith
  from_two r (repeated_authentication h) = omega arith
  from_two r (repeated_relay_information h) = omega arith
  from_two r (other_form h) = omega arith
  from_two r (request_form h) = omega arith

-- ---- the ends

module _ (first second room : List ℕ) (bf : Bytes first) (bs : Bytes second) where
  abbrev A : CompareFault → Type 0
  A = CompareApplies first second room

  -- a message that passes has no number of 2 to 7
  passing : (m : List ℕ) → Bytes m → Passes27 m → (r : Refusal) → Applies m r → number_of r < 8 → ⊥
  passing m b h r a l = (lowest_given.passes m b).0 h r l a

  -- what stands before a place doesn't apply, where every fault that applies has its place at or behind it
  before : (i : ℕ) (f : CompareFault) → slice_get compare_order i ≡ Some f → ((q : CompareFault) → A q → place_of q < place_of f → ⊥)
      → NothingBefore compare_order A i
  before i f at h j q l e a = h q a (omega (arith, place_at i f at, place_at j q e))

  -- no fault stands before a number of the first message that is its lowest
  none_first : (r : Refusal) → number_of r < 8 → NothingBelow (Applies first) (number_of r) → (q : CompareFault) → A q → place_of q < place_of (of_first r) → ⊥
  unfolding place_of
  none_first r l lowest q (first_has {r = x} a m) h = lowest x h a
  none_first r l lowest q (second_has {r = x} a m) h = omega (arith, from_two x a)
  none_first r l lowest q (small_room f g m) h = omega arith

  -- nor before one of the second, where the first passes
  none_second : (r : Refusal) → Passes27 first → number_of r < 8 → NothingBelow (Applies second) (number_of r) → (q : CompareFault) → A q
      → place_of q < place_of (of_second r) → ⊥
  unfolding place_of
  none_second r pass l lowest q (first_has {r = x} a m) h = passing first bf pass x a m
  none_second r pass l lowest q (second_has {r = x} a m) h = lowest x (omega arith) a
  none_second r pass l lowest q (small_room f g m) h = omega arith

  -- nor before the room, where both pass
  none_room : Passes27 first → Passes27 second → (q : CompareFault) → A q → place_of q < place_of of_room → ⊥
  unfolding place_of
  none_room pass past q (first_has {r = x} a m) h = passing first bf pass x a m
  none_room pass past q (second_has {r = x} a m) h = passing second bs past x a m
  none_room pass past q (small_room f g m) h = omega arith

  none_at_all : Passes27 first → Passes27 second → length (text_for first second) ≤ length room → (f : CompareFault) → A f → ⊥
  none_at_all pass past fits f (first_has {r = x} a m) = passing first bf pass x a m
  none_at_all pass past fits f (second_has {r = x} a m) = passing second bs past x a m
  none_at_all pass past fits f (small_room g h m) = omega arith

  by_case : (c : Result ℕ Refusal) → CompareCase first second (length room) c → FirstOf compare_order compare_number A (result_number c)
  by_case c (in_first r e) =
      let w = (shape_given.refused first bf r).0 e in
      let p = first_placed r w.0 w.2 in
      fault p.0 (of_first r) p.1 (first_has w.0 w.2) (before p.0 (of_first r) p.1 (none_first r w.2 w.1)) refl
  by_case c (in_second r h e) =
      let w = (shape_given.refused second bs r).0 e in
      let p = second_placed r w.0 w.2 in
      fault p.0 (of_second r) p.1 (second_has w.0 w.2) (before p.0 (of_second r) p.1 (none_second r h w.2 w.1)) refl
  by_case c (in_room h k l) = fault 12 of_room refl (small_room h k l) (before 12 of_room refl (none_room h k)) refl
  by_case c (all_written h k l) = no_fault (none_at_all h k l) refl

  pub compare_number_lem : FirstOf compare_order compare_number A (result_number (compare_of first second (length room)))
  compare_number_lem = by_case (compare_of first second (length room)) (compare_case first second (length room))

pub compare_keeps : (first second room : List ℕ) → result_number (compare_of first second (length room)) ≢ done → room_compared first second room ≡ room
compare_keeps first second room h = by (compare_of first second (length room)) refl h
  where
    by : (c : Result ℕ Refusal) → compare_of first second (length room) ≡ c → result_number c ≢ done → room_compared first second room ≡ room
    by (Err r) e n = sym (room_by_lem first second room (sym e))
    by (Ok size) e n = absurd (n refl)
