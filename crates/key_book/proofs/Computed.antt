-- specs/Examples.antt, computed; the lengths of lists too long to count out, and a search in one of them, by a law.
use mathlib.Core.Path.{◌≡◌, refl, ap, ◌∙◌}
use Prim.Native.Nat.{ℕ, zero, suc, ◌*◌, ◌<◌}
use native.Mathlib.Omega.{arith}
use lib.Dec.{leb, eqb}
use lib.ListN.{get_or, replicate, length-replicate}
use mathlib.Core.Bool.{◌&&◌}
use Rattle.key_book.specs.Limits.{slot_size, room_most}
use Rattle.key_book.specs.Book.{sound, sized, ascending, key_sizes, mark_fits, marks_fit, all_below}
use Rattle.key_book.specs.Halving.{halved_in, halved, taken, known_of, digits_in, binary_digits}
use Rattle.key_book.specs.Examples.{Example10, room_for, BookLimits, MarksPinned, Example12}
use Rattle.key_book.specs.declared.Sought.TheVariants.{Missing}
use Rattle.key_book.proofs.Halves.{known_unsized}
use Rattle.key_book.proofs.Looks.{larger_missing}

pub example_10 : Example10
unfolding sound sized ascending key_sizes mark_fits marks_fit all_below
example_10 = record { largest_key = refl; key_too_long = refl; no_key = refl }

room_sized : (n : ℕ) → sized (room_for n) ≡ (leb n room_most && eqb n n && eqb (slot_size * n) (slot_size * n) && eqb n n && eqb n n && eqb n n)
unfolding sized
room_sized n = rw (length-replicate {A = ℕ} n 0, length-replicate {A = ℕ} (slot_size * n) 0)

-- no element of a repeated number reaches a bound above it, nor does what stands for one past the end
repeats_below : (count x bound k : ℕ) → x < bound → get_or (replicate count x) k 0 < bound
repeats_below zero x bound k h = omega arith
repeats_below (suc count) x bound zero h = h
repeats_below (suc count) x bound (suc k) h = repeats_below count x bound k h

pub book_limits : BookLimits
unfolding sound sized ascending key_sizes mark_fits marks_fit all_below
book_limits = record {
  most_room = room_sized 1024;
  too_much_room = room_sized 1025;
  most_rows = refl;
  too_many_rows = refl;
  largest_sound = refl;
  largest_lent = record {
    id_fits = λ k. repeats_below 1 4294967295 _ k (omega arith);
    byte_fits = λ k. repeats_below slot_size 255 _ k (omega arith);
    received_fits = λ k. repeats_below 1 18446744073709551615 _ k (omega arith);
    sent_fits = λ k. repeats_below 1 18446744073709551615 _ k (omega arith);
  };
}

pub marks_pinned : MarksPinned
unfolding sound sized ascending key_sizes mark_fits marks_fit all_below
marks_pinned = record {
  not_heard_lem = (refl, refl);
  is_heard_lem = (refl, refl);
  heard_of_0 = refl;
  received_before = refl;
  other_mark = refl;
  not_in_use = λ mark received. refl;
  one_mark_less = refl;
}

digits_1024 : binary_digits 1024 ≡ 11
unfolding binary_digits digits_in
digits_1024 = refl

pub example_12 : Example12
unfolding known_of taken halved halved_in
example_12 = record {
  at_once = refl;
  before = refl;
  first = refl;
  last = refl;
  between = (refl, refl);
  outside = (refl, refl);
  not_in_use = refl;
  none_in_use = λ id. refl;
  count_above = λ id. refl;
  missed = refl;
  eleven_looks = λ ids l a.
      larger_missing ids 1024 0 (record { room = omega arith; counted = omega arith }) a ∙ ap Missing digits_1024;
  too_many = λ ids l count id. known_unsized ids count id (λ t. let r = t.room in omega arith);
  numbers = λ k looks. (refl, (refl, refl));
}
