-- The bench examples: what the crates below computed, how a check on Book B goes by the message's form, and the numbers of examples 6 and 8, computed.
use Prim.Native.Nat.{ℕ, ◌≤◌}
use native.Mathlib.Omega.{arith}
use mathlib.Core.Path.{◌≡◌, refl, sym, ap, ◌∙◌}
use mathlib.Core.Logic.{◌≢◌, ◌↔◌}
use mathlib.Core.Bool.{true}
use mathlib.Core.List.{List}
use Rattle.dhcp_message.specs.Said.{refused, says, said_of, form_of, form_number}
use Rattle.dhcp_message.proofs.Examples.{bench_examples}
use Rattle.key_book.specs.Book.{Sound, all_below, sized, ascending, key_sizes, mark_fits, marks_fit, sound}
use Rattle.key_book.proofs.Says.{sound_says}
use Rattle.key_book.proofs.Computed.{example_10, example_12}
use Rattle.delayed_auth.specs.Check.{check_of}
use Rattle.comparison.proofs.Computed.{comparison_example}
use Rattle.forcerenew.proofs.Computed.{nonce_examples}
use Rattle.card_laws.specs.Examples.{book_b}
use Rattle.card_laws.proofs.Computed.{example_1, marked_cards, example_2}
use Rattle.demands.specs.Bench.{BenchTable}
use Rattle.demands.proofs.Below.{said_form}
use Rattle.demands.proofs.Computing.{computing}
use Rattle.demands.proofs.Stages.{CheckEnd, check_unsound, check_refused, check_unknown, check_replay, check_wrong, check_accepts}
use Rattle.demands.proofs.Stages.{check_end}
use Rattle.std.specs.Prelude.{Result}
use Rattle.refusal.specs.Number.{result_number}
use Rattle.delayed_auth.specs.declared.Accepted.{Accepted}
use Rattle.refusal.specs.declared.Refusal.{Refusal}

b_sound : sound book_b ≡ true
unfolding sound sized ascending key_sizes mark_fits marks_fit all_below
b_sound = refl

good : Sound book_b
good = (sound_says book_b).0 b_sound

-- ---- 2 to 9

-- in full form the message has none of them, and the check gives another
full_form : (m : List ℕ) (c id : ℕ) (mac : List ℕ) (n number : ℕ) → said_of m ≡ says c id mac → 2 ≤ n → number ≢ n
    → (number ≡ n) ↔ (form_number (form_of m) ≡ n)
full_form m c id mac n number e l d =
    let f : form_number (form_of m) ≡ 0 = ap form_number (said_form m (says c id mac) e).form in
    (λ g. absurd (d g), λ g. absurd (omega arith))

by_form : (m : List ℕ) (n : ℕ) → 2 ≤ n → n ≤ 9 → (v : Result Accepted Refusal) → CheckEnd book_b m v → (result_number v ≡ n) ↔ (form_number (form_of m) ≡ n)
by_form m n l h v (check_unsound w) = absurd (w good)
by_form m n l h v (check_refused {r} s e) = let f = ap form_number (said_form m (refused r) e) in (λ g. f ∙ g, λ g. sym f ∙ g)
by_form m n l h v (check_unknown c id mac s e f) = full_form m c id mac n 10 e l (λ g. omega arith)
by_form m n l h v (check_replay c k mac s w g) = full_form m c w.id mac n 11 w.form l (λ g. omega arith)
by_form m n l h v (check_wrong c k mac s w g i) = full_form m c w.id mac n 12 w.form l (λ g. omega arith)
by_form m n l h v (check_accepts {k} {c} s a) = full_form m c a.id a.mac n 0 a.form l (λ g. omega arith)

pub bench_table : BenchTable
unfolding computing
bench_table = record {
  example_1 = example_1;
  example_1_marks = marked_cards;
  example_2 = example_2;
  examples_3_to_7 = bench_examples;
  on_book_b = λ m n l h. by_form m n l h (check_of book_b m) (check_end book_b m);
  example_6 = refl;
  example_8_id = refl;
  example_8_counter = refl;
  example_10 = example_10;
  example_11 = nonce_examples;
  example_12 = example_12;
  example_13 = comparison_example;
}
