-- The bench examples of docs/RULES.md ('Bench examples') that are proved together, as one statement over the definitions: each is written out in the
-- crate that it belongs to, and example 8 and the number of example 6 here. Book B is the book of examples 3 to 8.
use Rattle.std.specs.Prelude.{ℕ, ◌≤◌, ◌≡◌, ◌↔◌, List, [], ◌∷◌, ◌++◌}
use Rattle.refusal.specs.Number.{result_number}
use Rattle.dhcp_message.specs.Said.{form_of, form_number}
use Rattle.dhcp_message.specs.Bench.{message_of, full_auth, some_mac, relay_in_the_middle, BenchExamples}
use Rattle.key_book.specs.Examples.{Example10, Example12}
use Rattle.delayed_auth.specs.Check.{check_of}
use Rattle.comparison.specs.Examples.{ComparisonExample}
use Rattle.forcerenew.specs.Examples.{NonceExamples}
use Rattle.card_laws.specs.Examples.{book_b, Example1, MarkedCards, Example2}

-- the number of a check of the message on Book B
abbrev pub number_on_b : List ℕ → ℕ
number_on_b m = result_number (check_of book_b m)

-- an option 90 in full form with protocol 1 and a wrong MAC, by counter and id
abbrev pub forged_message : ℕ → ℕ → List ℕ
forged_message counter id = message_of (full_auth 1 counter id some_mac ++ (255 ∷ []))

pub record BenchTable : Type 0 where
  pub example_1 : Example1
  pub example_1_marks : MarkedCards
  pub example_2 : Example2
  -- 3 to 7 are told of the message's form, and a check on Book B gives a number from 2 to 9 exactly where the form has it
  pub examples_3_to_7 : BenchExamples
  pub on_book_b : (m : List ℕ) (n : ℕ) → 2 ≤ n → n ≤ 9 → (number_on_b m ≡ n) ↔ (form_number (form_of m) ≡ n)
  -- 6 has none of them: its secret is there and its counter new, and its MAC is not right
  pub example_6 : number_on_b relay_in_the_middle ≡ 12
  pub example_8_id : number_on_b (forged_message 11 8) ≡ 10
  pub example_8_counter : number_on_b (forged_message 10 7) ≡ 11
  pub example_10 : Example10
  -- by a nonce
  pub example_11 : NonceExamples
  -- by halving
  pub example_12 : Example12
  -- two messages side by side
  pub example_13 : ComparisonExample
