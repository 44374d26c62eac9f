-- A case for each number (docs/RULES.md, 'Numbers') that is shown as a number nowhere else: 2 to 9 are in dhcp_message/specs/Bench.antt, 10 to 12 in
-- demands/specs/Bench.antt, 14 in md5_digest/specs/Limits.antt, 15 and 18 in card_laws/specs/Examples.antt, 19 to 21 in forcerenew/specs/Examples.antt,
-- and 22 in comparison/specs/Examples.antt. The one proof is proofs/MoreNumbers.antt.
use Rattle.std.specs.Prelude.{◌≡◌, [], ◌∷◌}
use Rattle.refusal.specs.Number.{result_number}
use Rattle.key_book.specs.Book.{Book, book_of}
use Rattle.delayed_auth.specs.Check.{check_of}
use Rattle.delayed_auth.specs.Seal.{seal_of, outcome_number}
use Rattle.card_laws.specs.Examples.{book_b, card_b}
use Rattle.book_card.specs.Reading.{read_of}
use Rattle.book_card.specs.Writing.{write_of}
use Rattle.demands.specs.Bench.{forged_message}

-- no room for a row, and none in use
abbrev pub no_room : Book
no_room = book_of [] [] [] [] [] [] 0

-- book B, its sent counter the largest
abbrev pub spent_b : Book
spent_b = book_of book_b.ids book_b.lengths book_b.store book_b.marks book_b.received (18446744073709551615 ∷ []) 1

pub record MoreNumbers : Type 0 where
  -- a row in use that there is no room for
  pub number_1 : result_number (check_of (book_of [] [] [] [] [] [] 1) (forged_message 11 7)) ≡ 1
  pub number_13 : outcome_number (seal_of spent_b 7 (forged_message 11 7)) ≡ 13
  -- a byte less than the card of B has
  pub number_16 : result_number (write_of book_b 34) ≡ 16
  pub number_17 : result_number (read_of no_room card_b) ≡ 17
