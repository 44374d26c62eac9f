-- specs/MoreNumbers.antt, computed.
use mathlib.Core.Path.{refl}
use Rattle.octets.specs.Numbers.{le, value, little_at}
use Rattle.book_card.specs.Layout.{mark_size, row_kind}
use Rattle.book_card.specs.Card.{record_of, row_record, close, row_records, card_of}
use Rattle.book_card.specs.Reader.{form_in, mark_in, front_of, front_from, rows_in_front, read_card}
use Rattle.book_card.specs.Reading.{read_of}
use Rattle.book_card.specs.Writing.{rows_from, rows_of, write_of}
use Rattle.worked_runs.specs.MoreNumbers.{MoreNumbers}
use Rattle.demands.proofs.Computing.{computing}

pub more_numbers : MoreNumbers
unfolding computing le value little_at mark_size row_kind record_of row_record close row_records card_of form_in mark_in front_of front_from
    rows_in_front read_card
    read_of rows_from rows_of write_of
more_numbers = record { number_1 = refl; number_13 = refl; number_16 = refl; number_17 = refl }
