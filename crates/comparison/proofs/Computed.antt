-- specs/Examples.antt, computed.
use mathlib.Core.Path.{refl}
use Rattle.octets.specs.Bytes.{written, same_bytes}
use Rattle.verdict_line.specs.Decimal.{decimal, digits_to}
use Rattle.dhcp_message.specs.Options.{decode_at}
use Rattle.dhcp_message.specs.Message.{checked_tokens, checked_of}
use Rattle.comparison.specs.Difference.{parts_of, fields_differing, body_at, said_of, options_differing, same_layout, layout_differing, differences_of}
use Rattle.comparison.specs.Difference.{stripped, relay_only, option_line, lines_of, text_of}
use Rattle.comparison.specs.Entry.{text_for, compare_of, room_compared}
use Rattle.comparison.specs.Examples.{ComparisonExample}

pub comparison_example : ComparisonExample
unfolding written same_bytes decimal digits_to decode_at checked_tokens checked_of parts_of fields_differing body_at said_of options_differing same_layout
    layout_differing differences_of stripped relay_only option_line lines_of text_of text_for compare_of room_compared
comparison_example = record {
  relay_lines = refl;
  relay_size = refl;
  relay_number = refl;
  no_room_lem = refl;
  no_room_number = refl;
  room_written = refl;
  room_kept = refl;
  other_options = refl;
  itself = refl;
  every_field = refl;
  fields_from_op = refl;
  fields_from_htype = refl;
  last_byte = refl;
  pad_moved = refl;
  end_followed = refl;
  first_refused = refl;
  exchanged_refused = refl;
  first_number = refl;
  exchanged_number = refl;
  second_number = refl;
  both_sides = refl;
  most = refl;
}
