-- What the entry `compare` answers and leaves: docs/RULES.md, 'Two messages side by side'.
use Rattle.std.specs.Prelude.{ℕ, cond, List, length, leb, Err, Ok, Result}
use Rattle.refusal.specs.declared.Refusal.TheVariants.{NoRoomForReport}
use Rattle.octets.specs.Bytes.{written}
use Rattle.dhcp_message.specs.Message.{Checked, stopped, passed, checked_of}
use Rattle.comparison.specs.Difference.{parts_of, text_of}
use Rattle.refusal.specs.declared.Refusal.{Refusal}

-- a room that never gets 22 (specs/Laws.antt, `LinesFit`)
abbrev pub comparison_most : ℕ
comparison_most = 18573

-- the lines of two messages
unfoldable pub text_for : (first second : List ℕ) → List ℕ
text_for first second = text_of (parts_of first) (parts_of second)

-- 22 exactly when the length passes the room
abbrev pub size_within : (size room : ℕ) → Result ℕ Refusal
size_within size room = cond (leb size room) (Ok size) (Err NoRoomForReport)

-- the first message's number of 2 to 7, else the second's, else the lines' length or 22
abbrev pub compared_by : (size room : ℕ) → Checked → Checked → Result ℕ Refusal
compared_by size room (stopped r) c = Err r
compared_by size room (passed ts rest) (stopped r) = Err r
compared_by size room (passed ts rest) (passed us more) = size_within size room

unfoldable pub compare_of : (first second : List ℕ) → (room : ℕ) → Result ℕ Refusal
compare_of first second room = compared_by (length (text_for first second)) room (checked_of first) (checked_of second)

-- the room afterwards: the lines at its front and the rest as it was, or nothing changed
abbrev pub room_by : List ℕ → List ℕ → Result ℕ Refusal → List ℕ
room_by text room (Err r) = room
room_by text room (Ok size) = written 0 text room

unfoldable pub room_compared : (first second room : List ℕ) → List ℕ
room_compared first second room = room_by (text_for first second) room (compare_of first second (length room))
