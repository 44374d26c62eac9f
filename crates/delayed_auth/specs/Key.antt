-- The key of a message (docs/RULES.md, 'Key of a message'): numbers 1 to 10, else the row of the named secret, whose key is handed back as
-- the part of the key store itself; refused, the empty part at the store's start.
use Rattle.std.specs.Prelude.{ℕ, ◌*◌, List, [], ok_or, Err, Ok, Result}
use Rattle.refusal.specs.declared.Refusal.TheVariants.{UnknownSecret}
use Rattle.dhcp_message.specs.Said.{Said, refused, says}
use Rattle.key_book.specs.Limits.{slot_size}
use Rattle.key_book.specs.Book.{Book, row_of, key_of}
use Rattle.delayed_auth.specs.Admit.{admitted_said}
use Rattle.refusal.specs.declared.Refusal.{Refusal}

-- 1 to 9, and then 10
unfoldable pub keyed_said : Book → Said → Result ℕ Refusal
keyed_said b (refused r) = Err r
keyed_said b (says counter id mac) = ok_or (row_of b id) UnknownSecret

unfoldable pub keyed_of : Book → List ℕ → Result ℕ Refusal
keyed_of b m = keyed_said b (admitted_said b m)

-- the bytes handed back, and where they start in the store
abbrev pub key_bytes : Book → Result ℕ Refusal → List ℕ
key_bytes b (Ok k) = key_of b k
key_bytes b (Err r) = []

abbrev pub key_offset : Result ℕ Refusal → ℕ
key_offset (Ok k) = slot_size * k
key_offset (Err r) = 0
