-- 1 to 9 (docs/RULES.md, 'Numbers'), which check, key and seal begin with: an unsound book is refused before the message is looked at.
use Rattle.std.specs.Prelude.{cond, List, ℕ, Err, Result}
use Rattle.refusal.specs.declared.Refusal.TheVariants.{UnsoundBook}
use Rattle.dhcp_message.specs.Said.{Said, refused, said_of, form_of}
use Rattle.key_book.specs.Book.{Book, sound}
use Rattle.dhcp_message.specs.declared.Auth.{Auth}
use Rattle.refusal.specs.declared.Refusal.{Refusal}

-- what the message says, for check and key: they read nothing of where option 90 stands
unfoldable pub admitted_said : Book → List ℕ → Said
admitted_said b m = cond (sound b) (said_of m) (refused UnsoundBook)

-- its form, for the seal, which writes where option 90 stands
unfoldable pub admitted_form : Book → List ℕ → Result Auth Refusal
admitted_form b m = cond (sound b) (form_of m) (Err UnsoundBook)
