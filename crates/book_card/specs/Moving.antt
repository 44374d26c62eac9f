-- Moving a card to a form, in a lent room: the answer, and every byte of the room afterwards (docs/RULES.md, 'The card').
-- The rows are those that reading finds. That a card which is in the wanted form already is copied is no case of its own, but a law (card_laws,
-- `MoveCopies`).
use Rattle.std.specs.Prelude.{Bool, true, cond, ◌&&◌, List, [], ◌∷◌, ◌++◌, ℕ, ltb, eqb, length, drop, Err, None, Ok, Option, Result, Some}
use Rattle.refusal.specs.declared.Refusal.TheVariants.{MalformedCard, NoRoomForCard, RowNotHeard}
use Rattle.key_book.specs.Limits.{heard}
use Rattle.book_card.specs.declared.CardForm.{CardForm}
use Rattle.book_card.specs.declared.CardForm.TheVariants.{Old, New}
use Rattle.book_card.specs.Card.{Row, card_of}
use Rattle.book_card.specs.Reader.{read_card}
use Rattle.book_card.specs.Reading.{rows_in}
use Rattle.refusal.specs.declared.Refusal.{Refusal}

-- whether every row is heard
unfoldable pub all_heard : List Row → Bool
all_heard [] = true
all_heard (r ∷ rows) = eqb r.mark heard && all_heard rows

-- whether a form holds the rows
unfoldable pub holds : CardForm → List Row → Bool
holds Old rows = all_heard rows
holds New rows = true

-- the answer by what the card holds, with a room of so many bytes: 15, 16, then 18
abbrev pub move_as : CardForm → ℕ → Option (List Row) → Result ℕ Refusal
move_as wanted room None = Err MalformedCard
move_as wanted room (Some rows) =
    cond (ltb room (length (card_of wanted rows))) (Err NoRoomForCard)
    (cond (holds wanted rows) (Ok (length (card_of wanted rows))) (Err RowNotHeard))

unfoldable pub move_of : CardForm → List ℕ → ℕ → Result ℕ Refusal
move_of wanted card room = move_as wanted room (read_card card)

-- the room afterwards, by the answer: a refusal changes nothing
abbrev pub moved_by : CardForm → List ℕ → List ℕ → Result ℕ Refusal → List ℕ
moved_by wanted card room (Err x) = room
moved_by wanted card room (Ok n) = card_of wanted (rows_in card) ++ drop n room

unfoldable pub room_moved : CardForm → List ℕ → List ℕ → List ℕ
room_moved wanted card room = moved_by wanted card room (move_of wanted card (length room))
