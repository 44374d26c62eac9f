-- The ends of reading a card, of writing one and of moving one, each as one case: what is so where this is answered and this is left (`read_case`,
-- `write_case`, `move_case`), and that this is answered and left where that is so (`case_read`, `case_write`, `case_move`).
-- The only law file that unfolds `read_of`, `read_book`, `rows_in_lem`, `write_of`, `room_after`, `move_of` and `room_moved`.
use mathlib.Core.Path.{◌≡◌, refl, sym, ap, ◌∙◌}
use mathlib.Core.Bool.{Bool, true, false, cond, true≢false}
use mathlib.Core.List.{List, ◌++◌}
use Prim.Native.Nat.{ℕ, ◌≤◌, ◌<◌}
use mathlib.Mathlib.Data.Bool.Basic.{eq-false-eq-not-eq-true}
use borrow.Author.Tests.{lt-ltb, le-ltb, ltb-true, ltb-false}
use lib.Dec.{ltb}
use lib.ListN.{length, drop}
use Rattle.refusal.specs.declared.Refusal.TheVariants.{UnsoundBook, MalformedCard, NoRoomForCard, NoRoomForRows, RowNotHeard}
use Rattle.key_book.specs.Book.{Book, Sized, sized, Sound, sound}
use Rattle.key_book.proofs.Says.{sized_says, sound_says}
use Rattle.book_card.specs.declared.CardForm.{CardForm}
use Rattle.book_card.specs.declared.CardForm.TheVariants.{New}
use Rattle.book_card.specs.Card.{Row, card_of}
use Rattle.book_card.specs.Reader.{read_card}
use Rattle.book_card.specs.Reading.{loaded, read_as, read_of, rows_in, read_by, read_book}
use Rattle.book_card.specs.Writing.{rows_of, write_of, room_by, room_after}
use Rattle.book_card.specs.Moving.{holds, move_as, move_of, moved_by, room_moved}
use Rattle.std.specs.Prelude.{Err, None, Ok, Option, Result, Some}
use Rattle.refusal.specs.declared.Refusal.{Refusal}

-- an end as a function's clauses have it: the answer, and what is left
pub clauses : {A B : Type 0} → A × B → record { answer : A; after : B }
clauses both = record { answer = both.0; after = both.1 }

-- ---- reading

pub rows_of_card : (card : List ℕ) (rows : List Row) → read_card card ≡ Some rows → rows_in card ≡ rows
unfolding rows_in
rows_of_card card rows e = rw e

-- reading this card into book b: the answer, and the book afterwards
pub data ReadCase (b : Book) (card : List ℕ) : Result ℕ Refusal → Book → Type 0 where
  unsized : (Sized b → ⊥) → ReadCase b card (Err UnsoundBook) b
  malformed : Sized b → read_card card ≡ None → ReadCase b card (Err MalformedCard) b
  no_room_lem : Sized b → (rows : List Row) → read_card card ≡ Some rows → length b.ids < length rows → ReadCase b card (Err NoRoomForRows) b
  read : Sized b → (rows : List Row) → read_card card ≡ Some rows → length rows ≤ length b.ids
      → ReadCase b card (Ok (length rows)) (loaded b rows)

module _ (b : Book) (card : List ℕ) where
  abbrev Leaves : Result ℕ Refusal → Type 0
  Leaves a = ReadCase b card a (read_by b card a)

  card_case : Sized b → (o : Option (List Row)) → read_card card ≡ o → Leaves (read_as (length b.ids) o)
  card_case z None e = malformed z e
  card_case z (Some rows) e = on (ltb (length b.ids) (length rows)) refl
    where
      on : (t : Bool) → ltb (length b.ids) (length rows) ≡ t → Leaves (cond t (Err NoRoomForRows) (Ok (length rows)))
      on true l = no_room_lem z rows e (ltb-true _ _ l)
      on false l = rw (rows_of_card card rows e) (read z rows e (ltb-false _ _ l))

  pub read_case : ReadCase b card (read_of b card) (read_book b card)
  unfolding read_of read_book
  read_case = on (sized b) refl
    where
      on : (t : Bool) → sized b ≡ t → Leaves (cond t (read_as (length b.ids) (read_card card)) (Err UnsoundBook))
      on true e = card_case ((sized_says b).0 e) (read_card card) refl
      on false e = unsized (λ z. true≢false (sym ((sized_says b).1 z) ∙ e))

  ended : (a : Result ℕ Refusal) → a ≡ read_of b card → (a ≡ read_of b card) × (read_by b card a ≡ read_book b card)
  unfolding read_book
  ended a e = (e, ap (read_by b card) e)

  pub case_read : {a : Result ℕ Refusal} {c : Book} → ReadCase b card a c → (a ≡ read_of b card) × (c ≡ read_book b card)
  unfolding read_of
  case_read (unsized h) = ended (Err UnsoundBook) (rw ((eq-false-eq-not-eq-true (sized b)).0 (λ e. h ((sized_says b).0 e))))
  case_read (malformed z e) = ended (Err MalformedCard) (rw ((sized_says b).1 z, e))
  case_read (no_room_lem z rows e l) = ended (Err NoRoomForRows) (rw ((sized_says b).1 z, e, lt-ltb (length b.ids) (length rows) l))
  case_read (read z rows e l) =
      rw (rows_of_card card rows e) at (ended (Ok (length rows)) (rw ((sized_says b).1 z, e, le-ltb (length b.ids) (length rows) l)))

-- ---- writing

-- writing book b's card to this room: the answer, and the room afterwards
pub data WriteCase (b : Book) (room : List ℕ) : Result ℕ Refusal → List ℕ → Type 0 where
  unsound : (Sound b → ⊥) → WriteCase b room (Err UnsoundBook) room
  small : Sound b → length room < length (card_of New (rows_of b)) → WriteCase b room (Err NoRoomForCard) room
  wrote : Sound b → length (card_of New (rows_of b)) ≤ length room
      → WriteCase b room (Ok (length (card_of New (rows_of b)))) (card_of New (rows_of b) ++ drop (length (card_of New (rows_of b))) room)

module _ (b : Book) (room : List ℕ) where
  abbrev size : ℕ
  size = length (card_of New (rows_of b))

  pub write_case : WriteCase b room (write_of b (length room)) (room_after b room)
  unfolding write_of room_after
  write_case = on (sound b) refl (ltb (length room) size) refl
    where
      on : (t : Bool) → sound b ≡ t → (u : Bool) → ltb (length room) size ≡ u
          → (let a = cond t (cond u (Err NoRoomForCard) (Ok size)) (Err UnsoundBook) in WriteCase b room a (room_by b room a))
      on false e u l = unsound (λ s. true≢false (sym ((sound_says b).1 s) ∙ e))
      on true e true l = small ((sound_says b).0 e) (ltb-true _ _ l)
      on true e false l = wrote ((sound_says b).0 e) (ltb-false _ _ l)

  written_so : (a : Result ℕ Refusal) → a ≡ write_of b (length room) → (a ≡ write_of b (length room)) × (room_by b room a ≡ room_after b room)
  unfolding room_after
  written_so a e = (e, ap (room_by b room) e)

  pub case_write : {a : Result ℕ Refusal} {after : List ℕ} → WriteCase b room a after → (a ≡ write_of b (length room)) × (after ≡ room_after b room)
  unfolding write_of
  case_write (unsound h) = written_so (Err UnsoundBook) (rw ((eq-false-eq-not-eq-true (sound b)).0 (λ e. h ((sound_says b).0 e))))
  case_write (small s l) = written_so (Err NoRoomForCard) (rw ((sound_says b).1 s, lt-ltb (length room) size l))
  case_write (wrote s l) = written_so (Ok size) (rw ((sound_says b).1 s, le-ltb (length room) size l))

-- sound books with the same rows are written alike
pub written_alike : (b c : Book) → Sound b → Sound c → rows_of b ≡ rows_of c → (room : List ℕ)
    → (write_of b (length room) ≡ write_of c (length room)) × (room_after b room ≡ room_after c room)
written_alike b c s t r room = case_write c room (on (write_case b room))
  where
    on : {a : Result ℕ Refusal} {after : List ℕ} → WriteCase b room a after → WriteCase c room a after
    on (unsound h) = absurd (h s)
    on (small _ l) = small t (rw (← r) l)
    on (wrote _ l) = rw r (wrote t (rw (← r) l))

-- ---- moving

-- moving this card to the wanted form in this room: the answer, and the room afterwards
pub data MoveCase (wanted : CardForm) (card room : List ℕ) : Result ℕ Refusal → List ℕ → Type 0 where
  no_card : read_card card ≡ None → MoveCase wanted card room (Err MalformedCard) room
  no_space : (rows : List Row) → read_card card ≡ Some rows → length room < length (card_of wanted rows)
      → MoveCase wanted card room (Err NoRoomForCard) room
  unheard : (rows : List Row) → read_card card ≡ Some rows → length (card_of wanted rows) ≤ length room → holds wanted rows ≡ false
      → MoveCase wanted card room (Err RowNotHeard) room
  moved : (rows : List Row) → read_card card ≡ Some rows → length (card_of wanted rows) ≤ length room → holds wanted rows ≡ true
      → MoveCase wanted card room (Ok (length (card_of wanted rows))) (card_of wanted rows ++ drop (length (card_of wanted rows)) room)

module _ (wanted : CardForm) (card room : List ℕ) where
  abbrev Goes : Result ℕ Refusal → Type 0
  Goes a = MoveCase wanted card room a (moved_by wanted card room a)

  by_rows : (o : Option (List Row)) → read_card card ≡ o → Goes (move_as wanted (length room) o)
  by_rows None e = no_card e
  by_rows (Some rows) e = on (ltb (length room) (length (card_of wanted rows))) refl (holds wanted rows) refl
    where
      on : (t : Bool) → ltb (length room) (length (card_of wanted rows)) ≡ t → (u : Bool) → holds wanted rows ≡ u
          → Goes (cond t (Err NoRoomForCard) (cond u (Ok (length (card_of wanted rows))) (Err RowNotHeard)))
      on true l u h = no_space rows e (ltb-true _ _ l)
      on false l false h = unheard rows e (ltb-false _ _ l) h
      on false l true h = rw (rows_of_card card rows e) (moved rows e (ltb-false _ _ l) h)

  pub move_case : MoveCase wanted card room (move_of wanted card (length room)) (room_moved wanted card room)
  unfolding move_of room_moved
  move_case = by_rows (read_card card) refl

  moved_so : (a : Result ℕ Refusal) → a ≡ move_of wanted card (length room)
      → (a ≡ move_of wanted card (length room)) × (moved_by wanted card room a ≡ room_moved wanted card room)
  unfolding room_moved
  moved_so a e = (e, ap (moved_by wanted card room) e)

  pub case_move : {a : Result ℕ Refusal} {after : List ℕ} → MoveCase wanted card room a after
      → (a ≡ move_of wanted card (length room)) × (after ≡ room_moved wanted card room)
  unfolding move_of
  case_move (no_card e) = moved_so (Err MalformedCard) (rw e)
  case_move (no_space rows e l) = moved_so (Err NoRoomForCard) (rw (e, lt-ltb (length room) (length (card_of wanted rows)) l))
  case_move (unheard rows e l h) = moved_so (Err RowNotHeard) (rw (e, le-ltb (length room) (length (card_of wanted rows)) l, h))
  case_move (moved rows e l h) =
      rw (rows_of_card card rows e) at
      (moved_so (Ok (length (card_of wanted rows))) (rw (e, le-ltb (length room) (length (card_of wanted rows)) l, h)))
