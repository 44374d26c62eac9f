-- Demand 1 of reading, writing and moving a card: at each end (book_card/proofs/Ends) the number applies and no lower one does.
use mathlib.Core.Path.{◌≡◌, refl, sym, ap, ◌∙◌}
use mathlib.Core.Logic.{◌≢◌}
use mathlib.Core.Bool.{true}
use mathlib.Core.List.{List}
use Rattle.std.proofs.lemmas.Option.{same_Some}
use Prim.Native.Nat.{ℕ, ◌≤◌, ◌<◌}
use native.Mathlib.Omega.{arith}
use lib.ListN.{length, get_or}
use Rattle.refusal.specs.Number.{number_of, done, result_number}
use Rattle.refusal.specs.Lowest.{NothingBelow, Lowest}
use Rattle.refusal.specs.declared.Refusal.{Refusal}
use Rattle.refusal.specs.declared.Refusal.TheVariants.{UnsoundBook, MalformedCard, NoRoomForCard, NoRoomForRows, RowNotHeard}
use Rattle.refusal.proofs.Lowest.{nothing_first, nothing_below_any, lowest}
use Rattle.octets.specs.Bytes.{Bytes}
use Rattle.key_book.specs.Book.{Book, Sized, Sound}
use Rattle.book_card.specs.declared.CardForm.{CardForm}
use Rattle.book_card.specs.declared.CardForm.TheVariants.{New}
use Rattle.book_card.specs.Card.{Row, empty_row, card_of, CardFor, NoCard}
use Rattle.book_card.specs.Reader.{read_card}
use Rattle.book_card.specs.Reading.{read_of, read_book}
use Rattle.book_card.specs.Writing.{rows_of, write_of, room_after}
use Rattle.book_card.specs.Moving.{holds, move_of, room_moved}
use Rattle.book_card.proofs.Says.{card_says, malformed_says}
use Rattle.book_card.proofs.Ends.{ReadCase, unsized, no_room_lem, read, read_case, WriteCase, unsound, small, wrote, write_case}
use Rattle.book_card.proofs.Ends.{MoveCase, no_card, no_space, unheard, moved, move_case}
use Rattle.card_laws.proofs.Moved.{holds_heard, not_held}
use Rattle.demands.specs.Demand1.{ReadApplies, sizes_disagree, more_rows, WriteApplies, not_sound, MoveApplies, not_heard_lem}
use Rattle.std.specs.Prelude.{None, Result, Some, ℕ}

-- a card has one list of rows
same_rows : (card : List ℕ) → Bytes card → (rows : List Row) → read_card card ≡ Some rows → (others : List Row) → CardFor others card → others ≡ rows
same_rows card bytes rows e others w = same_Some _ _ (sym ((card_says card bytes others).1 w) ∙ e)

-- ---- reading

module _ (b : Book) (card : List ℕ) (bytes : Bytes card) where
  -- what lies below a number, where the sizes agree
  read_below : (n : ℕ) → Sized b → (number_of MalformedCard < n → NoCard card → ⊥)
      → (number_of NoRoomForRows < n → (rows : List Row) → CardFor rows card → length b.ids < length rows → ⊥)
      → NothingBelow (ReadApplies b card) n
  read_below n s f g q l (sizes_disagree h) = h s
  read_below n s f g q l (ReadApplies.malformed h) = f l h
  read_below n s f g q l (more_rows rows w h) = g l rows w h

  -- and where the card has rows
  rows_below : Sized b → (rows : List Row) → read_card card ≡ Some rows → (n : ℕ) → (number_of NoRoomForRows < n → length rows ≤ length b.ids)
      → NothingBelow (ReadApplies b card) n
  rows_below s rows e n f =
      read_below n s (λ l h. h rows ((card_says card bytes rows).0 e)) (λ l others w h. omega (arith, f l, ap length (same_rows card bytes rows e others w)))

  pub read_number_lem : Lowest (ReadApplies b card) (result_number (read_of b card))
  read_number_lem = on (read_case b card)
    where
      on : {a : Result ℕ Refusal} {c : Book} → ReadCase b card a c → Lowest (ReadApplies b card) (result_number a)
      on (unsized h) = lowest (ReadApplies b card) (Some UnsoundBook) (sizes_disagree h, nothing_first (ReadApplies b card))
      on (ReadCase.malformed s e) =
          lowest (ReadApplies b card) (Some MalformedCard)
          (ReadApplies.malformed ((malformed_says card bytes).0 e), read_below 15 s (λ l. absurd (omega arith)) (λ l. absurd (omega arith)))
      on (no_room_lem s rows e h) =
          lowest (ReadApplies b card) (Some NoRoomForRows)
          (more_rows rows ((card_says card bytes rows).0 e) h, rows_below s rows e 17 (λ l. absurd (omega arith)))
      on (read s rows e h) = lowest (ReadApplies b card) None (nothing_below_any (ReadApplies b card) (λ n. rows_below s rows e n (λ l. h)))

pub read_keeps : (b : Book) (card : List ℕ) → result_number (read_of b card) ≢ done → read_book b card ≡ b
read_keeps b card = on (read_case b card)
  where
    on : {a : Result ℕ Refusal} {c : Book} → ReadCase b card a c → result_number a ≢ done → c ≡ b
    on (unsized h) k = refl
    on (ReadCase.malformed s e) k = refl
    on (no_room_lem s rows e h) k = refl
    on (read s rows e h) k = absurd (k refl)

-- ---- writing

module _ (b : Book) (room : List ℕ) where
  write_below : (n : ℕ) → Sound b → (number_of NoRoomForCard < n → length room < length (card_of New (rows_of b)) → ⊥) → NothingBelow (WriteApplies b room) n
  write_below n s f q l (not_sound h) = h s
  write_below n s f q l (WriteApplies.small_room h) = f l h

  pub write_number_lem : Lowest (WriteApplies b room) (result_number (write_of b (length room)))
  write_number_lem = on (write_case b room)
    where
      on : {a : Result ℕ Refusal} {after : List ℕ} → WriteCase b room a after → Lowest (WriteApplies b room) (result_number a)
      on (unsound h) = lowest (WriteApplies b room) (Some UnsoundBook) (not_sound h, nothing_first (WriteApplies b room))
      on (small s h) =
          lowest (WriteApplies b room) (Some NoRoomForCard) (WriteApplies.small_room h, write_below 16 s (λ l. absurd (omega arith)))
      on (wrote s h) =
          lowest (WriteApplies b room) None (nothing_below_any (WriteApplies b room) (λ n. write_below n s (λ l m. omega arith)))

  pub write_keeps : result_number (write_of b (length room)) ≢ done → room_after b room ≡ room
  write_keeps = on (write_case b room)
    where
      on : {a : Result ℕ Refusal} {after : List ℕ} → WriteCase b room a after → result_number a ≢ done → after ≡ room
      on (unsound h) k = refl
      on (small s h) k = refl
      on (wrote s h) k = absurd (k refl)

-- ---- moving

module _ (wanted : CardForm) (card room : List ℕ) where
  abbrev Here : Refusal → Type 0
  Here r = MoveApplies wanted card room r

  module _ (bytes : Bytes card) where
    -- what lies below a number, where the card has these rows
    move_below : (rows : List Row) → read_card card ≡ Some rows → (n : ℕ) → (number_of NoRoomForCard < n → length (card_of wanted rows) ≤ length room)
        → (number_of RowNotHeard < n → holds wanted rows ≡ true) → NothingBelow Here n
    move_below rows e n f g q l (MoveApplies.malformed h) = h rows ((card_says card bytes rows).0 e)
    move_below rows e n f g q l (MoveApplies.small_room others w h) =
        omega (arith, f l, ap (λ (x : List Row). length (card_of wanted x)) (same_rows card bytes rows e others w))
    move_below rows e n f g q l (not_heard_lem o others w k h m) =
        let same = same_rows card bytes rows e others w in
        let is = holds_heard wanted rows (g l) o k (omega (arith, ap length same)) in
        omega (arith, ap (λ (x : List Row). (get_or x k empty_row).mark) same)

    pub move_number : Lowest Here (result_number (move_of wanted card (length room)))
    move_number = on (move_case wanted card room)
      where
        on : {a : Result ℕ Refusal} {after : List ℕ} → MoveCase wanted card room a after → Lowest Here (result_number a)
        on (no_card e) =
            lowest Here (Some MalformedCard) (MoveApplies.malformed ((malformed_says card bytes).0 e), nothing_under_15)
          where
            nothing_under_15 : NothingBelow Here 15
            nothing_under_15 q l (MoveApplies.malformed h) = absurd (omega arith)
            nothing_under_15 q l (MoveApplies.small_room rows w h) = absurd (omega arith)
            nothing_under_15 q l (not_heard_lem o rows w k h m) = absurd (omega arith)
        on (no_space rows e h) =
            lowest Here (Some NoRoomForCard)
            (MoveApplies.small_room rows ((card_says card bytes rows).0 e) h, move_below rows e 16 (λ l. absurd (omega arith)) (λ l. absurd (omega arith)))
        on (unheard rows e h f) =
            let told = (card_says card bytes rows).0 e in
            let row = not_held wanted rows told.1.order f in
            lowest Here (Some RowNotHeard)
            (not_heard_lem row.0 rows told row.1.0 row.1.1 row.1.2, move_below rows e 18 (λ l. h) (λ l. absurd (omega arith)))
        on (moved rows e h f) = lowest Here None (nothing_below_any Here (λ n. move_below rows e n (λ l. h) (λ l. f)))

  pub move_keeps : result_number (move_of wanted card (length room)) ≢ done → room_moved wanted card room ≡ room
  move_keeps = on (move_case wanted card room)
    where
      on : {a : Result ℕ Refusal} {after : List ℕ} → MoveCase wanted card room a after → result_number a ≢ done → after ≡ room
      on (no_card e) k = refl
      on (no_space rows e h) k = refl
      on (unheard rows e h f) k = refl
      on (moved rows e h f) k = absurd (k refl)
