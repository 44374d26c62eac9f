-- What is proved of reading in pieces, each as a closed statement: docs/RULES.md, 'The card in pieces'. The proofs are in proofs/.
use Rattle.std.specs.Prelude.{◌≡◌, ◌↔◌, ◌≢◌, ◌⊎◌, true, List, [], ◌∷◌, ◌++◌, map, ℕ, ◌-◌, ◌≤◌, length, take, drop, Option}
use Rattle.refusal.specs.Number.{done, result_number, given_or}
use Rattle.octets.specs.Bytes.{Bytes, written, zeros}
use Rattle.key_book.specs.Limits.{rows_most}
use Rattle.key_book.specs.Book.{Book, book_of, Sized, sized}
use Rattle.book_card.specs.declared.CardForm.{CardForm}
use Rattle.book_card.specs.Card.{Row, row_records, InOrder}
use Rattle.book_card.specs.Reader.{form_in, rows_in_front}
use Rattle.book_card.specs.Reading.{slots_of, read_of, read_book}
use Rattle.card_pieces.specs.declared.Phase.{Phase}
use Rattle.card_pieces.specs.declared.Phase.TheVariants.{Reading, Closed}
use Rattle.card_pieces.specs.declared.Reader.{Reader}
use Rattle.card_pieces.specs.Numbers.{form_number, form_numbered, phase_number, phase_numbered, are_numbers}
use Rattle.card_pieces.specs.Pieces.{tail_most, fresh, held, within, feed_of, feed_spare, has_ended, finish_of, finish_book}

-- ---- limits

-- a state whose counts are within their limits
pub record Within (st : Reader) : Type 0 where
  pub kept_within : st.kept ≤ tail_most
  pub rows_within : st.rows ≤ rows_most

abbrev pub WithinSays : Type 0
WithinSays = (st : Reader) → (within st.kept st.rows ≡ true) ↔ Within st

-- what a piece asks for: else the answer is 1
pub record Takes (b : Book) (st : Reader) : Type 0 where
  pub sizes : Sized b
  pub limits : Within st

-- what the end asks for, of the spare rows b, the state and the book c: else the answer is 1
pub record Usable (b : Book) (st : Reader) (c : Book) : Type 0 where
  pub spare_sized : Sized b
  pub book_sized : Sized c
  pub same_room : length b.ids ≡ length c.ids
  pub limits : Within st

-- reading has ended: the close was read, and no bytes are kept. Else the answer at the end is 15
pub record Ended (st : Reader) : Type 0 where
  pub is_closed : st.phase ≡ Closed
  pub none_kept : st.kept ≡ 0

abbrev pub EndedSays : Type 0
EndedSays = (st : Reader) → (has_ended st.kept st.phase ≡ true) ↔ Ended st

-- the numbers of forms and of phases: each stands for one form or phase and back, and no others are numbers
pub record NumbersBack : Type 0 where
  pub form_back : (form : Option CardForm) → form_numbered (form_number form) ≡ form
  pub phase_back : (phase : Phase) → phase_numbered (phase_number phase) ≡ phase
  pub known : (form phase : ℕ) → (are_numbers form phase ≡ true) ↔ (((form ≡ 0) ⊎ ((form ≡ 1) ⊎ (form ≡ 3))) × (phase ≤ 2))

-- ---- what an answer depends on

-- two states that agree in all but the tail's bytes not in use
pub record SameRead (st other : Reader) : Type 0 where
  pub bytes : held st ≡ held other
  pub kept : st.kept ≡ other.kept
  pub rows : st.rows ≡ other.rows
  pub low : st.low ≡ other.low
  pub form : st.form ≡ other.form
  pub phase : st.phase ≡ other.phase

-- a piece's answer: of the tail, on the bytes in use alone; the end's: on the sizes, and of the state on the counts and the phase
pub record PiecesDepend : Type 0 where
  pub piece_spare : (b : Book) (st other : Reader) → SameRead st other → (piece : List ℕ) → feed_spare b st piece ≡ feed_spare b other piece
  pub piece_state : (b : Book) (st other : Reader) → SameRead st other → (piece : List ℕ) → feed_of b st piece ≡ feed_of b other piece
  pub end_answer : (a b c : Book) → sized a ≡ sized b → length a.ids ≡ length b.ids
      → (st other : Reader) → st.kept ≡ other.kept → st.rows ≡ other.rows → st.phase ≡ other.phase → finish_of a st c ≡ finish_of b other c

-- after a piece that is taken, from any state: the tail has its size, its bytes not in use are 0, none is in use after the close or a fault, and the counts
-- are within their limits
pub record TailSays (st : Reader) : Type 0 where
  pub size : length st.tail ≡ tail_most
  pub unused : drop st.kept st.tail ≡ zeros (tail_most - st.kept)
  pub ended : st.phase ≢ Reading → st.kept ≡ 0
  pub limits : Within st

abbrev pub TailZero : Type 0
TailZero = (b : Book) (st : Reader) (piece : List ℕ) → result_number (feed_of b st piece) ≡ done → TailSays (given_or st (feed_of b st piece))

-- ---- two pieces, or the two as one

-- the same answer, state and spare rows
pub record Joins (b : Book) (st : Reader) (x y : List ℕ) : Type 0 where
  pub fed : feed_of (feed_spare b st x) (given_or st (feed_of b st x)) y ≡ feed_of b st (x ++ y)
  pub state : given_or (given_or st (feed_of b st x)) (feed_of (feed_spare b st x) (given_or st (feed_of b st x)) y) ≡ given_or st (feed_of b st (x ++ y))
  pub spare : feed_spare (feed_spare b st x) (given_or st (feed_of b st x)) y ≡ feed_spare b st (x ++ y)

-- on any state and any spare rows: where one call is refused, so are the others, and nothing is changed
abbrev pub FeedJoins : Type 0
FeedJoins = (b : Book) (st : Reader) (x y : List ℕ) → Joins b st x y

-- ---- any cutting

-- the state and the spare rows after pieces, each call given what the last one left
unfoldable pub fed_all : Book → Reader → List (List ℕ) → Reader
fed_all b st [] = st
fed_all b st (p ∷ ps) = fed_all (feed_spare b st p) (given_or st (feed_of b st p)) ps

unfoldable pub spare_all : Book → Reader → List (List ℕ) → Book
spare_all b st [] = b
spare_all b st (p ∷ ps) = spare_all (feed_spare b st p) (given_or st (feed_of b st p)) ps

-- the pieces as one
unfoldable pub joined : List (List ℕ) → List ℕ
joined [] = []
joined (p ∷ ps) = p ++ joined ps

-- spare rows whose first rows are these; every other byte and number unchanged
unfoldable pub overlaid : Book → List Row → Book
overlaid b rows =
    book_of
    (written 0 (map (λ (r : Row). r.id) rows) b.ids)
    (written 0 (map (λ (r : Row). length r.key) rows) b.lengths)
    (written 0 (slots_of rows) b.store)
    (written 0 (map (λ (r : Row). r.mark) rows) b.marks)
    (written 0 (map (λ (r : Row). r.received) rows) b.received)
    (written 0 (map (λ (r : Row). r.sent) rows) b.sent)
    b.rows

-- the good rows of a byte string: of all rows in order, of one form, whose records it begins with, the most. (There are at most `rows_most` in order, and a
-- close, being no row, ends them.)
pub record GoodRows (s : List ℕ) (rows : List Row) : Type 0 where
  pub form : CardForm
  pub order : InOrder form rows
  pub rest : List ℕ
  pub front : s ≡ row_records form rows ++ rest
  pub most : (other : CardForm) (more : List Row) (after : List ℕ) → InOrder other more → s ≡ row_records other more ++ after → more ≡ take (length more) rows

-- computed: the rows in front, in the form of the first record
abbrev pub good_rows : List ℕ → List Row
good_rows s = (rows_in_front (form_in s) s).rows

abbrev pub GoodSays : Type 0
GoodSays = (s : List ℕ) → Bytes s → GoodRows s (good_rows s)

-- from a fresh state any cutting, with spare rows b and a book c of the same sizes: the answer and the book of reading the whole; the spare rows hold the
-- good rows, as many as fit, every other byte and number unchanged
pub record Cut (b c : Book) (pieces : List (List ℕ)) : Type 0 where
  pub answer : finish_of (spare_all b fresh pieces) (fed_all b fresh pieces) c ≡ read_of c (joined pieces)
  pub book : finish_book (spare_all b fresh pieces) (fed_all b fresh pieces) c ≡ read_book c (joined pieces)
  pub spare : spare_all b fresh pieces ≡ overlaid b (take (length b.ids) (good_rows (joined pieces)))

abbrev pub AnyCutting : Type 0
AnyCutting = (b c : Book) → Sized b → Sized c → length b.ids ≡ length c.ids → (pieces : List (List ℕ)) → Cut b c pieces

-- and each piece is taken on the way
abbrev pub PiecesTaken : Type 0
PiecesTaken =
    (b : Book) → Sized b → (pieces : List (List ℕ)) (piece : List ℕ) → result_number (feed_of (spare_all b fresh pieces) (fed_all b fresh pieces) piece) ≡ done
