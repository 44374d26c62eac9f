-- Demand 1 (docs/RULES.md, 'The demands' and 'Numbers'): any bytes, any book. For each entry it is said when each of its numbers applies, in the
-- rules' words; the entry gives the lowest number that applies, 0 exactly where none does. The judgement by a nonce and the comparison of two messages have
-- orders of their own, and give the first in them. A refusal alters nothing lent; with 14 the digest or MAC handed back is 16 zero bytes.
-- Nothing is asked of the book; of a message and a card only that their elements are bytes. Its one proof is proofs/Demand1.antt.
use Rattle.std.specs.Prelude.{ℕ, ◌+◌, ◌≤◌, ◌<◌, ◌≡◌, ◌≢◌, ◌⊎◌, false, List, [], ◌∷◌, length, get_or, take, drop, Err, None, Some}
use Rattle.refusal.specs.Number.{number_of, done, result_number, given_or}
use Rattle.refusal.specs.Lowest.{Lowest}
use Rattle.refusal.specs.First.{First, FirstOf}
use Rattle.refusal.specs.declared.Refusal.{Refusal}
use Rattle.refusal.specs.declared.Refusal.TheVariants.{UnsoundBook, UnknownSecret, Replay, WrongMac, CounterSpent, TooLong}
use Rattle.refusal.specs.declared.Refusal.TheVariants.{MalformedCard, NoRoomForCard, NoRoomForRows, RowNotHeard}
use Rattle.refusal.specs.declared.Refusal.TheVariants.{MessageSize, WrongCookie, BrokenOptions, NoAuthentication, RepeatedAuthentication}
use Rattle.refusal.specs.declared.Refusal.TheVariants.{RelayInformation, OtherAuthentication, NotByNonce, WrongType, NoNonce, NoRoomForReport}
use Rattle.md5_digest.specs.declared.Digest.{Digest}
use Rattle.md5_digest.specs.Block.{block_size}
use Rattle.md5_digest.specs.Entries.{digest_most, no_digest, feed_of, finish_of, md5_of}
use Rattle.hmac_md5.specs.Hmac.{key_most, hmac, hmac_of}
use Rattle.octets.specs.Bytes.{Bytes, zeros}
use Rattle.dhcp_message.specs.Said.{says, said_of, named}
use Rattle.dhcp_message.specs.Image.{image_of}
use Rattle.dhcp_message.specs.Layout.{length_at, method_at}
use Rattle.dhcp_message.specs.Message.{Passes27}
use Rattle.dhcp_message.specs.Numbers.{Applies}
use Rattle.dhcp_message.specs.Types.{message_type_of}
use Rattle.key_book.specs.Limits.{room_most, not_heard}
use Rattle.key_book.specs.Book.{Book, Sized, Sound, row_of, key_of}
use Rattle.key_book.specs.Halving.{Halves, known_of, sought_number}
use Rattle.key_book.specs.Laws.{NoRow}
use Rattle.delayed_auth.specs.Check.{new_to, check_of, marks_after, received_after}
use Rattle.delayed_auth.specs.Key.{keyed_of, key_bytes, key_offset}
use Rattle.delayed_auth.specs.Seal.{counter_most, seal_of, message_after, sent_after, outcome_number}
use Rattle.book_card.specs.declared.CardForm.{CardForm}
use Rattle.book_card.specs.declared.CardForm.TheVariants.{Old, New}
use Rattle.book_card.specs.Card.{Row, empty_row, card_of, CardFor, NoCard}
use Rattle.book_card.specs.Reading.{read_of, read_book}
use Rattle.book_card.specs.Writing.{rows_of, write_of, room_after}
use Rattle.book_card.specs.Moving.{move_of, room_moved}
use Rattle.card_pieces.specs.declared.Reader.{Reader}
use Rattle.card_pieces.specs.Pieces.{feed_of as piece_of, feed_spare, finish_of as end_of, finish_book}
use Rattle.card_pieces.specs.Laws.{Takes, Usable, Ended}
use Rattle.forcerenew.specs.Layout.{nonce_length, by_nonce, gives_nonce, orders_renewal, ack_type, forcerenew_type}
use Rattle.forcerenew.specs.Rows.{none_yet, heard, Servers, SoundRows, nonce_at}
use Rattle.forcerenew.specs.Shown.{counter_in, type_in, value_in, image_at}
use Rattle.forcerenew.specs.Judging.{judge_of, judged_of, servers_after}
use Rattle.comparison.specs.Entry.{text_for, compare_of, room_compared}
use Rattle.demands.specs.Accepts.{OptionAt}

-- ---- when a number applies

-- a check: the message says counter, id and MAC, and the id has row k
pub record Claims (b : Book) (m : List ℕ) (counter k : ℕ) (mac : List ℕ) : Type 0 where
  pub id : ℕ
  pub form : said_of m ≡ says counter id mac
  pub secret : row_of b id ≡ Some k

-- 1 to 10: the book is not sound; 2 to 9 as the message has it; the named secret id has no row
pub data KeyApplies (b : Book) (m : List ℕ) : Refusal → Type 0 where
  not_sound : (Sound b → ⊥) → KeyApplies b m UnsoundBook
  by_form : {r : Refusal} → Applies m r → KeyApplies b m r
  no_row : (id : ℕ) → named m ≡ Some id → NoRow b id → KeyApplies b m UnknownSecret

-- 1 to 12: those; the counter is not new to the row, which is heard and has a received counter that is not below; the MAC differs
pub data CheckApplies (b : Book) (m : List ℕ) : Refusal → Type 0 where
  by_key : {r : Refusal} → KeyApplies b m r → CheckApplies b m r
  not_new : (counter k : ℕ) (mac : List ℕ) → Claims b m counter k mac → new_to b k counter ≡ false → CheckApplies b m Replay
  differs : (counter k : ℕ) (mac : List ℕ) → Claims b m counter k mac → mac ≢ hmac (key_of b k) (image_of m) → CheckApplies b m WrongMac

-- 1 to 9, then 10 for the given id, then 13: its row has sent the largest counter
pub data SealApplies (b : Book) (id : ℕ) (m : List ℕ) : Refusal → Type 0 where
  not_sound : (Sound b → ⊥) → SealApplies b id m UnsoundBook
  by_form : {r : Refusal} → Applies m r → SealApplies b id m r
  no_row : NoRow b id → SealApplies b id m UnknownSecret
  spent : (k : ℕ) → row_of b id ≡ Some k → get_or b.sent k 0 ≡ counter_most → SealApplies b id m CounterSpent

-- whether an id is known: the list has too many ids, or the count is above its length; the steps of halving end without the id
pub data KnownApplies (ids : List ℕ) (count id : ℕ) : Refusal → Type 0 where
  too_many : room_most < length ids → KnownApplies ids count id UnsoundBook
  count_above : length ids < count → KnownApplies ids count id UnsoundBook
  not_met : (looks : ℕ) → Halves ids id 0 count None looks → KnownApplies ids count id UnknownSecret

-- 14: a digest's total would pass its limit
pub data DigestApplies (total : ℕ) : Refusal → Type 0 where
  passes_limit : digest_most < total → DigestApplies total TooLong

-- 14: the key is longer than a block, or the inner digest, which counts the key's block, would pass its limit
pub data HmacApplies (key text : List ℕ) : Refusal → Type 0 where
  long_key : key_most < length key → HmacApplies key text TooLong
  long_text : digest_most < block_size + length text → HmacApplies key text TooLong

-- reading a card: the lent sizes disagree or there is room for too many; the bytes are no card in either form; there are more rows than room
pub data ReadApplies (b : Book) (card : List ℕ) : Refusal → Type 0 where
  sizes_disagree : (Sized b → ⊥) → ReadApplies b card UnsoundBook
  malformed : NoCard card → ReadApplies b card MalformedCard
  more_rows : (rows : List Row) → CardFor rows card → length b.ids < length rows → ReadApplies b card NoRoomForRows

-- writing a card: the book is not sound; the room is below the card's size
pub data WriteApplies (b : Book) (room : List ℕ) : Refusal → Type 0 where
  not_sound : (Sound b → ⊥) → WriteApplies b room UnsoundBook
  small_room : length room < length (card_of New (rows_of b)) → WriteApplies b room NoRoomForCard

-- moving a card: the bytes are no card in either form; the room is below the size that the card would have in the wanted form; the old form is wanted and a
-- row is not heard
pub data MoveApplies (wanted : CardForm) (card room : List ℕ) : Refusal → Type 0 where
  malformed : NoCard card → MoveApplies wanted card room MalformedCard
  small_room : (rows : List Row) → CardFor rows card → length room < length (card_of wanted rows) → MoveApplies wanted card room NoRoomForCard
  not_heard_lem : wanted ≡ Old → (rows : List Row) → CardFor rows card → (k : ℕ) → k < length rows → (get_or rows k empty_row).mark ≡ not_heard
      → MoveApplies wanted card room RowNotHeard

-- a piece of a card: the spare rows' sizes disagree or there is room for too many, or a count of the state is past its limit
pub data PieceApplies (b : Book) (st : Reader) : Refusal → Type 0 where
  not_taken : (Takes b st → ⊥) → PieceApplies b st UnsoundBook

-- the end of a card read in pieces, from the spare rows b into the book c: the sizes of either disagree, or of one with the other's, or a count of the state
-- is past its limit; the close was not read or bytes are kept; there are more rows than room
pub data FinishApplies (b : Book) (st : Reader) (c : Book) : Refusal → Type 0 where
  not_usable : (Usable b st c → ⊥) → FinishApplies b st c UnsoundBook
  not_ended : (Ended st → ⊥) → FinishApplies b st c MalformedCard
  more_read : length c.ids < st.rows → FinishApplies b st c NoRoomForRows

-- which types go with a message: 1 with an ACK, 2 with a FORCERENEW
pub data GoesWith (m : List ℕ) : (type : ℕ) → Type 0 where
  nonce_in_ack : message_type_of m ≡ Some ack_type → GoesWith m gives_nonce
  mac_in_forcerenew : message_type_of m ≡ Some forcerenew_type → GoesWith m orders_renewal

-- the order in which a judgement by a nonce looks for refusals, whatever their numbers: 1, 2 to 7, 10, 19, 20, 21, 11, 12
abbrev pub judging_order : List Refusal
judging_order =
    UnsoundBook
    ∷ MessageSize ∷ WrongCookie ∷ BrokenOptions ∷ NoAuthentication ∷ RepeatedAuthentication ∷ RelayInformation
    ∷ UnknownSecret ∷ NotByNonce ∷ WrongType ∷ NoNonce ∷ Replay ∷ WrongMac ∷ []

-- a judgement by a nonce: the sizes disagree or a mark is none of the three; 2 to 7 as the message has it; there is no such row; option 90's length is not
-- 28, or its first three bytes are not 3, 1, 0; its type doesn't go with option 53; and of type 2: the row has no nonce yet; it is heard and its counter
-- is not below; the MAC differs
pub data JudgeApplies (s : Servers) (k : ℕ) (m : List ℕ) : Refusal → Type 0 where
  not_sound : (SoundRows s → ⊥) → JudgeApplies s k m UnsoundBook
  by_shape : {r : Refusal} → Applies m r → number_of r < number_of OtherAuthentication → JudgeApplies s k m r
  no_row : length s.marks ≤ k → JudgeApplies s k m UnknownSecret
  other_form : (o : ℕ) → OptionAt m o → (get_or m (o + length_at) 0 ≢ nonce_length) ⊎ (take (length by_nonce) (drop (o + method_at) m) ≢ by_nonce)
      → JudgeApplies s k m NotByNonce
  wrong_type : (o : ℕ) → OptionAt m o → (GoesWith m (type_in m o) → ⊥) → JudgeApplies s k m WrongType
  no_nonce : (o : ℕ) → OptionAt m o → type_in m o ≡ orders_renewal → get_or s.marks k 0 ≡ none_yet → JudgeApplies s k m NoNonce
  not_new : (o : ℕ) → OptionAt m o → type_in m o ≡ orders_renewal → get_or s.marks k 0 ≡ heard → counter_in m o ≤ get_or s.counters k 0
      → JudgeApplies s k m Replay
  differs : (o : ℕ) → OptionAt m o → type_in m o ≡ orders_renewal → value_in m o ≢ hmac (nonce_at s k) (image_at m o) → JudgeApplies s k m WrongMac

-- what may be wrong in a comparison: the first message, the second, or the room
pub data CompareFault : Type 0 where
  of_first : Refusal → CompareFault
  of_second : Refusal → CompareFault
  of_room : CompareFault

abbrev pub compare_number : CompareFault → ℕ
compare_number (of_first r) = number_of r
compare_number (of_second r) = number_of r
compare_number of_room = number_of NoRoomForReport

-- the order in which a comparison looks for them: 2 to 7 of the first message, 2 to 7 of the second, 22
abbrev pub compare_order : List CompareFault
compare_order =
    of_first MessageSize ∷ of_first WrongCookie ∷ of_first BrokenOptions
    ∷ of_first NoAuthentication ∷ of_first RepeatedAuthentication ∷ of_first RelayInformation
    ∷ of_second MessageSize ∷ of_second WrongCookie ∷ of_second BrokenOptions
    ∷ of_second NoAuthentication ∷ of_second RepeatedAuthentication ∷ of_second RelayInformation
    ∷ of_room ∷ []

-- a comparison: 2 to 7 as each message has it; the lines, where there are any, are longer than the room
pub data CompareApplies (first second room : List ℕ) : CompareFault → Type 0 where
  first_has : {r : Refusal} → Applies first r → number_of r < number_of OtherAuthentication → CompareApplies first second room (of_first r)
  second_has : {r : Refusal} → Applies second r → number_of r < number_of OtherAuthentication → CompareApplies first second room (of_second r)
  small_room : Passes27 first → Passes27 second → length room < length (text_for first second) → CompareApplies first second room of_room

-- ---- demand 1: for every entry the number, and what a refusal leaves

pub record Demand1 : Type 0 where
  pub check : (b : Book) (m : List ℕ) → Bytes m → Lowest (CheckApplies b m) (result_number (check_of b m))
  pub check_keeps : (b : Book) (m : List ℕ) → result_number (check_of b m) ≢ done
      → (marks_after (check_of b m) b.marks ≡ b.marks) × (received_after (check_of b m) b.received ≡ b.received)
  -- both key entries: the number, and the empty part at the store's start
  pub key : (b : Book) (m : List ℕ) → Bytes m → Lowest (KeyApplies b m) (result_number (keyed_of b m))
  pub key_empty : (b : Book) (m : List ℕ) → result_number (keyed_of b m) ≢ done → (key_bytes b (keyed_of b m) ≡ []) × (key_offset (keyed_of b m) ≡ 0)
  pub seal : (b : Book) (id : ℕ) (m : List ℕ) → Bytes m → Lowest (SealApplies b id m) (outcome_number (seal_of b id m))
  pub seal_keeps : (b : Book) (id : ℕ) (m : List ℕ) → outcome_number (seal_of b id m) ≢ done
      → (message_after (seal_of b id m) m ≡ m) × (sent_after (seal_of b id m) b.sent ≡ b.sent)
  -- whether an id is known: nothing is lent for writing
  pub known : (ids : List ℕ) (count id : ℕ) → Lowest (KnownApplies ids count id) (sought_number (known_of ids count id))
  pub feed : (d : Digest) (piece : List ℕ) → Lowest (DigestApplies (d.total + length piece)) (result_number (feed_of d piece))
  pub feed_keeps : (d : Digest) (piece : List ℕ) → result_number (feed_of d piece) ≢ done
      → (feed_of d piece ≡ Err TooLong) × (given_or d (feed_of d piece) ≡ d)
  pub finish : (d : Digest) → Lowest (DigestApplies d.total) (result_number (finish_of d))
  pub finish_zeros : (d : Digest) → result_number (finish_of d) ≢ done → (finish_of d ≡ Err TooLong) × (given_or no_digest (finish_of d) ≡ zeros 16)
  pub digest : (message : List ℕ) → Lowest (DigestApplies (length message)) (result_number (md5_of message))
  pub digest_zeros : (message : List ℕ) → result_number (md5_of message) ≢ done
      → (md5_of message ≡ Err TooLong) × (given_or no_digest (md5_of message) ≡ zeros 16)
  pub hmac_mac : (key text : List ℕ) → Lowest (HmacApplies key text) (result_number (hmac_of key text))
  pub hmac_zeros : (key text : List ℕ) → result_number (hmac_of key text) ≢ done
      → (hmac_of key text ≡ Err TooLong) × (given_or no_digest (hmac_of key text) ≡ zeros 16)
  pub card_read : (b : Book) (card : List ℕ) → Bytes card → Lowest (ReadApplies b card) (result_number (read_of b card))
  pub card_read_keeps : (b : Book) (card : List ℕ) → result_number (read_of b card) ≢ done → read_book b card ≡ b
  pub card_write : (b : Book) (room : List ℕ) → Lowest (WriteApplies b room) (result_number (write_of b (length room)))
  pub card_write_keeps : (b : Book) (room : List ℕ) → result_number (write_of b (length room)) ≢ done → room_after b room ≡ room
  pub card_move : (wanted : CardForm) (card room : List ℕ) → Bytes card
      → Lowest (MoveApplies wanted card room) (result_number (move_of wanted card (length room)))
  pub card_move_keeps : (wanted : CardForm) (card room : List ℕ) → result_number (move_of wanted card (length room)) ≢ done
      → room_moved wanted card room ≡ room
  -- a card in pieces: of `feed` the spare rows are lent, which a piece fills where the number is 0; of `finish` the book
  pub card_feed : (b : Book) (st : Reader) (piece : List ℕ) → Lowest (PieceApplies b st) (result_number (piece_of b st piece))
  pub card_feed_keeps : (b : Book) (st : Reader) (piece : List ℕ) → result_number (piece_of b st piece) ≢ done
      → (piece_of b st piece ≡ Err UnsoundBook) × ((given_or st (piece_of b st piece) ≡ st) × (feed_spare b st piece ≡ b))
  pub card_finish : (b : Book) (st : Reader) (c : Book) → Lowest (FinishApplies b st c) (result_number (end_of b st c))
  pub card_finish_keeps : (b : Book) (st : Reader) (c : Book) → result_number (end_of b st c) ≢ done → finish_book b st c ≡ c
  -- the judgement by a nonce: the first in `judging_order` that applies
  pub judge : (s : Servers) (k : ℕ) (m : List ℕ) → Bytes m → First judging_order (JudgeApplies s k m) (result_number (judged_of (judge_of s k m)))
  pub judge_keeps : (s : Servers) (k : ℕ) (m : List ℕ) → result_number (judged_of (judge_of s k m)) ≢ done → servers_after k (judge_of s k m) s ≡ s
  -- the comparison of two messages: the first in `compare_order` that applies
  pub compare : (first second room : List ℕ) → Bytes first → Bytes second
      → FirstOf compare_order compare_number (CompareApplies first second room) (result_number (compare_of first second (length room)))
  pub compare_keeps : (first second room : List ℕ) → result_number (compare_of first second (length room)) ≢ done → room_compared first second room ≡ room
