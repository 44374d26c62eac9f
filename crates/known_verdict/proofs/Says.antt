-- `KnownLineSays` (specs/Laws.antt): the argument first, then what the card gives (file_verdict, proofs/Cards.antt), then the id among its rows
-- (proofs/Rows.antt).
use Prim.Native.Nat.{ℕ}
use mathlib.Core.Path.{◌≡◌, refl, sym, ap, ◌∙◌}
use mathlib.Core.Logic.{◌≢◌}
use mathlib.Core.List.{List}
use native.Mathlib.Omega.{arith}
use lib.ListN.{length}
use Rattle.refusal.specs.declared.Refusal.TheVariants.{UnsoundBook, MalformedCard}
use Rattle.key_book.specs.Book.{Book}
use Rattle.key_book.specs.declared.Sought.{Sought}
use Rattle.key_book.specs.declared.Sought.TheVariants.{Stands, Missing, Unsized}
use Rattle.key_book.specs.Halving.{known_of}
use Rattle.key_book.proofs.Halves.{known_says}
use Rattle.book_card.specs.Card.{Row, CardFor}
use Rattle.book_card.specs.Reading.{loaded, read_of, read_book}
use Rattle.book_card.proofs.Ends.{ReadCase, unsized, malformed, no_room_lem, read, read_case}
use Rattle.verdict_line.specs.declared.Line.{Line}
use Rattle.verdict_line.specs.declared.Line.TheVariants.{Refused, Unreadable}
use Rattle.file_verdict.specs.Files.{readable, loaded_of, book_loaded, empty_book}
use Rattle.file_verdict.proofs.Stages.{card_none, card_read, book_read}
use Rattle.file_verdict.proofs.Cards.{empty_sized, card_missing, card_too_large, card_malformed, card_loaded}
use Rattle.known_verdict.specs.Argument.{argument_of}
use Rattle.known_verdict.specs.Asked.{sought_line, id_line, asked_line, known_line}
use Rattle.known_verdict.specs.Laws.{IsId, NotId, KnownLineSays}
use Rattle.known_verdict.proofs.Numerals.{id_says}
use Rattle.known_verdict.proofs.Rows.{ids_taken, row_known, row_unknown}
use Rattle.std.specs.Prelude.{Err, None, Ok, Option, Result, Some, ℕ}
use Rattle.refusal.specs.declared.Refusal.{Refusal}

-- the line for an id, by what is loaded
line_stopped : (id : ℕ) (card : Option (List ℕ)) (line : Line) → Err line ≡ loaded_of empty_book card → asked_line card (Some id) ≡ line
line_stopped id card line e = sym (ap (id_line id (book_loaded empty_book card).ids) e)

line_rows : (id : ℕ) (card : Option (List ℕ)) (n : ℕ) → Ok n ≡ loaded_of empty_book card
    → asked_line card (Some id) ≡ sought_line (known_of (book_loaded empty_book card).ids n id)
line_rows id card n e = sym (ap (id_line id (book_loaded empty_book card).ids) e)

-- the argument
no_id : (text : List ℕ) → NotId text → (card : Option (List ℕ)) → known_line (Some text) card ≡ Unreadable
unfolding known_line
no_id text f card = rw ((id_says.not_read text).1 f)

by_id : (text : List ℕ) (id : ℕ) → IsId text id → (card : Option (List ℕ)) {line : Line} → asked_line card (Some id) ≡ line → known_line (Some text) card ≡ line
unfolding known_line
by_id text id i card e = rw ((id_says.read text id).1 i) e

-- a good card
by_rows : (id : ℕ) (card : List ℕ) (rows : List Row) → CardFor rows card → {line : Line}
    → sought_line (known_of (loaded empty_book rows).ids (length rows) id) ≡ line → asked_line (Some card) (Some id) ≡ line
by_rows id card rows c e =
    let l = card_loaded card rows c in
    line_rows id (Some card) (length rows) l.0 ∙ ap (λ (b : Book). sought_line (known_of b.ids (length rows) id)) l.1 ∙ e

-- whatever the card's bytes are, its ids are searched
not_refused : (s : Sought) → s ≢ Unsized → sought_line s ≢ Refused UnsoundBook
not_refused (Stands k looks) f e = let z : ◌≡◌ {A = ℕ} 0 1 = cc in omega arith
not_refused (Missing looks) f e = let z : ◌≡◌ {A = ℕ} 0 1 = cc in omega arith
not_refused Unsized f e = f refl

module _ (id : ℕ) (card : Option (List ℕ)) where
  stopped : {line : Line} → Err line ≡ loaded_of empty_book card → line ≢ Refused UnsoundBook → asked_line card (Some id) ≢ Refused UnsoundBook
  stopped {line} e f = rw (line_stopped id card line e) f

  by_case : {s : List ℕ} → readable card ≡ Some s → {a : Result ℕ Refusal} {b : Book} → ReadCase empty_book s a b → a ≡ read_of empty_book s
      → b ≡ read_book empty_book s → asked_line card (Some id) ≢ Refused UnsoundBook
  by_case r (unsized h) e q = absurd (h empty_sized)
  by_case r (malformed z n) e q = stopped (card_read empty_book card r refl e) (λ f. let z : ◌≡◌ {A = ℕ} 0 1 = cc in omega arith)
  by_case r (no_room_lem z rows n l) e q = stopped (card_read empty_book card r refl e) (λ f. let z : ◌≡◌ {A = ℕ} 0 1 = cc in omega arith)
  by_case r (read z rows n l) e q =
      let ids = (loaded empty_book rows).ids in
      rw (line_rows id card (length rows) (card_read empty_book card r refl e), ← (book_read empty_book card r q))
      (not_refused (known_of ids (length rows) id) (λ u. (known_says.unsized ids (length rows) id).0 u (ids_taken rows l)))

  by_card : (file : Option (List ℕ)) → readable card ≡ file → asked_line card (Some id) ≢ Refused UnsoundBook
  by_card None r = stopped (card_none empty_book card r).0 (λ f. let z : ◌≡◌ {A = ℕ} 0 1 = cc in omega arith)
  by_card (Some s) r = by_case r (read_case empty_book s) refl refl

never_unsound : (asked : Option ℕ) (card : Option (List ℕ)) → asked_line card asked ≢ Refused UnsoundBook
never_unsound None card e = let z : ◌≡◌ {A = ℕ} 0 1 = cc in omega arith
never_unsound (Some id) card e = by_card id card (readable card) refl e

pub known_line_says : KnownLineSays
unfolding known_line
known_line_says = record {
  no_argument = λ card. refl;
  no_id = no_id;
  card_missing = λ text id i. by_id text id i None (line_stopped id None Unreadable card_missing);
  card_too_large = λ text id i card h. by_id text id i (Some card) (line_stopped id (Some card) Unreadable (card_too_large card h));
  card_malformed = λ text id i card h b f.
      by_id text id i (Some card) (line_stopped id (Some card) (Refused MalformedCard) (card_malformed card h b f));
  known = λ text id i card rows c k h e. by_id text id i (Some card) (by_rows id card rows c (row_known card rows c id k h e));
  unknown = λ text id i card rows c none_has. by_id text id i (Some card) (by_rows id card rows c (row_unknown card rows c id none_has));
  never_unsound = λ argument card. never_unsound (argument_of argument) card;
}
