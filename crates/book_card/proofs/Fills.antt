-- The second pass over a card, which sets its rows: what each turn keeps, and each end of `card_read`.
use mathlib.Core.Path.{◌≡◌, refl, sym, ap, ap₂, ◌∙◌}
use mathlib.Core.Bool.{Bool, true, false, not, true≢false}
use mathlib.Core.List.{List}
use Prim.Native.Nat.{ℕ, suc, ◌+◌, ◌≤◌, ◌<◌}
use native.Mathlib.Omega.{arith}
use borrow.Author.Tests.{not-true, not-false}
use lib.ListN.{length, get_or, drop, drop_of_length-le}
use lib.Seq.{drop-cons}
use Rattle.refusal.specs.declared.Refusal.TheVariants.{UnsoundBook, MalformedCard, NoRoomForRows}
use Rattle.key_book.specs.Limits.{slot_size}
use Rattle.key_book.specs.Book.{Book, book_of, Sized, sized}
use Rattle.key_book.specs.Laws.{Within}
use Rattle.key_book.proofs.Says.{sized_says}
use Rattle.book_card.specs.declared.CardForm.{CardForm}
use Rattle.book_card.specs.Card.{Row, empty_row}
use Rattle.book_card.specs.Lent.{row_lent}
use Rattle.book_card.specs.Reader.{read_card, counted_from}
use Rattle.book_card.specs.Reading.{set_row, loaded, read_of, rows_in, read_book}
use Rattle.book_card.specs.Walk.{GivesRowHere, GivesNone}
use Rattle.book_card.specs.declared.LentRow.{LentRow}
use Rattle.book_card.specs.declared.Rows.{Rows}
use Rattle.book_card.proofs.Turns.{Along}
use Rattle.book_card.proofs.Loads.{room_for, row_set_long, row_set_sized, set_from, set_all, set_none, set_cons}
use Rattle.book_card.proofs.Ends.{unsized, malformed, no_room_lem, read, case_read, clauses}
use Rattle.book_card.proofs.Walks.{CardRows, Placed, placed_start, Turn, here_row, fits, all_came, turn}
use Rattle.std.specs.Prelude.{Err, None, Ok, Option, Result, Some}
use Rattle.refusal.specs.declared.Refusal.{Refusal}

-- so many of a card's n rows are set; b is the book as lent, c as it is now: with the other rows set it is the loaded book
pub record Filling (form : CardForm) (card : List ℕ) (n : ℕ) (b c : Book) (s : Rows) (row : ℕ) : Type 0 where
  pub walk : Placed form card n s row
  pub room : n ≤ length b.ids
  pub sizes : Sized c
  pub long : length c.ids ≡ length b.ids
  pub rest : set_from c row (drop row (rows_in card)) ≡ loaded b (rows_in card)

pub filling_start : (form : CardForm) (card : List ℕ) (n : ℕ) (b : Book) → CardRows form card n → Sized b → n ≤ length b.ids
    → (s : Rows) → Along form card s → s.at ≡ 0 → (row : ℕ) → row ≡ 0 → Filling form card n b b s row
filling_start form card n b q z m s a e row e₀ =
    rw e₀ (record { walk = placed_start form card n q s a e; room = m; sizes = z; long = refl; rest = set_all b (rows_in card) })

module _ {form : CardForm} {card : List ℕ} {n : ℕ} {b c : Book} {s : Rows} {row : ℕ} (f : Filling form card n b c s row) where
  module _ (x : LentRow) (t : Rows) (g : GivesRowHere s x t) where
    abbrev u : Turn form card n t row x
    u = turn f.walk x t g

    in_ids : row < length c.ids
    in_ids = let l = f.long in let m = f.room in let h = u.counts in omega arith

    -- the row lies within the book, and its key within a slot
    pub row_within : (place : ℕ) → place ≡ row → Within c place
    row_within place e = rw e (room_for c f.sizes row (get_or (rows_in card) row empty_row) in_ids (fits f.walk u.counts).key_to)

    pub row_small : length x.key.now ≤ slot_size
    row_small = u.small

    -- the row set
    pub filling_turn : (place : ℕ) → place ≡ row → (next : ℕ) → next ≡ row + 1 → (c' : Book) → c' ≡ set_row c place (row_lent x)
        → Filling form card n b c' t next
    filling_turn place e next e₀ c' e₁ =
        let r = get_or (rows_in card) row empty_row in
        let to = (fits f.walk u.counts).key_to in
        let e₂ : c' ≡ set_row c row r = e₁ ∙ ap (λ (k : ℕ). set_row c k (row_lent x)) e ∙ ap (set_row c row) u.is_row in
        let q : row + 1 ≡ suc row = omega arith in
        rw e₀ (record {
          walk = u.next;
          room = f.room;
          sizes = rw e₂ (row_set_sized c f.sizes row r in_ids to);
          long = rw e₂ (row_set_long c f.sizes row r in_ids to ∙ f.long);
          rest = ap₂ (λ (x : Book) (m : ℕ). set_from x (row + 1) (drop m (rows_in card))) e₂ q
              ∙ sym (set_cons c f.sizes row r (drop (suc row) (rows_in card)) in_ids to)
              ∙ ap (set_from c row) (sym (drop-cons (rows_in card) row empty_row (here_row f.walk u.counts))) ∙ f.rest;
        })

  pub filling_end : (t : Rows) → GivesNone s t → book_of c.ids c.lengths c.store c.marks c.received c.sent n ≡ loaded b (rows_in card)
  filling_end t g =
      let e = f.walk.holds.count in
      let w = f.walk.within in
      let h = all_came f.walk t g in
      let q : row ≡ n = omega arith in
      let l : length (rows_in card) ≤ row = omega arith in
      sym (set_none c row n q) ∙ ap (set_from c row) (sym (drop_of_length-le (rows_in card) l)) ∙ f.rest

-- bytes that the first pass calls malformed are read as nothing
pub told_malformed : (card : List ℕ) → None ≡ counted_from 0 (read_card card) → read_card card ≡ None
told_malformed card m = on (read_card card) m
  where
    on : (o : Option (List Row)) → None ≡ counted_from 0 o → o ≡ None
    on None m = refl
    on (Some rows) m = absurd (let z : ◌≡◌ {A = ℕ} 0 1 = cc in omega arith)

-- the ends of `card_read`: the answer, and the lent book afterwards
module _ (b : Book) (card : List ℕ) where
  abbrev Ends : Result ℕ Refusal → Book → Type 0
  Ends a d = record { answer : a ≡ read_of b card; after : d ≡ read_book b card }

  module _ (t : Bool) (e : t ≡ sized b) where
    pub read_sizes : not t ≡ true → Ends (Err UnsoundBook) b
    read_sizes h = clauses (case_read b card (unsized (λ z. true≢false (sym ((sized_says b).1 z) ∙ sym e ∙ not-true t h))))

    module _ (h : not t ≡ false) where
      pub told_sized : Sized b
      told_sized = (sized_says b).0 (sym e ∙ not-false t h)

      pub read_malformed : None ≡ counted_from 0 (read_card card) → Ends (Err MalformedCard) b
      read_malformed m = clauses (case_read b card (malformed told_sized (told_malformed card m)))

      module _ {form : CardForm} (n : ℕ) (q : CardRows form card n) where
        pub read_no_room : length b.ids < n → Ends (Err NoRoomForRows) b
        read_no_room l = clauses (case_read b card (no_room_lem told_sized (rows_in card) q.reads (rw q.count l)))

        pub read_done : n ≤ length b.ids → (after : Book) → after ≡ loaded b (rows_in card) → Ends (Ok n) after
        read_done l after f = rw (f, ← q.count) (clauses (case_read b card (read told_sized (rows_in card) q.reads (rw q.count l))))
