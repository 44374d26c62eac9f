-- Each case of `front_of` at a place of a card, by what the tests of `front_at` and `row_at` say.
use mathlib.Core.Path.{◌≡◌, sym, ap, ◌∙◌}
use mathlib.Core.Logic.{◌≢◌}
use mathlib.Core.Bool.{Bool, true, false, not}
use mathlib.Core.List.{List}
use Prim.Native.Nat.{ℕ, ◌+◌, ◌-◌, ◌≤◌, ◌<◌}
use native.Mathlib.Nat.{add-zero}
use borrow.Author.Tests.{eq-eqb, ne_eqb, lt-ltb, le-ltb, not-true, not-false}
use lib.ListN.{length, drop, length-drop}
use Rattle.octets.specs.Numbers.{little_at}
use Rattle.octets.proofs.LowFirst.{number_from}
use Rattle.key_book.specs.Limits.{slot_size}
use Rattle.key_book.specs.Book.{mark_fits}
use Rattle.book_card.specs.declared.CardForm.{CardForm}
use Rattle.book_card.specs.Layout.{length_size, kind_size, id_size, counter_size, count_size, row_kind, close_kind}
use Rattle.book_card.specs.Layout.{kind_at, body_at, received_at, sent_at, key_at, close_size}
use Rattle.book_card.specs.Reader.{mark_in, row_by, front_by, front_of}
use Rattle.book_card.specs.declared.Front.{Front}
use Rattle.book_card.specs.declared.Front.TheVariants.{Broken, Row as RowFront, Close}
use Rattle.book_card.proofs.Forms.{kind_no_close}

-- the least and the most that a row's length field says
abbrev pub row_from : CardForm → ℕ
row_from form = key_at form - length_size + 1

abbrev pub row_to : CardForm → ℕ
row_to form = key_at form - length_size + slot_size

module _ (form : CardForm) (card : List ℕ) (at : ℕ) where
  abbrev here : List ℕ
  here = drop at card

  -- how many bytes are left, and a number among them
  left : length here ≡ length card - at
  left = length-drop at card

  number : (more width x : ℕ) → x ≡ little_at card (at + more) width → little_at here more width ≡ x
  number more width x e = number_from card at more width ∙ sym e

  -- ---- a row, by its length field

  module _ (size : ℕ) where
    module _ (l : row_from form ≤ size) where
      -- the mark and the received counter, as they were read, and whether they go together
      module _
          (m : size ≤ row_to form) (mark received p : ℕ) (f : mark ≡ mark_in form here) (ep : p ≡ at + received_at form)
          (h : received ≡ little_at card p counter_size)
          (t : Bool) (e : t ≡ mark_fits mark received)
        where
          g : received ≡ little_at card (at + received_at form) counter_size
          g = h ∙ ap (λ (n : ℕ). little_at card n counter_size) ep

          told : mark_fits (mark_in form here) (little_at here (received_at form) counter_size) ≡ t
          told = rw (← f, number (received_at form) counter_size received g) (sym e)

          pub row_marked : not t ≡ true → Broken ≡ row_by form here size
          row_marked n = rw (le-ltb size (row_from form) l, le-ltb (row_to form) size m, told ∙ not-true t n)

          pub row_there : not t ≡ false → (id : ℕ) → id ≡ little_at card (at + body_at) id_size
              → (sent q : ℕ) → q ≡ at + sent_at form → sent ≡ little_at card q counter_size → (k : ℕ) → k ≡ key_at form - length_size
              → RowFront id mark received sent (size - k) ≡ row_by form here size
          row_there n id i sent q eq s k ek =
              rw (
                ek,
                le-ltb size (row_from form) l,
                le-ltb (row_to form) size m,
                told ∙ not-false t n,
                ← f,
                number body_at id_size id i,
                number (received_at form) counter_size received g,
                number (sent_at form) counter_size sent (s ∙ ap (λ (n : ℕ). little_at card n counter_size) eq),
              )

  -- ---- a record

  pub front_short : length card - at < body_at → Broken ≡ front_of form here
  unfolding front_of
  front_short h = rw (left, lt-ltb _ body_at h)

  module _ (size : ℕ) (e : size ≡ little_at card at length_size) (h₀ : body_at ≤ length card - at) where
    number_first : little_at here 0 length_size ≡ size
    number_first = number 0 length_size size (e ∙ ap (λ (n : ℕ). little_at card n length_size) (sym (add-zero at)))

    pub front_cut : length card - at - length_size < size → Broken ≡ front_of form here
    unfolding front_of
    front_cut h = rw (left, le-ltb _ body_at h₀, number_first, lt-ltb _ size h)

    module _ (h₁ : size ≤ length card - at - length_size) (kind : ℕ) (f : kind ≡ little_at card (at + kind_at) kind_size) where
      pub by_kind : front_by form here size kind ≡ front_of form here
      unfolding front_of
      by_kind = rw (left, le-ltb _ body_at h₀, number_first, le-ltb _ size h₁, number kind_at kind_size kind f)

      module _ (k : kind ≡ close_kind) where
        pub front_close : size ≡ close_size - length_size → (m : ℕ) → m ≡ little_at card (at + body_at) count_size → Close m ≡ front_of form here
        front_close z m g =
            ap Close (sym (number body_at count_size m g)) ∙ (rw (eq-eqb kind close_kind k, eq-eqb size (close_size - length_size) z) at by_kind)

        pub front_close_size : size ≢ close_size - length_size → Broken ≡ front_of form here
        front_close_size z = rw (eq-eqb kind close_kind k, ne_eqb size (close_size - length_size) z) at by_kind

      pub front_kind : kind ≢ close_kind → kind ≢ row_kind form → Broken ≡ front_of form here
      front_kind k r = rw (ne_eqb kind close_kind k, ne_eqb kind (row_kind form) r) at by_kind

      pub front_row : kind ≡ row_kind form → (x : Front) → x ≡ row_by form here size → x ≡ front_of form here
      front_row r x g = g ∙ (rw (ne_eqb kind close_kind (λ e. kind_no_close form (sym r ∙ e)), eq-eqb kind (row_kind form) r) at by_kind)
