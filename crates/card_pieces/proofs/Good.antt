-- The good rows: those in front in the form of the first record are, of all rows in order of one form whose records the bytes begin with, the most.
use mathlib.Core.Path.{◌≡◌, refl, ap, ◌∙◌}
use mathlib.Core.List.{List, [], ◌∷◌, ◌++◌}
use Prim.Native.Nat.{ℕ}
use native.Mathlib.Omega.{arith}
use lib.ListN.{length, take}
use Rattle.octets.specs.Bytes.{Bytes}
use Rattle.book_card.specs.declared.CardForm.{CardForm}
use Rattle.book_card.specs.Card.{Row, row_record, row_records, InOrder}
use Rattle.book_card.specs.Reader.{form_in, rows_in_front}
use Rattle.book_card.proofs.Forms.{form_kind}
use Rattle.book_card.proofs.Shape.{records_cons, row_read}
use Rattle.book_card.proofs.Says.{front_says}
use Rattle.card_pieces.specs.Laws.{good_rows, GoodSays}

-- rows in order whose records bytes begin with are of the form of the first record
first_form : (s : List ℕ) (form : CardForm) (r : Row) (rows : List Row) (rest : List ℕ) → InOrder form (r ∷ rows) → s ≡ row_records form (r ∷ rows) ++ rest
    → form ≡ form_in s
first_form s form r rows rest o e =
    let more = row_records form rows ++ rest in
    let q = row_read form r more (o.fit 0 (omega arith)) in
    let p : s ≡ row_record form r ++ more = e ∙ records_cons form r rows rest in
    rw p (form_kind (row_record form r ++ more) (let l = q.long in omega arith) form q.kind)

module _ (s : List ℕ) (h : Bytes s) where
  most : (other : CardForm) (more : List Row) (after : List ℕ) → InOrder other more → s ≡ row_records other more ++ after
      → more ≡ take (length more) (good_rows s)
  most other [] after o e = refl
  most other (r ∷ more) after o e =
      let f = first_form s other r more after o e in
      (front_says (form_in s) s h).most (r ∷ more) after (rw (← f) o) (e ∙ ap (λ (x : CardForm). row_records x (r ∷ more) ++ after) f)

pub good_says : GoodSays
good_says s h =
    let f = front_says (form_in s) s h in
    record { form = form_in s; order = f.order; rest = (rows_in_front (form_in s) s).rest; front = f.bytes; most = most s h }
