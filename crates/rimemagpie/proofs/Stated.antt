-- A card's state in parts: what the test of its two numbers says of it, and with that what a piece and the end leave in the lent places.
use mathlib.Core.Path.{◌≡◌, refl, sym, ap, ap₂, ◌∙◌}
use mathlib.Core.Bool.{Bool, true, false, not, cond, and-eq-true_iff}
use mathlib.Core.List.{List}
use Prim.Native.Nat.{ℕ}
use borrow.Author.Tests.{not-true, not-false, eqb-true}
use Rattle.refusal.specs.Number.{given_or}
use Rattle.key_book.specs.Book.{Book}
use Rattle.card_pieces.specs.declared.Phase.{Phase}
use Rattle.card_pieces.specs.declared.Reader.{Reader}
use Rattle.card_pieces.specs.Numbers.{form_number, form_numbered, phase_number, phase_numbered, are_numbers}
use Rattle.card_pieces.specs.Pieces.{feed_of}
use Rattle.card_pieces.proofs.Limits.{are_numbers_lem, numbers_back}
use Rattle.rimemagpie.specs.States.{StateBack, state_of, tail_place, kept_place, read_place, low_place, form_place, phase_place}
use Rattle.std.specs.Prelude.{Err, None, Option, Some}
use Rattle.std.proofs.lemmas.Option.{same_Some, none-some}
use Rattle.book_card.specs.declared.CardForm.{CardForm}
use Rattle.refusal.specs.declared.Refusal.{Refusal}

pub state_back : StateBack
unfolding state_of
state_back st =
    let n = numbers_back in
    rw (are_numbers_lem st.form st.phase)
    (ap₂ (λ (f : Option CardForm) (p : Phase). Some (record { tail = st.tail; kept = st.kept; rows = st.rows; low = st.low; form = f; phase = p }))
    (n.form_back st.form) (n.phase_back st.phase))

module _ (tail : List ℕ) (kept read low form phase : ℕ) where
  abbrev st : Option Reader
  st = state_of tail kept read low form phase

  abbrev whole : Option CardForm → Phase → Reader
  whole f p = record { tail = tail; kept = kept; rows = read; low = low; form = f; phase = p }

  module _ (t : Bool) (et : t ≡ are_numbers form phase) where
    pub unstated : not t ≡ true → None ≡ st
    unfolding state_of
    unstated h = rw (sym et ∙ not-true t h)

    pub stated : not t ≡ false → (f : Option CardForm) → f ≡ form_numbered form → (p : Phase) → p ≡ phase_numbered phase → Some (whole f p) ≡ st
    unfolding state_of
    stated h f ef p ep = rw (sym et ∙ not-false t h, ef, ep)

  -- the parts are those of the state
  abbrev Parts : Reader → Type 0
  Parts s =
      (s.tail ≡ tail) × ((s.kept ≡ kept) × ((s.rows ≡ read) × ((s.low ≡ low) × ((form_number s.form ≡ form) × (phase_number s.phase ≡ phase)))))

  parts_in : (t : Bool) → t ≡ are_numbers form phase → (s : Reader) → Some s ≡ cond t (Some (whole (form_numbered form) (phase_numbered phase))) None → Parts s
  unfolding are_numbers
  parts_in true et s e =
      let holds : are_numbers form phase ≡ true = sym et in
      let n = simp (and-eq-true_iff) at holds in
      let q : s ≡ whole (form_numbered form) (phase_numbered phase) = same_Some _ _ e in
      rw q (refl, (refl, (refl, (refl, (eqb-true _ form n.0, eqb-true _ phase n.1)))))
  parts_in false et s e = absurd (none-some s (sym e))

  pub parts : (s : Reader) → Some s ≡ st → Parts s
  unfolding state_of
  parts s e = parts_in (are_numbers form phase) refl s e

  -- a piece that is refused leaves the parts as they were
  module _ (b : Book) (piece : List ℕ) (s : Reader) (there : Some s ≡ st) (r : Refusal) (e : Err r ≡ feed_of b s piece) where
    kept_state : given_or s (feed_of b s piece) ≡ s
    kept_state = ap (given_or s) (sym e)

    pub not_fed : record {
      tail : tail ≡ tail_place b st piece tail;
      kept : kept ≡ kept_place b st piece kept;
      read : read ≡ read_place b st piece read;
      low : low ≡ low_place b st piece low;
      form : form ≡ form_place b st piece form;
      phase : phase ≡ phase_place b st piece phase;
    }
    not_fed =
        let p = parts s there in
        let k = kept_state in
        rw (sym there) (record {
          tail = sym (ap (λ (x : Reader). x.tail) k ∙ p.0);
          kept = sym (ap (λ (x : Reader). x.kept) k ∙ p.1.0);
          read = sym (ap (λ (x : Reader). x.rows) k ∙ p.1.1.0);
          low = sym (ap (λ (x : Reader). x.low) k ∙ p.1.1.1.0);
          form = sym (ap (λ (x : Reader). form_number x.form) k ∙ p.1.1.1.1.0);
          phase = sym (ap (λ (x : Reader). phase_number x.phase) k ∙ p.1.1.1.1.1);
        })
