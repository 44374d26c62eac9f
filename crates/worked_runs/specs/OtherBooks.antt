-- Books that differ only in what no answer depends on (docs/RULES.md, 'The key book'): so what demands/specs/Dependence.antt, key_book/specs/Laws.antt
-- and card_laws/specs/Laws.antt say of two books speaks of books that differ. The one proof is proofs/OtherBooks.antt.
use Rattle.std.specs.Prelude.{ℕ, [], ◌∷◌, ◌++◌, replicate}
use Rattle.key_book.specs.Book.{Book, Sound, book_of}
use Rattle.card_laws.specs.Laws.{SameRows}
use Rattle.demands.specs.Dependence.{SameForCheck, SameForSeal, SameInUse}
use Rattle.worked_runs.specs.Crossed.{id_a, id_b, book, changed_b, auth_a, relay_info, plain}

-- two rows in use and room for a third; this number stands behind each key and all over the third row
abbrev pub filled_with : ℕ → Book
filled_with x =
    book_of (id_a ∷ id_b ∷ x ∷ []) (4 ∷ 4 ∷ x ∷ []) (1 ∷ 2 ∷ 3 ∷ 4 ∷ (replicate 60 x ++ (5 ∷ 6 ∷ 7 ∷ 8 ∷ replicate 124 x)))
    (1 ∷ 0 ∷ x ∷ []) (10 ∷ 0 ∷ x ∷ []) (3 ∷ 4 ∷ x ∷ []) 2

pub record OtherBooks : Type 0 where
  pub filled_sound : (x : ℕ) → Sound (filled_with x)
  -- slot bytes past a key, and rows from the row count on
  pub in_use_lem : (x y : ℕ) → SameInUse (filled_with x) (filled_with y)
  pub on_card : (x y : ℕ) → SameRows (filled_with x) (filled_with y)
  -- another secret's key, mark and counters: for a check that names secret A, and for a seal under it
  pub for_check : SameForCheck book changed_b (plain (auth_a ++ relay_info))
  pub for_seal : SameForSeal book changed_b id_a
