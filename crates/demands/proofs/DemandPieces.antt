-- Demand 1 of a card read in pieces: of a piece, and of the end, by its ends (card_pieces/proofs/Finishes).
use mathlib.Core.Path.{◌≡◌, refl, sym, ap, ◌∙◌}
use mathlib.Core.Logic.{◌≢◌}
use mathlib.Core.Bool.{Bool, true, false, true≢false}
use mathlib.Core.List.{List}
use Prim.Native.Nat.{ℕ, ◌≤◌, ◌<◌}
use native.Mathlib.Omega.{arith}
use lib.ListN.{length}
use Rattle.refusal.specs.Number.{number_of, done, result_number, given_or}
use Rattle.refusal.specs.Lowest.{NothingBelow, Lowest}
use Rattle.refusal.specs.declared.Refusal.TheVariants.{UnsoundBook, MalformedCard, NoRoomForRows}
use Rattle.refusal.proofs.Lowest.{nothing_first, nothing_below_any, lowest}
use Rattle.key_book.specs.Book.{Book}
use Rattle.card_pieces.specs.declared.Reader.{Reader}
use Rattle.card_pieces.specs.Pieces.{taken, feed_of, feed_spare, finish_of, finish_book}
use Rattle.card_pieces.specs.Laws.{Usable, Ended}
use Rattle.card_pieces.proofs.Limits.{ended_says}
use Rattle.card_pieces.proofs.Joins.{takes_taken, taken_takes, feed_taken, feed_refused, spare_refused}
use Rattle.card_pieces.proofs.Finishes.{FinishCase, unsound, unended, no_room_lem, finished, finish_case}
use Rattle.demands.specs.Demand1.{PieceApplies, not_taken, FinishApplies, not_usable, not_ended, more_read}
use Rattle.std.specs.Prelude.{Err, None, Result, Some, ℕ}
use Rattle.refusal.specs.declared.Refusal.{Refusal}

-- ---- a piece

module _ (b : Book) (st : Reader) (piece : List ℕ) where
  pub piece_number : Lowest (PieceApplies b st) (result_number (feed_of b st piece))
  piece_number = on (taken b st) refl
    where
      none_applies : taken b st ≡ true → (n : ℕ) → NothingBelow (PieceApplies b st) n
      none_applies e n q l (not_taken h) = h (taken_takes b st e)

      on : (t : Bool) → taken b st ≡ t → Lowest (PieceApplies b st) (result_number (feed_of b st piece))
      on true e =
          rw (ap result_number (feed_taken b st piece e))
          (lowest (PieceApplies b st) None (nothing_below_any (PieceApplies b st) (none_applies e)))
      on false e =
          rw (ap result_number (feed_refused b st piece e))
          (lowest (PieceApplies b st) (Some UnsoundBook)
          (not_taken (λ t. true≢false (sym (takes_taken b st t) ∙ e)), nothing_first (PieceApplies b st)))

  pub piece_keeps : result_number (feed_of b st piece) ≢ done
      → (feed_of b st piece ≡ Err UnsoundBook) × ((given_or st (feed_of b st piece) ≡ st) × (feed_spare b st piece ≡ b))
  piece_keeps k = on (taken b st) refl
    where
      on : (t : Bool) → taken b st ≡ t
          → (feed_of b st piece ≡ Err UnsoundBook) × ((given_or st (feed_of b st piece) ≡ st) × (feed_spare b st piece ≡ b))
      on true e = absurd (k (ap result_number (feed_taken b st piece e)))
      on false e = let q = feed_refused b st piece e in (q, (ap (given_or st) q, spare_refused b st piece e))

-- ---- the end

module _ (b : Book) (st : Reader) (c : Book) where
  end_below : (n : ℕ) → Usable b st c → (number_of MalformedCard < n → Ended st) → (number_of NoRoomForRows < n → st.rows ≤ length c.ids)
      → NothingBelow (FinishApplies b st c) n
  end_below n u f g q l (not_usable h) = h u
  end_below n u f g q l (not_ended h) = h (f l)
  end_below n u f g q l (more_read h) = let m = g l in omega arith

  pub end_number : Lowest (FinishApplies b st c) (result_number (finish_of b st c))
  end_number = on (finish_case b st c)
    where
      on : {a : Result ℕ Refusal} {after : Book} → FinishCase b st c a after → Lowest (FinishApplies b st c) (result_number a)
      on (unsound h) = lowest (FinishApplies b st c) (Some UnsoundBook) (not_usable h, nothing_first (FinishApplies b st c))
      on (unended u e) =
          lowest (FinishApplies b st c) (Some MalformedCard)
          (not_ended (λ h. true≢false (sym ((ended_says st).1 h) ∙ e)), end_below 15 u (λ l. absurd (omega arith)) (λ l. absurd (omega arith)))
      on (no_room_lem u e h) =
          lowest (FinishApplies b st c) (Some NoRoomForRows) (more_read h, end_below 17 u (λ l. (ended_says st).0 e) (λ l. absurd (omega arith)))
      on (finished u e h) =
          lowest (FinishApplies b st c) None (nothing_below_any (FinishApplies b st c) (λ n. end_below n u (λ l. (ended_says st).0 e) (λ l. h)))

  pub end_keeps : result_number (finish_of b st c) ≢ done → finish_book b st c ≡ c
  end_keeps = on (finish_case b st c)
    where
      on : {a : Result ℕ Refusal} {after : Book} → FinishCase b st c a after → result_number a ≢ done → after ≡ c
      on (unsound h) k = refl
      on (unended u e) k = refl
      on (no_room_lem u e h) k = refl
      on (finished u e h) k = absurd (k refl)
