-- Demand 1 of the seal: at each end the number applies and no lower one does.
use mathlib.Core.Path.{◌≡◌, refl, sym, ap, ◌∙◌}
use mathlib.Core.Logic.{◌≢◌}
use mathlib.Core.List.{List}
use Rattle.std.proofs.lemmas.Option.{none-some, same_Some}
use Prim.Native.Nat.{ℕ, ◌<◌}
use native.Mathlib.Omega.{arith}
use lib.ListN.{get_or}
use Rattle.refusal.specs.Number.{number_of, done}
use Rattle.refusal.specs.Lowest.{NothingBelow, Lowest}
use Rattle.refusal.specs.declared.Refusal.TheVariants.{UnsoundBook, UnknownSecret, CounterSpent}
use Rattle.refusal.proofs.Lowest.{nothing_first, nothing_below_any, lowest}
use Rattle.octets.specs.Bytes.{Bytes}
use Rattle.dhcp_message.specs.Numbers.{Applies}
use Rattle.dhcp_message.specs.Said.{form_of}
use Rattle.dhcp_message.specs.declared.Auth.{Auth}
use Rattle.dhcp_message.proofs.Lowest.{applies_within, lowest_given}
use Rattle.key_book.specs.Book.{Book, Sound, row_of}
use Rattle.key_book.specs.Laws.{NoRow}
use Rattle.key_book.proofs.Says.{row_says}
use Rattle.delayed_auth.specs.Seal.{Outcome, sealed, unsealed, counter_most, seal_of, message_after, sent_after, outcome_number}
use Rattle.demands.specs.Demand1.{SealApplies, spent}
use Rattle.demands.proofs.Stages.{SealEnd, seal_unsound, seal_refused, seal_unknown, seal_spent, seal_seals, seal_end}
use Rattle.std.specs.Prelude.{None, Ok, Some}

module _ (b : Book) (id : ℕ) (m : List ℕ) where
  -- what lies below a number, on a sound book
  seal_below : (n : ℕ) → Sound b → NothingBelow (Applies m) n → (number_of UnknownSecret < n → NoRow b id → ⊥)
      → (number_of CounterSpent < n → (k : ℕ) → row_of b id ≡ Some k → get_or b.sent k 0 ≡ counter_most → ⊥) → NothingBelow (SealApplies b id m) n
  seal_below n s f u w q l (SealApplies.not_sound h) = h s
  seal_below n s f u w q l (SealApplies.by_form a) = f q l a
  seal_below n s f u w q l (SealApplies.no_row h) = u l h
  seal_below n s f u w q l (spent k e h) = w l k e h

  module _ (bytes : Bytes m) where
    -- in full form, with a row
    row_below : (n : ℕ) (a : Auth) (k : ℕ) → Sound b → form_of m ≡ Ok a → row_of b id ≡ Some k
        → (number_of CounterSpent < n → get_or b.sent k 0 ≢ counter_most) → NothingBelow (SealApplies b id m) n
    row_below n a k s e f h =
        seal_below n s (λ q l. (lowest_given.full m bytes).0 (a, e) q) (λ l g. none-some k (sym ((row_says.no_row b id).1 g) ∙ f))
        (λ l j g i. h l (ap (λ (x : ℕ). get_or b.sent x 0) (same_Some _ _ (sym f ∙ g)) ∙ i))

    seal_lowest : (o : Outcome) → SealEnd b id m o → Lowest (SealApplies b id m) (outcome_number o)
    seal_lowest o (seal_unsound h) = lowest (SealApplies b id m) (Some UnsoundBook) (SealApplies.not_sound h, nothing_first (SealApplies b id m))
    seal_lowest o (seal_refused {r} s e) =
        let w = (lowest_given.refused m bytes r).0 e in
        let within = applies_within m r w.0 in
        lowest (SealApplies b id m) (Some r)
        (SealApplies.by_form w.0, seal_below (number_of r) s w.1 (λ l. absurd (omega arith)) (λ l. absurd (omega arith)))
    seal_lowest o (seal_unknown a s e f) =
        lowest (SealApplies b id m) (Some UnknownSecret) (
          SealApplies.no_row ((row_says.no_row b id).0 f),
          seal_below 10 s (λ q l. (lowest_given.full m bytes).0 (a, e) q) (λ l. absurd (omega arith)) (λ l. absurd (omega arith)),
        )
    seal_lowest o (seal_spent a k s e f h) =
        lowest (SealApplies b id m) (Some CounterSpent) (spent k f h, row_below 13 a k s e f (λ l. absurd (omega arith)))
    seal_lowest o (seal_seals {k} s w) =
        lowest (SealApplies b id m) None
        (nothing_below_any (SealApplies b id m) (λ n. row_below n w.auth k s w.form w.secret (λ l. w.unspent)))

    pub seal_number : Lowest (SealApplies b id m) (outcome_number (seal_of b id m))
    seal_number = seal_lowest (seal_of b id m) (seal_end b id m)

-- what a refusal leaves
pub seal_keeps : (o : Outcome) (m sent : List ℕ) → outcome_number o ≢ done → (message_after o m ≡ m) × (sent_after o sent ≡ sent)
seal_keeps (sealed k c n) m sent h = absurd (h refl)
seal_keeps (unsealed r) m sent h = (refl, refl)
