-- How a refusal is shown to be the first that applies in an order: an answer is right if it names what applies with nothing that stands before it
-- applying, or nothing applies at all. Each refusal has one place in the order.
use Prim.Native.Nat.{ℕ, zero, suc, ◌+◌, ◌≤◌}
use native.Mathlib.Nat.{add-zero}
use native.Mathlib.Decide.{dec_lt}
use native.Mathlib.Omega.{arith}
use mathlib.Core.Path.{◌≡◌, refl, sym, ap, ◌∙◌}
use mathlib.Core.List.{List, [], ◌∷◌}
use Rattle.std.proofs.lemmas.Option.{same_Some, none-some}
use Rattle.refusal.specs.declared.Refusal.{Refusal}
use Rattle.refusal.specs.Number.{number_of, done}
use Rattle.refusal.specs.First.{NothingBefore, First}
use Rattle.refusal.proofs.Names.{numbers_tell}
use Rattle.refusal.proofs.Lowest.{number_by}
use Rattle.std.specs.Prelude.{None, Option, Some, slice_get}

-- the places of an order: each member of a list stands at its place, counted from n
module _ {F : Type 0} (place_of : F → ℕ) where
  abbrev pub InPlace : ℕ → List F → Type 0
  InPlace n [] = Unit {0}
  InPlace n (q ∷ l) = (n ≡ place_of q) × InPlace (suc n) l

  pub in_place : (n : ℕ) (l : List F) → InPlace n l → (i : ℕ) (f : F) → slice_get l i ≡ Some f → n + i ≡ place_of f
  in_place n [] h i f e = absurd (none-some f e)
  in_place n (q ∷ l) h zero f e = add-zero n ∙ h.0 ∙ ap place_of (same_Some q f e)
  in_place n (q ∷ l) h (suc i) f e = let z = in_place (suc n) l h.1 i f e in omega arith

module _
    (order : List Refusal) (A : Refusal → Type 0) (place_of : Refusal → ℕ)
    (place_at : (i : ℕ) (r : Refusal) → slice_get order i ≡ Some r → i ≡ place_of r)
    (placed : (r : Refusal) → A r → (i : ℕ) × (slice_get order i ≡ Some r))
  where
    abbrev pub RightIn : Option Refusal → Type 0
    RightIn None = (r : Refusal) → A r → ⊥
    RightIn (Some r) = A r × ((q : Refusal) → A q → place_of r ≤ place_of q)

    module _ (i : ℕ) (r : Refusal) (at : slice_get order i ≡ Some r) where
      -- what has a place before that of the answer doesn't apply
      none_before : ((q : Refusal) → A q → place_of r ≤ place_of q) → NothingBefore order A i
      none_before h j q l e a = omega (arith, h q a, place_at i r at, place_at j q e)

      refused_to : (o : Option Refusal) → RightIn o → number_by o ≡ number_of r → A r × NothingBefore order A i
      refused_to None h e = absurd (omega (arith, e, numbers_tell.not_done r))
      refused_to (Some q) h e = let w = rw (numbers_tell.apart q r e) at h in (w.0, none_before w.1)

      refused_from : (o : Option Refusal) → RightIn o → A r × NothingBefore order A i → number_by o ≡ number_of r
      refused_from None h a = absurd (h r a.0)
      refused_from (Some q) h a =
          let p = placed q h.0 in
          elim (dec_lt p.0 i) [
            | yes l ↦ absurd (a.1 p.0 q l p.1 h.0)
            | no l ↦
                let here : p.0 ≡ i = omega (arith, h.1 r a.0, place_at i r at, place_at p.0 q p.1) in
                ap number_of (same_Some q r (sym p.1 ∙ ap (slice_get order) here ∙ at))
          ]

    done_to : (o : Option Refusal) → RightIn o → number_by o ≡ done → (r : Refusal) → A r → ⊥
    done_to None h e = h
    done_to (Some q) h e = absurd (omega (arith, e, numbers_tell.not_done q))

    done_from : (o : Option Refusal) → RightIn o → ((r : Refusal) → A r → ⊥) → number_by o ≡ done
    done_from None h f = refl
    done_from (Some q) h f = absurd (f q h.0)

    pub first : (o : Option Refusal) → RightIn o → First order A (number_by o)
    first o h = record {
      refused = λ i r at. (refused_to i r at o h, refused_from i r at o h);
      none_applies = (done_to o h, done_from o h);
      placed = placed;
    }
