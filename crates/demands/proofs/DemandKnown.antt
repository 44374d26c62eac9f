-- Demand 1 of whether an id is known, by the three answers (key_book, `KnownSays`).
use mathlib.Core.Path.{◌≡◌, refl}
use mathlib.Core.List.{List}
use Prim.Native.Nat.{ℕ, ◌<◌}
use native.Mathlib.Decide.{dec_le}
use native.Mathlib.Omega.{arith}
use lib.ListN.{length}
use Rattle.refusal.specs.Number.{number_of}
use Rattle.refusal.specs.Lowest.{NothingBelow, Lowest}
use Rattle.refusal.specs.declared.Refusal.TheVariants.{UnsoundBook, UnknownSecret}
use Rattle.refusal.proofs.Lowest.{nothing_first, nothing_below_any, lowest}
use Rattle.key_book.specs.Limits.{room_most}
use Rattle.key_book.specs.Halving.{Halves, Taken, known_of, sought_number}
use Rattle.key_book.specs.declared.Sought.{Sought}
use Rattle.key_book.specs.declared.Sought.TheVariants.{Stands, Missing, Unsized}
use Rattle.key_book.proofs.Halves.{known_says, one_end}
use Rattle.demands.specs.Demand1.{KnownApplies, too_many, count_above, not_met}
use Rattle.std.specs.Prelude.{None, Some}

module _ (ids : List ℕ) (count id : ℕ) where
  -- a list that is not taken has too many ids, or fewer than are counted
  not_taken : (Taken ids count → ⊥) → KnownApplies ids count id UnsoundBook
  not_taken n = elim (dec_le (length ids) room_most) [
    | yes r ↦ elim (dec_le count (length ids)) [
      | yes c ↦ absurd (n (record { room = r; counted = c }))
      | no c ↦ count_above (omega arith)
    ]
    | no r ↦ too_many (omega arith)
  ]

  taken_below : (n : ℕ) → Taken ids count → (number_of UnknownSecret < n → (looks : ℕ) → Halves ids id 0 count None looks → ⊥)
      → NothingBelow (KnownApplies ids count id) n
  taken_below n t h q l (too_many m) = let r = t.room in omega arith
  taken_below n t h q l (count_above m) = let c = t.counted in omega arith
  taken_below n t h q l (not_met looks s) = h l looks s

  pub known_number : Lowest (KnownApplies ids count id) (sought_number (known_of ids count id))
  known_number = on (known_of ids count id) refl
    where
      on : (s : Sought) → known_of ids count id ≡ s → Lowest (KnownApplies ids count id) (sought_number s)
      on (Stands k looks) e =
          let h = (known_says.stands ids count id k looks).0 e in
          lowest (KnownApplies ids count id) None
          (nothing_below_any (KnownApplies ids count id)
          (λ n. taken_below n h.0 (λ l m s. absurd (let q = one_end ids id h.1 s in let z : ◌≡◌ {A = ℕ} 0 1 = cc in omega arith))))
      on (Missing looks) e =
          let h = (known_says.missing ids count id looks).0 e in
          lowest (KnownApplies ids count id) (Some UnknownSecret) (not_met looks h.1, taken_below 10 h.0 (λ l. absurd (omega arith)))
      on Unsized e =
          lowest (KnownApplies ids count id) (Some UnsoundBook)
          (not_taken ((known_says.unsized ids count id).0 e), nothing_first (KnownApplies ids count id))
