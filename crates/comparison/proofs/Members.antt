-- Laws of what stands in a list: in front, behind, in either of two lists that were appended.
use mathlib.Core.Path.{◌≡◌, refl, sym, ap, ◌∙◌}
use mathlib.Core.Logic.{◌⊎◌, inl, inr, ⊎_elim}
use mathlib.Core.List.{List, [], ◌∷◌, ◌++◌, append_assoc, nil≢cons, head-eq_of_cons-eq, tail-eq_of_cons-eq}
use Rattle.comparison.specs.Laws.{Among}

module _ {A : Type 0} where
  pub among_here : (x : A) (xs : List A) → Among x (x ∷ xs)
  among_here x xs = record { front = []; back = xs; splits = refl }

  pub among_left : {x : A} (xs ys : List A) → Among x xs → Among x (xs ++ ys)
  among_left {x} xs ys h = record {
    front = h.front;
    back = h.back ++ ys;
    splits = ap (λ (l : List A). l ++ ys) h.splits ∙ append_assoc h.front (x ∷ h.back) ys;
  }

  pub among_right : {x : A} (xs ys : List A) → Among x ys → Among x (xs ++ ys)
  among_right {x} xs ys h = record {
    front = xs ++ h.front;
    back = h.back;
    splits = ap (λ (l : List A). xs ++ l) h.splits ∙ sym (append_assoc xs h.front (x ∷ h.back));
  }

  pub among_none : {x : A} → Among x [] → ⊥
  among_none {x} h = by h.front h.splits
    where
      by : (front : List A) → [] ≡ front ++ (x ∷ h.back) → ⊥
      by [] e = nil≢cons e
      by (y ∷ front) e = nil≢cons e

  among_cons : {x y : A} {xs : List A} → Among x (y ∷ xs) → (x ≡ y) ⊎ Among x xs
  among_cons {x} {y} {xs} h = by h.front h.splits
    where
      by : (front : List A) → y ∷ xs ≡ front ++ (x ∷ h.back) → (x ≡ y) ⊎ Among x xs
      by [] e = inl (sym (head-eq_of_cons-eq e))
      by (z ∷ front) e = inr (record { front = front; back = h.back; splits = tail-eq_of_cons-eq e })

  pub among_one : {x y : A} → Among x (y ∷ []) → x ≡ y
  among_one h = ⊎_elim (λ e. e) (λ k. absurd (among_none k)) (among_cons h)

  pub among_append : {x : A} (xs : List A) {ys : List A} → Among x (xs ++ ys) → Among x xs ⊎ Among x ys
  among_append [] h = inr h
  among_append {x} (y ∷ xs) {ys} h = ⊎_elim first (λ k. behind (among_append xs k)) (among_cons h)
    where
      first : x ≡ y → Among x (y ∷ xs) ⊎ Among x ys
      first e = inl (record { front = []; back = xs; splits = ap (λ (z : A). z ∷ xs) (sym e) })

      behind : Among x xs ⊎ Among x ys → Among x (y ∷ xs) ⊎ Among x ys
      behind (inl k) = inl (among_right (y ∷ []) xs k)
      behind (inr k) = inr k

  -- a list in which nothing stands
  pub among_empty : (xs : List A) → ((x : A) → Among x xs → ⊥) → xs ≡ []
  among_empty [] h = refl
  among_empty (x ∷ xs) h = absurd (h x (among_here x xs))
