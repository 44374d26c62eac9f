-- A message with hops and giaddr zero and option 82 taken out, as `strip` puts it together: two parts copied, and two stretches of zeros.
use mathlib.Core.Path.{◌≡◌, refl, sym, ap, ap₂, ◌∙◌, subst}
use Prim.Native.Nat.{ℕ, ◌+◌, ◌-◌, ◌≤◌}
use native.Mathlib.Nat.{zero-add}
use native.Mathlib.Omega.{arith}
use mathlib.Core.List.{List, ◌∷◌, ◌++◌, append_assoc}
use lib.ListN.{length, take, drop, length-append, length-drop}
use lib.Seq.{length-take-le, take_all}
use Rattle.octets.specs.Bytes.{written, zeros, same_bytes}
use Rattle.octets.proofs.Written.{written_join, written_front}
use Rattle.verdict_line.specs.Line.{PutAt}
use Rattle.dhcp_message.specs.Options.{encode}
use Rattle.dhcp_message.specs.Image.{without, head_zero}
use Rattle.dhcp_message.specs.Shape.{shape_of}
use Rattle.dhcp_message.specs.declared.Places.{Places}
use Rattle.dhcp_message.proofs.Passing.{Passing, header_size_lem}
use Rattle.dhcp_message.proofs.Headers.{head_left, head_length}
use Rattle.dhcp_message.proofs.Images.{cuts}
use Rattle.comparison.specs.Difference.{Parts, parts_of, stripped, relay_only}
use Rattle.comparison.proofs.Reading.{header_parts, passing_parts, shape_passes, shape_places}
use Rattle.std.specs.Prelude.{Ok}

-- where option 82 stands in a message that passes 2 to 7, and what is left without it
pub record Cutting (m : List ℕ) (p : Places) : Type 0 where
  pub behind : 240 ≤ p.cut
  pub within : p.cut + p.gap ≤ length m
  pub first : length (take p.cut m) ≡ p.cut
  pub last : length (drop (p.cut + p.gap) m) ≡ length m - (p.cut + p.gap)
  pub left : take p.cut m ++ drop (p.cut + p.gap) m ≡ take 240 m ++ (encode (without 82 (parts_of m).tokens) ++ (255 ∷ (parts_of m).rest))

module _ (m : List ℕ) {p : Places} (e : shape_of m ≡ Ok p) where
  passes : Passing m (parts_of m).tokens (parts_of m).rest
  passes = passing_parts m (shape_passes m e)

  pub cutting : Cutting m p
  cutting =
      let k = cuts passes in
      let places = shape_places m e in
      let ec = ap (λ (q : Places). q.cut) places in
      let eg = ap (λ (q : Places). q.gap) places in
      let within : p.cut + p.gap ≤ length m = omega (arith, k.0) in
      record {
        behind = omega arith;
        within = within;
        first = length-take-le p.cut m (omega arith);
        last = length-drop (p.cut + p.gap) m;
        left = ap₂ (λ (c g : ℕ). take c m ++ drop (c + g) m) ec eg ∙ k.1;
      }

  -- the whole, from the four writes
  pub strip_put : (old : List ℕ) {d₁ d₂ d₃ d₄ : List ℕ} → length m ≤ length old → d₁ ≡ written 0 (take p.cut m) old
      → d₂ ≡ written p.cut (take (length m - (p.cut + p.gap)) (drop (p.cut + p.gap) m)) d₁ → d₃ ≡ written 3 (zeros 1) d₂
      → d₄ ≡ written 24 (zeros 4) d₃ → PutAt old 0 (stripped (parts_of m)) d₄ (length m - p.gap) × (length m - p.gap ≤ length old)
  unfolding stripped
  strip_put old {d₁} {d₂} {d₃} {d₄} room e₁ e₂ e₃ e₄ =
      let c = cutting in
      let a = take p.cut m in
      let b = drop (p.cut + p.gap) m in
      let h = take 240 m in
      let q = encode (without 82 (parts_of m).tokens) ++ (255 ∷ (parts_of m).rest) in
      let l : length (a ++ b) ≡ length m - p.gap = length-append a b ∙ omega (arith, c.first, c.last, c.within) in
      let n : length (head_zero h ++ q) ≡ length (a ++ b) =
      length-append (head_zero h) q ∙ ap (λ (n : ℕ). n + length q) (head_length (zeros 1) (zeros 4) refl refl h (omega (arith, header_size_lem passes)))
      ∙ sym (length-append h q) ∙ ap length (sym c.left) in
      let joined : d₂ ≡ written 0 (a ++ b) old =
      e₂ ∙ ap₂ (λ (x y : List ℕ). written p.cut x y) (take_all (length m - (p.cut + p.gap)) b (omega (arith, c.last))) e₁
      ∙ written_join 0 p.cut a b old (omega (arith, c.first)) (omega (arith, c.within)) in
      let spread : d₂ ≡ h ++ (q ++ drop (length (a ++ b)) old) =
      joined ∙ written_front (a ++ b) old ∙ ap (λ (x : List ℕ). x ++ drop (length (a ++ b)) old) c.left
      ∙ append_assoc h q (drop (length (a ++ b)) old) in (
        subst (λ (x : List ℕ). PutAt old 0 (head_zero x ++ q) d₄ (length m - p.gap)) (sym (header_parts m (shape_passes m e))) (record {
          place = sym (n ∙ l) ∙ sym (zero-add (length (head_zero h ++ q)));
          content =
              e₄ ∙ ap (written 24 (zeros 4)) (e₃ ∙ ap (written 3 (zeros 1)) spread)
              ∙ head_left (zeros 1) (zeros 4) refl refl h (omega (arith, header_size_lem passes)) (q ++ drop (length (a ++ b)) old)
              ∙ sym (append_assoc (head_zero h) q (drop (length (a ++ b)) old))
              ∙ ap (λ (k : ℕ). (head_zero h ++ q) ++ drop k old) (sym n)
              ∙ sym (written_front (head_zero h ++ q) old);
        }),
        omega arith,
      )

pub only_by : (a b : Parts) → same_bytes (stripped a) (stripped b) ≡ relay_only a b
unfolding relay_only
only_by a b = refl
