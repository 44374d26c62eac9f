-- What `cover` writes, for any offsets and any room: by its tests, and by its two copies and the zeros.
use mathlib.Core.Path.{◌≡◌, refl, sym, ap, ap₂, ◌∙◌}
use Prim.Native.Nat.{ℕ, ◌+◌, ◌-◌, ◌≤◌, ◌<◌}
use native.Mathlib.Nat.{zero-add}
use native.Mathlib.Omega.{arith}
use mathlib.Core.Bool.{Bool, true, false, not, ◌||◌, or-true}
use mathlib.Core.Logic.{◌⊎◌, inl, inr, ⊎_map, ⊎_elim}
use mathlib.Core.List.{List, ◌++◌}
use lib.ListN.{length, take, drop, length-append, length-drop}
use lib.Seq.{length-take-le, take_all}
use lib.Dec.{leb}
use borrow.Author.Tests.{le-leb, lt-ltb, le-ltb, leb-true, not-true, not-false}
use Rattle.octets.specs.Bytes.{written, zeros}
use Rattle.octets.proofs.Written.{length_written, written_left, written_join, written_front}
use Rattle.octets.proofs.Starts.{and_true}
use Rattle.dhcp_message.specs.Image.{head_zero, cover_fits, image_at, cover_bytes, cover_size, cover_left}
use Rattle.dhcp_message.specs.Seal.{with_fields}
use Rattle.dhcp_message.specs.declared.Auth.{Auth}
use Rattle.dhcp_message.proofs.Headers.{head_left, head_length}
use Rattle.std.specs.Prelude.{None, Some}

-- ---- the test

-- option 90 lies wholly before the stretch or behind its end
abbrev pub Apart : Auth → Type 0
Apart a = (a.at + 33 ≤ a.cut) ⊎ (a.cut + a.gap ≤ a.at)

-- what the test means
pub record Fits (size room : ℕ) (a : Auth) : Type 0 where
  pub stretch : a.cut + a.gap ≤ size
  pub fits_room : size - a.gap ≤ room
  pub inside : a.at + 33 ≤ size
  pub apart : Apart a

either : (x y : Bool) → (x || y) ≡ true → (x ≡ true) ⊎ (y ≡ true)
either true y h = inl refl
either false y h = inr h

module _ (size room : ℕ) (a : Auth) where
  fits_true : cover_fits size room a ≡ true → Fits size room a
  unfolding cover_fits
  fits_true h =
      let h₁ = and_true (leb (a.cut + a.gap) size) _ h in
      let h₂ = and_true (leb (size - a.gap) room) _ h₁.1 in
      let h₃ = and_true (leb (a.at + 33) size) _ h₂.1 in
      record {
        stretch = leb-true _ _ h₁.0;
        fits_room = leb-true _ _ h₂.0;
        inside = leb-true _ _ h₃.0;
        apart = ⊎_map (leb-true _ _) (leb-true _ _) (either (leb (a.at + 33) a.cut) _ h₃.1);
      }

  fits_all : Fits size room a → cover_fits size room a ≡ true
  unfolding cover_fits
  fits_all f = rw (le-leb _ _ f.stretch, le-leb _ _ f.fits_room, le-leb _ _ f.inside) (by f.apart)
    where
      by : Apart a → (leb (a.at + 33) a.cut || leb (a.cut + a.gap) a.at) ≡ true
      by (inl h) = rw (le-leb _ _ h)
      by (inr h) = rw (le-leb _ _ h) (or-true (leb (a.at + 33) a.cut))

  -- by what `covers` returned
  pub fits_given : (r : Bool) → r ≡ cover_fits size room a → not r ≡ false → Fits size room a
  fits_given r e h = fits_true (sym e ∙ not-false r h)

  pub fits_not : (r : Bool) → r ≡ cover_fits size room a → not r ≡ true → cover_fits size room a ≡ false
  fits_not r e h = sym e ∙ not-true r h

-- ---- the place of option 90 in the image

module _ (a : Auth) where
  pub image_before : a.at < a.cut → a.at ≡ image_at a
  unfolding image_at
  image_before h = rw (lt-ltb _ _ h)

  pub image_behind : a.cut ≤ a.at → a.at - a.gap ≡ image_at a
  unfolding image_at
  image_behind h = rw (le-ltb _ _ h)

-- what is subtracted in the second case
pub gap_before : (size room : ℕ) (a : Auth) → Fits size room a → a.cut ≤ a.at → a.gap ≤ a.at
gap_before size room a f h = ⊎_elim (λ l. absurd (omega arith)) (λ l. omega arith) f.apart

-- ---- the writes

-- the parts that are copied, before and behind the stretch
pub record PartSizes (m : List ℕ) (a : Auth) : Type 0 where
  pub first : length (take a.cut m) ≡ a.cut
  pub second : length (take (length m - (a.cut + a.gap)) (drop (a.cut + a.gap) m)) ≡ length m - (a.cut + a.gap)

module _ (m d : List ℕ) (a : Auth) (f : Fits (length m) (length d) a) where
  abbrev left : List ℕ
  left = take a.cut m ++ drop (a.cut + a.gap) m

  pub part_sizes : PartSizes m a
  part_sizes =
      let n = length-drop (a.cut + a.gap) m in
      record {
        first = length-take-le a.cut m (omega (arith, f.stretch));
        second = length-take-le (length m - (a.cut + a.gap)) (drop (a.cut + a.gap) m) (omega arith);
      }

  left_size : length left ≡ length m - a.gap
  left_size =
      length-append (take a.cut m) (drop (a.cut + a.gap) m)
      ∙ ap₂ (λ (x y : ℕ). x + y) part_sizes.first (length-drop (a.cut + a.gap) m) ∙ omega (arith, f.stretch)

  -- option 90 is whole in what is left
  pub fields_there : image_at a + 33 ≤ length m - a.gap
  fields_there = by f.apart
    where
      by : Apart a → image_at a + 33 ≤ length m - a.gap
      by (inl h) = omega (arith, image_before a (omega arith), f.stretch)
      by (inr h) = omega (arith, image_behind a (omega arith), f.inside)

  left_28 : 28 ≤ length left
  left_28 = omega (arith, left_size, fields_there)

  head_size : length (head_zero left) ≡ length left
  head_size = head_length (zeros 1) (zeros 4) refl refl left left_28

  mac_fits : image_at a + 17 + length (zeros 16) ≤ length (head_zero left)
  mac_fits = omega (arith, head_size, left_size, fields_there)

  -- what is written in front, and its size
  pub cover_bytes_lem : cover_bytes m a ≡ written (image_at a + 17) (zeros 16) (head_zero left)
  unfolding cover_bytes
  cover_bytes_lem = refl

  pub cover_length : length (cover_bytes m a) ≡ length m - a.gap
  cover_length = ap length cover_bytes_lem ∙ length_written (image_at a + 17) (zeros 16) (head_zero left) mac_fits ∙ head_size ∙ left_size

  -- what is returned, and what is left, where all fits
  pub cover_fitting : (cover_size m a d ≡ Some (length m - a.gap)) × (cover_left m a d ≡ cover_bytes m a ++ drop (length m - a.gap) d)
  unfolding cover_size cover_left
  cover_fitting = let t = fits_all (length m) (length d) a f in (rw t, rw t)

  -- the writes into a buffer: two copies, then the zeros
  copies : (d₁ d₂ : List ℕ) → d₁ ≡ written 0 (take a.cut m) d
      → d₂ ≡ written a.cut (take (length m - (a.cut + a.gap)) (drop (a.cut + a.gap) m)) d₁ → d₂ ≡ left ++ drop (length m - a.gap) d
  copies d₁ d₂ e₁ e₂ =
      let n = length-drop (a.cut + a.gap) m in
      e₂ ∙ ap₂ (λ (x y : List ℕ). written a.cut x y) (take_all (length m - (a.cut + a.gap)) (drop (a.cut + a.gap) m) (omega arith)) e₁
      ∙ written_join 0 a.cut (take a.cut m) (drop (a.cut + a.gap) m) d (zero-add _ ∙ part_sizes.first) (omega (arith, f.stretch, f.fits_room))
      ∙ written_front left d ∙ ap (λ (n : ℕ). left ++ drop n d) left_size

  pub covered : (at : ℕ) (d₁ d₂ d₃ : List ℕ) → at ≡ image_at a → d₁ ≡ written 0 (take a.cut m) d
      → d₂ ≡ written a.cut (take (length m - (a.cut + a.gap)) (drop (a.cut + a.gap) m)) d₁
      → d₃ ≡ written (at + 17) (zeros 16) (head_zero d₂) → (Some (length m - a.gap) ≡ cover_size m a d) × (d₃ ≡ cover_left m a d)
  covered at d₁ d₂ d₃ e₀ e₁ e₂ e₃ =
      let tail = drop (length m - a.gap) d in (
        sym cover_fitting.0,
        e₃ ∙ ap (λ (n : ℕ). written (n + 17) (zeros 16) (head_zero d₂)) e₀
            ∙ ap (written (image_at a + 17) (zeros 16)) (ap head_zero (copies d₁ d₂ e₁ e₂) ∙ head_left (zeros 1) (zeros 4) refl refl left left_28 tail)
            ∙ written_left (image_at a + 17) (zeros 16) (head_zero left) tail mac_fits
            ∙ ap (λ (x : List ℕ). x ++ tail) (sym cover_bytes_lem) ∙ sym cover_fitting.1,
      )

-- where the offsets or the room don't fit, nothing is written
pub covered_not : (m d : List ℕ) (a : Auth) → cover_fits (length m) (length d) a ≡ false → (None ≡ cover_size m a d) × (d ≡ cover_left m a d)
unfolding cover_size cover_left
covered_not m d a h = (rw h, rw h)

-- `cover` goes by the offsets alone
pub covers_offsets : (m : List ℕ) (a : Auth) (counter id : ℕ) (out : List ℕ)
    → (cover_size m (with_fields a counter id) out ≡ cover_size m a out) × (cover_left m (with_fields a counter id) out ≡ cover_left m a out)
unfolding cover_size cover_left cover_bytes cover_fits image_at
covers_offsets m a counter id out = (refl, refl)
