-- The covered image: what `cover` writes for a message in full form is its image. Taking out option 82 moves option 90 where that stands behind it;
-- `Stands` says where to, for either order.
use mathlib.Core.Path.{◌≡◌, refl, sym, ap, ap₂, ◌∙◌}
use mathlib.Core.Logic.{inl, inr}
use Prim.Native.Nat.{ℕ, zero, suc, ◌+◌, ◌-◌, ◌≤◌}
use native.Mathlib.Nat.{add-zero}
use native.Mathlib.Omega.{arith}
use mathlib.Core.List.{List, ◌∷◌, ◌++◌, append_assoc}
use lib.ListN.{length, take, drop, length-append, take-append-drop}
use lib.Seq.{take_at, drop_at, drop-append-add}
use Rattle.octets.specs.Bytes.{written, zeros}
use Rattle.octets.proofs.Written.{length_written}
use Rattle.dhcp_message.specs.Options.{Token, opt, encode}
use Rattle.dhcp_message.specs.Message.{count, option_of, tokens_before, offset_of}
use Rattle.dhcp_message.specs.Image.{without, mac_zero, head_zero, image_of, image_at, cover_bytes, cover_size, cover_left}
use Rattle.dhcp_message.specs.declared.Auth.{Auth}
use Rattle.dhcp_message.proofs.Tokens.{Split, split, encode_append, count_append, option_none, before_none, before_behind}
use Rattle.dhcp_message.proofs.Tokens.{auth_not_relay, without_none, without_append, without_at, count_without}
use Rattle.dhcp_message.proofs.Tokens.{zero_append, zero_none, written_body, option_there, before_there, option_at, before_at, none_back}
use Rattle.dhcp_message.proofs.Passing.{Passing, whole, header_size_lem, image_passed, around, front_size, inside}
use Rattle.dhcp_message.proofs.FullForms.{Fully, parts, at_is, cut_is, gap_is, body_long, option_inside}
use Rattle.dhcp_message.proofs.Headers.{head_left, head_length}
use Rattle.dhcp_message.proofs.Covers.{Apart, Fits, image_before, image_behind, cover_bytes_lem, cover_length, cover_fitting}
use Rattle.std.specs.Prelude.{Some}

-- ---- option 82 taken out of the bytes

module _ {m : List ℕ} {ts : List Token} {rest : List ℕ} (p : Passing m ts rest) where
  abbrev pub bytes : List Token → List ℕ
  bytes us = take 240 m ++ (encode us ++ (255 ∷ rest))

  abbrev pub cut : ℕ
  cut = offset_of 82 ts

  abbrev pub gap : ℕ
  gap = length (option_of 82 ts)

  abbrev pub Cuts : Type 0
  Cuts = (cut + gap ≤ length m) × (take cut m ++ drop (cut + gap) m ≡ bytes (without 82 ts))

  cuts_none : count 82 ts ≡ 0 → Cuts
  cuts_none z =
      let n : gap ≡ 0 = ap length (option_none 82 ts z) in
      let k : cut + gap ≡ cut = ap (λ (n : ℕ). cut + n) n ∙ add-zero cut in
      let b = ap (λ (us : List Token). length (encode us)) (before_none 82 ts z) in
      let l = ap length (whole p) in (
        omega (arith, header_size_lem p, simp length-append at l),
        ap (λ (k : ℕ). take cut m ++ drop k m) k ∙ take-append-drop cut m ∙ whole p ∙ ap bytes (sym (without_none 82 ts z)),
      )

  cuts_one : Split 82 ts → Cuts
  cuts_one s =
      let pre = take 240 m ++ encode s.front in
      let post = encode s.back ++ (255 ∷ rest) in
      let x = option_of 82 ts in
      let ar : m ≡ pre ++ (x ++ post) = around p s ∙ ap (λ (x : List ℕ). pre ++ (x ++ post)) (sym (option_at s)) in
      let lp : length pre ≡ cut = front_size p s in
      let i = inside p s in
      let t : take cut m ≡ pre = ap (take cut) ar ∙ take_at pre _ cut lp in
      let d : drop (cut + length x) m ≡ post =
      ap₂ (λ (n : ℕ) (l : List ℕ). drop (n + length x) l) (sym lp) ar ∙ drop-append-add pre (x ++ post) (length x) ∙ drop_at x post (length x) refl in (
        omega arith,
        ap₂ (λ (a b : List ℕ). a ++ b) t d ∙ simp (encode_append, append_assoc) refl ∙ ap bytes (sym (without_at 82 s p.most_82)),
      )

  pub cuts : Cuts
  cuts = by (count 82 ts) refl
    where
      by : (n : ℕ) → count 82 ts ≡ n → Cuts
      by zero z = cuts_none z
      by (suc n) z = cuts_one (split 82 ts (omega arith))

-- ---- of a message in full form

module _ {m : List ℕ} {a : Auth} (y : Fully m a) where
  abbrev front : List Token
  front = without 82 (parts y).front

  abbrev body : List ℕ
  body = (parts y).body

  abbrev back : List Token
  back = without 82 (parts y).back

  abbrev left : List ℕ
  left = take a.cut m ++ drop (a.cut + a.gap) m

  left_is : without 82 y.tokens ≡ front ++ (opt 90 body ∷ back)
  left_is = ap (without 82) (parts y).tokens ∙ without_append 82 (parts y).front (opt 90 body ∷ (parts y).back)

  zero_is : mac_zero (without 82 y.tokens) ≡ front ++ (opt 90 (written 15 (zeros 16) body) ∷ back)
  zero_is =
      let cf : count 90 front ≡ 0 = count_without 82 90 auth_not_relay (parts y).front ∙ (parts y).none_front in
      let cb : count 90 back ≡ 0 = count_without 82 90 auth_not_relay (parts y).back ∙ none_back (parts y) (omega (arith, y.passing.one_90)) in
      ap mac_zero left_is ∙ zero_append front (opt 90 body ∷ back)
      ∙ ap₂ (λ (us vs : List Token). us ++ (opt 90 (written 15 (zeros 16) body) ∷ vs)) (zero_none front cf) (zero_none back cb)

  -- the bytes of header, these tokens with a body of option 90, and the rest
  abbrev around_body : List ℕ → List ℕ → List ℕ
  around_body h b = (h ++ encode front) ++ (90 ∷ length b ∷ (b ++ (encode back ++ (255 ∷ y.rest))))

  spread : (h b : List ℕ) → h ++ (encode (front ++ (opt 90 b ∷ back)) ++ (255 ∷ y.rest)) ≡ around_body h b
  spread h b = simp (encode_append, append_assoc)

  -- what is left without option 82
  left_bytes : left ≡ around_body (take 240 m) body
  left_bytes =
      ap₂ (λ (c g : ℕ). take c m ++ drop (c + g) m) (cut_is y) (gap_is y) ∙ (cuts y.passing).1
      ∙ ap (λ (us : List Token). take 240 m ++ (encode us ++ (255 ∷ y.rest))) left_is ∙ spread (take 240 m) body

  pub stretch_inside : a.cut + a.gap ≤ length m
  stretch_inside = omega (arith, cut_is y, gap_is y, (cuts y.passing).0)

  -- where tokens end that begin behind the header
  abbrev until : List Token → ℕ
  until us = 240 + length (encode us)

  -- option 82 and option 90 don't overlap, and without option 82 option 90 stands at `image_at`
  record Stands : Type 0 where
    pub apart : Apart a
    pub in_image : 240 + length (encode front) ≡ image_at a

  abbrev before_90 : List Token
  before_90 = (parts y).front

  at_front : a.at ≡ 240 + length (encode before_90)
  at_front = at_is y ∙ ap until (before_at (parts y))

  -- no option 82 before option 90
  stands_late : count 82 before_90 ≡ 0 → Stands
  stands_late z =
      let e = ap (tokens_before 82) (parts y).tokens ∙ before_behind 82 (opt 90 body ∷ (parts y).back) before_90 z in
      let n = cut_is y ∙ ap until e in
      let l : a.at + 33 ≤ a.cut = omega (arith, at_front, body_long y, simp (encode_append, length-append) at n) in
      let f = ap until (without_none 82 before_90 z) in
      record { apart = inl l; in_image = f ∙ sym at_front ∙ image_before a (omega arith) }

  stands_early : Split 82 before_90 → Stands
  stands_early s =
      let behind = s.back ++ (opt 90 body ∷ (parts y).back) in
      let e : y.tokens ≡ s.front ++ (opt 82 s.body ∷ behind) =
      (parts y).tokens ∙ ap (λ (us : List Token). us ++ (opt 90 body ∷ (parts y).back)) s.tokens
      ∙ append_assoc s.front (opt 82 s.body ∷ s.back) (opt 90 body ∷ (parts y).back) in
      let cut : a.cut ≡ 240 + length (encode s.front) =
      cut_is y ∙ ap until (ap (tokens_before 82) e ∙ before_there 82 s.front s.body behind s.none_front) in
      let gap : a.gap ≡ 2 + length s.body =
      gap_is y ∙ ap length (ap (option_of 82) e ∙ option_there 82 s.front s.body behind s.none_front) ∙ omega arith in
      let e-at = at_front ∙ ap until s.tokens in
      let at = simp (encode_append, length-append) at e-at in
      let l : a.cut + a.gap ≤ a.at = omega arith in
      let c = ap (count 82) (parts y).tokens ∙ count_append 82 before_90 (opt 90 body ∷ (parts y).back) in
      let n : count 82 before_90 ≤ 1 = omega (arith, y.passing.most_82) in
      let w = ap until (without_at 82 s n) in
      let f = simp (encode_append, length-append) at w in
      record { apart = inr l; in_image = omega (arith, image_behind a (omega arith)) }

  stands : Stands
  stands = by (count 82 before_90) refl
    where
      by : (n : ℕ) → count 82 before_90 ≡ n → Stands
      by zero z = stands_late z
      by (suc n) z = stands_early (split 82 before_90 (omega arith))

  fits_full : (room : ℕ) → length m ≤ room → Fits (length m) room a
  fits_full room h = record { stretch = stretch_inside; fits_room = omega arith; inside = option_inside y; apart = stands.apart }

  -- the image, from the bytes
  pub image_is : cover_bytes m a ≡ image_of m
  image_is =
      let h = take 240 m in
      let h0 = head_zero h in
      let b0 = written 15 (zeros 16) body in
      let h28 : 28 ≤ length h = omega (arith, header_size_lem y.passing) in
      let lb : 15 + length (zeros 16) ≤ length body = omega (arith, body_long y) in
      let lpre : length (h0 ++ encode front) ≡ image_at a =
      length-append h0 (encode front)
      ∙ ap (λ (n : ℕ). n + length (encode front)) (head_length (zeros 1) (zeros 4) refl refl h h28 ∙ header_size_lem y.passing)
      ∙ stands.in_image in
      cover_bytes_lem m m a (fits_full (length m) (omega arith))
      ∙ ap (λ (x : List ℕ). written (image_at a + 17) (zeros 16) (head_zero x)) (left_bytes ∙ sym (spread h body))
      ∙ ap (written (image_at a + 17) (zeros 16)) (head_left (zeros 1) (zeros 4) refl refl h h28 _ ∙ spread h0 body)
      ∙ written_body (image_at a) 15 90 (length body) (zeros 16) (h0 ++ encode front) body _ lpre lb
      ∙ ap (λ (n : ℕ). (h0 ++ encode front) ++ (90 ∷ n ∷ (b0 ++ (encode back ++ (255 ∷ y.rest))))) (sym (length_written 15 (zeros 16) body lb))
      ∙ sym (spread h0 b0)
      ∙ ap (λ (us : List Token). h0 ++ (encode us ++ (255 ∷ y.rest))) (sym zero_is)
      ∙ sym (image_passed y.passing)

  pub image_length : length (image_of m) ≡ length m - a.gap
  image_length = ap length (sym image_is) ∙ cover_length m m a (fits_full (length m) (omega arith))

  pub covers_full : (out : List ℕ) → length m ≤ length out
      → (cover_size m a out ≡ Some (length (image_of m))) × (cover_left m a out ≡ image_of m ++ drop (length (image_of m)) out)
  covers_full out h =
      let c = cover_fitting m out a (fits_full (length out) h) in
      (c.0 ∙ ap Some (sym image_length), c.1 ∙ ap₂ (λ (x : List ℕ) (n : ℕ). x ++ drop n out) image_is (sym image_length))
