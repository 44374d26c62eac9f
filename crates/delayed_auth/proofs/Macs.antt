-- Laws of the MAC over the covered image, and of the one that stands in a message.
use mathlib.Core.Path.{◌≡◌, refl, sym, ap, ◌∙◌}
use mathlib.Core.Bool.{Bool}
use mathlib.Core.List.{List, ◌++◌}
use Prim.Native.Nat.{ℕ, ◌+◌, ◌-◌, ◌≤◌}
use native.Mathlib.Omega.{arith}
use lib.ListN.{length, take, drop, length-replicate}
use lib.Seq.{take_at}
use Rattle.octets.specs.Bytes.{zeros, same_bytes}
use Rattle.hmac_md5.specs.Hmac.{hmac, hmac_of, key_most}
use Rattle.hmac_md5.proofs.Masks.{hmac_taken}
use Rattle.dhcp_message.specs.Layout.{mac_at, mac_size, full_size, message_most}
use Rattle.dhcp_message.specs.Said.{form_of}
use Rattle.dhcp_message.specs.Image.{image_of, cover_size, cover_left}
use Rattle.dhcp_message.specs.declared.Auth.{Auth}
use Rattle.dhcp_message.proofs.Seals.{seal_laws, full_form}
use Rattle.std.specs.Prelude.{Ok, Option, Some}
use Rattle.std.proofs.lemmas.Option.{same_Some}

-- ---- the MAC over the covered image, which `cover` writes into zeros that have room for any message

module _ (m : List ℕ) (a : Auth) (full : form_of m ≡ Ok a) where
  abbrev zero_room : List ℕ
  zero_room = zeros message_most

  covers : (cover_size m a zero_room ≡ Some (length (image_of m))) × (cover_left m a zero_room ≡ image_of m ++ drop (length (image_of m)) zero_room)
  covers = seal_laws.covers m a zero_room full (rw (length-replicate {A = ℕ} message_most 0) (full_form m a full).most)

  image_short : length (image_of m) ≤ message_most
  image_short = let f = full_form m a full in omega (arith, f.image_size, f.most)

  pub cover_given : (o : Option ℕ) → o ≡ cover_size m a zero_room → o ≡ Some (length (image_of m))
  cover_given o e = e ∙ covers.0

  pub cover_short : (size : ℕ) → Some size ≡ cover_size m a zero_room → size ≤ message_most
  cover_short size e = let q = same_Some _ _ (cover_given _ e) in omega (arith, image_short)

  pub cover_front : (size : ℕ) (left : List ℕ) → Some size ≡ cover_size m a zero_room → left ≡ cover_left m a zero_room → take size left ≡ image_of m
  cover_front size left e f =
      ap (λ (n : ℕ). take n left) (same_Some _ _ (cover_given _ e))
      ∙ ap (take (length (image_of m))) (f ∙ covers.1)
      ∙ take_at (image_of m) (drop (length (image_of m)) zero_room) (length (image_of m)) refl

  pub mac_right : (key text : List ℕ) → length key ≤ key_most → text ≡ image_of m → hmac_of key text ≡ Ok (hmac key (image_of m))
  mac_right key text h e =
      ap (hmac_of key) e ∙ hmac_taken key (image_of m) h (omega (arith, image_short))

-- ---- the MAC that stands in a message

abbrev pub mac_in : List ℕ → Auth → List ℕ
mac_in m a = take mac_size (drop (a.at + mac_at) m)

-- the part that is lent for comparing
pub mac_part : (m : List ℕ) (a : Auth) → take (a.at + full_size - (a.at + mac_at)) (drop (a.at + mac_at) m) ≡ mac_in m a
mac_part m a =
    let e : a.at + full_size - (a.at + mac_at) ≡ mac_size = omega arith in
    ap (λ (n : ℕ). take n (drop (a.at + mac_at) m)) e

-- the comparison's answer, for the key and the MAC as the definition has them
pub mac_compared : (r : Bool) (m mac key key' : List ℕ) (a : Auth) → r ≡ same_bytes (take (a.at + full_size - (a.at + mac_at)) (drop (a.at + mac_at) m)) mac
    → mac ≡ hmac key (image_of m) → key ≡ key' → same_bytes (mac_in m a) (hmac key' (image_of m)) ≡ r
mac_compared r m mac key key' a e f g =
    sym
    (e
    ∙ ap (λ (x : List ℕ). same_bytes x mac) (mac_part m a)
    ∙ ap (same_bytes (mac_in m a)) (f ∙ ap (λ (k : List ℕ). hmac k (image_of m)) g))
