-- What the two writers leave in a message, one after the other: the message that `sealed_message` says. The only law file that unfolds it.
use mathlib.Core.Path.{◌≡◌, refl, sym, ap, subst, ◌∙◌}
use mathlib.Core.List.{List, ◌++◌}
use Prim.Native.Nat.{ℕ, ◌+◌, ◌-◌, ◌^◌, ◌≤◌, ◌<◌}
use native.Mathlib.Omega.{arith}
use lib.ListN.{length, take, drop, length-drop}
use lib.Seq.{length-take-le}
use Rattle.hmac_md5.specs.Hmac.{hmac}
use Rattle.octets.specs.Bytes.{written, zeros}
use Rattle.dhcp_message.specs.Layout.{counter_at, counter_size, secret_id_size, mac_size, fields_size, seal_size, full_size}
use Rattle.octets.specs.Numbers.{big_at}
use Rattle.dhcp_message.specs.Said.{form_of}
use Rattle.dhcp_message.specs.Image.{image_of}
use Rattle.dhcp_message.specs.Seal.{fields, fields_put, mac_put, sealed_with, with_fields}
use Rattle.dhcp_message.specs.declared.Auth.{Auth}
use Rattle.dhcp_message.proofs.Seals.{seal_laws, full_form}
use Rattle.delayed_auth.specs.Seal.{sealed_message}
use Rattle.std.specs.Prelude.{Ok}

pub sealed_message_lem : (key m : List ℕ) (a : Auth) (c id : ℕ)
    → sealed_message key m a c id ≡ sealed_with a (fields c id ++ hmac key (image_of (sealed_with a (fields c id ++ zeros mac_size) m))) m
unfolding sealed_message
sealed_message_lem key m a c id = refl

-- ---- the 28 bytes, as they are lent to a writer

abbrev pub part_size : Auth → ℕ
part_size a = a.at + full_size - (a.at + counter_at)

abbrev pub part_of : Auth → List ℕ → List ℕ
part_of a m = take (part_size a) (drop (a.at + counter_at) m)

-- the message with what came back
abbrev pub part_back : Auth → List ℕ → List ℕ → List ℕ
part_back a m part = take (a.at + counter_at) m ++ (part ++ drop (part_size a) (drop (a.at + counter_at) m))

-- what is known of the message that the first writer leaves: the second makes it the sealed one
pub record Fielded (m : List ℕ) (a : Auth) (c id : ℕ) (m₁ : List ℕ) : Type 0 where
  pub form : form_of m₁ ≡ Ok (with_fields a c id)
  pub size : length m₁ ≡ length m
  pub sealed : (key mac part : List ℕ) → length mac ≡ mac_size → mac ≡ hmac key (image_of m₁) → part ≡ mac_put (part_of a m₁) mac
      → part_back a m₁ part ≡ sealed_message key m a c id

module _ (m : List ℕ) (a : Auth) (c id : ℕ) (full : form_of m ≡ Ok a) (hc : c < 2 ^ 64) (hi : id < 2 ^ 32) where
  inside : a.at + counter_at + seal_size ≤ length m
  inside = omega (arith, (full_form m a full).inside)

  whole : part_size a ≡ seal_size
  whole = omega arith

  -- the MAC that still stands there, and the 28 bytes with it
  abbrev stale : List ℕ
  stale = take mac_size (drop (a.at + counter_at + fields_size) m)

  stale_size : length stale ≡ mac_size
  stale_size =
      length-take-le mac_size (drop (a.at + counter_at + fields_size) m) (omega (arith, length-drop (a.at + counter_at + fields_size) m, inside))

  old : List ℕ
  old = fields c id ++ stale

  length_old : length old ≡ seal_size
  unfolding old
  length_old = seal_laws.seal_size_lem c id stale stale_size

  first : List ℕ
  first = written (a.at + counter_at) (fields c id) m

  first_sealed : first ≡ sealed_with a old m
  unfolding first old
  first_sealed = seal_laws.fields_alone m (a.at + counter_at) c id inside

  first_size : length first ≡ length m
  first_size = ap length first_sealed ∙ (seal_laws.seals m a old full length_old).size

  first_form : form_of first ≡ Ok (with_fields a c id)
  unfolding old
  first_form =
      ap form_of first_sealed
      ∙ (seal_laws.seals m a old full length_old).form
      ∙ ap (λ (n : ℕ). Ok (with_fields a n (big_at old counter_size secret_id_size))) (seal_laws.counter_read c id stale hc)
      ∙ ap (λ (n : ℕ). Ok (with_fields a c n)) (seal_laws.id_read c id stale hi)

  first_image : image_of first ≡ image_of (sealed_with a (fields c id ++ zeros mac_size) m)
  unfolding old
  first_image = ap image_of first_sealed ∙ seal_laws.any_mac m a c id stale (zeros mac_size) full stale_size refl

  then_sealed : (key new part : List ℕ) → length new ≡ mac_size → new ≡ hmac key (image_of first) → part ≡ mac_put (part_of a first) new
      → part_back a first part ≡ sealed_message key m a c id
  unfolding first sealed_message
  then_sealed key new part l e p =
      ap (part_back a first) p
      ∙ seal_laws.mac_lent first (a.at + counter_at) (part_size a) new whole l (omega (arith, first_size, inside))
      ∙ seal_laws.mac_behind m (a.at + counter_at) c id new inside
      ∙ ap (λ (x : List ℕ). written (a.at + counter_at) (fields c id ++ x) m) (e ∙ ap (hmac key) first_image)

  pub fielded : (part : List ℕ) → part ≡ fields_put (part_of a m) c id → Fielded m a c id (part_back a m part)
  unfolding first
  fielded part p =
      let e : part_back a m part ≡ first =
      ap (part_back a m) p ∙ seal_laws.fields_lent m (a.at + counter_at) (part_size a) c id whole (omega (arith, inside)) in
      subst (Fielded m a c id) (sym e) (record { form = first_form; size = first_size; sealed = then_sealed })
