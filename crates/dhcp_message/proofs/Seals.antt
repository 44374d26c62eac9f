-- A message in full form with the 28 bytes of its option 90 written: it is in full form at the same places, says what was written, and its
-- image does not depend on the MAC. On tokens, its option 90 has another body of the same length. And what a message says is what its form says.
use mathlib.Core.Path.{◌≡◌, refl, sym, ap, ap₂, ◌∙◌, subst}
use Prim.Native.Nat.{ℕ, ◌+◌, ◌^◌, ◌≤◌, ◌<◌}
use native.Mathlib.Omega.{arith}
use mathlib.Core.List.{List, ◌∷◌, ◌++◌, append_assoc}
use lib.ListN.{length, take, drop}
use Rattle.octets.specs.Bytes.{Bytes, written, zeros, starts}
use Rattle.octets.specs.Numbers.{big_at}
use Rattle.octets.proofs.Written.{length_written, written_over}
use Rattle.octets.proofs.Elements.{bytes_append, bytes_left, bytes_drop, bytes_written}
use Rattle.octets.proofs.HighFirst.{big_fits}
use Rattle.refusal.specs.declared.Refusal.{Refusal}
use Rattle.dhcp_message.specs.Layout.{delayed}
use Rattle.dhcp_message.specs.Options.{Token, opt, encode}
use Rattle.dhcp_message.specs.Message.{count, option_of, offset_of, Checked, stopped, passed, checked_of}
use Rattle.dhcp_message.specs.Said.{Said, refused, says, said_by, said_in, said_of, id_of, named}
use Rattle.dhcp_message.specs.Shape.{places_of}
use Rattle.dhcp_message.specs.Said.{auth_of, form_said, form_in, form_of, form_says, form_names, FormSays}
use Rattle.dhcp_message.specs.Image.{without, mac_zero, head_zero, image_of}
use Rattle.dhcp_message.specs.Seal.{fields, sealed_with, with_fields, FullForm, Rewritten, SealLaws}
use Rattle.dhcp_message.specs.declared.Places.{Places}
use Rattle.dhcp_message.specs.declared.Auth.{Auth}
use Rattle.dhcp_message.proofs.Decoding.{Codes, codes_append, codes_left, codes_right}
use Rattle.dhcp_message.proofs.Tokens.{auth_not_relay, encode_append, count_append, option_other, before_other, option_there, before_there}
use Rattle.dhcp_message.proofs.Tokens.{without_append, zero_append, written_body, option_at, before_at}
use Rattle.dhcp_message.proofs.Passing.{Passing, said_in_lem, named_in, form_in_lem, passing_27, take_built, passing_built, header_size_lem}
use Rattle.dhcp_message.proofs.Passing.{header_magic, codes}
use Rattle.dhcp_message.proofs.Passing.{form_passed, said_passed, image_passed, around, front_size}
use Rattle.dhcp_message.proofs.FullForms.{Fully, fully, option, parts, at_is, cut_is, gap_is, counter_is, id_is, body_long, at_late, option_inside}
use Rattle.dhcp_message.proofs.FullForms.{from_at, counter_there, id_there, said_there}
use Rattle.dhcp_message.proofs.Covers.{covers_offsets}
use Rattle.dhcp_message.proofs.Images.{stretch_inside, image_length, covers_full}
use Rattle.dhcp_message.proofs.Fields.{body_size, said_new, zeroed_new, fields_bytes, seal_size_lem, counter_read, id_read, mac_read, fields_read}
use Rattle.dhcp_message.proofs.Fields.{fields_lent, mac_lent, mac_behind, fields_alone}
use Rattle.std.specs.Prelude.{Err, Ok, Result}

-- ---- the message with the 28 bytes written

module _ {m : List ℕ} {a : Auth} (y : Fully m a) (new : List ℕ) (size : length new ≡ 28) where
  abbrev p : Passing m y.tokens y.rest
  p = y.passing

  abbrev front : List Token
  front = (parts y).front

  abbrev back : List Token
  back = (parts y).back

  abbrev body : List ℕ
  body = (parts y).body

  abbrev body' : List ℕ
  body' = written 3 new body

  abbrev with_body : List ℕ → List Token
  with_body b = front ++ (opt 90 b ∷ back)

  abbrev out : List ℕ
  out = sealed_with a new m

  same_size : length body' ≡ length body
  same_size = body_size body new (body_long y) size

  out_is : out ≡ take 240 m ++ (encode (with_body body') ++ (255 ∷ y.rest))
  out_is =
      let pre = take 240 m ++ encode front in
      let post = encode back ++ (255 ∷ y.rest) in
      let l : 3 + length new ≤ length body = omega (arith, body_long y) in
      ap (written (a.at + 5) new) (around p (parts y))
      ∙ written_body a.at 3 90 (length body) new pre body post (front_size p (parts y) ∙ sym (at_is y)) l
      ∙ ap (λ (n : ℕ). pre ++ (90 ∷ n ∷ (body' ++ post))) (sym same_size)
      ∙ simp (encode_append, append_assoc)

  pub out_size : length out ≡ length m
  out_size = length_written (a.at + 5) new m (omega (arith, option_inside y))

  -- the counts go by codes, offsets go by sizes too
  count_same : (c : ℕ) → count c (with_body body') ≡ count c y.tokens
  count_same c = count_append c front (opt 90 body' ∷ back) ∙ sym (ap (count c) (parts y).tokens ∙ count_append c front (opt 90 body ∷ back))

  option_same : option_of 82 (with_body body') ≡ option_of 82 y.tokens
  option_same = option_other 82 90 auth_not_relay body' body back front ∙ ap (option_of 82) (sym (parts y).tokens)

  cut_same : offset_of 82 (with_body body') ≡ a.cut
  cut_same =
      ap (λ (n : ℕ). 240 + n) (before_other 82 90 auth_not_relay body' body back same_size front)
      ∙ ap (offset_of 82) (sym (parts y).tokens) ∙ sym (cut_is y)

  at_same : offset_of 90 (with_body body') ≡ a.at
  at_same =
      ap (λ (us : List Token). 240 + length (encode us))
      (before_there 90 front body' back (parts y).none_front ∙ sym (before_at (parts y)))
      ∙ sym (at_is y)

  passing_sealed : Passing out (with_body body') y.rest
  passing_sealed =
      let cs = subst Codes (parts y).tokens (codes p) in
      passing_built out (take 240 m) (with_body body') y.rest out_is (header_size_lem p)
      (codes_append front (opt 90 body' ∷ back) (codes_left front (opt 90 body ∷ back) cs) (codes_right front (opt 90 body ∷ back) cs))
      (count_same 90 ∙ p.one_90) (subst (λ (n : ℕ). n ≤ 1) (sym (count_same 82)) p.most_82)
      (header_magic p) (subst (λ (n : ℕ). n ≤ 1472) (sym out_size) p.short)

  said_bytes : said_by (option_of 90 (with_body body')) ≡ says (big_at new 0 8) (big_at new 8 4) (drop 12 new)
  said_bytes =
      let method = ap (λ (x : List ℕ). starts delayed (drop 2 x)) (sym (option_at (parts y))) ∙ y.method in
      ap said_by (option_there 90 front body' back (parts y).none_front) ∙ said_new body new (body_long y) size method

  auth_same : auth_of (places_of (with_body body')) (big_at new 0 8) (big_at new 8 4) ≡ with_fields a (big_at new 0 8) (big_at new 8 4)
  auth_same i = record {
    at = at_same i;
    counter = big_at new 0 8;
    id = big_at new 8 4;
    cut = cut_same i;
    gap = (ap length option_same ∙ sym (gap_is y)) i;
  }

  form_sealed : form_of out ≡ Ok (with_fields a (big_at new 0 8) (big_at new 8 4))
  form_sealed = form_passed passing_sealed ∙ ap (form_said (places_of (with_body body'))) said_bytes ∙ ap Ok auth_same

  said_sealed : said_of out ≡ says (big_at new 0 8) (big_at new 8 4) (drop 12 new)
  said_sealed = said_passed passing_sealed ∙ said_bytes

  -- the image holds counter and id and nothing else of what was written
  abbrev image_with : List ℕ → List ℕ
  image_with b =
      head_zero (take 240 m) ++ (encode (mac_zero (without 82 front) ++ (opt 90 b ∷ mac_zero (without 82 back))) ++ (255 ∷ y.rest))

  image_sealed : image_of out ≡ image_with (written 15 (zeros 16) (written 3 (take 12 new) body))
  image_sealed =
      let w = ap mac_zero (without_append 82 front (opt 90 body' ∷ back)) ∙ zero_append (without 82 front) (opt 90 body' ∷ without 82 back) in
      image_passed passing_sealed
      ∙ ap₂ (λ (h : List ℕ) (us : List Token). head_zero h ++ (encode us ++ (255 ∷ y.rest)))
      (take_built out (take 240 m) (with_body body') y.rest out_is (header_size_lem p)) w
      ∙ ap image_with (zeroed_new body new (body_long y) size)

sealed : (m : List ℕ) (a : Auth) (new : List ℕ) → form_of m ≡ Ok a → length new ≡ 28 → Rewritten m a new
sealed m a new e h =
    let y = fully m a e in
    record {
      form = form_sealed y new h;
      said = said_sealed y new h;
      size = out_size y new h;
      image = λ other ho same.
          image_sealed y new h
          ∙ ap (λ (f : List ℕ). image_with y new h (written 15 (zeros 16) (written 3 f (body y new h)))) same
          ∙ sym (image_sealed y other ho);
      again = λ other ho. written_over (a.at + 5) new other m (h ∙ sym ho) (omega (arith, option_inside y));
    }

-- ---- what a message in full form has

pub full_form : (m : List ℕ) (a : Auth) → form_of m ≡ Ok a → FullForm m a
full_form m a e =
    let y = fully m a e in
    let bytes : Bytes m → Bytes (option y) = λ b. bytes_left (option y) _ (subst Bytes (from_at y) (bytes_drop a.at m b)) in
    record {
      least = y.passing.long;
      most = y.passing.short;
      behind_header = at_late y;
      inside = option_inside y;
      stretch = stretch_inside y;
      passes = passing_27 m y.passing;
      said = said_there y;
      image_size = image_length y;
      counter_size_lem = λ b. subst (λ (n : ℕ). n < 2 ^ 64) (sym (counter_is y)) (big_fits (option y) 5 8 (bytes b));
      id_size_lem = λ b. subst (λ (n : ℕ). n < 2 ^ 32) (sym (id_is y)) (big_fits (option y) 13 4 (bytes b));
    }

-- ---- what a message says is what its form says

refused_said : (m : List ℕ) (r : Refusal) → form_of m ≡ Err r → said_of m ≡ refused r
refused_said m r e = said_in_lem m ∙ by (checked_of m) (sym (form_in_lem m) ∙ e)
  where
    by_said : (p : Places) (s : Said) → form_said p s ≡ Err r → s ≡ refused r
    by_said p (refused q) e = let z : q ≡ r = cc in ap refused z
    by_said p (says c i x) e = let z : ◌≡◌ {A = ℕ} 0 1 = cc in absurd (omega arith)

    by : (c : Checked) → form_in c ≡ Err r → said_in c ≡ refused r
    by (stopped q) e = let z : q ≡ r = cc in ap refused z
    by (passed ts rest) e = by_said (places_of ts) (said_by (option_of 90 ts)) e

said_form : (m : List ℕ) → said_of m ≡ form_says m (form_of m)
said_form m = by (form_of m) refl
  where
    by : (f : Result Auth Refusal) → form_of m ≡ f → said_of m ≡ form_says m f
    by (Err r) e = refused_said m r e
    by (Ok a) e = said_there (fully m a e)

named_form : (m : List ℕ) → named m ≡ form_names (form_of m)
named_form m = named_in m ∙ ap id_of (said_form m) ∙ by (form_of m)
  where
    by : (f : Result Auth Refusal) → id_of (form_says m f) ≡ form_names f
    by (Err r) = refl
    by (Ok a) = refl

pub form_says_lem : FormSays
form_says_lem = record {
  said = said_form;
  name = named_form;
  counter_there = λ m a e. counter_there (fully m a e);
  id_there = λ m a e. id_there (fully m a e);
}

-- ---- what the crate above goes by

any_mac : (m : List ℕ) (a : Auth) (counter id : ℕ) (mac other : List ℕ) → form_of m ≡ Ok a → length mac ≡ 16 → length other ≡ 16
    → image_of (sealed_with a (fields counter id ++ mac) m) ≡ image_of (sealed_with a (fields counter id ++ other) m)
any_mac m a counter id mac other e h g =
    (sealed m a (fields counter id ++ mac) e (seal_size_lem counter id mac h)).image (fields counter id ++ other) (seal_size_lem counter id other g)
    (fields_read counter id mac ∙ sym (fields_read counter id other))

pub seal_laws : SealLaws
seal_laws = record {
  full = full_form;
  covers = λ m a out e h. covers_full (fully m a e) out h;
  covers_offsets = covers_offsets;
  seals = sealed;
  seal_size_lem = seal_size_lem;
  any_mac = any_mac;
  counter_read = counter_read;
  id_read = id_read;
  mac_read = mac_read;
  fields_lent = λ m at size counter id is h. fields_lent m at size is h counter id;
  mac_lent = λ m at size mac is n h. mac_lent m at size is h mac n;
  fields_alone = fields_alone;
  bytes_kept = λ m at counter id mac b h.
      bytes_written at (fields counter id ++ mac) m (bytes_append (fields counter id) mac (fields_bytes counter id) b) h;
  mac_behind = λ m at counter id mac h. mac_behind m at counter id h mac;
}
