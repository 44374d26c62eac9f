-- `relay only` is said exactly where two messages are alike: what is left of a message, with hops and giaddr zero and without option 82, gives its header,
-- its tokens and the bytes after End back, since headers have one length and tokens are read as they were written.
use mathlib.Core.Path.{◌≡◌, refl, sym, ap, ◌∙◌}
use mathlib.Core.Logic.{◌↔◌}
use Prim.Native.Nat.{ℕ}
use native.Mathlib.Omega.{arith}
use mathlib.Core.Bool.{Bool, true, false, cond}
use mathlib.Core.List.{List, [], ◌∷◌, ◌++◌}
use lib.ListN.{length, take, drop}
use lib.Seq.{take_at, drop_at}
use lib.Dec.{eqb}
use Rattle.octets.specs.Bytes.{zeros}
use Rattle.octets.proofs.Comparing.{same_equal, equal_same}
use Rattle.dhcp_message.specs.Options.{Token, pad, opt, encode, decode, parsed}
use Rattle.dhcp_message.specs.Message.{Passes27}
use Rattle.dhcp_message.specs.Image.{without, head_zero}
use Rattle.dhcp_message.proofs.Decoding.{Codes, decode_encode}
use Rattle.dhcp_message.proofs.Headers.{head_length}
use Rattle.dhcp_message.proofs.Passing.{header_size_lem, codes}
use Rattle.comparison.specs.Difference.{Parts, parts_of, stripped, relay_only}
use Rattle.comparison.specs.Laws.{Alike}
use Rattle.comparison.proofs.Reading.{header_parts, passing_parts}

codes_without : (c : ℕ) (ts : List Token) → Codes ts → Codes (without c ts)
codes_without c [] h = tt
codes_without c (pad ∷ ts) h = codes_without c ts h
codes_without c (opt e b ∷ ts) h = by (eqb e c) (codes_without c ts h.2)
  where
    by : (t : Bool) → Codes (without c ts) → Codes (cond t (without c ts) (opt e b ∷ without c ts))
    by true k = k
    by false k = (h.0, h.1, k)

-- what is left behind the header
abbrev behind : Parts → List ℕ
behind a = encode (without 82 a.tokens) ++ (255 ∷ a.rest)

zero_length : (a : Parts) → length a.header ≡ 240 → length (head_zero a.header) ≡ 240
zero_length a h = head_length (zeros 1) (zeros 4) refl refl a.header (omega arith) ∙ h

alike_stripped : {a b : Parts} → Alike a b → stripped a ≡ stripped b
unfolding stripped
alike_stripped e = rw (e.headers, e.tokens, e.rests)

module _ (a b : Parts) (ha : length a.header ≡ 240) (hb : length b.header ≡ 240) (ca : Codes a.tokens) (cb : Codes b.tokens) where
  stripped_alike : stripped a ≡ stripped b → Alike a b
  unfolding stripped
  stripped_alike e =
      let za = zero_length a ha in
      let zb = zero_length b hb in
      let heads = sym (take_at (head_zero a.header) (behind a) 240 za) ∙ ap (take 240) e ∙ take_at (head_zero b.header) (behind b) 240 zb in
      let tails = sym (drop_at (head_zero a.header) (behind a) 240 za) ∙ ap (drop 240) e ∙ drop_at (head_zero b.header) (behind b) 240 zb in
      let read : parsed (without 82 a.tokens) a.rest ≡ parsed (without 82 b.tokens) b.rest =
      sym (decode_encode _ a.rest (codes_without 82 a.tokens ca)) ∙ ap decode tails
      ∙ decode_encode _ b.rest (codes_without 82 b.tokens cb) in
      record { headers = heads; tokens = cc; rests = cc }

pub relay_alike : (first second : List ℕ) → Passes27 first → Passes27 second
    → (relay_only (parts_of first) (parts_of second) ≡ true) ↔ Alike (parts_of first) (parts_of second)
unfolding relay_only
relay_alike first second pf ps =
    let a = parts_of first in
    let b = parts_of second in
    let f = passing_parts first pf in
    let s = passing_parts second ps in
    let ha = ap length (header_parts first pf) ∙ header_size_lem f in
    let hb = ap length (header_parts second ps) ∙ header_size_lem s in (
      λ e. stripped_alike a b ha hb (codes f) (codes s) (same_equal (stripped a) (stripped b) e),
      λ e. equal_same (stripped a) (stripped b) (alike_stripped e),
    )
