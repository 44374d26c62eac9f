-- A relay's change of option 82, on tokens: what is left without option 82 is the same, and what passed before passes still.
use mathlib.Core.Path.{◌≡◌, refl, sym, ap, ◌∙◌, subst}
use Prim.Native.Nat.{ℕ, ◌+◌, ◌≤◌, ◌<◌}
use native.Mathlib.Omega.{arith}
use mathlib.Core.List.{List, ◌∷◌, ◌++◌}
use lib.ListN.{length}
use Rattle.octets.specs.Bytes.{Bytes}
use Rattle.octets.proofs.Elements.{bytes_append, bytes_left, bytes_right}
use Rattle.dhcp_message.specs.Options.{Token, opt, encode}
use Rattle.dhcp_message.specs.Message.{count}
use Rattle.dhcp_message.specs.Image.{without}
use Rattle.dhcp_message.specs.Relay.{RelayBody, RelayChange, kept, added, replaced, removed}
use Rattle.dhcp_message.proofs.Decoding.{Codes, codes_append, codes_left, codes_right}
use Rattle.dhcp_message.proofs.Tokens.{encode_append, count_append, count_split, without_one}

pub record Changed (ts us : List Token) : Type 0 where
  pub same : without 82 us ≡ without 82 ts
  pub codes_kept : Codes us
  pub most : count 82 us ≤ 1
  pub bytes_kept : Bytes (encode ts) → Bytes (encode us)

-- the bytes of tokens around an option 82
option_bytes : (p : List Token) (b : List ℕ) (q : List Token) → RelayBody b → Bytes (encode p) → Bytes (encode q) → Bytes (encode (p ++ (opt 82 b ∷ q)))
option_bytes p b q h x y =
    let l : length b < 256 = omega (arith, h.0) in
    rw (encode_append p (opt 82 b ∷ q)) (bytes_append (encode p) _ x (omega arith, (l, bytes_append b (encode q) h.1 y)))

module _ (ts us : List Token) (cs : Codes ts) (most_82 : count 82 ts ≤ 1) where
  -- around the one option 82 that is there
  module _ (p : List Token) (old : List ℕ) (q : List Token) (e : ts ≡ p ++ (opt 82 old ∷ q)) where
    alone : (count 82 p ≡ 0) × (count 82 q ≡ 0)
    alone = let c : count 82 ts ≡ count 82 p + (1 + count 82 q) = ap (count 82) e ∙ count_split 82 p old q in (omega arith, omega arith)

    sides : Bytes (encode ts) → Bytes (encode p) × Bytes (encode q)
    sides x =
        let w : Bytes (encode p ++ (82 ∷ length old ∷ (old ++ encode q))) = subst Bytes (ap encode e ∙ encode_append p (opt 82 old ∷ q)) x in
        (bytes_left (encode p) _ w, bytes_right old (encode q) (bytes_right (encode p) _ w).1.1)

    gone : without 82 ts ≡ without 82 (p ++ q)
    gone = ap (without 82) e ∙ without_one 82 p old q

    front_codes : Codes p
    front_codes = codes_left p (opt 82 old ∷ q) (subst Codes e cs)

    back_codes : Codes (opt 82 old ∷ q)
    back_codes = codes_right p (opt 82 old ∷ q) (subst Codes e cs)

  pub changes : RelayChange ts us → Changed ts us
  changes (kept e) =
      subst (Changed ts) (sym e) (record { same = refl; codes_kept = cs; most = most_82; bytes_kept = λ b. b })
  changes (added p b q h z eb ea) =
      let none : count 82 p + count 82 q ≡ 0 = sym (ap (count 82) eb ∙ count_append 82 p q) ∙ z in
      let codes = subst Codes eb cs in
      subst (Changed ts) (sym ea) (record {
        same = without_one 82 p b q ∙ ap (without 82) (sym eb);
        codes_kept = codes_append p (opt 82 b ∷ q) (codes_left p q codes) (λ e. omega arith, λ e. omega arith, codes_right p q codes);
        most = rw (count_split 82 p b q) (omega arith);
        bytes_kept = λ x.
            let w : Bytes (encode p ++ encode q) = subst Bytes (ap encode eb ∙ encode_append p q) x in
            option_bytes p b q h (bytes_left (encode p) (encode q) w) (bytes_right (encode p) (encode q) w);
      })
  changes (replaced p old b q h eb ea) = subst (Changed ts) (sym ea) (record {
    same = without_one 82 p b q ∙ sym (gone p old q eb);
    codes_kept = codes_append p (opt 82 b ∷ q) (front_codes p old q eb) (back_codes p old q eb);
    most = rw (count_split 82 p b q) (omega (arith, alone p old q eb));
    bytes_kept = λ x. option_bytes p b q h (sides p old q eb x).0 (sides p old q eb x).1;
  })
  changes (removed p old q eb ea) = subst (Changed ts) (sym ea) (record {
    same = sym (gone p old q eb);
    codes_kept = codes_append p q (front_codes p old q eb) (back_codes p old q eb).2;
    most = rw (count_append 82 p q) (omega (arith, alone p old q eb));
    bytes_kept = λ x. rw (encode_append p q) (bytes_append (encode p) (encode q) (sides p old q eb x).0 (sides p old q eb x).1);
  })
