-- `decode` and `encode` undo each other. Of the laws these alone unfold `decode_at`; the others go by `decode_cons` and `encode_decode`.
use mathlib.Core.Path.{◌≡◌, refl, sym, ap, ◌∙◌, fun_ext, subst}
use mathlib.Core.Logic.{◌≢◌}
use Prim.Native.Nat.{ℕ, zero, suc, ◌≤◌, ◌<◌}
use mathlib.Core.Bool.{Bool, true, false}
use mathlib.Core.List.{List, [], ◌∷◌, ◌++◌, append_assoc}
use native.Mathlib.Omega.{arith}
use lib.ListN.{length, take, drop, length-append, take-append-drop}
use lib.Seq.{length-take-le, take_at, drop_at}
use lib.Dec.{leb, eqb}
use borrow.Author.Tests.{le-leb, ne_eqb, leb-true, leb-false, eqb-true, eqb-false}
use Rattle.octets.specs.Bytes.{Bytes}
use Rattle.dhcp_message.specs.Options.{Token, pad, opt, Parsed, broken, parsed, encode, WellFormed, Reads}
use Rattle.dhcp_message.specs.Options.{body, option, code, lead, with_token, step, decode_at, decode, RoundTrips}
use Rattle.octets.proofs.Elements.{bytes_right}

-- bytes passed over are dropped
skip : (k : ℕ) (xs : List ℕ) → decode_at k xs ≡ decode (drop k xs)
unfolding decode_at
skip zero [] = refl
skip (suc k) [] = refl
skip zero (x ∷ xs) = refl
skip (suc k) (x ∷ xs) = skip k xs

-- one step
pub decode_cons : (c : ℕ) (xs : List ℕ) → decode (c ∷ xs) ≡ step (λ k. decode (drop k xs)) xs (lead c xs)
unfolding decode_at
decode_cons c xs = ap (λ (g : ℕ → Parsed). step g xs (lead c xs)) (fun_ext (λ k. skip k xs))

pub decode_nil : decode [] ≡ broken
unfolding decode_at
decode_nil = refl

-- no option has the code of a pad or of End: what holds of tokens read from any list, bytes or not
abbrev pub Codes : List Token → Type 0
Codes [] = Unit {0}
Codes (pad ∷ ts) = Codes ts
Codes (opt c b ∷ ts) = (c ≢ 0) × (c ≢ 255) × Codes ts

pub codes_append : (p q : List Token) → Codes p → Codes q → Codes (p ++ q)
codes_append [] q h k = k
codes_append (pad ∷ p) q h k = codes_append p q h k
codes_append (opt e b ∷ p) q h k = (h.0, h.1, codes_append p q h.2 k)

pub codes_left : (p q : List Token) → Codes (p ++ q) → Codes p
codes_left [] q h = tt
codes_left (pad ∷ p) q h = codes_left p q h
codes_left (opt e b ∷ p) q h = (h.0, h.1, codes_left p q h.2)

pub codes_right : (p q : List Token) → Codes (p ++ q) → Codes q
codes_right [] q h = h
codes_right (pad ∷ p) q h = codes_right p q h
codes_right (opt e b ∷ p) q h = codes_right p q h.2

pub well_codes : (ts : List Token) → WellFormed ts → Codes ts
well_codes [] h = tt
well_codes (pad ∷ ts) h = well_codes ts h
well_codes (opt c b ∷ ts) h = (λ e. omega arith, λ e. omega arith, well_codes ts h.3)

-- of bytes, codes and lengths fit their byte
pub codes_well : (ts : List Token) (r : List ℕ) → Codes ts → Bytes (encode ts ++ r) → WellFormed ts
codes_well [] r h b = tt
codes_well (pad ∷ ts) r h b = codes_well ts r h b.1
codes_well (opt c x ∷ ts) r h b =
    let n = h.0 in
    let e = h.1 in
    let l : length x < 256 = b.1.0 in
    (pos c n, most c e b.0, omega arith, codes_well ts r h.2 (bytes_right x (encode ts ++ r) (subst Bytes (append_assoc x (encode ts) r) b.1.1)))
  where
    pos : (c : ℕ) → c ≢ 0 → 0 < c
    pos zero n = absurd (n refl)
    pos (suc c) n = omega arith

    most : (c : ℕ) → c ≢ 255 → c < 256 → c < 255
    most c e l = by (leb 255 c) refl
      where
        by : (t : Bool) → leb 255 c ≡ t → c < 255
        by true q = let g = leb-true 255 c q in absurd (e (omega arith))
        by false q = leb-false 255 c q

pub decode_encode : (ts : List Token) (r : List ℕ) → Codes ts → decode (encode ts ++ 255 ∷ r) ≡ parsed ts r
decode_encode [] r h = decode_cons 255 r
decode_encode (pad ∷ ts) r h = decode_cons 0 (encode ts ++ 255 ∷ r) ∙ ap (with_token pad) (decode_encode ts r h)
decode_encode (opt c b ∷ ts) r h =
    let ih = decode_encode ts r h.2 in
    let n : length b ≤ length (b ++ (encode ts ++ 255 ∷ r)) = simp (length-append) (omega arith) in
    rw (decode_cons, append_assoc, ne_eqb _ _ h.0, ne_eqb _ _ h.1, le-leb _ _ n, take_at b _ (length b) refl, drop_at b _ (length b) refl, ih)

broken≢ : {A : Type 0} (ts : List Token) (r : List ℕ) → broken ≡ parsed ts r → A
broken≢ ts r e = let z : ◌≡◌ {A = ℕ} 0 1 = cc in absurd (omega arith)

-- the bytes from which tokens and a rest were read, and the codes
abbrev pub Read : List ℕ → List Token → List ℕ → Type 0
Read xs ts r = (encode ts ++ 255 ∷ r ≡ xs) × Codes ts

abbrev AllRead : List ℕ → Type 0
AllRead xs = (k : ℕ) (ts : List Token) (r : List ℕ) → decode_at k xs ≡ parsed ts r → Read (drop k xs) ts r

module _ (c : ℕ) (xs : List ℕ) (ts : List Token) (r : List ℕ) (ih : AllRead xs) where
  -- a token, and what was read after it
  behind : (t : Token) (k : ℕ) (p : Parsed) → decode_at k xs ≡ p → with_token t p ≡ parsed ts r
      → ((us : List Token) → Read (drop k xs) us r → Read (c ∷ xs) (t ∷ us) r) → Read (c ∷ xs) ts r
  behind t k broken e f g = broken≢ ts r f
  behind t k (parsed us q) e f g =
      let eu : t ∷ us ≡ ts = cc in
      let er : q ≡ r = cc in
      rw (← eu) (g us (ih k us r (e ∙ ap (parsed us) er)))

  fits : (n : ℕ) (ys : List ℕ) (f : Bool) → n ∷ ys ≡ xs → c ≢ 0 → c ≢ 255 → leb n (length ys) ≡ f
      → step (λ k. decode_at k xs) xs (body c ys n f) ≡ parsed ts r → Read (c ∷ xs) ts r
  fits n ys false ex h₀ h₁ l e = broken≢ ts r e
  fits n ys true ex h₀ h₁ l e = behind (opt c (take n ys)) (suc n) (decode_at (suc n) xs) refl e
      (λ us q. let z : encode us ++ 255 ∷ r ≡ drop n ys = rw (← ex) at q.0 in
      (rw (← ex, length-take-le n ys (leb-true n _ l), append_assoc, z, take-append-drop), (h₀, h₁, q.1)))

  long : (ys : List ℕ) → ys ≡ xs → c ≢ 0 → c ≢ 255 → step (λ k. decode_at k xs) xs (option c ys) ≡ parsed ts r → Read (c ∷ xs) ts r
  long [] ex h₀ h₁ e = broken≢ ts r e
  long (n ∷ ys) ex h₀ h₁ e = fits n ys (leb n (length ys)) ex h₀ h₁ refl e

  first : (z e : Bool) → eqb c 0 ≡ z → eqb c 255 ≡ e → step (λ k. decode_at k xs) xs (code c xs z e) ≡ parsed ts r → Read (c ∷ xs) ts r
  first true e hz he p = behind pad 0 (decode_at 0 xs) refl p (λ us q. (rw (eqb-true c 0 hz) (ap (λ (l : List ℕ). 0 ∷ l) q.0), q.1))
  first false true hz he p =
      let et : [] ≡ ts = cc in
      let er : xs ≡ r = cc in
      (rw (← et, ← er, eqb-true c 255 he), rw (← et) tt)
  first false false hz he p = long xs refl (eqb-false c 0 hz) (eqb-false c 255 he) p

all_read : (xs : List ℕ) → AllRead xs
unfolding decode_at
all_read [] k ts r e = broken≢ ts r e
all_read (c ∷ xs) zero ts r e = first c xs ts r (all_read xs) (eqb c 0) (eqb c 255) refl refl e
all_read (c ∷ xs) (suc k) ts r e = all_read xs k ts r e

-- tokens that were read have the bytes that they were read from
pub encode_decode : (xs : List ℕ) (ts : List Token) (r : List ℕ) → decode xs ≡ parsed ts r → Read xs ts r
encode_decode xs ts r e = all_read xs 0 ts r e

pub decode_reads : (xs : List ℕ) (ts : List Token) (r : List ℕ) → Bytes xs → decode xs ≡ parsed ts r → Reads xs ts r
decode_reads xs ts r b e =
    let q = encode_decode xs ts r e in
    (codes_well ts (255 ∷ r) q.1 (rw q.0 b), sym q.0)

pub reads_decode : (xs : List ℕ) (ts : List Token) (r : List ℕ) → Reads xs ts r → decode xs ≡ parsed ts r
reads_decode xs ts r h = ap decode h.1 ∙ decode_encode ts r (well_codes ts h.0)

pub round_trips : RoundTrips
round_trips = record {
  written_read = λ ts r h. decode_encode ts r (well_codes ts h);
  read_written = λ xs ts r b. (decode_reads xs ts r b, reads_decode xs ts r);
}
