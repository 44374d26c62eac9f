-- An argument is the decimal digits of its value, behind any number of zeros; and such digits are read back (specs/Laws.antt, `IdSays`).
use mathlib.Core.Path.{◌≡◌, refl, sym, ap, ◌∙◌}
use mathlib.Core.Bool.{Bool, true, false, cond, ◌&&◌, and-eq-true_iff}
use mathlib.Core.List.{List, [], ◌∷◌, ◌++◌, append-nil, append_assoc}
use Rattle.std.proofs.lemmas.Option.{same_Some}
use Prim.Native.Nat.{ℕ, zero, suc, ◌/◌, ◌%◌, ◌≤◌, ◌<◌}
use native.Mathlib.Omega.{arith}
use borrow.Author.Tests.{lt-ltb, le-leb, leb-true, ltb-true, ltb-false, eqb-true, eqb-false}
use lib.Dec.{leb, ltb, eqb}
use lib.ListN.{length, replicate, length-append}
use Rattle.verdict_line.specs.Decimal.{digit_zero, digit, decimal}
use Rattle.verdict_line.proofs.Says.{decimal_says}
use Rattle.known_verdict.specs.Argument.{ids_limit, digit_nine, is_digit, digits_only, digit_behind, value_behind, id_behind, id_in}
use Rattle.known_verdict.specs.Laws.{IsId, NotId, IdSays}
use Rattle.std.specs.Prelude.{None, Option, Some}

-- a digit's bounds, and what stands behind it
digit_first : (c : ℕ) (text : List ℕ) → digits_only (c ∷ text) ≡ true → ((digit_zero ≤ c) × (c ≤ digit_nine)) × (digits_only text ≡ true)
unfolding digits_only
digit_first c text d =
    let p = (and-eq-true_iff (is_digit c) (digits_only text)).0 d in
    let q = (and-eq-true_iff (leb digit_zero c) (leb c digit_nine)).0 p.0 in
    ((leb-true digit_zero c q.0, leb-true c digit_nine q.1), p.1)

-- ---- from the front: the digits behind a number above 0 go on with its own

behind_above : (n : ℕ) (text : List ℕ) → 0 < n → digits_only text ≡ true → decimal n ++ text ≡ decimal (value_behind n text)
unfolding value_behind
behind_above n [] p d = append-nil (decimal n)
behind_above n (c ∷ text) p d =
    let f = digit_first c text d in
    let m : 10 ≤ digit_behind n c = omega arith in
    let q : digit_behind n c / 10 ≡ n = omega arith in
    let r : digit (digit_behind n c % 10) ≡ c = omega arith in
    let s : decimal (digit_behind n c) ≡ decimal n ++ (c ∷ []) = decimal_says.more (digit_behind n c) m ∙ rw (q, r) in
    sym (append_assoc (decimal n) (c ∷ []) text)
    ∙ ap (λ (l : List ℕ). l ++ text) (sym s)
    ∙ behind_above (digit_behind n c) text (omega arith) f.1

-- zeros at the front, and then the digits of the value
record Numeral (text : List ℕ) (value : ℕ) : Type 0 where
  count : ℕ
  digits : text ≡ replicate count digit_zero ++ decimal value

zero_before : {text : List ℕ} {n : ℕ} → Numeral text n → Numeral (digit_zero ∷ text) n
zero_before m = record { count = suc m.count; digits = ap (λ (l : List ℕ). digit_zero ∷ l) m.digits }

-- the first digit is 0, or what follows goes on with it
zero_or_above : (c : ℕ) (text : List ℕ) → digits_only (c ∷ text) ≡ true → (c ≡ digit_zero → Numeral (c ∷ text) (value_behind 0 (c ∷ text)))
    → Numeral (c ∷ text) (value_behind 0 (c ∷ text))
unfolding value_behind
zero_or_above c text d z = on (eqb c digit_zero) refl
  where
    on : (t : Bool) → eqb c digit_zero ≡ t → Numeral (c ∷ text) (value_behind (digit_behind 0 c) text)
    on true e = z (eqb-true c digit_zero e)
    on false e =
        let f = digit_first c text d in
        let n = eqb-false c digit_zero e in
        let p : 0 < digit_behind 0 c = omega arith in
        let s : digit (digit_behind 0 c) ≡ c = omega arith in
        let o : decimal (digit_behind 0 c) ≡ c ∷ [] = decimal_says.one (digit_behind 0 c) (omega arith) ∙ rw s in
        record { count = 0; digits = ap (λ (l : List ℕ). l ++ text) (sym o) ∙ behind_above (digit_behind 0 c) text p f.1 }

numeral : (c : ℕ) (text : List ℕ) → digits_only (c ∷ text) ≡ true → Numeral (c ∷ text) (value_behind 0 (c ∷ text))
unfolding value_behind
numeral c [] d = zero_or_above c [] d (λ z. rw z (record { count = 0; digits = sym (decimal_says.one 0 (omega arith)) }))
numeral c (e ∷ text) d = zero_or_above c (e ∷ text) d (λ z. rw z (zero_before (numeral e text (digit_first c (e ∷ text) d).1)))

-- ---- from the end: the last digit of a number is read last

value_last : (n : ℕ) (text : List ℕ) (c : ℕ) → value_behind n (text ++ (c ∷ [])) ≡ digit_behind (value_behind n text) c
unfolding value_behind
value_last n [] c = refl
value_last n (d ∷ text) c = value_last (digit_behind n d) text c

digits_last : (text : List ℕ) (c : ℕ) → digits_only text ≡ true → digit_zero ≤ c → c ≤ digit_nine → digits_only (text ++ (c ∷ [])) ≡ true
unfolding digits_only
digits_last [] c d l h = rw (le-leb digit_zero c l, le-leb c digit_nine h)
digits_last (e ∷ text) c d l h =
    let p = (and-eq-true_iff (is_digit e) (digits_only text)).0 d in
    rw p.0 (digits_last text c p.1 l h)

-- digits that are read as a number
record ReadAs (text : List ℕ) (n : ℕ) : Type 0 where
  some_digit : 0 < length text
  only : digits_only text ≡ true
  value : value_behind 0 text ≡ n

decimal_read : (most n : ℕ) → n < most → ReadAs (decimal n) n
unfolding digits_only value_behind
decimal_read zero n h = absurd (omega arith)
decimal_read (suc most) n h = on (ltb n 10) refl (decimal_read most (n / 10))
  where
    on : (t : Bool) → ltb n 10 ≡ t → (n / 10 < most → ReadAs (decimal (n / 10)) (n / 10)) → ReadAs (decimal n) n
    on true e go =
        let l = ltb-true n 10 e in
        let a : digit_zero ≤ digit n = omega arith in
        let b : digit n ≤ digit_nine = omega arith in
        rw (decimal_says.one n l) (record {
          some_digit = omega arith;
          only = rw (le-leb digit_zero (digit n) a, le-leb (digit n) digit_nine b);
          value = omega arith;
        })
    on false e go =
        let l = ltb-false n 10 e in
        let s = go (omega arith) in
        rw (decimal_says.more n l) (record {
          some_digit = simp length-append (omega arith);
          only = digits_last (decimal (n / 10)) (digit (n % 10)) s.only (omega arith) (omega arith);
          value = value_last 0 (decimal (n / 10)) (digit (n % 10)) ∙ rw s.value (omega arith);
        })

-- zeros in front change neither
zeros_read : (count : ℕ) {text : List ℕ} {n : ℕ} → ReadAs text n → ReadAs (replicate count digit_zero ++ text) n
unfolding digits_only value_behind
zeros_read zero r = r
zeros_read (suc count) r = let s = zeros_read count r in record { some_digit = omega arith; only = s.only; value = s.value }

-- ---- both ways

read_is : (text : List ℕ) {n : ℕ} → ReadAs text n → n < ids_limit → id_in text ≡ Some n
unfolding id_in id_behind
read_is [] r h = absurd (omega (arith, r.some_digit))
read_is (c ∷ text) {n} r h = rw (r.only, r.value, lt-ltb n ids_limit h)

is_read : (text : List ℕ) (id : ℕ) → id_in text ≡ Some id → IsId text id
unfolding id_in id_behind
is_read [] id e = absurd (let z : ◌≡◌ {A = ℕ} 0 1 = cc in omega arith)
is_read (c ∷ text) id e = on (digits_only (c ∷ text)) refl (ltb (value_behind 0 (c ∷ text)) ids_limit) refl e
  where
    on : (s : Bool) → digits_only (c ∷ text) ≡ s → (t : Bool) → ltb (value_behind 0 (c ∷ text)) ids_limit ≡ t
        → cond (s && t) (Some (value_behind 0 (c ∷ text))) None ≡ Some id → IsId (c ∷ text) id
    on true d true l f =
        let v : value_behind 0 (c ∷ text) ≡ id = same_Some _ _ f in
        let m = numeral c text d in
        let h = ltb-true (value_behind 0 (c ∷ text)) ids_limit l in
        rw (← v) (record { below = h; before = m.count; digits = m.digits })
    on true d false l f = absurd (let z : ◌≡◌ {A = ℕ} 0 1 = cc in omega arith)
    on false d t l f = absurd (let z : ◌≡◌ {A = ℕ} 0 1 = cc in omega arith)

id_read : (text : List ℕ) (id : ℕ) → IsId text id → id_in text ≡ Some id
id_read text id i = rw i.digits (read_is _ (zeros_read i.before (decimal_read (suc id) id (omega arith))) i.below)

none_read : (text : List ℕ) → NotId text → id_in text ≡ None
none_read text f = on (id_in text) refl
  where
    on : (o : Option ℕ) → id_in text ≡ o → o ≡ None
    on None e = refl
    on (Some id) e = absurd (f id (is_read text id e))

pub id_says : IdSays
id_says = record {
  read = λ text id. (is_read text id, id_read text id);
  not_read = λ text. (λ e id i. let r = id_read text id i in let z : ◌≡◌ {A = ℕ} 0 1 = cc in omega arith, none_read text);
  written = λ id h. id_read (decimal id) id (record { below = h; before = 0; digits = refl });
}
