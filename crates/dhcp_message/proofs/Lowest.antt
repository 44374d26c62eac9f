-- A byte string is refused with the lowest number that applies: each check that passes rules its number out, and each that fails shows that
-- it applies. What the options read as is one thing, since reading undoes writing.
use mathlib.Core.Path.{◌≡◌, refl, sym, ap, ◌∙◌, subst}
use mathlib.Core.Logic.{◌⊎◌, ◌↔◌, inl, inr, ⊎_elim}
use Prim.Native.Nat.{ℕ, ◌+◌, ◌≤◌, ◌<◌}
use native.Mathlib.Decide.{ℕ_discrete, dec_lt}
use native.Mathlib.Omega.{arith}
use mathlib.Core.Bool.{Bool, true, false, cond}
use mathlib.Core.List.{List}
use lib.ListN.{length, drop}
use lib.Dec.{ltb, eqb}
use borrow.Author.Tests.{ltb-true, ltb-false, eqb-true, eqb-false}
use Rattle.refusal.specs.Number.{number_of, done}
use Rattle.refusal.specs.Lowest.{NothingBelow, Lowest}
use Rattle.refusal.specs.declared.Refusal.{Refusal}
use Rattle.refusal.proofs.Names.{numbers_tell}
use Rattle.refusal.proofs.Lowest.{nothing_more, Right, lowest}
use Rattle.refusal.specs.declared.Refusal.TheVariants.{MessageSize, WrongCookie, BrokenOptions, NoAuthentication, RepeatedAuthentication}
use Rattle.refusal.specs.declared.Refusal.TheVariants.{RelayInformation, OtherAuthentication, RequestForm}
use Rattle.dhcp_message.specs.Layout.{magic_cookie, delayed}
use Rattle.octets.specs.Bytes.{Bytes, starts}
use Rattle.dhcp_message.specs.Options.{Token, Parsed, broken, parsed, encode, decode, Reads}
use Rattle.dhcp_message.specs.Message.{count, option_of, tokens_before, offset_of, Checked, stopped, passed, checked_tokens, checked_parsed, checked_of, Passed}
use Rattle.dhcp_message.specs.Shape.{places_of, shape_in, shape_of}
use Rattle.dhcp_message.specs.Said.{says, said_for, said_by, form_said, form_in, form_of, form_number}
use Rattle.dhcp_message.specs.Numbers.{WhereRead, Has, OtherForm, LowestGiven, StandsAt, RelayAt, relay_there, no_relay, ShapeGiven, Applies, wrong_size}
use Rattle.dhcp_message.specs.Numbers.{wrong_cookie, broken_options, no_authentication, repeated_authentication, repeated_relay_information}
use Rattle.dhcp_message.specs.Numbers.{other_form, request_form}
use Rattle.dhcp_message.specs.declared.Auth.{Auth}
use Rattle.dhcp_message.specs.declared.Places.{Places}
use Rattle.octets.proofs.Starts.{starts_true, starts_not}
use Rattle.octets.proofs.Elements.{bytes_drop}
use Rattle.dhcp_message.proofs.Decoding.{decode_reads, reads_decode}
use Rattle.dhcp_message.proofs.Tokens.{once, Split, split, count_split, option_there, option_none, option_at, before_none, before_at}
use Rattle.dhcp_message.proofs.Passing.{Passing, passing, split_90}
use Rattle.std.specs.Prelude.{Err, None, Ok, Option, Result, Some}

-- ---- which numbers the message alone decides

pub applies_within : (m : List ℕ) (r : Refusal) → Applies m r → (2 ≤ number_of r) × (number_of r ≤ 9)
applies_within m r (wrong_size h) = omega arith
applies_within m r (wrong_cookie h) = omega arith
applies_within m r (broken_options h) = omega arith
applies_within m r (no_authentication h) = omega arith
applies_within m r (repeated_authentication h) = omega arith
applies_within m r (repeated_relay_information h) = omega arith
applies_within m r (other_form h) = omega arith
applies_within m r (request_form h) = omega arith

-- nothing that applies to the message has a number below n
abbrev Below : List ℕ → ℕ → Type 0
Below m n = NothingBelow (Applies m) n

none_below_2 : (m : List ℕ) → Below m 2
none_below_2 m r l a = omega (arith, applies_within m r a)

none_at_all : (m : List ℕ) → Below m 10 → (r : Refusal) → Applies m r → ⊥
none_at_all m h r a = h r (omega (arith, applies_within m r a)) a

-- ---- what the options read as

module _ (m : List ℕ) (bytes : Bytes m) (ts : List Token) (rest : List ℕ) (e : decode (drop 240 m) ≡ parsed ts rest) where
  reads : Reads (drop 240 m) ts rest
  reads = decode_reads (drop 240 m) ts rest (bytes_drop 240 m bytes) e

  pub readable : {P : List Token → Type 0} → P ts → WhereRead P m
  readable h = record { tokens = ts; rest = rest; reads = reads; holds = h }

  pub read_as_lem : {P : List Token → Type 0} → WhereRead P m → P ts
  read_as_lem {P} r =
      let f = sym (reads_decode (drop 240 m) r.tokens r.rest r.reads) ∙ e in
      let t : r.tokens ≡ ts = cc in
      subst P t r.holds

-- ---- 5 to 7

-- what is said of a refusal that is given, and of a message that passes
abbrev Given : List ℕ → Checked → Type 0
Given m (stopped r) = Applies m r × Below m (number_of r) × (number_of r < 8)
Given m (passed ts rest) = Below m 8

module _ (m : List ℕ) (bytes : Bytes m) where
  given_tokens : Below m 5 → (ts : List Token) (rest : List ℕ) → decode (drop 240 m) ≡ parsed ts rest
      → (x y z : Bool) → eqb (count 90 ts) 0 ≡ x → ltb 1 (count 90 ts) ≡ y → ltb 1 (count 82 ts) ≡ z
      → Given m
      (cond x (stopped NoAuthentication)
      (cond y (stopped RepeatedAuthentication) (cond z (stopped RelayInformation) (passed ts rest))))
  given_tokens h ts rest e true y z hx hy hz = (no_authentication (readable m bytes ts rest e (eqb-true (count 90 ts) 0 hx)), h, omega arith)
  given_tokens h ts rest e false y z hx hy hz = by y z hy hz
    where
      no_5 : Below m 6
      no_5 = nothing_more (Applies m) NoAuthentication h (λ a. elim a [ no_authentication w ↦ eqb-false (count 90 ts) 0 hx (read_as_lem m bytes ts rest e w) ])

      no_6 : count 90 ts ≤ 1 → Below m 7
      no_6 k = nothing_more (Applies m) RepeatedAuthentication no_5 (λ a. elim a [ repeated_authentication w ↦ omega (arith, read_as_lem m bytes ts rest e w) ])

      by : (y z : Bool) → ltb 1 (count 90 ts) ≡ y → ltb 1 (count 82 ts) ≡ z
          → Given m (cond y (stopped RepeatedAuthentication) (cond z (stopped RelayInformation) (passed ts rest)))
      by true z hy hz = (repeated_authentication (readable m bytes ts rest e (ltb-true 1 (count 90 ts) hy)), no_5, omega arith)
      by false true hy hz =
          (repeated_relay_information (readable m bytes ts rest e (ltb-true 1 (count 82 ts) hz)), no_6 (ltb-false 1 (count 90 ts) hy), omega arith)
      by false false hy hz =
          let k = ltb-false 1 (count 82 ts) hz in
          nothing_more (Applies m) RelayInformation (no_6 (ltb-false 1 (count 90 ts) hy))
          (λ a. elim a [ repeated_relay_information w ↦ omega (arith, read_as_lem m bytes ts rest e w) ])

  given_parsed : Below m 4 → (p : Parsed) → decode (drop 240 m) ≡ p → Given m (checked_parsed p)
  unfolding checked_tokens
  given_parsed h broken e =
      (broken_options (λ ts rest r. let f = sym e ∙ reads_decode (drop 240 m) ts rest r in let w : ◌≡◌ {A = ℕ} 0 1 = cc in omega arith), h, omega arith)
  given_parsed h (parsed ts rest) e =
      given_tokens (nothing_more (Applies m) BrokenOptions h (λ a. elim a [ broken_options n ↦ n ts rest (reads m bytes ts rest e) ])) ts rest e
      _ _ _ refl refl refl

  given_sizes : (x y k : Bool) → ltb (length m) 241 ≡ x → ltb 1472 (length m) ≡ y → starts magic_cookie (drop 236 m) ≡ k
      → Given m (cond x (stopped MessageSize) (cond y (stopped MessageSize) (cond k (checked_parsed (decode (drop 240 m))) (stopped WrongCookie))))
  given_sizes true y k hx hy hk = (wrong_size (inl (ltb-true _ _ hx)), none_below_2 m, omega arith)
  given_sizes false true k hx hy hk = (wrong_size (inr (ltb-true _ _ hy)), none_below_2 m, omega arith)
  given_sizes false false k hx hy hk = by k hk
    where
      no_2 : Below m 3
      no_2 =
          let a = ltb-false (length m) 241 hx in
          let b = ltb-false 1472 (length m) hy in
          nothing_more (Applies m) MessageSize (none_below_2 m) (λ w. elim w [ wrong_size h ↦ ⊎_elim (λ h. omega arith) (λ h. omega arith) h ])

      no_3 : starts magic_cookie (drop 236 m) ≡ true → Below m 4
      no_3 k = nothing_more (Applies m) WrongCookie no_2 (λ a. elim a [ wrong_cookie n ↦ n (starts_true magic_cookie (drop 236 m) k) ])

      by : (k : Bool) → starts magic_cookie (drop 236 m) ≡ k → Given m (cond k (checked_parsed (decode (drop 240 m))) (stopped WrongCookie))
      by false hk = (wrong_cookie (starts_not magic_cookie (drop 236 m) hk), no_2, omega arith)
      by true hk = given_parsed (no_3 hk) (decode (drop 240 m)) refl

  given : Given m (checked_of m)
  unfolding checked_of
  given = given_sizes _ _ (starts magic_cookie (drop 236 m)) refl refl refl

-- ---- 8 and 9

abbrev refusal_in : Result Auth Refusal → Option Refusal
refusal_in (Err r) = Some r
refusal_in (Ok a) = None

abbrev GivenForm : List ℕ → Result Auth Refusal → Type 0
GivenForm m f = Right (Applies m) (refusal_in f)

module _ (m : List ℕ) (bytes : Bytes m) (ts : List Token) (rest : List ℕ) (p : Passing m ts rest) (h : Below m 8) where
  abbrev s : Split 90 ts
  s = split_90 p

  -- it is the one option 90
  has : {P : List ℕ → Type 0} → P s.body → WhereRead (Has 90 P) m
  has g = readable m bytes ts rest p.reads (record { front = s.front; body = s.body; back = s.back; splits = s.tokens; holds = g })

  body_of : {P : List ℕ → Type 0} → WhereRead (Has 90 P) m → P s.body
  body_of {P} r =
      let w = read_as_lem m bytes ts rest p.reads r in
      let n = ap (count 90) w.splits ∙ count_split 90 w.front w.body w.back in
      let z : count 90 w.front ≡ 0 = omega (arith, p.one_90) in
      let x = sym (ap (option_of 90) w.splits ∙ option_there 90 w.front w.body w.back z) ∙ option_at s in
      let b : w.body ≡ s.body = cc in
      subst P b w.holds

  no_8 : length s.body ≡ 11 ⊎ length s.body ≡ 31 → starts delayed s.body ≡ true → Below m 9
  no_8 n d = nothing_more (Applies m) OtherAuthentication h (λ a. elim a [ other_form w ↦ wrong n (body_of w) ])
    where
      wrong : length s.body ≡ 11 ⊎ length s.body ≡ 31 → OtherForm s.body → ⊥
      wrong (inl n) (inl o) = o.0 n
      wrong (inr n) (inl o) = o.1 n
      wrong n (inr o) = o (starts_true delayed s.body d)

  other_method : starts delayed s.body ≡ false → Applies m OtherAuthentication
  other_method d = other_form (has (inr (starts_not delayed s.body d)))

  given_for : (u v d : Bool) (counter id : ℕ) (mac : List ℕ) → eqb (length s.body) 31 ≡ u → eqb (length s.body) 11 ≡ v → starts delayed s.body ≡ d
      → GivenForm m (form_said (places_of ts) (said_for u v d (says counter id mac)))
  given_for true v true c i x hu hv hd =
      let n = eqb-true (length s.body) 31 hu in
      none_at_all m (nothing_more (Applies m) RequestForm (no_8 (inr n) hd) (λ a. elim a [ request_form w ↦ let k = (body_of w).0 in omega arith ]))
  given_for true v false c i x hu hv hd = (other_method hd, h)
  given_for false true true c i x hu hv hd =
      let n = eqb-true (length s.body) 11 hv in
      (request_form (has (n, starts_true delayed s.body hd)), no_8 (inl n) hd)
  given_for false true false c i x hu hv hd = (other_method hd, h)
  given_for false false d c i x hu hv hd = (other_form (has (inl (eqb-false (length s.body) 11 hv, eqb-false (length s.body) 31 hu))), h)

  given_said : GivenForm m (form_said (places_of ts) (said_by (option_of 90 ts)))
  unfolding said_by
  given_said =
      subst (λ (x : List ℕ). GivenForm m (form_said (places_of ts) (said_by x))) (sym (option_at s))
      (given_for (eqb (length s.body) 31) (eqb (length s.body) 11) (starts delayed s.body) _ _ _ refl refl refl)

given_form : (m : List ℕ) → Bytes m → GivenForm m (form_of m)
unfolding form_of
given_form m b = by (checked_of m) refl (given m b)
  where
    by : (c : Checked) → checked_of m ≡ c → Given m c → GivenForm m (form_in c)
    by (stopped r) e g = (g.0, g.1)
    by (passed ts rest) e g = given_said m b ts rest (passing m ts rest e) g

-- ---- the statement

-- a form by its number
number_named : (r : Refusal) (f : Result Auth Refusal) → form_number f ≡ number_of r → f ≡ Err r
number_named r (Err q) e = ap Err (numbers_tell.apart q r e)
number_named r (Ok a) e = absurd (omega (arith, numbers_tell.not_done r))

number_full : (f : Result Auth Refusal) → form_number f ≡ done → (a : Auth) × (f ≡ Ok a)
number_full (Err r) e = absurd (omega (arith, numbers_tell.not_done r))
number_full (Ok a) e = (a, refl)

passes_where_none : (m : List ℕ) (c : Checked) → Given m c → (Passed c → Below m 8) × (Below m 8 → Passed c)
passes_where_none m (stopped r) g = (λ h. absurd h, λ n. n r g.2 g.0)
passes_where_none m (passed ts rest) g = (λ h. g, λ n. tt)

number_lowest : (m : List ℕ) → Bytes m → Lowest (Applies m) (form_number (form_of m))
number_lowest m b = by (form_of m) (given_form m b)
  where
    by : (f : Result Auth Refusal) → GivenForm m f → Lowest (Applies m) (form_number f)
    by (Err r) g = lowest (Applies m) (Some r) g
    by (Ok a) g = lowest (Applies m) None g

pub lowest_given : LowestGiven
lowest_given = record {
  number = number_lowest;
  refused = λ m b r. let w = (number_lowest m b).refused r in (λ e. w.0 (ap form_number e), λ h. number_named r (form_of m) (w.1 h));
  full = λ m b. let w = (number_lowest m b).none_applies in (λ h. w.0 (ap form_number h.1), λ n. number_full (form_of m) (w.1 n));
  passes = λ m b. passes_where_none m (checked_of m) (given m b);
}

-- ---- 2 to 7 alone

module _ (m : List ℕ) where
  -- two refusals that are each the lowest are one
  one_lowest : (q r : Refusal) → Applies m q → Below m (number_of q) → Applies m r → Below m (number_of r) → q ≡ r
  one_lowest q r a h b k =
      elim (dec_lt (number_of q) (number_of r)) [
        | yes l ↦ absurd (k q l a)
        | no l ↦ elim (dec_lt (number_of r) (number_of q)) [
          | yes g ↦ absurd (h r g b)
          | no g ↦ numbers_tell.apart q r (omega arith)
        ]
      ]

  shape_stopped : (r : Refusal) (c : Checked) → Given m c
      → (shape_in c ≡ Err r) ↔ (Applies m r × Below m (number_of r) × (number_of r < 8))
  shape_stopped r (stopped q) g = (
    λ e. let z : q ≡ r = cc in subst (λ (x : Refusal). Applies m x × Below m (number_of x) × (number_of x < 8)) z g,
    λ h. ap Err (one_lowest q r g.0 g.1 h.0 h.1),
  )
  shape_stopped r (passed ts rest) g = (λ e. let z : ◌≡◌ {A = ℕ} 0 1 = cc in absurd (omega arith), λ h. absurd (g r h.2 h.0))

  shape_passed : (c : Checked) → Given m c → ((p : Places) × (shape_in c ≡ Ok p)) ↔ Below m 8
  shape_passed (stopped r) g = (λ h. let e = h.1 in let z : ◌≡◌ {A = ℕ} 0 1 = cc in absurd (omega arith), λ n. absurd (n r g.2 g.0))
  shape_passed (passed ts rest) g = (λ h. g, λ n. (places_of ts, refl))

  shape_stands : Bytes m → (p : Places) (c : Checked) → checked_of m ≡ c → shape_in c ≡ Ok p
      → WhereRead (λ ts. (count 90 ts ≡ 1) × StandsAt 90 p.at ts) m
  shape_stands b p (stopped r) e f = let z : ◌≡◌ {A = ℕ} 0 1 = cc in absurd (omega arith)
  shape_stands b p (passed ts rest) e f =
      let w = passing m ts rest e in
      let s = split_90 w in
      let at : p.at ≡ 240 + length (encode (tokens_before 90 ts)) = let z : places_of ts ≡ p = cc in ap (λ (x : Places). x.at) (sym z) in
      readable m b ts rest w.reads (
        w.one_90,
        record {
          front = s.front;
          body = s.body;
          back = s.back;
          splits = s.tokens;
          offset = at ∙ ap (λ (us : List Token). 240 + length (encode us)) (before_at s);
        },
      )

  relay_stands : Bytes m → (p : Places) (c : Checked) → checked_of m ≡ c → shape_in c ≡ Ok p → WhereRead (RelayAt p.cut p.gap) m
  relay_stands b p (stopped r) e f = let z : ◌≡◌ {A = ℕ} 0 1 = cc in absurd (omega arith)
  relay_stands b p (passed ts rest) e f =
      let w = passing m ts rest e in
      let z : places_of ts ≡ p = cc in
      readable m b ts rest w.reads
      (subst (λ (x : Places). RelayAt x.cut x.gap ts) z
      (elim (ℕ_discrete (count 82 ts) 0) [ yes n ↦ none_there n | no n ↦ one_there (once (count 82 ts) n w.most_82) ]))
    where
      none_there : count 82 ts ≡ 0 → RelayAt (offset_of 82 ts) (length (option_of 82 ts)) ts
      none_there n =
          no_relay n (ap (λ (us : List Token). 240 + length (encode us)) (before_none 82 ts n)) (ap length (option_none 82 ts n))

      one_there : count 82 ts ≡ 1 → RelayAt (offset_of 82 ts) (length (option_of 82 ts)) ts
      one_there n =
          let s = split 82 ts (omega arith) in
          let size = ap length (option_at s) in
          relay_there n
          (record {
            front = s.front;
            body = s.body;
            back = s.back;
            splits = s.tokens;
            offset = ap (λ (us : List Token). 240 + length (encode us)) (before_at s);
          })
          (omega arith)

pub shape_given : ShapeGiven
unfolding shape_of
shape_given = record {
  refused = λ m b r. shape_stopped m r (checked_of m) (given m b);
  passed = λ m b. shape_passed m (checked_of m) (given m b);
  stands = λ m b p e. shape_stands m b p (checked_of m) refl e;
  relay = λ m b p e. relay_stands m b p (checked_of m) refl e;
}
