-- Messages that pass checks 2 to 7: what they are known to have, what is said of them, where their options stand, and how one is put together.
use mathlib.Core.Path.{◌≡◌, refl, sym, ap, ap₂, ◌∙◌, subst}
use mathlib.Core.Logic.{◌≢◌}
use Prim.Native.Nat.{ℕ, ◌+◌, ◌≤◌, ◌<◌}
use native.Mathlib.Omega.{arith}
use mathlib.Core.Bool.{Bool, true, false, cond}
use mathlib.Core.List.{List, ◌∷◌, ◌++◌, append_assoc}
use lib.ListN.{length, take, drop, get_or, length-append, length-drop, take-append-drop}
use lib.Seq.{length-take-le, take_at, drop_at, drop-append-le}
use lib.Dec.{ltb, eqb}
use borrow.Author.Tests.{lt-ltb, le-ltb, ne_eqb, eqb-false, ltb-false}
use Rattle.refusal.specs.declared.Refusal.TheVariants.{MessageSize, WrongCookie, NoAuthentication, RepeatedAuthentication, RelayInformation}
use Rattle.dhcp_message.specs.Layout.{magic_cookie}
use Rattle.octets.specs.Bytes.{starts}
use Rattle.dhcp_message.specs.Options.{Token, Parsed, broken, parsed, encode, decode}
use Rattle.dhcp_message.specs.Message.{count, option_of, offset_of}
use Rattle.dhcp_message.specs.Message.{Checked, stopped, passed, checked_tokens, checked_parsed, checked_of, Passed, Passes27, auth_in, auth_option_of}
use Rattle.dhcp_message.specs.Said.{said_by, said_in, said_of, id_of, named, form_said, form_in, form_of}
use Rattle.dhcp_message.specs.Image.{without, mac_zero, head_zero, image_in, image_of}
use Rattle.dhcp_message.specs.Shape.{places_of, shape_in, shape_of}
use Rattle.octets.proofs.Starts.{starts_append}
use Rattle.dhcp_message.proofs.Decoding.{Codes, decode_encode, encode_decode}
use Rattle.dhcp_message.proofs.Tokens.{once, Split, split, encode_append, option_at, before_at}

pub record Passing (m : List ℕ) (ts : List Token) (rest : List ℕ) : Type 0 where
  pub long : 241 ≤ length m
  pub short : length m ≤ 1472
  pub magic : starts magic_cookie (drop 236 m) ≡ true
  pub reads : decode (drop 240 m) ≡ parsed ts rest
  pub one_90 : count 90 ts ≡ 1
  pub most_82 : count 82 ts ≤ 1

-- 5 to 7 by their tests
abbrev pub by_tests : List Token → List ℕ → Bool → Bool → Bool → Checked
by_tests ts rest x y z =
    cond x (stopped NoAuthentication)
    (cond y (stopped RepeatedAuthentication) (cond z (stopped RelayInformation) (passed ts rest)))

pub by_tests_lem : (ts : List Token) (rest : List ℕ)
    → checked_tokens ts rest ≡ by_tests ts rest (eqb (count 90 ts) 0) (ltb 1 (count 90 ts)) (ltb 1 (count 82 ts))
unfolding checked_tokens
by_tests_lem ts rest = refl

abbrev Good : List ℕ → Checked → Type 0
Good m (stopped r) = Unit {0}
Good m (passed ts rest) = Passing m ts rest

module _ (m : List ℕ) where
  good_tokens : 241 ≤ length m → length m ≤ 1472 → starts magic_cookie (drop 236 m) ≡ true
      → (ts : List Token) (rest : List ℕ) → decode (drop 240 m) ≡ parsed ts rest
      → (x y z : Bool) → eqb (count 90 ts) 0 ≡ x → ltb 1 (count 90 ts) ≡ y → ltb 1 (count 82 ts) ≡ z → Good m (by_tests ts rest x y z)
  good_tokens a b k ts rest e true y z hx hy hz = tt
  good_tokens a b k ts rest e false true z hx hy hz = tt
  good_tokens a b k ts rest e false false true hx hy hz = tt
  good_tokens a b k ts rest e false false false hx hy hz = record {
    long = a;
    short = b;
    magic = k;
    reads = e;
    one_90 = once (count 90 ts) (eqb-false (count 90 ts) 0 hx) (ltb-false 1 (count 90 ts) hy);
    most_82 = ltb-false 1 (count 82 ts) hz;
  }

  good_parsed : 241 ≤ length m → length m ≤ 1472 → starts magic_cookie (drop 236 m) ≡ true → (p : Parsed) → decode (drop 240 m) ≡ p
      → Good m (checked_parsed p)
  good_parsed a b k broken e = tt
  good_parsed a b k (parsed ts rest) e = subst (Good m) (sym (by_tests_lem ts rest)) (good_tokens a b k ts rest e _ _ _ refl refl refl)

  good_sizes : (x y k : Bool) → ltb (length m) 241 ≡ x → ltb 1472 (length m) ≡ y → starts magic_cookie (drop 236 m) ≡ k
      → Good m (cond x (stopped MessageSize) (cond y (stopped MessageSize) (cond k (checked_parsed (decode (drop 240 m))) (stopped WrongCookie))))
  good_sizes true y k hx hy hk = tt
  good_sizes false true k hx hy hk = tt
  good_sizes false false false hx hy hk = tt
  good_sizes false false true hx hy hk = good_parsed (ltb-false _ _ hx) (ltb-false _ _ hy) hk (decode (drop 240 m)) refl

  good : Good m (checked_of m)
  unfolding checked_of
  good = good_sizes _ _ (starts magic_cookie (drop 236 m)) refl refl refl

  pub passing : (ts : List Token) (rest : List ℕ) → checked_of m ≡ passed ts rest → Passing m ts rest
  passing ts rest e = subst (Good m) e good

  -- the checks in turn
  pub checks_short : length m < 241 → checked_of m ≡ stopped MessageSize
  unfolding checked_of
  checks_short h = rw (lt-ltb _ _ h)

  module _ (h₀ : 241 ≤ length m) where
    pub checks_long : 1472 < length m → checked_of m ≡ stopped MessageSize
    unfolding checked_of
    checks_long h = rw (le-ltb _ _ h₀, lt-ltb _ _ h)

    module _ (h₁ : length m ≤ 1472) where
      pub checks_cookie : starts magic_cookie (drop 236 m) ≡ false → checked_of m ≡ stopped WrongCookie
      unfolding checked_of
      checks_cookie k = rw (le-ltb _ _ h₀, le-ltb _ _ h₁, k)

      pub checks_options : starts magic_cookie (drop 236 m) ≡ true → checked_of m ≡ checked_parsed (decode (drop 240 m))
      unfolding checked_of
      checks_options k = rw (le-ltb _ _ h₀, le-ltb _ _ h₁, k)

  pub checks : {ts : List Token} {rest : List ℕ} → Passing m ts rest → checked_of m ≡ passed ts rest
  checks {ts} {rest} p =
      let a : count 90 ts ≢ 0 = λ e. omega (arith, p.one_90) in
      let b : count 90 ts ≤ 1 = omega (arith, p.one_90) in
      checks_options p.long p.short p.magic ∙ ap checked_parsed p.reads ∙ by_tests_lem ts rest
      ∙ rw (ne_eqb _ _ a, le-ltb _ _ b, le-ltb _ _ p.most_82)

  pub passing_27 : {ts : List Token} {rest : List ℕ} → Passing m ts rest → Passes27 m
  passing_27 p = subst Passed (sym (checks p)) tt

  -- the tokens and the rest of a message that passes
  pub record Tokens : Type 0 where
    pub tokens : List Token
    pub rest : List ℕ
    pub checked : checked_of m ≡ passed tokens rest

  pub tokens_of : Passes27 m → Tokens
  tokens_of h = by (checked_of m) refl h
    where
      by : (c : Checked) → checked_of m ≡ c → Passed c → Tokens
      by (stopped r) e h = absurd h
      by (passed ts rest) e h = record { tokens = ts; rest = rest; checked = e }

-- what is found, answered and said goes by what checks 2 to 7 give
module _ (m : List ℕ) where
  pub shape_in_lem : shape_of m ≡ shape_in (checked_of m)
  unfolding shape_of
  shape_in_lem = refl

  pub form_in_lem : form_of m ≡ form_in (checked_of m)
  unfolding form_of
  form_in_lem = refl

  pub said_in_lem : said_of m ≡ said_in (checked_of m)
  unfolding said_of
  said_in_lem = refl

  pub named_in : named m ≡ id_of (said_of m)
  unfolding named
  named_in = refl

-- ---- a message put together

module _ (m head : List ℕ) (ts : List Token) (rest : List ℕ) (is : m ≡ head ++ (encode ts ++ (255 ∷ rest))) (size : length head ≡ 240) where
  pub take_built : take 240 m ≡ head
  take_built = ap (take 240) is ∙ take_at head _ 240 size

  pub reads_built : Codes ts → decode (drop 240 m) ≡ parsed ts rest
  reads_built cs = ap decode (ap (drop 240) is ∙ drop_at head _ 240 size) ∙ decode_encode ts rest cs

  pub magic_built : starts magic_cookie (drop 236 m) ≡ starts magic_cookie (drop 236 head)
  magic_built =
      let l : 236 ≤ length head = omega arith in
      let n : length magic_cookie ≤ length (drop 236 head) = rw length-drop (omega arith) in
      ap (λ (x : List ℕ). starts magic_cookie (drop 236 x)) is
      ∙ ap (starts magic_cookie) (drop-append-le 236 head _ l)
      ∙ starts_append magic_cookie (drop 236 head) _ n

  pub passing_built : Codes ts → count 90 ts ≡ 1 → count 82 ts ≤ 1 → starts magic_cookie (drop 236 head) ≡ true
      → length m ≤ 1472 → Passing m ts rest
  passing_built cs one most magic fits = record {
    long = rw (is, length-append, size, length-append) (omega arith);
    short = fits;
    magic = magic_built ∙ magic;
    reads = reads_built cs;
    one_90 = one;
    most_82 = most;
  }

-- ---- its bytes

module _ {m : List ℕ} {ts : List Token} {rest : List ℕ} (p : Passing m ts rest) where
  pub header_size_lem : length (take 240 m) ≡ 240
  header_size_lem = length-take-le 240 m (omega (arith, p.long))

  pub codes : Codes ts
  codes = (encode_decode (drop 240 m) ts rest p.reads).1

  pub whole : m ≡ take 240 m ++ (encode ts ++ (255 ∷ rest))
  whole = sym (take-append-drop 240 m) ∙ ap (λ (l : List ℕ). take 240 m ++ l) (sym (encode_decode (drop 240 m) ts rest p.reads).0)

  pub header_magic : starts magic_cookie (drop 236 (take 240 m)) ≡ true
  header_magic = sym (magic_built m (take 240 m) ts rest whole header_size_lem) ∙ p.magic

  pub form_passed : form_of m ≡ form_said (places_of ts) (said_by (option_of 90 ts))
  form_passed = form_in_lem m ∙ ap form_in (checks m p)

  pub said_passed : said_of m ≡ said_by (option_of 90 ts)
  said_passed = said_in_lem m ∙ ap said_in (checks m p)

  pub auth_passed : auth_option_of m ≡ option_of 90 ts
  unfolding auth_option_of
  auth_passed = ap auth_in p.reads

  pub image_passed : image_of m ≡ head_zero (take 240 m) ++ (encode (mac_zero (without 82 ts)) ++ (255 ∷ rest))
  unfolding image_of
  image_passed = ap (image_in (take 240 m)) p.reads

  -- around the first option of a code
  module _ {c : ℕ} (s : Split c ts) where
    pub around : m ≡ (take 240 m ++ encode s.front) ++ (c ∷ length s.body ∷ (s.body ++ (encode s.back ++ (255 ∷ rest))))
    around = whole ∙ ap (λ (us : List Token). take 240 m ++ (encode us ++ (255 ∷ rest))) s.tokens ∙ simp (encode_append, append_assoc)

    pub front_size : length (take 240 m ++ encode s.front) ≡ offset_of c ts
    front_size =
        length-append (take 240 m) (encode s.front)
        ∙ ap₂ (λ (n : ℕ) (us : List Token). n + length (encode us)) header_size_lem
        (sym (before_at s))

    pub from_option : drop (offset_of c ts) m ≡ option_of c ts ++ (encode s.back ++ (255 ∷ rest))
    from_option =
        ap (drop (offset_of c ts)) around ∙ drop_at (take 240 m ++ encode s.front) _ (offset_of c ts) front_size
        ∙ ap (λ (x : List ℕ). x ++ (encode s.back ++ (255 ∷ rest))) (sym (option_at s))

    pub inside : offset_of c ts + length (option_of c ts) < length m
    inside =
        let a = ap length around in
        let b = front_size in
        let d = ap length (option_at s) in
        omega (arith, simp length-append at a, simp length-append at b)

  -- its one option 90
  pub split_90 : Split 90 ts
  split_90 = split 90 ts (omega (arith, p.one_90))

  pub length_byte : get_or (option_of 90 ts) 1 0 ≡ length split_90.body
  length_byte = ap (λ (x : List ℕ). get_or x 1 0) (option_at split_90)

  pub option_length : 2 + get_or (option_of 90 ts) 1 0 ≡ length (option_of 90 ts)
  option_length =
      let a = length_byte in
      let b = ap length (option_at split_90) in
      omega arith
