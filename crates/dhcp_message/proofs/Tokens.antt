-- Laws of tokens: appending, splitting at the option of a code, taking options out, and writing inside an option's body.
use mathlib.Core.Path.{◌≡◌, refl, sym, ap, ap₂, ◌∙◌}
use mathlib.Core.Logic.{◌≢◌}
use Prim.Native.Nat.{ℕ, zero, suc, ◌+◌, ◌≤◌}
use native.Mathlib.Nat.{add_assoc, zero-add}
use mathlib.Core.Bool.{Bool, true, false, cond}
use mathlib.Core.List.{List, [], ◌∷◌, ◌++◌, append_assoc}
use native.Mathlib.Omega.{arith}
use lib.ListN.{length, length-append}
use Rattle.octets.specs.Bytes.{written}
use Rattle.octets.proofs.Written.{written_left, written_right}
use lib.Dec.{eqb}
use borrow.Author.Tests.{ne_eqb, eq-eqb, eqb-true}
use Rattle.dhcp_message.specs.Options.{Token, pad, opt, encode}
use Rattle.dhcp_message.specs.Message.{count, option_of, tokens_before}
use Rattle.dhcp_message.specs.Image.{without, body_zero, mac_zero}

-- the codes of option 90 and option 82
pub auth_not_relay : ◌≢◌ {A = ℕ} 90 82
auth_not_relay e = omega arith

pub once : (n : ℕ) → n ≢ 0 → n ≤ 1 → n ≡ 1
once zero h l = absurd (h refl)
once (suc n) h l = omega arith

pub encode_append : (p q : List Token) → encode (p ++ q) ≡ encode p ++ encode q
encode_append [] q = refl
encode_append (pad ∷ p) q = ap (λ (l : List ℕ). 0 ∷ l) (encode_append p q)
encode_append (opt e b ∷ p) q =
    ap (λ (l : List ℕ). e ∷ length b ∷ l) (ap (λ (l : List ℕ). b ++ l) (encode_append p q) ∙ sym (append_assoc b (encode p) (encode q)))

pub nil_right : (ts : List Token) → ts ++ [] ≡ ts
nil_right [] = refl
nil_right (t ∷ ts) = ap (λ (us : List Token). t ∷ us) (nil_right ts)

module _ (c : ℕ) where
  pub count_append : (p q : List Token) → count c (p ++ q) ≡ count c p + count c q
  count_append [] q = sym (zero-add (count c q))
  count_append (pad ∷ p) q = count_append p q
  count_append (opt e b ∷ p) q = ap (λ (n : ℕ). cond (eqb e c) 1 0 + n) (count_append p q) ∙ sym (add_assoc (cond (eqb e c) 1 0) (count c p) (count c q))

  pub count_split : (p : List Token) (b : List ℕ) (q : List Token) → count c (p ++ (opt c b ∷ q)) ≡ count c p + (1 + count c q)
  count_split p b q = count_append p (opt c b ∷ q) ∙ rw (eq-eqb c c refl)

  -- no option of code c among tokens with one in front
  pub no_hit : (e : ℕ) (ts : List Token) (x : Bool) → eqb e c ≡ x → cond x 1 0 + count c ts ≡ 0 → (eqb e c ≡ false) × (count c ts ≡ 0)
  no_hit e ts true h z = absurd (omega arith)
  no_hit e ts false h z = (h, omega arith)

  -- in front of other tokens, tokens without an option of code c
  module _ (q : List Token) where
    option_behind : (p : List Token) → count c p ≡ 0 → option_of c (p ++ q) ≡ option_of c q
    option_behind [] z = refl
    option_behind (pad ∷ p) z = option_behind p z
    option_behind (opt e b ∷ p) z = let h = no_hit e p (eqb e c) refl z in rw h.0 (option_behind p h.1)

    pub before_behind : (p : List Token) → count c p ≡ 0 → tokens_before c (p ++ q) ≡ p ++ tokens_before c q
    before_behind [] z = refl
    before_behind (pad ∷ p) z = ap (λ (us : List Token). pad ∷ us) (before_behind p z)
    before_behind (opt e b ∷ p) z = let h = no_hit e p (eqb e c) refl z in rw h.0 (ap (λ (us : List Token). opt e b ∷ us) (before_behind p h.1))

  -- no such option at all
  module _ (ts : List Token) (z : count c ts ≡ 0) where
    pub option_none : option_of c ts ≡ []
    option_none = ap (option_of c) (sym (nil_right ts)) ∙ option_behind [] ts z

    pub before_none : tokens_before c ts ≡ ts
    before_none = ap (tokens_before c) (sym (nil_right ts)) ∙ before_behind [] ts z ∙ nil_right ts

  -- the first one
  module _ (p : List Token) (b : List ℕ) (q : List Token) (z : count c p ≡ 0) where
    pub option_there : option_of c (p ++ (opt c b ∷ q)) ≡ c ∷ length b ∷ b
    option_there = option_behind (opt c b ∷ q) p z ∙ rw (eq-eqb c c refl)

    pub before_there : tokens_before c (p ++ (opt c b ∷ q)) ≡ p
    before_there = before_behind (opt c b ∷ q) p z ∙ rw (eq-eqb c c refl) (nil_right p)

-- tokens split at the first option of code c
pub record Split (c : ℕ) (ts : List Token) : Type 0 where
  pub front : List Token
  pub body : List ℕ
  pub back : List Token
  pub tokens : ts ≡ front ++ (opt c body ∷ back)
  pub none_front : count c front ≡ 0

module _ (c : ℕ) where
  behind : (t : Token) (ts : List Token) → count c (t ∷ []) ≡ 0 → Split c ts → Split c (t ∷ ts)
  behind t ts z s = record {
    front = t ∷ s.front;
    body = s.body;
    back = s.back;
    tokens = ap (λ (us : List Token). t ∷ us) s.tokens;
    none_front = count_append c (t ∷ []) s.front ∙ ap₂ (λ (m n : ℕ). m + n) z s.none_front;
  }

  pub split : (ts : List Token) → 1 ≤ count c ts → Split c ts
  split [] h = absurd (omega arith)
  split (pad ∷ ts) h = behind pad ts refl (split ts h)
  split (opt e b ∷ ts) h = by (eqb e c) refl (split ts) h
    where
      by : (x : Bool) → eqb e c ≡ x → (1 ≤ count c ts → Split c ts) → 1 ≤ cond x 1 0 + count c ts → Split c (opt e b ∷ ts)
      by true q ih l = record { front = []; body = b; back = ts; tokens = ap (λ (n : ℕ). opt n b ∷ ts) (eqb-true e c q); none_front = refl }
      by false q ih l = behind (opt e b) ts (rw q) (ih (omega arith))

-- what such a split says
module _ {c : ℕ} {ts : List Token} (s : Split c ts) where
  pub option_at : option_of c ts ≡ c ∷ length s.body ∷ s.body
  option_at = ap (option_of c) s.tokens ∙ option_there c s.front s.body s.back s.none_front

  pub before_at : tokens_before c ts ≡ s.front
  before_at = ap (tokens_before c) s.tokens ∙ before_there c s.front s.body s.back s.none_front

  pub none_back : count c ts ≤ 1 → count c s.back ≡ 0
  none_back h =
      let n : count c ts ≡ count c s.front + (1 + count c s.back) = ap (count c) s.tokens ∙ count_split c s.front s.body s.back in
      omega arith

-- ---- another option's body

-- the bytes of the option of code c don't go by it, and how far that option stands goes by its length alone
module _ (c d : ℕ) (n : d ≢ c) (b b' : List ℕ) (q : List Token) where
  pub option_other : (p : List Token) → option_of c (p ++ (opt d b ∷ q)) ≡ option_of c (p ++ (opt d b' ∷ q))
  option_other [] = rw (ne_eqb _ _ n)
  option_other (pad ∷ p) = option_other p
  option_other (opt e a ∷ p) = ap (λ (x : List ℕ). cond (eqb e c) (e ∷ length a ∷ a) x) (option_other p)

  abbrev far : List ℕ → List Token → ℕ
  far x p = length (encode (tokens_before c (p ++ (opt d x ∷ q))))

  pub before_other : length b ≡ length b' → (p : List Token) → far b p ≡ far b' p
  before_other l [] =
      let r = encode (tokens_before c q) in
      rw (ne_eqb _ _ n) (ap (λ (k : ℕ). suc (suc k)) (length-append b r ∙ ap (λ (k : ℕ). k + length r) l ∙ sym (length-append b' r)))
  before_other l (pad ∷ p) = ap suc (before_other l p)
  before_other l (opt e a ∷ p) = by (eqb e c) (before_other l p)
    where
      rest : List ℕ → List Token
      rest x = tokens_before c (p ++ (opt d x ∷ q))

      by : (x : Bool) → far b p ≡ far b' p
          → length (encode (cond x [] (opt e a ∷ rest b))) ≡ length (encode (cond x [] (opt e a ∷ rest b')))
      by true ih = refl
      by false ih =
          ap (λ (k : ℕ). suc (suc k)) (length-append a (encode (rest b)) ∙ ap (λ (k : ℕ). length a + k) ih ∙ sym (length-append a (encode (rest b'))))

-- ---- options taken out

module _ (c : ℕ) where
  pub without_none : (ts : List Token) → count c ts ≡ 0 → without c ts ≡ ts
  without_none [] z = refl
  without_none (pad ∷ ts) z = ap (λ (us : List Token). pad ∷ us) (without_none ts z)
  without_none (opt e b ∷ ts) z =
      let h = no_hit c e ts (eqb e c) refl z in
      rw h.0 (ap (λ (us : List Token). opt e b ∷ us) (without_none ts h.1))

  pub without_append : (p q : List Token) → without c (p ++ q) ≡ without c p ++ without c q
  without_append [] q = refl
  without_append (pad ∷ p) q = ap (λ (us : List Token). pad ∷ us) (without_append p q)
  without_append (opt e b ∷ p) q = by (without_append p q) (eqb e c)
    where
      by : without c (p ++ q) ≡ without c p ++ without c q → (x : Bool)
          → cond x (without c (p ++ q)) (opt e b ∷ without c (p ++ q)) ≡ cond x (without c p) (opt e b ∷ without c p) ++ without c q
      by ih true = ih
      by ih false = ap (λ (us : List Token). opt e b ∷ us) ih

  -- one of them, whatever its body, taken out or not
  pub without_one : (p : List Token) (b : List ℕ) (q : List Token) → without c (p ++ (opt c b ∷ q)) ≡ without c (p ++ q)
  without_one p b q = without_append p (opt c b ∷ q) ∙ rw (eq-eqb c c refl) (sym (without_append p q))

  -- the one that is there
  pub without_at : {ts : List Token} (s : Split c ts) → count c ts ≤ 1 → without c ts ≡ s.front ++ s.back
  without_at {ts} s h =
      let n : count c (s.front ++ s.back) ≡ 0 = count_append c s.front s.back ∙ omega (arith, s.none_front, none_back s h) in
      ap (without c) s.tokens ∙ without_one s.front s.body s.back ∙ without_none (s.front ++ s.back) n

  pub count_without : (d : ℕ) → d ≢ c → (ts : List Token) → count d (without c ts) ≡ count d ts
  count_without d n [] = refl
  count_without d n (pad ∷ ts) = count_without d n ts
  count_without d n (opt e b ∷ ts) = by (count_without d n ts) (eqb e c) refl
    where
      by : count d (without c ts) ≡ count d ts → (x : Bool) → eqb e c ≡ x
          → count d (cond x (without c ts) (opt e b ∷ without c ts)) ≡ cond (eqb e d) 1 0 + count d ts
      by ih true h =
          let k : e ≢ d = λ q. n (sym q ∙ eqb-true e c h) in
          rw (ne_eqb _ _ k) (ih ∙ sym (zero-add (count d ts)))
      by ih false h = ap (λ (k : ℕ). cond (eqb e d) 1 0 + k) ih

  pub option_without : (d : ℕ) → d ≢ c → (ts : List Token) → option_of d (without c ts) ≡ option_of d ts
  option_without d n [] = refl
  option_without d n (pad ∷ ts) = option_without d n ts
  option_without d n (opt e b ∷ ts) = by (option_without d n ts) (eqb e c) refl
    where
      by : option_of d (without c ts) ≡ option_of d ts → (x : Bool) → eqb e c ≡ x
          → option_of d (cond x (without c ts) (opt e b ∷ without c ts)) ≡ cond (eqb e d) (e ∷ length b ∷ b) (option_of d ts)
      by ih true h =
          let k : e ≢ d = λ q. n (sym q ∙ eqb-true e c h) in
          rw (ne_eqb _ _ k) ih
      by ih false h = ap (λ (x : List ℕ). cond (eqb e d) (e ∷ length b ∷ b) x) ih

pub zero_append : (p q : List Token) → mac_zero (p ++ q) ≡ mac_zero p ++ mac_zero q
zero_append [] q = refl
zero_append (pad ∷ p) q = ap (λ (us : List Token). pad ∷ us) (zero_append p q)
zero_append (opt e b ∷ p) q = ap (λ (us : List Token). opt e (body_zero e b) ∷ us) (zero_append p q)

pub zero_none : (ts : List Token) → count 90 ts ≡ 0 → mac_zero ts ≡ ts
zero_none [] z = refl
zero_none (pad ∷ ts) z = ap (λ (us : List Token). pad ∷ us) (zero_none ts z)
zero_none (opt e b ∷ ts) z = let h = no_hit 90 e ts (eqb e 90) refl z in rw h.0 (ap (λ (us : List Token). opt e b ∷ us) (zero_none ts h.1))

-- ---- an option's body

-- bytes written inside a body, where the body stands behind code and length
pub written_body : (at k c n : ℕ) (new pre b post : List ℕ) → length pre ≡ at → k + length new ≤ length b
    → written (at + (2 + k)) new (pre ++ (c ∷ n ∷ (b ++ post))) ≡ pre ++ (c ∷ n ∷ (written k new b ++ post))
written_body at k c n new pre b post h l =
    ap (λ (i : ℕ). written (i + (2 + k)) new (pre ++ (c ∷ n ∷ (b ++ post)))) (sym h)
    ∙ written_right (2 + k) new pre (c ∷ n ∷ (b ++ post))
    ∙ ap (λ (x : List ℕ). pre ++ x) (written_right k new (c ∷ n ∷ []) (b ++ post) ∙ ap (λ (x : List ℕ). c ∷ n ∷ x) (written_left k new b post l))
