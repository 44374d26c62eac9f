-- Each line names what differs, and what differs is named: `Says` is what a difference says, and it stands among the differences exactly where that holds.
use mathlib.Core.Path.{◌≡◌, refl, sym, ap, ◌∙◌, subst}
use mathlib.Core.Logic.{◌≢◌, ◌⊎◌, inl, inr, ⊎_elim}
use Prim.Native.Nat.{ℕ, suc, ◌+◌}
use native.Mathlib.Nat.{zero-add}
use native.Mathlib.Omega.{arith}
use mathlib.Core.Bool.{Bool, true, false, cond, ◌&&◌, and-false}
use mathlib.Core.List.{List, [], ◌∷◌, ◌++◌}
use Rattle.octets.specs.Bytes.{same_bytes}
use Rattle.octets.proofs.Comparing.{same_differ, differ_same}
use Rattle.dhcp_message.specs.Options.{Token, pad, opt}
use Rattle.dhcp_message.specs.Message.{count}
use Rattle.dhcp_message.proofs.Tokens.{count_append}
use Rattle.comparison.specs.declared.Side.{Side}
use Rattle.comparison.specs.declared.Side.TheVariants.{First, Second}
use Rattle.comparison.specs.Fields.{Field, part, fields}
use Rattle.comparison.specs.Difference.{Parts, Difference, differs, altered, missing, added, layout, codes_of, differences_of}
use Rattle.comparison.specs.Difference.{fields_differing, body_at, said_of, options_differing, same_layout, layout_differing}
use Rattle.comparison.specs.Laws.{Among, Occurs, Alters, Lacks, NamesWhatDiffers}
use Rattle.comparison.proofs.Members.{among_here, among_left, among_right, among_none, among_one, among_append}
use Rattle.comparison.proofs.Occurring.{occurs_body, body_occurs, none_not_there, not_there_none}
use Rattle.std.specs.Prelude.{None, Option, Some}

-- what a difference says of two messages
abbrev pub Says : Parts → Parts → Difference → Type 0
Says a b (differs f) = Among f fields × (part f a.header ≢ part f b.header)
Says a b (altered code occurrence) = Alters code occurrence a.tokens b.tokens
Says a b (missing code occurrence) = Lacks code occurrence a.tokens b.tokens
Says a b (added code occurrence) = Lacks code occurrence b.tokens a.tokens
Says a b layout = (codes_of a.tokens ≢ codes_of b.tokens) ⊎ (a.rest ≢ b.rest)

-- ---- one thing said where two lists of bytes differ

module _ {e : Difference} (xs ys : List ℕ) where
  said_unlike : {d : Difference} → Among d (cond (same_bytes xs ys) [] (e ∷ [])) → (d ≡ e) × (xs ≢ ys)
  said_unlike {d} h = by (same_bytes xs ys) refl h
    where
      by : (t : Bool) → same_bytes xs ys ≡ t → Among d (cond t [] (e ∷ [])) → (d ≡ e) × (xs ≢ ys)
      by true q h = absurd (among_none h)
      by false q h = (among_one h, same_differ xs ys q)

  unlike_said : xs ≢ ys → Among e (cond (same_bytes xs ys) [] (e ∷ []))
  unlike_said n = rw (differ_same xs ys n) (among_here e [])

-- ---- the fields

module _ (header other : List ℕ) where
  -- whatever holds of each field that differs holds of each difference of fields
  fields_said : (P : Difference → Type 0) (fs : List Field) → ((f : Field) → Among f fs → part f header ≢ part f other → P (differs f))
      → (d : Difference) → Among d (fields_differing fs header other) → P d
  unfolding fields_differing
  fields_said P [] p d h = absurd (among_none h)
  fields_said P (f ∷ fs) p d h = ⊎_elim
      (λ k. let u = said_unlike (part f header) (part f other) k in subst P (sym u.0) (p f (among_here f fs) u.1))
      (fields_said P fs (λ g m. p g (among_right (f ∷ []) fs m)) d)
      (among_append (cond (same_bytes (part f header) (part f other)) [] (differs f ∷ [])) h)

  field_said : (f : Field) (front back : List Field) → part f header ≢ part f other
      → Among (differs f) (fields_differing (front ++ (f ∷ back)) header other)
  unfolding fields_differing
  field_said f [] back n = among_left _ _ (unlike_said (part f header) (part f other) n)
  field_said f (g ∷ front) back n =
      among_right (cond (same_bytes (part g header) (part g other)) [] (differs g ∷ [])) _ (field_said f front back n)

-- ---- the options

-- what is said of one option of a side's tokens, where others were passed before them
record SaidAt (side : Side) (before tokens other : List Token) (d : Difference) : Type 0 where
  front : List Token
  code : ℕ
  body : List ℕ
  back : List Token
  splits : tokens ≡ front ++ (opt code body ∷ back)
  -- how many of its code stand before it
  passed : ℕ
  counted : passed ≡ count code before + count code front
  said : Among d (said_of side code (suc passed) body (body_at code passed other))

module _ (side : Side) (other : List Token) {d : Difference} where
  -- one token more in front
  later : {t : Token} {before after ts : List Token} → ((c : ℕ) → count c after ≡ count c before + count c (t ∷ []))
      → SaidAt side after ts other d → SaidAt side before (t ∷ ts) other d
  later {t} {before} n s = record {
    front = t ∷ s.front;
    code = s.code;
    body = s.body;
    back = s.back;
    splits = ap (λ (us : List Token). t ∷ us) s.splits;
    passed = s.passed;
    counted = let a = count_append s.code (t ∷ []) s.front in let m = n s.code in omega (arith, s.counted);
    said = s.said;
  }

  option_said : (before ts : List Token) → Among d (options_differing side before ts other) → SaidAt side before ts other d
  unfolding options_differing
  option_said before [] h = absurd (among_none h)
  option_said before (pad ∷ ts) h = later (λ c. omega arith) (option_said before ts h)
  option_said before (opt c b ∷ ts) h = ⊎_elim
      (λ k. record { front = []; code = c; body = b; back = ts; splits = refl; passed = count c before; counted = omega arith; said = k })
      (λ k. later (λ e. count_append e before (opt c b ∷ [])) (option_said (before ++ (opt c b ∷ [])) ts k))
      (among_append (said_of side c (suc (count c before)) b (body_at c (count c before) other)) h)

  said_option : (c : ℕ) (b : List ℕ) (k : ℕ) (back before front : List Token) → k ≡ count c before + count c front
      → Among d (said_of side c (suc k) b (body_at c k other)) → Among d (options_differing side before (front ++ (opt c b ∷ back)) other)
  unfolding options_differing
  said_option c b k back before [] e h = let n : k ≡ count c before = omega arith in among_left _ _ (rw n at h)
  said_option c b k back before (pad ∷ front) e h = said_option c b k back before front e h
  said_option c b k back before (opt a x ∷ front) e h =
      let n = count_append c before (opt a x ∷ []) in
      among_right (said_of side a (suc (count a before)) x (body_at a (count a before) other)) _
      (said_option c b k back (before ++ (opt a x ∷ [])) front (omega arith) h)

-- an option of which something is said
there : {side : Side} {ts other : List Token} {d : Difference} (s : SaidAt side [] ts other d) → Occurs s.code (suc s.passed) s.body ts
there s = record { front = s.front; back = s.back; splits = s.splits; number = ap suc (s.counted ∙ zero-add (count s.code s.front)) }

-- an option of which something is to be said
occurring : (side : Side) {c o : ℕ} {b : List ℕ} {ts : List Token} (other : List Token) {d : Difference} (s : Occurs c o b ts)
    → Among d (said_of side c o b (body_at c (count c s.front) other)) → Among d (options_differing side [] ts other)
occurring side {c} {o} {b} other s h =
    rw s.splits (said_option side other c b (count c s.front) s.back [] s.front (sym (zero-add _)) (rw s.number at h))

module _ (a b : Parts) where
  first_says : {d : Difference} → SaidAt First [] a.tokens b.tokens d → Says a b d
  unfolding said_of
  first_says {d} s = by (body_at s.code s.passed b.tokens) refl s.said
    where
      by : (o : Option (List ℕ)) → body_at s.code s.passed b.tokens ≡ o → Among d (said_of First s.code (suc s.passed) s.body o)
          → Says a b d
      by None e h =
          subst (Says a b) (sym (among_one h)) (record { body = s.body; there = there s; not_there = none_not_there s.code b.tokens refl e })
      by (Some x) e h =
          let u = said_unlike s.body x h in
          subst (Says a b) (sym u.0)
          (record { body = s.body; other = x; in_first = there s; in_second = body_occurs s.code b.tokens refl e; unlike = u.1 })

  second_says : {d : Difference} → SaidAt Second [] b.tokens a.tokens d → Says a b d
  unfolding said_of
  second_says {d} s = by (body_at s.code s.passed a.tokens) refl s.said
    where
      by : (o : Option (List ℕ)) → body_at s.code s.passed a.tokens ≡ o → Among d (said_of Second s.code (suc s.passed) s.body o)
          → Says a b d
      by None e h =
          subst (Says a b) (sym (among_one h)) (record { body = s.body; there = there s; not_there = none_not_there s.code a.tokens refl e })
      by (Some x) e h = absurd (among_none h)

  -- ---- the layout

  layout_says : {d : Difference} → Among d (layout_differing a b) → Says a b d
  unfolding layout_differing same_layout
  layout_says {d} h = by _ _ refl refl h
    where
      by : (x y : Bool) → same_bytes (codes_of a.tokens) (codes_of b.tokens) ≡ x → same_bytes a.rest b.rest ≡ y
          → Among d (cond (x && y) [] (layout ∷ [])) → Says a b d
      by true true e f h = absurd (among_none h)
      by true false e f h = subst (Says a b) (sym (among_one h)) (inr (same_differ _ _ f))
      by false y e f h = subst (Says a b) (sym (among_one h)) (inl (same_differ _ _ e))

  says_layout : Says a b layout → Among layout (layout_differing a b)
  unfolding layout_differing same_layout
  says_layout (inl n) = rw (differ_same _ _ n) (among_here layout [])
  says_layout (inr n) = rw (differ_same _ _ n, and-false) (among_here layout [])

  -- ---- all of them

  module _ {d : Difference} where
    of_fields : Among d (fields_differing fields a.header b.header) → Among d (differences_of a b)
    unfolding differences_of
    of_fields = among_left _ _

    of_first : Among d (options_differing First [] a.tokens b.tokens) → Among d (differences_of a b)
    unfolding differences_of
    of_first h = among_right (fields_differing fields a.header b.header) _ (among_left _ _ h)

    -- behind the first message's options
    of_more : Among d (options_differing Second [] b.tokens a.tokens ++ layout_differing a b) → Among d (differences_of a b)
    unfolding differences_of
    of_more h =
        among_right (fields_differing fields a.header b.header) _ (among_right (options_differing First [] a.tokens b.tokens) _ h)

  pub among_says : (d : Difference) → Among d (differences_of a b) → Says a b d
  unfolding differences_of
  among_says d h = ⊎_elim
      (fields_said a.header b.header (Says a b) fields (λ f m n. (m, n)) d)
      (λ k. ⊎_elim
      (λ i. first_says (option_said First b.tokens [] a.tokens i))
      (λ k. ⊎_elim (λ i. second_says (option_said Second a.tokens [] b.tokens i)) layout_says (among_append _ k))
      (among_append _ k))
      (among_append (fields_differing fields a.header b.header) h)

  pub says_among : (d : Difference) → Says a b d → Among d (differences_of a b)
  unfolding said_of
  says_among (differs f) h =
      let m = h.0 in
      of_fields
      (subst (λ (fs : List Field). Among (differs f) (fields_differing fs a.header b.header)) (sym m.splits)
      (field_said a.header b.header f m.front m.back h.1))
  says_among (altered c o) h =
      let s = h.in_first in
      let e = occurs_body c b.tokens s.number h.in_second in
      of_first (occurring First b.tokens s (rw e (unlike_said h.body h.other h.unlike)))
  says_among (missing c o) h =
      let s = h.there in
      let e = not_there_none c b.tokens s.number h.not_there in
      of_first (occurring First b.tokens s (rw e (among_here (missing c o) [])))
  says_among (added c o) h =
      let s = h.there in
      let e = not_there_none c a.tokens s.number h.not_there in
      of_more (among_left _ _ (occurring Second a.tokens s (rw e (among_here (added c o) []))))
  says_among layout h = of_more (among_right (options_differing Second [] b.tokens a.tokens) _ (says_layout h))

pub names_what_differs : NamesWhatDiffers
names_what_differs = record {
  field_named = λ a b f. (among_says a b (differs f), says_among a b (differs f));
  option_altered = λ a b c o. (among_says a b (altered c o), says_among a b (altered c o));
  option_missing = λ a b c o. (among_says a b (missing c o), says_among a b (missing c o));
  option_added = λ a b c o. (among_says a b (added c o), says_among a b (added c o));
  layout_named = λ a b. (among_says a b layout, says_among a b layout);
}
