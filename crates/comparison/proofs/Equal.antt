-- Two messages that pass 2 to 7 have no difference exactly where they are equal, and exactly then one line, `relay only`.
use mathlib.Core.Path.{◌≡◌, refl, sym, ap, ap₂, ◌∙◌, subst}
use mathlib.Core.Logic.{◌≢◌, inl, inr}
use Prim.Native.Nat.{ℕ, suc, ◌+◌, ◌≤◌}
use native.Mathlib.Omega.{arith}
use mathlib.Core.Bool.{Bool, true, false, ◌&&◌}
use mathlib.Core.List.{List, [], ◌∷◌, ◌++◌, head-eq_of_cons-eq, tail-eq_of_cons-eq}
use lib.ListN.{get_or, length, take, drop, length-append}
use native.Mathlib.Nat.{add-zero}
use lib.Seq.{get_or-append-add, append_snoc, take-add, take_all}
use lib.Dec.{eqb}
use borrow.Author.Tests.{eqb-true}
use Rattle.octets.specs.Bytes.{same_bytes, starts}
use Rattle.octets.proofs.Comparing.{same_equal, same_differ, equal_same}
use Rattle.octets.proofs.Starts.{and_true, starts_true}
use Rattle.dhcp_message.specs.Layout.{magic_cookie}
use Rattle.dhcp_message.specs.Options.{Token, pad, opt, encode}
use Rattle.dhcp_message.specs.Message.{count, Passes27}
use Rattle.dhcp_message.proofs.Decoding.{Codes}
use Rattle.dhcp_message.proofs.Passing.{Passing, passing, tokens_of, header_size_lem, header_magic, codes, whole}
use Rattle.comparison.specs.Fields.{Field, part, fields}
use Rattle.comparison.specs.Difference.{Parts, parts_of, Difference, differs, altered, missing, added, layout, codes_of, differences_of}
use Rattle.comparison.specs.Difference.{stripped, relay_only, option_line, line_of, lines_of, relay_only_line, covered_differ_line, last_line, text_of}
use Rattle.comparison.specs.Entry.{text_for}
use Rattle.comparison.specs.Laws.{Among, Alters, EqualSays}
use Rattle.comparison.proofs.Members.{among_here, among_right, among_none, among_empty}
use Rattle.comparison.proofs.Occurring.{occurs_body}
use Rattle.comparison.proofs.Reading.{parts_passed}
use Rattle.comparison.proofs.Naming.{Says, among_says, says_among}

-- lists that can't differ are equal
not_unlike : (xs ys : List ℕ) → (xs ≢ ys → ⊥) → xs ≡ ys
not_unlike xs ys h = by (same_bytes xs ys) refl
  where
    by : (t : Bool) → same_bytes xs ys ≡ t → xs ≡ ys
    by true e = same_equal xs ys e
    by false e = absurd (h (same_differ xs ys e))

-- ---- the header

-- so many first bytes are the same, and so many after them
take_more : (n k : ℕ) (xs ys : List ℕ) → take n xs ≡ take n ys → take k (drop n xs) ≡ take k (drop n ys) → take (n + k) xs ≡ take (n + k) ys
take_more n k xs ys e f = take-add n k xs ∙ ap₂ (λ (p q : List ℕ). p ++ q) e f ∙ sym (take-add n k ys)

-- whether each of these fields stands right behind the one before it, the first at an offset; and where the last ends
abbrev following : ℕ → List Field → Bool
following at [] = true
following at (f ∷ fs) = eqb f.at at && following (at + f.size) fs

abbrev ending : ℕ → List Field → ℕ
ending at [] = at
ending at (f ∷ fs) = ending (at + f.size) fs

fields_same : (xs ys : List ℕ) (at : ℕ) (fs : List Field) → following at fs ≡ true → take at xs ≡ take at ys
    → ((f : Field) → Among f fs → part f xs ≡ part f ys) → take (ending at fs) xs ≡ take (ending at fs) ys
fields_same xs ys at [] l e h = e
fields_same xs ys at (f ∷ fs) l e h =
    let w = and_true (eqb f.at at) (following (at + f.size) fs) l in
    let g : take f.size (drop at xs) ≡ take f.size (drop at ys) = rw (eqb-true f.at at w.0) at (h f (among_here f fs)) in
    fields_same xs ys (at + f.size) fs w.1 (take_more at f.size xs ys e g) (λ g m. h g (among_right (f ∷ []) fs m))

header_same : (xs ys : List ℕ) → length xs ≡ 240 → length ys ≡ 240 → starts magic_cookie (drop 236 xs) ≡ true → starts magic_cookie (drop 236 ys) ≡ true
    → ((f : Field) → Among f fields → part f xs ≡ part f ys) → xs ≡ ys
header_same xs ys l m s t h =
    let e = fields_same xs ys 0 fields refl refl h in
    let c = starts_true magic_cookie (drop 236 xs) s ∙ sym (starts_true magic_cookie (drop 236 ys) t) in
    sym (take_all 240 xs (omega arith)) ∙ take_more 236 4 xs ys e c ∙ take_all 240 ys (omega arith)

-- ---- the tokens

-- no option is altered, and neither is one behind a token more
abbrev Unaltered : List Token → List Token → Type 0
Unaltered ts us = (c o : ℕ) → Alters c o ts us → ⊥

further : {t u : Token} (p ts us : List Token) → t ≡ u → Unaltered (p ++ (t ∷ ts)) (p ++ (u ∷ us)) → Unaltered (p ++ (t ∷ []) ++ ts) (p ++ (t ∷ []) ++ us)
further {t} p ts us e n c o a = n c o (rw (← e) (rw (append_snoc p t ts, append_snoc p t us) at a))

-- tokens behind the same tokens are the same where their codes are and no body differs
tokens_same : (p ts us : List Token) → codes_of ts ≡ codes_of us → Codes ts → Codes us → Unaltered (p ++ ts) (p ++ us) → ts ≡ us
tokens_same p [] [] e h k n = refl
tokens_same p [] (pad ∷ us) e h k n = let z = head-eq_of_cons-eq e in absurd (omega arith)
tokens_same p [] (opt c b ∷ us) e h k n = absurd (k.1 (sym (head-eq_of_cons-eq e)))
tokens_same p (pad ∷ ts) [] e h k n = let z = head-eq_of_cons-eq e in absurd (omega arith)
tokens_same p (pad ∷ ts) (pad ∷ us) e h k n =
    ap (λ (l : List Token). pad ∷ l) (tokens_same (p ++ (pad ∷ [])) ts us (tail-eq_of_cons-eq e) h k (further p ts us refl n))
tokens_same p (pad ∷ ts) (opt c b ∷ us) e h k n = absurd (k.0 (sym (head-eq_of_cons-eq e)))
tokens_same p (opt c b ∷ ts) [] e h k n = absurd (h.1 (head-eq_of_cons-eq e))
tokens_same p (opt c b ∷ ts) (pad ∷ us) e h k n = absurd (h.0 (head-eq_of_cons-eq e))
tokens_same p (opt c b ∷ ts) (opt d x ∷ us) e h k n =
    let q : c ≡ d = head-eq_of_cons-eq e in
    let t : opt c b ≡ opt d x = ap₂ opt q (not_unlike b x (λ u. n c (suc (count c p)) (alters q u))) in
    ap₂ (λ (t : Token) (l : List Token). t ∷ l) t (tokens_same (p ++ (opt c b ∷ [])) ts us (tail-eq_of_cons-eq e) h.2 k.2 (further p ts us t n))
  where
    alters : c ≡ d → b ≢ x → Alters c (suc (count c p)) (p ++ (opt c b ∷ ts)) (p ++ (opt d x ∷ us))
    alters q u = record {
      body = b;
      other = x;
      in_first = record { front = p; back = ts; splits = refl; number = refl };
      in_second = record { front = p; back = us; splits = ap (λ (m : ℕ). p ++ (opt m x ∷ us)) (sym q); number = refl };
      unlike = u;
    }

-- ---- no difference

-- what is equal differs nowhere
none_differs : (a : Parts) → differences_of a a ≡ []
none_differs a = among_empty (differences_of a a) (λ d m. no d (among_says a a d m))
  where
    no : (d : Difference) → Says a a d → ⊥
    no (differs f) s = s.1 refl
    no (altered c o) s =
        let e = occurs_body c a.tokens s.in_first.number s.in_second in
        let f = occurs_body c a.tokens s.in_first.number s.in_first in
        let same : s.body ≡ s.other = cc in
        s.unlike same
    no (missing c o) s = s.not_there s.body s.there
    no (added c o) s = s.not_there s.body s.there
    no layout (inl n) = n refl
    no layout (inr n) = n refl

-- nothing is said of two messages that pass: they are equal
module _ {first second : List ℕ} {ts us : List Token} {rest more : List ℕ} (p : Passing first ts rest) (q : Passing second us more) where
  abbrev a : Parts
  a = record { header = take 240 first; tokens = ts; rest = rest }

  abbrev b : Parts
  b = record { header = take 240 second; tokens = us; rest = more }

  unsaid_equal : ((d : Difference) → Says a b d → ⊥) → first ≡ second
  unsaid_equal n =
      let fs : (f : Field) → Among f fields → part f (take 240 first) ≡ part f (take 240 second) =
      λ f m. not_unlike _ _ (λ u. n (differs f) (m, u)) in
      let h = header_same (take 240 first) (take 240 second) (header_size_lem p) (header_size_lem q) (header_magic p) (header_magic q) fs in
      let c = not_unlike (codes_of ts) (codes_of us) (λ u. n layout (inl u)) in
      let t = tokens_same [] ts us c (codes p) (codes q) (λ c o. n (altered c o)) in
      let r = not_unlike rest more (λ u. n layout (inr u)) in
      whole p ∙ ap₂ (λ (x y : List ℕ). x ++ y) h (ap₂ (λ (l : List Token) (r : List ℕ). encode l ++ (255 ∷ r)) t r) ∙ sym (whole q)

  same_equals : differences_of (parts_of first) (parts_of second) ≡ [] → first ≡ second
  same_equals e =
      let f : differences_of a b ≡ [] = rw (parts_passed p, parts_passed q) at e in
      unsaid_equal (λ d s. among_none (subst (Among d) f (says_among a b d s)))

-- ---- the lines

-- a line has its newline
line_least : (d : Difference) → 1 ≤ length (line_of d)
unfolding option_line
line_least (differs f) = rw length-append (omega arith)
line_least (altered c o) = rw length-append (omega arith)
line_least (missing c o) = rw length-append (omega arith)
line_least (added c o) = rw length-append (omega arith)
line_least layout = omega arith

-- where there is one line, whichever it is, nothing stands before it: by the lengths, and since `covered bytes differ` doesn't end with `relay only`
nothing_before : (front : List ℕ) (r last : Bool) → front ++ last_line r ≡ last_line last → length front ≡ 0
nothing_before front true true e = let n = ap length e in let a = length-append front relay_only_line in omega arith
nothing_before front false false e = let n = ap length e in let a = length-append front covered_differ_line in omega arith
nothing_before front false true e = let n = ap length e in let a = length-append front covered_differ_line in omega arith
nothing_before front true false e =
    let n = ap length e in
    let a = length-append front relay_only_line in
    let ten : length front ≡ 10 = omega arith in
    let byte : 114 ≡ get_or covered_differ_line 10 0 =
    sym (get_or-append-add front relay_only_line 0 0) ∙ ap₂ (λ (l : List ℕ) (k : ℕ). get_or l k 0) e (add-zero (length front) ∙ ten) in
    absurd (omega arith)

one_says : (ds : List Difference) (r last : Bool) → lines_of ds ++ last_line r ≡ last_line last → ds ≡ []
unfolding lines_of
one_says [] r last e = refl
one_says (d ∷ ds) r last e =
    let n = nothing_before (line_of d ++ lines_of ds) r last e in
    let b = length-append (line_of d) (lines_of ds) in
    let l = line_least d in
    absurd (omega arith)

equal_line : (a : Parts) → text_of a a ≡ relay_only_line
unfolding text_of lines_of relay_only
equal_line a = rw (none_differs a, equal_same (stripped a) (stripped a) refl)

module _ (first second : List ℕ) (h : Passes27 first) (k : Passes27 second) where
  none_equals : differences_of (parts_of first) (parts_of second) ≡ [] → first ≡ second
  none_equals =
      let t = tokens_of first h in
      let u = tokens_of second k in
      same_equals (passing first t.tokens t.rest t.checked) (passing second u.tokens u.rest u.checked)

  line_equals : (last : Bool) → text_for first second ≡ last_line last → first ≡ second
  unfolding text_for text_of
  line_equals last e = none_equals (one_says (differences_of (parts_of first) (parts_of second)) (relay_only (parts_of first) (parts_of second)) last e)

equals_line : (first second : List ℕ) → first ≡ second → text_for first second ≡ relay_only_line
unfolding text_for
equals_line first second e = rw (← e) (equal_line (parts_of first))

pub equal_says : EqualSays
equal_says = record {
  nothing_differs = λ first second h k. (none_equals first second h k, λ e. rw (← e) (none_differs (parts_of first)));
  one_line = λ first second h k. (λ t. line_equals first second h k t.0 t.1, λ e. (true, equals_line first second e));
  equal_line = equals_line;
}
