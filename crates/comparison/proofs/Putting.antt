-- The turns of `put_options`: what is said of the options passed stands in the room, and their codes are counted.
use mathlib.Core.Path.{◌≡◌, refl, sym, ap, ◌∙◌}
use mathlib.Core.Logic.{◌≢◌, ◌⊎◌, inl, inr}
use mathlib.Core.Bool.{Bool, true, false, cond}
use Prim.Native.Nat.{ℕ, suc, ◌+◌, ◌-◌, ◌≤◌, ◌<◌}
use native.Mathlib.Omega.{arith}
use mathlib.Core.List.{List, [], ◌∷◌, ◌++◌, append_assoc, append-nil}
use lib.ListN.{length, take, drop, get_or, set, replicate, length-append, length-set, get_or-replicate}
use lib.Seq.{get_or-set_same, get_or-set_other}
use lib.Dec.{eqb}
use borrow.Author.Tests.{eqb-true, eqb-false}
use Rattle.octets.proofs.Written.{length_written}
use Rattle.verdict_line.specs.Line.{PutAt}
use Rattle.verdict_line.proofs.Places.{put_next}
use Rattle.dhcp_message.specs.Options.{Token, pad, opt}
use Rattle.dhcp_message.specs.Message.{count, Passes27}
use Rattle.dhcp_message.specs.Standing.{here_at, GivesHere}
use Rattle.dhcp_message.specs.declared.Here.{Here}
use Rattle.dhcp_message.specs.declared.Here.TheVariants.{Broken, Opt}
use Rattle.dhcp_message.specs.declared.Options.{Options}
use Rattle.dhcp_message.proofs.Tokens.{count_append}
use Rattle.dhcp_message.proofs.Turns.{next, option_fits}
use Rattle.comparison.specs.declared.Side.{Side}
use Rattle.comparison.specs.Difference.{Difference, parts_of, body_at, said_of, options_differing, lines_of}
use Rattle.comparison.proofs.Reading.{passing_parts}
use Rattle.comparison.proofs.Walking.{Onward, Left, from_options, left_at, none_left, left_other, left_option}
use Rattle.comparison.proofs.OptionLines.{lines_append, no_lines, put_nothing}

-- the laws of `options_differing`
module _ (side : Side) (before other : List Token) where
  options_none : options_differing side before [] other ≡ []
  unfolding options_differing
  options_none = refl

  options_pad : (ts : List Token) → options_differing side before (pad ∷ ts) other ≡ options_differing side before ts other
  unfolding options_differing
  options_pad ts = refl

  options_more : (c : ℕ) (b : List ℕ) (ts : List Token)
      → options_differing side before (opt c b ∷ ts) other
      ≡ said_of side c (suc (count c before)) b (body_at c (count c before) other) ++ options_differing side (before ++ (opt c b ∷ [])) ts other
  unfolding options_differing
  options_more c b ts = refl

-- one option more, counted by its code among the tokens and in the slots
more_of : (d c : ℕ) (b : List ℕ) (before : List Token) → count d (before ++ (opt c b ∷ [])) ≡ count d before + cond (eqb c d) 1 0
more_of d c b before = count_append d before (opt c b ∷ []) ∙ omega arith

more_in : (counts : List ℕ) (c : ℕ) → c < length counts → (d : ℕ) (x : Bool) → eqb c d ≡ x
    → get_or (set counts c (get_or counts c 0 + 1)) d 0 ≡ get_or counts d 0 + cond x 1 0
more_in counts c l d true e = let i = eqb-true c d e in rw (← i) (get_or-set_same counts c (get_or counts c 0 + 1) 0 l)
more_in counts c l d false e = get_or-set_other counts c d (get_or counts c 0 + 1) 0 (λ j. eqb-false c d e (sym j)) ∙ omega arith

most_one : (x : Bool) → cond x 1 0 ≤ 1
most_one true = omega arith
most_one false = omega arith

module _ (side : Side) (m other old : List ℕ) (start : ℕ) where
  abbrev us : List Token
  us = (parts_of other).tokens

  -- all that is to be put
  abbrev pub text : List ℕ
  text = lines_of (options_differing side [] (parts_of m).tokens us)

  pub record Putting (out counts : List ℕ) (at : ℕ) (s : Options) : Type 0 where
    pub before : List Token
    pub tokens : List Token
    pub rest : List ℕ
    pub here : Left m s tokens rest
    pub made : List ℕ
    pub put : PutAt old start made out at
    pub whole : made ++ lines_of (options_differing side before tokens us) ≡ text
    pub counted : (c : ℕ) → c < 256 → get_or counts c 0 ≡ count c before
    pub few : (c : ℕ) → count c before ≤ s.at
    pub long : length out ≡ length old
    pub slots : length counts ≡ 256
    pub short : length m ≤ 1472

  pub putting_start : Passes27 m → (s : Options) → s.message.now ≡ m → s.at ≡ 240 → Putting old (replicate 256 0) start s
  putting_start h s i e = record {
    before = [];
    tokens = (parts_of m).tokens;
    rest = (parts_of m).rest;
    here = left_at (from_options h s i e);
    made = [];
    put = put_nothing old start;
    whole = refl;
    counted = λ c l. get_or-replicate 256 c 0 0 l;
    few = λ c. omega arith;
    long = refl;
    slots = refl;
    short = (passing_parts m h).short;
  }

module _ {side : Side} {m other old : List ℕ} {start : ℕ} {out counts : List ℕ} {at : ℕ} (s : Options) where
  module _ (p : Putting side m other old start out counts at s) where
    abbrev ours : List Token
    ours = us side m other old start

    abbrev all : List ℕ
    all = text side m other old start

    pub put_none : Broken ≡ here_at s.message.now s.at → PutAt old start all out at
    put_none e =
        let t = none_left s p.here e in
        let none = ap (λ (ts : List Token). lines_of (options_differing side p.before ts ours)) t ∙ ap lines_of (options_none side p.before ours) ∙ no_lines in
        let w : p.made ++ [] ≡ all = ap (λ (x : List ℕ). p.made ++ x) (sym none) ∙ p.whole in
        rw (← w, append-nil p.made) p.put

    module _ (t : Options) (from : ℕ) (h : Here) (g : GivesHere s from h t) where
      pub put_past : ((d n : ℕ) → h ≢ Opt d n) → Putting side m other old start out counts at t
      put_past n =
          let o = left_other s p.here t from h g n in
          record {
            before = p.before;
            tokens = o.left;
            rest = p.rest;
            here = o.behind;
            made = p.made;
            put = p.put;
            whole = ap (λ (ds : List Difference). p.made ++ lines_of ds) (same_past o.left o.first) ∙ p.whole;
            counted = p.counted;
            few = λ c. let f = p.few c in omega (arith, o.further);
            long = p.long;
            slots = p.slots;
            short = p.short;
          }
        where
          same_past : (ts : List Token) → (p.tokens ≡ ts) ⊎ (p.tokens ≡ pad ∷ ts)
              → options_differing side p.before ts ours ≡ options_differing side p.before p.tokens ours
          same_past ts (inl e) = ap (λ (ts : List Token). options_differing side p.before ts ours) (sym e)
          same_past ts (inr e) =
              sym (options_pad side p.before ours ts) ∙ ap (λ (ts : List Token). options_differing side p.before ts ours) (sym e)

      module _ {c n : ℕ} (byte : c < 256) (e : h ≡ Opt c n) where
        -- how many of the code stand before, as the code has it, and the body
        abbrev k : ℕ
        k = get_or counts c 0

        abbrev pub body : List ℕ
        body = take (from + n - (from + 2)) (drop (from + 2) m)

        abbrev pub said : List ℕ
        said = lines_of (said_of side c (suc k) body (body_at c k ours))

        abbrev on : Onward m (opt c body) t p.tokens p.rest
        on = left_option s p.here t from h g e

        abbrev passed : List Token
        passed = p.before ++ (opt c body ∷ [])

        behind : (p.made ++ said) ++ lines_of (options_differing side passed on.left ours) ≡ all
        behind =
            append_assoc p.made said (lines_of (options_differing side passed on.left ours))
            ∙ ap (λ (x : List ℕ). p.made ++ x)
            (sym (lines_append (said_of side c (suc k) body (body_at c k ours)) (options_differing side passed on.left ours)))
            ∙ ap (λ (j : ℕ). p.made ++ lines_of (said_of side c (suc j) body (body_at c j ours) ++ options_differing side passed on.left ours))
            (p.counted c byte)
            ∙ ap (λ (ds : List Difference). p.made ++ lines_of ds) (sym (options_more side p.before ours c body on.left))
            ∙ ap (λ (ts : List Token). p.made ++ lines_of (options_differing side p.before ts ours)) (sym on.first) ∙ p.whole

        -- as many as offsets were passed at the most
        pub counts_small : k ≤ 1472
        counts_small =
            let f = p.few c in
            let w = p.here.within in
            let l = p.short in
            omega (arith, p.counted c byte)

        module _ (room : start + length all ≤ length old) where
          pub said_fits : at + length said ≤ length out
          said_fits =
              let w = ap length behind in
              let g = p.put.place in
              let l = p.long in
              omega (arith, simp length-append at w)

          -- one option more
          pub put_option : {new : List ℕ} {r : ℕ} → PutAt out at said new r → Putting side m other old start new (set counts c (k + 1)) r t
          put_option {new} {r} q =
              let f = said_fits in
              let l = p.long in
              let i = p.put.place in
              let a : t.at ≡ s.at + n = rw e at (next s p.here.same t from h g) in
              record {
                before = passed;
                tokens = on.left;
                rest = p.rest;
                here = left_at on.behind;
                made = p.made ++ said;
                put = put_next (omega arith) p.put q;
                whole = behind;
                counted = λ d b.
                    more_in counts c (omega (arith, p.slots)) d (eqb c d) refl ∙ ap (λ (j : ℕ). j + cond (eqb c d) 1 0) (p.counted d b)
                    ∙ sym (more_of d c body p.before);
                few = λ d.
                    let j = option_fits s p.here.same t from h g e in
                    let h = p.few d in
                    let o = most_one (eqb c d) in
                    omega (arith, more_of d c body p.before);
                long = ap length q.content ∙ length_written at said out f ∙ p.long;
                slots = length-set counts c (k + 1) ∙ p.slots;
                short = p.short;
              }
