-- The layout of a message: the turns of `layout_of`, and that layouts are the same where their bytes are.
use mathlib.Core.Path.{◌≡◌, refl, sym, ap, ◌∙◌}
use mathlib.Core.Bool.{Bool, true, false, ◌&&◌}
use Prim.Native.Nat.{ℕ, ◌+◌, ◌-◌, ◌≤◌, ◌<◌}
use native.Mathlib.Omega.{arith}
use mathlib.Core.List.{List, [], ◌∷◌, ◌++◌, append_assoc}
use lib.ListN.{length, take, drop, set, length-set, length-drop}
use lib.Seq.{take_all}
use lib.Dec.{eqb}
use borrow.Author.Tests.{ne_eqb}
use Rattle.octets.specs.Bytes.{written, same_bytes}
use Rattle.octets.proofs.Comparing.{and_assoc}
use Rattle.verdict_line.specs.Line.{PutAt}
use Rattle.verdict_line.proofs.Places.{put_next, put_one}
use Rattle.dhcp_message.specs.Options.{Token, pad, opt}
use Rattle.dhcp_message.specs.Message.{Passes27}
use Rattle.dhcp_message.specs.Standing.{here_at, GivesHere}
use Rattle.dhcp_message.specs.declared.Here.{Here}
use Rattle.dhcp_message.specs.declared.Options.{Options}
use Rattle.dhcp_message.specs.declared.Here.TheVariants.{Broken, End, Pad, Opt}
use Rattle.dhcp_message.proofs.Decoding.{Codes, encode_decode}
use Rattle.dhcp_message.proofs.Passing.{codes}
use Rattle.dhcp_message.proofs.Turns.{none_stands, next, option_fits}
use Rattle.comparison.specs.Difference.{Parts, parts_of, layout, codes_of, same_layout, layout_differing, layout_line, lines_of}
use Rattle.comparison.specs.Walk.{layout_bytes}
use Rattle.comparison.proofs.Reading.{passing_parts}
use Rattle.comparison.proofs.OptionLines.{no_lines, one_line, put_nothing}
use Rattle.comparison.proofs.Walking.{At, Onward, from_options, not_broken, at_end, at_pad, at_option}

-- ---- the pass

-- the codes before an offset stand in the room, and with those behind it and the bytes after End they are the layout
pub record Laying (m old out : List ℕ) (at : ℕ) (s : Options) : Type 0 where
  pub tokens : List Token
  pub rest : List ℕ
  pub here : At m s tokens rest
  pub made : List ℕ
  pub put : PutAt old 0 made out at
  pub whole : made ++ (codes_of tokens ++ rest) ≡ layout_bytes (parts_of m)
  pub long : length out ≡ length old
  pub fits : at + (length m - s.at) < length old

pub laying_start : {m old : List ℕ} → Passes27 m → length m ≤ length old → (s : Options) → s.message.now ≡ m → s.at ≡ 240 → Laying m old old 0 s
unfolding layout_bytes
laying_start {m} {old} h room s i e = record {
  tokens = (parts_of m).tokens;
  rest = (parts_of m).rest;
  here = from_options h s i e;
  made = [];
  put = put_nothing old 0;
  whole = refl;
  long = refl;
  fits = omega (arith, (passing_parts m h).long);
}

module _ {m old out : List ℕ} {at : ℕ} (s : Options) (l : Laying m old out at s) where
  -- what `layout_of` promises
  abbrev Laid : List ℕ → ℕ → Type 0
  Laid new r = PutAt old 0 (layout_bytes (parts_of m)) new r × (r ≤ length old)

  pub lay_none : {r : ℕ} → Broken ≡ here_at s.message.now s.at → Laid out r
  lay_none e = absurd (not_broken s l.here (none_stands s l.here.same e))

  module _ (t : Options) (from : ℕ) (h : Here) (g : GivesHere s from h t) where
    -- End and the bytes after it are copied
    pub lay_end : {new : List ℕ} → h ≡ End → new ≡ written at (take (length m - from) (drop from m)) out → Laid new (at + (length m - from))
    lay_end {new} e f =
        let u = at_end s l.here t from h g e in
        let reads = rw (← g.place) at l.here.reads in
        let d : drop from m ≡ 255 ∷ l.rest = sym (rw u at (encode_decode (drop from m) l.tokens l.rest reads).0) in
        let w : l.made ++ drop from m ≡ layout_bytes (parts_of m) =
        ap (λ (x : List ℕ). l.made ++ x) d ∙ ap (λ (us : List Token). l.made ++ (codes_of us ++ l.rest)) (sym u) ∙ l.whole in
        let n = length-drop from m in
        let p = l.put.place in
        let k = l.fits in
        let i = g.place in
        let q : PutAt out at (drop from m) new (at + (length m - from)) = record {
          place = omega arith;
          content = f ∙ ap (λ (x : List ℕ). written at x out) (take_all (length m - from) (drop from m) (omega arith));
        } in
        (rw w at (put_next (omega arith) l.put q), omega arith)

    -- one code more
    laid : (v : Token) (c : ℕ) → ((us : List Token) → codes_of (v ∷ us) ≡ c ∷ codes_of us) → s.at < t.at → Onward m v t l.tokens l.rest
        → Laying m old (set out at c) (at + 1) t
    laid v c more far o =
        let g = l.put.place in
        let k = l.fits in
        let h = l.long in
        let n = o.behind.within in
        record {
          tokens = o.left;
          rest = l.rest;
          here = o.behind;
          made = l.made ++ (c ∷ []);
          put = put_next (omega arith) l.put (put_one (omega arith));
          whole =
              append_assoc l.made (c ∷ []) (codes_of o.left ++ l.rest)
              ∙ ap (λ (x : List ℕ). l.made ++ (x ++ l.rest)) (sym (more o.left))
              ∙ ap (λ (us : List Token). l.made ++ (codes_of us ++ l.rest)) (sym o.first) ∙ l.whole;
          long = length-set out at c ∙ l.long;
          fits = omega arith;
        }

    pub lay_pad : h ≡ Pad → Laying m old (set out at 0) (at + 1) t
    lay_pad e =
        let k : t.at ≡ s.at + 1 = rw e at (next s l.here.same t from h g) in
        laid pad 0 (λ us. refl) (omega arith) (at_pad s l.here t from h g e)

    pub lay_option : {c n : ℕ} → h ≡ Opt c n → Laying m old (set out at c) (at + 1) t
    lay_option {c} {n} e =
        let k : t.at ≡ s.at + n = rw e at (next s l.here.same t from h g) in
        let f = option_fits s l.here.same t from h g e in
        laid (opt c _) c (λ us. refl) (omega arith) (at_option s l.here t from h g e)

-- ---- layouts are the same where their bytes are: no code before End's is End's

further : (x a b c : Bool) → a ≡ (b && c) → (x && a) ≡ ((x && b) && c)
further x a b c e = ap (λ (y : Bool). x && y) e ∙ sym (and_assoc x b c)

same_codes : (r s : List ℕ) (ts us : List Token) → Codes ts → Codes us
    → same_bytes (codes_of ts ++ r) (codes_of us ++ s) ≡ (same_bytes (codes_of ts) (codes_of us) && same_bytes r s)
unfolding same_bytes
same_codes r s [] [] h k = refl
same_codes r s [] (pad ∷ us) h k = refl
same_codes r s [] (opt c b ∷ us) h k = rw (ne_eqb 255 c (λ e. k.1 (sym e)))
same_codes r s (pad ∷ ts) [] h k = refl
same_codes r s (pad ∷ ts) (pad ∷ us) h k = same_codes r s ts us h k
same_codes r s (pad ∷ ts) (opt c b ∷ us) h k = further (eqb 0 c) _ _ _ (same_codes r s ts us h k.2)
same_codes r s (opt c b ∷ ts) [] h k = rw (ne_eqb c 255 h.1)
same_codes r s (opt c b ∷ ts) (pad ∷ us) h k = further (eqb c 0) _ _ _ (same_codes r s ts us h.2 k)
same_codes r s (opt c b ∷ ts) (opt d a ∷ us) h k = further (eqb c d) _ _ _ (same_codes r s ts us h.2 k.2)

pub same_laid : (first second : List ℕ) → Passes27 first → Passes27 second
    → same_bytes (layout_bytes (parts_of first)) (layout_bytes (parts_of second)) ≡ same_layout (parts_of first) (parts_of second)
unfolding layout_bytes same_layout
same_laid first second h k =
    same_codes (parts_of first).rest (parts_of second).rest (parts_of first).tokens (parts_of second).tokens (codes (passing_parts first h))
    (codes (passing_parts second k))

-- ---- the line

module _ (a b : Parts) where
  pub no_layout_line : same_layout a b ≡ true → lines_of (layout_differing a b) ≡ []
  unfolding layout_differing
  no_layout_line e = rw e no_lines

  pub layout_line_lem : same_layout a b ≡ false → lines_of (layout_differing a b) ≡ layout_line
  unfolding layout_differing
  layout_line_lem e = rw e (one_line layout)
