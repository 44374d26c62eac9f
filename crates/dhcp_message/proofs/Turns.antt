-- The code's pass over the options, turn by turn: what stands at an offset, what is found with one option more, and the scan's invariant.
use mathlib.Core.Path.{◌≡◌, refl, sym, ap, ap₂, ◌∙◌, fun_ext}
use mathlib.Core.Logic.{◌≢◌, ◌⊎◌, inl, inr}
use Prim.Native.Nat.{ℕ, suc, ◌+◌, ◌-◌, ◌≤◌, ◌<◌}
use native.Mathlib.Omega.{arith}
use mathlib.Core.Bool.{Bool, true, false, cond}
use mathlib.Core.List.{List, [], ◌∷◌}
use lib.ListN.{length, take, drop, length-drop, drop_of_length-le}
use lib.Seq.{length-take-le, drop-drop}
use lib.Dec.{leb, eqb}
use borrow.Author.Tests.{ne_eqb, eq-eqb, leb-true}
use Rattle.dhcp_message.specs.Options.{pad, opt, Parsed, broken, parsed, body, option, code, with_token, step, decode}
use Rattle.dhcp_message.specs.Standing.{lead_of, here_of, here_at, behind, GivesHere}
use Rattle.dhcp_message.specs.declared.Options.{Options}
use Rattle.dhcp_message.specs.Scan.{seen90, seen82, seen_of, scan_parsed, empty_tally, scan_of}
use Rattle.dhcp_message.specs.declared.Here.{Here}
use Rattle.dhcp_message.specs.declared.Here.TheVariants.{Broken as HBroken, End as HEnd, Pad as HPad, Opt as HOpt}
use Rattle.dhcp_message.specs.declared.scan.Tally.{Tally}
use Rattle.dhcp_message.proofs.Decoding.{decode_cons, decode_nil}
use Rattle.std.specs.Prelude.{None}
use Rattle.dhcp_message.specs.Scan.{scan_to}

-- nothing stands past the end
pub here_past : (s : List ℕ) (at : ℕ) → length s ≤ at → HBroken ≡ here_at s at
unfolding here_at
here_past s at h = rw (drop_of_length-le s h)

-- ---- reading goes on by what stands in front

-- `from k` are the bytes behind the next k
abbrev pub read_on : (ℕ → List ℕ) → Here → Parsed
read_on from HBroken = broken
read_on from HEnd = parsed [] (from 1)
read_on from HPad = with_token pad (decode (from 1))
read_on from (HOpt c n) = with_token (opt c (take (n - 2) (from 2))) (decode (from n))

module _ (c : ℕ) where
  on_body : (n : ℕ) (ys : List ℕ) (t : Bool) → leb n (length ys) ≡ t
      → step (λ k. decode (drop k (n ∷ ys))) (n ∷ ys) (body c ys n t) ≡ read_on (λ k. drop k (c ∷ n ∷ ys)) (here_of (body c ys n t))
  on_body n ys false l = refl
  on_body n ys true l =
      let k = length-take-le n ys (leb-true _ _ l) in
      let taken : n ≡ 2 + length (take n ys) - 2 = omega arith in
      let behind : suc (suc n) ≡ 2 + length (take n ys) = omega arith in
      ap₂ (λ (i j : ℕ). with_token (opt c (take i ys)) (decode (drop j (c ∷ n ∷ ys)))) taken behind

  on_option : (xs : List ℕ) → step (λ k. decode (drop k xs)) xs (option c xs) ≡ read_on (λ k. drop k (c ∷ xs)) (here_of (option c xs))
  on_option [] = refl
  on_option (n ∷ ys) = on_body n ys (leb n (length ys)) refl

  on_code : (xs : List ℕ) (z e : Bool) → step (λ k. decode (drop k xs)) xs (code c xs z e) ≡ read_on (λ k. drop k (c ∷ xs)) (here_of (code c xs z e))
  on_code xs true e = refl
  on_code xs false true = refl
  on_code xs false false = on_option xs

on_lead : (xs : List ℕ) → decode xs ≡ read_on (λ k. drop k xs) (here_of (lead_of xs))
on_lead [] = decode_nil
on_lead (c ∷ xs) = decode_cons c xs ∙ on_code c xs (eqb c 0) (eqb c 255)

pub on_here : (m : List ℕ) (at : ℕ) (h : Here) → h ≡ here_at m at → decode (drop at m) ≡ read_on (λ n. drop (at + n) m) h
unfolding here_at
on_here m at h e =
    on_lead (drop at m) ∙ ap₂ (λ (from : ℕ → List ℕ) (h : Here). read_on from h) (fun_ext (λ n. drop-drop n at m)) (sym e)

-- what stands in front is within the bytes
abbrev Within : ℕ → Here → Type 0
Within n HBroken = Unit {0}
Within n HEnd = 1 ≤ n
Within n HPad = 1 ≤ n
Within n (HOpt c k) = (2 ≤ k) × (k ≤ n)

within_body : (c n : ℕ) (ys : List ℕ) (t : Bool) → leb n (length ys) ≡ t → Within (length (c ∷ n ∷ ys)) (here_of (body c ys n t))
within_body c n ys false l = tt
within_body c n ys true l =
    let h : n ≤ length ys = leb-true _ _ l in
    rw (length-take-le n ys h) (omega arith)

within_code : (c : ℕ) (xs : List ℕ) (z e : Bool) → Within (length (c ∷ xs)) (here_of (code c xs z e))
within_code c xs true e = omega arith
within_code c xs false true = omega arith
within_code c [] false false = tt
within_code c (n ∷ ys) false false = within_body c n ys (leb n (length ys)) refl

within_lead : (xs : List ℕ) → Within (length xs) (here_of (lead_of xs))
within_lead [] = tt
within_lead (c ∷ xs) = within_code c xs (eqb c 0) (eqb c 255)

within : (m : List ℕ) (at : ℕ) (h : Here) → h ≡ here_at m at → Within (length m - at) h
unfolding here_at
within m at h e = rw (e, ← length-drop at m) (within_lead (drop at m))

pub end_fits : (m : List ℕ) (at : ℕ) → HEnd ≡ here_at m at → at + 1 ≤ length m
end_fits m at e = let w : 1 ≤ length m - at = within m at HEnd e in omega arith

pub pad_fits : (m : List ℕ) (at : ℕ) → HPad ≡ here_at m at → at + 1 ≤ length m
pad_fits m at e = let w : 1 ≤ length m - at = within m at HPad e in omega arith

pub opt_fits : (m : List ℕ) (at c n : ℕ) → HOpt c n ≡ here_at m at → (2 ≤ n) × (at + n ≤ length m)
opt_fits m at c n e =
    let w : (2 ≤ n) × (n ≤ length m - at) = within m at (HOpt c n) e in
    let a = w.0 in
    let b = w.1 in
    (a, omega arith)

-- ---- a scan goes on by what stands in front

module _ (f : Tally) (at : ℕ) where
  scan_pad : (p : Parsed) → scan_parsed f at (with_token pad p) ≡ scan_parsed f (at + 1) p
  scan_pad broken = refl
  scan_pad (parsed ts r) = refl

  scan_opt : (c : ℕ) (b : List ℕ) (n : ℕ) (p : Parsed) → 2 + length b ≡ n
      → scan_parsed f at (with_token (opt c b) p) ≡ scan_parsed (seen_of f c at n) (at + n) p
  scan_opt c b n broken e = refl
  scan_opt c b n (parsed ts r) e = ap (λ (k : ℕ). scan_parsed (seen_of f c at k) (at + k) (parsed ts r)) e

-- a body has the bytes that its option takes less two
pub body_size : (m : List ℕ) (at c n : ℕ) → HOpt c n ≡ here_at m at → 2 + length (take (n - 2) (drop (at + 2) m)) ≡ n
body_size m at c n e =
    let l = opt_fits m at c n e in
    let k = length-drop (at + 2) m in
    let t = length-take-le (n - 2) (drop (at + 2) m) (omega arith) in
    omega arith

-- ---- one option more

module _ (f : Tally) (c at n : ℕ) where
  pub seen_auth : c ≡ 90 → seen90 f at ≡ seen_of f c at n
  unfolding seen_of
  seen_auth h = rw (eq-eqb _ _ h)

  pub seen_relay : c ≢ 90 → c ≡ 82 → seen82 f at n ≡ seen_of f c at n
  unfolding seen_of
  seen_relay k h = rw (ne_eqb _ _ k, eq-eqb _ _ h)

  pub seen_other : c ≢ 90 → c ≢ 82 → f ≡ seen_of f c at n
  unfolding seen_of
  seen_other k h = rw (ne_eqb _ _ k, ne_eqb _ _ h)

  abbrev Most : Tally → Type 0
  Most g = (g.n90 ≤ f.n90 + 1) × (g.n82 ≤ f.n82 + 1)

  seen_most : Most (seen_of f c at n)
  unfolding seen_of
  seen_most = by (eqb c 90) (eqb c 82)
    where
      by : (x y : Bool) → Most (cond x (seen90 f at) (cond y (seen82 f at n) f))
      by true y = omega arith
      by false true = omega arith
      by false false = omega arith

-- ---- the options one after another, of a known message

module _ {m : List ℕ} (s : Options) (i : s.message.now ≡ m) where
  pub none_stands : HBroken ≡ here_at s.message.now s.at → HBroken ≡ here_at m s.at
  none_stands e = e ∙ ap (λ (x : List ℕ). here_at x s.at) i

  module _ (t : Options) (at : ℕ) (h : Here) (g : GivesHere s at h t) where
    pub stands : h ≡ here_at m s.at
    stands = g.stands ∙ ap (λ (x : List ℕ). here_at x s.at) i

    pub next : t.at ≡ behind (length m) s.at h
    next = g.next ∙ ap (λ (x : List ℕ). behind (length x) s.at h) i

    pub option_fits : {c n : ℕ} → h ≡ HOpt c n → (2 ≤ n) × (at + n ≤ length m)
    option_fits e = rw g.place (opt_fits m s.at _ _ (sym e ∙ stands))

-- ---- the invariant

-- what is still to be scanned, begun with what was found, gives the whole answer
pub record Scanning (m : List ℕ) (f : Tally) (s : Options) : Type 0 where
  pub same : s.message.now ≡ m
  pub whole : scan_parsed f s.at (decode (drop s.at m)) ≡ scan_of m
  pub within : s.at ≤ 240 + length m
  pub few90 : f.n90 ≤ s.at
  pub few82 : f.n82 ≤ s.at

pub head_start : (m : List ℕ) → scan_parsed empty_tally 240 (decode (drop 240 m)) ≡ scan_of m
unfolding scan_of
head_start m = refl

pub scan_start : (m : List ℕ) (s : Options) → s.message.now ≡ m → s.at ≡ 240 → Scanning m empty_tally s
scan_start m s i e = record {
  same = i;
  whole = ap (λ (n : ℕ). scan_parsed empty_tally n (decode (drop n m))) e ∙ head_start m;
  within = omega arith;
  few90 = omega arith;
  few82 = omega arith;
}

module _ {m : List ℕ} {f : Tally} (s : Options) (i : Scanning m f s) where
  pub turn_none : HBroken ≡ here_at s.message.now s.at → None ≡ scan_of m
  turn_none e = sym (ap (scan_parsed f s.at) (on_here m s.at HBroken (none_stands s i.same e))) ∙ i.whole

  module _ (t : Options) (at : ℕ) (h : Here) (g : GivesHere s at h t) where
    abbrev here : h ≡ here_at m s.at
    here = stands s i.same t at h g

    pub turn_end : h ≡ HEnd → scan_to f at ≡ scan_of m
    turn_end e =
        ap (scan_to f) g.place ∙ sym (ap (scan_parsed f s.at) (on_here m s.at HEnd (sym e ∙ here))) ∙ i.whole

    -- the same was found, and is still to be scanned with the same answer
    again : scan_parsed f t.at (decode (drop t.at m)) ≡ scan_of m → t.at ≤ 240 + length m → s.at ≤ t.at → Scanning m f t
    again w l k =
        let a = i.few90 in
        let b = i.few82 in
        record { same = g.same ∙ i.same; whole = w; within = omega arith; few90 = omega arith; few82 = omega arith }

    pub turn_pad : (h ≡ HPad) ⊎ (h ≡ HBroken) → Scanning m f t
    turn_pad (inl e) =
        let o = sym e ∙ here in
        let l = pad_fits m s.at o in
        let n : t.at ≡ s.at + 1 = rw e at (next s i.same t at h g) in
        let p = scan_pad f s.at (decode (drop (s.at + 1) m)) in
        let w = sym (ap (scan_parsed f s.at) (on_here m s.at HPad o) ∙ p) ∙ i.whole in
        again (rw n w) (omega arith) (omega arith)
    turn_pad (inr e) =
        let n : t.at ≡ s.at = rw e at (next s i.same t at h g) in
        let k = i.within in
        again (rw n i.whole) (omega arith) (omega arith)

    module _ {c n : ℕ} (e : h ≡ HOpt c n) where
      abbrev opt_here : HOpt c n ≡ here_at m s.at
      opt_here = sym e ∙ here

      pub few : (f.n90 < length m) × (f.n82 < length m)
      few =
          let l = opt_fits m s.at c n opt_here in
          let a = i.few90 in
          let b = i.few82 in
          omega arith

      pub turn_opt : {v : Tally} → v ≡ seen_of f c at n → Scanning m v t
      turn_opt {v} ev =
          let l = opt_fits m s.at c n opt_here in
          let k : t.at ≡ s.at + n = rw e at (next s i.same t at h g) in
          let v₁ : v ≡ seen_of f c s.at n = rw g.place at ev in
          let x = seen_most f c s.at n in
          let a = i.few90 in
          let b = i.few82 in
          let p = scan_opt f s.at c (take (n - 2) (drop (s.at + 2) m)) n (decode (drop (s.at + n) m)) (body_size m s.at c n opt_here) in
          record {
            same = g.same ∙ i.same;
            whole = rw (v₁, k) (sym (ap (scan_parsed f s.at) (on_here m s.at (HOpt c n) opt_here) ∙ p) ∙ i.whole);
            within = omega arith;
            few90 = rw v₁ (omega arith);
            few82 = rw v₁ (omega arith);
          }
