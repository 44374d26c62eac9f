-- `relay only` is said exactly where the second message comes of the first by permitted relay changes: each of these keeps what is left with hops and giaddr
-- zero and without option 82; and where that is equal, the second message is the first with the second's own hops, giaddr and option 82, if it has one.
use mathlib.Core.Path.{◌≡◌, refl, sym, ap, ◌∙◌, subst}
use Prim.Native.Nat.{ℕ, ◌≤◌}
use native.Mathlib.Decide.{dec_le}
use native.Mathlib.Omega.{arith}
use mathlib.Core.Bool.{Bool, true, false}
use mathlib.Core.Logic.{◌↔◌}
use mathlib.Core.List.{List, ◌∷◌, ◌++◌, append_assoc}
use lib.ListN.{length, take, drop, length-append, length-drop}
use lib.Seq.{length-take-le}
use Rattle.octets.specs.Bytes.{Bytes, zeros}
use Rattle.octets.proofs.Elements.{bytes_left, bytes_right, bytes_take, bytes_drop}
use Rattle.dhcp_message.specs.Options.{Token, encode, Reads}
use Rattle.dhcp_message.specs.Message.{count, Passes27}
use Rattle.dhcp_message.specs.Image.{without, head_with, head_zero}
use Rattle.dhcp_message.specs.Relay.{Permitted, Relayed, unchanged, changed, WhereFits}
use Rattle.dhcp_message.proofs.Decoding.{decode_reads}
use Rattle.dhcp_message.proofs.Tokens.{Split, split, encode_append, without_none, without_at}
use Rattle.dhcp_message.proofs.Passing.{Passing, passing_27, header_size_lem, whole, around}
use Rattle.dhcp_message.proofs.Headers.{head_over, head_own}
use Rattle.dhcp_message.proofs.Relays.{before, after, header_kept, tokens_kept, relay_may}
use Rattle.comparison.specs.Difference.{parts_of}
use Rattle.comparison.specs.Difference.{differences_of, relay_only, relay_only_line, lines_of, last_line, text_of}
use Rattle.comparison.specs.Entry.{text_for}
use Rattle.comparison.specs.Laws.{Alike, RelayOnlySays}
use Rattle.comparison.proofs.Reading.{parts_passed, header_parts, passing_parts}
use Rattle.comparison.proofs.Stripping.{relay_alike}
use Rattle.comparison.proofs.RelayMarks.{alike_names}

-- ---- after permitted changes: alike

alike_once : {m n : List ℕ} → Permitted m n → Alike (parts_of m) (parts_of n)
alike_once r =
    rw (parts_passed (before r), parts_passed (after r)) (record { headers = sym (header_kept r); tokens = sym (tokens_kept r); rests = refl })

alike_often : (m n : List ℕ) → Relayed m n → Alike (parts_of m) (parts_of n)
alike_often m n (unchanged) = record { headers = refl; tokens = refl; rests = refl }
alike_often first last (changed {l} {m} {n} c more) =
    let a = alike_once c in
    let b = alike_often m n more in
    record { headers = a.headers ∙ b.headers; tokens = a.tokens ∙ b.tokens; rests = a.rests ∙ b.rests }

-- ---- alike: by permitted changes

module _ {m n : List ℕ} {ts us : List Token} {rest : List ℕ} (p : Passing m ts rest) (q : Passing n us rest) (bm : Bytes m) (bn : Bytes n)
    (heads : head_zero (take 240 m) ≡ head_zero (take 240 n)) (same : without 82 ts ≡ without 82 us) where
  abbrev header : List ℕ
  header = take 240 n

  -- the second message's own
  abbrev hops : List ℕ
  hops = take 1 (drop 3 header)

  abbrev giaddr : List ℕ
  giaddr = take 4 (drop 24 header)

  hops_size_lem : length hops ≡ 1
  hops_size_lem = length-take-le 1 (drop 3 header) (rw length-drop (omega (arith, header_size_lem q)))

  giaddr_size_lem : length giaddr ≡ 4
  giaddr_size_lem = length-take-le 4 (drop 24 header) (rw length-drop (omega (arith, header_size_lem q)))

  header_bytes : Bytes header
  header_bytes = bytes_take 240 n bn

  -- whatever hops and giaddr were, over them these
  over : (h : List ℕ) → length h ≡ 240 → head_with hops giaddr (head_zero h) ≡ head_with hops giaddr h
  over h l = head_over (zeros 1) (zeros 4) refl refl h (omega arith) hops giaddr hops_size_lem giaddr_size_lem

  header_comes : head_with hops giaddr (take 240 m) ≡ header
  header_comes =
      sym (over (take 240 m) (header_size_lem p)) ∙ ap (head_with hops giaddr) heads ∙ over header (header_size_lem q)
      ∙ head_own header (omega (arith, header_size_lem q))

  -- the second message comes by a change that gives its option bytes
  comes : (May : List ℕ → List ℕ → Type 0) (options : List ℕ) → n ≡ header ++ options → WhereFits May m options → May m n
  comes May options e may =
      let l = ap length e ∙ length-append header options in
      subst (May m) (ap (λ (h : List ℕ). h ++ options) header_comes ∙ sym e)
      (may (omega (arith, header_size_lem q, q.short)) hops giaddr hops_size_lem (bytes_take 1 (drop 3 header) (bytes_drop 3 header header_bytes))
      giaddr_size_lem (bytes_take 4 (drop 24 header) (bytes_drop 24 header header_bytes)))

  passes : Passes27 m
  passes = passing_27 m p

  read : Reads (drop 240 m) ts rest
  read = decode_reads (drop 240 m) ts rest (bytes_drop 240 m bm) p.reads

  read_as_lem : {vs : List Token} → ts ≡ vs → Reads (drop 240 m) vs rest
  read_as_lem e = subst (λ (vs : List Token). Reads (drop 240 m) vs rest) e read

  built : {vs : List Token} → us ≡ vs → n ≡ header ++ (encode vs ++ (255 ∷ rest))
  built e = whole q ∙ ap (λ (vs : List Token). header ++ (encode vs ++ (255 ∷ rest))) e

  once : Permitted m n → Relayed m n
  once r = changed r unchanged

  neither : count 82 ts ≡ 0 → count 82 us ≡ 0 → Relayed m n
  neither zt zu =
      let e : us ≡ ts = sym (without_none 82 us zu) ∙ sym same ∙ without_none 82 ts zt in
      once (comes Permitted (drop 240 m) (built e ∙ ap (λ (l : List ℕ). header ++ l) (sym read.1)) (λ fits. relay_may.keep m bm passes))

  only_first : Split 82 ts → count 82 us ≡ 0 → Relayed m n
  only_first s zu =
      let e : us ≡ s.front ++ s.back = sym (without_none 82 us zu) ∙ sym same ∙ without_at 82 s p.most_82 in
      once (comes Permitted (encode s.front ++ (encode s.back ++ (255 ∷ rest)))
      (built e ∙ simp (encode_append, append_assoc))
      (λ fits. relay_may.remove m passes s.front s.body s.back rest (read_as_lem s.tokens)))

  -- the second has an option 82
  module _ (t : Split 82 us) where
    abbrev options : List ℕ
    options = encode t.front ++ (82 ∷ length t.body ∷ (t.body ++ (encode t.back ++ (255 ∷ rest))))

    stands : n ≡ header ++ options
    stands = around q t ∙ append_assoc header (encode t.front) _

    body_bytes : (length t.body ≤ 255) × Bytes t.body
    body_bytes =
        let w = bytes_right (header ++ encode t.front) _ (subst Bytes (around q t) bn) in
        (omega (arith, w.1.0), bytes_left t.body _ w.1.1)

    only_second : count 82 ts ≡ 0 → Relayed m n
    only_second zt =
        let e : ts ≡ t.front ++ t.back = sym (without_none 82 ts zt) ∙ same ∙ without_at 82 t q.most_82 in
        once (comes Permitted options stands
        (relay_may.add m passes t.front t.back rest t.body (read_as_lem e) (ap (count 82) (sym e) ∙ zt) body_bytes.0 body_bytes.1))

    both : Split 82 ts → Relayed m n
    both s =
        let e : s.front ++ s.back ≡ t.front ++ t.back = sym (without_at 82 s p.most_82) ∙ same ∙ without_at 82 t q.most_82 in
        comes Relayed options stands
        (relay_may.move m passes s.front s.body s.back t.front t.back rest t.body (read_as_lem s.tokens) e body_bytes.0 body_bytes.1)

  relays : Relayed m n
  relays =
      elim (dec_le 1 (count 82 ts)) [
        | yes a ↦ elim (dec_le 1 (count 82 us)) [
          | yes b ↦ both (split 82 us b) (split 82 ts a)
          | no b ↦ only_first (split 82 ts a) (omega arith)
        ]
        | no a ↦ elim (dec_le 1 (count 82 us)) [
          | yes b ↦ only_second (split 82 us b) (omega arith)
          | no b ↦ neither (omega arith) (omega arith)
        ]
      ]

alike_relayed : (first second : List ℕ) → Bytes first → Bytes second → Passes27 first → Passes27 second → Alike (parts_of first) (parts_of second)
    → Relayed first second
alike_relayed first second bf bs pf ps e =
    relays (passing_parts first pf)
    (subst (Passing second (parts_of second).tokens) (sym e.rests) (passing_parts second ps)) bf bs
    (ap head_zero (sym (header_parts first pf)) ∙ e.headers ∙ ap head_zero (header_parts second ps)) e.tokens

-- ---- the statement

only_relayed : (first second : List ℕ) → Bytes first → Bytes second → Passes27 first → Passes27 second
    → (relay_only (parts_of first) (parts_of second) ≡ true) ↔ Relayed first second
only_relayed first second bf bs pf ps = (
  λ e. alike_relayed first second bf bs pf ps ((relay_alike first second pf ps).0 e),
  λ r. (relay_alike first second pf ps).1 (alike_often first second r),
)

-- the last line tells which it is by its length
told : (r : Bool) → length (last_line r) ≡ 11 → r ≡ true
told true e = refl
told false e = absurd (omega arith)

module _ (first second : List ℕ) where
  abbrev lines : List ℕ
  lines = lines_of (differences_of (parts_of first) (parts_of second))

  text_ends : text_for first second ≡ lines ++ last_line (relay_only (parts_of first) (parts_of second))
  unfolding text_for text_of
  text_ends = refl

  ends_relay : text_for first second ≡ lines ++ relay_only_line → relay_only (parts_of first) (parts_of second) ≡ true
  ends_relay e =
      let last = last_line (relay_only (parts_of first) (parts_of second)) in
      let n = ap length (sym text_ends ∙ e) in
      told _ (omega (arith, length-append lines last, length-append lines relay_only_line))

  relay_ends : relay_only (parts_of first) (parts_of second) ≡ true → text_for first second ≡ lines ++ relay_only_line
  relay_ends e = text_ends ∙ ap (λ (r : Bool). lines ++ last_line r) e

pub relay_only_says : RelayOnlySays
relay_only_says = record {
  alike = relay_alike;
  relayed = only_relayed;
  last_line_lem = λ first second bf bs pf ps.
      let w = only_relayed first second bf bs pf ps in
      (λ e. w.0 (ends_relay first second e), λ r. relay_ends first second (w.1 r));
  names = λ first second pf ps e.
      alike_names (parts_of first) (parts_of second) (long first pf) (long second ps) ((relay_alike first second pf ps).0 e);
}
  where
    long : (m : List ℕ) (h : Passes27 m) → 240 ≤ length (parts_of m).header
    long m h = omega (arith, ap length (header_parts m h), header_size_lem (passing_parts m h))
