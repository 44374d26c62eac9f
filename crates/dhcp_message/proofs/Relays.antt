-- All that a relay may do, it may do by permitted changes. And a permitted change keeps checks 2 to 7, option 90's bytes, what the message says and the
-- covered image: what is left without option 82 is the same tokens, and hops and giaddr are zero in the image.
use mathlib.Core.Path.{◌≡◌, refl, sym, ap, ap₂, ◌∙◌, subst}
use Prim.Native.Nat.{ℕ, ◌+◌, ◌≤◌}
use native.Mathlib.Omega.{arith}
use mathlib.Core.List.{List, [], ◌∷◌, ◌++◌, append_assoc}
use lib.ListN.{length, take, drop, length-append, length-drop}
use lib.Seq.{take_at, drop_at}
use Rattle.octets.specs.Bytes.{Bytes, zeros, starts}
use Rattle.octets.proofs.Elements.{bytes_append, bytes_left, bytes_right, bytes_drop}
use Rattle.dhcp_message.specs.Layout.{magic_cookie}
use Rattle.dhcp_message.specs.Options.{Token, pad, opt, encode, WellFormed, Reads}
use Rattle.dhcp_message.specs.Message.{count, option_of, Passes27}
use Rattle.dhcp_message.specs.Said.{said_by, said_of, id_of}
use Rattle.dhcp_message.specs.Image.{without, mac_zero, head_with, head_zero, image_of}
use Rattle.dhcp_message.specs.Relay.{RelayChange, kept, added, replaced, removed, Permitted, Relayed, unchanged, changed}
use Rattle.dhcp_message.specs.Relay.{Kept, RelayKeeps, AnyHeader, WhereFits, RelayMay}
use Rattle.dhcp_message.proofs.Decoding.{decode_reads, reads_decode}
use Rattle.dhcp_message.proofs.Tokens.{auth_not_relay, encode_append, count_append, count_split, count_without, option_without}
use Rattle.dhcp_message.proofs.Passing.{Passing, passing, passing_27, Tokens, tokens_of, take_built, passing_built}
use Rattle.dhcp_message.proofs.Passing.{header_size_lem, header_magic, codes, whole, named_in, said_passed, auth_passed, image_passed}
use Rattle.dhcp_message.proofs.Headers.{head_length, head_behind, head_over, head_bytes}
use Rattle.dhcp_message.proofs.Changes.{Changed, changes}

-- ---- what is permitted

module _ (m : List ℕ) (passes : Passes27 m) where
  abbrev found : Tokens m
  found = tokens_of m passes

  checked : Passing m found.tokens found.rest
  checked = passing m found.tokens found.rest found.checked

  module _ (ts us : List Token) (rest : List ℕ) (reads : Reads (drop 240 m) ts rest) (change : RelayChange ts us) where
    permitted : (options : List ℕ) → options ≡ encode us ++ (255 ∷ rest) → WhereFits Permitted m options
    permitted options e fits hops giaddr hs hb gs gb =
        let h = header_size_lem checked in
        let n : length (head_with hops giaddr (take 240 m)) ≡ 240 = head_length hops giaddr hs gs (take 240 m) (omega arith) ∙ h in
        record {
          passes = passes;
          tokens = ts;
          rest = rest;
          reads = reads;
          tokens' = us;
          change = change;
          hops = hops;
          hops_size_lem = hs;
          hops_bytes = hb;
          giaddr = giaddr;
          giaddr_size_lem = gs;
          giaddr_bytes = gb;
          becomes = ap (λ (l : List ℕ). head_with hops giaddr (take 240 m) ++ l) e;
          fits = rw (length-append, n) (omega arith);
        }

  -- no more option bytes than there were
  no_longer : (size : ℕ) → size ≤ length (drop 240 m) → 240 + size ≤ 1472
  no_longer size l = let n = length-drop 240 m in omega (arith, checked.long, checked.short)

  may_keep : Bytes m → AnyHeader Permitted m (drop 240 m)
  may_keep bytes =
      let reads = decode_reads (drop 240 m) found.tokens found.rest (bytes_drop 240 m bytes) checked.reads in
      permitted found.tokens found.tokens found.rest reads (kept refl) (drop 240 m) reads.1 (no_longer _ (omega arith))

  may_add : (front back : List Token) (rest body : List ℕ) → Reads (drop 240 m) (front ++ back) rest → count 82 (front ++ back) ≡ 0
      → length body ≤ 255 → Bytes body → WhereFits Permitted m (encode front ++ (82 ∷ length body ∷ (body ++ (encode back ++ (255 ∷ rest)))))
  may_add front back rest body reads none most bytes =
      permitted (front ++ back) (front ++ (opt 82 body ∷ back)) rest reads (added front body back (most, bytes) none refl refl) _
      (simp (encode_append, append_assoc))

  module _ (front : List Token) (old : List ℕ) (back : List Token) (rest : List ℕ) (reads : Reads (drop 240 m) (front ++ (opt 82 old ∷ back)) rest) where
    may_replace : (body : List ℕ) → length body ≤ 255 → Bytes body
        → WhereFits Permitted m (encode front ++ (82 ∷ length body ∷ (body ++ (encode back ++ (255 ∷ rest)))))
    may_replace body most bytes =
        permitted (front ++ (opt 82 old ∷ back)) (front ++ (opt 82 body ∷ back)) rest reads (replaced front old body back (most, bytes) refl refl) _
        (simp (encode_append, append_assoc))

    may_remove : AnyHeader Permitted m (encode front ++ (encode back ++ (255 ∷ rest)))
    may_remove =
        let l : length (encode front ++ (encode back ++ (255 ∷ rest))) ≤ length (drop 240 m) =
        rw reads.1 (simp (encode_append, length-append) (omega arith)) in
        permitted (front ++ (opt 82 old ∷ back)) (front ++ back) rest reads (removed front old back refl refl) _
        (simp (encode_append, append_assoc)) (no_longer _ l)

-- ---- one change

module _ {m n : List ℕ} (r : Permitted m n) where
  abbrev ts : List Token
  ts = r.tokens

  abbrev us : List Token
  us = r.tokens'

  abbrev header : List ℕ
  header = take 240 m

  abbrev head : List ℕ
  head = head_with r.hops r.giaddr header

  pub before : Passing m ts r.rest
  before =
      let t = tokens_of m r.passes in
      let p = passing m t.tokens t.rest t.checked in
      let e = sym p.reads ∙ reads_decode (drop 240 m) ts r.rest r.reads in
      let et : t.tokens ≡ ts = cc in
      let er : t.rest ≡ r.rest = cc in
      subst (Passing m ts) er (subst (λ (vs : List Token). Passing m vs t.rest) et p)

  change : Changed ts us
  change = changes ts us (codes before) before.most_82 r.change

  header_28 : 28 ≤ length header
  header_28 = omega (arith, header_size_lem before)

  head_size : length head ≡ 240
  head_size = head_length r.hops r.giaddr r.hops_size_lem r.giaddr_size_lem header header_28 ∙ header_size_lem before

  pub after : Passing n us r.rest
  after =
      passing_built n head us r.rest r.becomes head_size change.codes_kept
      (sym (count_without 82 90 auth_not_relay us) ∙ ap (count 90) change.same ∙ count_without 82 90 auth_not_relay ts ∙ before.one_90)
      change.most
      (ap (starts magic_cookie)
      (head_behind r.hops r.giaddr r.hops_size_lem r.giaddr_size_lem header header_28 236 (omega arith) (omega (arith, header_size_lem before)))
      ∙ header_magic before)
      r.fits

  option_kept : option_of 90 us ≡ option_of 90 ts
  option_kept = sym (option_without 82 90 auth_not_relay us) ∙ ap (option_of 90) change.same ∙ option_without 82 90 auth_not_relay ts

  said_kept : said_of n ≡ said_of m
  said_kept = said_passed after ∙ ap said_by option_kept ∙ sym (said_passed before)

  -- with hops and giaddr zero the header is the same, and so are the tokens without option 82
  pub header_kept : head_zero (take 240 n) ≡ head_zero header
  header_kept =
      ap head_zero (take_built n head us r.rest r.becomes head_size)
      ∙ head_over r.hops r.giaddr r.hops_size_lem r.giaddr_size_lem header header_28 (zeros 1) (zeros 4) refl refl

  pub tokens_kept : without 82 us ≡ without 82 ts
  tokens_kept = change.same

  image_kept : image_of n ≡ image_of m
  image_kept =
      image_passed after
      ∙ ap₂ (λ (h : List ℕ) (vs : List Token). h ++ (encode (mac_zero vs) ++ (255 ∷ r.rest))) header_kept tokens_kept
      ∙ sym (image_passed before)

  bytes_after : Bytes m → Bytes n
  bytes_after b =
      let w = subst Bytes (whole before) b in
      let h = bytes_left header _ w in
      let t = bytes_right header (encode ts ++ (255 ∷ r.rest)) w in
      subst Bytes (sym r.becomes)
      (bytes_append head _ (head_bytes r.hops r.giaddr header r.hops_bytes r.giaddr_bytes h)
      (bytes_append (encode us) _ (change.bytes_kept (bytes_left (encode ts) _ t)) (bytes_right (encode ts) (255 ∷ r.rest) t)))

  relay_once : Kept m n
  relay_once = record {
    still_passes = λ h. passing_27 n after;
    option = auth_passed after ∙ option_kept ∙ sym (auth_passed before);
    said = said_kept;
    name = named_in n ∙ ap id_of said_kept ∙ sym (named_in m);
    image = image_kept;
    bytes = bytes_after;
  }

-- ---- any number of them

relay_often : (m n : List ℕ) → Relayed m n → Kept m n
relay_often m n (unchanged) = record { still_passes = λ h. h; option = refl; said = refl; name = refl; image = refl; bytes = λ b. b }
relay_often before after (changed {l} {m} {n} c more) =
    let a = relay_once c in
    let b = relay_often m n more in
    record {
      still_passes = λ h. b.still_passes (a.still_passes h);
      option = b.option ∙ a.option;
      said = b.said ∙ a.said;
      name = b.name ∙ a.name;
      image = b.image ∙ a.image;
      bytes = λ h. b.bytes (a.bytes h);
    }

pub relay_keeps : RelayKeeps
relay_keeps = record { once = λ m n r. relay_once r; often = relay_often }

-- ---- option 82 moves: it is taken out, and then added, so the first change is opened for its tokens and its header

well_without : (p : List Token) (c : ℕ) (b : List ℕ) (q : List Token) → WellFormed (p ++ (opt c b ∷ q)) → WellFormed (p ++ q)
well_without [] c b q h = h.3
well_without (pad ∷ p) c b q h = well_without p c b q h
well_without (opt e a ∷ p) c b q h = (h.0, h.1, h.2, well_without p c b q h.3)

module _ (m : List ℕ) (passes : Passes27 m) (front : List Token) (old : List ℕ) (back front' back' : List Token) (rest body : List ℕ)
    (reads : Reads (drop 240 m) (front ++ (opt 82 old ∷ back)) rest) (same : front ++ back ≡ front' ++ back') where
  abbrev moved : List ℕ
  moved = encode front' ++ (82 ∷ length body ∷ (body ++ (encode back' ++ (255 ∷ rest))))

  may_move : length body ≤ 255 → Bytes body → WhereFits Relayed m moved
  unfolding may_remove permitted
  may_move most bytes fits hops giaddr hs hb gs gb =
      let options = encode front ++ (encode back ++ (255 ∷ rest)) in
      let head = head_with hops giaddr (take 240 m) in
      let first : Permitted m (head ++ options) = may_remove m passes front old back rest reads hops giaddr hs hb gs gb in
      let size = head_size first in
      let reads' : Reads (drop 240 (head ++ options)) (front' ++ back') rest =
      subst (λ (ts : List Token). Reads (drop 240 (head ++ options)) ts rest) same
      (well_without front 82 old back reads.0, drop_at head options 240 size ∙ simp (encode_append, append_assoc)) in
      let c = ap (count 82) (sym same) ∙ count_append 82 front back in
      let d = count_split 82 front old back in
      let none : count 82 (front' ++ back') ≡ 0 = omega (arith, (before first).most_82) in
      let second = may_add (head ++ options) (passing_27 _ (after first)) front' back' rest body reads' none most bytes fits hops giaddr hs hb gs gb in
      let header = ap (head_with hops giaddr) (take_at head options 240 size) ∙ head_over hops giaddr hs gs (take 240 m) (header_28 first) hops giaddr hs gs in
      changed first (changed (subst (λ (h : List ℕ). Permitted (head ++ options) (h ++ moved)) header second) unchanged)

pub relay_may : RelayMay
relay_may = record {
  keep = λ m bytes passes. may_keep m passes bytes;
  add = may_add;
  replace = λ m passes front old back rest body reads. may_replace m passes front old back rest reads body;
  remove = may_remove;
  move = may_move;
}
