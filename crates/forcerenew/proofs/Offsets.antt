-- The offsets in the words of the options (`OffsetsSay` of specs/Laws.antt): behind the header and the options before it, option 90 is code, length and
-- body, so what is read or written at an offset from its code is read or written in its body.
use mathlib.Core.Path.{◌≡◌, sym, ap, ap₂, ◌∙◌, subst}
use Prim.Native.Nat.{ℕ, ◌+◌, ◌≤◌, ◌<◌}
use native.Mathlib.Omega.{arith}
use mathlib.Core.List.{List, [], ◌∷◌, ◌++◌, append_assoc}
use lib.ListN.{length, get_or, take, drop, length-append, length-drop, take-append-drop, get_or-append}
use lib.Seq.{length-take-le, take_all, take-append-le, drop-append-le, drop-append-add, get_or-append-add}
use Rattle.octets.specs.Bytes.{written, zeros}
use Rattle.octets.specs.Numbers.{big_at}
use Rattle.octets.proofs.Written.{length_written}
use Rattle.octets.proofs.HighFirst.{big_behind, big_append}
use Rattle.dhcp_message.specs.Options.{Token, opt, encode, Reads}
use Rattle.dhcp_message.proofs.Tokens.{encode_append, written_body}
use Rattle.dhcp_message.proofs.Lowest.{shape_given}
use Rattle.forcerenew.specs.Laws.{message_with, Parts, OffsetsSay}
use Rattle.forcerenew.specs.Shown.{image_at}

-- ---- an option 90 at offset o

-- what stands before it, and what behind it
record Around (m : List ℕ) (o : ℕ) (body : List ℕ) : Type 0 where
  pre : List ℕ
  tail : List ℕ
  around : m ≡ pre ++ (90 ∷ length body ∷ (body ++ tail))
  size : length pre ≡ o

module _ {m : List ℕ} {o : ℕ} {body : List ℕ} (s : Around m o body) where
  -- what stands behind its length byte, and from its code on
  abbrev behind : List ℕ
  behind = body ++ s.tail

  abbrev option : List ℕ
  option = 90 ∷ length body ∷ behind

  -- its length byte
  length_there : get_or m (o + 1) 0 ≡ length body
  length_there = ap₂ (λ (x : List ℕ) (i : ℕ). get_or x (i + 1) 0) s.around (sym s.size) ∙ get_or-append-add s.pre option 1 0

  -- byte k of its body
  byte_there : (k : ℕ) → k < length body → get_or m (o + (2 + k)) 0 ≡ get_or body k 0
  byte_there k l =
      ap₂ (λ (x : List ℕ) (i : ℕ). get_or x (i + (2 + k)) 0) s.around (sym s.size)
      ∙ get_or-append-add s.pre option (2 + k) 0
      ∙ get_or-append-add (90 ∷ length body ∷ []) behind k 0
      ∙ get_or-append body s.tail 0 k l

  -- so many bytes of its body from byte k on
  bytes_there : (k w : ℕ) → k + w ≤ length body → take w (drop (o + (2 + k)) m) ≡ take w (drop k body)
  bytes_there k w l =
      let a : k ≤ length body = omega arith in
      let b : w ≤ length (drop k body) = rw length-drop (omega arith) in
      ap₂ (λ (x : List ℕ) (i : ℕ). take w (drop (i + (2 + k)) x)) s.around (sym s.size)
      ∙ ap (take w) (drop-append-add s.pre option (2 + k))
      ∙ ap (take w) (drop-append-add (90 ∷ length body ∷ []) behind k ∙ drop-append-le k body s.tail a)
      ∙ take-append-le w (drop k body) s.tail b

  -- the number that they are
  number_there : (k w : ℕ) → k + w ≤ length body → big_at m (o + (2 + k)) w ≡ big_at body k w
  number_there k w l =
      ap₂ (λ (x : List ℕ) (i : ℕ). big_at x (i + (2 + k)) w) s.around (sym s.size)
      ∙ big_behind s.pre option (2 + k) w
      ∙ big_behind (90 ∷ length body ∷ []) behind k w
      ∙ big_append body s.tail k w l

-- ---- a message around its option 90

module _ (m : List ℕ) (front : List Token) (body : List ℕ) (back : List Token) (rest : List ℕ)
    (reads : Reads (drop 240 m) (front ++ (opt 90 body ∷ back)) rest) (o : ℕ) (offset : o ≡ 240 + length (encode front)) where
  -- the bytes before option 90, and those behind it
  abbrev pre : List ℕ
  pre = take 240 m ++ encode front

  abbrev tail : List ℕ
  tail = encode back ++ (255 ∷ rest)

  -- the message with any body
  laid_out : (b : List ℕ) → message_with (take 240 m) front b back rest ≡ pre ++ (90 ∷ length b ∷ (b ++ tail))
  laid_out b = simp (encode_append, append_assoc)

  -- with its own
  whole : m ≡ message_with (take 240 m) front body back rest
  whole = sym (take-append-drop 240 m) ∙ ap (λ (x : List ℕ). take 240 m ++ x) reads.1

  -- an End stands behind the header, so the header is whole
  header : 240 ≤ length m
  header = let a = sym (length-drop 240 m) ∙ ap length reads.1 in omega (arith, simp length-append at a)

  -- its option 90 stands at o
  there : Around m o body
  there = record {
    pre = pre;
    tail = tail;
    around = whole ∙ laid_out body;
    size =
        let a = length-append (take 240 m) (encode front) in
        let b = length-take-le 240 m header in
        omega arith;
  }

  -- the value is the last of a body of 28 bytes
  value_last : length body ≡ 28 → take 16 (drop 12 body) ≡ drop 12 body
  value_last l = take_all 16 (drop 12 body) (rw length-drop (omega arith))

  -- zeros over the value in the message are zeros over the value in the body
  zeroed : length body ≡ 28 → image_at m o ≡ message_with (take 240 m) front (written 12 (zeros 16) body) back rest
  unfolding there
  zeroed l =
      let fits : 12 + length (zeros 16) ≤ length body = omega arith in
      ap (written (o + 14) (zeros 16)) there.around
      ∙ written_body o 12 90 (length body) (zeros 16) pre body tail there.size fits
      ∙ ap (λ (n : ℕ). pre ++ (90 ∷ n ∷ (written 12 (zeros 16) body ++ tail))) (sym (length_written 12 (zeros 16) body fits))
      ∙ sym (laid_out (written 12 (zeros 16) body))

  -- each field by its place in the body
  parts_of_lem : Parts m o
  parts_of_lem = record {
    front = front;
    body = body;
    back = back;
    rest = rest;
    reads = reads;
    whole = whole;
    offset = offset;
    size = length_there there;
    method = λ l. bytes_there there 0 3 (omega arith);
    counter = λ l. number_there there 3 8 (omega arith);
    type = λ l. byte_there there 11 (omega arith);
    value = λ l. bytes_there there 12 16 (omega arith) ∙ value_last l;
    image = zeroed;
  }

-- ---- the statement: the options read as tokens with option 90 at the offset (`shape_given`)

pub offsets_say : OffsetsSay
offsets_say = record {
  parts = λ m b p e.
      let w = shape_given.stands m b p e in
      let s = w.holds.1 in
      parts_of_lem m s.front s.body s.back w.rest (subst (λ (ts : List Token). Reads (drop 240 m) ts w.rest) s.splits w.reads) p.at
      s.offset;
}
