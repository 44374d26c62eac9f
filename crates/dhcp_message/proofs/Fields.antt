-- The 28 bytes of option 90 that a seal writes, counter, id and MAC: inside its body, and in the part that is lent to the writers.
use mathlib.Core.Path.{◌≡◌, sym, ap, ap₂, ◌∙◌}
use Prim.Native.Nat.{ℕ, ◌+◌, ◌^◌, ◌≤◌, ◌<◌}
use native.Mathlib.Nat.{add-zero, zero-add}
use native.Mathlib.Omega.{arith}
use mathlib.Core.Bool.{true}
use mathlib.Core.List.{List, ◌∷◌, ◌++◌, append_assoc}
use lib.ListN.{length, take, drop, length-append, length-drop, take-append-drop}
use lib.Seq.{length-take-le, take_at, drop_at, drop-append-add, drop-append-le}
use borrow.Author.Tests.{eq-eqb}
use Rattle.octets.specs.Bytes.{Bytes, written, zeros, starts}
use Rattle.octets.specs.Numbers.{be, big_at}
use Rattle.octets.proofs.Written.{length_written, written_over, written_join, written_part, written_same, drop_written, written_parts}
use Rattle.octets.proofs.Starts.{starts_append}
use Rattle.octets.proofs.Elements.{bytes_append}
use Rattle.octets.proofs.HighFirst.{be_length, bytes_be, big_be, big_behind, big_append}
use Rattle.dhcp_message.specs.Layout.{delayed}
use Rattle.dhcp_message.specs.Said.{says, said_by}
use Rattle.dhcp_message.specs.Seal.{fields, fields_put, mac_put}
use Rattle.dhcp_message.proofs.Forms.{said_full}

-- ---- the body of option 90 with the 28 bytes written

module _ (b new : List ℕ) (b-size : length b ≡ 31) (size : length new ≡ 28) where
  abbrev body' : List ℕ
  body' = written 3 new b

  pub body_size : length body' ≡ length b
  body_size = length_written 3 new b (omega arith)

  abbrev option : List ℕ
  option = 90 ∷ length body' ∷ body'

  abbrev ahead : List ℕ
  ahead = 90 ∷ length body' ∷ take 3 b

  abbrev behind : List ℕ
  behind = drop (3 + length new) b

  ahead_size : length ahead ≡ 5
  ahead_size = omega (arith, length-take-le 3 b (omega arith))

  opened : option ≡ ahead ++ (new ++ behind)
  opened = ap (λ (x : List ℕ). 90 ∷ length body' ∷ x) (written_parts 3 new b)

  -- a number among the new bytes
  number_new : (at n : ℕ) → at + n ≤ 28 → big_at option (5 + at) n ≡ big_at new at n
  number_new at n h =
      ap₂ (λ (k : ℕ) (x : List ℕ). big_at x (k + at) n) (sym ahead_size) opened
      ∙ big_behind ahead (new ++ behind) at n ∙ big_append new behind at n (omega arith)

  mac_new : take 16 (drop 17 option) ≡ drop 12 new
  mac_new =
      let l : 12 ≤ length new = omega arith in
      let n : length (drop 12 new) ≡ 16 = length-drop 12 new ∙ omega arith in
      ap (take 16)
      (ap₂ (λ (n : ℕ) (x : List ℕ). drop (n + 12) x) (sym ahead_size) opened
      ∙ drop-append-add ahead (new ++ behind) 12 ∙ drop-append-le 12 new behind l)
      ∙ take_at (drop 12 new) behind 16 n

  method_new : starts delayed b ≡ true → starts delayed body' ≡ true
  method_new h =
      let l : length delayed ≤ length (take 3 b) = omega (arith, length-take-le 3 b (omega arith)) in
      ap (starts delayed) (written_parts 3 new b) ∙ starts_append delayed (take 3 b) (new ++ behind) l
      ∙ sym (starts_append delayed (take 3 b) (drop 3 b) l)
      ∙ ap (starts delayed) (take-append-drop 3 b) ∙ h

  pub said_new : starts delayed b ≡ true → said_by option ≡ says (big_at new 0 8) (big_at new 8 4) (drop 12 new)
  said_new h =
      said_full option (body_size ∙ b-size) (method_new h)
      ∙ ap₂ (λ (c i : ℕ). says c i (take 16 (drop 17 option))) (number_new 0 8 (omega arith)) (number_new 8 4 (omega arith))
      ∙ ap (says (big_at new 0 8) (big_at new 8 4)) mac_new

  -- zeros over the MAC leave counter and id
  pub zeroed_new : written 15 (zeros 16) body' ≡ written 15 (zeros 16) (written 3 (take 12 new) b)
  zeroed_new =
      let l : length (take 12 new) ≡ 12 = length-take-le 12 new (omega arith) in
      let m : length (drop 12 new) ≡ 16 = length-drop 12 new ∙ omega arith in
      let w : length (written 3 (take 12 new) b) ≡ length b = length_written 3 (take 12 new) b (omega arith) in
      ap (written 15 (zeros 16))
      (ap (λ (x : List ℕ). written 3 x b) (sym (take-append-drop 12 new))
      ∙ sym (written_join 3 15 (take 12 new) (drop 12 new) b (omega arith) (omega arith)))
      ∙ written_over 15 (drop 12 new) (zeros 16) (written 3 (take 12 new) b) m (omega arith)

-- ---- counter and id as bytes

module _ (counter id : ℕ) where
  pub fields_size_lem : length (fields counter id) ≡ 12
  fields_size_lem = length-append (be 8 counter) (be 4 id) ∙ ap₂ (λ (m n : ℕ). m + n) (be_length 8 counter) (be_length 4 id)

  pub fields_bytes : Bytes (fields counter id)
  fields_bytes = bytes_append (be 8 counter) (be 4 id) (bytes_be 8 counter) (bytes_be 4 id)

  module _ (mac : List ℕ) where
    opens : fields counter id ++ mac ≡ be 8 counter ++ (be 4 id ++ mac)
    opens = append_assoc (be 8 counter) (be 4 id) mac

    pub seal_size_lem : length mac ≡ 16 → length (fields counter id ++ mac) ≡ 28
    seal_size_lem h = length-append (fields counter id) mac ∙ ap₂ (λ (m n : ℕ). m + n) fields_size_lem h

    pub counter_read : counter < 2 ^ 64 → big_at (fields counter id ++ mac) 0 8 ≡ counter
    counter_read h = ap (λ (s : List ℕ). big_at s 0 8) opens ∙ big_be 8 counter (be 4 id ++ mac) h

    pub id_read : id < 2 ^ 32 → big_at (fields counter id ++ mac) 8 4 ≡ id
    id_read h =
        ap₂ (λ (s : List ℕ) (n : ℕ). big_at s (n + 0) 4) opens (sym (be_length 8 counter))
        ∙ big_behind (be 8 counter) (be 4 id ++ mac) 0 4 ∙ big_be 4 id mac h

    pub mac_read : drop 12 (fields counter id ++ mac) ≡ mac
    mac_read = drop_at (fields counter id) mac 12 fields_size_lem

    pub fields_read : take 12 (fields counter id ++ mac) ≡ fields counter id
    fields_read = take_at (fields counter id) mac 12 fields_size_lem

-- ---- the writers

module _ (p : List ℕ) (counter id : ℕ) where
  fields_there : length p ≡ 28 → fields_put p counter id ≡ written 0 (fields counter id) p
  unfolding fields_put
  fields_there h = rw (eq-eqb _ _ h)

  pub fields_put_lem : (p₁ p₂ : List ℕ) → length p ≡ 28 → p₁ ≡ written 0 (be 8 counter) p → p₂ ≡ written 8 (be 4 id) p₁ → p₂ ≡ fields_put p counter id
  fields_put_lem p₁ p₂ h e₁ e₂ =
      e₂ ∙ ap (written 8 (be 4 id)) e₁
      ∙ written_join 0 8 (be 8 counter) (be 4 id) p (zero-add _ ∙ be_length 8 counter) (omega arith)
      ∙ sym (fields_there h)

module _ (p mac : List ℕ) where
  pub mac_there : length p ≡ 28 → mac_put p mac ≡ written 12 mac p
  unfolding mac_put
  mac_there h = rw (eq-eqb _ _ h)

-- ---- a part of a message lent to them

module _ (m : List ℕ) (at size : ℕ) (is : size ≡ 28) (h : at + size ≤ length m) where
  part_size_lem : length (take size (drop at m)) ≡ 28
  part_size_lem = length-take-le size (drop at m) (rw length-drop (omega arith)) ∙ is

  pub fields_lent : (counter id : ℕ)
      → take at m ++ (fields_put (take size (drop at m)) counter id ++ drop size (drop at m)) ≡ written at (fields counter id) m
  fields_lent counter id =
      ap (λ (x : List ℕ). take at m ++ (x ++ drop size (drop at m))) (fields_there (take size (drop at m)) counter id part_size_lem)
      ∙ written_part at size 0 (fields counter id) m h (omega (arith, fields_size_lem counter id))
      ∙ ap (λ (n : ℕ). written n (fields counter id) m) (add-zero at)

  pub mac_lent : (mac : List ℕ) → length mac ≡ 16
      → take at m ++ (mac_put (take size (drop at m)) mac ++ drop size (drop at m)) ≡ written (at + 12) mac m
  mac_lent mac n =
      ap (λ (x : List ℕ). take at m ++ (x ++ drop size (drop at m))) (mac_there (take size (drop at m)) mac part_size_lem)
      ∙ written_part at size 12 mac m h (omega arith)

module _ (m : List ℕ) (at counter id : ℕ) (h : at + 28 ≤ length m) where
  pub mac_behind : (mac : List ℕ) → written (at + 12) mac (written at (fields counter id) m) ≡ written at (fields counter id ++ mac) m
  mac_behind mac = written_join at (at + 12) (fields counter id) mac m (ap (λ (n : ℕ). at + n) (fields_size_lem counter id)) (omega arith)

  pub fields_alone : written at (fields counter id) m ≡ written at (fields counter id ++ take 16 (drop (at + 12) m)) m
  fields_alone =
      let f = fields counter id in
      let lf = fields_size_lem counter id in
      let w = written at f m in
      let l : length w ≡ length m = length_written at f m (omega arith) in
      sym (written_same (at + 12) 16 w (omega arith))
      ∙ ap (λ (x : List ℕ). written (at + 12) (take 16 x) w) (drop_written (at + 12) at f m (omega arith) (omega arith))
      ∙ mac_behind (take 16 (drop (at + 12) m))
