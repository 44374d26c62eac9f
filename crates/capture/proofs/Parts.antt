-- A part of a list that stands at an offset: what the list has there, the part has. Taking a list apart makes parts of it, and joining lists too.
use Prim.Native.Nat.{ℕ, zero, suc, ◌+◌, ◌*◌, ◌/◌, ◌%◌, ◌≤◌, ◌<◌}
use mathlib.Core.Path.{◌≡◌, refl, sym, ap, ap₂, ◌∙◌}
use mathlib.Core.List.{List, [], ◌∷◌, ◌++◌, append_assoc}
use native.Mathlib.Omega.{arith}
use lib.ListN.{length, get_or, take, drop, length-append, length-drop, take-append-drop, get_or-append}
use lib.Seq.{take_at, drop_at, drop-drop, take-suc, length-take-le, get_or-drop, get_or-append-add}
use Rattle.octets.specs.Bytes.{Bytes}
use Rattle.octets.specs.Numbers.{be, big_at}
use Rattle.octets.proofs.Elements.{bytes_at_lem}
use Rattle.octets.proofs.HighFirst.{big_behind, big_append}

-- the part m stands at an offset of s, and `rest` behind it
pub record Stands (s : List ℕ) (at : ℕ) (m rest : List ℕ) : Type 0 where
  pub before : List ℕ
  pub joined : s ≡ before ++ (m ++ rest)
  pub before_size : length before ≡ at

pub stands_first : (m rest : List ℕ) → Stands (m ++ rest) 0 m rest
stands_first m rest = record { before = []; joined = refl; before_size = refl }

module _ {s : List ℕ} {at : ℕ} {m rest : List ℕ} (st : Stands s at m rest) where
  pub stands_part : (n : ℕ) → length m ≡ n → take n (drop at s) ≡ m
  stands_part n e =
      ap (take n) (ap (drop at) st.joined ∙ drop_at st.before (m ++ rest) at st.before_size) ∙ take_at m rest n e

  pub stands_at : (i : ℕ) → i < length m → get_or s (at + i) 0 ≡ get_or m i 0
  stands_at i h =
      ap₂ (λ (l : List ℕ) (k : ℕ). get_or l (k + i) 0) st.joined (sym st.before_size)
      ∙ get_or-append-add st.before (m ++ rest) i 0
      ∙ get_or-append m rest 0 i h

  pub stands_big : (i n : ℕ) → i + n ≤ length m → big_at s (at + i) n ≡ big_at m i n
  stands_big i n h =
      ap₂ (λ (l : List ℕ) (k : ℕ). big_at l (k + i) n) st.joined (sym st.before_size)
      ∙ big_behind st.before (m ++ rest) i n
      ∙ big_append m rest i n h

-- the next part stands right behind it
pub stands_next : {s : List ℕ} {at : ℕ} {m n rest : List ℕ} → Stands s at m (n ++ rest) → (to : ℕ) → at + length m ≡ to → Stands s to n rest
stands_next {m = m} {n = n} {rest = rest} st to e = record {
  before = st.before ++ m;
  joined = st.joined ∙ sym (append_assoc st.before m (n ++ rest));
  before_size = let b = st.before_size in let l = length-append st.before m in omega arith;
}

-- ---- a list taken apart

unfoldable pub part : List ℕ → ℕ → ℕ → List ℕ
part s at n = take n (drop at s)

unfoldable pub onward : List ℕ → ℕ → List ℕ
onward s at = drop at s

module _ (s : List ℕ) where
  pub onward_all : onward s 0 ≡ s
  unfolding onward
  onward_all = refl

  module _ (at n : ℕ) where
    pub part_is : part s at n ≡ take n (drop at s)
    unfolding part
    part_is = refl

    pub part_length : at + n ≤ length s → length (part s at n) ≡ n
    unfolding part
    part_length h = length-take-le n (drop at s) (rw length-drop (omega arith))

    -- the first part of what is left, and the others
    pub part_then : (rest : List ℕ) → onward s (at + n) ≡ rest → onward s at ≡ part s at n ++ rest
    unfolding part onward
    part_then rest e = sym (take-append-drop n (drop at s)) ∙ ap (λ (l : List ℕ). take n (drop at s) ++ l) (drop-drop n at s ∙ e)

-- bytes by the number that they are
pub be_big : (s : List ℕ) → Bytes s → (at n : ℕ) → at + n ≤ length s → be n (big_at s at n) ≡ part s at n
unfolding be big_at part
be_big s b at zero h = refl
be_big s b at (suc n) h =
    let g = get_or s (at + n) 0 in
    let l = bytes_at_lem s b (at + n) in
    let q : (g + 256 * big_at s at n) / 256 ≡ big_at s at n = omega arith in
    let r : (g + 256 * big_at s at n) % 256 ≡ g = omega arith in
    ap₂ (λ (x y : ℕ). be n x ++ (y ∷ [])) q r
    ∙ ap₂ (λ (l : List ℕ) (y : ℕ). l ++ (y ∷ [])) (be_big s b at n (omega arith)) (sym (get_or-drop at s n 0))
    ∙ sym (take-suc (drop at s) n 0 (rw length-drop (omega arith)))
