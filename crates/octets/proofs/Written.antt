-- Laws of bytes written over a list. Counts are variables throughout, since a `take` or `drop` of a numeral computes to cases.
use mathlib.Core.Path.{◌≡◌, refl, sym, ap, ap₂, ◌∙◌}
use Prim.Native.Nat.{ℕ, ◌+◌, ◌≤◌, ◌<◌}
use native.Mathlib.Nat.{add_assoc, add-zero, zero-add}
use native.Mathlib.Numerals.{add-one}
use native.Mathlib.Omega.{arith}
use mathlib.Core.List.{List, [], ◌∷◌, ◌++◌, append_assoc, append-nil}
use lib.ListN.{length, take, drop, set, length-append, length-drop, take-append-drop, drop_of_length-le}
use lib.Seq.{length-take-le, take-append-le, take-append-add, drop-append-le, drop-append-add, take_at, drop_at, drop-drop, set_split}
use Rattle.octets.specs.Bytes.{written}

pub length_written : (at : ℕ) (new old : List ℕ) → at + length new ≤ length old → length (written at new old) ≡ length old
unfolding written
length_written at new old h =
    let l : at ≤ length old = omega arith in
    let a = length-append (take at old) (new ++ drop (at + length new) old) in
    let b = length-append new (drop (at + length new) old) in
    let c = length-take-le at old l in
    let d = length-drop (at + length new) old in
    omega arith

-- over the first of two lists, and over the second
pub written_left : (at : ℕ) (new p q : List ℕ) → at + length new ≤ length p → written at new (p ++ q) ≡ written at new p ++ q
unfolding written
written_left at new p q h =
    let l : at ≤ length p = omega arith in
    ap₂ (λ (a b : List ℕ). a ++ (new ++ b)) (take-append-le at p q l) (drop-append-le (at + length new) p q h)
    ∙ sym (append_assoc (take at p) (new ++ drop (at + length new) p) q ∙ ap (λ (l : List ℕ). take at p ++ l) (append_assoc new (drop (at + length new) p) q))

pub written_right : (at : ℕ) (new p q : List ℕ) → written (length p + at) new (p ++ q) ≡ p ++ written at new q
unfolding written
written_right at new p q =
    ap₂ (λ (a b : List ℕ). a ++ (new ++ b)) (take-append-add p q at)
    (ap (λ (n : ℕ). drop n (p ++ q)) (add_assoc (length p) at (length new)) ∙ drop-append-add p q (at + length new))
    ∙ append_assoc p (take at q) (new ++ drop (at + length new) q)

-- over a stretch of the same length
pub written_on : (at : ℕ) (new p old q : List ℕ) → length p ≡ at → length old ≡ length new → written at new (p ++ (old ++ q)) ≡ p ++ (new ++ q)
unfolding written
written_on at new p old q hp ho =
    let e : length p + length old ≡ at + length new = omega arith in
    ap₂ (λ (a b : List ℕ). a ++ (new ++ b)) (take_at p (old ++ q) at hp)
    (ap (λ (n : ℕ). drop n (p ++ (old ++ q))) (sym e) ∙ drop-append-add p (old ++ q) (length old) ∙ drop_at old q (length old) refl)

-- twice over the same stretch: the second counts
pub written_over : (at : ℕ) (first new old : List ℕ) → length first ≡ length new → at ≤ length old → written at new (written at first old) ≡ written at new old
unfolding written
written_over at first new old h l =
    written_on at new (take at old) first (drop (at + length first) old) (length-take-le at old l) h
    ∙ ap (λ (n : ℕ). take at old ++ (new ++ drop (at + n) old)) h

-- stretches apart may be written in either order
pub written_apart : (at bt : ℕ) (xs ys old : List ℕ) → at + length xs ≤ bt → bt ≤ length old
    → written bt ys (written at xs old) ≡ written at xs (written bt ys old)
written_apart at bt xs ys old h l =
    let p = take bt old in
    let q = drop bt old in
    let e : old ≡ p ++ q = sym (take-append-drop bt old) in
    let lp : length p ≡ bt = length-take-le bt old l in
    let hp : at + length xs ≤ length p = omega arith in
    let lw : length (written at xs p) + 0 ≡ bt = add-zero _ ∙ length_written at xs p hp ∙ lp in
    let lz : length p + 0 ≡ bt = add-zero _ ∙ lp in
    let left : written bt ys (written at xs old) ≡ written at xs p ++ written 0 ys q =
    ap (λ (x : List ℕ). written bt ys (written at xs x)) e
    ∙ ap (written bt ys) (written_left at xs p q hp)
    ∙ ap (λ (n : ℕ). written n ys (written at xs p ++ q)) (sym lw)
    ∙ written_right 0 ys (written at xs p) q in
    let right : written at xs (written bt ys old) ≡ written at xs p ++ written 0 ys q =
    ap (λ (x : List ℕ). written at xs (written bt ys x)) e
    ∙ ap (written at xs) (ap (λ (n : ℕ). written n ys (p ++ q)) (sym lz) ∙ written_right 0 ys p q)
    ∙ written_left at xs p (written 0 ys q) hp in
    left ∙ sym right

-- one stretch right behind another
pub written_join : (at bt : ℕ) (xs ys old : List ℕ) → at + length xs ≡ bt → bt ≤ length old → written bt ys (written at xs old) ≡ written at (xs ++ ys) old
unfolding written
written_join at bt xs ys old h l =
    let q = drop (at + length xs) old in
    let la : at ≤ length old = omega arith in
    let lp : length (take at old ++ xs) ≡ bt = length-append (take at old) xs ∙ ap (λ (n : ℕ). n + length xs) (length-take-le at old la) ∙ h in
    let lz : length (take at old ++ xs) + 0 ≡ bt = add-zero _ ∙ lp in
    let n : at + length xs + length ys ≡ at + length (xs ++ ys) = add_assoc at (length xs) (length ys) ∙ ap (λ (n : ℕ). at + n) (sym (length-append xs ys)) in
    ap (written bt ys) (sym (append_assoc (take at old) xs q))
    ∙ ap (λ (n : ℕ). written n ys ((take at old ++ xs) ++ q)) (sym lz)
    ∙ written_right 0 ys (take at old ++ xs) q
    ∙ ap (λ (x : List ℕ). (take at old ++ xs) ++ (ys ++ x))
    (ap (λ (n : ℕ). drop n q) (zero-add (length ys)) ∙ drop-drop (length ys) (at + length xs) old ∙ ap (λ (n : ℕ). drop n old) n)
    ∙ append_assoc (take at old) xs (ys ++ drop (at + length (xs ++ ys)) old)
    ∙ ap (λ (x : List ℕ). take at old ++ x) (sym (append_assoc xs ys (drop (at + length (xs ++ ys)) old)))

-- the bytes from behind the stretch on are as they were
pub drop_written : (k at : ℕ) (new old : List ℕ) → at + length new ≤ k → k ≤ length old → drop k (written at new old) ≡ drop k old
drop_written k at new old h l =
    let p = take k old in
    let q = drop k old in
    let lp : length p ≡ k = length-take-le k old l in
    let hp : at + length new ≤ length p = omega arith in
    ap (λ (x : List ℕ). drop k (written at new x)) (sym (take-append-drop k old))
    ∙ ap (drop k) (written_left at new p q hp)
    ∙ drop_at (written at new p) q k (length_written at new p hp ∙ lp)

-- what stands there written again changes nothing
pub written_same : (at n : ℕ) (old : List ℕ) → at + n ≤ length old → written at (take n (drop at old)) old ≡ old
unfolding written
written_same at n old h =
    let l : length (take n (drop at old)) ≡ n = length-take-le n (drop at old) (rw length-drop (omega arith)) in
    ap (λ (k : ℕ). take at old ++ (take n (drop at old) ++ drop (at + k) old)) l
    ∙ ap (λ (x : List ℕ). take at old ++ (take n (drop at old) ++ x)) (sym (drop-drop n at old))
    ∙ ap (λ (x : List ℕ). take at old ++ x) (take-append-drop n (drop at old))
    ∙ take-append-drop at old

-- a part of a list lent to a writer: what comes back is the list with the bytes written
pub written_part : (a n at : ℕ) (new m : List ℕ) → a + n ≤ length m → at + length new ≤ n
    → take a m ++ (written at new (take n (drop a m)) ++ drop n (drop a m)) ≡ written (a + at) new m
written_part a n at new m h k =
    let d = drop a m in
    let la : length (take a m) ≡ a = length-take-le a m (omega arith) in
    let ln : n ≤ length d = rw length-drop (omega arith) in
    let hp : at + length new ≤ length (take n d) = rw (length-take-le n d ln) k in
    ap (λ (x : List ℕ). take a m ++ x) (sym (written_left at new (take n d) (drop n d) hp) ∙ ap (written at new) (take-append-drop n d))
    ∙ sym (written_right at new (take a m) d)
    ∙ ap₂ (λ (i : ℕ) (x : List ℕ). written (i + at) new x) la (take-append-drop a m)

-- one element stored
pub set_written : (at v : ℕ) (old : List ℕ) → at < length old → set old at v ≡ written at (v ∷ []) old
unfolding written
set_written at v old h = set_split old at v h ∙ ap (λ (n : ℕ). take at old ++ v ∷ drop n old) (sym (add-one at))

-- nothing written changes nothing
pub written_none : (at : ℕ) (old : List ℕ) → written at [] old ≡ old
unfolding written
written_none at old = ap (λ (n : ℕ). take at old ++ drop n old) (add-zero at) ∙ take-append-drop at old

-- the first element stored, then the others behind it
pub written_cons : (at v : ℕ) (xs old : List ℕ) → at < length old → written at (v ∷ xs) old ≡ written (at + 1) xs (set old at v)
written_cons at v xs old h =
    sym (written_join at (at + 1) (v ∷ []) xs old refl (omega arith)) ∙ ap (written (at + 1) xs) (sym (set_written at v old h))

-- the last element stored, then the others before it
pub written_snoc : (at v : ℕ) (xs old : List ℕ) → at + length xs < length old
    → written at (xs ++ (v ∷ [])) old ≡ written at xs (set old (at + length xs) v)
written_snoc at v xs old h =
    let k = at + length xs in
    sym (written_join at k xs (v ∷ []) old refl (omega arith))
    ∙ written_apart at k xs (v ∷ []) old (omega arith) (omega arith)
    ∙ ap (written at xs) (sym (set_written k v old h))

-- up to the end of the stretch: what stood before it, and the new elements
pub take_written : (at : ℕ) (new old : List ℕ) → at ≤ length old → take (at + length new) (written at new old) ≡ take at old ++ new
unfolding written
take_written at new old h =
    let l : length (take at old ++ new) ≡ at + length new = length-append (take at old) new ∙ ap (λ (n : ℕ). n + length new) (length-take-le at old h) in
    ap (take (at + length new)) (sym (append_assoc (take at old) new (drop (at + length new) old)))
    ∙ take_at (take at old ++ new) (drop (at + length new) old) (at + length new) l

-- a list copied into as many places of another, which were lent on
pub copied_part : (at k : ℕ) (new part old : List ℕ) → part ≡ new → k ≡ length new
    → take at old ++ (part ++ drop k (drop at old)) ≡ written at new old
unfolding written
copied_part at k new part old p e = rw (p, e, drop-drop (length new) at old)

-- a stretch up to the end: what stood before it, and the new elements
pub written_last : (at : ℕ) (new old : List ℕ) → at + length new ≡ length old → written at new old ≡ take at old ++ new
unfolding written
written_last at new old h =
    let k : length old ≤ at + length new = omega arith in
    ap (λ (l : List ℕ). take at old ++ (new ++ l)) (drop_of_length-le old k) ∙ ap (λ (l : List ℕ). take at old ++ l) (append-nil new)

-- at the front of a list
pub written_front : (new old : List ℕ) → written 0 new old ≡ new ++ drop (length new) old
unfolding written
written_front new old = ap (λ (n : ℕ). new ++ drop n old) (zero-add (length new))

-- the three parts
pub written_parts : (at : ℕ) (new old : List ℕ) → written at new old ≡ take at old ++ (new ++ drop (at + length new) old)
unfolding written
written_parts at new old = refl
