-- Laws of `Bytes`: parts, joins and writings of bytes are bytes, and each element is below 256.
use Prim.Native.Nat.{ℕ, zero, suc, ◌+◌, ◌<◌}
use native.Mathlib.Omega.{arith}
use mathlib.Core.List.{List, [], ◌∷◌, ◌++◌}
use mir.Syntax.{w8}
use mir.Val.{Fits}
use lib.ListN.{length, take, drop, get_or, take-append-drop}
use Rattle.octets.specs.Bytes.{Bytes, written, zeros}

pub bytes_append : (p q : List ℕ) → Bytes p → Bytes q → Bytes (p ++ q)
bytes_append [] q a b = b
bytes_append (x ∷ p) q a b = (a.0, bytes_append p q a.1 b)

pub bytes_left : (p q : List ℕ) → Bytes (p ++ q) → Bytes p
bytes_left [] q h = tt
bytes_left (x ∷ p) q h = (h.0, bytes_left p q h.1)

pub bytes_right : (p q : List ℕ) → Bytes (p ++ q) → Bytes q
bytes_right [] q h = h
bytes_right (x ∷ p) q h = bytes_right p q h.1

pub bytes_take : (n : ℕ) (m : List ℕ) → Bytes m → Bytes (take n m)
bytes_take n m h = bytes_left (take n m) (drop n m) (rw take-append-drop h)

pub bytes_drop : (n : ℕ) (m : List ℕ) → Bytes m → Bytes (drop n m)
bytes_drop n m h = bytes_right (take n m) (drop n m) (rw take-append-drop h)

pub bytes_written : (at : ℕ) (new old : List ℕ) → Bytes new → Bytes old → Bytes (written at new old)
unfolding written
bytes_written at new old a b =
    let rest = drop (at + length new) old in
    bytes_append (take at old) (new ++ rest) (bytes_take at old b) (bytes_append new rest a (bytes_drop (at + length new) old b))

pub bytes_at_lem : (m : List ℕ) → Bytes m → (k : ℕ) → get_or m k 0 < 256
bytes_at_lem [] h k = omega arith
bytes_at_lem (x ∷ m) h zero = h.0
bytes_at_lem (x ∷ m) h (suc k) = bytes_at_lem m h.1 k

-- what a lent slice of bytes is known to hold
pub bytes_of : (m : List ℕ) → ((k : ℕ) → get_or m k 0 < 256) → Bytes m
bytes_of [] g = tt
bytes_of (x ∷ m) g = (g 0, bytes_of m (λ k. g (suc k)))

-- the same, in the words of what is lent to a function
pub bytes_lent : (m : List ℕ) → ((k : ℕ) → Fits w8 (get_or m k 0)) → Bytes m
bytes_lent m g = bytes_of m (λ k. omega (arith, g k))

pub bytes_zeros : (n : ℕ) → Bytes (zeros n)
bytes_zeros zero = tt
bytes_zeros (suc n) = (omega arith, bytes_zeros n)
