-- Laws of server rows: what the loop over the marks keeps, soundness by the code's tests, and that what computes it is the rules' sentence.
use mathlib.Core.Path.{◌≡◌, refl, sym, ap, ap₂, ◌∙◌}
use mathlib.Core.Bool.{Bool, true, ◌&&◌, and-eq-true_iff}
use mathlib.Core.List.{List, [], ◌∷◌}
use Prim.Native.Nat.{ℕ, zero, suc, ◌+◌, ◌*◌, ◌/◌, ◌%◌, ◌≤◌, ◌<◌}
use native.Mathlib.Numerals.{add-one}
use native.Mathlib.Omega.{arith}
use borrow.Author.Tests.{eq-eqb, eqb-true, leb-true, le-leb}
use lib.Dec.{leb, eqb}
use lib.ListN.{length, get_or, take}
use Rattle.std.proofs.lemmas.Bool.Decides.{nat_tests}
use Rattle.octets.proofs.Comparing.{and_assoc, and_true}
use Rattle.forcerenew.specs.Rows.{Servers, SoundRows, marks_known, sound_rows, RowsSay}

-- ---- the marks, one after the other

known_suc : (marks : List ℕ) (k : ℕ) → k < length marks → marks_known (take (suc k) marks) ≡ (marks_known (take k marks) && leb (get_or marks k 0) 2)
unfolding marks_known
known_suc [] k h = absurd (omega arith)
known_suc (x ∷ marks) zero h = and_true (leb x 2)
known_suc (x ∷ marks) (suc k) h =
    ap (λ (b : Bool). leb x 2 && b) (known_suc marks k (omega arith))
    ∙ sym (and_assoc (leb x 2) (marks_known (take k marks)) (leb (get_or marks k 0) 2))

-- a mark more
pub known_more : (marks : List ℕ) (k : ℕ) → k < length marks
    → marks_known (take (k + 1) marks) ≡ (marks_known (take k marks) && leb (get_or marks k 0) 2)
known_more marks k h = rw add-one (known_suc marks k h)

-- ---- soundness: the size of the nonces divides by 16 and gives the number of marks

pub nonces_rows : (size n : ℕ) → eqb size (16 * n) ≡ (eqb (size % 16) 0 && eqb (size / 16) n)
nonces_rows size n = grind (arith, nat_tests)

-- ---- the rules' sentence

known_all : (marks : List ℕ) → marks_known marks ≡ true → (k : ℕ) → k < length marks → get_or marks k 0 ≤ 2
unfolding marks_known
known_all [] e k h = absurd (omega arith)
known_all (x ∷ marks) e zero h = leb-true x 2 ((and-eq-true_iff (leb x 2) (marks_known marks)).0 e).0
known_all (x ∷ marks) e (suc k) h = known_all marks ((and-eq-true_iff (leb x 2) (marks_known marks)).0 e).1 k (omega arith)

all_known : (marks : List ℕ) → ((k : ℕ) → k < length marks → get_or marks k 0 ≤ 2) → marks_known marks ≡ true
unfolding marks_known
all_known [] f = refl
all_known (x ∷ marks) f = ap₂ (λ (a b : Bool). a && b) (le-leb x 2 (f 0 (omega arith))) (all_known marks (λ k l. f (suc k) (omega arith)))

module _ (s : Servers) where
  sound_to : sound_rows s ≡ true → SoundRows s
  unfolding sound_rows
  sound_to e =
      let nonces = eqb (length s.nonces) (16 * length s.marks) in
      let counters = eqb (length s.counters) (length s.marks) in
      let w = (and-eq-true_iff (nonces && counters) (marks_known s.marks)).0 e in
      let v = (and-eq-true_iff nonces counters).0 w.0 in
      record { nonces_agree = eqb-true _ _ v.0; counters_agree = eqb-true _ _ v.1; marks_known_lem = known_all s.marks w.1 }

  sound_from : SoundRows s → sound_rows s ≡ true
  unfolding sound_rows
  sound_from h = rw (eq-eqb _ _ h.nonces_agree, eq-eqb _ _ h.counters_agree) (all_known s.marks h.marks_known_lem)

pub rows_say : RowsSay
rows_say = record { sound = λ s. (sound_to s, sound_from s) }
