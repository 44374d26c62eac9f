-- A step from its sum, and a round step after step.
use Rattle.std.proofs.Common.{◌≡◌, ℕ, suc, List, refl, ap, ◌∙◌}
use Rattle.md5_block.specs.declared.Words.{Words}
use Rattle.md5_block.specs.Word.{add32, rotl, auxiliary}
use Rattle.md5_block.specs.Block.{step_with, step_at, steps, round}

-- one step more
pub next : (x : List ℕ) (r n : ℕ) (w : Words) {u v : Words} → v ≡ steps x r n w → u ≡ step_at x r n v → u ≡ steps x r (suc n) w
unfolding steps
next x r n w p q = q ∙ ap (step_at x r n) p

-- sixteen steps, each from the words that the one before it left
pub sixteen : (x : List ℕ) (r : ℕ) (w : Words) {w1 w2 w3 w4 w5 w6 w7 w8 w9 w10 w11 w12 w13 w14 w15 w16 : Words}
    → w1 ≡ step_at x r 0 w → w2 ≡ step_at x r 1 w1 → w3 ≡ step_at x r 2 w2 → w4 ≡ step_at x r 3 w3
    → w5 ≡ step_at x r 4 w4 → w6 ≡ step_at x r 5 w5 → w7 ≡ step_at x r 6 w6 → w8 ≡ step_at x r 7 w7
    → w9 ≡ step_at x r 8 w8 → w10 ≡ step_at x r 9 w9 → w11 ≡ step_at x r 10 w10 → w12 ≡ step_at x r 11 w11
    → w13 ≡ step_at x r 12 w12 → w14 ≡ step_at x r 13 w13 → w15 ≡ step_at x r 14 w14 → w16 ≡ step_at x r 15 w15
    → w16 ≡ round x r w
unfolding round steps
sixteen x r w e1 e2 e3 e4 e5 e6 e7 e8 e9 e10 e11 e12 e13 e14 e15 e16 =
    let four = next x r 3 w (next x r 2 w (next x r 1 w (next x r 0 w refl e1) e2) e3) e4 in
    let eight = next x r 7 w (next x r 6 w (next x r 5 w (next x r 4 w four e5) e6) e7) e8 in
    let twelve = next x r 11 w (next x r 10 w (next x r 9 w (next x r 8 w eight e9) e10) e11) e12 in
    next x r 15 w (next x r 14 w (next x r 13 w (next x r 12 w twelve e13) e14) e15) e16

-- a step from the sum that is turned, however it was made
pub step_made : (r word constant s : ℕ) (w : Words) {m : ℕ}
    → m ≡ add32 (add32 (add32 w.a (auxiliary r w.b w.c w.d)) word) constant
    → ◌≡◌ {A = Words} (record { a = w.d; b = add32 w.b (rotl m s); c = w.b; d = w.c }) (step_with r word constant s w)
unfolding step_with
step_made r word constant s w e = ap (λ (n : ℕ). record { a = w.d; b = add32 w.b (rotl n s); c = w.b; d = w.c }) e
