-- RFC 1321, section 3.4: a block of sixteen words through the four rounds.
use Rattle.std.specs.Prelude.{ℕ, zero, suc, ◌+◌, ◌*◌, ◌%◌, List, slice_index}
use Rattle.md5_block.specs.declared.Words.{Words}
use Rattle.md5_block.specs.Word.{block_words, add32, rotl, auxiliary, word_no, additive, rotations}

-- one step of round r, a = b + ((a + f(b, c, d) + word + constant) <<< s), with the four words turned by one place
unfoldable pub step_with : ℕ → ℕ → ℕ → ℕ → Words → Words
step_with r word constant s w =
    record {
      a = w.d;
      b = add32 w.b (rotl (add32 (add32 (add32 w.a (auxiliary r w.b w.c w.d)) word) constant) s);
      c = w.b;
      d = w.c;
    }

-- step i of round r on a block
unfoldable pub step_at : List ℕ → ℕ → ℕ → Words → Words
step_at x r i w = step_with r (slice_index x (word_no r i)) (slice_index additive (block_words * r + i)) (slice_index rotations (4 * r + i % 4)) w

-- the first n steps of round r
unfoldable pub steps : List ℕ → ℕ → ℕ → Words → Words
steps x r zero w = w
steps x r (suc n) w = step_at x r n (steps x r n w)

unfoldable pub round : List ℕ → ℕ → Words → Words
round x r w = steps x r block_words w

abbrev pub added : Words → Words → Words
added v w = record { a = add32 v.a w.a; b = add32 v.b w.b; c = add32 v.c w.c; d = add32 v.d w.d }

-- one block: the four rounds, and the sum with the words before it
unfoldable pub compress : Words → List ℕ → Words
compress w x = added w (round x 3 (round x 2 (round x 1 (round x 0 w))))
