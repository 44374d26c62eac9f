-- Lines in the room where they wait: one more behind those that are there, by what the writer in the rest of the room answered.
use Prim.Native.Nat.{ℕ, ◌+◌, ◌-◌, ◌≤◌, ◌<◌}
use mathlib.Core.Path.{◌≡◌, sym, ap, ◌∙◌}
use mathlib.Core.Bool.{true, false, cond}
use mathlib.Core.List.{List, ◌++◌}
use native.Mathlib.Nat.{add-zero}
use native.Mathlib.Omega.{arith}
use borrow.Author.Tests.{le-leb, lt-leb}
use lib.Dec.{leb}
use lib.ListN.{length, take, drop, length-drop}
use lib.Seq.{length-take-le}
use Rattle.octets.specs.Bytes.{written}
use Rattle.octets.proofs.Written.{written_none, written_part}
use Rattle.verdict_line.specs.declared.Line.TheVariants.{Cut}
use Rattle.verdict_line.specs.Line.{numbered_most, line_of, PutAt, size_in, out_after}
use Rattle.verdict_line.proofs.Lines.{line_within, out_whole}
use Rattle.judge_capture.specs.Window.{is_cut, end_line}
use Rattle.judge_capture.specs.declared.Next.{Next}

module _ (size : ℕ) (out : List ℕ) (h : size ≤ length out) where
  -- the rest of the room
  abbrev behind : List ℕ
  behind = take (length out - size) (drop size out)

  rest_size : length behind ≡ length out - size
  rest_size = let d = length-drop size out in length-take-le (length out - size) (drop size out) (omega arith)

  module _ (line : List ℕ) {r : ℕ} (e : r ≡ size_in line (length behind)) where
    pub added_within : size + r ≤ length out
    added_within = let w = line_within line (length behind) e in let l = rest_size in omega arith

    pub added : (part : List ℕ) → r ≡ length line → part ≡ out_after line behind
        → PutAt out size line (take size out ++ (part ++ drop (length out - size) (drop size out))) (size + r)
    added part w p =
        let k = added_within in
        let l = rest_size in
        record {
          place = omega arith;
          content =
              ap (λ (x : List ℕ). take size out ++ (x ++ drop (length out - size) (drop size out))) (p ∙ out_whole line behind (omega arith))
              ∙ written_part size (length out - size) 0 line out (omega arith) (omega arith)
              ∙ ap (λ (n : ℕ). written n line out) (add-zero size);
        }

-- ---- the end

module _ (size : ℕ) (out : List ℕ) (next : Next) where
  pub end_none : is_cut next ≡ false → PutAt out size (end_line next) out size
  end_none e = rw e (record { place = omega arith; content = sym (written_none size out) })

  pub end_cut : {new : List ℕ} {r : ℕ} → is_cut next ≡ true → PutAt out size (line_of Cut) new r → PutAt out size (end_line next) new r
  end_cut e p = rw e p

-- ---- the two ends of `make_room` that write nothing and all

module _ (size room : ℕ) where
  pub room_kept : size + numbered_most ≤ room → size ≡ cond (leb (size + numbered_most) room) size 0
  room_kept h = rw (le-leb (size + numbered_most) room h)

  pub room_emptied : room < size + numbered_most → 0 ≡ cond (leb (size + numbered_most) room) size 0
  room_emptied h = rw (lt-leb (size + numbered_most) room h)
