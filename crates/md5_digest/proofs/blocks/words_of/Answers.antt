use Prim.Native.Nat.{◌*◌, ◌<◌}
use mathlib.Core.Path.{◌≡◌, refl, sym, ◌∙◌}
use native.Mathlib.Numerals.{add-one}
use native.Mathlib.Omega.{arith}
use lib.ListN.{length, take, drop, length-set}
use lib.Seq.{take-suc-set, take_all}
use Rattle.octets.specs.Numbers.{little_at}
use Rattle.octets.proofs.LowFirst.{number_part}
use Rattle.md5_block.specs.Word.{block_words}
use Rattle.md5_digest.specs.Block.{block_size, load_to, load}
use Rattle.md5_digest.proofs.blocks.words_of.Goals as goal

pub loop-i-init : goal.loop-i-init
unfolding load_to
loop-i-init c = (refl, refl)

pub loop-i-preserved : goal.loop-i-preserved
unfolding load_to
loop-i-preserved c = let h : c.loop-i.i < length c.loop-i.x = omega arith in
    let e : c.word.result ≡ little_at (take block_size (drop c.args.at c.args.s.now)) (4 * c.loop-i.i) 4 =
    c.word.ensures ∙ sym (number_part c.args.s.now c.args.at block_size (4 * c.loop-i.i) 4 (omega arith) (omega arith)) in
    (simp length-set (omega arith), rw (add-one, take-suc-set, e, c.loop-i.invariant.1))

pub returns : goal.returns
unfolding load
returns c = let e : c.loop-i.i ≡ block_words = omega arith in
    sym (take_all block_words c.loop-i.x (omega arith)) ∙ (rw e at c.loop-i.invariant.1)
