-- `verdict_line::add_decimal` meets its contract: the digits are made in a room of their own, which twenty fit, and added (proofs/Places.antt, Digits.antt).
use native.Mathlib.Omega.{arith}
use Rattle.verdict_line.proofs.Digits.{length_word}
use Rattle.verdict_line.proofs.Lines.{made_take, made_size}
use Rattle.verdict_line.proofs.Places.{added_same}
use Rattle.verdict_line.proofs.add_decimal.Goals as goal

pub put_decimal-size-requires : goal.put_decimal-size-requires
put_decimal-size-requires c = omega (arith, length_word _ c.ranges.x.fits)

pub slice_bounds-digits-end : goal.slice_bounds-digits-end
slice_bounds-digits-end c =
    omega (arith, c.put_decimal-size.ensures.place, length_word _ c.ranges.x.fits)

pub slice_bounds-add_bytes-end : goal.slice_bounds-add_bytes-end
slice_bounds-add_bytes-end c =
    made_size c.put_decimal-size.ensures (omega (arith, length_word _ c.ranges.x.fits))

pub returns : goal.returns
returns c =
    let t = made_take c.put_decimal-size.ensures (omega (arith, length_word _ c.ranges.x.fits)) in
    let p = added_same c.args.out.now c.args.at t (c.add_bytes.ensures.place, c.add_bytes.ensures.content) in
    record { place = p.0; content = p.1 }
