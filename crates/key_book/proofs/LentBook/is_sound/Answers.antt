-- `key_book::LentBook::is_sound` meets its contract: where the sizes agree, the rows in use have room in each list.
use native.Mathlib.Omega.{arith}
use mathlib.Core.Path.{ap}
use mathlib.Core.Bool.{not}
use borrow.Author.Rules.{rules}
use Prim.Native.Nat.{◌≤◌}
use lib.ListN.{length}
use Rattle.key_book.proofs.Steps.{sizes_told}
use Rattle.key_book.proofs.LentBook.is_sound.Goals as goal

pub keys_sized-requires : goal.keys_sized-requires
keys_sized-requires c =
    let few : c.args.self.rows ≤ length c.args.self.ids.now = search rules in
    omega (arith, (sizes_told _ _ c.sizes_agree.ensures (ap not c.if-not-sizes_agree.false)).lengths_agree)

pub marks_fit-requires : goal.marks_fit-requires
marks_fit-requires c =
    let few : c.args.self.rows ≤ length c.args.self.ids.now = search rules in
    let s = sizes_told _ _ c.sizes_agree.ensures (ap not c.if-not-sizes_agree.false) in
    record { rows_in_bounds = omega (arith, s.marks_agree); rows_in_bounds_2 = omega (arith, s.received_agree) }
