-- `key_book::key_of` meets its contract: the key fits, or the empty part is answered (proofs/Keys.antt).
use native.Mathlib.Omega.{arith}
use Rattle.key_book.proofs.Keys.{key_there, key_absent}
use Rattle.key_book.proofs.key_of.Goals as goal

pub returns-then-lengths-row : goal.returns-then-lengths-row
returns-then-lengths-row c =
    let told = key_absent c.args.store.now c.args.lengths.now c.args.row c.args.store.ref_ptr (λ f. omega arith) in
    record { content = told.0; place = told.1 }

pub returns-then-store-row : goal.returns-then-store-row
returns-then-store-row c =
    let told = key_absent c.args.store.now c.args.lengths.now c.args.row c.args.store.ref_ptr (λ f. omega arith) in
    record { content = told.0; place = told.1 }

pub returns-then-store-start : goal.returns-then-store-start
returns-then-store-start c =
    let told = key_absent c.args.store.now c.args.lengths.now c.args.row c.args.store.ref_ptr (λ f. omega arith) in
    record { content = told.0; place = told.1 }

pub returns : goal.returns
returns c =
    let told = key_there c.args.store.now c.args.lengths.now c.args.row c.args.store.ref_ptr (record { listed = omega arith; stored = omega arith }) in
    record { content = told.0; place = told.1 }
