-- `delayed_auth::write_seal` meets its contract: counter and id, then the MAC of what then stands there (proofs/Writers.antt).
-- ---- what is known at the start, and of what the first writer leaves
use Rattle.dhcp_message.specs.Seal.{FullForm}
use Rattle.dhcp_message.proofs.Seals.{full_form}
use Rattle.delayed_auth.proofs.Writers.{part_back, Fielded, fielded}
use borrow.Author.Rules.{rules}
use native.Mathlib.Omega.{arith}
use Rattle.delayed_auth.proofs.seals.write_seal.Goals as goal
use Rattle.delayed_auth.proofs.seals.write_seal.Goals.{After-put_fields, Start}

form : (s : Start) → FullForm s.args.message.now s.args.auth
form s = full_form _ _ s.requires.0

first : (c : After-put_fields)
    → Fielded c.args.message.now c.args.auth c.args.counter c.args.id (part_back c.args.auth c.args.message.now c.put_fields.new.part)
first c =
    fielded _ _ _ _ c.requires.0 c.ranges.counter.fits c.ranges.id.fits _ c.put_fields.ensures

pub overflow_add-from : goal.overflow_add-from
overflow_add-from c = let f = form (goal.at.overflow_add-from c).Start in omega (arith, f.inside, f.most)

pub overflow_add-to : goal.overflow_add-to
overflow_add-to c = let f = form (goal.at.overflow_add-to c).Start in omega (arith, f.inside, f.most)

pub slice_bounds-put_fields-end : goal.slice_bounds-put_fields-end
slice_bounds-put_fields-end c = omega (arith, (form (goal.at.slice_bounds-put_fields-end c).Start).inside)

pub mac_of-mac-requires : goal.mac_of-mac-requires
mac_of-mac-requires c =
    ((first (goal.at.mac_of-mac-requires c).After-put_fields).form, c.requires.1)

pub returns : goal.returns
returns c =
    (first (goal.at.returns c).After-put_fields).sealed _ _ _ (search rules) c.mac_of-mac.ensures c.put_mac.ensures
