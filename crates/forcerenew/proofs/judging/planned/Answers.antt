-- `forcerenew::planned` meets its contract: of a row that is not there by the law of proofs/Cases.antt, and its rows are the rules' sound ones.
use Rattle.std.proofs.Common.{◌≡◌, Result, Ok, Err, IfOk, sym, ◌∙◌}
use Rattle.dhcp_message.specs.Shape.{shape_of}
use Rattle.forcerenew.specs.Lent.{servers_in}
use Rattle.forcerenew.proofs.Soundness.{rows_say}
use Rattle.forcerenew.proofs.Cases.{missing_is}
use Rattle.forcerenew.proofs.judging.planned.Goals as goal

-- what is so whatever a result says
any_ok : {T E A : Type 0} → (r : Result T E) → A → IfOk r (λ _. A)
any_ok (Ok x) a = a
any_ok (Err e) a = tt

pub returns-then-servers-row-clause-planned : goal.returns-then-servers-row-clause-planned
returns-then-servers-row-clause-planned c =
    let shape : shape_of c.args.message.now ≡ Ok c.in_ok-places.places = sym c.shape_of.ensures ∙ c.in_ok-places.was in
    sym (missing_is (servers_in c.args.servers) _ _ _ (sym c.is_sound.ensures ∙ c.if-not-is_sound.false) shape c.if-servers-row.true)

pub row-requires-clause-sound : goal.row-requires-clause-sound
row-requires-clause-sound c = (rows_say.sound (servers_in c.args.servers)).0 (sym c.is_sound.ensures ∙ c.if-not-is_sound.false)

pub returns-clause-room : goal.returns-clause-room
returns-clause-room c =
    any_ok c.planned_at.result ((rows_say.sound (servers_in c.args.servers)).0 (sym c.is_sound.ensures ∙ c.if-not-is_sound.false), c.if-servers-row.false)
