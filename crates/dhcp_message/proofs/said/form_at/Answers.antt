-- `dhcp_message::form_at` meets its contract: each answer is one case of `said_for` (proofs/Forms.antt).
use Rattle.dhcp_message.proofs.Forms.{form_full, form_other, form_request, form_other_length}
use borrow.Author.Rules.{rules}
use Rattle.dhcp_message.proofs.said.form_at.Goals as goal

pub returns-then-not-has_method : goal.returns-then-not-has_method
returns-then-not-has_method c = form_other c.args.message.now c.args.p _ c.has_method.ensures (search rules)

pub returns-in-31 : goal.returns-in-31
returns-in-31 c =
    form_full c.args.message.now c.args.p _ c.has_method.ensures _ _ (search rules) (search rules)
    c.big.ensures.0 c.big-in-31.ensures.0

pub returns-in-11 : goal.returns-in-11
returns-in-11 c = form_request c.args.message.now c.args.p _ c.has_method.ensures (search rules) (search rules)

pub returns-in_default : goal.returns-in_default
returns-in_default c = form_other_length c.args.message.now c.args.p (search rules) (search rules)
