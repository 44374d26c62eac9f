-- `dhcp_message::form_of` meets its contract: where 2 to 7 pass, option 90 is whole, and what stands in the message is its own bytes (proofs/Forms.antt).
use mathlib.Core.Path.{sym, ◌∙◌}
use Rattle.refusal.proofs.Raised.{raised}
use Rattle.dhcp_message.proofs.Forms.{form_refused, form_fits_lem, form_where_passed}
use Rattle.dhcp_message.proofs.said.form_of.Goals as goal

pub form_at-requires : goal.form_at-requires
form_at-requires c =
    form_fits_lem c.args.message.now _ (sym c.in_ok-places.was ∙ c.shape_of.ensures)

pub returns-in_err-places : goal.returns-in_err-places
returns-in_err-places c =
    raised c.from_residual.result c.from_residual.ensures.1 ∙ form_refused c.args.message.now _ (sym c.in_err-places.was ∙ c.shape_of.ensures)

pub returns : goal.returns
returns c =
    form_where_passed c.args.message.now _ _ (sym c.in_ok-places.was ∙ c.shape_of.ensures) c.form_at.ensures
