use borrow.Author.Rules.{rules}
use Rattle.dhcp_message.proofs.Typing.{typed_start, type_none, type_end, type_pad, type_fits, type_opt}
use Rattle.dhcp_message.proofs.types.message_type.Goals as goal

pub loop-at-init : goal.loop-at-init
loop-at-init c = typed_start _ _ (search rules) (search rules)

pub returns-in-End : goal.returns-in-End
returns-in-End c = type_end _ c.loop-at.invariant _ _ _ c.in-Some.ensures.steps c.in-End.is c.type_found.ensures

pub typed-typing-requires : goal.typed-typing-requires
typed-typing-requires c =
    let fits = type_fits _ c.loop-at.invariant _ _ _ c.in-Some.ensures.steps c.in-Opt.is in
    record { option_head_le_size = fits.0; size_in_bounds = fits.1 }

pub loop-at-preserved-in-Opt : goal.loop-at-preserved-in-Opt
loop-at-preserved-in-Opt c = type_opt _ c.loop-at.invariant _ _ _ c.in-Some.ensures.steps c.in-Opt.is c.typed-typing.ensures

pub loop-at-preserved : goal.loop-at-preserved
loop-at-preserved c = type_pad _ c.loop-at.invariant _ _ _ c.in-Some.ensures.steps c.in-Pad.is

pub returns : goal.returns
returns c = type_none _ c.loop-at.invariant c.in-None.ensures.steps.0
