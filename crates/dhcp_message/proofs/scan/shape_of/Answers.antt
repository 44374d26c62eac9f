-- `dhcp_message::shape_of` meets its contract: each answer is one case of checks 2 to 7 (proofs/Shapes.antt).
use mathlib.Core.Path.{sym, ◌∙◌}
use Rattle.dhcp_message.proofs.Shapes.{shape_size, shape_cookie, shape_broken, shape_whole}
use borrow.Author.Rules.{rules}
use Rattle.dhcp_message.proofs.scan.shape_of.Goals as goal

pub returns-then-message-lt-MESSAGE_LEAST : goal.returns-then-message-lt-MESSAGE_LEAST
returns-then-message-lt-MESSAGE_LEAST c = shape_size _ c.then-message-lt-MESSAGE_LEAST.either

pub returns-then-not-is_cookie : goal.returns-then-not-is_cookie
returns-then-not-is_cookie c = shape_cookie _ (search rules) (search rules) _ c.is_cookie.ensures (c.if-not-is_cookie.true)

pub returns-in_default : goal.returns-in_default
returns-in_default c =
    shape_broken _ (search rules) (search rules) _ c.is_cookie.ensures (c.if-not-is_cookie.false)
    (sym c.in_default.is ∙ c.scan_options.ensures)

pub returns : goal.returns
returns c =
    shape_whole _ (search rules) (search rules) _ c.is_cookie.ensures (c.if-not-is_cookie.false) _ _ _
    (sym c.in-Some.is ∙ c.scan_options.ensures) c.shape_found.ensures
