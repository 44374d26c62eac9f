-- `delayed_auth::judged` meets its contract: 1 to 9, then the rest by `judged_full`.
use mathlib.Core.Path.{sym, ◌∙◌}
use Rattle.refusal.proofs.Raised.{raised}
use Rattle.delayed_auth.proofs.Judging.{form_checked}
use Rattle.delayed_auth.proofs.checks.judged.Goals as goal

pub returns-in_err-auth : goal.returns-in_err-auth
returns-in_err-auth c =
    raised c.from_residual.result c.from_residual.ensures.1 ∙ form_checked _ _ _ (sym c.in_err-auth.was ∙ c.admitted.ensures)
