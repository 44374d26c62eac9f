-- `capture::is_ethernet` meets its contract: the first word decides, and where it is the magic number the link type does (proofs/Headers.antt).
use mathlib.Core.Path.{◌∙◌}
use borrow.Author.Rules.{rules}
use borrow.Author.Tests.{ne_eqb}
use Rattle.capture.proofs.Headers.{other_magic, by_link_type}
use Rattle.capture.proofs.header.is_ethernet.Goals as goal

pub returns-then-number_at-eq-MAGIC : goal.returns-then-number_at-eq-MAGIC
returns-then-number_at-eq-MAGIC c = by_link_type _ _ _ c.number_at.ensures.0 (search rules) _ c.number_at-then-number_at-eq-MAGIC.ensures.0

pub returns-else-number_at-eq-MAGIC : goal.returns-else-number_at-eq-MAGIC
returns-else-number_at-eq-MAGIC c =
    ne_eqb _ _ c.if-number_at-eq-MAGIC.false ∙ other_magic _ _ _ c.number_at.ensures.0 (search rules)
