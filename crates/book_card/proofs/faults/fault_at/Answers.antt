-- `book_card::fault_at` meets its contract: each end is one case of `fault_by` (proofs/Causes.antt).
use borrow.Author.Rules.{rules}
use native.Mathlib.Omega.{arith}
use mathlib.Core.Path.{sym, ◌∙◌}
use Rattle.book_card.proofs.Causes.{fault_close, fault_kind, fault_short, fault_long, fault_counter, fault_mark}
use Rattle.book_card.proofs.faults.fault_at.Goals as goal

pub returns-then-kind-eq-CLOSE_KIND : goal.returns-then-kind-eq-CLOSE_KIND
returns-then-kind-eq-CLOSE_KIND c = fault_close _ _ _ _ (search rules)

pub returns-then-kind-row_kind : goal.returns-then-kind-row_kind
returns-then-kind-row_kind c = fault_kind _ _ _ _ (search rules) (λ e. c.if-kind-row_kind.true (e ∙ sym c.row_kind.ensures))

pub returns-then-size-before_key : goal.returns-then-size-before_key
returns-then-size-before_key c =
    fault_short _ _ _ _ (search rules) (c.if-kind-row_kind.false ∙ c.row_kind.ensures) (omega arith)

pub returns-then-before_key-size : goal.returns-then-before_key-size
returns-then-before_key-size c =
    fault_long _ _ _ _ (search rules) (c.if-kind-row_kind.false ∙ c.row_kind.ensures) (omega arith) (omega arith)

pub returns-then-mark_in-eq-NOT_HEARD : goal.returns-then-mark_in-eq-NOT_HEARD
returns-then-mark_in-eq-NOT_HEARD c =
    fault_counter _ _ _ _ (search rules) (c.if-kind-row_kind.false ∙ c.row_kind.ensures) (omega arith) (omega arith) _
    c.mark_in.ensures (search rules)

pub returns : goal.returns
returns c =
    fault_mark _ _ _ _ (search rules) (c.if-kind-row_kind.false ∙ c.row_kind.ensures) (omega arith) (omega arith) _
    c.mark_in.ensures (search rules)
