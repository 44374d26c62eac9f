-- `capture::file_header` meets its contract: each end is one case of `file_header_of` (proofs/Headers.antt).
use mathlib.Core.Path.{sym, ◌∙◌}
use Rattle.capture.proofs.Headers.{header_short, header_low, header_high, header_neither}
use borrow.Author.Rules.{rules}
use Rattle.capture.proofs.header.file_header.Goals as goal

pub returns-then-s-lt-FILE_HEADER_SIZE : goal.returns-then-s-lt-FILE_HEADER_SIZE
returns-then-s-lt-FILE_HEADER_SIZE c = header_short _ (search rules)

pub returns-then-is_ethernet : goal.returns-then-is_ethernet
returns-then-is_ethernet c = header_low _ (search rules) (sym c.is_ethernet.ensures ∙ c.if-is_ethernet.true)

pub returns-then-is_ethernet-2 : goal.returns-then-is_ethernet-2
returns-then-is_ethernet-2 c =
    header_high _ (search rules) (sym c.is_ethernet.ensures ∙ c.if-is_ethernet.false) (sym c.is_ethernet-2.ensures ∙ c.if-is_ethernet-2.true)

pub returns : goal.returns
returns c =
    header_neither _ (search rules) (sym c.is_ethernet.ensures ∙ c.if-is_ethernet.false) (sym c.is_ethernet-2.ensures ∙ c.if-is_ethernet-2.false)
