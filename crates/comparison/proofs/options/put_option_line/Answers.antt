-- `comparison::put_option_line` meets its contract: the five pieces, one behind another, are the line (proofs/OptionLines.antt).
use Rattle.comparison.proofs.OptionLines.{option_line_made}
use Rattle.comparison.proofs.options.put_option_line.Goals as goal

pub returns : goal.returns
returns c =
    let s₁ = c.add_bytes-code_at.ensures in
    let s₂ = c.add_decimal-space_at.ensures in
    let s₃ = c.add_bytes-occurrence_at.ensures in
    let s₄ = c.add_decimal-end.ensures in
    let s₅ = c.add_bytes.ensures in
    option_line_made _ _ _ _ _ c.requires (s₁.place, s₁.content) (s₂.place, s₂.content) (s₃.place, s₃.content) (s₄.place, s₄.content) (s₅.place, s₅.content)
