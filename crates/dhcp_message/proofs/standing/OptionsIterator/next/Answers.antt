-- `dhcp_message::Options::next` meets its contract: what stands at an offset takes a byte at least and lies within the message (proofs/Turns.antt).
use mathlib.Core.Path.{refl, sym, ◌∙◌}
use native.Mathlib.Omega.{arith}
use borrow.Author.Rules.{rules}
use Rattle.dhcp_message.proofs.Turns.{end_fits, pad_fits, opt_fits}
use Rattle.dhcp_message.proofs.standing.OptionsIterator.next.Goals as goal
use Rattle.dhcp_message.proofs.standing.OptionsIterator.next.Goals.{in-End, in-Pad, in-Opt}

pub overflow_sub-taken : goal.overflow_sub-taken
overflow_sub-taken c = omega (arith, end_fits _ _ (sym c.in-End.is ∙ c.here_at-here.ensures))

pub overflow_add-self : goal.overflow_add-self
overflow_add-self c = elim c.match-here.branch [
  | in-End w ↦ omega (arith, w.taken-is, end_fits _ _ (sym w.in-End.is ∙ c.here_at-here.ensures))
  | in-Pad w ↦ omega (arith, w.taken-is, pad_fits _ _ (sym w.in-Pad.is ∙ c.here_at-here.ensures))
  | in-Opt w ↦ omega (arith, w.taken-is, opt_fits _ _ _ _ (sym w.in-Opt.is ∙ c.here_at-here.ensures))
]

pub returns-clause-goes : goal.returns-clause-goes
returns-clause-goes c = elim c.match-here.branch [
  | in-End w ↦ rw w.taken-is (search (rules, end_fits _ _ (sym w.in-End.is ∙ c.here_at-here.ensures)))
  | in-Pad w ↦ rw w.taken-is (search (rules, pad_fits _ _ (sym w.in-Pad.is ∙ c.here_at-here.ensures)))
  | in-Opt w ↦ rw w.taken-is (search (rules, opt_fits _ _ _ _ (sym w.in-Opt.is ∙ c.here_at-here.ensures)))
]

pub returns-clause-steps : goal.returns-clause-steps
returns-clause-steps c = elim c.match-here.branch [
  | in-End w ↦
      let e = sym w.in-End.is ∙ c.here_at-here.ensures in
      let l = end_fits _ _ e in
      rw (w.here-is, w.in-End.is, w.taken-is) (record { place = refl; stands = e; whole = search rules; same = refl; next = omega arith })
  | in-Pad w ↦
      let e = sym w.in-Pad.is ∙ c.here_at-here.ensures in
      rw (w.here-is, w.in-Pad.is, w.taken-is) (record { place = refl; stands = e; whole = search rules; same = refl; next = refl })
  | in-Opt w ↦
      let e = sym w.in-Opt.is ∙ c.here_at-here.ensures in
      rw (w.here-is, w.taken-is) (record { place = refl; stands = e; whole = search rules; same = refl; next = refl })
]
