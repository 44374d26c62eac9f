-- `comparison::put_said` meets its contract: each arm puts what `said_of` says for its side and what was found (proofs/OptionLines.antt).
use mathlib.Core.Path.{sym, ◌∙◌}
use Rattle.comparison.proofs.OptionLines.{put_nothing, said_missing, said_added, said_there, said_same, said_altered}
use Rattle.comparison.proofs.options.put_said.Goals as goal

pub put_option_line-requires : goal.put_option_line-requires
put_option_line-requires c =
    rw (c.in-First-None.is-0, c.in-First-None.is-1, said_missing) at c.requires.found_in_bounds

pub put_option_line-requires-in-Second-None : goal.put_option_line-requires-in-Second-None
put_option_line-requires-in-Second-None c =
    rw (c.in-Second-None.is-0, c.in-Second-None.is-1, said_added) at c.requires.found_in_bounds

pub returns-then-same : goal.returns-then-same
returns-then-same c =
    let e = said_same c.args.code c.args.before _ _ (sym c.same.ensures ∙ c.if-same.true) in
    rw (c.in-First-Some.is-0, c.in-First-Some.is-1, e) (put_nothing _ _)

pub put_option_line-requires-in-First-Some : goal.put_option_line-requires-in-First-Some
put_option_line-requires-in-First-Some c =
    let e = said_altered c.args.code c.args.before _ _ (sym c.same.ensures ∙ c.if-same.false) in
    rw (c.in-First-Some.is-0, c.in-First-Some.is-1, e) at c.requires.found_in_bounds

pub returns-in-First-None : goal.returns-in-First-None
returns-in-First-None c = rw (c.in-First-None.is-0, c.in-First-None.is-1, said_missing) c.put_option_line.ensures

pub returns-in-Second-None : goal.returns-in-Second-None
returns-in-Second-None c =
    rw (c.in-Second-None.is-0, c.in-Second-None.is-1, said_added) c.put_option_line-in-Second-None.ensures

pub returns-else-same : goal.returns-else-same
returns-else-same c =
    let e = said_altered c.args.code c.args.before _ _ (sym c.same.ensures ∙ c.if-same.false) in
    rw (c.in-First-Some.is-0, c.in-First-Some.is-1, e) c.put_option_line-in-First-Some.ensures

pub returns-in-Second-Some : goal.returns-in-Second-Some
returns-in-Second-Some c = rw (c.in-Second-Some.is-0, c.in-Second-Some.is-1, said_there) (put_nothing _ _)
