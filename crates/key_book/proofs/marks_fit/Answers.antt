-- `key_book::marks_fit` meets its contract: heard rows fit; else the pairs of a mark and a counter are tested one by one (proofs/Steps.antt).
use Rattle.std.proofs.Common.{◌∙◌, take, rules, tests}
use Rattle.std.proofs.lemmas.Iterator.{YieldsList-from_slice, YieldsList-from_zip}
use Rattle.std.proofs.lemmas.Iterator.Consumers.{YieldsList-at}
use Rattle.std.proofs.lemmas.Iterator.Search.{all_from_yields_List}
use Rattle.key_book.proofs.Steps.{fits_pair, fitting_all}
use Rattle.key_book.proofs.marks_fit.Goals as goal

pub returns : goal.returns
returns c =
    let marks = YieldsList-at c.zip.ensures.first (YieldsList-from_slice (take c.args.rows c.args.marks.now) c.iter.ensures.rest) in
    let counters = YieldsList-from_slice {s = c.zip.result.b} (take c.args.rows c.args.received.now) (search rules) in
    all_from_yields_List fits_pair c.all.new.self _ c.all.result c.all.ensures.ran (YieldsList-from_zip {s = c.zip.result} marks counters)
    (λ x b q k. search (rules, tests))
    ∙ fitting_all _ _ _ c.requires.rows_in_bounds c.requires.rows_in_bounds_2
