-- For the contracts of private functions: the bytes that two layouts are compared by. Nothing here needs to be believed: the entry's contract speaks of
-- specs/Entry.antt, and proofs/ shows that the two agree.
use Rattle.std.specs.Prelude.{ℕ, List, ◌++◌}
use Rattle.comparison.specs.Difference.{Parts, codes_of}

-- the codes, End's the last of them, and behind it the bytes after End
unfoldable pub layout_bytes : Parts → List ℕ
layout_bytes a = codes_of a.tokens ++ a.rest
