-- `known_verdict::read_id` meets its contract: what is left, behind the number read so far, is the whole argument's id (proofs/Scanning.antt).
use Rattle.std.proofs.Common.{◌≡◌, ◌<◌, drop}
use Rattle.known_verdict.specs.Argument.{ids_limit, id_behind, id_in}
use Rattle.known_verdict.proofs.read_id.Given as goal

abbrev pub invariant-loop-c : goal.invariant-loop-c
invariant-loop-c l = (l.id < ids_limit) × (id_behind l.id (drop l.c-index l.text) ≡ id_in l.fn.text)
