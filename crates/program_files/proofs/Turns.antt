-- One turn of the loop that reads a file, by the law of file_verdict: the progress that was answered, and the case of it that was met.
use Prim.Native.Nat.{ℕ, ◌≤◌, ◌<◌}
use mathlib.Core.Path.{◌≡◌}
use native.Mathlib.Omega.{arith}
use Rattle.file_verdict.specs.declared.Progress.{Progress}
use Rattle.file_verdict.specs.declared.Progress.TheVariants.{Ended, More}
use Rattle.file_verdict.specs.Files.{after_read, EndSeen}
use Rattle.file_verdict.proofs.Reading.{ReadTurn, read_failed, read_turn}
use Rattle.program_files.specs.Reads.{ReadMeans}
use Rattle.std.specs.Prelude.{None, Option, Some, ℕ}

-- the room has kept its length
pub read_meant : {have room : ℕ} (now : ℕ) (got : Option ℕ) {progress : Progress} → now ≡ room → progress ≡ after_read have now got
    → ReadMeans have room progress
read_meant now got long e = record { got = got; means = rw (← long) e }

-- a room that is full gets no more: as if a read had failed
pub room_full : {have room : ℕ} → ReadMeans have room (Ended None)
room_full {have} {room} = record { got = None; means = read_failed have room }

module _ {have now : ℕ} {progress : Progress} (meant : ReadMeans have now progress) where
  turn : ReadTurn have now progress
  turn = rw meant.means (read_turn have now meant.got)

  -- a file that has ended has as many bytes as were read, and there was room for one more
  pub ended_at : {n : ℕ} → progress ≡ Ended (Some n) → n ≡ have
  ended_at m = let t = turn in rw m at t

  pub turn_ended : {room : ℕ} → now ≡ room → have < room → (content : Option ℕ) → progress ≡ Ended content → EndSeen room content
  turn_ended l h None m = tt
  turn_ended l h (Some n) m = let e = ended_at m in omega arith

  pub turn_more : {n room : ℕ} → now ≡ room → progress ≡ More n → (have < n) × (n ≤ room)
  turn_more l m = let t = turn in rw (m, l) at t
