-- Windows: what stands in one, and how it grows by what is read behind it.
use Prim.Native.Nat.{ℕ, ◌+◌, ◌-◌, ◌≤◌, ◌<◌}
use mathlib.Core.Path.{◌≡◌, refl, sym, ap, ◌∙◌}
use mathlib.Core.List.{List, [], ◌++◌, append-nil}
use native.Mathlib.Omega.{arith}
use lib.ListN.{length, take, drop, take-append-drop}
use lib.Seq.{length-take-le, take-take, take-add, drop-drop}
use Rattle.file_verdict.specs.declared.Progress.{Progress}
use Rattle.file_verdict.specs.declared.Progress.TheVariants.{Ended}
use Rattle.program_files.specs.Reads.{ReadMeans}
use Rattle.program_files.proofs.Turns.{ended_at}
use Rattle.judge_capture.specs.Window.{window, Grown, Gathers}
use Rattle.judge_capture.specs.declared.Gathered.TheVariants.{Enough, Ended as GatheredEnded, Failed}
use Rattle.std.specs.Prelude.{Some}

-- nothing was read
pub grown_same : (room : List ℕ) (from have : ℕ) → from ≤ have → have ≤ length room → Grown (window room from have) room from have
grown_same room from have o w = record { ordered = o; within = w; read = []; holds = sym (append-nil (window room from have)) }

-- at the room's front, the first bytes as they were
pub grown_front : (old room : List ℕ) (have size : ℕ) → have ≤ size → size ≤ length room → take have room ≡ old → Grown old room 0 size
grown_front old room have size h w e =
    let n : size - 0 ≡ size = omega arith in
    record {
      ordered = omega arith;
      within = w;
      read = drop have (take size room);
      holds =
          ap (λ (n : ℕ). take n room) n
          ∙ sym (take-append-drop have (take size room))
          ∙ ap (λ (s : List ℕ). s ++ drop have (take size room)) (take-take have size room h ∙ e);
    }

-- the window in two parts
pub window_parts : (room : List ℕ) (from mid have : ℕ) → from ≤ mid → mid ≤ have → window room from have ≡ window room from mid ++ window room mid have
window_parts room from mid have h k =
    let n : have - from ≡ (mid - from) + (have - mid) = omega arith in
    let m : from + (mid - from) ≡ mid = omega arith in
    ap (λ (i : ℕ). take i (drop from room)) n ∙ take-add (mid - from) (have - mid) (drop from room)
    ∙ ap (λ (s : List ℕ). window room from mid ++ take (have - mid) s) (drop-drop (mid - from) from room ∙ ap (λ (i : ℕ). drop i room) m)

-- ---- the loop that fills the room: the bytes that were there stay, and no more are read than the room has
pub record Filling (old : List ℕ) (have : ℕ) (room : List ℕ) (size : ℕ) : Type 0 where
  pub started : have ≤ size
  pub within : size ≤ length old
  pub long : length room ≡ length old
  pub kept : take have room ≡ take have old

pub filling_start : (old : List ℕ) (have : ℕ) → have ≤ length old → Filling old have old have
filling_start old have h = record { started = omega arith; within = h; long = refl; kept = refl }

module _ {old : List ℕ} {have : ℕ} {room : List ℕ} {size : ℕ} (f : Filling old have room size) where
  -- a read behind what is there
  pub filling_read : (new : List ℕ) (more : ℕ) → take size new ≡ take size room → length new ≡ length room → size ≤ more → more ≤ length old
      → Filling old have new more
  filling_read new more k l h w =
      let s = f.started in
      record {
        started = omega arith;
        within = w;
        long = l ∙ f.long;
        kept = sym (take-take have size new s) ∙ ap (take have) k ∙ take-take have size room s ∙ f.kept;
      }

  filling_grown : Grown (take have old) room 0 size
  filling_grown = let w = f.within in let l = f.long in grown_front (take have old) room have size f.started (omega arith) f.kept

  pub filling_window : (want : ℕ) → want ≤ size → Gathers (take have old) want room (Enough (record { from = 0; end = size }))
  filling_window want h = (filling_grown, omega arith)

  pub filling_ended : (want : ℕ) {left k : ℕ} {progress : Progress} → size < want → ReadMeans size k progress → progress ≡ Ended (Some left)
      → Gathers (take have old) want room (GatheredEnded left)
  filling_ended want h m e = let z = ended_at m e in rw z (filling_grown, h)

  pub filling_failed : (want : ℕ) → size < want → Gathers (take have old) want room Failed
  filling_failed want h =
      let s = f.started in
      let w = f.within in
      omega (arith, length-take-le have old (omega arith))
