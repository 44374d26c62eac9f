-- What is written for any two files, in the rules' words (docs/RULES.md, 'Two files side by side'): a closed statement, proved in proofs/Says.antt.
use Rattle.std.specs.Prelude.{ℕ, ◌≤◌, ◌<◌, ◌≡◌, ◌↔◌, ◌≢◌, ◌⊎◌, List, length, None, Option, Some}
use Rattle.refusal.specs.Number.{number_of}
use Rattle.refusal.specs.Lowest.{NothingBelow}
use Rattle.refusal.specs.declared.Refusal.{Refusal}
use Rattle.refusal.specs.declared.Refusal.TheVariants.{OtherAuthentication, NoRoomForReport}
use Rattle.octets.specs.Bytes.{Bytes}
use Rattle.dhcp_message.specs.Message.{Passes27}
use Rattle.dhcp_message.specs.Numbers.{Applies}
use Rattle.verdict_line.specs.declared.Line.TheVariants.{Refused, Unreadable}
use Rattle.verdict_line.specs.Line.{line_of}
use Rattle.file_verdict.specs.Files.{file_most}
use Rattle.comparison.specs.Entry.{comparison_most, text_for}
use Rattle.comparison_verdict.specs.Report.{report_for}

-- a file is missing, can't be read, or is above the limit
abbrev pub NotJudged : Option (List ℕ) → Type 0
NotJudged None = Unit {0}
NotJudged (Some s) = file_most < length s

-- what a file holds, if anything, is bytes
abbrev pub OfBytes : Option (List ℕ) → Type 0
OfBytes None = Unit {0}
OfBytes (Some s) = Bytes s

-- the message's number of 2 to 7: the lowest that applies
abbrev pub HasNumber : List ℕ → Refusal → Type 0
HasNumber m r = Applies m r × NothingBelow (Applies m) (number_of r) × (number_of r < number_of OtherAuthentication)

pub record ReportSays : Type 0 where
  -- `unreadable` exactly where one of the files isn't judged
  pub unreadable : (first second : Option (List ℕ)) → (report_for first second ≡ line_of Unreadable) ↔ (NotJudged first ⊎ NotJudged second)
  -- of two files that are judged: the first message's number, whatever the second is; else the second's
  pub first_refused : (first second : List ℕ) → Bytes first → length first ≤ file_most → length second ≤ file_most → (r : Refusal) → HasNumber first r
      → report_for (Some first) (Some second) ≡ line_of (Refused r)
  pub second_refused : (first second : List ℕ) → Bytes second → Passes27 first → length second ≤ file_most → (r : Refusal) → HasNumber second r
      → report_for (Some first) (Some second) ≡ line_of (Refused r)
  -- else the lines
  pub lines : (first second : List ℕ) → Bytes first → Bytes second → Passes27 first → Passes27 second
      → report_for (Some first) (Some second) ≡ text_for first second
  -- never `refused 22`, and never more than the room that the program has for it
  pub never_22 : (first second : Option (List ℕ)) → OfBytes first → OfBytes second → report_for first second ≢ line_of (Refused NoRoomForReport)
  pub fits : (first second : Option (List ℕ)) → length (report_for first second) ≤ comparison_most
