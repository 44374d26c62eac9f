-- The content of a file: what a room holds of it (`file_in`), and what may be judged of it (`readable`). The only law file that unfolds these two.
use Prim.Native.Nat.{ℕ, ◌≤◌, ◌<◌}
use mathlib.Core.Path.{◌≡◌, refl, sym, ap, ◌∙◌}
use mathlib.Core.Bool.{Bool, true, false}
use mathlib.Core.List.{List}
use native.Mathlib.Omega.{arith}
use borrow.Author.Tests.{le-leb, lt-leb, leb-true, leb-false}
use lib.Dec.{leb}
use lib.ListN.{length, take}
use lib.Seq.{length-take-le}
use Rattle.file_verdict.specs.Files.{file_most, file_in, readable, content_of}
use Rattle.std.specs.Prelude.{None, Option, Some, ℕ}

-- what a room holds
pub no_file : (room : List ℕ) → file_in room None ≡ None
unfolding file_in
no_file room = refl

module _ (room : List ℕ) (n : ℕ) where
  pub held : n ≤ length room → file_in room (Some n) ≡ Some (take n room)
  unfolding file_in
  held h = rw (le-leb n (length room) h)

  pub not_held : length room < n → file_in room (Some n) ≡ None
  unfolding file_in
  not_held h = rw (lt-leb n (length room) h)

-- a file's bytes by their number
pub readable_none : readable None ≡ None
unfolding readable
readable_none = refl

pub readable_fits : (s : List ℕ) → length s ≤ file_most → readable (Some s) ≡ Some s
unfolding readable
readable_fits s h = rw (le-leb (length s) file_most h)

pub readable_too_large : (s : List ℕ) → file_most < length s → readable (Some s) ≡ None
unfolding readable
readable_too_large s h = rw (lt-leb (length s) file_most h)

-- what is left of a content, so that as many bytes at the room's front are those of a file that may be judged
abbrev pub MayBeJudged : List ℕ → Option ℕ → Option ℕ → Type 0
MayBeJudged room content None = readable (file_in room content) ≡ None
MayBeJudged room content (Some n) = (n ≤ length room) × (readable (file_in room content) ≡ Some (take n room))

-- the ends of `within_limit`
pub judged_none : (room : List ℕ) → MayBeJudged room None None
judged_none room = ap readable (no_file room) ∙ readable_none

module _ (room : List ℕ) (n : ℕ) where
  pub judged_no_room : length room < n → MayBeJudged room (Some n) None
  judged_no_room h = ap readable (not_held room n h) ∙ readable_none

  module _ (h : n ≤ length room) where
    pub judged_too_large : file_most < n → MayBeJudged room (Some n) None
    judged_too_large l = let k = length-take-le n room h in ap readable (held room n h) ∙ readable_too_large (take n room) (omega arith)

    pub judged_fits : n ≤ file_most → MayBeJudged room (Some n) (Some n)
    judged_fits l = let k = length-take-le n room h in (h, ap readable (held room n h) ∙ readable_fits (take n room) (omega arith))

-- nothing else is left of it: what `within_limit` answers
pub judged_content : (room : List ℕ) (content left : Option ℕ) → MayBeJudged room content left → left ≡ content_of (readable (file_in room content))
judged_content room content None e = sym (ap content_of e)
judged_content room content (Some n) (h, e) = ap Some (sym (length-take-le n room h)) ∙ sym (ap content_of e)

-- for its callers
module _ (room : List ℕ) where
  judged : (content : Option ℕ) → MayBeJudged room content (content_of (readable (file_in room content)))
  judged None = rw (← (judged_content room None None (judged_none room))) (judged_none room)
  judged (Some n) = on (leb n (length room)) (leb n file_most) refl refl
    where
      by : (left : Option ℕ) → MayBeJudged room (Some n) left → MayBeJudged room (Some n) (content_of (readable (file_in room (Some n))))
      by left j = rw (← (judged_content room (Some n) left j)) j

      on : (t u : Bool) → leb n (length room) ≡ t → leb n file_most ≡ u → MayBeJudged room (Some n) (content_of (readable (file_in room (Some n))))
      on false u e f = by None (judged_no_room room n (leb-false n (length room) e))
      on true false e f = by None (judged_too_large room n (leb-true n (length room) e) (leb-false n file_most f))
      on true true e f = by (Some n) (judged_fits room n (leb-true n (length room) e) (leb-true n file_most f))

  pub judged_by_lem : (content : Option ℕ) {left : Option ℕ} → left ≡ content_of (readable (file_in room content)) → MayBeJudged room content left
  judged_by_lem content e = rw e (judged content)
