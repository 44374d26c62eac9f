-- What stands at an offset of a message's options, by the one reader of tokens (specs/Options.antt, `lead`): for a pass over the options.
use Rattle.std.specs.Prelude.{ℕ, ◌+◌, ◌-◌, ◌≡◌, ◌≢◌, List, [], ◌∷◌, length, drop, Option, None, Some}
use Rattle.std.specs.Borrow.{Bor}
use Rattle.std.specs.Iterator.{Count, at_most}
use Rattle.dhcp_message.specs.Layout.{header_size, pad_size, option_head}
use Rattle.dhcp_message.specs.Options.{pad, opt, Lead, nothing, end, token, lead}
use Rattle.dhcp_message.specs.declared.Here.{Here}
use Rattle.dhcp_message.specs.declared.Options.{Options}
use Rattle.dhcp_message.specs.declared.Here.TheVariants.{Broken, End, Pad, Opt}

abbrev pub lead_of : List ℕ → Lead
lead_of [] = nothing
lead_of (c ∷ xs) = lead c xs

-- an option is told by its code and the bytes that it takes
abbrev pub here_of : Lead → Here
here_of nothing = Broken
here_of end = End
here_of (token pad k) = Pad
here_of (token (opt c body) k) = Opt c (option_head + length body)

-- what stands at an offset
unfoldable pub here_at : List ℕ → ℕ → Here
here_at m at = here_of (lead_of (drop at m))

-- ---- the options one after another, for the contract of the iterator over them

-- all of a message
abbrev pub options_of : Bor (List ℕ) → Options
options_of m = record { message = m; at = header_size }

-- the offset behind what stands at an offset of a message of a size. Nothing is read behind End
abbrev pub behind : ℕ → ℕ → Here → ℕ
behind size at Broken = at
behind size at End = size
behind size at Pad = at + pad_size
behind size at (Opt c n) = at + n

-- what stands at the offset came, with the offset, and what stands behind it comes next; what is broken doesn't come
pub record GivesHere (s : Options) (at : ℕ) (here : Here) (t : Options) : Type 0 where
  pub place : at ≡ s.at
  pub stands : here ≡ here_at s.message.now s.at
  pub whole : here ≢ Broken
  pub same : t.message.now ≡ s.message.now
  pub next : t.at ≡ behind (length s.message.now) s.at here

-- the same, or nothing came, since nothing whole stands there, and so nothing comes next
abbrev pub GivesOption : Options → Option (ℕ × Here) → Options → Type 0
GivesOption s None t = (Broken ≡ here_at s.message.now s.at) × ((t.message.now ≡ s.message.now) × (t.at ≡ s.at))
GivesOption s (Some o) t = GivesHere s o.0 o.1 t

-- each takes a byte at least
abbrev pub bytes_left : Options → Count
bytes_left s = at_most (length s.message.now - s.at)
