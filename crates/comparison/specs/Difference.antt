-- What differs between two messages, and the lines that say it: docs/RULES.md, 'Two messages side by side'. A message is its header, its option tokens and
-- the bytes after End (dhcp_message, specs/Options.antt). The sentences of the rules are proved of these definitions in specs/Laws.antt.
use Rattle.std.specs.Prelude.{ℕ, suc, Bool, true, false, cond, ◌&&◌, List, [], ◌∷◌, ◌++◌, take, drop, None, Option, Some, slice_get}
use Rattle.octets.specs.Bytes.{same_bytes}
use Rattle.verdict_line.specs.Decimal.{decimal}
use Rattle.verdict_line.specs.Line.{space, newline}
use Rattle.dhcp_message.specs.Layout.{header_size, pad_code, end_code, relay_code}
use Rattle.dhcp_message.specs.Options.{Token, pad, opt, Parsed, broken, parsed, encode, decode}
use Rattle.dhcp_message.specs.Message.{count}
use Rattle.dhcp_message.specs.Types.{bodies_of}
use Rattle.dhcp_message.specs.Image.{without, head_zero}
use Rattle.comparison.specs.declared.Side.{Side}
use Rattle.comparison.specs.declared.Side.TheVariants.{First, Second}
use Rattle.comparison.specs.Fields.{Field, part, fields}

-- ---- a message

pub record Parts : Type 0 where
  pub header : List ℕ
  pub tokens : List Token
  pub rest : List ℕ

abbrev pub parts_in : List ℕ → Parsed → Parts
parts_in header broken = record { header = header; tokens = []; rest = [] }
parts_in header (parsed tokens rest) = record { header = header; tokens = tokens; rest = rest }

unfoldable pub parts_of : List ℕ → Parts
parts_of m = parts_in (take header_size m) (decode (drop header_size m))

-- ---- what differs

-- a field of the header; an option by its code and its occurrence, counted from 1 within the code: altered, missing in the second message, added there; the
-- layout
pub data Difference : Type 0 where
  differs : Field → Difference
  altered : (code occurrence : ℕ) → Difference
  missing : (code occurrence : ℕ) → Difference
  added : (code occurrence : ℕ) → Difference
  layout : Difference

-- (a) of these fields, those that differ
unfoldable pub fields_differing : List Field → List ℕ → List ℕ → List Difference
fields_differing [] header other = []
fields_differing (f ∷ fs) header other =
    cond (same_bytes (part f header) (part f other)) [] (differs f ∷ []) ++ fields_differing fs header other

-- the body of the option of a code before which so many of that code stand; none where there is no such option
unfoldable pub body_at : (code before : ℕ) → List Token → Option (List ℕ)
body_at code before tokens = slice_get (bodies_of code tokens) before

-- what is said of an option of one side, by the body that the other side's option of the same code and occurrence has, if there is one
unfoldable pub said_of : Side → (code occurrence : ℕ) → List ℕ → Option (List ℕ) → List Difference
said_of First code occurrence body (Some other) = cond (same_bytes body other) [] (altered code occurrence ∷ [])
said_of First code occurrence body None = missing code occurrence ∷ []
said_of Second code occurrence body (Some other) = []
said_of Second code occurrence body None = added code occurrence ∷ []

-- (b) in the order of the first message's options, by the second's, and (c) in the order of the second's, by the first's; `before` are the tokens that were
-- passed already
unfoldable pub options_differing : Side → (before tokens other : List Token) → List Difference
options_differing side before [] other = []
options_differing side before (pad ∷ tokens) other = options_differing side before tokens other
options_differing side before (opt code body ∷ tokens) other =
    said_of side code (suc (count code before)) body (body_at code (count code before) other)
    ++ options_differing side (before ++ (opt code body ∷ [])) tokens other

-- (d) the codes in their order, with those of pads and End
abbrev pub codes_of : List Token → List ℕ
codes_of [] = end_code ∷ []
codes_of (pad ∷ tokens) = pad_code ∷ codes_of tokens
codes_of (opt code body ∷ tokens) = code ∷ codes_of tokens

unfoldable pub same_layout : Parts → Parts → Bool
same_layout a b = same_bytes (codes_of a.tokens) (codes_of b.tokens) && same_bytes a.rest b.rest

unfoldable pub layout_differing : Parts → Parts → List Difference
layout_differing a b = cond (same_layout a b) [] (layout ∷ [])

unfoldable pub differences_of : Parts → Parts → List Difference
differences_of a b =
    fields_differing fields a.header b.header
    ++ (options_differing First [] a.tokens b.tokens
    ++ (options_differing Second [] b.tokens a.tokens
    ++ layout_differing a b))

-- (e) a message with hops and giaddr zero and option 82 taken out. The MAC stays as it stands, and option 90 may have any length: so this is not the covered
-- image.
unfoldable pub stripped : Parts → List ℕ
stripped a = head_zero a.header ++ (encode (without relay_code a.tokens) ++ (end_code ∷ a.rest))

unfoldable pub relay_only : Parts → Parts → Bool
relay_only a b = same_bytes (stripped a) (stripped b)

-- ---- the lines

-- `altered `, a space at the end
abbrev pub altered_word : List ℕ
altered_word = 97 ∷ 108 ∷ 116 ∷ 101 ∷ 114 ∷ 101 ∷ 100 ∷ 32 ∷ []

-- `missing `, a space at the end
abbrev pub missing_word : List ℕ
missing_word = 109 ∷ 105 ∷ 115 ∷ 115 ∷ 105 ∷ 110 ∷ 103 ∷ 32 ∷ []

-- `added `, a space at the end
abbrev pub added_word : List ℕ
added_word = 97 ∷ 100 ∷ 100 ∷ 101 ∷ 100 ∷ 32 ∷ []

-- `layout` and a newline
abbrev pub layout_line : List ℕ
layout_line = 108 ∷ 97 ∷ 121 ∷ 111 ∷ 117 ∷ 116 ∷ 10 ∷ []

-- `relay only` and a newline
abbrev pub relay_only_line : List ℕ
relay_only_line = 114 ∷ 101 ∷ 108 ∷ 97 ∷ 121 ∷ 32 ∷ 111 ∷ 110 ∷ 108 ∷ 121 ∷ 10 ∷ []

-- `covered bytes differ` and a newline
abbrev pub covered_differ_line : List ℕ
covered_differ_line = 99 ∷ 111 ∷ 118 ∷ 101 ∷ 114 ∷ 101 ∷ 100 ∷ 32 ∷ 98 ∷ 121 ∷ 116 ∷ 101 ∷ 115 ∷ 32 ∷ 100 ∷ 105 ∷ 102 ∷ 102 ∷ 101 ∷ 114 ∷ 10 ∷ []

-- a word, a code and an occurrence
unfoldable pub option_line : List ℕ → (code occurrence : ℕ) → List ℕ
option_line word code occurrence = word ++ decimal code ++ space ++ decimal occurrence ++ newline

abbrev pub line_of : Difference → List ℕ
line_of (differs f) = f.name ++ newline
line_of (altered code occurrence) = option_line altered_word code occurrence
line_of (missing code occurrence) = option_line missing_word code occurrence
line_of (added code occurrence) = option_line added_word code occurrence
line_of layout = layout_line

unfoldable pub lines_of : List Difference → List ℕ
lines_of [] = []
lines_of (d ∷ ds) = line_of d ++ lines_of ds

abbrev pub last_line : Bool → List ℕ
last_line true = relay_only_line
last_line false = covered_differ_line

-- all of them
unfoldable pub text_of : Parts → Parts → List ℕ
text_of a b = lines_of (differences_of a b) ++ last_line (relay_only a b)
