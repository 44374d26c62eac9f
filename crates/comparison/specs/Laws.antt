-- The rules' sentences about two messages side by side (docs/RULES.md), as closed statements over specs/Difference.antt and specs/Entry.antt. The proofs are
-- in proofs/.
use Rattle.std.specs.Prelude.{ℕ, suc, ◌≤◌, ◌≡◌, ◌↔◌, ◌≢◌, ◌⊎◌, Bool, true, List, [], ◌∷◌, ◌++◌, length}
use Rattle.octets.specs.Bytes.{Bytes}
use Rattle.dhcp_message.specs.Layout.{relay_code}
use Rattle.dhcp_message.specs.Options.{Token, opt}
use Rattle.dhcp_message.specs.Message.{count, Passes27}
use Rattle.dhcp_message.specs.Image.{without, head_zero}
use Rattle.dhcp_message.specs.Relay.{Relayed}
use Rattle.comparison.specs.Fields.{Field, part, fields, hops, giaddr}
use Rattle.comparison.specs.Difference.{Parts, parts_of, Difference, differs, altered, missing, added, layout, codes_of, differences_of, relay_only}
use Rattle.comparison.specs.Difference.{relay_only_line, lines_of, last_line}
use Rattle.comparison.specs.Entry.{comparison_most, text_for}

-- something stands in a list
pub record Among {A : Type 0} (x : A) (xs : List A) : Type 0 where
  pub front : List A
  pub back : List A
  pub splits : xs ≡ front ++ (x ∷ back)

-- the options have one of this code and this occurrence, with this body: occurrences count from 1 within a code
pub record Occurs (code occurrence : ℕ) (body : List ℕ) (tokens : List Token) : Type 0 where
  pub front : List Token
  pub back : List Token
  pub splits : tokens ≡ front ++ (opt code body ∷ back)
  pub number : occurrence ≡ suc (count code front)

-- and they have none
abbrev pub NotThere : (code occurrence : ℕ) → List Token → Type 0
NotThere code occurrence tokens = (body : List ℕ) → Occurs code occurrence body tokens → ⊥

-- an option whose body differs
pub record Alters (code occurrence : ℕ) (first second : List Token) : Type 0 where
  pub body : List ℕ
  pub other : List ℕ
  pub in_first : Occurs code occurrence body first
  pub in_second : Occurs code occurrence other second
  pub unlike : body ≢ other

-- an option of the one that the other hasn't
pub record Lacks (code occurrence : ℕ) (has lacking : List Token) : Type 0 where
  pub body : List ℕ
  pub there : Occurs code occurrence body has
  pub not_there : NotThere code occurrence lacking

-- each line names what differs, and what differs is named: (a) to (d)
pub record NamesWhatDiffers : Type 0 where
  pub field_named : (a b : Parts) (f : Field) → Among (differs f) (differences_of a b) ↔ (Among f fields × (part f a.header ≢ part f b.header))
  pub option_altered : (a b : Parts) (code occurrence : ℕ)
      → Among (altered code occurrence) (differences_of a b) ↔ Alters code occurrence a.tokens b.tokens
  pub option_missing : (a b : Parts) (code occurrence : ℕ)
      → Among (missing code occurrence) (differences_of a b) ↔ Lacks code occurrence a.tokens b.tokens
  pub option_added : (a b : Parts) (code occurrence : ℕ)
      → Among (added code occurrence) (differences_of a b) ↔ Lacks code occurrence b.tokens a.tokens
  pub layout_named : (a b : Parts)
      → Among layout (differences_of a b) ↔ ((codes_of a.tokens ≢ codes_of b.tokens) ⊎ (a.rest ≢ b.rest))

-- two messages that pass 2 to 7 have no line but the last, whichever that is, exactly where they are equal byte for byte; and that line is then `relay only`
pub record EqualSays : Type 0 where
  pub nothing_differs : (first second : List ℕ) → Passes27 first → Passes27 second
      → (differences_of (parts_of first) (parts_of second) ≡ []) ↔ (first ≡ second)
  pub one_line : (first second : List ℕ) → Passes27 first → Passes27 second
      → ((last : Bool) × (text_for first second ≡ last_line last)) ↔ (first ≡ second)
  pub equal_line : (first second : List ℕ) → first ≡ second → text_for first second ≡ relay_only_line

-- equal with hops and giaddr zero and option 82 taken out: headers, tokens and the bytes after End
pub record Alike (a b : Parts) : Type 0 where
  pub headers : head_zero a.header ≡ head_zero b.header
  pub tokens : without relay_code a.tokens ≡ without relay_code b.tokens
  pub rests : a.rest ≡ b.rest

-- what a relay leaves its mark on
pub data OfRelay : Difference → Type 0 where
  of_hops : OfRelay (differs hops)
  of_giaddr : OfRelay (differs giaddr)
  of_altered : (occurrence : ℕ) → OfRelay (altered relay_code occurrence)
  of_missing : (occurrence : ℕ) → OfRelay (missing relay_code occurrence)
  of_added : (occurrence : ℕ) → OfRelay (added relay_code occurrence)
  of_layout : OfRelay layout

-- `relay only` of two messages that pass 2 to 7: exactly where they are alike, exactly where the second comes of the first by permitted relay changes, and
-- it is the last line exactly then; and then the lines before it name only what is a relay's
pub record RelayOnlySays : Type 0 where
  pub alike : (first second : List ℕ) → Passes27 first → Passes27 second
      → (relay_only (parts_of first) (parts_of second) ≡ true) ↔ Alike (parts_of first) (parts_of second)
  pub relayed : (first second : List ℕ) → Bytes first → Bytes second → Passes27 first → Passes27 second
      → (relay_only (parts_of first) (parts_of second) ≡ true) ↔ Relayed first second
  pub last_line_lem : (first second : List ℕ) → Bytes first → Bytes second → Passes27 first → Passes27 second
      → (text_for first second ≡ lines_of (differences_of (parts_of first) (parts_of second)) ++ relay_only_line) ↔ Relayed first second
  pub names : (first second : List ℕ) → Passes27 first → Passes27 second → relay_only (parts_of first) (parts_of second) ≡ true
      → (d : Difference) → Among d (differences_of (parts_of first) (parts_of second)) → OfRelay d

-- the lines of any two messages that pass 2 to 7 fit a room of `comparison_most` bytes
abbrev pub LinesFit : Type 0
LinesFit = (first second : List ℕ) → Bytes first → Bytes second → Passes27 first → Passes27 second → length (text_for first second) ≤ comparison_most
