-- What a message is (docs/RULES.md, 'The message'): its header, its option tokens and the bytes after End; and checks 2 to 7 on them.
-- Option 52 is an option like any other, sname and file are not read, and options of one code are not joined.
use Rattle.std.specs.Prelude.{ℕ, ◌+◌, cond, List, [], ◌∷◌, length, drop, ltb, eqb}
use Rattle.refusal.specs.declared.Refusal.{Refusal}
use Rattle.refusal.specs.declared.Refusal.TheVariants.{MessageSize, WrongCookie, BrokenOptions, NoAuthentication, RepeatedAuthentication, RelayInformation}
use Rattle.dhcp_message.specs.Layout.{message_least, message_most, header_size, cookie_at, magic_cookie, relay_code, auth_code}
use Rattle.octets.specs.Bytes.{starts}
use Rattle.dhcp_message.specs.Options.{Token, pad, opt, Parsed, broken, parsed, encode, decode}

-- how many options have code c
abbrev pub count : ℕ → List Token → ℕ
count c [] = 0
count c (pad ∷ ts) = count c ts
count c (opt e body ∷ ts) = cond (eqb e c) 1 0 + count c ts

-- the bytes of the first option of code c, code and length with them; none where there is no such option
abbrev pub option_of : ℕ → List Token → List ℕ
option_of c [] = []
option_of c (pad ∷ ts) = option_of c ts
option_of c (opt e body ∷ ts) = cond (eqb e c) (e ∷ length body ∷ body) (option_of c ts)

-- the tokens before it; all of them where there is no such option
abbrev pub tokens_before : ℕ → List Token → List Token
tokens_before c [] = []
tokens_before c (pad ∷ ts) = pad ∷ tokens_before c ts
tokens_before c (opt e body ∷ ts) = cond (eqb e c) [] (opt e body ∷ tokens_before c ts)

-- its offset in the message; that of End where there is no such option
abbrev pub offset_of : ℕ → List Token → ℕ
offset_of c ts = header_size + length (encode (tokens_before c ts))

-- what checks 2 to 7 give: the first that fails, or the tokens and the rest
pub data Checked : Type 0 where
  stopped : Refusal → Checked
  passed : List Token → List ℕ → Checked

-- 5 to 7
unfoldable pub checked_tokens : List Token → List ℕ → Checked
checked_tokens ts rest =
    cond (eqb (count auth_code ts) 0) (stopped NoAuthentication)
    (cond (ltb 1 (count auth_code ts)) (stopped RepeatedAuthentication)
    (cond (ltb 1 (count relay_code ts)) (stopped RelayInformation) (passed ts rest)))

-- 4
abbrev pub checked_parsed : Parsed → Checked
checked_parsed broken = stopped BrokenOptions
checked_parsed (parsed ts rest) = checked_tokens ts rest

-- 2 and 3
unfoldable pub checked_of : List ℕ → Checked
checked_of m =
    cond (ltb (length m) message_least) (stopped MessageSize)
    (cond (ltb message_most (length m)) (stopped MessageSize)
    (cond (starts magic_cookie (drop cookie_at m)) (checked_parsed (decode (drop header_size m))) (stopped WrongCookie)))

abbrev pub Passed : Checked → Type 0
Passed (stopped r) = ⊥
Passed (passed ts rest) = Unit {0}

-- the message passes checks 2 to 7
abbrev pub Passes27 : List ℕ → Type 0
Passes27 m = Passed (checked_of m)

-- the bytes of a message's option 90
abbrev pub auth_in : Parsed → List ℕ
auth_in broken = []
auth_in (parsed ts rest) = option_of auth_code ts

unfoldable pub auth_option_of : List ℕ → List ℕ
auth_option_of m = auth_in (decode (drop header_size m))
