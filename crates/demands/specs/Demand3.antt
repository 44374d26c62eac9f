-- Demand 3 (docs/RULES.md, 'The demands' and 'Runs'): whole runs of checks, seals and judgements by a nonce, and the second runs that the network can make
-- of them. There is no load in a run: loading a card replaces marks and counters and starts a new run. The proofs of demand 3 and of `RunsKeepSound` are in
-- proofs/Demand3.antt.
use Rattle.std.specs.Prelude.{ℕ, zero, suc, ◌<◌, ◌≡◌, ◌≢◌, List, [], ◌∷◌, length, Result, Some, slice_get}
use Rattle.refusal.specs.Number.{result_number}
use Rattle.dhcp_message.specs.Message.{Passes27}
use Rattle.dhcp_message.specs.Said.{named}
use Rattle.dhcp_message.specs.Relay.{Relayed}
use Rattle.key_book.specs.Book.{Book, book_of, Sound}
use Rattle.delayed_auth.specs.Check.{check_of, marks_after, received_after}
use Rattle.delayed_auth.specs.Seal.{seal_of, sealing_of, message_after, sent_after}
use Rattle.forcerenew.specs.Layout.{gives_nonce, orders_renewal}
use Rattle.forcerenew.specs.Rows.{Servers, SoundRows, nonce_at}
use Rattle.forcerenew.specs.Judging.{judge_of, judged_of, servers_after}
use Rattle.demands.specs.Accepts.{Accepts, GivesNonce, Heeds, Stores}
use Rattle.delayed_auth.specs.declared.Accepted.{Accepted}
use Rattle.forcerenew.specs.declared.Heeded.{Heeded}
use Rattle.refusal.specs.declared.Refusal.{Refusal}
use Rattle.delayed_auth.specs.Check.{accepting}
use Rattle.forcerenew.specs.Judging.{heeding}

-- ---- a run

-- one check with its message; one seal with its id and message; or one judgement by a nonce, with a server's row number and its message. Each has a
-- buffer of its own.
pub data Step : Type 0 where
  check : (message : List ℕ) → Step
  seal : (id : ℕ) (message : List ℕ) → Step
  judge : (row : ℕ) (message : List ℕ) → Step

-- one book and one set of server rows, which nobody else writes meanwhile
pub record State : Type 0 where
  pub book : Book
  pub servers : Servers

-- all that a step returns, and for a seal its whole buffer afterwards, refused ones too
pub data Answer : Type 0 where
  checked : Result Accepted Refusal → Answer
  wrote : Result ℕ Refusal → (buffer : List ℕ) → Answer
  judged : Result Heeded Refusal → Answer

abbrev pub answer_of : State → Step → Answer
answer_of b (check m) = checked (check_of b.book m)
answer_of b (seal id m) = wrote (sealing_of (seal_of b.book id m)) (message_after (seal_of b.book id m) m)
answer_of b (judge k m) = judged (judged_of (judge_of b.servers k m))

-- the book as a step leaves it
abbrev pub book_after : Book → Step → Book
book_after b (check m) =
    book_of b.ids b.lengths b.store (marks_after (check_of b m) b.marks) (received_after (check_of b m) b.received) b.sent b.rows
book_after b (seal id m) =
    book_of b.ids b.lengths b.store b.marks b.received (sent_after (seal_of b id m) b.sent) b.rows
book_after b (judge k m) = b

-- and the server rows
abbrev pub rows_after : Servers → Step → Servers
rows_after s (check m) = s
rows_after s (seal id m) = s
rows_after s (judge k m) = servers_after k (judge_of s k m) s

abbrev pub state_after : State → Step → State
state_after b s = record { book = book_after b.book s; servers = rows_after b.servers s }

-- each step finds the state as the last one left it: the answers in order, the state at the end, and the state before step i
abbrev pub answers : State → List Step → List Answer
answers b [] = []
answers b (s ∷ ss) = answer_of b s ∷ answers (state_after b s) ss

abbrev pub ending : State → List Step → State
ending b [] = b
ending b (s ∷ ss) = ending (state_after b s) ss

abbrev pub state_at : State → List Step → ℕ → State
state_at b [] i = b
state_at b (s ∷ ss) zero = b
state_at b (s ∷ ss) (suc i) = state_at (state_after b s) ss i

-- soundness reads marks, and received counters of rows not heard; no step breaks it, so all books of a run from a sound one are sound, and so are the
-- server rows
pub record RunsKeepSound : Type 0 where
  pub step : (b : State) → Sound b.book → (s : Step) → Sound (state_after b s).book
  pub before_each : (b : State) → Sound b.book → (run : List Step) (i : ℕ) → Sound (state_at b run i).book
  pub at_end_lem : (b : State) → Sound b.book → (run : List Step) → Sound (ending b run).book
  pub rows_step : (b : State) → SoundRows b.servers → (s : Step) → SoundRows (state_after b s).servers
  pub rows_before_each : (b : State) → SoundRows b.servers → (run : List Step) (i : ℕ) → SoundRows (state_at b run i).servers
  pub rows_at_end : (b : State) → SoundRows b.servers → (run : List Step) → SoundRows (ending b run).servers

-- ---- the second run

-- a step as it is; or a check whose message, well-formed by 2 to 7, has had any number of permitted relay changes
pub data Carried : Step → Step → Type 0 where
  same : {s : Step} → Carried s s
  relayed : {m n : List ℕ} → Passes27 m → Relayed m n → Carried (check m) (check n)

-- two steps that keep their order: checks that name one secret, seals under one secret, judgements of one row number, whatever they answer
pub data OneOrder : Step → Step → Type 0 where
  checks : {m n : List ℕ} {id : ℕ} → named m ≡ Some id → named n ≡ Some id → OneOrder (check m) (check n)
  seals : {m n : List ℕ} {id : ℕ} → OneOrder (seal id m) (seal id n)
  judgements : {m n : List ℕ} {k : ℕ} → OneOrder (judge k m) (judge k n)

-- a step that may be put in: a check or a judgement that demand 2 doesn't accept on the state as it is there
pub data NotAccepted (b : State) : Step → Type 0 where
  no_check : {m : List ℕ} → ((k c : ℕ) → Accepts b.book m k c → ⊥) → NotAccepted b (check m)
  no_judgement : {k : ℕ} {m : List ℕ} → ((type c : ℕ) → Heeds b.servers k m type c → ⊥) → NotAccepted b (judge k m)

-- The network makes the second run of the first: step i of the first stands at `place i` of the second.
pub record Rearranged (b : State) (first second : List Step) (place : ℕ → ℕ) : Type 0 where
  -- each step has a place of its own: said for the reader, no step of the proof uses it
  pub apart : (i j : ℕ) → i < length first → j < length first → place i ≡ place j → i ≡ j
  -- where it stands as it is, or relayed
  pub carried : (i : ℕ) (s : Step) → slice_get first i ≡ Some s → (t : Step) × (slice_get second (place i) ≡ Some t) × Carried s t
  -- steps of one secret or one server keep their order
  pub order : (i j : ℕ) (s t : Step) → slice_get first i ≡ Some s → slice_get first j ≡ Some t → OneOrder s t → i < j → place i < place j
  -- every other place holds a step that is not accepted there
  pub put_in : (p : ℕ) → p < length second → ((i : ℕ) → i < length first → place i ≢ p)
      → (t : Step) × (slice_get second p ≡ Some t) × NotAccepted (state_at b second p) t

-- every step of the first run gets the same answer in the second, and all marks, counters and server rows end the same
pub record SameRun (b : State) (first second : List Step) (place : ℕ → ℕ) : Type 0 where
  pub same_answers : (i : ℕ) → i < length first → slice_get (answers b second) (place i) ≡ slice_get (answers b first) i
  pub same_marks : (ending b second).book.marks ≡ (ending b first).book.marks
  pub same_received : (ending b second).book.received ≡ (ending b first).book.received
  pub same_sent : (ending b second).book.sent ≡ (ending b first).book.sent
  pub same_servers : (ending b second).servers ≡ (ending b first).servers

-- ---- demand 3

-- the message is an accepted ACK for row k with a nonce other than the one stored there: it begins the row anew
pub record OtherNonce (s : Servers) (k : ℕ) (m : List ℕ) : Type 0 where
  pub counter : ℕ
  pub nonce : List ℕ
  pub gives : GivesNonce s k m counter nonce
  pub other : nonce ≢ nonce_at s k

pub record Demand3 : Type 0 where
  -- from a sound book and any server rows
  pub any_order : (b : State) → Sound b.book → (first second : List Step) (place : ℕ → ℕ) → Rearranged b first second place
      → SameRun b first second place
  -- in every run, a message accepted at step i and checked again at a later step j, as it was or after any number of permitted relay changes,
  -- whatever stands between, is refused as a replay, with number 11
  pub no_replay : (b : State) → Sound b.book → (run : List Step) (i j : ℕ) (m n : List ℕ) (k c : ℕ) → i < j
      → slice_get run i ≡ Some (check m) → slice_get (answers b run) i ≡ Some (checked (accepting k c))
      → slice_get run j ≡ Some (check n) → Relayed m n
      → (v : Result Accepted Refusal) × (slice_get (answers b run) j ≡ Some (checked v)) × (result_number v ≡ 11)
  -- in every run, a FORCERENEW accepted at step i and shown again for its row at a later step j is refused as a replay, with number 11, as long as at no
  -- step between an accepted ACK for that row carries a nonce other than the one then stored
  pub no_order_twice : (b : State) (run : List Step) (i j k c : ℕ) (m : List ℕ) → i < j
      → slice_get run i ≡ Some (judge k m) → slice_get (answers b run) i ≡ Some (judged (heeding orders_renewal c))
      → slice_get run j ≡ Some (judge k m)
      → ((p : ℕ) (n : List ℕ) → i < p → p < j → slice_get run p ≡ Some (judge k n) → OtherNonce (state_at b run p).servers k n → ⊥)
      → (v : Result Heeded Refusal) × (slice_get (answers b run) j ≡ Some (judged v)) × (result_number v ≡ 11)
  -- in every run, an ACK accepted at step i and shown again at a later step j, for any row that is there, is accepted again, and its nonce is stored as a
  -- first showing would store it
  pub ack_again : (b : State) (run : List Step) (i j k l c : ℕ) (m : List ℕ) → i < j
      → slice_get run i ≡ Some (judge k m) → slice_get (answers b run) i ≡ Some (judged (heeding gives_nonce c))
      → slice_get run j ≡ Some (judge l m) → l < length b.servers.marks
      → (slice_get (answers b run) j ≡ Some (judged (heeding gives_nonce c)))
      × ((nonce : List ℕ) × GivesNonce (state_at b run i).servers k m c nonce
      × Stores (state_at b run j).servers l nonce (state_at b run (suc j)).servers)
