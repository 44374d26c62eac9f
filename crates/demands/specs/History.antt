-- The book against its history, for the runs of demand 3 (docs/RULES.md, 'Runs'): what mark and counters of a secret at the end of a run say of what
-- happened in it, and that one secret's story doesn't depend on another's, nor on the server rows. For runs of checks, seals and judgements; it speaks of
-- secrets, and the server rows' own history is not here. Its one proof is proofs/History.antt.
use Rattle.std.specs.Prelude.{ℕ, ◌+◌, ◌≤◌, ◌<◌, ◌≡◌, ◌≢◌, Bool, true, cond, List, [], ◌∷◌, ◌++◌, eqb, length, get_or, take}
use Rattle.std.specs.Prelude.{Err, None, Ok, Option, Result, Some, slice_get}
use Rattle.dhcp_message.specs.Said.{named}
use Rattle.dhcp_message.specs.Replay.{is_new}
use Rattle.key_book.specs.Limits.{heard}
use Rattle.key_book.specs.Book.{Book, Sound, heard_at, row_of, key_of}
use Rattle.delayed_auth.specs.Check.{check_of}
use Rattle.delayed_auth.specs.Seal.{seal_of, sealing_of}
use Rattle.demands.specs.Demand3.{Step, check, seal, judge, State, state_after, answers, ending}
use Rattle.delayed_auth.specs.declared.Accepted.{Accepted}
use Rattle.refusal.specs.declared.Refusal.{Refusal}

-- ---- what happened in a run

-- the counter of a check that names the secret, where it is accepted
abbrev pub counter_if : ℕ → Option ℕ → Result Accepted Refusal → List ℕ
counter_if id None v = []
counter_if id (Some j) (Err r) = []
counter_if id (Some j) (Ok a) = cond (eqb j id) (a.counter ∷ []) []

-- one for a seal under the secret, where it is done
abbrev pub one_if : ℕ → ℕ → Result ℕ Refusal → ℕ
one_if id j (Err r) = 0
one_if id j (Ok c) = cond (eqb j id) 1 0

-- what a step adds to the secret's accepted counters, and to its seals done; a judgement adds nothing
abbrev pub accepted_at : ℕ → Book → Step → List ℕ
accepted_at id b (check m) = counter_if id (named m) (check_of b m)
accepted_at id b (seal j m) = []
accepted_at id b (judge k m) = []

abbrev pub done_at : ℕ → Book → Step → ℕ
done_at id b (check m) = 0
done_at id b (seal j m) = one_if id j (sealing_of (seal_of b j m))
done_at id b (judge k m) = 0

-- the counters of the secret's accepted messages, in the run's order
abbrev pub accepted_in : ℕ → State → List Step → List ℕ
accepted_in id b [] = []
accepted_in id b (s ∷ ss) = accepted_at id b.book s ++ accepted_in id (state_after b s) ss

-- the number of seals done under the secret
abbrev pub seals_in : ℕ → State → List Step → ℕ
seals_in id b [] = 0
seals_in id b (s ∷ ss) = done_at id b.book s + seals_in id (state_after b s) ss

-- ---- what is said of it

-- the first is above this number, and each later one above the one before it
abbrev pub RisesFrom : ℕ → List ℕ → Type 0
RisesFrom n [] = Unit {0}
RisesFrom n (c ∷ cs) = (n < c) × RisesFrom c cs

-- the first is new to a row that was heard or not and had this received counter, and from there on they rise
abbrev pub RisesNew : (was : Bool) → ℕ → List ℕ → Type 0
RisesNew was n [] = Unit {0}
RisesNew was n (c ∷ cs) = (is_new was n c ≡ true) × RisesFrom c cs

-- one of them, and none is greater
pub record Greatest (n : ℕ) (cs : List ℕ) : Type 0 where
  pub place : ℕ
  pub among : slice_get cs place ≡ Some n
  pub none_greater : (i c : ℕ) → slice_get cs i ≡ Some c → c ≤ n

-- a check that names the secret, or a seal under it
pub data Concerns (id : ℕ) : Step → Type 0 where
  names_it : {m : List ℕ} → named m ≡ Some id → Concerns id (check m)
  under_it : {m : List ℕ} → Concerns id (seal id m)

-- Two books of the same sizes with the same ids in use, and as many; this secret's key, mark and counters are the same, and every other secret's
-- may be any.
pub record OnlyOthersDiffer (id : ℕ) (a b : Book) : Type 0 where
  pub room : length a.ids ≡ length b.ids
  pub ids : take a.rows a.ids ≡ take b.rows b.ids
  pub key : (k : ℕ) → row_of a id ≡ Some k → key_of a k ≡ key_of b k
  pub mark : (k : ℕ) → row_of a id ≡ Some k → get_or a.marks k 0 ≡ get_or b.marks k 0
  pub received : (k : ℕ) → row_of a id ≡ Some k → get_or a.received k 0 ≡ get_or b.received k 0
  pub sent : (k : ℕ) → row_of a id ≡ Some k → get_or a.sent k 0 ≡ get_or b.sent k 0

-- the secret gets the same answers and bytes in both, step by step, and its mark and counters end the same; nothing is asked of the server rows
pub record SameFor (id : ℕ) (a b : State) (run : List Step) : Type 0 where
  pub same_answers : (i : ℕ) (s : Step) → slice_get run i ≡ Some s → Concerns id s → slice_get (answers a run) i ≡ slice_get (answers b run) i
  pub same_mark : (k : ℕ) → row_of a.book id ≡ Some k → get_or (ending a run).book.marks k 0 ≡ get_or (ending b run).book.marks k 0
  pub same_received : (k : ℕ) → row_of a.book id ≡ Some k → get_or (ending a run).book.received k 0 ≡ get_or (ending b run).book.received k 0
  pub same_sent : (k : ℕ) → row_of a.book id ≡ Some k → get_or (ending a run).book.sent k 0 ≡ get_or (ending b run).book.sent k 0

-- ---- for each secret of a sound book, its row being k, any server rows, and any run

pub record History : Type 0 where
  -- the counters of its accepted messages rise strictly, the first above the starting one where the row was heard at the start
  pub accepted_rise : (b : State) → Sound b.book → (id k : ℕ) → row_of b.book id ≡ Some k → (run : List Step)
      → RisesNew (heard_at b.book k) (get_or b.book.received k 0) (accepted_in id b run)
  -- the stored received counter is the starting one where none was accepted, else the greatest of them
  pub received_stays : (b : State) → Sound b.book → (id k : ℕ) → row_of b.book id ≡ Some k → (run : List Step)
      → accepted_in id b run ≡ [] → get_or (ending b run).book.received k 0 ≡ get_or b.book.received k 0
  pub received_greatest : (b : State) → Sound b.book → (id k : ℕ) → row_of b.book id ≡ Some k → (run : List Step)
      → accepted_in id b run ≢ [] → Greatest (get_or (ending b run).book.received k 0) (accepted_in id b run)
  -- the row is heard where one was accepted, else its mark is the starting one
  pub mark_stays : (b : State) → Sound b.book → (id k : ℕ) → row_of b.book id ≡ Some k → (run : List Step)
      → accepted_in id b run ≡ [] → get_or (ending b run).book.marks k 0 ≡ get_or b.book.marks k 0
  pub mark_heard : (b : State) → Sound b.book → (id k : ℕ) → row_of b.book id ≡ Some k → (run : List Step)
      → accepted_in id b run ≢ [] → get_or (ending b run).book.marks k 0 ≡ heard
  -- the sent counter is the starting one plus the number of seals done
  pub sent_counts : (b : State) → Sound b.book → (id k : ℕ) → row_of b.book id ≡ Some k → (run : List Step)
      → get_or (ending b run).book.sent k 0 ≡ get_or b.book.sent k 0 + seals_in id b run
  -- what differs in other secrets is not seen, nor are the server rows, which may be any in both
  pub others_unseen : (a b : State) → Sound a.book → Sound b.book → (id : ℕ) → OnlyOthersDiffer id a.book b.book → (run : List Step)
      → SameFor id a b run
