-- What an entry's answer depends on, and that it depends on nothing else (docs/RULES.md, 'The key book', 'Check', 'Seal' and 'FORCERENEW by nonce'):
-- on the soundness of the book and on the ids; then on the key, the mark and the counter of the row found. Not on another row's but through soundness,
-- not on slot bytes past a key, not on rows from r on. A judgement's, on the soundness of the server rows and on the named row's mark, its nonce where it
-- has one, its counter where it is heard. Its one proof is proofs/Dependence.antt.
use Rattle.std.specs.Prelude.{ℕ, ◌+◌, ◌*◌, ◌<◌, ◌≡◌, ◌≢◌, ◌↔◌, List, length, get_or, take, Ok, Some}
use Rattle.dhcp_message.specs.Layout.{seal_size}
use Rattle.dhcp_message.specs.Said.{form_of}
use Rattle.dhcp_message.specs.Seal.{sealed_with}
use Rattle.dhcp_message.specs.declared.Auth.{Auth}
use Rattle.key_book.specs.Limits.{slot_size}
use Rattle.key_book.specs.Book.{Book, Sound, sound, row_of, key_of}
use Rattle.key_book.specs.Laws.{Alike}
use Rattle.delayed_auth.specs.Check.{check_of}
use Rattle.delayed_auth.specs.Key.{keyed_of, key_bytes}
use Rattle.delayed_auth.specs.Seal.{seal_of}
use Rattle.forcerenew.specs.Rows.{none_yet, heard, Servers, SoundRows, sound_rows, nonce_at}
use Rattle.forcerenew.specs.Judging.{judge_of}
use Rattle.demands.specs.Accepts.{Names}

-- two books agree in their soundness and in the ids of the rows in use
pub record SameSecrets (a b : Book) : Type 0 where
  pub soundness : sound a ≡ sound b
  pub ids : take a.rows a.ids ≡ take b.rows b.ids

-- two books agree in all that a check of the message goes by
pub record SameForCheck (a b : Book) (m : List ℕ) : Type 0 where
  pub secrets : SameSecrets a b
  pub key : (k : ℕ) → Sound a → Names a m k → key_of a k ≡ key_of b k
  pub mark : (k : ℕ) → Sound a → Names a m k → get_or a.marks k 0 ≡ get_or b.marks k 0
  pub received : (k : ℕ) → Sound a → Names a m k → get_or a.received k 0 ≡ get_or b.received k 0

-- two books agree in all that a seal under the id goes by
pub record SameForSeal (a b : Book) (id : ℕ) : Type 0 where
  pub secrets : SameSecrets a b
  pub key : (k : ℕ) → Sound a → row_of a id ≡ Some k → key_of a k ≡ key_of b k
  pub sent : (k : ℕ) → Sound a → row_of a id ≡ Some k → get_or a.sent k 0 ≡ get_or b.sent k 0

-- two books agree in their sizes and in the rows in use: id, key length, mark (`Alike`), as many bytes of the slot, both counters
pub record SameInUse (a b : Book) : Type 0 where
  pub alike : Alike a b
  pub bytes : (k i : ℕ) → k < a.rows → i < get_or a.lengths k 0 → get_or a.store (slot_size * k + i) 0 ≡ get_or b.store (slot_size * k + i) 0
  pub received : (k : ℕ) → k < a.rows → get_or a.received k 0 ≡ get_or b.received k 0
  pub sent : (k : ℕ) → k < a.rows → get_or a.sent k 0 ≡ get_or b.sent k 0

-- two sets of server rows agree in all that a judgement of row k goes by: in whether they are sound, in whether row k is there, and where it is in its
-- mark, in its nonce unless there is none yet, and in its counter where it is heard
pub record SameForJudge (a b : Servers) (k : ℕ) : Type 0 where
  pub soundness : sound_rows a ≡ sound_rows b
  pub there : (k < length a.marks) ↔ (k < length b.marks)
  pub mark : SoundRows a → k < length a.marks → get_or a.marks k 0 ≡ get_or b.marks k 0
  pub nonce : SoundRows a → k < length a.marks → get_or a.marks k 0 ≢ none_yet → nonce_at a k ≡ nonce_at b k
  pub counter : SoundRows a → k < length a.marks → get_or a.marks k 0 ≡ heard → get_or a.counters k 0 ≡ get_or b.counters k 0

pub record Dependence : Type 0 where
  pub check : (a b : Book) (m : List ℕ) → SameForCheck a b m → check_of a m ≡ check_of b m
  -- the key entry reads marks and counters through soundness alone
  pub keyed : (a b : Book) (m : List ℕ) → SameSecrets a b → keyed_of a m ≡ keyed_of b m
  pub key_bytes_lem : (a b : Book) (m : List ℕ) → SameSecrets a b → ((k : ℕ) → Sound a → Names a m k → key_of a k ≡ key_of b k)
      → key_bytes a (keyed_of a m) ≡ key_bytes b (keyed_of b m)
  -- and so does a seal, but for its row's sent counter
  pub seal : (a b : Book) (id : ℕ) (m : List ℕ) → SameForSeal a b id → seal_of a id m ≡ seal_of b id m
  -- counter, id and MAC found in the message don't matter: with any others in their place the outcome is the same, and so are a sealed message's bytes
  pub found_fields : (b : Book) (id : ℕ) (m : List ℕ) (a : Auth) (other : List ℕ) → form_of m ≡ Ok a → length other ≡ seal_size
      → seal_of b id (sealed_with a other m) ≡ seal_of b id m
  -- a judgement by a nonce reads the message, whether the rows are sound, and its own row
  pub judge : (a b : Servers) (k : ℕ) (m : List ℕ) → SameForJudge a b k → judge_of a k m ≡ judge_of b k m
  -- slot bytes past a key, and rows from r on, affect no answer
  pub check_in_use : (a b : Book) (m : List ℕ) → SameInUse a b → check_of a m ≡ check_of b m
  pub key_in_use : (a b : Book) (m : List ℕ) → SameInUse a b → key_bytes a (keyed_of a m) ≡ key_bytes b (keyed_of b m)
  pub seal_in_use : (a b : Book) (id : ℕ) (m : List ℕ) → SameInUse a b → seal_of a id m ≡ seal_of b id m
