-- Demand 2 (docs/RULES.md, 'The demands'): what is accepted, whose key a message has, what is sealed, that what we seal passes, and what is accepted by a
-- nonce. Its one proof is proofs/Demand2.antt.
use Rattle.std.specs.Prelude.{ℕ, ◌*◌, ◌^◌, ◌<◌, ◌≡◌, ◌↔◌, true, List, get_or, set, take, drop, Ok, Some}
use Rattle.key_book.specs.Limits.{slot_size, heard}
use Rattle.key_book.specs.Book.{Book, Lent, Sound, row_of, key_of}
use Rattle.delayed_auth.specs.Check.{new_to, check_of, marks_after, received_after}
use Rattle.delayed_auth.specs.Key.{keyed_of, key_bytes, key_offset}
use Rattle.delayed_auth.specs.Seal.{sealed, seal_of, sent_after}
use Rattle.forcerenew.specs.Rows.{heard as serverHeard, Servers}
use Rattle.forcerenew.specs.Judging.{judge_of, judged_of, servers_after}
use Rattle.demands.specs.Accepts.{Accepts, Names, Seals, GivesNonce, OrdersRenewal, Heeds, Stores}
use Rattle.delayed_auth.specs.Check.{accepting}
use Rattle.forcerenew.specs.Judging.{heeding}

pub record Demand2 : Type 0 where
  -- on a sound book a message is accepted exactly when form, secret, counter and HMAC are right
  pub accepted : (b : Book) → Sound b → (m : List ℕ) (k c : ℕ) → (check_of b m ≡ accepting k c) ↔ Accepts b m k c
  -- its row is then marked heard, and its counter stored: the marks and the received counters are the old ones but at k
  pub marked : (b : Book) → Sound b → (m : List ℕ) (k c : ℕ) → Accepts b m k c → marks_after (check_of b m) b.marks ≡ set b.marks k heard
  pub stored : (b : Book) → Sound b → (m : List ℕ) (k c : ℕ) → Accepts b m k c → received_after (check_of b m) b.received ≡ set b.received k c
  -- on a sound book a message has a key exactly when its form is right and its secret is in the book
  pub keyed : (b : Book) → Sound b → (m : List ℕ) (k : ℕ) → (keyed_of b m ≡ Ok k) ↔ Names b m k
  -- it is that secret's: the part of the key store from its row's slot on, as many bytes as its key length
  pub key_content : (b : Book) → Sound b → (m : List ℕ) (k : ℕ) → Names b m k
      → key_bytes b (keyed_of b m) ≡ take (get_or b.lengths k 0) (drop (slot_size * k) b.store)
  pub key_place : (b : Book) → Sound b → (m : List ℕ) (k : ℕ) → Names b m k → key_offset (keyed_of b m) ≡ slot_size * k
  -- on a sound book a message is sealed exactly when form, secret and counter allow it, and then as `Seals` says
  pub sealed_when : (b : Book) → Sound b → Lent b → (id : ℕ) (m : List ℕ) (k c : ℕ) (n : List ℕ) → (seal_of b id m ≡ sealed k c n) ↔ Seals b id m k c n
  -- its counter is then stored
  pub sent : (b : Book) → Sound b → Lent b → (id : ℕ) (m : List ℕ) (k c : ℕ) (n : List ℕ) → Seals b id m k c n
      → sent_after (seal_of b id m) b.sent ≡ set b.sent k c
  -- a message we seal passes on any sound book with that key under that id, in a row that is not heard or has a lower received counter
  pub passes : (b d : Book) → Sound b → Lent b → Sound d → (id : ℕ) → id < 2 ^ 32 → (m : List ℕ) (k c : ℕ) (n : List ℕ) → seal_of b id m ≡ sealed k c n
      → (j : ℕ) → row_of d id ≡ Some j → key_of d j ≡ key_of b k → new_to d j c ≡ true → Accepts d n j c
  -- whatever the server rows, a message is accepted by a nonce exactly when form, type, message type and row are right, and of a FORCERENEW nonce, counter
  -- and MAC
  pub heeded : (s : Servers) (k : ℕ) (m : List ℕ) (type c : ℕ) → (judged_of (judge_of s k m) ≡ heeding type c) ↔ Heeds s k m type c
  -- a nonce is then stored, unless the row has it
  pub nonce_stored : (s : Servers) (k : ℕ) (m : List ℕ) (c : ℕ) (nonce : List ℕ) → GivesNonce s k m c nonce
      → Stores s k nonce (servers_after k (judge_of s k m) s)
  -- and of an order its counter, and the row is heard: counters and marks are the old ones but at k, and no nonce changes
  pub order_stored : (s : Servers) (k : ℕ) (m : List ℕ) (c : ℕ) → OrdersRenewal s k m c
      → servers_after k (judge_of s k m) s ≡ record { nonces = s.nonces; counters = set s.counters k c; marks = set s.marks k serverHeard }
