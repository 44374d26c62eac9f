-- Server rows as they are lent (docs/RULES.md, 'FORCERENEW by nonce'): for each server the nonce that it gave, the counter of its last FORCERENEW, and a
-- mark. The marks are not those of a key book's rows. `SoundRows` is the rules' sentence and `sound_rows` computes it; that they agree is `RowsSay`.
use Rattle.std.specs.Prelude.{ℕ, ◌*◌, ◌≤◌, ◌<◌, ◌≡◌, ◌↔◌, leb, ltb, eqb, Bool, true, cond, ◌&&◌, not, None, Option, Some}
use Rattle.std.specs.Prelude.{List, [], ◌∷◌, length, get_or, take, drop}
use Rattle.forcerenew.specs.Layout.{value_size}

-- a row's mark: no nonce yet; a nonce, and nothing heard under it; a FORCERENEW was accepted under it
abbrev pub none_yet : ℕ
none_yet = 0

abbrev pub not_heard : ℕ
not_heard = 1

abbrev pub heard : ℕ
heard = 2

-- The three lent things. Row k is the k-th of counters and marks, and of the nonces the 16 bytes from 16 * k.
pub record Servers : Type 0 where
  pub nonces : List ℕ
  pub counters : List ℕ
  pub marks : List ℕ

-- rows from what is lent, in the order in which the entry takes it
abbrev pub servers_of : List ℕ → List ℕ → List ℕ → Servers
servers_of nonces counters marks = record { nonces = nonces; counters = counters; marks = marks }

-- the sizes are those of the same number of rows, and every mark is one of the three
pub record SoundRows (s : Servers) : Type 0 where
  pub nonces_agree : length s.nonces ≡ value_size * length s.marks
  pub counters_agree : length s.counters ≡ length s.marks
  pub marks_known_lem : (k : ℕ) → k < length s.marks → get_or s.marks k 0 ≤ heard

-- whether every mark is one of the three
unfoldable pub marks_known : List ℕ → Bool
marks_known [] = true
marks_known (mark ∷ marks) = leb mark heard && marks_known marks

unfoldable pub sound_rows : Servers → Bool
sound_rows s =
    eqb (length s.nonces) (value_size * length s.marks) && eqb (length s.counters) (length s.marks) && marks_known s.marks

pub record RowsSay : Type 0 where
  pub sound : (s : Servers) → (sound_rows s ≡ true) ↔ SoundRows s

-- one row
pub record Server : Type 0 where
  pub nonce : List ℕ
  pub counter : ℕ
  pub mark : ℕ

-- the nonce of row k
abbrev pub nonce_at : Servers → ℕ → List ℕ
nonce_at s k = take value_size (drop (value_size * k) s.nonces)

abbrev pub row_at : Servers → ℕ → Server
row_at s k = record { nonce = nonce_at s k; counter = get_or s.counters k 0; mark = get_or s.marks k 0 }

-- row k, where there is one
unfoldable pub server_at : Servers → ℕ → Option Server
server_at s k = cond (ltb k (length s.marks)) (Some (row_at s k)) None

-- whether a row has a nonce, and whether a FORCERENEW was accepted under it
abbrev pub has_nonce : Server → Bool
has_nonce w = not (eqb w.mark none_yet)

abbrev pub has_heard : Server → Bool
has_heard w = eqb w.mark heard
