-- What holds of digests in progress (docs/RULES.md, 'Digests'). Each statement has its one proof in proofs/Promises.antt.
use Rattle.std.specs.Prelude.{ℕ, ◌+◌, ◌-◌, ◌*◌, ◌/◌, ◌%◌, ◌≤◌, ◌≡◌, ◌≢◌, List, [], ◌∷◌, ◌++◌, length, drop, Err, Ok}
use Rattle.octets.specs.Bytes.{zeros}
use Rattle.refusal.specs.Number.{done, result_number, given_or}
use Rattle.refusal.specs.declared.Refusal.TheVariants.{TooLong}
use Rattle.md5_digest.specs.declared.Digest.{Digest}
use Rattle.md5_digest.specs.Block.{block_size}
use Rattle.md5_digest.specs.Message.{md5, padded}
use Rattle.md5_digest.specs.Entries.{digest_most, fresh, feed_of, finish_of}

-- the state after the pieces, one after the other
unfoldable pub fed_all : Digest → List (List ℕ) → Digest
fed_all d [] = d
fed_all d (p ∷ ps) = fed_all (given_or d (feed_of d p)) ps

unfoldable pub joined : List (List ℕ) → List ℕ
joined [] = []
joined (p ∷ ps) = p ++ joined ps

-- from a fresh state any cutting, empty pieces among it, gives the digest of the joined pieces
abbrev pub AnyCutting : Type 0
AnyCutting =
    (pieces : List (List ℕ)) → length (joined pieces) ≤ digest_most
    → finish_of (fed_all fresh pieces) ≡ Ok (md5 (joined pieces))

-- each piece within the limit is accepted on the way
abbrev pub PiecesTaken : Type 0
PiecesTaken =
    (pieces : List (List ℕ)) (piece : List ℕ) → length (joined pieces) + length piece ≤ digest_most
    → result_number (feed_of (fed_all fresh pieces) piece) ≡ done

-- from any state: after each piece taken, what stands in the tail past the bytes in use is 0
abbrev pub TailZero : Type 0
TailZero =
    (d : Digest) (piece : List ℕ) → length d.tail ≡ block_size → result_number (feed_of d piece) ≡ done
    → let e = given_or d (feed_of d piece) in
    (length e.tail ≡ block_size) × (drop (e.total % block_size) e.tail ≡ zeros (block_size - e.total % block_size))

-- a refusal returns the state as given
abbrev pub RefusedKept : Type 0
RefusedKept =
    (d : Digest) (piece : List ℕ) → result_number (feed_of d piece) ≢ done → (feed_of d piece ≡ Err TooLong) × (given_or d (feed_of d piece) ≡ d)

-- n bytes are padded to 64 (1 + (n + 8) / 64)
abbrev pub PaddedSize : Type 0
PaddedSize = (message : List ℕ) → length (padded message) ≡ block_size * (1 + (length message + 8) / block_size)
