-- A digest in progress as it is lent: four words, a tail and a total (docs/RULES.md, 'Digests').
use Rattle.std.specs.Prelude.{ℕ, List, [], ◌∷◌, get_or}
use Rattle.md5_digest.specs.declared.Digest.{Digest}

-- the state of four words, A first, a tail and a total
unfoldable pub state_of : List ℕ → List ℕ → ℕ → Digest
state_of words tail total =
    record {
      words = record { a = get_or words 0 0; b = get_or words 1 0; c = get_or words 2 0; d = get_or words 3 0 };
      tail = tail;
      total = total;
    }

-- the four words of a state
unfoldable pub four_words : Digest → List ℕ
four_words d = d.words.a ∷ d.words.b ∷ d.words.c ∷ d.words.d ∷ []
