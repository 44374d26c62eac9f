-- The words A, B, C and D in a list, as C lends them, A first.
use Rattle.std.specs.Prelude.{ℕ, List, [], ◌∷◌, slice_index}
use Rattle.md5_block.specs.declared.Words.{Words}

-- the words of a list of four
unfoldable pub words_of : List ℕ → Words
words_of words = record { a = slice_index words 0; b = slice_index words 1; c = slice_index words 2; d = slice_index words 3 }

-- the list of the four words
unfoldable pub four_of : Words → List ℕ
four_of w = w.a ∷ w.b ∷ w.c ∷ w.d ∷ []
