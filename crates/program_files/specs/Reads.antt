-- What the answers of reads say, where no contract says what is read.
use Rattle.std.specs.Prelude.{ℕ, ◌≡◌, List, Option, Result}
use Rattle.key_book.specs.Book.{Book}
use Rattle.file_verdict.specs.declared.Progress.{Progress}
use Rattle.file_verdict.specs.Files.{after_read, loaded_of, book_loaded}
use Rattle.verdict_line.specs.declared.Line.{Line}

-- the progress is what some read means, which gave so many bytes or failed, where so many bytes of the room had been read before
pub record ReadMeans (have room : ℕ) (progress : Progress) : Type 0 where
  pub got : Option ℕ
  pub means : progress ≡ after_read have room got

-- some card's file, there or not, was judged: what it gave, and the book afterwards
pub record CardLoaded (b after : Book) (loaded : Result ℕ Line) : Type 0 where
  pub card : Option (List ℕ)
  pub answer : loaded ≡ loaded_of b card
  pub book : after ≡ book_loaded b card
