-- The row of an id on a sound book: its ids ascend, so the search by halving finds the row of the definition (key_book, `AscendingFinds`).
use mathlib.Core.Path.{◌≡◌, sym, ◌∙◌}
use mathlib.Core.Bool.{true}
use mathlib.Core.List.{List}
use Prim.Native.Nat.{ℕ}
use Rattle.key_book.specs.Book.{Book, sound, row_in}
use Rattle.key_book.specs.Halving.{Taken, known_of}
use Rattle.key_book.specs.Known.{Ascends}
use Rattle.key_book.specs.declared.Sought.{Sought}
use Rattle.key_book.specs.declared.Sought.TheVariants.{Stands, Missing, Unsized}
use Rattle.key_book.proofs.Says.{sound_says}
use Rattle.key_book.proofs.Halves.{ascending_finds, known_says}
use Rattle.std.specs.Prelude.{None, Some}

-- a sound book's ids are taken and ascend
pub sound_ascends : (b : Book) → sound b ≡ true → Taken b.ids b.rows × Ascends b.ids b.rows
sound_ascends b s = let w = (sound_says b).0 s in (record { room = w.sizes.room; counted = w.rows_fit }, w.ids_ascend)

-- the ends of `row_of`
module _ (ids : List ℕ) (rows id : ℕ) (p : Taken ids rows × Ascends ids rows) {sought : Sought} (e : sought ≡ known_of ids rows id) where
  pub row_stands : {k looks : ℕ} → sought ≡ Stands k looks → Some k ≡ row_in ids rows id
  row_stands {k} {looks} m = (sym ((ascending_finds.row ids rows id k p.0 p.1).0 (looks, sym e ∙ m)))

  pub row_missing : {looks : ℕ} → sought ≡ Missing looks → None ≡ row_in ids rows id
  row_missing {looks} m = (sym ((ascending_finds.no_row ids rows id p.0 p.1).0 (looks, sym e ∙ m)))

  pub row_unsized : sought ≡ Unsized → None ≡ row_in ids rows id
  row_unsized m = absurd ((known_says.unsized ids rows id).0 (sym e ∙ m) p.0)
