-- The proof of specs/Vectors.antt: the definition computed.
use mathlib.Core.Path.{refl}
use Rattle.octets.specs.Numbers.{le, value, little_at}
use Rattle.md5_block.specs.Word.{rotl, auxiliary, word_no, additive, rotations}
use Rattle.md5_block.specs.Block.{step_with, step_at, steps, round, compress}
use Rattle.md5_digest.specs.Block.{load_to, load, blocks}
use Rattle.md5_digest.specs.Message.{md5, padded, padding, output}
use Rattle.md5_digest.specs.Vectors.{Md5Vectors}

pub md5_vectors : Md5Vectors
unfolding md5 padded padding blocks compress round steps step_at step_with rotl auxiliary word_no additive rotations load load_to little_at value output le
md5_vectors = record {
  empty = refl;
  a = refl;
  abc = refl;
  message_digest = refl;
  alphabet = refl;
  letters_and_digits = refl;
  eighty_digits = refl;
}
