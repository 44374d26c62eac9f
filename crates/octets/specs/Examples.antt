-- The definitions on bytes written out: both orders, and what is written, filled and read where.
use Rattle.std.specs.Prelude.{◌≡◌, true, false, [], ◌∷◌}
use Rattle.octets.specs.Bytes.{Bytes, written, filled, starts, same_bytes, up_from}
use Rattle.octets.specs.Numbers.{le, little_at, be, big_at}

pub record OctetExamples : Type 0 where
  pub low_first : le 4 0x0102_03ff ≡ 255 ∷ 3 ∷ 2 ∷ 1 ∷ []
  pub high_first : be 4 0x0102_03ff ≡ 1 ∷ 2 ∷ 3 ∷ 255 ∷ []
  pub lowest_bytes : be 1 0x0102 ≡ 2 ∷ []
  pub read_low : little_at (9 ∷ 1 ∷ 2 ∷ 3 ∷ []) 1 2 ≡ 0x0201
  pub read_high : big_at (9 ∷ 1 ∷ 2 ∷ 3 ∷ []) 1 2 ≡ 0x0102
  pub written_inside : written 1 (8 ∷ 9 ∷ []) (up_from 1 4) ≡ 1 ∷ 8 ∷ 9 ∷ 4 ∷ []
  pub filled_up : filled 3 (7 ∷ []) ≡ 7 ∷ 0 ∷ 0 ∷ []
  pub filled_already : filled 1 (7 ∷ 8 ∷ []) ≡ 7 ∷ 8 ∷ []
  pub starts_so : starts (1 ∷ 2 ∷ []) (up_from 1 4) ≡ true
  pub starts_otherwise : starts (1 ∷ 3 ∷ []) (up_from 1 4) ≡ false
  pub same_so : same_bytes (1 ∷ 2 ∷ []) (1 ∷ 2 ∷ []) ≡ true
  pub same_otherwise : same_bytes (1 ∷ 2 ∷ []) (1 ∷ 3 ∷ []) ≡ false
  pub same_not_shorter : same_bytes (1 ∷ 2 ∷ []) (1 ∷ []) ≡ false
  pub same_not_longer : same_bytes (1 ∷ []) (1 ∷ 2 ∷ []) ≡ false
  pub byte_255 : Bytes (255 ∷ [])
  pub byte_256 : Bytes (256 ∷ []) → ⊥
