-- The examples of specs/Examples.antt, computed.
use mathlib.Core.Path.{refl}
use native.Mathlib.Omega.{arith}
use Rattle.octets.specs.Examples.{OctetExamples}
use Rattle.octets.specs.Bytes.{written, filled, same_bytes}
use Rattle.octets.specs.Numbers.{le, value, little_at, be, big_at}

pub octet_examples : OctetExamples
unfolding written filled same_bytes le value little_at be big_at
octet_examples =
    record {
      low_first = refl;
      high_first = refl;
      lowest_bytes = refl;
      read_low = refl;
      read_high = refl;
      written_inside = refl;
      filled_up = refl;
      filled_already = refl;
      starts_so = refl;
      starts_otherwise = refl;
      same_so = refl;
      same_otherwise = refl;
      same_not_shorter = refl;
      same_not_longer = refl;
      byte_255 = (omega arith, tt);
      byte_256 = λ h. absurd (omega (arith, h.0));
    }
