-- Bench examples 3 to 7 and the message whose bytes differ, computed over the definitions.
use mathlib.Core.Path.{◌≡◌, refl}
use Prim.Native.Nat.{ℕ, ◌≤◌}
use native.Mathlib.Omega.{arith}
use mathlib.Core.List.{List, [], ◌∷◌, ◌++◌}
use lib.ListN.{length, take, drop}
use Rattle.octets.specs.Bytes.{written, up_from}
use Rattle.octets.specs.Numbers.{be, big_at}
use Rattle.octets.proofs.Elements.{bytes_zeros}
use Rattle.dhcp_message.specs.Options.{Token, pad, opt, encode, Reads, decode_at}
use Rattle.dhcp_message.specs.Message.{checked_tokens, checked_of, Passes27}
use Rattle.dhcp_message.specs.Said.{said_by, said_of, form_of}
use Rattle.dhcp_message.specs.Image.{head_with, image_of, cover_fits, image_at, cover_bytes, cover_size, cover_left}
use Rattle.dhcp_message.specs.Scan.{seen_of, scan_of}
use Rattle.dhcp_message.specs.Shape.{shape_of}
use Rattle.dhcp_message.specs.Types.{message_type_of}
use Rattle.dhcp_message.specs.Relay.{RelayChange, added, replaced, removed, Permitted}
use Rattle.dhcp_message.specs.Seal.{fields_put, mac_put}
use Rattle.dhcp_message.proofs.Relays.{relay_may}
use Rattle.dhcp_message.specs.Bench.{BenchExamples, distinct_of, distinct, LayoutPinned}

pub bench_examples : BenchExamples
unfolding form_of checked_of checked_tokens decode_at said_by big_at
bench_examples = record {
  example_3_short = refl;
  example_3_long = refl;
  example_3_passes = λ e. omega arith;
  example_4 = refl;
  example_5 = refl;
  example_6 = refl;
  example_7_request = refl;
  example_7_protocol = refl;
}

-- a change with the hops and giaddr that the examples have, to a message as short as they are
relayed : (m n : List ℕ) (ts us : List Token) (rest : List ℕ) → Passes27 m → Reads (drop 240 m) ts rest → RelayChange ts us
    → n ≡ head_with (250 ∷ []) (up_from 251 4) (take 240 m) ++ (encode us ++ (255 ∷ rest)) → length n ≤ 300 → Permitted m n
relayed m n ts us rest passes reads change becomes short = record {
  passes = passes;
  tokens = ts;
  rest = rest;
  reads = reads;
  tokens' = us;
  change = change;
  hops = 250 ∷ [];
  hops_size_lem = refl;
  hops_bytes = (omega arith, tt);
  giaddr = up_from 251 4;
  giaddr_size_lem = refl;
  giaddr_bytes = (omega arith, (omega arith, (omega arith, (omega arith, tt))));
  becomes = becomes;
  fits = omega arith;
}

-- the options of the message whose bytes differ, and those in front of its option 82
abbrev front : List Token
front = opt 12 (90 ∷ 82 ∷ 255 ∷ []) ∷ pad ∷ opt 90 (1 ∷ 1 ∷ 0 ∷ up_from 201 28) ∷ []

abbrev options : List Token
options = front ++ (opt 82 (90 ∷ 9 ∷ []) ∷ pad ∷ [])

options_read : Reads (drop 240 distinct) options (82 ∷ 0 ∷ [])
options_read = ((omega arith, omega arith, omega arith, (omega arith, omega arith, omega arith, (omega arith, omega arith, omega arith, tt))), refl)

pub layout_pinned : LayoutPinned
unfolding said_of form_of shape_of message_type_of checked_of checked_tokens decode_at scan_of seen_of said_by image_of cover_fits image_at
    cover_bytes cover_size
    cover_left written fields_put mac_put be big_at
layout_pinned = record {
  form = refl;
  scanned = refl;
  shape = refl;
  type_stated = refl;
  type_twice = refl;
  type_longer = refl;
  type_empty = refl;
  type_missing = refl;
  said = refl;
  image = refl;
  covers_before = refl;
  covers_into = refl;
  covers_behind = refl;
  covers_out_of = refl;
  covers_past_the_end = refl;
  fields_put_lem = refl;
  mac_put_lem = refl;
  sealed = refl;
  early_form = refl;
  early_image = refl;
  early_covered = refl;
  early_sealed = refl;
  relay_replaces = relayed distinct _ options (front ++ (opt 82 (7 ∷ []) ∷ pad ∷ [])) (82 ∷ 0 ∷ []) tt options_read
      (replaced front (90 ∷ 9 ∷ []) (7 ∷ []) (pad ∷ []) (omega arith, (omega arith, tt)) refl refl) refl (omega arith);
  relay_removes = relayed distinct _ options (front ++ (pad ∷ [])) (82 ∷ 0 ∷ []) tt options_read
      (removed front (90 ∷ 9 ∷ []) (pad ∷ []) refl refl) refl (omega arith);
  relay_adds_last = relayed (distinct_of (90 ∷ 0 ∷ 255 ∷ [])) _ (opt 90 [] ∷ []) (opt 90 [] ∷ opt 82 (7 ∷ []) ∷ []) [] tt
      ((omega arith, omega arith, omega arith, tt), refl) (added (opt 90 [] ∷ []) (7 ∷ []) [] (omega arith, (omega arith, tt)) refl refl refl)
      refl (omega arith);
  relay_adds_first = relayed (distinct_of (90 ∷ 0 ∷ 255 ∷ [])) _ (opt 90 [] ∷ []) (opt 82 (7 ∷ []) ∷ opt 90 [] ∷ []) [] tt
      ((omega arith, omega arith, omega arith, tt), refl) (added [] (7 ∷ []) (opt 90 [] ∷ []) (omega arith, (omega arith, tt)) refl refl refl)
      refl (omega arith);
  relay_moves = relay_may.move distinct tt front (90 ∷ 9 ∷ []) (pad ∷ []) (opt 12 (90 ∷ 82 ∷ 255 ∷ []) ∷ [])
      (pad ∷ opt 90 (1 ∷ 1 ∷ 0 ∷ up_from 201 28) ∷ pad ∷ []) (82 ∷ 0 ∷ []) (90 ∷ 9 ∷ []) options_read refl (omega arith)
      (omega arith, (omega arith, tt)) (omega arith) (250 ∷ []) (up_from 251 4) refl (omega arith, tt) refl
      (omega arith, (omega arith, (omega arith, (omega arith, tt))));
  relay_body_255 = (omega arith, bytes_zeros 255);
  relay_body_256 = λ h. omega (arith, h.0);
  number_0 = refl;
  number_2 = refl;
  number_3 = refl;
  number_4 = refl;
  number_5 = refl;
  number_6 = refl;
  number_7 = refl;
  number_8 = refl;
  number_9 = refl;
}
