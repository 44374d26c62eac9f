-- `delayed_auth::mac_of` meets its contract: `cover` leaves the image in front of a buffer that has room for any message (proofs/Macs.antt).
use mathlib.Core.Path.{◌≡◌, sym, ap, ◌∙◌}
use lib.Seq.{length-take-le}
use Rattle.std.specs.Prelude.{Ok, Some}
use Rattle.hmac_md5.specs.Hmac.{hmac}
use Rattle.dhcp_message.specs.Image.{image_of, cover_size}
use Rattle.octets.specs.Bytes.{zeros}
use lib.ListN.{length}
use Rattle.dhcp_message.specs.Layout.{message_most}
use Rattle.delayed_auth.proofs.Macs.{cover_given, cover_short, cover_front, mac_right}
use native.Mathlib.Omega.{arith}
use Rattle.delayed_auth.proofs.mac_of.Goals as goal
use Rattle.delayed_auth.proofs.mac_of.Goals.{After-cover, After-hmac, After-unwrap-size}
use Rattle.refusal.specs.Number.{given_or}
use Rattle.md5_digest.specs.Entries.{no_digest}

given : (c : After-cover) → c.cover.result ≡ Some (length (image_of c.args.message.now))
given c = cover_given _ _ c.requires.0 _ c.cover.ensures.0

pub unwrap-size-requires : goal.unwrap-size-requires
unwrap-size-requires c = rw (given (goal.at.unwrap-size-requires c).After-cover)

size : (c : After-unwrap-size) → Some c.unwrap-size.result ≡ cover_size c.args.message.now c.args.auth (zeros message_most)
size c = sym c.unwrap-size.ensures ∙ c.cover.ensures.0

pub slice_bounds-image-end : goal.slice_bounds-image-end
slice_bounds-image-end c = let s = cover_short _ _ c.requires.0 _ (size (goal.at.slice_bounds-image-end c).After-unwrap-size) in omega (arith, c.cover.auto.out)

pub slice_bounds-hmac-end : goal.slice_bounds-hmac-end
slice_bounds-hmac-end c =
    let s = cover_short _ _ c.requires.0 _ (size (goal.at.slice_bounds-hmac-end c).After-unwrap-size) in
    sym (length-take-le _ _ (omega (arith, c.cover.auto.out)))

taken : (c : After-hmac) → c.hmac.result ≡ Ok (hmac c.args.key.now (image_of c.args.message.now))
taken c =
    c.hmac.ensures ∙ mac_right _ _ c.requires.0 _ _ c.requires.1 (cover_front _ _ c.requires.0 _ _
    (sym c.unwrap-size.ensures ∙ c.cover.ensures.0) c.cover.ensures.1)

pub unwrap-requires : goal.unwrap-requires
unwrap-requires c = rw (taken c)

pub returns : goal.returns
returns c = ap (given_or no_digest) (sym c.unwrap.ensures ∙ taken (goal.at.returns c).After-hmac)
