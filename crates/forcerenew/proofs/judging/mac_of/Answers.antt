-- `forcerenew::mac_of` meets its contract: nonce and message are within what an HMAC takes (proofs/Leaves.antt).
use Rattle.std.proofs.Common.{◌≡◌, ◌+◌, Ok, arith}
use Rattle.octets.specs.Bytes.{written, zeros}
use Rattle.hmac_md5.specs.Hmac.{hmac}
use Rattle.forcerenew.proofs.Leaves.{mac_taken}
use Rattle.forcerenew.proofs.judging.mac_of.Goals as goal

pub unwrap-requires : goal.unwrap-requires
unwrap-requires c =
    let taken : c.hmac.result ≡ Ok (hmac c.args.nonce.bytes.now (written (c.args.at + 14) (zeros 16) c.args.message.now)) = grind (arith, mac_taken) in
    rw taken
