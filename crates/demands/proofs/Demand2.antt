-- Demand 2, proved. What is accepted and what is sealed is read off the ends of check and seal (proofs/Stages.antt). That what we seal passes: the sealed
-- message says the counter and id that were written, and its image doesn't read the MAC's place, so the MAC of the image with zeros there
-- is the MAC of the sealed message's own image.
use mathlib.Core.Path.{◌≡◌, refl, sym, ap, ◌∙◌}
use mathlib.Core.List.{List, ◌++◌}
use Prim.Native.Nat.{ℕ, ◌*◌, ◌^◌, ◌<◌}
use native.Mathlib.Omega.{arith}
use lib.ListN.{length, get_or, take, drop}
use Rattle.hmac_md5.specs.Hmac.{hmac}
use Rattle.dhcp_message.specs.Layout.{mac_size}
use Rattle.octets.specs.Bytes.{zeros}
use Rattle.dhcp_message.specs.Said.{says, said_of, form_of}
use Rattle.dhcp_message.specs.Image.{image_of}
use Rattle.dhcp_message.specs.Seal.{fields, sealed_with}
use Rattle.dhcp_message.specs.declared.Auth.{Auth}
use Rattle.dhcp_message.proofs.Seals.{seal_laws}
use Rattle.key_book.specs.Limits.{slot_size}
use Rattle.key_book.specs.Book.{Book, Lent, Sound, key_of}
use Rattle.key_book.proofs.Says.{row_says, rows_within, key_is}
use Rattle.demands.specs.Accepts.{Names, Seals}
use Rattle.demands.specs.Demand2.{Demand2}
use Rattle.hmac_md5.proofs.Masks.{hmac_size}
use Rattle.forcerenew.specs.Judging.{Judgement, servers_after}
use Rattle.demands.proofs.DemandJudge.{heeded, nonce_stored, order_renews}
use Rattle.demands.proofs.Stages.{check_accepts, end_check, accepted_accepts, key_names, end_key, keyed_names}
use Rattle.demands.proofs.Stages.{SealedBy, seal_seals, end_seal, sealed_by}
use Rattle.std.specs.Prelude.{Ok}

-- ---- the image of a sealed message

module _ (m : List ℕ) (a : Auth) (form : form_of m ≡ Ok a) (c id : ℕ) where
  -- it says the counter, the id and the MAC that were written
  says_written : (x : List ℕ) → length x ≡ mac_size → c < 2 ^ 64 → id < 2 ^ 32 → said_of (sealed_with a (fields c id ++ x) m) ≡ says c id x
  says_written x h l g =
      (seal_laws.seals m a (fields c id ++ x) form (seal_laws.seal_size_lem c id x h)).said
      ∙ rw (seal_laws.counter_read c id x l, seal_laws.id_read c id x g, seal_laws.mac_read c id x)

-- ---- what is sealed

module _ (b : Book) (lent : Lent b) (id : ℕ) (m : List ℕ) (k c : ℕ) (n : List ℕ) where
  by_seals : SealedBy b id m k c n → Seals b id m k c n
  by_seals w =
      let a = w.auth in
      let mac = hmac (key_of b k) (image_of (sealed_with a (fields c id ++ zeros mac_size) m)) in
      record {
        auth = a;
        mac = mac;
        form = w.form;
        secret = w.secret;
        left = let u = w.unspent in omega (arith, lent.sent_fits k);
        next = w.next;
        bytes = w.message;
        right = ap (hmac (key_of b k)) (seal_laws.any_mac m a c id (zeros mac_size) mac w.form refl (hmac_size _ _) ∙ ap image_of (sym w.message));
      }

  seals_by : Seals b id m k c n → SealedBy b id m k c n
  seals_by w =
      let a = w.auth in
      let size : length w.mac ≡ mac_size = ap length w.right ∙ hmac_size _ _ in
      record {
        auth = a;
        form = w.form;
        secret = w.secret;
        unspent = λ e. omega (arith, w.left);
        next = w.next;
        message = w.bytes
            ∙ ap (λ (x : List ℕ). sealed_with a (fields c id ++ x) m)
            (w.right ∙ ap (hmac (key_of b k)) (ap image_of w.bytes ∙ seal_laws.any_mac m a c id w.mac (zeros mac_size) w.form size refl));
      }

-- the key of a named row is the part of its slot
key_there : (b : Book) → Sound b → (m : List ℕ) (k : ℕ) → Names b m k → key_of b k ≡ take (get_or b.lengths k 0) (drop (slot_size * k) b.store)
key_there b s m k w =
    let used = ((row_says.row b w.id k).0 w.secret).used in
    key_is b k (rows_within b s k used) (s.keys_to k used)

pub demand_2 : Demand2
demand_2 = record {
  accepted = λ b s m k c. (accepted_accepts b m k c, λ a. end_check b m _ (check_accepts s a));
  marked = λ b s m k c a. rw (end_check b m _ (check_accepts s a));
  stored = λ b s m k c a. rw (end_check b m _ (check_accepts s a));
  keyed = λ b s m k. (keyed_names b m k, λ w. end_key b m _ (key_names s w));
  key_content = λ b s m k w. rw (end_key b m _ (key_names s w)) (key_there b s m k w);
  key_place = λ b s m k w. rw (end_key b m _ (key_names s w));
  sealed_when = λ b s l id m k c n. (
    λ e. by_seals b l id m k c n (sealed_by b id m k c n e),
    λ w. end_seal b id m _ (seal_seals s (seals_by b l id m k c n w)),
  );
  sent = λ b s l id m k c n w. rw (end_seal b id m _ (seal_seals s (seals_by b l id m k c n w)));
  passes = λ b d s l t id g m k c n e j r q u.
      let w = by_seals b l id m k c n (sealed_by b id m k c n e) in
      let size : length w.mac ≡ mac_size = ap length w.right ∙ hmac_size _ _ in
      record {
        id = id;
        mac = w.mac;
        form = ap said_of w.bytes ∙ says_written m w.auth w.form c id w.mac size (omega (arith, w.left, w.next)) g;
        secret = r;
        new = u;
        right = w.right ∙ ap (λ (x : List ℕ). hmac x (image_of n)) (sym q);
      };
  heeded = heeded;
  nonce_stored = nonce_stored;
  order_stored = λ s k m c g. ap (λ (j : Judgement). servers_after k j s) (order_renews s k m c g);
}
