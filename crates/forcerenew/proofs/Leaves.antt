-- What an option 90 shows and what is answered to an order, end by end, by the facts that decide it; and that the MAC of an order can be computed.
use mathlib.Core.Path.{◌≡◌, refl, sym, ap, ap₂, ◌∙◌}
use mathlib.Core.Logic.{◌≢◌}
use mathlib.Core.Bool.{Bool, true, false, ◌&&◌, not}
use mathlib.Core.List.{List}
use Prim.Native.Nat.{ℕ, ◌+◌, ◌≤◌}
use native.Mathlib.Omega.{arith}
use borrow.Author.Tests.{eq-eqb, ne_eqb}
use lib.ListN.{length, get_or, drop}
use Rattle.refusal.specs.declared.Refusal.TheVariants.{NotByNonce, WrongType, NoNonce, Replay, WrongMac}
use Rattle.octets.specs.Bytes.{written, zeros, starts, same_bytes}
use Rattle.octets.proofs.Written.{length_written}
use Rattle.hmac_md5.specs.Hmac.{hmac, hmac_of}
use Rattle.hmac_md5.proofs.Masks.{hmac_taken}
use Rattle.dhcp_message.specs.Types.{message_type_of}
use Rattle.forcerenew.specs.Layout.{by_nonce}
use Rattle.forcerenew.specs.Rows.{Server}
use Rattle.forcerenew.specs.Shown.{unfit, gives, orders, counter_in, type_in, value_in, image_at, goes_with, shown_typed, shown_formed, shown_at}
use Rattle.forcerenew.specs.Judging.{renews, refused, ordered, new_to, judged_row}
use Rattle.std.specs.Prelude.{Ok}

-- ---- what an option 90 shows

module _ (m : List ℕ) (o : ℕ) where
  pub shown_length : get_or m (o + 1) 0 ≢ 28 → unfit NotByNonce ≡ shown_at m o
  unfolding shown_at
  shown_length n = rw (ne_eqb _ _ n)

  module _ (size : get_or m (o + 1) 0 ≡ 28) where
    pub shown_method : starts by_nonce (drop (o + 2) m) ≡ false → unfit NotByNonce ≡ shown_at m o
    unfolding shown_at
    shown_method e = sym (ap₂ (λ (a b : Bool). shown_formed m o (a && b)) (eq-eqb _ _ size) e)

    module _ (method : starts by_nonce (drop (o + 2) m) ≡ true) where
      shown_formed_lem : shown_at m o ≡ shown_typed m o (goes_with (type_in m o) (message_type_of m))
      unfolding shown_at
      shown_formed_lem = ap₂ (λ (a b : Bool). shown_formed m o (a && b)) (eq-eqb _ _ size) method

      pub shown_type : goes_with (type_in m o) (message_type_of m) ≡ false → unfit WrongType ≡ shown_at m o
      shown_type e = sym (shown_formed_lem ∙ ap (shown_typed m o) e)

      module _ (fits : goes_with (type_in m o) (message_type_of m) ≡ true) where
        shown_typed_lem : shown_at m o ≡ shown_typed m o true
        shown_typed_lem = shown_formed_lem ∙ ap (shown_typed m o) fits

        pub shown_gives : type_in m o ≡ 1 → gives (counter_in m o) (value_in m o) ≡ shown_at m o
        shown_gives e = sym (shown_typed_lem ∙ rw (eq-eqb _ _ e))

        pub shown_orders : type_in m o ≢ 1 → orders (counter_in m o) (value_in m o) (image_at m o) ≡ shown_at m o
        shown_orders n = sym (shown_typed_lem ∙ rw (ne_eqb _ _ n))

-- ---- an order, by the row

module _ (w : Server) (c : ℕ) (value image : List ℕ) where
  pub order_first : w.mark ≡ 0 → refused NoNonce ≡ judged_row w (orders c value image)
  order_first e = sym (ap (λ (b : Bool). ordered c (not b) (new_to w c) (same_bytes value (hmac w.nonce image))) (eq-eqb _ _ e))

  module _ (n : w.mark ≢ 0) where
    order_by : (new right : Bool) → new_to w c ≡ new → same_bytes value (hmac w.nonce image) ≡ right
        → ordered c true new right ≡ judged_row w (orders c value image)
    order_by new right e f =
        sym
        (ap (λ (b : Bool). ordered c (not b) (new_to w c) (same_bytes value (hmac w.nonce image))) (ne_eqb _ _ n)
        ∙ ap₂ (λ (x y : Bool). ordered c true x y) e f)

    pub order_replay : new_to w c ≡ false → refused Replay ≡ judged_row w (orders c value image)
    order_replay e = order_by false _ e refl

    module _ (new : new_to w c ≡ true) where
      pub order_wrong : same_bytes value (hmac w.nonce image) ≡ false → refused WrongMac ≡ judged_row w (orders c value image)
      order_wrong e = order_by true false new e

      pub order_renews : same_bytes value (hmac w.nonce image) ≡ true → renews c ≡ judged_row w (orders c value image)
      order_renews e = order_by true true new e

-- ---- the message with the MAC zero is within what an HMAC takes

pub mac_taken : (nonce m : List ℕ) (o : ℕ) → length nonce ≡ 16 → length m ≤ 1472 → o + 30 ≤ length m
    → hmac_of nonce (written (o + 14) (zeros 16) m) ≡ Ok (hmac nonce (written (o + 14) (zeros 16) m))
mac_taken nonce m o h k inside =
    let n = length_written (o + 14) (zeros 16) m (omega arith) in
    hmac_taken nonce (written (o + 14) (zeros 16) m) (omega arith) (omega arith)
