-- Demand 1 of check and of the key of a message: at each end the number applies and no lower one does.
use mathlib.Core.Path.{◌≡◌, refl, sym, ap, ap₂, ◌∙◌}
use mathlib.Core.Logic.{◌≢◌}
use mathlib.Core.Bool.{true, false, true≢false}
use mathlib.Core.List.{List, []}
use Rattle.std.proofs.lemmas.Option.{none-some, same_Some}
use Prim.Native.Nat.{ℕ, ◌<◌, ◌≤◌}
use native.Mathlib.Omega.{arith}
use Rattle.refusal.specs.Number.{number_of, done, result_number}
use Rattle.refusal.specs.Lowest.{NothingBelow, Lowest}
use Rattle.refusal.specs.declared.Refusal.{Refusal}
use Rattle.refusal.specs.declared.Refusal.TheVariants.{UnsoundBook, UnknownSecret, Replay, WrongMac}
use Rattle.refusal.proofs.Lowest.{nothing_first, nothing_below_any, lowest}
use Rattle.hmac_md5.specs.Hmac.{hmac}
use Rattle.octets.specs.Bytes.{Bytes}
use Rattle.dhcp_message.specs.Said.{refused, says, said_of, named}
use Rattle.dhcp_message.specs.Image.{image_of}
use Rattle.dhcp_message.specs.Numbers.{Applies}
use Rattle.dhcp_message.proofs.Lowest.{applies_within, lowest_given}
use Rattle.key_book.specs.Book.{Book, Sound, row_of, key_of}
use Rattle.key_book.specs.Laws.{NoRow}
use Rattle.key_book.proofs.Says.{row_says}
use Rattle.delayed_auth.specs.Check.{new_to, check_of, marks_after, received_after}
use Rattle.delayed_auth.specs.Key.{keyed_of, key_bytes, key_offset}
use Rattle.demands.specs.Accepts.{Names}
use Rattle.demands.specs.Demand1.{Claims, KeyApplies, CheckApplies, by_key, not_new, differs}
use Rattle.demands.proofs.Below.{said_form, named_full}
use Rattle.demands.proofs.Stages.{CheckEnd, check_unsound, check_refused, check_unknown, check_replay, check_wrong, check_accepts, check_end}
use Rattle.demands.proofs.Stages.{accepts_claims, claims_names, KeyEnd, key_unsound, key_refused, key_unknown, key_names, key_end}
use Rattle.std.specs.Prelude.{Err, None, Ok, Result, Some, ℕ}
use Rattle.delayed_auth.specs.declared.Accepted.{Accepted}

-- ---- what lies below a number, on a sound book

module _ (b : Book) (m : List ℕ) (n : ℕ) where
  key_below : Sound b → NothingBelow (Applies m) n → (number_of UnknownSecret < n → (id : ℕ) → named m ≡ Some id → NoRow b id → ⊥)
      → NothingBelow (KeyApplies b m) n
  key_below s f u q l (KeyApplies.not_sound h) = h s
  key_below s f u q l (KeyApplies.by_form a) = f q l a
  key_below s f u q l (KeyApplies.no_row id e h) = u l id e h

  check_below : NothingBelow (KeyApplies b m) n
      → (number_of Replay < n → (c k : ℕ) (mac : List ℕ) → Claims b m c k mac → new_to b k c ≡ false → ⊥)
      → (number_of WrongMac < n → (c k : ℕ) (mac : List ℕ) → Claims b m c k mac → mac ≢ hmac (key_of b k) (image_of m) → ⊥)
      → NothingBelow (CheckApplies b m) n
  check_below f g h q l (by_key a) = f q l a
  check_below f g h q l (not_new c k mac w e) = g l c k mac w e
  check_below f g h q l (differs c k mac w e) = h l c k mac w e

-- what is claimed is claimed once
same_claim : (b : Book) (m : List ℕ) (c d k j : ℕ) (mac other : List ℕ) → Claims b m c k mac → Claims b m d j other → (d ≡ c) × (j ≡ k) × (other ≡ mac)
same_claim b m c d k j mac other v w =
    let e : says d w.id other ≡ says c v.id mac = sym w.form ∙ v.form in
    let i : w.id ≡ v.id = cc in
    let r : Some j ≡ Some k = sym w.secret ∙ ap (row_of b) i ∙ v.secret in
    (cc, cc, cc)

module _ (b : Book) (m : List ℕ) (bytes : Bytes m) (s : Sound b) where
  -- ---- the key

  key_form : (r : Refusal) → said_of m ≡ refused r → KeyApplies b m r × NothingBelow (KeyApplies b m) (number_of r) × (number_of r ≤ 9)
  key_form r e =
      let w = (lowest_given.refused m bytes r).0 (said_form m (refused r) e) in
      let within = applies_within m r w.0 in
      (KeyApplies.by_form w.0, key_below b m (number_of r) s w.1 (λ l. absurd (omega arith)), omega arith)

  -- a message that names a secret has none of 2 to 9
  no_form : (id : ℕ) → named m ≡ Some id → (q : Refusal) → Applies m q → ⊥
  no_form id e = (lowest_given.full m bytes).0 (named_full m id e)

  key_unnamed : (id : ℕ) → named m ≡ Some id → row_of b id ≡ None
      → KeyApplies b m UnknownSecret × NothingBelow (KeyApplies b m) (number_of UnknownSecret)
  key_unnamed id e f = (
    KeyApplies.no_row id e ((row_says.no_row b id).0 f),
    key_below b m (number_of UnknownSecret) s (λ q l. no_form id e q) (λ l. absurd (omega arith)),
  )

  key_none : (k : ℕ) → Names b m k → (n : ℕ) → NothingBelow (KeyApplies b m) n
  key_none k w n = key_below b m n s (λ q l. no_form w.id w.form q) (λ l. known)
    where
      known : (id : ℕ) → named m ≡ Some id → NoRow b id → ⊥
      known id e h =
          let i : w.id ≡ id = same_Some _ _ (sym w.form ∙ e) in
          none-some k (sym ((row_says.no_row b id).1 h) ∙ ap (row_of b) (sym i) ∙ w.secret)

  -- ---- the counter and the MAC

  -- a number that the key decides already
  by_key_lowest : (r : Refusal) → number_of r ≤ 10 → KeyApplies b m r × NothingBelow (KeyApplies b m) (number_of r) → Lowest (CheckApplies b m) (number_of r)
  by_key_lowest r small w =
      lowest (CheckApplies b m) (Some r) (by_key w.0, check_below b m (number_of r) w.1 (λ l. absurd (omega arith)) (λ l. absurd (omega arith)))

  module _ (c k : ℕ) (mac : List ℕ) (v : Claims b m c k mac) where
    key_claimed : (n : ℕ) → NothingBelow (KeyApplies b m) n
    key_claimed = key_none k (claims_names v)

    new_all : new_to b k c ≡ true → (d j : ℕ) (other : List ℕ) → Claims b m d j other → new_to b j d ≡ false → ⊥
    new_all new d j other w old =
        let e = same_claim b m c d k j mac other v w in
        true≢false (sym new ∙ sym (ap₂ (new_to b) e.1 e.0) ∙ old)

    right_all : mac ≡ hmac (key_of b k) (image_of m) → (d j : ℕ) (other : List ℕ) → Claims b m d j other → other ≢ hmac (key_of b j) (image_of m) → ⊥
    right_all right d j other w g =
        let e = same_claim b m c d k j mac other v w in
        g (e.2 ∙ right ∙ ap (λ (i : ℕ). hmac (key_of b i) (image_of m)) (sym e.1))

-- ---- at each end

module _ (b : Book) (m : List ℕ) (bytes : Bytes m) where
  key_lowest : (v : Result ℕ Refusal) → KeyEnd b m v → Lowest (KeyApplies b m) (result_number v)
  key_lowest v (key_unsound h) = lowest (KeyApplies b m) (Some UnsoundBook) (KeyApplies.not_sound h, nothing_first (KeyApplies b m))
  key_lowest v (key_refused {r} s e) = let w = key_form b m bytes s r e in lowest (KeyApplies b m) (Some r) (w.0, w.1)
  key_lowest v (key_unknown id s e f) = lowest (KeyApplies b m) (Some UnknownSecret) (key_unnamed b m bytes s id e f)
  key_lowest v (key_names {k} s w) = lowest (KeyApplies b m) None (nothing_below_any (KeyApplies b m) (key_none b m bytes s k w))

  check_lowest : (v : Result Accepted Refusal) → CheckEnd b m v → Lowest (CheckApplies b m) (result_number v)
  check_lowest v (check_unsound h) =
      lowest (CheckApplies b m) (Some UnsoundBook) (by_key (KeyApplies.not_sound h), nothing_first (CheckApplies b m))
  check_lowest v (check_refused {r} s e) = let w = key_form b m bytes s r e in by_key_lowest b m bytes s r (omega arith) (w.0, w.1)
  check_lowest v (check_unknown c id mac s e f) =
      by_key_lowest b m bytes s UnknownSecret (omega arith) (key_unnamed b m bytes s id (said_form m (says c id mac) e).name f)
  check_lowest v (check_replay c k mac s w h) =
      lowest (CheckApplies b m) (Some Replay)
      (not_new c k mac w h, check_below b m 11 (key_claimed b m bytes s c k mac w 11) (λ l. absurd (omega arith)) (λ l. absurd (omega arith)))
  check_lowest v (check_wrong c k mac s w h g) =
      lowest (CheckApplies b m) (Some WrongMac)
      (differs c k mac w g, check_below b m 12 (key_claimed b m bytes s c k mac w 12) (λ l. new_all b m bytes s c k mac w h) (λ l. absurd (omega arith)))
  check_lowest v (check_accepts {k} {c} s a) =
      let w = accepts_claims a in
      lowest (CheckApplies b m) None
      (nothing_below_any (CheckApplies b m) (λ n.
      check_below b m n (key_claimed b m bytes s c k a.mac w n)
      (λ l. new_all b m bytes s c k a.mac w a.new) (λ l. right_all b m bytes s c k a.mac w a.right)))

pub check_number : (b : Book) (m : List ℕ) → Bytes m → Lowest (CheckApplies b m) (result_number (check_of b m))
check_number b m bytes = check_lowest b m bytes (check_of b m) (check_end b m)

pub key_number_lem : (b : Book) (m : List ℕ) → Bytes m → Lowest (KeyApplies b m) (result_number (keyed_of b m))
key_number_lem b m bytes = key_lowest b m bytes (keyed_of b m) (key_end b m)

-- ---- what a refusal leaves

pub check_keeps : (v : Result Accepted Refusal) (marks received : List ℕ) → result_number v ≢ done
    → (marks_after v marks ≡ marks) × (received_after v received ≡ received)
check_keeps (Ok a) marks received h = absurd (h refl)
check_keeps (Err r) marks received h = (refl, refl)

pub key_empty : (b : Book) (v : Result ℕ Refusal) → result_number v ≢ done → (key_bytes b v ≡ []) × (key_offset v ≡ 0)
key_empty b (Ok k) h = absurd (h refl)
key_empty b (Err r) h = (refl, refl)
