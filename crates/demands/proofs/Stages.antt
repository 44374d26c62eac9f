-- The ends of a check, of the key of a message and of a seal in the demands' words: what is so where the answer is this one (`check_end`), and that
-- the answer is this one where that is so (`end_check`). All else in this crate goes by these laws; the definitions are unfolded in delayed_auth.
use mathlib.Core.Path.{◌≡◌, refl, sym, ◌∙◌}
use mathlib.Core.Logic.{◌≢◌}
use mathlib.Core.Bool.{Bool, true, false}
use mathlib.Core.List.{List, ◌++◌}
use Prim.Native.Nat.{ℕ, ◌+◌}
use lib.ListN.{get_or}
use Rattle.refusal.specs.declared.Refusal.{Refusal}
use Rattle.refusal.specs.declared.Refusal.TheVariants.{UnsoundBook, UnknownSecret, Replay, WrongMac, CounterSpent}
use Rattle.octets.specs.Bytes.{zeros}
use Rattle.hmac_md5.specs.Hmac.{hmac}
use Rattle.dhcp_message.specs.Layout.{mac_size}
use Rattle.dhcp_message.specs.Said.{Said, refused, says, said_of, named, form_of}
use Rattle.dhcp_message.specs.Image.{image_of}
use Rattle.dhcp_message.specs.Seal.{fields, sealed_with}
use Rattle.dhcp_message.specs.declared.Auth.{Auth}
use Rattle.key_book.specs.Book.{Book, Sound, sound, row_of, key_of}
use Rattle.key_book.proofs.Says.{sound_says}
use Rattle.delayed_auth.specs.Admit.{admitted_said, admitted_form}
use Rattle.delayed_auth.specs.Key.{keyed_of}
use Rattle.delayed_auth.specs.Check.{new_to, check_of}
use Rattle.delayed_auth.specs.Seal.{counter_most, Outcome, sealed, unsealed, outcome_by, plan_of, seal_of}
use Rattle.delayed_auth.proofs.Admits.{unsound_book, sound_book, SaidCase, case_said, said_case, FormCase, case_form, form_case}
use Rattle.delayed_auth.proofs.Judging as judging
use Rattle.delayed_auth.proofs.Naming as naming
use Rattle.delayed_auth.proofs.Plans.{PlanCase, plan_refused, plan_unknown, plan_spent, plan_ready, plan_case, case_plan, seal_planned}
use Rattle.delayed_auth.proofs.Writers.{sealed_message_lem}
use Rattle.demands.specs.Accepts.{Accepts, Names}
use Rattle.demands.specs.Demand1.{Claims}
use Rattle.demands.proofs.Below.{never, said_form, named_says}
use Rattle.std.specs.Prelude.{Err, None, Ok, Result, Some, ℕ}
use Rattle.delayed_auth.specs.declared.Accepted.{Accepted}
use Rattle.delayed_auth.specs.Check.{accepting}

-- ---- 1 to 9: what a message says, and its form, on a sound book and on one that is not

module _ (b : Book) where
  not_sound : sound b ≡ false → Sound b → ⊥
  not_sound e s = let t = (sound_says b).1 s in never cc

  unsound : (Sound b → ⊥) → sound b ≡ false
  unsound h = on (sound b) refl
    where
      on : (t : Bool) → sound b ≡ t → t ≡ false
      on true e = absurd (h ((sound_says b).0 e))
      on false e = refl

  module _ (m : List ℕ) where
    tell_unsound : (Sound b → ⊥) → refused UnsoundBook ≡ admitted_said b m
    tell_unsound h = case_said b m _ (unsound_book (unsound h))

    tell : (x : Said) → Sound b → said_of m ≡ x → x ≡ admitted_said b m
    tell x s e = case_said b m x (sound_book ((sound_says b).1 s) e)

    told : (c id : ℕ) (mac : List ℕ) → says c id mac ≡ admitted_said b m → Sound b × (said_of m ≡ says c id mac)
    told c id mac e = on (said_case b m (says c id mac) e)
      where
        on : SaidCase b m (says c id mac) → Sound b × (said_of m ≡ says c id mac)
        on (sound_book s f) = ((sound_says b).0 s, f)

    tell_form : (f : Result Auth Refusal) → Sound b → form_of m ≡ f → f ≡ admitted_form b m
    tell_form f s e = case_form b m f (sound_book ((sound_says b).1 s) e)

    told_form : (a : Auth) → Ok a ≡ admitted_form b m → Sound b × (form_of m ≡ Ok a)
    told_form a e = on (form_case b m (Ok a) e)
      where
        on : FormCase b m (Ok a) → Sound b × (form_of m ≡ Ok a)
        on (sound_book s f) = ((sound_says b).0 s, f)

-- ---- a check

pub data CheckEnd (b : Book) (m : List ℕ) : Result Accepted Refusal → Type 0 where
  check_unsound : (Sound b → ⊥) → CheckEnd b m (Err UnsoundBook)
  check_refused : {r : Refusal} → Sound b → said_of m ≡ refused r → CheckEnd b m (Err r)
  check_unknown : (c id : ℕ) (mac : List ℕ) → Sound b → said_of m ≡ says c id mac → row_of b id ≡ None → CheckEnd b m (Err UnknownSecret)
  check_replay : (c k : ℕ) (mac : List ℕ) → Sound b → Claims b m c k mac → new_to b k c ≡ false → CheckEnd b m (Err Replay)
  check_wrong : (c k : ℕ) (mac : List ℕ) → Sound b → Claims b m c k mac → new_to b k c ≡ true → mac ≢ hmac (key_of b k) (image_of m)
      → CheckEnd b m (Err WrongMac)
  check_accepts : {k c : ℕ} → Sound b → Accepts b m k c → CheckEnd b m (accepting k c)

module _ (b : Book) (m : List ℕ) where
  pub check_end : CheckEnd b m (check_of b m)
  check_end = on (check_of b m) (judging.check_case b m)
    where
      early : (r : Refusal) → SaidCase b m (refused r) → CheckEnd b m (Err r)
      early r (unsound_book s) = check_unsound (not_sound b s)
      early r (sound_book s e) = check_refused ((sound_says b).0 s) e

      on : (v : Result Accepted Refusal) → judging.CheckCase b m v → CheckEnd b m v
      on v (judging.check_refused {r} e) = early r (said_case b m (refused r) e)
      on v (judging.check_unknown {c} {id} {mac} e f) = let w = told b m c id mac e in check_unknown c id mac w.0 w.1 f
      on v (judging.check_replay {c} {id} {k} {mac} e f h) =
          let w = told b m c id mac e in
          check_replay c k mac w.0 (record { id = id; form = w.1; secret = f }) h
      on v (judging.check_wrong {c} {id} {k} {mac} e f h g) =
          let w = told b m c id mac e in
          check_wrong c k mac w.0 (record { id = id; form = w.1; secret = f }) h g
      on v (judging.check_accepts {c} {id} {k} {mac} e f h g) =
          let w = told b m c id mac e in
          check_accepts w.0 (record { id = id; mac = mac; form = w.1; secret = f; new = h; right = g })

  pub end_check : (v : Result Accepted Refusal) → CheckEnd b m v → check_of b m ≡ v
  end_check v e = sym (judging.case_check b m v (on v e))
    where
      on : (v : Result Accepted Refusal) → CheckEnd b m v → judging.CheckCase b m v
      on v (check_unsound h) = judging.check_refused (tell_unsound b m h)
      on v (check_refused {r} s e) = judging.check_refused (tell b m (refused r) s e)
      on v (check_unknown c id mac s e f) = judging.check_unknown (tell b m (says c id mac) s e) f
      on v (check_replay c k mac s w h) = judging.check_replay (tell b m (says c w.id mac) s w.form) w.secret h
      on v (check_wrong c k mac s w h g) = judging.check_wrong (tell b m (says c w.id mac) s w.form) w.secret h g
      on v (check_accepts {k} {c} s a) = judging.check_accepts (tell b m (says c a.id a.mac) s a.form) a.secret a.new a.right

  pub accepted_accepts : (k c : ℕ) → check_of b m ≡ accepting k c → Accepts b m k c
  accepted_accepts k c e = on (rw e at check_end)
    where
      on : CheckEnd b m (accepting k c) → Accepts b m k c
      on (check_accepts s a) = a

-- what is accepted is claimed, and a message that claims a counter and a MAC at a row names its secret
pub accepts_claims : {b : Book} {m : List ℕ} {k c : ℕ} → (a : Accepts b m k c) → Claims b m c k a.mac
accepts_claims a = record { id = a.id; form = a.form; secret = a.secret }

pub claims_names : {b : Book} {m : List ℕ} {c k : ℕ} {mac : List ℕ} → Claims b m c k mac → Names b m k
claims_names {m = m} {c = c} {mac = mac} w = record { id = w.id; form = (said_form m (says c w.id mac) w.form).name; secret = w.secret }

-- ---- the key of a message

pub data KeyEnd (b : Book) (m : List ℕ) : Result ℕ Refusal → Type 0 where
  key_unsound : (Sound b → ⊥) → KeyEnd b m (Err UnsoundBook)
  key_refused : {r : Refusal} → Sound b → said_of m ≡ refused r → KeyEnd b m (Err r)
  key_unknown : (id : ℕ) → Sound b → named m ≡ Some id → row_of b id ≡ None → KeyEnd b m (Err UnknownSecret)
  key_names : {k : ℕ} → Sound b → Names b m k → KeyEnd b m (Ok k)

module _ (b : Book) (m : List ℕ) where
  pub key_end : KeyEnd b m (keyed_of b m)
  key_end = on (keyed_of b m) (naming.key_case b m)
    where
      early : (r : Refusal) → SaidCase b m (refused r) → KeyEnd b m (Err r)
      early r (unsound_book s) = key_unsound (not_sound b s)
      early r (sound_book s e) = key_refused ((sound_says b).0 s) e

      on : (v : Result ℕ Refusal) → naming.KeyCase b m v → KeyEnd b m v
      on v (naming.key_refused {r} e) = early r (said_case b m (refused r) e)
      on v (naming.key_unknown {c} {id} {mac} e f) =
          let w = told b m c id mac e in
          key_unknown id w.0 (said_form m (says c id mac) w.1).name f
      on v (naming.key_row {c} {id} {k} {mac} e f) =
          let w = told b m c id mac e in
          key_names w.0 (record { id = id; form = (said_form m (says c id mac) w.1).name; secret = f })

  pub end_key : (v : Result ℕ Refusal) → KeyEnd b m v → keyed_of b m ≡ v
  end_key v e = sym (naming.case_key b m v (on v e))
    where
      on : (v : Result ℕ Refusal) → KeyEnd b m v → naming.KeyCase b m v
      on v (key_unsound h) = naming.key_refused (tell_unsound b m h)
      on v (key_refused {r} s e) = naming.key_refused (tell b m (refused r) s e)
      on v (key_unknown id s e f) = let w = named_says m id e in naming.key_unknown (tell b m (says w.0 id w.1) s w.2) f
      on v (key_names s n) = let w = named_says m n.id n.form in naming.key_row (tell b m (says w.0 n.id w.1) s w.2) n.secret

  pub keyed_names : (k : ℕ) → keyed_of b m ≡ Ok k → Names b m k
  keyed_names k e = on (rw e at key_end)
    where
      on : KeyEnd b m (Ok k) → Names b m k
      on (key_names s w) = w

-- ---- a seal

-- what a sealing says of each stage
pub record SealedBy (b : Book) (id : ℕ) (m : List ℕ) (k c : ℕ) (n : List ℕ) : Type 0 where
  pub auth : Auth
  pub form : form_of m ≡ Ok auth
  pub secret : row_of b id ≡ Some k
  pub unspent : get_or b.sent k 0 ≢ counter_most
  pub next : c ≡ get_or b.sent k 0 + 1
  -- the MAC is that of the image with counter and id written, and zeros in the MAC's place
  pub message : n ≡ sealed_with auth (fields c id ++ hmac (key_of b k) (image_of (sealed_with auth (fields c id ++ zeros mac_size) m))) m

pub data SealEnd (b : Book) (id : ℕ) (m : List ℕ) : Outcome → Type 0 where
  seal_unsound : (Sound b → ⊥) → SealEnd b id m (unsealed UnsoundBook)
  seal_refused : {r : Refusal} → Sound b → form_of m ≡ Err r → SealEnd b id m (unsealed r)
  seal_unknown : (a : Auth) → Sound b → form_of m ≡ Ok a → row_of b id ≡ None → SealEnd b id m (unsealed UnknownSecret)
  seal_spent : (a : Auth) (k : ℕ) → Sound b → form_of m ≡ Ok a → row_of b id ≡ Some k → get_or b.sent k 0 ≡ counter_most
      → SealEnd b id m (unsealed CounterSpent)
  seal_seals : {k c : ℕ} {n : List ℕ} → Sound b → SealedBy b id m k c n → SealEnd b id m (sealed k c n)

module _ (b : Book) (id : ℕ) (m : List ℕ) where
  pub seal_end : SealEnd b id m (seal_of b id m)
  seal_end = rw (← (seal_planned b id m (plan_of b id m) refl)) (on (plan_of b id m) (plan_case b id m))
    where
      early : (r : Refusal) → FormCase b m (Err r) → SealEnd b id m (unsealed r)
      early r (unsound_book s) = seal_unsound (not_sound b s)
      early r (sound_book s e) = seal_refused ((sound_says b).0 s) e

      on : (p : _) → PlanCase b id m p → SealEnd b id m (outcome_by b id m p)
      on p (plan_refused {r} e) = early r (form_case b m (Err r) e)
      on p (plan_unknown {a} e f) = let w = told_form b m a e in seal_unknown a w.0 w.1 f
      on p (plan_spent {a} {k} e f h) = let w = told_form b m a e in seal_spent a k w.0 w.1 f h
      on p (plan_ready {a} {k} e f h) =
          let w = told_form b m a e in
          seal_seals w.0 (record { auth = a; form = w.1; secret = f; unspent = h; next = refl; message = sealed_message_lem (key_of b k) m a _ id })

  planned : {p : _} → PlanCase b id m p → seal_of b id m ≡ outcome_by b id m p
  planned {p} c = sym (seal_planned b id m p (case_plan b id m p c))

  pub end_seal : (o : Outcome) → SealEnd b id m o → seal_of b id m ≡ o
  end_seal o (seal_unsound h) = planned (plan_refused (case_form b m _ (unsound_book (unsound b h))))
  end_seal o (seal_refused {r} s e) = planned (plan_refused (tell_form b m (Err r) s e))
  end_seal o (seal_unknown a s e f) = planned (plan_unknown (tell_form b m (Ok a) s e) f)
  end_seal o (seal_spent a k s e f h) = planned (plan_spent (tell_form b m (Ok a) s e) f h)
  end_seal o (seal_seals {k} {c} {n} s w) =
      planned (plan_ready (tell_form b m (Ok w.auth) s w.form) w.secret w.unspent)
      ∙ rw (sealed_message_lem (key_of b k) m w.auth (get_or b.sent k 0 + 1) id, w.message, w.next)

  pub sealed_by : (k c : ℕ) (n : List ℕ) → seal_of b id m ≡ sealed k c n → SealedBy b id m k c n
  sealed_by k c n e = on (rw e at seal_end)
    where
      on : SealEnd b id m (sealed k c n) → SealedBy b id m k c n
      on (seal_seals s w) = w
