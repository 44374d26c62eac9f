-- What the stages need of the crates below: a MAC's size, and how a message's form, what it says and the secret that it names hang together.
use mathlib.Core.Path.{◌≡◌, refl, sym, ap, ◌∙◌}
use mathlib.Core.List.{List}
use Rattle.std.proofs.lemmas.Option.{none-some, same_Some}
use Prim.Native.Nat.{ℕ}
use native.Mathlib.Omega.{arith}
use Rattle.dhcp_message.specs.Said.{Said, refused, says, said_of, named, form_of, form_says, form_names}
use Rattle.dhcp_message.specs.declared.Auth.{Auth}
use Rattle.dhcp_message.proofs.Seals.{form_says_lem}
use Rattle.std.specs.Prelude.{Err, Ok, Result, Some}
use Rattle.refusal.specs.declared.Refusal.{Refusal}

pub never : {X : Type 0} → ◌≡◌ {A = ℕ} 0 1 → X
never e = absurd (omega arith)

-- ---- a message's form, by what it says

pub record FullSaid (m : List ℕ) (c id : ℕ) : Type 0 where
  pub auth : Auth
  pub form : form_of m ≡ Ok auth
  pub counter : auth.counter ≡ c
  pub name : named m ≡ Some id

abbrev pub FormFor : List ℕ → Said → Type 0
FormFor m (refused r) = form_of m ≡ Err r
FormFor m (says c id mac) = FullSaid m c id

pub said_form : (m : List ℕ) (x : Said) → said_of m ≡ x → FormFor m x
said_form m x e = by (form_of m) refl x (sym e ∙ form_says_lem.said m)
  where
    by : (f : Result Auth Refusal) → form_of m ≡ f → (x : Said) → x ≡ form_says m f → FormFor m x
    by (Err r) g (refused q) h = let r-is : r ≡ q = cc in g ∙ ap Err r-is
    by (Err r) g (says c id mac) h = never cc
    by (Ok a) g (refused q) h = never cc
    by (Ok a) g (says c id mac) h =
        let id_is : a.id ≡ id = cc in
        record { auth = a; form = g; counter = cc; name = form_says_lem.name m ∙ ap form_names g ∙ ap Some id_is }

-- a message that names a secret is in full form
pub named_full : (m : List ℕ) (id : ℕ) → named m ≡ Some id → (a : Auth) × (form_of m ≡ Ok a)
named_full m id e = by (form_of m) refl (sym e ∙ form_says_lem.name m)
  where
    by : (f : Result Auth Refusal) → form_of m ≡ f → Some id ≡ form_names f → (a : Auth) × (form_of m ≡ Ok a)
    by (Err r) g h = absurd (none-some id (sym h))
    by (Ok a) g h = (a, g)

pub named_says : (m : List ℕ) (id : ℕ) → named m ≡ Some id → (c : ℕ) × (mac : List ℕ) × (said_of m ≡ says c id mac)
named_says m id e = by (said_of m) refl
  where
    by : (x : Said) → said_of m ≡ x → (c : ℕ) × (mac : List ℕ) × (said_of m ≡ says c id mac)
    by (refused r) f = absurd (none-some id (sym (form_says_lem.name m ∙ ap form_names (said_form m (refused r) f)) ∙ e))
    by (says c j mac) f =
        let same : j ≡ id = same_Some _ _ (sym (said_form m (says c j mac) f).name ∙ e) in
        (c, mac, f ∙ ap (λ (x : ℕ). says c x mac) same)
