-- The ends of the key of a message, each as one case, and back. The only law file that unfolds `keyed_of` and its stage.
use mathlib.Core.Path.{◌≡◌, refl, sym, ap, ◌∙◌}
use mathlib.Core.List.{List}
use Prim.Native.Nat.{ℕ}
use native.Mathlib.Nat.{zero-add}
use Rattle.refusal.specs.declared.Refusal.{Refusal}
use Rattle.refusal.specs.declared.Refusal.TheVariants.{UnknownSecret}
use Rattle.dhcp_message.specs.Said.{Said, refused, says}
use Rattle.dhcp_message.specs.declared.Auth.{Auth}
use Rattle.key_book.specs.Book.{Book, row_of, moved_on}
use Rattle.delayed_auth.specs.Admit.{admitted_said, admitted_form}
use Rattle.delayed_auth.specs.Key.{keyed_said, keyed_of}
use Rattle.delayed_auth.proofs.Admits.{form_said_lem, RowFacts, said_facts}
use Rattle.std.specs.Prelude.{ok_or, Err, None, Ok, Option, Result, Some, ℕ}

pub data KeyCase (b : Book) (m : List ℕ) : Result ℕ Refusal → Type 0 where
  key_refused : {r : Refusal} → refused r ≡ admitted_said b m → KeyCase b m (Err r)
  key_unknown : {c id : ℕ} {mac : List ℕ} → says c id mac ≡ admitted_said b m → row_of b id ≡ None → KeyCase b m (Err UnknownSecret)
  key_row : {c id k : ℕ} {mac : List ℕ} → says c id mac ≡ admitted_said b m → row_of b id ≡ Some k → KeyCase b m (Ok k)

module _ (b : Book) (m : List ℕ) where
  pub key_case : KeyCase b m (keyed_of b m)
  unfolding keyed_of keyed_said
  key_case = on (admitted_said b m) refl
    where
      row : (c id : ℕ) (mac : List ℕ) → says c id mac ≡ admitted_said b m → (o : Option ℕ) → row_of b id ≡ o → KeyCase b m (ok_or o UnknownSecret)
      row c id mac e None f = key_unknown e f
      row c id mac e (Some k) f = key_row e f

      on : (x : Said) → x ≡ admitted_said b m → KeyCase b m (keyed_said b x)
      on (refused r) e = key_refused e
      on (says c id mac) e = row c id mac e (row_of b id) refl

  keyed_row_lem : (c id : ℕ) (mac : List ℕ) (o : Option ℕ) → says c id mac ≡ admitted_said b m → row_of b id ≡ o → ok_or o UnknownSecret ≡ keyed_of b m
  unfolding keyed_of keyed_said
  keyed_row_lem c id mac o e f = ap (λ (x : Option ℕ). ok_or x UnknownSecret) (sym f) ∙ ap (keyed_said b) e

  pub case_key : (v : Result ℕ Refusal) → KeyCase b m v → v ≡ keyed_of b m
  unfolding keyed_of keyed_said
  case_key v (key_refused {r} e) = ap (keyed_said b) e
  case_key v (key_unknown {c} {id} {mac} e f) = keyed_row_lem c id mac None e f
  case_key v (key_row {c} {id} {k} {mac} e f) = keyed_row_lem c id mac (Some k) e f

  -- by the form
  pub form_keyed : (r : Refusal) → Err r ≡ admitted_form b m → Err r ≡ keyed_of b m
  form_keyed r e = case_key (Err r) (key_refused (form_said_lem b m (Err r) e))

  pub row_keyed : (a : Auth) → Ok a ≡ admitted_form b m → (o : Option ℕ) → row_of b a.id ≡ o → ok_or o UnknownSecret ≡ keyed_of b m
  row_keyed a full o e = keyed_row_lem a.counter a.id _ o (form_said_lem b m (Ok a) full) e

  pub keyed_facts : (k : ℕ) → Ok k ≡ keyed_of b m → RowFacts b k
  keyed_facts k e = on (rw (← e) at key_case)
    where
      on : KeyCase b m (Ok k) → RowFacts b k
      on (key_row {c} {id} {k} {mac} e f) = said_facts b m c id k mac e f

-- a pointer moved no byte on is the pointer
pub moved_none : (p : ℕ × ℕ) → p ≡ moved_on p 0
moved_none p = λ i. (p.0, sym (zero-add p.1) i)
