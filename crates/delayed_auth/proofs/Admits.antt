-- 1 to 9, once for check, key and seal: what is admitted, by whether the book is sound; and what is known of a row found on a sound book.
-- The only law file that unfolds `admitted_said` and `admitted_form`.
use mathlib.Core.Path.{◌≡◌, refl, sym, ap, ◌∙◌}
use mathlib.Core.Bool.{Bool, true, false, cond}
use mathlib.Core.List.{List}
use Prim.Native.Nat.{ℕ, ◌*◌, ◌≤◌, ◌<◌}
use native.Mathlib.Omega.{arith}
use lib.ListN.{length}
use Rattle.refusal.specs.declared.Refusal.TheVariants.{UnsoundBook}
use Rattle.hmac_md5.specs.Hmac.{key_most}
use Rattle.dhcp_message.specs.Said.{Said, refused, says, said_of, form_of, form_says}
use Rattle.dhcp_message.specs.declared.Auth.{Auth}
use Rattle.dhcp_message.proofs.Seals.{form_says_lem}
use Rattle.key_book.specs.Limits.{slot_size, room_most}
use Rattle.key_book.specs.Book.{Book, sound, row_of, key_of, key_start}
use Rattle.key_book.proofs.Says.{sound_says, row_says, rows_within, key_says}
use Rattle.delayed_auth.specs.Admit.{admitted_said, admitted_form}
use Rattle.std.specs.Prelude.{Err, Ok, Result, Some}
use Rattle.refusal.specs.declared.Refusal.{Refusal}

-- ---- 1 to 9

-- of what a message gives: that, where the book is sound, else the refusal of a book that is not
pub data AdmitCase {A : Type 0} (b : Book) (given refusal : A) : A → Type 0 where
  unsound_book : sound b ≡ false → AdmitCase b given refusal refusal
  sound_book : {x : A} → sound b ≡ true → given ≡ x → AdmitCase b given refusal x

module _ {A : Type 0} (b : Book) (given refusal : A) where
  case_admitted : (x : A) → AdmitCase b given refusal x → x ≡ cond (sound b) given refusal
  case_admitted x (unsound_book s) = rw s
  case_admitted x (sound_book s e) = rw (s, e)

  admitted_case : (x : A) → x ≡ cond (sound b) given refusal → AdmitCase b given refusal x
  admitted_case x e = on (sound b) refl e
    where
      on : (t : Bool) → sound b ≡ t → x ≡ cond t given refusal → AdmitCase b given refusal x
      on true s e = sound_book s (sym e)
      on false s e = rw e (unsound_book s)

module _ (b : Book) (m : List ℕ) where
  abbrev pub SaidCase : Said → Type 0
  SaidCase x = AdmitCase b (said_of m) (refused UnsoundBook) x

  pub case_said : (x : Said) → SaidCase x → x ≡ admitted_said b m
  unfolding admitted_said
  case_said = case_admitted b (said_of m) (refused UnsoundBook)

  pub said_case : (x : Said) → x ≡ admitted_said b m → SaidCase x
  unfolding admitted_said
  said_case = admitted_case b (said_of m) (refused UnsoundBook)

  abbrev pub FormCase : Result Auth Refusal → Type 0
  FormCase f = AdmitCase b (form_of m) (Err UnsoundBook) f

  pub case_form : (f : Result Auth Refusal) → FormCase f → f ≡ admitted_form b m
  unfolding admitted_form
  case_form = case_admitted b (form_of m) (Err UnsoundBook)

  pub form_case : (f : Result Auth Refusal) → f ≡ admitted_form b m → FormCase f
  unfolding admitted_form
  form_case = admitted_case b (form_of m) (Err UnsoundBook)

  -- what is said is what the form says
  pub form_said_lem : (f : Result Auth Refusal) → f ≡ admitted_form b m → form_says m f ≡ admitted_said b m
  form_said_lem f e = case_said (form_says m f) (on f (form_case f e))
    where
      on : (f : Result Auth Refusal) → FormCase f → SaidCase (form_says m f)
      on f (unsound_book s) = unsound_book s
      on f (sound_book s e) = sound_book s (form_says_lem.said m ∙ ap (form_says m) e)

  -- whoever passes is on a sound book
  pub full_passed : (a : Auth) → Ok a ≡ admitted_form b m → (sound b ≡ true) × (form_of m ≡ Ok a)
  full_passed a e = on (form_case (Ok a) e)
    where
      on : FormCase (Ok a) → (sound b ≡ true) × (form_of m ≡ Ok a)
      on (sound_book s f) = (s, f)

-- ---- a row that was found on a sound book

pub record RowFacts (b : Book) (k : ℕ) : Type 0 where
  pub few : k < room_most
  pub in_marks : k < length b.marks
  pub in_received : k < length b.received
  pub in_sent : k < length b.sent
  pub key_short : length (key_of b k) ≤ key_most
  pub key_start_lem : key_start b.store b.lengths k ≡ slot_size * k
  pub slot_inside : slot_size * k ≤ length b.store

pub row_facts : (b : Book) (id k : ℕ) → sound b ≡ true → row_of b id ≡ Some k → RowFacts b k
row_facts b id k s e =
    let w = (sound_says b).0 s in
    let u = ((row_says.row b id k).0 e).used in
    let i = rows_within b w k u in
    let q = key_says b w k u in
    record {
      few = omega (arith, i.in_ids, w.sizes.room);
      in_marks = i.in_marks;
      in_received = i.in_received;
      in_sent = i.in_sent;
      key_short = omega (arith, q.to_slot);
      key_start_lem = q.start;
      slot_inside = omega (arith, i.in_ids, w.sizes.store_agrees);
    }

pub said_facts : (b : Book) (m : List ℕ) (c id k : ℕ) (mac : List ℕ) → says c id mac ≡ admitted_said b m → row_of b id ≡ Some k → RowFacts b k
said_facts b m c id k mac e f = on (said_case b m (says c id mac) e)
  where
    on : SaidCase b m (says c id mac) → RowFacts b k
    on (sound_book s g) = row_facts b id k s f
