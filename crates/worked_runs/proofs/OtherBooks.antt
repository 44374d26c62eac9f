-- Books that differ in what no answer depends on: the two rows in use are looked at one by one, and the row of secret A is row 0.
use mathlib.Core.Path.{◌≡◌, refl, sym, ap, ◌∙◌}
use mathlib.Core.List.{List, ◌++◌}
use Rattle.std.proofs.lemmas.Option.{same_Some}
use Prim.Native.Nat.{ℕ, zero, suc, ◌+◌, ◌*◌, ◌<◌}
use native.Mathlib.Omega.{arith}
use lib.ListN.{get_or}
use Rattle.key_book.specs.Book.{Book, Sound, row_of, key_of}
use Rattle.key_book.proofs.Says.{sound_says}
use Rattle.card_laws.specs.Laws.{SameRows}
use Rattle.demands.specs.Accepts.{Names}
use Rattle.demands.specs.Dependence.{SameSecrets, SameInUse}
use Rattle.worked_runs.specs.Crossed.{id_a, book, changed_b, auth_a, relay_info, plain}
use Rattle.worked_runs.specs.OtherBooks.{filled_with, OtherBooks}
use Rattle.demands.proofs.Computing.{computing}
use Rattle.worked_runs.proofs.Network.{◌and◌, each}
use Rattle.worked_runs.proofs.Crossed.{in_row, key_a, name_a}

filled_sound : (x : ℕ) → Sound (filled_with x)
unfolding computing
filled_sound x = (sound_says (filled_with x)).0 refl

module _ (x y : ℕ) where
  -- the bytes of the keys of both rows
  same_byte : (k i : ℕ) → k < 2 → i < get_or (filled_with x).lengths k 0
      → get_or (filled_with x).store (64 * k + i) 0 ≡ get_or (filled_with y).store (64 * k + i) 0
  same_byte zero i h l = each 4 (λ i. get_or (filled_with x).store (0 + i) 0 ≡ get_or (filled_with y).store (0 + i) 0)
      (refl and refl and refl and refl and tt) i l
  same_byte (suc zero) i h l =
      each 4 (λ i. get_or (filled_with x).store (64 + i) 0 ≡ get_or (filled_with y).store (64 + i) 0) (refl and refl and refl and refl and tt) i l
  same_byte (suc (suc k)) i h l = absurd (omega arith)

  -- both rows of a list
  both : (f : Book → List ℕ) → get_or (f (filled_with x)) 0 0 ≡ get_or (f (filled_with y)) 0 0 → get_or (f (filled_with x)) 1 0 ≡ get_or (f (filled_with y)) 1 0
      → (k : ℕ) → k < 2 → get_or (f (filled_with x)) k 0 ≡ get_or (f (filled_with y)) k 0
  both f p q = each 2 (λ k. get_or (f (filled_with x)) k 0 ≡ get_or (f (filled_with y)) k 0) (p and q and tt)

  in_use_lem : SameInUse (filled_with x) (filled_with y)
  in_use_lem = record {
    alike = record {
      ids_size = refl;
      lengths_size = refl;
      store_size = refl;
      marks_size = refl;
      received_size = refl;
      sent_size = refl;
      same_rows = refl;
      same_ids = both (λ b. b.ids) refl refl;
      same_lengths = both (λ b. b.lengths) refl refl;
      same_marks = both (λ b. b.marks) refl refl;
      same_fresh = λ k h _. both (λ b. b.received) refl refl k h;
    };
    bytes = same_byte;
    received = both (λ b. b.received) refl refl;
    sent = both (λ b. b.sent) refl refl;
  }

  on_card : SameRows (filled_with x) (filled_with y)
  on_card = record {
    same_count = refl;
    same_id = both (λ b. b.ids) refl refl;
    same_mark = both (λ b. b.marks) refl refl;
    same_received = both (λ b. b.received) refl refl;
    same_sent = both (λ b. b.sent) refl refl;
    same_key = λ k l. record { used = l; used_too = l; same_size = both (λ b. b.lengths) refl refl k l; same_bytes_lem = λ i h. same_byte k i l h };
  }

secrets : SameSecrets book changed_b
unfolding computing
secrets = record { soundness = refl; ids = refl }

-- a message that names secret A names row 0
of_named : (P : ℕ → Type 0) → P 0 → (k : ℕ) → Names book (plain (auth_a ++ relay_info)) k → P k
of_named P h k n =
    let same : id_a ≡ n.id = same_Some _ _ (sym name_a ∙ n.form) in
    in_row P h k (ap (row_of book) same ∙ n.secret)

pub other_books : OtherBooks
other_books = record {
  filled_sound = filled_sound;
  in_use_lem = in_use_lem;
  on_card = on_card;
  for_check = record {
    secrets = secrets;
    key = λ k s n. of_named (λ k. key_of book k ≡ key_of changed_b k) key_a k n;
    mark = λ k s n. of_named (λ k. get_or book.marks k 0 ≡ get_or changed_b.marks k 0) refl k n;
    received = λ k s n. of_named (λ k. get_or book.received k 0 ≡ get_or changed_b.received k 0) refl k n;
  };
  for_seal = record {
    secrets = secrets;
    key = λ k s e. in_row (λ k. key_of book k ≡ key_of changed_b k) key_a k e;
    sent = λ k s e. in_row (λ k. get_or book.sent k 0 ≡ get_or changed_b.sent k 0) refl k e;
  };
}
