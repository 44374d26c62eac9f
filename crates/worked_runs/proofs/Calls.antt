-- The three calls of `check_again` are a run, of which demand 3 speaks: what the first check accepts, the second refuses as a replay.
use mathlib.Core.Path.{◌≡◌, refl, ap, ◌∙◌}
use mathlib.Core.List.{List, [], ◌∷◌, map}
use Rattle.std.proofs.lemmas.Option.{same_Some}
use Prim.Native.Nat.{ℕ}
use native.Mathlib.Omega.{arith}
use Rattle.refusal.specs.Number.{number_of, done, result_number}
use Rattle.refusal.specs.declared.Refusal.TheVariants.{Replay}
use Rattle.refusal.proofs.Names.{numbers_tell}
use Rattle.dhcp_message.specs.Relay.{unchanged}
use Rattle.key_book.specs.Book.{Book, book_of, Sound}
use Rattle.delayed_auth.specs.Check.{check_of, marks_after, received_after}
use Rattle.delayed_auth.specs.Seal.{seal_of, sealing_of, message_after, sent_after}
use Rattle.demands.specs.Demand3.{check, seal, Answer, checked, book_after, answers, ending}
use Rattle.demands.proofs.Stages.{CheckEnd, check_accepts, check_end}
use Rattle.demands.proofs.Demand3.{demand_3}
use Rattle.worked_runs.specs.Calls.{alone, again, answer_number, buffer_of}
use Rattle.std.specs.Prelude.{Err, Ok, Result, Some, ℕ}
use Rattle.delayed_auth.specs.declared.Accepted.{Accepted}
use Rattle.refusal.specs.declared.Refusal.{Refusal}
use Rattle.delayed_auth.specs.Check.{accepting}

module _ (b : Book) (m : List ℕ) (id : ℕ) (n : List ℕ) where
  -- the verdict of the second check
  abbrev last : Result Accepted Refusal
  last = check_of (book_after (book_after b (check m)) (seal id n)) m

  accepted_first : (k c : ℕ) → Sound b → check_of b m ≡ accepting k c → result_number last ≡ number_of Replay
  unfolding again
  accepted_first k c s e =
      let answer = ap (λ (v : Result Accepted Refusal). Some (checked v)) e in
      let r = demand_3.no_replay (alone b) s (again m id n) 0 2 m m k c (omega arith) refl answer refl unchanged in
      let same : checked last ≡ checked r.0 = same_Some _ _ r.1 in
      ap answer_number same ∙ r.2

  pub replayed : result_number (check_of b m) ≡ done → result_number last ≡ number_of Replay
  replayed e = on (check_of b m) refl (check_end b m) e
    where
      on : (v : Result Accepted Refusal) → check_of b m ≡ v → CheckEnd b m v → result_number v ≡ done → result_number last ≡ number_of Replay
      on (Err r) g w h = let p = numbers_tell.not_done r in absurd (omega (arith, h))
      on (Ok got) g (check_accepts s a) h = accepted_first got.row got.counter s g

-- each call finds what the one before it left
module _
    (ids lengths store marks received sent : List ℕ) (rows : ℕ) (m : List ℕ) (id : ℕ) (n : List ℕ)
    (first second : Result Accepted Refusal) (sealing : Result ℕ Refusal) (marks₁ marks₂ received₁ received₂ sent₁ buffer : List ℕ) (p q r : ℕ)
    (first_is : first ≡ check_of (book_of ids lengths store marks received sent rows) m)
    (first_Marks : marks₁ ≡ marks_after (check_of (book_of ids lengths store marks received sent rows) m) marks)
    (first-stores : received₁ ≡ received_after (check_of (book_of ids lengths store marks received sent rows) m) received)
    (seal-is : sealing ≡ sealing_of (seal_of (book_of ids lengths store marks₁ received₁ sent rows) id n))
    (seal-leaves : buffer ≡ message_after (seal_of (book_of ids lengths store marks₁ received₁ sent rows) id n) n)
    (seal-stores : sent₁ ≡ sent_after (seal_of (book_of ids lengths store marks₁ received₁ sent rows) id n) sent)
    (second_is : second ≡ check_of (book_of ids lengths store marks₁ received₁ sent₁ rows) m)
    (second-marks : marks₂ ≡ marks_after (check_of (book_of ids lengths store marks₁ received₁ sent₁ rows) m) marks₁)
    (second-stores : received₂ ≡ received_after (check_of (book_of ids lengths store marks₁ received₁ sent₁ rows) m) received₁)
    (p-is : p ≡ result_number first) (q-is : q ≡ result_number sealing) (r-is : r ≡ result_number second)
  where
    abbrev b : Book
    b = book_of ids lengths store marks received sent rows

    abbrev run : List Answer
    run = answers (alone b) (again m id n)

    pub make_up :
        (p ∷ q ∷ r ∷ [] ≡ map answer_number run) × (buffer ≡ buffer_of run)
        × (marks₂ ≡ (ending (alone b) (again m id n)).book.marks) × (received₂ ≡ (ending (alone b) (again m id n)).book.received)
        × (sent₁ ≡ (ending (alone b) (again m id n)).book.sent) × (p ≡ done → r ≡ number_of Replay)
    unfolding again
    make_up =
        rw (p-is, q-is, r-is, second-marks, second-stores, second_is, seal-leaves, seal-is, seal-stores, first_is, first_Marks, first-stores)
        (refl, refl, refl, refl, refl, replayed b m id n)
