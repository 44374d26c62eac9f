-- The book against its history, proved. One step adds a counter that is new to the row to the accepted ones, stores it and marks the row heard, or adds
-- none and leaves the row; so along a run the row is heard with the last of them, or as it was. That other secrets are not seen is proofs/Runs.antt for
-- two starts, and the channels of a secret say nothing of the server rows.
use mathlib.Core.Path.{◌≡◌, refl, sym, ap, subst, ◌∙◌}
use mathlib.Core.Logic.{◌≢◌}
use mathlib.Core.Bool.{true}
use Rattle.std.proofs.lemmas.Option.{none-some, same_Some}
use mathlib.Core.List.{List, [], ◌∷◌, ◌++◌}
use Prim.Native.Nat.{ℕ, zero, suc, ◌+◌, ◌≤◌, ◌<◌}
use native.Mathlib.Decide.{ℕ_discrete}
use native.Mathlib.Omega.{arith}
use borrow.Author.Tests.{eq-eqb, ne_eqb}
use lib.Dec.{eqb}
use lib.ListN.{length, get_or}
use lib.Seq.{get_or-set_same, get_or-set_other}
use Rattle.refusal.specs.declared.Refusal.{Refusal}
use Rattle.dhcp_message.specs.Said.{named}
use Rattle.dhcp_message.proofs.Replays.{above_new, new_above}
use Rattle.key_book.specs.Limits.{heard}
use Rattle.key_book.specs.Book.{Book, Sound, row_of}
use Rattle.key_book.proofs.Says.{row_says, rows_within}
use Rattle.delayed_auth.specs.Seal.{Outcome, sealed, unsealed, seal_of, sealing_of, sent_after}
use Rattle.demands.specs.Demand3.{Step, check, seal, judge, State, book_after, state_after, ending, same}
use Rattle.demands.specs.History.{counter_if, one_if, accepted_at, done_at, accepted_in, seals_in, RisesFrom, RisesNew, Greatest}
use Rattle.demands.specs.History.{Concerns, names_it, under_it, OnlyOthersDiffer, SameFor, History}
use Rattle.demands.proofs.Stages.{sealed_by}
use Rattle.demands.proofs.Runs.{same_answer, same_ends}
use Rattle.demands.proofs.Steps.{hearing, new_with, Hears, refuses, elsewhere, here, hears, step_sound}
use Rattle.demands.proofs.Steps.{SameIds, ids_refl, step_keeps, row_kept, single}
use Rattle.demands.proofs.ByRow.{walk, Channel, channel?, receives, sends, holds, Alike, alike, channel, check_channel, seal_channel, local}
use Rattle.std.specs.Prelude.{Err, None, Option, Result, Some, slice_get}
use Rattle.delayed_auth.specs.declared.Accepted.{Accepted}

-- ---- what a step does to what was heard in a row, x, that it leaves as y: it adds these to the accepted ones

data Adds (x y : ℕ × ℕ) : List ℕ → Type 0 where
  nothing : y ≡ x → Adds x y []
  stored : (c : ℕ) → new_with x c ≡ true → y ≡ (heard, c) → Adds x y (c ∷ [])

-- what was heard after all of them: the last one, or x where there is none
last_from : ℕ × ℕ → List ℕ → ℕ × ℕ
last_from x [] = x
last_from x (c ∷ cs) = last_from (heard, c) cs

-- they rise, the first being new to x
abbrev Rising : ℕ × ℕ → List ℕ → Type 0
Rising x cs = RisesNew (eqb x.0 heard) x.1 cs

-- what is new to a heard row is above its counter
rises_above : (n : ℕ) (cs : List ℕ) → Rising (heard, n) cs → RisesFrom n cs
rises_above n [] h = tt
rises_above n (c ∷ cs) h = (above_new n c h.0, h.1)

rises_on : (x y : ℕ × ℕ) (cs rest : List ℕ) → Adds x y cs → Rising y rest → Rising x (cs ++ rest)
rises_on x y cs rest (nothing e) h = subst (λ (z : ℕ × ℕ). Rising z rest) e h
rises_on x y cs rest (stored c l e) h = (l, rises_above c rest (subst (λ (z : ℕ × ℕ). Rising z rest) e h))

last_on : (x y : ℕ × ℕ) (cs rest : List ℕ) → Adds x y cs → last_from y rest ≡ last_from x (cs ++ rest)
unfolding last_from
last_on x y cs rest (nothing e) = ap (λ (z : ℕ × ℕ). last_from z rest) e
last_on x y cs rest (stored c l e) = ap (λ (z : ℕ × ℕ). last_from z rest) e

-- where there is one, the row is heard
last_heard : (x : ℕ × ℕ) (c : ℕ) (cs : List ℕ) → (last_from x (c ∷ cs)).0 ≡ heard
unfolding last_from
last_heard x c [] = refl
last_heard x c (d ∷ ds) = last_heard (heard, c) d ds

-- of rising ones the last is the greatest
greatest : (x : ℕ × ℕ) (c : ℕ) (cs : List ℕ) → Rising x (c ∷ cs) → Greatest (last_from x (c ∷ cs)).1 (c ∷ cs)
unfolding last_from
greatest x c [] h = record { place = 0; among = refl; none_greater = only }
  where
    only : (i d : ℕ) → slice_get (c ∷ []) i ≡ Some d → d ≤ c
    only zero d e = omega (arith, same_Some c d e)
    only (suc i) d e = absurd (none-some d e)
greatest x c (d ∷ ds) h = later (greatest (heard, c) d ds (new_above c d true h.1.0, h.1.1))
  where
    later : Greatest (last_from (heard, c) (d ∷ ds)).1 (d ∷ ds) → Greatest (last_from x (c ∷ d ∷ ds)).1 (c ∷ d ∷ ds)
    later w = record { place = suc w.place; among = w.among; none_greater = most }
      where
        most : (i y : ℕ) → slice_get (c ∷ d ∷ ds) i ≡ Some y → y ≤ (last_from x (c ∷ d ∷ ds)).1
        most zero y e = omega (arith, same_Some c y e, h.1.0, w.none_greater 0 d refl)
        most (suc i) y e = w.none_greater i y e

-- ---- one step, for the secret in row k

-- a check that is refused adds none
refused_none : (id : ℕ) (o : Option ℕ) (r : Refusal) → counter_if id o (Err r) ≡ []
refused_none id None r = refl
refused_none id (Some j) r = refl

module _ (id k : ℕ) where
  step_received : (b : Book) (s : Step) → Sound b → row_of b id ≡ Some k → Adds (hearing k b) (hearing k (book_after b s)) (accepted_at id b s)
  step_received b (seal j m) s row = nothing refl
  step_received b (judge j m) s row = nothing refl
  step_received b (check m) s row = on (hears b s m k)
    where
      on : {v : Result Accepted Refusal} {x : ℕ × ℕ} → Hears b m k v x → Adds (hearing k b) x (counter_if id (named m) v)
      on (refuses {r}) = rw (refused_none id (named m) r) (nothing refl)
      on (elsewhere w n) =
          let other : w.id ≢ id = λ e. n (same_Some _ _ (sym w.secret ∙ ap (row_of b) e ∙ row)) in
          rw (w.form, ne_eqb w.id id other) (nothing refl)
      on (here {c} w new) = rw (w.form, eq-eqb w.id id (single b w.id id k w.secret row)) (stored c new refl)

  step_sent : (b : Book) (s : Step) → Sound b → row_of b id ≡ Some k → get_or (book_after b s).sent k 0 ≡ get_or b.sent k 0 + done_at id b s
  step_sent b (check m) s row = omega arith
  step_sent b (judge j m) s row = omega arith
  step_sent b (seal j m) s row = on (seal_of b j m) refl
    where
      on : (o : Outcome) → seal_of b j m ≡ o → get_or (sent_after o b.sent) k 0 ≡ get_or b.sent k 0 + one_if id j (sealing_of o)
      on (unsealed r) e = omega arith
      on (sealed r c n) e =
          let w = sealed_by b j m r c n e in
          elim (ℕ_discrete j id) [
            | yes g ↦
                let here : r ≡ k = same_Some _ _ (sym w.secret ∙ ap (row_of b) g ∙ row) in
                let inside = (rows_within b s k ((row_says.row b id k).0 row).used).in_sent in
                rw (eq-eqb j id g, here, get_or-set_same b.sent k c 0 inside) (w.next ∙ ap (λ (x : ℕ). get_or b.sent x 0 + 1) here)
            | no g ↦ rw (ne_eqb j id g, get_or-set_other b.sent r k c 0 (λ h. g (single b j id k (rw h w.secret) row))) (omega arith)
          ]

  -- ---- and a run

  row_after : (b : Book) (x : Step) → Sound b → row_of b id ≡ Some k → row_of (book_after b x) id ≡ Some k
  row_after b x s row = row_kept b (book_after b x) (step_keeps b b x (ids_refl b s)) id ∙ row

  rising : (b : State) (run : List Step) → Sound b.book → row_of b.book id ≡ Some k → Rising (hearing k b.book) (accepted_in id b run)
  rising b [] s row = tt
  rising b (x ∷ run) s row =
      rises_on _ _ (accepted_at id b.book x) _ (step_received b.book x s row)
      (rising (state_after b x) run (step_sound b.book s x) (row_after b.book x s row))

  ends_last : (b : State) (run : List Step) → Sound b.book → row_of b.book id ≡ Some k
      → hearing k (ending b run).book ≡ last_from (hearing k b.book) (accepted_in id b run)
  unfolding last_from
  ends_last b [] s row = refl
  ends_last b (x ∷ run) s row =
      ends_last (state_after b x) run (step_sound b.book s x) (row_after b.book x s row)
      ∙ last_on _ _ (accepted_at id b.book x) (accepted_in id (state_after b x) run) (step_received b.book x s row)

  counts : (b : State) (run : List Step) → Sound b.book → row_of b.book id ≡ Some k
      → get_or (ending b run).book.sent k 0 ≡ get_or b.book.sent k 0 + seals_in id b run
  counts b [] s row = omega arith
  counts b (x ∷ run) s row =
      omega (arith, counts (state_after b x) run (step_sound b.book s x) (row_after b.book x s row), step_sent b.book x s row)

  stays : (b : State) (run : List Step) → Sound b.book → row_of b.book id ≡ Some k
      → accepted_in id b run ≡ [] → hearing k (ending b run).book ≡ hearing k b.book
  unfolding last_from
  stays b run s row e = ends_last b run s row ∙ ap (last_from (hearing k b.book)) e

  -- where one was accepted, the row is heard and has the greatest of them
  ends_heard : (b : State) (run : List Step) → Sound b.book → row_of b.book id ≡ Some k → accepted_in id b run ≢ []
      → (get_or (ending b run).book.marks k 0 ≡ heard) × Greatest (get_or (ending b run).book.received k 0) (accepted_in id b run)
  ends_heard b run s row f =
      subst (λ (x : ℕ × ℕ). (x.0 ≡ heard) × Greatest x.1 (accepted_in id b run)) (sym (ends_last b run s row))
      (on (accepted_in id b run) f (rising b run s row))
    where
      on : (cs : List ℕ) → cs ≢ [] → Rising (hearing k b.book) cs
          → ((last_from (hearing k b.book) cs).0 ≡ heard) × Greatest (last_from (hearing k b.book) cs).1 cs
      on [] f h = absurd (f refl)
      on (c ∷ cs) f h = (last_heard (hearing k b.book) c cs, greatest (hearing k b.book) c cs h)

-- ---- other secrets are not seen

module _ (a b : State) (sa : Sound a.book) (sb : Sound b.book) (id : ℕ) (w : OnlyOthersDiffer id a.book b.book) (run : List Step) where
  start : SameIds a.book a.book
  start = ids_refl a.book sa

  kin : SameIds a.book b.book
  kin = record { is_sound = sb; room = sym w.room; ids = sym w.ids }

  carries : (i : ℕ) (s : Step) → slice_get run i ≡ Some s → (t : Step) × (slice_get run i ≡ Some t) × Alike s t
  carries i s e = (s, e, alike s s same)

  put_in : (p : ℕ) → p < length run → ((i : ℕ) → i < length run → i ≢ p)
      → (t : Step) × (slice_get run p ≡ Some t) × ((c : Channel) → holds c (state_after (walk.state_at b run p) t) ≡ holds c (walk.state_at b run p))
  put_in p l f = absurd (f p l refl)

  its_received : (k : ℕ) → row_of a.book id ≡ Some k → holds (receives k) a ≡ holds (receives k) b
  its_received k e = λ i. (w.key k e i, (w.mark k e i, w.received k e i))

  its_sent : (k : ℕ) → row_of a.book id ≡ Some k → holds (sends k) a ≡ holds (sends k) b
  its_sent k e = λ i. (w.key k e i, w.sent k e i)

  starts : (s : Step) → Concerns id s → (c : Channel) → channel a.book s ≡ Some c → holds c a ≡ holds c b
  starts s (names_it {m = m} e) c f = let x = check_channel a.book m id c e f in rw x.1 (its_received x.0 x.2)
  starts s (under_it {m = m}) c f = let x = seal_channel a.book m id c f in rw x.1 (its_sent x.0 x.2)

  ends : (c : Channel) → holds c a ≡ holds c b → holds c (ending b run) ≡ holds c (ending a run)
  ends = same_ends walk (local a.book) channel? a b start kin run run (λ i. i) carries (λ i j s t c e f g h l. l) put_in

  unseen : SameFor id a b run
  unseen = record {
    same_answers = λ i s e q. sym
        (same_answer walk (local a.book) channel? a b start kin run run (λ i. i) carries (λ i j s t c e f g h l. l) put_in i s e (starts s q));
    same_mark = λ k e. sym (λ i. (ends (receives k) (its_received k e) i).1.0);
    same_received = λ k e. sym (λ i. (ends (receives k) (its_received k e) i).1.1);
    same_sent = λ k e. sym (λ i. (ends (sends k) (its_sent k e) i).1);
  }

pub history : History
history = record {
  accepted_rise = λ b s id k e run. rising id k b run s e;
  received_stays = λ b s id k e run f i. (stays id k b run s e f i).1;
  received_greatest = λ b s id k e run f. (ends_heard id k b run s e f).1;
  mark_stays = λ b s id k e run f i. (stays id k b run s e f i).0;
  mark_heard = λ b s id k e run f. (ends_heard id k b run s e f).0;
  sent_counts = λ b s id k e run. counts id k b run s e;
  others_unseen = unseen;
}
