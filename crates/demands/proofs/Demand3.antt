-- Demand 3, proved. A step reads and writes one channel (proofs/ByRow.antt), so proofs/Runs.antt answers for the order. A counter that is not new to a
-- row never is again, so an accepted message is a replay ever after; and so is an accepted FORCERENEW until its row takes another nonce. What an ACK
-- needs to be accepted is in its own bytes and in the rows' sizes and soundness, which no step changes.
use mathlib.Core.Path.{◌≡◌, refl, sym, ap, ◌∙◌}
use mathlib.Core.Logic.{◌≢◌}
use mathlib.Core.Bool.{Bool, true, false}
use mathlib.Core.List.{List}
use Prim.Native.Nat.{ℕ, suc, ◌≤◌, ◌<◌}
use native.Mathlib.Nat.{le_refl, le_of_lt}
use native.Mathlib.Omega.{arith}
use lib.ListN.{length, get_or}
use lib.Seq.{ext_get_or}
use Rattle.refusal.specs.declared.Refusal.TheVariants.{Replay}
use Rattle.dhcp_message.specs.Relay.{Relayed}
use Rattle.key_book.specs.Book.{Book, Sound}
use Rattle.delayed_auth.specs.Check.{new_to, check_of}
use Rattle.forcerenew.specs.Layout.{gives_nonce, orders_renewal}
use Rattle.forcerenew.specs.Rows.{SoundRows, sound_rows}
use Rattle.forcerenew.specs.Judging.{Judgement, judge_of, judged_of}
use Rattle.forcerenew.proofs.Soundness.{rows_say}
use Rattle.forcerenew.proofs.Stored.{Heard, same_rows}
use Rattle.demands.specs.Accepts.{GivesNonce, nonce_given, Stores}
use Rattle.demands.specs.Demand3.{Step, check, judge, State, Answer, checked, judged, state_after, answers, ending, state_at}
use Rattle.demands.specs.Demand3.{NotAccepted, no_check, no_judgement, Rearranged, SameRun, OtherNonce, RunsKeepSound, Demand3}
use Rattle.demands.proofs.Demand2.{demand_2}
use Rattle.demands.proofs.Runs.{some_at, lt_at, kept_on, next_at, answer_at, inv_at, inv_end, same_answer, same_ends}
use Rattle.demands.proofs.Steps.{SameIds, ids_refl, step_keeps, marks_room, received_room, sent_room, check_reads}
use Rattle.demands.proofs.Steps.{step_sound, replays, old_then, stays_old, not_accepted}
use Rattle.demands.proofs.Steps.{SameRows, rows_refl, rows_keep, rows_sound, rows_unsound, not_heeded}
use Rattle.demands.proofs.Steps.{order_heard, order_again, nonce_gives, stays_heard}
use Rattle.demands.proofs.ByRow.{walk, Channel, channel?, receives, sends, serves, holds, Alike, alike, channel, one_order, Within, local}
use Rattle.std.specs.Prelude.{Err, Option, Result, Some, slice_get}
use Rattle.delayed_auth.specs.declared.Accepted.{Accepted}
use Rattle.forcerenew.specs.declared.Heeded.{Heeded}
use Rattle.refusal.specs.declared.Refusal.{Refusal}
use Rattle.delayed_auth.specs.Check.{accepting}
use Rattle.forcerenew.specs.Judging.{heeding}

-- ---- the states of a run

module _ (b₀ : State) where
  -- the server rows are as many as at the start, and sound or not as they were
  pub rows_at : (run : List Step) (i : ℕ) → SameRows b₀.servers (state_at b₀ run i).servers
  rows_at run i =
      inv_at walk (λ b. SameRows b₀.servers b.servers) (λ b s h. rows_keep b₀.servers b.servers s h) b₀ run i (rows_refl b₀.servers)

  rows_end : (run : List Step) → SameRows b₀.servers (ending b₀ run).servers
  rows_end run =
      inv_end walk (λ b. SameRows b₀.servers b.servers) (λ b s h. rows_keep b₀.servers b.servers s h) b₀ run (rows_refl b₀.servers)

  sound_rows_at : (run : List Step) (i : ℕ) → SoundRows b₀.servers → SoundRows (state_at b₀ run i).servers
  sound_rows_at run i = inv_at walk (λ b. SoundRows b.servers) (λ b s h. rows_sound b.servers h s) b₀ run i

  sound_rows_end : (run : List Step) → SoundRows b₀.servers → SoundRows (ending b₀ run).servers
  sound_rows_end run = inv_end walk (λ b. SoundRows b.servers) (λ b s h. rows_sound b.servers h s) b₀ run

  -- rows that are not sound stay as they are
  unsound_end : sound_rows b₀.servers ≡ false → (run : List Step) → (ending b₀ run).servers ≡ b₀.servers
  unsound_end e run =
      inv_end walk (λ b. b.servers ≡ b₀.servers) (λ b s h. rows_unsound b.servers (ap sound_rows h ∙ e) s ∙ h) b₀ run refl

-- a step that is not accepted leaves the state as it is
still : (b : State) (t : Step) → Sound b.book → NotAccepted b t → state_after b t ≡ b
still b t s (no_check {m = m} f) = λ i. record { book = not_accepted b.book m s f i; servers = b.servers }
still b t s (no_judgement {k = k} {m = m} f) = λ i. record { book = b.book; servers = not_heeded b.servers k m f i }

module _ (b₀ : State) (sound : Sound b₀.book) where
  start : Within b₀.book b₀
  start = ids_refl b₀.book sound

  pub ids_at : (run : List Step) (i : ℕ) → SameIds b₀.book (state_at b₀ run i).book
  ids_at run i = inv_at walk (Within b₀.book) (λ b s h. step_keeps b₀.book b.book s h) b₀ run i start

  ids_end : (run : List Step) → SameIds b₀.book (ending b₀ run).book
  ids_end run = inv_end walk (Within b₀.book) (λ b s h. step_keeps b₀.book b.book s h) b₀ run start

  pub sound_at : (run : List Step) (i : ℕ) → Sound (state_at b₀ run i).book
  sound_at run i = (ids_at run i).is_sound

  -- ---- any order

  module _ (first second : List Step) (place : ℕ → ℕ) (made : Rearranged b₀ first second place) where
    carries : (i : ℕ) (s : Step) → slice_get first i ≡ Some s → (t : Step) × (slice_get second (place i) ≡ Some t) × Alike s t
    carries i s e = let w = made.carried i s e in (w.0, w.1, alike s w.0 w.2)

    order : (i j : ℕ) (s t : Step) (c : Channel) → slice_get first i ≡ Some s → slice_get first j ≡ Some t
        → channel b₀.book s ≡ Some c → channel b₀.book t ≡ Some c → i < j → place i < place j
    order i j s t c ei ej es et l = made.order i j s t ei ej (one_order b₀.book s t c es et) l

    put_in : (p : ℕ) → p < length second → ((i : ℕ) → i < length first → place i ≢ p)
        → (t : Step) × (slice_get second p ≡ Some t) × ((c : Channel) → holds c (state_after (state_at b₀ second p) t) ≡ holds c (state_at b₀ second p))
    put_in p l f =
        let w = made.put_in p l f in
        (w.0, w.1, λ c. ap (holds c) (still (state_at b₀ second p) w.0 (sound_at second p) w.2))

    ends : (c : Channel) → holds c (ending b₀ second) ≡ holds c (ending b₀ first)
    ends c = same_ends walk (local b₀.book) channel? b₀ b₀ start start first second place carries order put_in c refl

    -- marks or counters that are the same in every row are the same lists
    all_same : (lent : Book → List ℕ) → ((b : Book) → SameIds b₀.book b → length (lent b) ≡ length b₀.book.ids)
        → ((k : ℕ) → get_or (lent (ending b₀ second).book) k 0 ≡ get_or (lent (ending b₀ first).book) k 0)
        → lent (ending b₀ second).book ≡ lent (ending b₀ first).book
    all_same lent room e =
        ext_get_or 0 (lent (ending b₀ second).book) (lent (ending b₀ first).book) (room _ (ids_end second) ∙ sym (room _ (ids_end first))) (λ k l. e k)

    -- and so are server rows: they are sound, or nothing was stored in them
    servers_same : (t : Bool) → sound_rows b₀.servers ≡ t → (ending b₀ second).servers ≡ (ending b₀ first).servers
    servers_same false e = unsound_end b₀ e second ∙ sym (unsound_end b₀ e first)
    servers_same true e =
        let x = rows_end b₀ second in
        let y = rows_end b₀ first in
        same_rows (ending b₀ second).servers (ending b₀ first).servers (x.soundness ∙ e) (y.soundness ∙ e) (x.room ∙ sym y.room)
        (λ k i. (ends (serves k) i).1)

    same_run : SameRun b₀ first second place
    same_run = record {
      same_answers = λ i l.
          let s = some_at first i l in
          same_answer walk (local b₀.book) channel? b₀ b₀ start start first second place carries order put_in
          i s.0 s.1 (λ c e. refl);
      same_marks = all_same (λ b. b.marks) (marks_room b₀.book) (λ k i. (ends (receives k) i).1.0);
      same_received = all_same (λ b. b.received) (received_room b₀.book) (λ k i. (ends (receives k) i).1.1);
      same_sent = all_same (λ b. b.sent) (sent_room b₀.book) (λ k i. (ends (sends k) i).1);
      same_servers = servers_same (sound_rows b₀.servers) refl;
    }

  -- ---- no replay

  -- a counter that is not new to a row never is again
  pub never_new : (run : List Step) (i j k c : ℕ) → i ≤ j → j ≤ length run
      → new_to (state_at b₀ run i).book k c ≡ false → new_to (state_at b₀ run j).book k c ≡ false
  never_new run i j k c l m =
      kept_on walk (λ b. new_to b.book k c ≡ false) b₀ run i j l m (λ p s x y z. stays_old (state_at b₀ run p).book s k c (sound_at run p))

  checked_same : (v w : Result Accepted Refusal) → ◌≡◌ {A = Option Answer} (Some (checked v)) (Some (checked w)) → v ≡ w
  checked_same v w e = cc

  pub accepted_there : (run : List Step) (i : ℕ) (m : List ℕ) (k c : ℕ) → slice_get run i ≡ Some (check m)
      → slice_get (answers b₀ run) i ≡ Some (checked (accepting k c)) → check_of (state_at b₀ run i).book m ≡ accepting k c
  accepted_there run i m k c e a = checked_same _ _ (sym (answer_at walk b₀ run i (check m) e) ∙ a)

  module _
      (run : List Step) (i j : ℕ) (m : List ℕ) (k c : ℕ) (later : i < j) (at_i : slice_get run i ≡ Some (check m))
      (accepted : slice_get (answers b₀ run) i ≡ Some (checked (accepting k c)))
    where
      accepted_i : check_of (state_at b₀ run i).book m ≡ accepting k c
      accepted_i = accepted_there run i m k c at_i accepted

      -- from then on no counter up to the accepted one is new to the row
      pub old_after : j < length run → (d : ℕ) → d ≤ c → new_to (state_at b₀ run j).book k d ≡ false
      old_after l d h =
          never_new run (suc i) j k d later (le_of_lt l)
          (rw (next_at walk b₀ run i (check m) at_i) (old_then (state_at b₀ run i).book m k c d (sound_at run i) accepted_i h))

      replayed : (n : List ℕ) → slice_get run j ≡ Some (check n) → Relayed m n → slice_get (answers b₀ run) j ≡ Some (checked (Err Replay))
      replayed n at_j q =
          let a = (state_at b₀ run i).book in
          let b = (state_at b₀ run j).book in
          let again = replays b₀.book a b m k c (ids_at run i) (ids_at run j) accepted_i (old_after (lt_at run j (check n) at_j) c (le_refl c)) in
          let unseen = check_reads b₀.book b b (ids_at run j) (ids_at run j) m n q (λ id k e f. refl) in
          answer_at walk b₀ run j (check n) at_j ∙ ap (λ (v : Result Accepted Refusal). Some (checked v)) (unseen ∙ again)

-- ---- judgements shown again

judged_same : (v w : Result Heeded Refusal) → ◌≡◌ {A = Option Answer} (Some (judged v)) (Some (judged w)) → v ≡ w
judged_same v w e = cc

module _ (b₀ : State) (run : List Step) (i j k : ℕ) (m : List ℕ) (later : i < j) (at_i : slice_get run i ≡ Some (judge k m)) where
  heeded_i : (type c : ℕ) → slice_get (answers b₀ run) i ≡ Some (judged (heeding type c))
      → judged_of (judge_of (state_at b₀ run i).servers k m) ≡ heeding type c
  heeded_i type c e = judged_same _ _ (sym (answer_at walk b₀ run i (judge k m) at_i) ∙ e)

  -- an order, as long as its row takes no other nonce: the row stays heard with its counter or a larger one
  module _
      (c : ℕ) (accepted : slice_get (answers b₀ run) i ≡ Some (judged (heeding orders_renewal c))) (at_j : slice_get run j ≡ Some (judge k m))
      (no_other : (p : ℕ) (n : List ℕ) → i < p → p < j → slice_get run p ≡ Some (judge k n) → OtherNonce (state_at b₀ run p).servers k n → ⊥)
    where
      heard_on : Heard (state_at b₀ run j).servers k c
      heard_on =
          kept_on walk (λ b. Heard b.servers k c) b₀ run (suc i) j later (le_of_lt (lt_at run j (judge k m) at_j))
          (λ p s x y e h. stays_heard (state_at b₀ run p).servers s k c (λ n f. no_other p n x y (e ∙ ap Some f)) h)
          (rw (next_at walk b₀ run i (judge k m) at_i) (order_heard (state_at b₀ run i).servers k m c (heeded_i orders_renewal c accepted)))

      ordered_again : slice_get (answers b₀ run) j ≡ Some (judged (Err Replay))
      ordered_again =
          answer_at walk b₀ run j (judge k m) at_j
          ∙ ap (λ (x : Judgement). Some (judged (judged_of x)))
          (order_again (state_at b₀ run i).servers (state_at b₀ run j).servers k m c (heeded_i orders_renewal c accepted) heard_on)

  -- an ACK, for any row that is there
  module _
      (l c : ℕ) (accepted : slice_get (answers b₀ run) i ≡ Some (judged (heeding gives_nonce c))) (at_j : slice_get run j ≡ Some (judge l m))
      (there : l < length b₀.servers.marks)
    where
      given : (nonce : List ℕ) × GivesNonce (state_at b₀ run i).servers k m c nonce
      given = nonce_gives (state_at b₀ run i).servers k m c (heeded_i gives_nonce c accepted)

      -- sound rows at one step are sound at any other
      sound_again : SoundRows (state_at b₀ run i).servers → SoundRows (state_at b₀ run j).servers
      sound_again h =
          let x = rows_at b₀ run i in
          let y = rows_at b₀ run j in
          (rows_say.sound (state_at b₀ run j).servers).0 (y.soundness ∙ sym x.soundness ∙ (rows_say.sound (state_at b₀ run i).servers).1 h)

      given_again : GivesNonce (state_at b₀ run j).servers l m c given.0
      given_again =
          let g = given.1 in
          record {
            o = g.o;
            rows = sound_again g.rows;
            form = g.form;
            row = omega (arith, there, (rows_at b₀ run j).room);
            type = g.type;
            message_type = g.message_type;
            counter = g.counter;
            value = g.value;
          }

      accepted_again : slice_get (answers b₀ run) j ≡ Some (judged (heeding gives_nonce c))
      accepted_again =
          answer_at walk b₀ run j (judge l m) at_j
          ∙ ap (λ (v : Result Heeded Refusal). Some (judged v)) ((demand_2.heeded (state_at b₀ run j).servers l m gives_nonce c).1 (nonce_given given_again))

      stored_again : Stores (state_at b₀ run j).servers l given.0 (state_at b₀ run (suc j)).servers
      stored_again =
          rw (next_at walk b₀ run j (judge l m) at_j) (demand_2.nonce_stored (state_at b₀ run j).servers l m c given.0 given_again)

pub runs_keep_sound : RunsKeepSound
runs_keep_sound = record {
  step = λ b s t. step_sound b.book s t;
  before_each = sound_at;
  at_end_lem = λ b s run. (ids_end b s run).is_sound;
  rows_step = λ b h s. rows_sound b.servers h s;
  rows_before_each = λ b h run i. sound_rows_at b run i h;
  rows_at_end = λ b h run. sound_rows_end b run h;
}

pub demand_3 : Demand3
demand_3 = record {
  any_order = same_run;
  no_replay = λ b s run i j m n k c l e f g q. (Err Replay, replayed b s run i j m k c l e f n g q, refl);
  no_order_twice = λ b run i j k c m l e f g h. (Err Replay, ordered_again b run i j k m l e c f g h, refl);
  ack_again = λ b run i j k l c m h e f g r. (
    accepted_again b run i j k m h e l c f g r,
    ((given b run i j k m h e l c f g r).0, (given b run i j k m h e l c f g r).1, stored_again b run i j k m h e l c f g r),
  );
}
