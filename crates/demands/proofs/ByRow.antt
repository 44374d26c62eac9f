-- Checks, seals and judgements as steps on channels. What a check or a seal reads is one row's key with its mark and its received counter, or with its
-- sent counter, and all but the key it writes: its channel. A judgement's is its server row, there or not, and whether the rows are sound, which it
-- doesn't change. Here is all that proofs/Runs.antt asks, for the states whose books have the ids of one book b₀.
use mathlib.Core.Path.{◌≡◌, refl, sym, ap, ap₂, ◌∙◌}
use mathlib.Core.Bool.{Bool}
use mathlib.Core.Logic.{◌≢◌}
use Rattle.std.proofs.lemmas.Option.{none-some}
use mathlib.Core.List.{List}
use mathlib.Core.HLevel.{Discrete}
use Prim.Native.Nat.{ℕ}
use native.Mathlib.Decide.{ℕ_discrete, dec_le}
use native.Mathlib.Omega.{arith}
use lib.ListN.{length, get_or, set}
use lib.Seq.{get_or-set_same, get_or-set_other, set_out}
use Rattle.dhcp_message.specs.Said.{named}
use Rattle.dhcp_message.specs.Relay.{Relayed, unchanged}
use Rattle.key_book.specs.Limits.{heard}
use Rattle.key_book.specs.Book.{Book, row_of, key_of}
use Rattle.delayed_auth.specs.Check.{check_of, marks_after, received_after}
use Rattle.delayed_auth.specs.Seal.{Outcome, sealed, unsealed, seal_of, sealing_of, message_after, sent_after}
use Rattle.forcerenew.specs.Rows.{Servers, sound_rows, Server, server_at}
use Rattle.forcerenew.specs.Judging.{Judgement, judge_of, judged_of, servers_after}
use Rattle.forcerenew.proofs.Stored.{judge_depends, sound_kept, row_left, row_other, row_left_lem}
use Rattle.demands.specs.Demand3.{Step, check, seal, judge, State, checked, wrote, judged, answer_of, state_after, answers, ending, state_at}
use Rattle.demands.specs.Demand3.{Carried, same, relayed, OneOrder, checks, seals, judgements}
use Rattle.demands.proofs.Below.{never}
use Rattle.demands.proofs.Stages.{sealed_by}
use Rattle.demands.proofs.Runs.{Walk, Local}
use Rattle.demands.proofs.Steps.{SameIds, step_keeps, row_kept, marks_room, received_room, sent_room, single, name_relayed}
use Rattle.demands.proofs.Steps.{hearing, Hears, refuses, elsewhere, here, hears, received_row, sent_row, check_reads, seal_reads}
use Rattle.std.specs.Prelude.{Err, None, Ok, Option, Result, Some, option_map}
use Rattle.delayed_auth.specs.declared.Accepted.{Accepted}
use Rattle.refusal.specs.declared.Refusal.{Refusal}

-- the runs of specs/Demand3.antt
abbrev pub walk : Walk answer_of state_after
walk = record {
  answers = answers;
  ending = ending;
  state_at = state_at;
  answers_next = λ b s l. refl;
  ending_none = λ b. refl;
  ending_next = λ b s l. refl;
  state_at_none = λ b i. refl;
  state_at_first = λ b s l. refl;
  state_at_next = λ b s l i. refl;
}

pub data Channel : Type 0 where
  receives : ℕ → Channel
  sends : ℕ → Channel
  serves : ℕ → Channel
  deriving Discrete as Channel-discrete

pub channel? : Discrete Channel
channel? = Channel-discrete ℕ_discrete

-- what a judgement goes by: whether the rows are sound, and its row
abbrev pub served : ℕ → Servers → Bool × Option Server
served k s = (sound_rows s, server_at s k)

-- what a channel holds: the key, with the mark and the received counter or with the sent counter; or a server row
abbrev Held : Channel → Type 0
Held (receives k) = List ℕ × (ℕ × ℕ)
Held (sends k) = List ℕ × ℕ
Held (serves k) = Bool × Option Server

abbrev pub holds : (c : Channel) → State → Held c
holds (receives k) b = received_row k b.book
holds (sends k) b = sent_row k b.book
holds (serves k) b = served k b.servers

-- one store into two lists of one size
set_same : (a b : List ℕ) (r d k : ℕ) → length a ≡ length b → get_or a k 0 ≡ get_or b k 0 → get_or (set a r d) k 0 ≡ get_or (set b r d) k 0
set_same a b r d k l e =
    elim (ℕ_discrete k r) [
      | no g ↦ rw (get_or-set_other a r k d 0 g, get_or-set_other b r k d 0 g) e
      | yes g ↦ elim (dec_le (length a) r) [
        | yes q ↦ rw (set_out a r d q, set_out b r d (omega arith)) e
        | no q ↦ rw (g, get_or-set_same a r d 0 (omega arith), get_or-set_same b r d 0 (omega arith))
      ]
    ]

map_of : {A B : Type 0} (f : A → B) (o : Option A) (c : B) → option_map f o ≡ Some c → (r : A) × (c ≡ f r) × (o ≡ Some r)
map_of f None c e = absurd (none-some c e)
map_of f (Some r) c e = (r, cc, refl)

-- a judgement of row k leaves the same there where it found the same
serves_same : (a b : Servers) (k : ℕ) (m : List ℕ) → served k a ≡ served k b
    → served k (servers_after k (judge_of a k m) a) ≡ served k (servers_after k (judge_of b k m) b)
serves_same a b k m e = λ i. (
  (sound_kept a k m ∙ (λ j. (e j).0) ∙ sym (sound_kept b k m)) i,
  (row_left_lem a k m
      ∙ ap₂ (λ (x : Judgement) (o : Option Server). option_map (row_left x) o) (judge_depends a b k m (λ j. (e j).0) (λ j. (e j).1)) (λ j. (e j).1)
      ∙ sym (row_left_lem b k m)) i,
)

-- and the same in another row
serves_other : (s : Servers) (j k : ℕ) (m : List ℕ) → k ≢ j → served k (servers_after j (judge_of s j m) s) ≡ served k s
serves_other s j k m n = λ i. (sound_kept s j m i, row_other s j m k n i)

-- a carried step: a check relayed any number of times, none among them, or a seal or a judgement as it is
pub data Alike : Step → Step → Type 0 where
  check_alike : {m n : List ℕ} → Relayed m n → Alike (check m) (check n)
  seal_alike : {id : ℕ} {m : List ℕ} → Alike (seal id m) (seal id m)
  judge_alike : {k : ℕ} {m : List ℕ} → Alike (judge k m) (judge k m)

pub alike : (s t : Step) → Carried s t → Alike s t
alike s t (relayed p q) = check_alike q
alike s t (same {s = check m}) = check_alike unchanged
alike s t (same {s = seal id m}) = seal_alike
alike s t (same {s = judge k m}) = judge_alike

module _ (b₀ : Book) where
  found : Option ℕ → Option ℕ
  found None = None
  found (Some id) = row_of b₀ id

  found_id : (o : Option ℕ) (k : ℕ) → found o ≡ Some k → (id : ℕ) × (o ≡ Some id) × (row_of b₀ id ≡ Some k)
  unfolding found
  found_id None k e = absurd (none-some k e)
  found_id (Some id) k e = (id, refl, e)

  found_row : (o : Option ℕ) (id k : ℕ) → o ≡ Some id → row_of b₀ id ≡ Some k → found o ≡ Some k
  unfolding found
  found_row o id k e f = rw e f

  pub channel : Step → Option Channel
  channel (check m) = option_map receives (found (named m))
  channel (seal id m) = option_map sends (row_of b₀ id)
  channel (judge k m) = Some (serves k)

  -- the channel of a check or a seal: the row of the secret that it names
  pub check_channel : (m : List ℕ) (id : ℕ) (c : Channel) → named m ≡ Some id → channel (check m) ≡ Some c → (k : ℕ) × (c ≡ receives k) ×
      (row_of b₀ id ≡ Some k)
  unfolding channel found
  check_channel m id c e f = map_of receives (row_of b₀ id) c (rw e at f)

  pub seal_channel : (m : List ℕ) (id : ℕ) (c : Channel) → channel (seal id m) ≡ Some c → (k : ℕ) × (c ≡ sends k) × (row_of b₀ id ≡ Some k)
  unfolding channel
  seal_channel m id c f = map_of sends (row_of b₀ id) c f

  channel_alike : (s t : Step) → Alike s t → channel s ≡ channel t
  unfolding channel
  channel_alike s t (check_alike {m = m} {n = n} q) = ap (λ (o : Option ℕ). option_map receives (found o)) (sym (name_relayed m n q))
  channel_alike s t seal_alike = refl
  channel_alike s t judge_alike = refl

  -- two steps on one channel keep their order
  pub one_order : (s t : Step) (c : Channel) → channel s ≡ Some c → channel t ≡ Some c → OneOrder s t
  unfolding channel
  one_order (check m) (check n) c e f =
      let v = map_of receives (found (named m)) c e in
      let w = map_of receives (found (named n)) c f in
      let x = found_id (named m) v.0 v.2 in
      let y = found_id (named n) w.0 w.2 in
      let g : v.0 ≡ w.0 = cc in
      checks x.1 (y.1 ∙ ap Some (sym (single b₀ x.0 y.0 w.0 (x.2 ∙ ap Some g) y.2)))
  one_order (check m) (seal j n) c e f =
      let v = map_of receives (found (named m)) c e in
      let w = map_of sends (row_of b₀ j) c f in
      never cc
  one_order (check m) (judge j n) c e f = let v = map_of receives (found (named m)) c e in never cc
  one_order (seal i m) (check n) c e f =
      let v = map_of sends (row_of b₀ i) c e in
      let w = map_of receives (found (named n)) c f in
      never cc
  one_order (seal i m) (seal j n) c e f =
      let v = map_of sends (row_of b₀ i) c e in
      let w = map_of sends (row_of b₀ j) c f in
      let g : v.0 ≡ w.0 = cc in
      rw (single b₀ i j w.0 (v.2 ∙ ap Some g) w.2) seals
  one_order (seal i m) (judge j n) c e f = let v = map_of sends (row_of b₀ i) c e in never cc
  one_order (judge k m) (check n) c e f = let w = map_of receives (found (named n)) c f in never cc
  one_order (judge k m) (seal j n) c e f = let w = map_of sends (row_of b₀ j) c f in never cc
  one_order (judge k m) (judge j n) c e f = let g : k ≡ j = cc in rw g judgements

  -- the states of a run: their books are sound and have the ids of b₀
  abbrev pub Within : State → Type 0
  Within b = SameIds b₀ b.book

  other : (b : State) (s : Step) (c : Channel) → Within b → channel s ≢ Some c → holds c (state_after b s) ≡ holds c b
  unfolding channel
  other b (check m) (sends k) h g = refl
  other b (check m) (serves k) h g = refl
  other b (check m) (receives k) h g = ap (λ (x : ℕ × ℕ). (key_of b.book k, x)) (on (hears b.book h.is_sound m k))
    where
      on : {v : Result Accepted Refusal} {x : ℕ × ℕ} → Hears b.book m k v x → x ≡ hearing k b.book
      on refuses = refl
      on (elsewhere w n) = refl
      on (here w new) =
          absurd (g (ap (option_map receives) (found_row (named m) w.id k w.form (sym (row_kept b₀ b.book h w.id) ∙ w.secret))))
  other b (seal id m) (receives k) h g = refl
  other b (seal id m) (serves k) h g = refl
  other b (seal id m) (sends k) h g = ap (λ (n : ℕ). (key_of b.book k, n)) (on (seal_of b.book id m) refl)
    where
      on : (o : Outcome) → seal_of b.book id m ≡ o → get_or (sent_after o b.book.sent) k 0 ≡ get_or b.book.sent k 0
      on (unsealed r) e = refl
      on (sealed r d n) e =
          let row = sym (row_kept b₀ b.book h id) ∙ (sealed_by b.book id m r d n e).secret in
          get_or-set_other b.book.sent r k d 0 (λ x. g (ap (option_map sends) row ∙ ap (λ (y : ℕ). Some (sends y)) (sym x)))
  other b (judge j m) (receives k) h g = refl
  other b (judge j m) (sends k) h g = refl
  other b (judge j m) (serves k) h g = serves_other b.servers j k m (λ e. g (ap (λ (x : ℕ). Some (serves x)) (sym e)))

  module _ (a b : State) (x : Within a) (y : Within b) where
    same_check : (m n : List ℕ) → Relayed m n → ((c : Channel) → channel (check m) ≡ Some c → holds c a ≡ holds c b)
        → check_of b.book n ≡ check_of a.book m
    unfolding channel
    same_check m n q h =
        check_reads b₀ a.book b.book x y m n q (λ id k e f. h (receives k) (ap (option_map receives) (found_row (named m) id k e f)))

    same_seal : (id : ℕ) (m : List ℕ) → ((c : Channel) → channel (seal id m) ≡ Some c → holds c a ≡ holds c b)
        → seal_of a.book id m ≡ seal_of b.book id m
    unfolding channel
    same_seal id m h = seal_reads b₀ a.book b.book x y id m (λ k e. h (sends k) (ap (option_map sends) e))

    same_judge : (k : ℕ) (m : List ℕ) → ((c : Channel) → channel (judge k m) ≡ Some c → holds c a ≡ holds c b)
        → judge_of a.servers k m ≡ judge_of b.servers k m
    unfolding channel
    same_judge k m h = let e = h (serves k) refl in judge_depends a.servers b.servers k m (λ i. (e i).0) (λ i. (e i).1)

    answer : (s t : Step) → Alike s t → ((c : Channel) → channel s ≡ Some c → holds c a ≡ holds c b) → answer_of a s ≡ answer_of b t
    answer s t (check_alike {m = m} {n = n} q) h = ap checked (sym (same_check m n q h))
    answer s t (seal_alike {id = id} {m = m}) h = ap (λ (o : Outcome). wrote (sealing_of o) (message_after o m)) (same_seal id m h)
    answer s t (judge_alike {k = k} {m = m}) h = ap (λ (j : Judgement). judged (judged_of j)) (same_judge k m h)

    -- one answer stores the same in both books
    heard_same : (v : Result Accepted Refusal) (k : ℕ) → hearing k a.book ≡ hearing k b.book
        → ◌≡◌ {A = ℕ × ℕ} (get_or (marks_after v a.book.marks) k 0, get_or (received_after v a.book.received) k 0)
        (get_or (marks_after v b.book.marks) k 0, get_or (received_after v b.book.received) k 0)
    heard_same (Ok got) k e = λ i. (
      set_same a.book.marks b.book.marks got.row heard k (marks_room b₀ a.book x ∙ sym (marks_room b₀ b.book y)) (λ j. (e j).0) i,
      set_same a.book.received b.book.received got.row got.counter k (received_room b₀ a.book x ∙ sym (received_room b₀ b.book y)) (λ j. (e j).1) i,
    )
    heard_same (Err r) k e = e

    sent_same : (o : Outcome) (k : ℕ) → get_or a.book.sent k 0 ≡ get_or b.book.sent k 0
        → get_or (sent_after o a.book.sent) k 0 ≡ get_or (sent_after o b.book.sent) k 0
    sent_same (sealed r d n) k e = set_same a.book.sent b.book.sent r d k (sent_room b₀ a.book x ∙ sym (sent_room b₀ b.book y)) e
    sent_same (unsealed r) k e = e

    change : (s t : Step) → Alike s t → (c : Channel) → channel s ≡ Some c → holds c a ≡ holds c b → holds c (state_after a s) ≡ holds c (state_after b t)
    unfolding channel
    change s t (check_alike q) (sends k) e f = f
    change s t (check_alike q) (serves k) e f = f
    change s t (check_alike {m = m} {n = n} q) (receives k) e f =
        rw (same_check m n q (λ d g. let z : d ≡ receives k = cc in rw z f)) (λ i. ((f i).0, heard_same (check_of a.book m) k (λ j. (f j).1) i))
    change s t seal_alike (receives k) e f = f
    change s t seal_alike (serves k) e f = f
    change s t (seal_alike {id = id} {m = m}) (sends k) e f =
        rw (same_seal id m (λ d g. let z : d ≡ sends k = cc in rw z f)) (λ i. ((f i).0, sent_same (seal_of b.book id m) k (λ j. (f j).1) i))
    change s t judge_alike (receives k) e f = f
    change s t judge_alike (sends k) e f = f
    change s t (judge_alike {k = j} {m = m}) (serves k) e f = let z : j ≡ k = cc in rw z (serves_same a.servers b.servers k m f)

  pub local : Local answer_of state_after channel holds Within Alike
  local = record {
    kept = λ b s h. step_keeps b₀ b.book s h;
    other = other;
    channel_alike = channel_alike;
    answer = λ s t q a b x y h. answer a b x y s t q h;
    change = λ s t q c e a b x y h. change a b x y s t q c e h;
  }
