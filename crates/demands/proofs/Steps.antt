-- The laws of steps, which is all that runs need to know of them. Of checks and seals: a step leaves a sound book sound and an id has one row; a relay
-- change is not seen; a check reads the key, the mark and the received counter of one row and writes the last two, a seal reads a key and a sent
-- counter of one row and writes that counter; an accepted counter is new to its row, and no counter that is not new to a row ever is again. Of
-- judgements: rows are as many as at the start, and sound or not as they were; an order that was believed is a replay as long as its row is heard with
-- its counter or a larger one, and only another nonce ends that.
use mathlib.Core.Path.{◌≡◌, refl, sym, ap, ◌∙◌}
use mathlib.Core.Logic.{◌≢◌, inr}
use mathlib.Core.Bool.{Bool, true, false}
use mathlib.Core.List.{List}
use Prim.Native.Nat.{ℕ, ◌≤◌, ◌<◌}
use native.Mathlib.Nat.{le_refl, le_of_lt}
use native.Mathlib.Decide.{ℕ_discrete}
use native.Mathlib.Omega.{arith}
use lib.Dec.{eqb}
use lib.ListN.{length, get_or, take, length-set}
use lib.Seq.{get_or-set_same, get_or-set_other}
use Rattle.forcerenew.proofs.Cases.{heeding_parts}
use Rattle.delayed_auth.proofs.Judging.{accepting_parts}
use Rattle.refusal.specs.declared.Refusal.{Refusal}
use Rattle.refusal.specs.declared.Refusal.TheVariants.{Replay}
use Rattle.dhcp_message.specs.Said.{named}
use Rattle.dhcp_message.specs.Relay.{Relayed}
use Rattle.dhcp_message.specs.Replay.{is_new}
use Rattle.dhcp_message.proofs.Relays.{relay_keeps}
use Rattle.dhcp_message.proofs.Replays.{above_new, old_counter, counter_old}
use Rattle.key_book.specs.Limits.{heard}
use Rattle.key_book.specs.Book.{Book, Sound, MarkFits, book_of, heard_at, row_of, key_of}
use Rattle.key_book.proofs.Says.{sound_says, row_says, row_depends, rows_within}
use Rattle.delayed_auth.specs.Check.{new_to, check_of, marks_after, received_after}
use Rattle.delayed_auth.specs.Seal.{Outcome, sealed, unsealed, seal_of, sent_after}
use Rattle.forcerenew.specs.Layout.{gives_nonce, orders_renewal}
use Rattle.forcerenew.specs.Rows.{none_yet, Servers, SoundRows, sound_rows}
use Rattle.forcerenew.specs.Judging.{Judgement, takes, knows, renews, refused, judge_of, judged_of}
use Rattle.forcerenew.proofs.Stored.{rows_kept_lem, room_kept, sound_kept, unsound_kept}
use Rattle.forcerenew.proofs.Stored.{Heard, renews_heard, renews_above, heard_beside, heard_replays}
use Rattle.demands.specs.Accepts.{Accepts, Names, GivesNonce, Heeds, nonce_given, renewal_ordered, Stores, had_it, took_it}
use Rattle.demands.specs.Dependence.{SameSecrets}
use Rattle.demands.specs.Demand3.{Step, check, seal, judge, book_after, rows_after, OtherNonce}
use Rattle.demands.proofs.Below.{never}
use Rattle.demands.proofs.Stages.{check_replay, end_check, accepted_accepts, accepts_claims, claims_names}
use Rattle.demands.proofs.Demand2.{demand_2}
use Rattle.demands.proofs.Dependence.{check_same, seal_depends}
use Rattle.std.specs.Prelude.{Err, Ok, Result, Some}
use Rattle.delayed_auth.specs.declared.Accepted.{Accepted}
use Rattle.delayed_auth.specs.Check.{accepting}
use Rattle.forcerenew.specs.Judging.{heeding}

-- ---- what a check leaves in a row

-- what was heard in row k: its mark and its received counter
abbrev pub hearing : ℕ → Book → ℕ × ℕ
hearing k b = (get_or b.marks k 0, get_or b.received k 0)

-- whether a counter is new to it
abbrev pub new_with : ℕ × ℕ → ℕ → Bool
new_with x c = is_new (eqb x.0 heard) x.1 c

-- by the answer: row k is as it was; or the message names its secret and is accepted with a counter that is new to it, and then the row is heard and
-- has that counter
pub data Hears (b : Book) (m : List ℕ) (k : ℕ) : Result Accepted Refusal → ℕ × ℕ → Type 0 where
  refuses : {r : Refusal} → Hears b m k (Err r) (hearing k b)
  elsewhere : {j c : ℕ} → Names b m j → j ≢ k → Hears b m k (accepting j c) (hearing k b)
  here : {c : ℕ} → Names b m k → new_to b k c ≡ true → Hears b m k (accepting k c) (heard, c)

pub hears : (b : Book) → Sound b → (m : List ℕ) (k : ℕ) → Hears b m k (check_of b m) (hearing k (book_after b (check m)))
hears b s m k = on (check_of b m) refl
  where
    on : (v : Result Accepted Refusal) → check_of b m ≡ v → Hears b m k v (get_or (marks_after v b.marks) k 0, get_or (received_after v b.received) k 0)
    on (Err r) e = refuses
    on (Ok got) e =
        let a = accepted_accepts b m got.row got.counter e in
        let w = claims_names (accepts_claims a) in
        elim (ℕ_discrete k got.row) [
          | no g ↦ rw (get_or-set_other b.marks got.row k heard 0 g, get_or-set_other b.received got.row k got.counter 0 g) (elsewhere w (λ h. g (sym h)))
          | yes g ↦
              let l = rows_within b s got.row ((row_says.row b a.id got.row).0 a.secret).used in
              rw (g, get_or-set_same b.marks got.row heard 0 l.in_marks, get_or-set_same b.received got.row got.counter 0 l.in_received) (here w a.new)
        ]

-- ---- a step leaves a sound book sound

marks_size : (v : Result Accepted Refusal) (xs : List ℕ) → length (marks_after v xs) ≡ length xs
marks_size (Ok a) xs = length-set xs a.row heard
marks_size (Err r) xs = refl

received_size : (v : Result Accepted Refusal) (xs : List ℕ) → length (received_after v xs) ≡ length xs
received_size (Ok a) xs = length-set xs a.row a.counter
received_size (Err r) xs = refl

sent_size : (o : Outcome) (xs : List ℕ) → length (sent_after o xs) ≡ length xs
sent_size (sealed k c n) xs = length-set xs k c
sent_size (unsealed r) xs = refl

-- a sound book with other marks and counters, as many of each, is sound where the marks fit the received counters
counters_sound : (b : Book) (marks received sent : List ℕ) → length marks ≡ length b.marks → length received ≡ length b.received
    → length sent ≡ length b.sent → ((k : ℕ) → k < b.rows → MarkFits (get_or marks k 0) (get_or received k 0))
    → Sound b → Sound (book_of b.ids b.lengths b.store marks received sent b.rows)
counters_sound b marks received sent e f g fit s =
    let z = s.sizes in
    record {
      sizes = record {
        room = z.room;
        lengths_agree = z.lengths_agree;
        store_agrees = z.store_agrees;
        marks_agree = e ∙ z.marks_agree;
        received_agree = f ∙ z.received_agree;
        sent_agree = g ∙ z.sent_agree;
      };
      rows_fit = s.rows_fit;
      rows_few = s.rows_few;
      ids_ascend = s.ids_ascend;
      keys_from = s.keys_from;
      keys_to = s.keys_to;
      marks_fit_lem = fit;
    }

-- a check leaves marks that fit: a row that is heard may have any counter
hears_fits : (b : Book) → Sound b → (m : List ℕ) (k : ℕ) → k < b.rows → {v : Result Accepted Refusal} {x : ℕ × ℕ} → Hears b m k v x → MarkFits x.0 x.1
hears_fits b s m k l refuses = s.marks_fit_lem k l
hears_fits b s m k l (elsewhere w n) = s.marks_fit_lem k l
hears_fits b s m k l (here w new) = record { known = inr refl; fresh = λ z. absurd (omega arith) }

pub step_sound : (b : Book) → Sound b → (s : Step) → Sound (book_after b s)
step_sound b s (check m) =
    counters_sound b _ _ _ (marks_size (check_of b m) b.marks) (received_size (check_of b m) b.received) refl
    (λ k l. hears_fits b s m k l (hears b s m k)) s
step_sound b s (seal id m) = counters_sound b _ _ _ refl refl (sent_size (seal_of b id m) b.sent) s.marks_fit_lem s
step_sound b s (judge k m) = s

-- ---- the books of a run: sound, with the ids, the row count and the room of the first one

pub record SameIds (a b : Book) : Type 0 where
  pub is_sound : Sound b
  pub room : length b.ids ≡ length a.ids
  pub ids : take b.rows b.ids ≡ take a.rows a.ids

pub ids_refl : (b : Book) → Sound b → SameIds b b
ids_refl b s = record { is_sound = s; room = refl; ids = refl }

module _ (a b : Book) (w : SameIds a b) where
  pub row_kept : (id : ℕ) → row_of b id ≡ row_of a id
  row_kept id = row_depends b a id w.ids

  pub marks_room : length b.marks ≡ length a.ids
  marks_room = w.is_sound.sizes.marks_agree ∙ w.room

  pub received_room : length b.received ≡ length a.ids
  received_room = w.is_sound.sizes.received_agree ∙ w.room

  pub sent_room : length b.sent ≡ length a.ids
  sent_room = w.is_sound.sizes.sent_agree ∙ w.room

-- a step changes no id
pub step_keeps : (a b : Book) (s : Step) → SameIds a b → SameIds a (book_after b s)
step_keeps a b (check m) h = record { is_sound = step_sound b h.is_sound (check m); room = h.room; ids = h.ids }
step_keeps a b (seal id m) h = record { is_sound = step_sound b h.is_sound (seal id m); room = h.room; ids = h.ids }
step_keeps a b (judge k m) h = h

-- an id has one row
pub single : (b : Book) (i j k : ℕ) → row_of b i ≡ Some k → row_of b j ≡ Some k → i ≡ j
single b i j k e f = sym ((row_says.row b i k).0 e).named ∙ ((row_says.row b j k).0 f).named

-- a relay change is not seen
pub name_relayed : (m n : List ℕ) → Relayed m n → named n ≡ named m
name_relayed m n q = (relay_keeps.often m n q).name

-- what a check goes by of a row: its key, and what was heard there; and what a seal goes by: its key and its sent counter
abbrev pub received_row : ℕ → Book → List ℕ × (ℕ × ℕ)
received_row k b = (key_of b k, hearing k b)

abbrev pub sent_row : ℕ → Book → List ℕ × ℕ
sent_row k b = (key_of b k, get_or b.sent k 0)

module _ (b₀ a b : Book) (v : SameIds b₀ a) (w : SameIds b₀ b) where
  secrets : SameSecrets a b
  secrets = record { soundness = (sound_says a).1 v.is_sound ∙ sym ((sound_says b).1 w.is_sound); ids = v.ids ∙ sym w.ids }

  pub check_reads : (m n : List ℕ) → Relayed m n → ((id k : ℕ) → named m ≡ Some id → row_of b₀ id ≡ Some k → received_row k a ≡ received_row k b)
      → check_of b n ≡ check_of a m
  check_reads m n q h = check_same a b m n (record {
    secrets = secrets;
    key = λ k s w i. (at k w i).0;
    mark = λ k s w i. (at k w i).1.0;
    received = λ k s w i. (at k w i).1.1;
  }) (relay_keeps.often m n q).said (relay_keeps.often m n q).image
    where
      at : (k : ℕ) → Names a m k → received_row k a ≡ received_row k b
      at k n = h n.id k n.form (sym (row_kept b₀ a v n.id) ∙ n.secret)

  pub seal_reads : (id : ℕ) (m : List ℕ) → ((k : ℕ) → row_of b₀ id ≡ Some k → sent_row k a ≡ sent_row k b) → seal_of a id m ≡ seal_of b id m
  seal_reads id m h = seal_depends a b id m (record {
    secrets = secrets;
    key = λ k s e i. (at k e i).0;
    sent = λ k s e i. (at k e i).1;
  })
    where
      at : (k : ℕ) → row_of a id ≡ Some k → sent_row k a ≡ sent_row k b
      at k e = h k (sym (row_kept b₀ a v id) ∙ e)

-- ---- replays

-- an accepted message is a replay where its counter is not new to the row
pub replays : (b₀ a b : Book) (m : List ℕ) (k c : ℕ) → SameIds b₀ a → SameIds b₀ b → check_of a m ≡ accepting k c → new_to b k c ≡ false
    → check_of b m ≡ Err Replay
replays b₀ a b m k c v w e h =
    let x = accepted_accepts a m k c e in
    let row = row_kept b₀ b w x.id ∙ sym (row_kept b₀ a v x.id) ∙ x.secret in
    end_check b m _ (check_replay c k x.mac w.is_sound (record { id = x.id; form = x.form; secret = row }) h)

-- no counter up to an accepted one is new to the row afterwards
pub old_then : (b : Book) (m : List ℕ) (k c d : ℕ) → Sound b → check_of b m ≡ accepting k c → d ≤ c → new_to (book_after b (check m)) k d ≡ false
old_then b m k c d s e l = on (hears b s m k) e
  where
    on : {v : Result Accepted Refusal} {x : ℕ × ℕ} → Hears b m k v x → v ≡ accepting k c → new_with x d ≡ false
    on refuses a = cc
    on (elsewhere w n) a = absurd (n (accepting_parts a).0)
    on (here {c = e} w new) a =
        let q = (accepting_parts a).1 in
        counter_old e d (omega arith)

-- a counter that is not new to a row is not new to it after any step: the row was heard, so it has a larger counter now or is as it was
pub stays_old : (b : Book) (s : Step) (k c : ℕ) → Sound b → new_to b k c ≡ false → new_to (book_after b s) k c ≡ false
stays_old b (seal id m) k c h old = old
stays_old b (judge j m) k c h old = old
stays_old b (check m) k c h old = on (hears b h m k)
  where
    on : {v : Result Accepted Refusal} {x : ℕ × ℕ} → Hears b m k v x → new_with x c ≡ false
    on refuses = old
    on (elsewhere w n) = old
    on (here {c = d} w new) =
        let was = old_counter _ _ (heard_at b k) old in
        counter_old d c (omega (arith, was.1, above_new _ d (rw was.0 at new)))

-- a message that demand 2 doesn't accept leaves the book as it is
pub not_accepted : (b : Book) (m : List ℕ) → Sound b → ((k c : ℕ) → Accepts b m k c → ⊥) → book_after b (check m) ≡ b
not_accepted b m s h = on (check_of b m) refl
  where
    on : (v : Result Accepted Refusal) → check_of b m ≡ v → book_after b (check m) ≡ b
    on (Ok a) e = absurd (h a.row a.counter ((demand_2.accepted b s m a.row a.counter).0 e))
    on (Err r) e = rw e

-- ---- the server rows of a run: as many as at the start, and sound or not as they were then

pub record SameRows (a b : Servers) : Type 0 where
  pub soundness : sound_rows b ≡ sound_rows a
  pub room : length b.marks ≡ length a.marks

pub rows_refl : (s : Servers) → SameRows s s
rows_refl s = record { soundness = refl; room = refl }

pub rows_keep : (a b : Servers) (s : Step) → SameRows a b → SameRows a (rows_after b s)
rows_keep a b (check m) h = h
rows_keep a b (seal id m) h = h
rows_keep a b (judge k m) h = record { soundness = sound_kept b k m ∙ h.soundness; room = room_kept b k m ∙ h.room }

-- a step leaves sound rows sound, and rows that are not sound as they are
pub rows_sound : (s : Servers) → SoundRows s → (t : Step) → SoundRows (rows_after s t)
rows_sound s h (check m) = h
rows_sound s h (seal id m) = h
rows_sound s h (judge k m) = rows_kept_lem s k m h

pub rows_unsound : (s : Servers) → sound_rows s ≡ false → (t : Step) → rows_after s t ≡ s
rows_unsound s e (check m) = refl
rows_unsound s e (seal id m) = refl
rows_unsound s e (judge k m) = unsound_kept s k m e

-- a judgement that demand 2 doesn't accept leaves the rows as they are
pub not_heeded : (s : Servers) (k : ℕ) (m : List ℕ) → ((type c : ℕ) → Heeds s k m type c → ⊥) → rows_after s (judge k m) ≡ s
not_heeded s k m h = on (judge_of s k m) refl
  where
    believed : {A : Type 0} (type c : ℕ) → judged_of (judge_of s k m) ≡ heeding type c → A
    believed type c e = absurd (h type c ((demand_2.heeded s k m type c).0 e))

    on : (x : Judgement) → judge_of s k m ≡ x → rows_after s (judge k m) ≡ s
    on (takes c nonce) e = believed gives_nonce c (ap judged_of e)
    on (knows c) e = believed gives_nonce c (ap judged_of e)
    on (renews c) e = believed orders_renewal c (ap judged_of e)
    on (refused r) e = rw e

-- ---- orders that were believed

-- only an order is accepted with its type
order_renews : (x : Judgement) (c : ℕ) → judged_of x ≡ heeding orders_renewal c → x ≡ renews c
order_renews (takes d nonce) c e = let z = (heeding_parts e).0 in absurd (omega arith)
order_renews (knows d) c e = let z = (heeding_parts e).0 in absurd (omega arith)
order_renews (renews d) c e = ap renews (heeding_parts e).1
order_renews (refused r) c e = never cc

-- it leaves its row heard with its counter, and where a row is so it is a replay
pub order_heard : (s : Servers) (k : ℕ) (m : List ℕ) (c : ℕ) → judged_of (judge_of s k m) ≡ heeding orders_renewal c → Heard (rows_after s (judge k m)) k c
order_heard s k m c e = renews_heard s k m c c (order_renews (judge_of s k m) c e) (le_refl c)

pub order_again : (s t : Servers) (k : ℕ) (m : List ℕ) (c : ℕ) → judged_of (judge_of s k m) ≡ heeding orders_renewal c → Heard t k c
    → judge_of t k m ≡ refused Replay
order_again s t k m c e h = heard_replays s t k m c (order_renews (judge_of s k m) c e) h

-- and what is accepted with the other type gives a nonce
pub nonce_gives : (s : Servers) (k : ℕ) (m : List ℕ) (c : ℕ) → judged_of (judge_of s k m) ≡ heeding gives_nonce c → (nonce : List ℕ) × GivesNonce s k m c nonce
nonce_gives s k m c e = on ((demand_2.heeded s k m gives_nonce c).0 e) refl
  where
    on : {type d : ℕ} → Heeds s k m type d → type ≡ gives_nonce → (nonce : List ℕ) × GivesNonce s k m d nonce
    on (nonce_given {nonce = nonce} g) f = (nonce, g)
    on (renewal_ordered w) f = absurd (omega arith)

-- a nonce given to a heard row that is not another one leaves it so
nonce_known : (s : Servers) (k : ℕ) (m : List ℕ) (c d : ℕ) (nonce : List ℕ) → (OtherNonce s k m → ⊥) → Heard s k c → GivesNonce s k m d nonce
    → Heard (rows_after s (judge k m)) k c
nonce_known s k m c d nonce none h g = on (demand_2.nonce_stored s k m d nonce g)
  where
    there : get_or s.marks k 0 ≢ none_yet
    there = omega (arith, h.mark)

    on : {t : Servers} → Stores s k nonce t → Heard t k c
    on (had_it w) = h
    on (took_it f) = absurd (none (record { counter = d; nonce = nonce; gives = g; other = λ e. f (record { there = there; same = e }) }))

-- a row that is heard with a counter, or a larger one, stays so: only another nonce for it begins anew
pub stays_heard : (s : Servers) (t : Step) (k c : ℕ) → ((m : List ℕ) → t ≡ judge k m → OtherNonce s k m → ⊥) → Heard s k c → Heard (rows_after s t) k c
stays_heard s (check m) k c none h = h
stays_heard s (seal id m) k c none h = h
stays_heard s (judge j m) k c none h =
    elim (ℕ_discrete k j) [
      | no g ↦ heard_beside s j k m c g h
      | yes g ↦ rw (← g) (on (judge_of s k m) refl (λ o. none m (ap (λ (i : ℕ). judge i m) (sym g)) o))
    ]
  where
    given : (d : ℕ) → (OtherNonce s k m → ⊥) → judged_of (judge_of s k m) ≡ heeding gives_nonce d → Heard (rows_after s (judge k m)) k c
    given d none e = let g = nonce_gives s k m d e in nonce_known s k m c d g.0 none h g.1

    on : (x : Judgement) → judge_of s k m ≡ x → (OtherNonce s k m → ⊥) → Heard (rows_after s (judge k m)) k c
    on (takes d nonce) e none = given d none (ap judged_of e)
    on (knows d) e none = given d none (ap judged_of e)
    on (renews d) e none = renews_heard s k m c d e (le_of_lt (renews_above s k m c d e h))
    on (refused r) e none = rw e h
