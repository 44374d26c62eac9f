-- What a judgement stores in server rows: it goes by one row, and keeps the number of rows and their soundness; the row that it leaves; how long an
-- order that was believed is a replay; and rows that agree one by one are the same.
use mathlib.Core.Path.{◌≡◌, refl, sym, ap, subst, ◌∙◌}
use mathlib.Core.Logic.{◌≢◌}
use mathlib.Core.Bool.{Bool, true, false, true≢false}
use mathlib.Core.List.{List, ◌++◌}
use Rattle.std.proofs.lemmas.Option.{same_Some}
use Prim.Native.Nat.{ℕ, ◌+◌, ◌*◌, ◌/◌, ◌%◌, ◌≤◌, ◌<◌}
use native.Mathlib.Decide.{ℕ_discrete, dec_lt}
use native.Mathlib.Omega.{arith}
use lib.Dec.{eqb}
use lib.ListN.{length, get_or, set, take, drop, length-drop, length-set, take-append-drop}
use lib.Seq.{length-take-le, take-append-le, drop-append-le, take_at, drop_at, get_or-take, get_or-drop, get_or-set_same, get_or-set_other, ext_get_or}
use Rattle.refusal.specs.declared.Refusal.TheVariants.{Replay}
use Rattle.octets.specs.Bytes.{written}
use Rattle.octets.proofs.Written.{length_written, drop_written, written_parts}
use Rattle.dhcp_message.specs.Replay.{is_new}
use Rattle.dhcp_message.proofs.Replays.{above_new, counter_old}
use Rattle.forcerenew.specs.Layout.{value_size}
use Rattle.forcerenew.specs.Rows.{not_heard, heard, Servers, SoundRows, sound_rows, Server, nonce_at, row_at, server_at}
use Rattle.forcerenew.specs.Judging.{Judgement, takes, knows, renews, refused, new_to, judge_of}
use Rattle.forcerenew.specs.Judging.{nonces_after, counters_after, row_marks_after, servers_after}
use Rattle.forcerenew.proofs.Soundness.{rows_say}
use Rattle.forcerenew.proofs.Cases.{JudgeCase, judge_replay, judge_renews, judge_case, case_judge, row_there, row_missing, Room, known}
use Rattle.std.specs.Prelude.{None, Option, Some, option_map}

-- a judgement goes by the rows' soundness and by one row
pub judge_depends : (a b : Servers) (k : ℕ) (m : List ℕ) → sound_rows a ≡ sound_rows b → server_at a k ≡ server_at b k → judge_of a k m ≡ judge_of b k m
unfolding judge_of
judge_depends a b k m e f = rw (e, f)

-- ---- what a judgement keeps

marks_size : (k : ℕ) (x : Judgement) (marks : List ℕ) → length (row_marks_after k x marks) ≡ length marks
marks_size k (takes c nonce) marks = length-set marks k not_heard
marks_size k (knows c) marks = refl
marks_size k (renews c) marks = length-set marks k heard
marks_size k (refused r) marks = refl

counters_size : (k : ℕ) (x : Judgement) (counters : List ℕ) → length (counters_after k x counters) ≡ length counters
counters_size k (takes c nonce) counters = length-set counters k 0
counters_size k (knows c) counters = refl
counters_size k (renews c) counters = length-set counters k c
counters_size k (refused r) counters = refl

-- another mark leaves marks known where it is one of the three
mark_set : (marks : List ℕ) (k mark : ℕ) → mark ≤ heard → ((j : ℕ) → j < length marks → get_or marks j 0 ≤ heard)
    → (j : ℕ) → j < length marks → get_or (set marks k mark) j 0 ≤ heard
mark_set marks k mark l h j i =
    elim (ℕ_discrete j k) [
      | no g ↦ rw (get_or-set_other marks k j mark 0 g) (h j i)
      | yes g ↦ let at-k : k < length marks = omega arith in rw (g, get_or-set_same marks k mark 0 at-k) l
    ]

marks_stay : (k : ℕ) (x : Judgement) (marks : List ℕ) → ((j : ℕ) → j < length marks → get_or marks j 0 ≤ heard)
    → (j : ℕ) → j < length marks → get_or (row_marks_after k x marks) j 0 ≤ heard
marks_stay k (takes c nonce) marks h = mark_set marks k not_heard (omega arith) h
marks_stay k (knows c) marks h = h
marks_stay k (renews c) marks h = mark_set marks k heard (omega arith) h
marks_stay k (refused r) marks h = h

module _ (s : Servers) (k : ℕ) (m : List ℕ) where
  abbrev after : Servers
  after = servers_after k (judge_of s k m) s

  -- a nonce that is taken fits its row
  taken_fits : (c : ℕ) (nonce : List ℕ) → takes c nonce ≡ judge_of s k m → value_size * k + length nonce ≤ length s.nonces
  taken_fits c nonce e = let w = known s k m (takes c nonce) e in omega (arith, w.0.in_nonces, w.1)

  nonces_size : (x : Judgement) → x ≡ judge_of s k m → length (nonces_after k x s.nonces) ≡ length s.nonces
  nonces_size (takes c nonce) e = length_written (value_size * k) nonce s.nonces (taken_fits c nonce e)
  nonces_size (knows c) e = refl
  nonces_size (renews c) e = refl
  nonces_size (refused r) e = refl

  -- the rows are as many as before
  pub room_kept : length after.marks ≡ length s.marks
  room_kept = marks_size k (judge_of s k m) s.marks

  pub rows_kept_lem : SoundRows s → SoundRows after
  rows_kept_lem h = record {
    nonces_agree = nonces_size (judge_of s k m) refl ∙ h.nonces_agree ∙ ap (λ (n : ℕ). value_size * n) (sym room_kept);
    counters_agree = counters_size k (judge_of s k m) s.counters ∙ h.counters_agree ∙ sym room_kept;
    marks_known_lem = λ j l. marks_stay k (judge_of s k m) s.marks h.marks_known_lem j (rw room_kept at l);
  }

  -- where the rows are not sound nothing is stored
  pub unsound_kept : sound_rows s ≡ false → after ≡ s
  unsound_kept e = on (judge_of s k m) refl
    where
      never : {A : Type 0} → Room s k → A
      never room = absurd (true≢false (sym ((rows_say.sound s).1 room.sound) ∙ e))

      on : (x : Judgement) → x ≡ judge_of s k m → servers_after k x s ≡ s
      on (takes c nonce) f = never (known s k m (takes c nonce) f).0
      on (knows c) f = refl
      on (renews c) f = never (known s k m (renews c) f)
      on (refused r) f = refl

  -- sound or not, as before
  pub sound_kept : sound_rows after ≡ sound_rows s
  sound_kept = on (sound_rows s) refl
    where
      on : (t : Bool) → sound_rows s ≡ t → sound_rows after ≡ sound_rows s
      on true e = (rows_say.sound after).1 (rows_kept_lem ((rows_say.sound s).0 e)) ∙ sym e
      on false e = ap sound_rows (unsound_kept e)

-- ---- the row that a judgement leaves

-- a part of the first of two lists, whatever the second
part_front : (i n : ℕ) (p q : List ℕ) → i + n ≤ length p → take n (drop i (p ++ q)) ≡ take n (drop i p)
part_front i n p q l =
    let inside : n ≤ length (drop i p) = rw length-drop (omega arith) in
    ap (take n) (drop-append-le i p q (omega arith)) ∙ take-append-le n (drop i p) q inside

module _ (at : ℕ) (new old : List ℕ) (fits : at + length new ≤ length old) where
  -- what is written is read back
  part_new : (n : ℕ) → length new ≡ n → take n (drop at (written at new old)) ≡ new
  part_new n e =
      ap (λ (x : List ℕ). take n (drop at x)) (written_parts at new old)
      ∙ ap (take n) (drop_at (take at old) (new ++ drop (at + length new) old) at (length-take-le at old (omega arith)))
      ∙ take_at new (drop (at + length new) old) n e

  -- and what stands before it or behind it is as it was
  part_before : (i n : ℕ) → i + n ≤ at → take n (drop i (written at new old)) ≡ take n (drop i old)
  part_before i n l =
      let front = take at old in
      let inside : i + n ≤ length front = rw (length-take-le at old (omega arith)) l in
      ap (λ (x : List ℕ). take n (drop i x)) (written_parts at new old) ∙ part_front i n front (new ++ drop (at + length new) old) inside
      ∙ sym (part_front i n front (drop at old) inside) ∙ ap (λ (x : List ℕ). take n (drop i x)) (take-append-drop at old)

  part_behind : (i n : ℕ) → at + length new ≤ i → i ≤ length old → take n (drop i (written at new old)) ≡ take n (drop i old)
  part_behind i n l h = ap (take n) (drop_written i at new old l h)

-- of another row mark and counter are as they were
marks_other : (k j : ℕ) (x : Judgement) (marks : List ℕ) → j ≢ k → get_or (row_marks_after k x marks) j 0 ≡ get_or marks j 0
marks_other k j (takes c nonce) marks n = get_or-set_other marks k j not_heard 0 n
marks_other k j (knows c) marks n = refl
marks_other k j (renews c) marks n = get_or-set_other marks k j heard 0 n
marks_other k j (refused r) marks n = refl

counters_other : (k j : ℕ) (x : Judgement) (counters : List ℕ) → j ≢ k → get_or (counters_after k x counters) j 0 ≡ get_or counters j 0
counters_other k j (takes c nonce) counters n = get_or-set_other counters k j 0 0 n
counters_other k j (knows c) counters n = refl
counters_other k j (renews c) counters n = get_or-set_other counters k j c 0 n
counters_other k j (refused r) counters n = refl

-- the row that is left, by the row before
abbrev pub row_left : Judgement → Server → Server
row_left (takes c nonce) w = record { nonce = nonce; counter = 0; mark = not_heard }
row_left (knows c) w = w
row_left (renews c) w = record { nonce = w.nonce; counter = c; mark = heard }
row_left (refused r) w = w

-- three fields that agree
same_server : (n n' : List ℕ) (c c' mark mark' : ℕ) → n ≡ n' → c ≡ c' → mark ≡ mark'
    → ◌≡◌ {A = Server} (record { nonce = n; counter = c; mark = mark }) (record { nonce = n'; counter = c'; mark = mark' })
same_server n n' c c' mark mark' e f g = λ i. record { nonce = e i; counter = f i; mark = g i }

module _ (s : Servers) (k : ℕ) (m : List ℕ) where
  abbrev left : Servers
  left = servers_after k (judge_of s k m) s

  -- and its nonce
  nonces_other : (j : ℕ) → j ≢ k → j < length s.marks → (x : Judgement) → x ≡ judge_of s k m
      → take value_size (drop (value_size * j) (nonces_after k x s.nonces)) ≡ nonce_at s j
  nonces_other j n l (knows c) e = refl
  nonces_other j n l (renews c) e = refl
  nonces_other j n l (refused r) e = refl
  nonces_other j n l (takes c nonce) e =
      let w = known s k m (takes c nonce) e in
      let agree = w.0.sound.nonces_agree in
      let fits = taken_fits s k m c nonce e in
      elim (dec_lt j k) [
        | yes g ↦ part_before (value_size * k) nonce s.nonces fits (value_size * j) value_size (omega arith)
        | no g ↦ part_behind (value_size * k) nonce s.nonces fits (value_size * j) value_size (omega (arith, w.1, n)) (omega arith)
      ]

  pub row_other : (j : ℕ) → j ≢ k → server_at left j ≡ server_at s j
  row_other j n =
      elim (dec_lt j (length s.marks)) [
        | yes l ↦ row_there left j (rw (room_kept s k m) l)
            ∙ ap Some
            (same_server _ _ _ _ _ _ (nonces_other j n l (judge_of s k m) refl) (counters_other k j (judge_of s k m) s.counters n)
            (marks_other k j (judge_of s k m) s.marks n))
            ∙ sym (row_there s j l)
        | no l ↦ row_missing left j (rw (room_kept s k m) (omega arith)) ∙ sym (row_missing s j (omega arith))
      ]

  pub row_left_lem : server_at left k ≡ option_map (row_left (judge_of s k m)) (server_at s k)
  row_left_lem = on (judge_of s k m) refl
    where
      as_it_was : (o : Option Server) → o ≡ option_map (λ (w : Server). w) o
      as_it_was None = refl
      as_it_was (Some w) = refl

      -- of a row that is there, by its fields
      by_fields : (x : Judgement) → k < length s.marks → row_at (servers_after k x s) k ≡ row_left x (row_at s k)
          → server_at (servers_after k x s) k ≡ option_map (row_left x) (server_at s k)
      by_fields x l e =
          row_there (servers_after k x s) k (rw (marks_size k x s.marks) l) ∙ ap Some e
          ∙ ap (option_map (row_left x)) (sym (row_there s k l))

      on : (x : Judgement) → x ≡ judge_of s k m → server_at (servers_after k x s) k ≡ option_map (row_left x) (server_at s k)
      on (knows c) e = as_it_was (server_at s k)
      on (refused r) e = as_it_was (server_at s k)
      on (takes c nonce) e =
          let w = known s k m (takes c nonce) e in
          by_fields (takes c nonce) w.0.in_marks
          (same_server _ _ _ _ _ _ (part_new (value_size * k) nonce s.nonces (taken_fits s k m c nonce e) value_size w.1)
          (get_or-set_same s.counters k 0 0 w.0.in_counters) (get_or-set_same s.marks k not_heard 0 w.0.in_marks))
      on (renews c) e =
          let w = known s k m (renews c) e in
          by_fields (renews c) w.in_marks
          (same_server _ _ _ _ _ _ refl (get_or-set_same s.counters k c 0 w.in_counters) (get_or-set_same s.marks k heard 0 w.in_marks))

-- ---- orders that were believed

-- row k of sound rows is heard, with this counter or a larger one
pub record Heard (s : Servers) (k c : ℕ) : Type 0 where
  pub sound : SoundRows s
  pub there : k < length s.marks
  pub mark : get_or s.marks k 0 ≡ heard
  pub counter : c ≤ get_or s.counters k 0

-- whether a counter is new to such a row
new_heard : (s : Servers) (k c d : ℕ) → Heard s k c → new_to (row_at s k) d ≡ is_new true (get_or s.counters k 0) d
new_heard s k c d h = ap (λ (x : ℕ). is_new (eqb x heard) (get_or s.counters k 0) d) h.mark

-- an order leaves its row so
pub renews_heard : (s : Servers) (k : ℕ) (m : List ℕ) (c d : ℕ) → judge_of s k m ≡ renews d → c ≤ d → Heard (servers_after k (judge_of s k m) s) k c
renews_heard s k m c d e l =
    let w = known s k m (renews d) (sym e) in
    record {
      sound = rows_kept_lem s k m w.sound;
      there = rw (room_kept s k m) w.in_marks;
      mark = rw e (get_or-set_same s.marks k heard 0 w.in_marks);
      counter = rw (e, get_or-set_same s.counters k d 0 w.in_counters) l;
    }

-- an order that is believed of such a row has a larger counter
pub renews_above : (s : Servers) (k : ℕ) (m : List ℕ) (c d : ℕ) → judge_of s k m ≡ renews d → Heard s k c → c < d
renews_above s k m c d e h = on (subst (JudgeCase s k m) e (judge_case s k m))
  where
    on : JudgeCase s k m (renews d) → c < d
    on (judge_renews q shown n new right) = omega (arith, h.counter, above_new (get_or s.counters k 0) d (sym (new_heard s k c d h) ∙ new))

-- a judgement of another row changes nothing of it
pub heard_beside : (s : Servers) (j k : ℕ) (m : List ℕ) (c : ℕ) → k ≢ j → Heard s k c → Heard (servers_after j (judge_of s j m) s) k c
heard_beside s j k m c n h = record {
  sound = rows_kept_lem s j m h.sound;
  there = rw (room_kept s j m) h.there;
  mark = marks_other j k (judge_of s j m) s.marks n ∙ h.mark;
  counter = rw (counters_other j k (judge_of s j m) s.counters n) h.counter;
}

-- an order that was believed, wherever it was, is a replay where its row is so
pub heard_replays : (s t : Servers) (k : ℕ) (m : List ℕ) (c : ℕ) → judge_of s k m ≡ renews c → Heard t k c → judge_of t k m ≡ refused Replay
heard_replays s t k m c e h = on (subst (JudgeCase s k m) e (judge_case s k m))
  where
    on : JudgeCase s k m (renews c) → judge_of t k m ≡ refused Replay
    on (judge_renews q shown n new right) =
        case_judge t k m (refused Replay)
        (judge_replay (record { sound = (rows_say.sound t).1 h.sound; shape = q.shape; row = h.there }) shown (omega (arith, h.mark))
        (new_heard t k c c h ∙ counter_old (get_or t.counters k 0) c h.counter))

-- ---- rows that agree one by one

-- the byte at i is that of row i / 16
nonce_byte : (s : Servers) (i : ℕ) → get_or s.nonces i 0 ≡ get_or (nonce_at s (i / value_size)) (i % value_size) 0
nonce_byte s i =
    let q = i / value_size in
    let r = i % value_size in
    sym
    (get_or-take value_size (drop (value_size * q) s.nonces) r 0 (omega arith)
    ∙ get_or-drop (value_size * q) s.nonces r 0
    ∙ ap (λ (x : ℕ). get_or s.nonces x 0) (omega arith))

pub same_rows : (a b : Servers) → sound_rows a ≡ true → sound_rows b ≡ true → length a.marks ≡ length b.marks
    → ((k : ℕ) → server_at a k ≡ server_at b k) → a ≡ b
same_rows a b e f room same = λ i. record { nonces = nonces i; counters = counters i; marks = marks i }
  where
    x : SoundRows a
    x = (rows_say.sound a).0 e

    y : SoundRows b
    y = (rows_say.sound b).0 f

    row : (k : ℕ) → k < length a.marks → row_at a k ≡ row_at b k
    row k l = same_Some _ _ (sym (row_there a k l) ∙ same k ∙ row_there b k (omega arith))

    nonces : a.nonces ≡ b.nonces
    nonces = ext_get_or 0 a.nonces b.nonces (omega (arith, x.nonces_agree, y.nonces_agree)) (λ i l.
        nonce_byte a i
        ∙ ap (λ (w : Server). get_or w.nonce (i % value_size) 0) (row (i / value_size) (omega (arith, x.nonces_agree)))
        ∙ sym (nonce_byte b i))

    counters : a.counters ≡ b.counters
    counters = ext_get_or 0 a.counters b.counters (omega (arith, x.counters_agree, y.counters_agree)) (λ k l.
        ap (λ (w : Server). w.counter) (row k (omega (arith, x.counters_agree))))

    marks : a.marks ≡ b.marks
    marks = ext_get_or 0 a.marks b.marks room (λ k l. ap (λ (w : Server). w.mark) (row k l))
