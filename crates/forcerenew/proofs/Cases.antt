-- The ends of a judgement, each as one case: what is so where the judgement is this one (`judge_case`), and that it is this one where that is so
-- (`case_judge`). It unfolds `judge_of`, `shown_of` and `server_at`; so do Stored, for what a judgement depends on, and the code's `planned`.
use mathlib.Core.Path.{◌≡◌, refl, sym, ap, ◌∙◌, subst}
use mathlib.Core.Logic.{◌≢◌}
use mathlib.Core.Bool.{Bool, true, false, ◌&&◌, ◌||◌, not}
use mathlib.Core.List.{List}
use Prim.Native.Nat.{ℕ, ◌+◌, ◌*◌, ◌≤◌, ◌<◌}
use native.Mathlib.Decide.{ℕ_discrete}
use native.Mathlib.Omega.{arith}
use borrow.Author.Tests.{eqb-true, eqb-false, ltb-true, ltb-false, lt-ltb, le-ltb}
use lib.Dec.{ltb, eqb}
use lib.ListN.{length, get_or, drop, length-drop}
use lib.Seq.{length-take-le}
use Rattle.refusal.specs.declared.Refusal.{Refusal}
use Rattle.refusal.specs.declared.Refusal.TheVariants.{UnsoundBook, UnknownSecret, NotByNonce, WrongType, NoNonce, Replay, WrongMac}
use Rattle.octets.specs.Bytes.{starts, same_bytes}
use Rattle.octets.proofs.Comparing.{same_equal, same_differ, equal_same, differ_same}
use Rattle.hmac_md5.specs.Hmac.{hmac}
use Rattle.dhcp_message.specs.Shape.{shape_of}
use Rattle.dhcp_message.specs.Types.{message_type_of}
pub use Rattle.dhcp_message.proofs.Forms.{form_fits_lem, form_short}
use Rattle.dhcp_message.specs.declared.Places.{Places}
use Rattle.forcerenew.specs.Layout.{by_nonce}
use Rattle.forcerenew.specs.Rows.{Servers, SoundRows, sound_rows, Server, row_at, server_at}
use Rattle.forcerenew.specs.Shown.{Shown, unread, unfit, gives, orders, counter_in, type_in, value_in, image_at, goes_with, shown_at, shown_in, shown_of}
use Rattle.forcerenew.specs.Judging.{Judgement, takes, knows, renews, refused, given, ordered, known_to, new_to, judged_row, judged_shown, judge_of}
use Rattle.forcerenew.proofs.Soundness.{rows_say}
use Rattle.forcerenew.proofs.Leaves.{shown_length, shown_method, shown_type, shown_gives, shown_orders}
use Rattle.forcerenew.proofs.Leaves.{order_first, order_replay, order_wrong, order_renews}
use Rattle.std.specs.Prelude.{Err, None, Ok, Option, Result, Some, ℕ}
use Rattle.forcerenew.specs.Judging.{heeding}
use Rattle.refusal.specs.Number.{given_or}
use Rattle.forcerenew.specs.declared.Heeded.{Heeded}

-- ---- which type goes with which message

-- of a type that goes with the message type
pub data Matched (type : ℕ) (stated : Option ℕ) : Type 0 where
  nonce_in_ack : type ≡ 1 → stated ≡ Some 5 → Matched type stated
  mac_in_forcerenew : type ≡ 2 → stated ≡ Some 9 → Matched type stated

pub goes_matched : (type : ℕ) (stated : Option ℕ) → goes_with type stated ≡ true → Matched type stated
unfolding goes_with
goes_matched type None e = let z : ◌≡◌ {A = ℕ} 0 1 = cc in absurd (omega arith)
goes_matched type (Some n) e = by (eqb type 1) (eqb n 5) (eqb type 2) (eqb n 9) refl refl refl refl e
  where
    by : (a b c d : Bool) → eqb type 1 ≡ a → eqb n 5 ≡ b → eqb type 2 ≡ c → eqb n 9 ≡ d → ((a && b) || (c && d)) ≡ true → Matched type (Some n)
    by true true c d ea eb ec ed e = nonce_in_ack (eqb-true type 1 ea) (ap Some (eqb-true n 5 eb))
    by true false true true ea eb ec ed e = mac_in_forcerenew (eqb-true type 2 ec) (ap Some (eqb-true n 9 ed))
    by true false true false ea eb ec ed e = let z : ◌≡◌ {A = ℕ} 0 1 = cc in absurd (omega arith)
    by true false false d ea eb ec ed e = let z : ◌≡◌ {A = ℕ} 0 1 = cc in absurd (omega arith)
    by false b true true ea eb ec ed e = mac_in_forcerenew (eqb-true type 2 ec) (ap Some (eqb-true n 9 ed))
    by false b true false ea eb ec ed e = let z : ◌≡◌ {A = ℕ} 0 1 = cc in absurd (omega arith)
    by false b false d ea eb ec ed e = let z : ◌≡◌ {A = ℕ} 0 1 = cc in absurd (omega arith)

pub matched_goes : (type : ℕ) (stated : Option ℕ) → Matched type stated → goes_with type stated ≡ true
unfolding goes_with
matched_goes type stated (nonce_in_ack e f) = rw (e, f)
matched_goes type stated (mac_in_forcerenew e f) = rw (e, f)

-- ---- what an option 90 shows

-- its length, and its protocol, algorithm and replay method, are those of a nonce
pub record Formed (m : List ℕ) (o : ℕ) : Type 0 where
  pub size : get_or m (o + 1) 0 ≡ 28
  pub method : starts by_nonce (drop (o + 2) m) ≡ true

pub data ShownCase (m : List ℕ) (o : ℕ) : Shown → Type 0 where
  other_length : get_or m (o + 1) 0 ≢ 28 → ShownCase m o (unfit NotByNonce)
  other_method : starts by_nonce (drop (o + 2) m) ≡ false → ShownCase m o (unfit NotByNonce)
  other_type : Formed m o → goes_with (type_in m o) (message_type_of m) ≡ false → ShownCase m o (unfit WrongType)
  a_nonce : Formed m o → type_in m o ≡ 1 → message_type_of m ≡ Some 5 → ShownCase m o (gives (counter_in m o) (value_in m o))
  an_order : Formed m o → type_in m o ≡ 2 → message_type_of m ≡ Some 9 → ShownCase m o (orders (counter_in m o) (value_in m o) (image_at m o))

module _ (m : List ℕ) (o : ℕ) where
  pub shown_case : ShownCase m o (shown_at m o)
  shown_case = on (eqb (get_or m (o + 1) 0) 28) (starts by_nonce (drop (o + 2) m)) refl refl
    where
      typed : Formed m o → (t : Bool) → goes_with (type_in m o) (message_type_of m) ≡ t → ShownCase m o (shown_at m o)
      typed f false e = subst (ShownCase m o) (shown_type m o f.size f.method e) (other_type f e)
      typed f true e = by (goes_matched (type_in m o) (message_type_of m) e)
        where
          by : Matched (type_in m o) (message_type_of m) → ShownCase m o (shown_at m o)
          by (nonce_in_ack g h) = subst (ShownCase m o) (shown_gives m o f.size f.method e g) (a_nonce f g h)
          by (mac_in_forcerenew g h) = subst (ShownCase m o) (shown_orders m o f.size f.method e (λ x. omega arith)) (an_order f g h)

      on : (a b : Bool) → eqb (get_or m (o + 1) 0) 28 ≡ a → starts by_nonce (drop (o + 2) m) ≡ b → ShownCase m o (shown_at m o)
      on false b e f = let n = eqb-false _ _ e in subst (ShownCase m o) (shown_length m o n) (other_length n)
      on true false e f = subst (ShownCase m o) (shown_method m o (eqb-true _ _ e) f) (other_method f)
      on true true e f = typed (record { size = eqb-true _ _ e; method = f }) _ refl

  pub case_shown : (x : Shown) → ShownCase m o x → x ≡ shown_at m o
  case_shown x (other_length n) = shown_length m o n
  case_shown x (other_method e) =
      elim (ℕ_discrete (get_or m (o + 1) 0) 28) [ yes g ↦ shown_method m o g e | no g ↦ shown_length m o g ]
  case_shown x (other_type f e) = shown_type m o f.size f.method e
  case_shown x (a_nonce f g h) =
      shown_gives m o f.size f.method (matched_goes (type_in m o) (message_type_of m) (nonce_in_ack g h)) g
  case_shown x (an_order f g h) =
      shown_orders m o f.size f.method (matched_goes (type_in m o) (message_type_of m) (mac_in_forcerenew g h)) (λ e. omega arith)

-- ---- a judgement

-- the rows are sound, the message passes 2 to 7, and the row is there
pub record Placed (s : Servers) (k : ℕ) (m : List ℕ) (p : Places) : Type 0 where
  pub sound : sound_rows s ≡ true
  pub shape : shape_of m ≡ Ok p
  pub row : k < length s.marks

-- the parts of what is accepted
pub heeding_parts : {j c k d : ℕ} → heeding j c ≡ heeding k d → (j ≡ k) × (c ≡ d)
heeding_parts {j} {c} e =
    let none : Heeded = record { kind = j; counter = c } in
    let same = ap (given_or none) e in
    (ap (λ (a : Heeded). a.kind) same, ap (λ (a : Heeded). a.counter) same)

pub data JudgeCase (s : Servers) (k : ℕ) (m : List ℕ) : Judgement → Type 0 where
  judge_unsound : sound_rows s ≡ false → JudgeCase s k m (refused UnsoundBook)
  judge_unread : {r : Refusal} → sound_rows s ≡ true → shape_of m ≡ Err r → JudgeCase s k m (refused r)
  judge_no_row : {p : Places} → sound_rows s ≡ true → shape_of m ≡ Ok p → length s.marks ≤ k → JudgeCase s k m (refused UnknownSecret)
  judge_unfit : {p : Places} {r : Refusal} → Placed s k m p → ShownCase m p.at (unfit r) → JudgeCase s k m (refused r)
  judge_takes : {p : Places} {c : ℕ} {nonce : List ℕ} → Placed s k m p → ShownCase m p.at (gives c nonce) → known_to (row_at s k) nonce ≡ false
      → JudgeCase s k m (takes c nonce)
  judge_knows : {p : Places} {c : ℕ} {nonce : List ℕ} → Placed s k m p → ShownCase m p.at (gives c nonce) → known_to (row_at s k) nonce ≡ true
      → JudgeCase s k m (knows c)
  judge_no_nonce : {p : Places} {c : ℕ} {mac image : List ℕ} → Placed s k m p → ShownCase m p.at (orders c mac image) → (row_at s k).mark ≡ 0
      → JudgeCase s k m (refused NoNonce)
  judge_replay : {p : Places} {c : ℕ} {mac image : List ℕ} → Placed s k m p → ShownCase m p.at (orders c mac image) → (row_at s k).mark ≢ 0
      → new_to (row_at s k) c ≡ false → JudgeCase s k m (refused Replay)
  judge_wrong : {p : Places} {c : ℕ} {mac image : List ℕ} → Placed s k m p → ShownCase m p.at (orders c mac image) → (row_at s k).mark ≢ 0
      → new_to (row_at s k) c ≡ true → mac ≢ hmac (row_at s k).nonce image → JudgeCase s k m (refused WrongMac)
  judge_renews : {p : Places} {c : ℕ} {mac image : List ℕ} → Placed s k m p → ShownCase m p.at (orders c mac image) → (row_at s k).mark ≢ 0
      → new_to (row_at s k) c ≡ true → mac ≡ hmac (row_at s k).nonce image → JudgeCase s k m (renews c)

module _ (s : Servers) (k : ℕ) where
  pub row_there : k < length s.marks → server_at s k ≡ Some (row_at s k)
  unfolding server_at
  row_there h = rw (lt-ltb _ _ h)

  pub row_missing : length s.marks ≤ k → server_at s k ≡ None
  unfolding server_at
  row_missing h = rw (le-ltb _ _ h)

-- of a row that is there, 2 to 7 don't stop what option 90 shows
pub at_row : (w : Server) (x : Shown) → judged_shown (Some w) x ≡ judged_row w x
at_row w (unread r) = refl
at_row w (unfit r) = refl
at_row w (gives c nonce) = refl
at_row w (orders c mac image) = refl

-- what the code's `planned` rests on, of a row that is there: this, and that what passes 2 to 7 is short enough and has a whole option 90
pub ruleset planned_laws = (row_there, at_row, form_short, form_fits_lem)

-- of a row that is not there, 10 whatever it shows
no_row : (m : List ℕ) (o : ℕ) → judged_shown None (shown_at m o) ≡ refused UnknownSecret
no_row m o = on (shown_at m o) (shown_case m o)
  where
    on : (x : Shown) → ShownCase m o x → judged_shown None x ≡ refused UnknownSecret
    on x (other_length n) = refl
    on x (other_method e) = refl
    on x (other_type f e) = refl
    on x (a_nonce f g h) = refl
    on x (an_order f g h) = refl

module _ (s : Servers) (k : ℕ) (m : List ℕ) where
  unsound_is : sound_rows s ≡ false → judge_of s k m ≡ refused UnsoundBook
  unfolding judge_of
  unsound_is e = rw e

  sound_is : sound_rows s ≡ true → (x : Result Places Refusal) → shape_of m ≡ x → judge_of s k m ≡ judged_shown (server_at s k) (shown_in m x)
  unfolding judge_of shown_of
  sound_is e x f = rw e (ap (λ (y : Result Places Refusal). judged_shown (server_at s k) (shown_in m y)) f)

  module _ (p : Places) (sound : sound_rows s ≡ true) (shape : shape_of m ≡ Ok p) where
    pub missing_is : length s.marks ≤ k → judge_of s k m ≡ refused UnknownSecret
    missing_is h =
        sound_is sound (Ok p) shape ∙ ap (λ (o : Option Server). judged_shown o (shown_at m p.at)) (row_missing s k h)
        ∙ no_row m p.at

    row_is : k < length s.marks → judge_of s k m ≡ judged_row (row_at s k) (shown_at m p.at)
    row_is h =
        sound_is sound (Ok p) shape ∙ ap (λ (o : Option Server). judged_shown o (shown_at m p.at)) (row_there s k h)
        ∙ at_row (row_at s k) (shown_at m p.at)

  module _ (p : Places) (q : Placed s k m p) where
    abbrev w : Server
    w = row_at s k

    shown_is : (x : Shown) → ShownCase m p.at x → judge_of s k m ≡ judged_row w x
    shown_is x h = row_is p q.sound q.shape q.row ∙ ap (judged_row w) (sym (case_shown m p.at x h))

    by_row : (x : Shown) → ShownCase m p.at x → JudgeCase s k m (judged_row w x)
    by_row x (other_length n) = judge_unfit q (other_length n)
    by_row x (other_method e) = judge_unfit q (other_method e)
    by_row x (other_type f e) = judge_unfit q (other_type f e)
    by_row x (a_nonce f g h) = on (known_to w (value_in m p.at)) refl
      where
        on : (t : Bool) → known_to w (value_in m p.at) ≡ t → JudgeCase s k m (given (counter_in m p.at) (value_in m p.at) t)
        on false e = judge_takes q (a_nonce f g h) e
        on true e = judge_knows q (a_nonce f g h) e
    by_row x (an_order f g h) = on (eqb w.mark 0) refl (new_to w c) refl (same_bytes (value_in m p.at) (hmac w.nonce (image_at m p.at))) refl
      where
        c : ℕ
        c = counter_in m p.at

        on : (z : Bool) → eqb w.mark 0 ≡ z → (n : Bool) → new_to w c ≡ n → (r : Bool)
            → same_bytes (value_in m p.at) (hmac w.nonce (image_at m p.at)) ≡ r → JudgeCase s k m (ordered c (not z) n r)
        on true e n en r er = judge_no_nonce q (an_order f g h) (eqb-true _ _ e)
        on false e false en r er = judge_replay q (an_order f g h) (eqb-false _ _ e) en
        on false e true en false er = judge_wrong q (an_order f g h) (eqb-false _ _ e) en (same_differ _ _ er)
        on false e true en true er = judge_renews q (an_order f g h) (eqb-false _ _ e) en (same_equal _ _ er)

  pub judge_case : JudgeCase s k m (judge_of s k m)
  judge_case = on (sound_rows s) refl (shape_of m) refl
    where
      there : (p : Places) → sound_rows s ≡ true → shape_of m ≡ Ok p → (t : Bool) → ltb k (length s.marks) ≡ t → JudgeCase s k m (judge_of s k m)
      there p e f false g =
          let l = ltb-false k (length s.marks) g in
          subst (JudgeCase s k m) (sym (missing_is p e f l)) (judge_no_row e f l)
      there p e f true g =
          let q : Placed s k m p = record { sound = e; shape = f; row = ltb-true k (length s.marks) g } in
          subst (JudgeCase s k m) (sym (row_is p e f q.row)) (by_row p q (shown_at m p.at) (shown_case m p.at))

      on : (t : Bool) → sound_rows s ≡ t → (x : Result Places Refusal) → shape_of m ≡ x → JudgeCase s k m (judge_of s k m)
      on false e x f = subst (JudgeCase s k m) (sym (unsound_is e)) (judge_unsound e)
      on true e (Err r) f = subst (JudgeCase s k m) (sym (sound_is e (Err r) f)) (judge_unread e f)
      on true e (Ok p) f = there p e f _ refl

  pub case_judge : (j : Judgement) → JudgeCase s k m j → judge_of s k m ≡ j
  case_judge j (judge_unsound e) = unsound_is e
  case_judge j (judge_unread {r} e f) = sound_is e (Err r) f
  case_judge j (judge_no_row {p} e f l) = missing_is p e f l
  case_judge j (judge_unfit {p} {r} q h) = shown_is p q (unfit r) h
  case_judge j (judge_takes {p} {c} {nonce} q h e) = shown_is p q (gives c nonce) h ∙ ap (given c nonce) e
  case_judge j (judge_knows {p} {c} {nonce} q h e) = shown_is p q (gives c nonce) h ∙ ap (given c nonce) e
  case_judge j (judge_no_nonce {p} {c} {mac} {image} q h e) = shown_is p q (orders c mac image) h ∙ sym (order_first (row_at s k) c mac image e)
  case_judge j (judge_replay {p} {c} {mac} {image} q h n e) = shown_is p q (orders c mac image) h ∙ sym (order_replay (row_at s k) c mac image n e)
  case_judge j (judge_wrong {p} {c} {mac} {image} q h n e d) =
      shown_is p q (orders c mac image) h ∙ sym (order_wrong (row_at s k) c mac image n e (differ_same _ _ d))
  case_judge j (judge_renews {p} {c} {mac} {image} q h n e d) =
      shown_is p q (orders c mac image) h ∙ sym (order_renews (row_at s k) c mac image n e (equal_same _ _ d))

-- ---- what is known of a judgement that stores something

-- the rows are sound, and the row is there
pub record Room (s : Servers) (k : ℕ) : Type 0 where
  pub sound : SoundRows s
  pub in_marks : k < length s.marks
  pub in_counters : k < length s.counters
  pub in_nonces : 16 * k + 16 ≤ length s.nonces

room : (s : Servers) (k : ℕ) → sound_rows s ≡ true → k < length s.marks → Room s k
room s k e h =
    let w = (rows_say.sound s).0 e in
    record { sound = w; in_marks = h; in_counters = omega (arith, w.counters_agree); in_nonces = omega (arith, w.nonces_agree) }

-- a nonce has sixteen bytes, which are the message's
value_size_lem : (m : List ℕ) (p : Places) (c : ℕ) (nonce : List ℕ) → shape_of m ≡ Ok p → ShownCase m p.at (gives c nonce) → length nonce ≡ 16
value_size_lem m p c nonce e (a_nonce f g h) =
    length-take-le 16 (drop (p.at + 14) m) (omega (arith, form_fits_lem m p (sym e), f.size, length-drop (p.at + 14) m))

module _ (s : Servers) (k : ℕ) (m : List ℕ) where
  abbrev Known : Judgement → Type 0
  Known (takes c nonce) = Room s k × (length nonce ≡ 16)
  Known (knows c) = Room s k
  Known (renews c) = Room s k
  Known (refused r) = Unit {0}

  known_by : (j : Judgement) → JudgeCase s k m j → Known j
  known_by j (judge_unsound e) = tt
  known_by j (judge_unread e f) = tt
  known_by j (judge_no_row e f l) = tt
  known_by j (judge_unfit q h) = tt
  known_by j (judge_takes {p} {c} {nonce} q h e) = (room s k q.sound q.row, value_size_lem m p c nonce q.shape h)
  known_by j (judge_knows q h e) = room s k q.sound q.row
  known_by j (judge_no_nonce q h e) = tt
  known_by j (judge_replay q h n e) = tt
  known_by j (judge_wrong q h n e d) = tt
  known_by j (judge_renews q h n e d) = room s k q.sound q.row

  pub known : (j : Judgement) → j ≡ judge_of s k m → Known j
  known j e = known_by j (subst (JudgeCase s k m) (sym e) (judge_case s k m))
