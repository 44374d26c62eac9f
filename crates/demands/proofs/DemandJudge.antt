-- Demand 1 for the judgement by a nonce, and demand 2's counterpart: the ends of a judgement (forcerenew, proofs/Cases.antt) in the demands' words.
use mathlib.Core.Path.{◌≡◌, refl, sym, ap, ap₂, ◌∙◌, subst}
use mathlib.Core.Logic.{◌≢◌, ◌⊎◌, ◌↔◌, inl, inr}
use mathlib.Core.Bool.{Bool, true, false, cond, ◌&&◌, not, true≢false, and-eq-true_iff}
use mathlib.Core.List.{List, [], ◌∷◌}
use Prim.Native.Nat.{ℕ, suc, ◌+◌, ◌≤◌, ◌<◌}
use native.Mathlib.Nat.{zero-add}
use native.Mathlib.Decide.{dec_le}
use native.Mathlib.Omega.{arith}
use borrow.Author.Tests.{eq-eqb, ne_eqb, eqb-true}
use lib.Dec.{eqb}
use lib.ListN.{length, get_or, take, drop}
use Rattle.refusal.specs.Number.{number_of, done, result_number}
use Rattle.refusal.specs.First.{First}
use Rattle.refusal.specs.declared.Refusal.{Refusal}
use Rattle.refusal.specs.declared.Refusal.TheVariants.{UnsoundBook, MessageSize, WrongCookie, BrokenOptions, NoAuthentication, RepeatedAuthentication}
use Rattle.refusal.specs.declared.Refusal.TheVariants.{RelayInformation, UnknownSecret, Replay, WrongMac}
use Rattle.refusal.specs.declared.Refusal.TheVariants.{NotByNonce, WrongType, NoNonce}
use Rattle.refusal.proofs.First.{in_place, RightIn, first}
use Rattle.octets.specs.Bytes.{Bytes, same_bytes}
use Rattle.octets.proofs.Starts.{starts_true, starts_taken, starts_not}
use Rattle.octets.proofs.Comparing.{same_equal, equal_same}
use Rattle.hmac_md5.specs.Hmac.{hmac}
use Rattle.dhcp_message.specs.Numbers.{Applies, wrong_size, wrong_cookie, broken_options, no_authentication, repeated_authentication}
use Rattle.dhcp_message.specs.Numbers.{repeated_relay_information, other_form as other-delayed, request_form}
use Rattle.dhcp_message.specs.Shape.{shape_of}
use Rattle.dhcp_message.specs.Types.{message_type_of}
use Rattle.dhcp_message.specs.declared.Places.{Places}
use Rattle.dhcp_message.proofs.Lowest.{shape_given}
use Rattle.dhcp_message.proofs.Replays.{new_says}
use Rattle.forcerenew.specs.Layout.{by_nonce}
use Rattle.forcerenew.specs.Rows.{Servers, SoundRows, sound_rows, nonce_at, row_at}
use Rattle.forcerenew.specs.Shown.{Shown, gives, orders, unfit, counter_in, type_in, value_in, image_at}
use Rattle.forcerenew.specs.Judging.{Judgement, takes, knows, renews, refused, known_to, new_to, judge_of, judged_of, servers_after}
use Rattle.forcerenew.proofs.Soundness.{rows_say}
use Rattle.forcerenew.proofs.Cases as cases
use Rattle.forcerenew.proofs.Cases.{heeding_parts, Formed, ShownCase, other_length, other_method, other_type, a_nonce, an_order}
use Rattle.forcerenew.proofs.Cases.{Placed, JudgeCase, judge_case, case_judge}
use Rattle.demands.specs.Accepts.{OptionAt, ByNonce, GivesNonce, OrdersRenewal, Heeds, nonce_given, renewal_ordered, HasNonce, Stores, had_it, took_it}
use Rattle.demands.specs.Demand1.{GoesWith, nonce_in_ack, mac_in_forcerenew, JudgeApplies, not_sound, by_shape, no_row, other_form}
use Rattle.demands.specs.Demand1.{wrong_type, no_nonce, not_new, differs, judging_order}
use Rattle.demands.proofs.Below.{never}
use Rattle.demands.proofs.Runs.{lt_at}
use Rattle.std.specs.Prelude.{Err, None, Ok, Option, Some, slice_get}
use Rattle.forcerenew.specs.Judging.{heeding}

-- ---- the places of the order

-- where a number stands in a list of refusals; behind its end where it doesn't
place_in : ℕ → List Refusal → ℕ
place_in n [] = 0
place_in n (q ∷ l) = cond (eqb (number_of q) n) 0 (suc (place_in n l))

place_of : Refusal → ℕ
place_of r = place_in (number_of r) judging_order

place_at : (i : ℕ) (r : Refusal) → slice_get judging_order i ≡ Some r → i ≡ place_of r
unfolding place_of place_in
place_at i r e =
    sym (zero-add i)
    ∙ in_place place_of 0 judging_order (refl, (refl, (refl, (refl, (refl, (refl, (refl, (refl, (refl, (refl, (refl, (refl, (refl, tt))))))))))))) i r e

-- ---- what applies

module _ (s : Servers) (k : ℕ) (m : List ℕ) where
  abbrev A : Refusal → Type 0
  A = JudgeApplies s k m

  mark : ℕ
  mark = get_or s.marks k 0

  -- what the message alone decides has a place
  shape_placed : (r : Refusal) → Applies m r → number_of r < 8 → (i : ℕ) × (slice_get judging_order i ≡ Some r)
  unfolding place_of place_in
  shape_placed r (wrong_size h) l = (place_of MessageSize, refl)
  shape_placed r (wrong_cookie h) l = (place_of WrongCookie, refl)
  shape_placed r (broken_options h) l = (place_of BrokenOptions, refl)
  shape_placed r (no_authentication h) l = (place_of NoAuthentication, refl)
  shape_placed r (repeated_authentication h) l = (place_of RepeatedAuthentication, refl)
  shape_placed r (repeated_relay_information h) l = (place_of RelayInformation, refl)
  shape_placed r (other-delayed h) l = absurd (omega arith)
  shape_placed r (request_form h) l = absurd (omega arith)

  placed : (r : Refusal) → A r → (i : ℕ) × (slice_get judging_order i ≡ Some r)
  unfolding place_of place_in
  placed r (not_sound h) = (place_of UnsoundBook, refl)
  placed r (by_shape a l) = shape_placed r a l
  placed r (no_row l) = (place_of UnknownSecret, refl)
  placed r (other_form o at h) = (place_of NotByNonce, refl)
  placed r (wrong_type o at h) = (place_of WrongType, refl)
  placed r (no_nonce o at t e) = (place_of NoNonce, refl)
  placed r (not_new o at t e l) = (place_of Replay, refl)
  placed r (differs o at t n) = (place_of WrongMac, refl)

  -- of 2 to 7 the places follow the numbers
  shape_place : (r : Refusal) → Applies m r → number_of r < 8 → suc (place_of r) ≡ number_of r
  unfolding place_of place_in
  shape_place r (wrong_size h) l = refl
  shape_place r (wrong_cookie h) l = refl
  shape_place r (broken_options h) l = refl
  shape_place r (no_authentication h) l = refl
  shape_place r (repeated_authentication h) l = refl
  shape_place r (repeated_relay_information h) l = refl
  shape_place r (other-delayed h) l = absurd (omega arith)
  shape_place r (request_form h) l = absurd (omega arith)

  -- place i is behind that of a refusal
  abbrev Behind : Refusal → ℕ → Type 0
  Behind r i = suc (place_of r) ≤ i

  -- what is known where nothing before place i applies
  record Past (i : ℕ) : Type 0 where
    rows : Behind UnsoundBook i → SoundRows s
    shape : (r : Refusal) → Applies m r → number_of r < 8 → i ≤ place_of r
    row : Behind UnknownSecret i → k < length s.marks
    form : Behind NotByNonce i → (o : ℕ) → OptionAt m o → Formed m o
    type : Behind WrongType i → (o : ℕ) → OptionAt m o → GoesWith m (type_in m o)
    nonce : Behind NoNonce i → (o : ℕ) → OptionAt m o → type_in m o ≡ 2 → mark ≢ 0
    new : Behind Replay i → (o : ℕ) → OptionAt m o → type_in m o ≡ 2 → mark ≡ 2 → counter_in m o ≤ get_or s.counters k 0 → ⊥
    right : Behind WrongMac i → (o : ℕ) → OptionAt m o → type_in m o ≡ 2 → value_in m o ≡ hmac (nonce_at s k) (image_at m o)

  -- a place before i is ruled out
  at_least : (i n : ℕ) → (suc n ≤ i → ⊥) → i ≤ n
  at_least i n h = elim (dec_le i n) [ yes l ↦ l | no l ↦ absurd (h (omega arith)) ]

  after : (i : ℕ) → Past i → (q : Refusal) → A q → i ≤ place_of q
  unfolding place_of place_in mark
  after i p q (not_sound h) = at_least i (place_of UnsoundBook) (λ l. h (p.rows l))
  after i p q (by_shape a l) = p.shape q a l
  after i p q (no_row h) = at_least i (place_of UnknownSecret) (λ l. omega (arith, p.row l))
  after i p q (other_form o at h) = at_least i (place_of NotByNonce) (λ l. wrong (p.form l o at) h)
    where
      wrong : Formed m o → (get_or m (o + 1) 0 ≢ 28) ⊎ (take 3 (drop (o + 2) m) ≢ by_nonce) → ⊥
      wrong f (inl n) = n f.size
      wrong f (inr n) = n (starts_true by_nonce (drop (o + 2) m) f.method)
  after i p q (wrong_type o at h) = at_least i (place_of WrongType) (λ l. h (p.type l o at))
  after i p q (no_nonce o at t e) = at_least i (place_of NoNonce) (λ l. p.nonce l o at t e)
  after i p q (not_new o at t e h) = at_least i (place_of Replay) (λ l. p.new l o at t e h)
  after i p q (differs o at t n) = at_least i (place_of WrongMac) (λ l. n (p.right l o at t))

  -- ---- what is known at each end

  -- option 90 stands at one place
  option_is : (p : Places) → shape_of m ≡ Ok p → (o : ℕ) → OptionAt m o → o ≡ p.at
  option_is p e o at =
      let f = sym at.form ∙ e in
      let same : at.places ≡ p = cc in
      at.place ∙ ap (λ (x : Places). x.at) same

  module _ (bytes : Bytes m) where
    shape_none : (p : Places) → shape_of m ≡ Ok p → (r : Refusal) → Applies m r → number_of r < 8 → ⊥
    shape_none p e r a l = (shape_given.passed m bytes).0 (p, e) r l a

    -- before anything of option 90 is looked at
    early : (i : ℕ) → i ≤ place_of UnknownSecret → (Behind UnsoundBook i → SoundRows s) →
        ((r : Refusal) → Applies m r → number_of r < 8 → i ≤ place_of r) → Past i
    unfolding place_of place_in
    early i l rows shape = record {
      rows = rows;
      shape = shape;
      row = λ h. absurd (omega arith);
      form = λ h. absurd (omega arith);
      type = λ h. absurd (omega arith);
      nonce = λ h. absurd (omega arith);
      new = λ h. absurd (omega arith);
      right = λ h. absurd (omega arith);
    }

    -- behind the row
    module _ (p : Places) (q : Placed s k m p) where
      here : OptionAt m p.at
      here = record { places = p; form = q.shape; place = refl }

      late : (i : ℕ) → (Behind NotByNonce i → Formed m p.at) → (Behind WrongType i → GoesWith m (type_in m p.at))
          → (Behind NoNonce i → type_in m p.at ≡ 2 → mark ≢ 0)
          → (Behind Replay i → type_in m p.at ≡ 2 → new_to (row_at s k) (counter_in m p.at) ≡ true)
          → (Behind WrongMac i → type_in m p.at ≡ 2 → value_in m p.at ≡ hmac (nonce_at s k) (image_at m p.at)) → Past i
      unfolding mark
      late i form type nonce new right = record {
        rows = λ h. (rows_say.sound s).0 q.sound;
        shape = λ r a l. absurd (shape_none p q.shape r a l);
        row = λ h. q.row;
        form = λ h o at. subst (λ (x : ℕ). Formed m x) (sym (option_is p q.shape o at)) (form h);
        type = λ h o at. subst (λ (x : ℕ). GoesWith m (type_in m x)) (sym (option_is p q.shape o at)) (type h);
        nonce = λ h o at t. nonce h (ap (type_in m) (sym (option_is p q.shape o at)) ∙ t);
        new = λ h o at t e l.
            let z = option_is p q.shape o at in
            let old : counter_in m p.at ≤ get_or s.counters k 0 = rw (← z) l in
            true≢false (sym (new h (ap (type_in m) (sym z) ∙ t)) ∙ (new_says.not_new _ _ _).1 (eq-eqb _ _ e, old));
        right = λ h o at t.
            let z = option_is p q.shape o at in
            subst (λ (x : ℕ). value_in m x ≡ hmac (nonce_at s k) (image_at m x)) (sym z) (right h (ap (type_in m) (sym z) ∙ t));
      }

      -- what goes with option 53, in the demands' words
      goes : cases.Matched (type_in m p.at) (message_type_of m) → GoesWith m (type_in m p.at)
      goes (cases.nonce_in_ack t e) = subst (GoesWith m) (sym t) (nonce_in_ack e)
      goes (cases.mac_in_forcerenew t e) = subst (GoesWith m) (sym t) (mac_in_forcerenew e)

      matched : (type : ℕ) → GoesWith m type → cases.Matched type (message_type_of m)
      matched type (nonce_in_ack e) = cases.nonce_in_ack refl e
      matched type (mac_in_forcerenew e) = cases.mac_in_forcerenew refl e

    abbrev refusal_in : Judgement → Option Refusal
    refusal_in (takes c nonce) = None
    refusal_in (knows c) = None
    refusal_in (renews c) = None
    refusal_in (refused r) = Some r

    abbrev Good : Judgement → Type 0
    Good j = RightIn judging_order A place_of place_at placed (refusal_in j)

    -- where nothing before the end of the order applies, nothing does
    none_left : Past (length judging_order) → (r : Refusal) → A r → ⊥
    none_left p r a = let w = placed r a in omega (arith, after (length judging_order) p r a, place_at w.0 r w.1, last w.0 r w.1)
      where
        last : (i : ℕ) (r : Refusal) → slice_get judging_order i ≡ Some r → i < length judging_order
        last i r e = lt_at judging_order i r e

    -- 2 to 7: the lowest of them that applies stands before the others
    good_unread : (r : Refusal) → sound_rows s ≡ true → shape_of m ≡ Err r → Good (refused r)
    unfolding place_of place_in
    good_unread r e f =
        let w = (shape_given.refused m bytes r).0 f in
        let n = shape_place r w.0 w.2 in
        let far : (q : Refusal) → Applies m q → number_of q < 8 → place_of r ≤ place_of q =
        λ q a l. at_least (place_of r) (place_of q) (λ h. w.1 q (omega (arith, n, shape_place q a l)) a) in
        (by_shape w.0 w.2, after (place_of r) (early (place_of r) (omega (arith, w.2)) (λ h. (rows_say.sound s).0 e) far))

    -- 19 and 20
    good_unfit : (p : Places) (q : Placed s k m p) (r : Refusal) → ShownCase m p.at (unfit r) → Good (refused r)
    unfolding place_of place_in
    good_unfit p q r (other_length n) = (
      other_form p.at (here p q) (inl n),
      after (place_of NotByNonce) (late p q (place_of NotByNonce) (λ h. absurd (omega arith)) (λ h. absurd (omega arith)) (λ h. absurd (omega arith))
          (λ h. absurd (omega arith)) (λ h. absurd (omega arith))),
    )
    good_unfit p q r (other_method e) = (
      other_form p.at (here p q) (inr (starts_not by_nonce (drop (p.at + 2) m) e)),
      after (place_of NotByNonce) (late p q (place_of NotByNonce) (λ h. absurd (omega arith))
          (λ h. absurd (omega arith)) (λ h. absurd (omega arith)) (λ h. absurd (omega arith)) (λ h. absurd (omega arith))),
    )
    good_unfit p q r (other_type f e) = (
      wrong_type p.at (here p q) (λ g. true≢false (sym (cases.matched_goes _ _ (matched p q _ g)) ∙ e)),
      after (place_of WrongType) (late p q (place_of WrongType) (λ h. f)
          (λ h. absurd (omega arith)) (λ h. absurd (omega arith)) (λ h. absurd (omega arith)) (λ h. absurd (omega arith))),
    )

    -- a nonce is accepted whatever its counter: 21, 11 and 12 speak of type 2
    good_nonce : (p : Places) (q : Placed s k m p) (c : ℕ) (nonce : List ℕ) → ShownCase m p.at (gives c nonce) → (r : Refusal) → A r → ⊥
    good_nonce p q c nonce (a_nonce f t e) =
        none_left (late p q (length judging_order) (λ h. f) (λ h. goes p q (cases.nonce_in_ack t e)) (λ h u. absurd (omega arith)) (λ h u. absurd (omega arith))
        (λ h u. absurd (omega arith)))

    -- an order
    module _ (p : Places) (q : Placed s k m p) where
      order_type : (c : ℕ) (mac image : List ℕ) → ShownCase m p.at (orders c mac image)
          → (type_in m p.at ≡ 2) × Formed m p.at × GoesWith m (type_in m p.at) × (c ≡ counter_in m p.at) × (mac ≡ value_in m p.at)
          × (image ≡ image_at m p.at)
      order_type c mac image (an_order f t e) = (t, f, goes p q (cases.mac_in_forcerenew t e), refl, refl, refl)

      good_no_nonce : (c : ℕ) (mac image : List ℕ) → ShownCase m p.at (orders c mac image) → (row_at s k).mark ≡ 0 → Good (refused NoNonce)
      unfolding place_of place_in
      good_no_nonce c mac image h e =
          let w = order_type c mac image h in (
            no_nonce p.at (here p q) w.0 e,
            after (place_of NoNonce) (late p q (place_of NoNonce) (λ l. w.1) (λ l. w.2) (λ l. absurd (omega arith)) (λ l. absurd (omega arith))
                (λ l. absurd (omega arith))),
          )

      good_replay : (c : ℕ) (mac image : List ℕ) → ShownCase m p.at (orders c mac image) → (row_at s k).mark ≢ 0 → new_to (row_at s k) c ≡ false
          → Good (refused Replay)
      unfolding place_of place_in mark
      good_replay c mac image h n e =
          let w = order_type c mac image h in
          let old = (new_says.not_new _ _ _).0 e in (
            not_new p.at (here p q) w.0 (eqb-true _ _ old.0) (rw w.3 at old.1),
            after (place_of Replay) (late p q (place_of Replay) (λ l. w.1) (λ l. w.2) (λ l u. n)
                (λ l. absurd (omega arith)) (λ l. absurd (omega arith))),
          )

      good_wrong : (c : ℕ) (mac image : List ℕ) → ShownCase m p.at (orders c mac image) → (row_at s k).mark ≢ 0 → new_to (row_at s k) c ≡ true
          → mac ≢ hmac (row_at s k).nonce image → Good (refused WrongMac)
      unfolding place_of place_in mark
      good_wrong c mac image h n e d =
          let w = order_type c mac image h in (
            differs p.at (here p q) w.0 (λ x. d (w.4 ∙ x ∙ ap (hmac (row_at s k).nonce) (sym w.5))),
            after (place_of WrongMac) (late p q (place_of WrongMac) (λ l. w.1) (λ l. w.2)
                (λ l u. n) (λ l u. ap (new_to (row_at s k)) (sym w.3) ∙ e) (λ l. absurd (omega arith))),
          )

      good_order : (c : ℕ) (mac image : List ℕ) → ShownCase m p.at (orders c mac image) → (row_at s k).mark ≢ 0 → new_to (row_at s k) c ≡ true
          → mac ≡ hmac (row_at s k).nonce image → (r : Refusal) → A r → ⊥
      unfolding mark
      good_order c mac image h n e d =
          let w = order_type c mac image h in
          none_left (late p q (length judging_order) (λ l. w.1) (λ l. w.2) (λ l u. n) (λ l u. ap (new_to (row_at s k)) (sym w.3) ∙ e)
          (λ l u. sym w.4 ∙ d ∙ ap (hmac (row_at s k).nonce) w.5))

    good : (j : Judgement) → JudgeCase s k m j → Good j
    unfolding place_of place_in
    good j (cases.judge_unsound e) = (
      not_sound (λ h. true≢false (sym ((rows_say.sound s).1 h) ∙ e)),
      after (place_of UnsoundBook)
          (early (place_of UnsoundBook) (omega arith) (λ l. absurd (omega arith)) (λ r a l. omega arith)),
    )
    good j (cases.judge_unread {r} e f) = good_unread r e f
    good j (cases.judge_no_row {p} e f l) = (
      no_row l,
      after (place_of UnknownSecret)
          (early (place_of UnknownSecret) (omega arith) (λ h. (rows_say.sound s).0 e) (λ r a h. absurd (shape_none p f r a h))),
    )
    good j (cases.judge_unfit {p} {r} q h) = good_unfit p q r h
    good j (cases.judge_takes {p} {c} {nonce} q h e) = good_nonce p q c nonce h
    good j (cases.judge_knows {p} {c} {nonce} q h e) = good_nonce p q c nonce h
    good j (cases.judge_no_nonce {p} {c} {mac} {image} q h e) = good_no_nonce p q c mac image h e
    good j (cases.judge_replay {p} {c} {mac} {image} q h n e) = good_replay p q c mac image h n e
    good j (cases.judge_wrong {p} {c} {mac} {image} q h n e d) = good_wrong p q c mac image h n e d
    good j (cases.judge_renews {p} {c} {mac} {image} q h n e d) = good_order p q c mac image h n e d

  -- ---- demand 1

  pub judge_number : Bytes m → First judging_order A (result_number (judged_of (judge_of s k m)))
  judge_number bytes = by (judge_of s k m) (good bytes (judge_of s k m) (judge_case s k m))
    where
      by : (j : Judgement) → Good bytes j → First judging_order A (result_number (judged_of j))
      by (takes c nonce) h = first judging_order A place_of place_at placed None h
      by (knows c) h = first judging_order A place_of place_at placed None h
      by (renews c) h = first judging_order A place_of place_at placed None h
      by (refused r) h = first judging_order A place_of place_at placed (Some r) h

  pub judge_keeps : result_number (judged_of (judge_of s k m)) ≢ done → servers_after k (judge_of s k m) s ≡ s
  judge_keeps = by (judge_of s k m)
    where
      by : (j : Judgement) → result_number (judged_of j) ≢ done → servers_after k j s ≡ s
      by (takes c nonce) h = absurd (h refl)
      by (knows c) h = refl
      by (renews c) h = absurd (h refl)
      by (refused r) h = refl

  -- ---- demand 2

  by_nonce_lem : (p : Places) → shape_of m ≡ Ok p → Formed m p.at → ByNonce m p.at
  by_nonce_lem p e f = record {
    option = record { places = p; form = e; place = refl };
    size = f.size;
    method = starts_true by_nonce (drop (p.at + 2) m) f.method;
  }

  formed : (o : ℕ) → ByNonce m o → Formed m o
  formed o w = record { size = w.size; method = starts_taken by_nonce (drop (o + 2) m) w.method }

  -- an accepted ACK
  gives_by : (p : Places) (c : ℕ) (nonce : List ℕ) → Placed s k m p → ShownCase m p.at (gives c nonce) → GivesNonce s k m c nonce
  gives_by p c nonce q (a_nonce f t e) = record {
    o = p.at;
    rows = (rows_say.sound s).0 q.sound;
    form = by_nonce_lem p q.shape f;
    row = q.row;
    type = t;
    message_type = e;
    counter = refl;
    value = refl;
  }

  -- a believed FORCERENEW
  orders_by : (p : Places) (c : ℕ) (mac image : List ℕ) → Placed s k m p → ShownCase m p.at (orders c mac image) → (row_at s k).mark ≢ 0
      → new_to (row_at s k) c ≡ true → mac ≡ hmac (row_at s k).nonce image → OrdersRenewal s k m c
  orders_by p c mac image q (an_order f t e) n new right = record {
    o = p.at;
    rows = (rows_say.sound s).0 q.sound;
    form = by_nonce_lem p q.shape f;
    row = q.row;
    type = t;
    message_type = e;
    counter = refl;
    nonce_there = n;
    new = new;
    right = right;
  }

  -- where things stand, and what the message shows there
  module _ (o : ℕ) (rows : SoundRows s) (row : k < length s.marks) (w : ByNonce m o) where
    places_of : Placed s k m w.option.places
    places_of = record { sound = (rows_say.sound s).1 rows; shape = w.option.form; row = row }

    shown_at_lem : {x : Shown} → ShownCase m o x → ShownCase m w.option.places.at x
    shown_at_lem {x} h = subst (λ (y : ℕ). ShownCase m y x) w.option.place h

  module _ (c : ℕ) (nonce : List ℕ) (g : GivesNonce s k m c nonce) where
    q : Placed s k m g.form.option.places
    q = places_of g.o g.rows g.row g.form

    shows : ShownCase m g.form.option.places.at (gives c nonce)
    shows =
        subst (λ (x : ℕ). ShownCase m g.form.option.places.at (gives x nonce)) (sym g.counter)
        (subst (λ (x : List ℕ). ShownCase m g.form.option.places.at (gives (counter_in m g.o) x)) (sym g.value)
        (shown_at_lem g.o g.rows g.row g.form (a_nonce (formed g.o g.form) g.type g.message_type)))

    -- the row has the nonce or takes it
    had : known_to (row_at s k) nonce ≡ true → HasNonce s k nonce
    had e =
        let w = (and-eq-true_iff (not (eqb (get_or s.marks k 0) 0)) (same_bytes nonce (nonce_at s k))).0 e in
        record { there = λ z. true≢false (sym w.0 ∙ ap not (eq-eqb _ _ z)); same = same_equal _ _ w.1 }

    has : HasNonce s k nonce → known_to (row_at s k) nonce ≡ true
    has h = ap₂ (λ (a b : Bool). not a && b) (ne_eqb _ _ h.there) (equal_same _ _ h.same)

    taken : known_to (row_at s k) nonce ≡ false → judge_of s k m ≡ takes c nonce
    taken e = case_judge s k m _ (cases.judge_takes q shows e)

    known : known_to (row_at s k) nonce ≡ true → judge_of s k m ≡ knows c
    known e = case_judge s k m _ (cases.judge_knows q shows e)

    nonce_heeded : judged_of (judge_of s k m) ≡ heeding 1 c
    nonce_heeded = by (known_to (row_at s k) nonce) refl
      where
        by : (t : Bool) → known_to (row_at s k) nonce ≡ t → judged_of (judge_of s k m) ≡ heeding 1 c
        by true e = ap judged_of (known e)
        by false e = ap judged_of (taken e)

    pub nonce_stored : Stores s k nonce (servers_after k (judge_of s k m) s)
    nonce_stored = by (known_to (row_at s k) nonce) refl
      where
        by : (t : Bool) → known_to (row_at s k) nonce ≡ t → Stores s k nonce (servers_after k (judge_of s k m) s)
        by true e = subst (λ (j : Judgement). Stores s k nonce (servers_after k j s)) (sym (known e)) (had_it (had e))
        by false e =
            subst (λ (j : Judgement). Stores s k nonce (servers_after k j s)) (sym (taken e)) (took_it (λ h. true≢false (sym (has h) ∙ e)))

  -- an order that is believed renews
  pub order_renews : (c : ℕ) → OrdersRenewal s k m c → judge_of s k m ≡ renews c
  order_renews c g =
      let p = g.form.option.places in
      let shows = shown_at_lem g.o g.rows g.row g.form (an_order (formed g.o g.form) g.type g.message_type) in
      let new = ap (new_to (row_at s k)) (sym g.counter) ∙ g.new in
      case_judge s k m _ (cases.judge_renews (places_of g.o g.rows g.row g.form) shows g.nonce_there new g.right)
      ∙ ap renews (sym g.counter)

  heeded_to : (type c : ℕ) (j : Judgement) → JudgeCase s k m j → judged_of j ≡ heeding type c → Heeds s k m type c
  heeded_to type c j (cases.judge_unsound e) h = never cc
  heeded_to type c j (cases.judge_unread e f) h = never cc
  heeded_to type c j (cases.judge_no_row e f l) h = never cc
  heeded_to type c j (cases.judge_unfit q x) h = never cc
  heeded_to type c j (cases.judge_takes {p} {c = d} {nonce} q x e) h =
      let t = (heeding_parts h).0 in
      let d-is = (heeding_parts h).1 in
      subst (λ (y : ℕ). Heeds s k m y c) t (nonce_given (gives_by p c nonce q (subst (λ (y : ℕ). ShownCase m p.at (gives y nonce)) d-is x)))
  heeded_to type c j (cases.judge_knows {p} {c = d} {nonce} q x e) h =
      let t = (heeding_parts h).0 in
      let d-is = (heeding_parts h).1 in
      subst (λ (y : ℕ). Heeds s k m y c) t (nonce_given (gives_by p c nonce q (subst (λ (y : ℕ). ShownCase m p.at (gives y nonce)) d-is x)))
  heeded_to type c j (cases.judge_no_nonce q x e) h = never cc
  heeded_to type c j (cases.judge_replay q x n e) h = never cc
  heeded_to type c j (cases.judge_wrong q x n e d) h = never cc
  heeded_to type c j (cases.judge_renews {p} {c = d} {mac} {image} q x n e r) h =
      let t = (heeding_parts h).0 in
      let d-is = (heeding_parts h).1 in
      subst (λ (y : ℕ). Heeds s k m y c) t (renewal_ordered (subst (λ (y : ℕ). OrdersRenewal s k m y) d-is (orders_by p d mac image q x n e r)))

  heeded_from : (type c : ℕ) → Heeds s k m type c → judged_of (judge_of s k m) ≡ heeding type c
  heeded_from type c (nonce_given {nonce = nonce} g) = nonce_heeded c nonce g
  heeded_from type c (renewal_ordered g) = ap judged_of (order_renews c g)

  pub heeded : (type c : ℕ) → (judged_of (judge_of s k m) ≡ heeding type c) ↔ Heeds s k m type c
  heeded type c = (heeded_to type c (judge_of s k m) (judge_case s k m), heeded_from type c)
