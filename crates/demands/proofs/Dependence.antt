-- What an answer depends on, proved: the case that one book's answer is in (proofs/Stages.antt) is the other's too, where they agree in what it says.
use mathlib.Core.Path.{◌≡◌, refl, sym, ap, ap₂, ◌∙◌}
use mathlib.Core.Bool.{Bool, ◌&&◌, not}
use mathlib.Core.List.{List, ◌++◌}
use Prim.Native.Nat.{ℕ, ◌≤◌, ◌<◌}
use native.Mathlib.Decide.{ℕ_discrete, dec_lt}
use borrow.Author.Tests.{eq-eqb, ne_eqb}
use native.Mathlib.Omega.{arith}
use lib.Dec.{eqb}
use lib.ListN.{length, get_or, take, length-take}
use lib.Seq.{get_or-take, ext_get_or}
use Rattle.hmac_md5.specs.Hmac.{hmac}
use Rattle.dhcp_message.specs.Layout.{mac_size, seal_size}
use Rattle.octets.specs.Bytes.{zeros, same_bytes}
use Rattle.dhcp_message.specs.Said.{said_of, form_of}
use Rattle.dhcp_message.specs.Image.{image_of}
use Rattle.dhcp_message.specs.Replay.{is_new}
use Rattle.dhcp_message.specs.Seal.{fields, sealed_with, with_fields, Rewritten}
use Rattle.dhcp_message.specs.declared.Auth.{Auth}
use Rattle.dhcp_message.proofs.Seals.{seal_laws}
use Rattle.key_book.specs.Limits.{heard}
use Rattle.key_book.specs.Book.{Book, Sound, row_of, key_of}
use Rattle.key_book.proofs.Says.{sound_says, sound_depends, row_depends, row_says, key_depends}
use Rattle.delayed_auth.specs.Check.{new_to, check_of}
use Rattle.delayed_auth.specs.Key.{keyed_of, key_bytes}
use Rattle.delayed_auth.specs.Seal.{Outcome, seal_of}
use Rattle.dhcp_message.specs.declared.Places.{Places}
use Rattle.dhcp_message.proofs.Replays.{new_unheard}
use Rattle.forcerenew.specs.Rows.{Servers, SoundRows, row_at}
use Rattle.forcerenew.specs.Judging.{Judgement, known_to, new_to as serverNew, judge_of}
use Rattle.forcerenew.proofs.Soundness.{rows_say}
use Rattle.forcerenew.proofs.Cases.{Placed, JudgeCase, judge_unsound, judge_unread, judge_no_row, judge_unfit, judge_takes, judge_knows, judge_no_nonce}
use Rattle.forcerenew.proofs.Cases.{judge_replay, judge_wrong, judge_renews, judge_case, case_judge}
use Rattle.demands.specs.Accepts.{Names}
use Rattle.demands.specs.Dependence.{SameSecrets, SameForCheck, SameForSeal, SameForJudge, SameInUse, Dependence}
use Rattle.demands.specs.Demand1.{Claims}
use Rattle.hmac_md5.proofs.Masks.{hmac_size}
use Rattle.demands.proofs.Below.{never}
use Rattle.demands.proofs.Stages.{CheckEnd, check_unsound, check_refused, check_unknown, check_replay, check_wrong, check_accepts}
use Rattle.demands.proofs.Stages.{check_end, end_check, accepts_claims, claims_names}
use Rattle.demands.proofs.Stages.{KeyEnd, key_unsound, key_refused, key_unknown, key_names, key_end, end_key}
use Rattle.demands.proofs.Stages.{SealEnd, seal_unsound, seal_refused, seal_unknown, seal_spent, seal_seals, seal_end, end_seal}
use Rattle.std.specs.Prelude.{Err, None, Ok, Option, Result, Some, ℕ}
use Rattle.delayed_auth.specs.declared.Accepted.{Accepted}
use Rattle.refusal.specs.declared.Refusal.{Refusal}

-- ---- two books with the same soundness and ids

module _ (a b : Book) (w : SameSecrets a b) where
  sound_too : Sound a → Sound b
  sound_too s = (sound_says b).0 (sym w.soundness ∙ (sound_says a).1 s)

  unsound_too : (Sound a → ⊥) → Sound b → ⊥
  unsound_too h s = h ((sound_says a).0 (w.soundness ∙ (sound_says b).1 s))

  row_too : (id : ℕ) (o : Option ℕ) → row_of a id ≡ o → row_of b id ≡ o
  row_too id o e = sym (row_depends a b id w.ids) ∙ e

-- ---- check and key

-- the message may be another one too that says the same and has the same image
pub check_same : (a b : Book) (m n : List ℕ) → SameForCheck a b m → said_of n ≡ said_of m → image_of n ≡ image_of m → check_of b n ≡ check_of a m
check_same a b m n w said image = end_check b n (check_of a m) (same (check_of a m) (check_end a m))
  where
    claims : {c k : ℕ} {mac : List ℕ} → Claims a m c k mac → Claims b n c k mac
    claims {k = k} x = record { id = x.id; form = said ∙ x.form; secret = row_too a b w.secrets x.id (Some k) x.secret }

    good : Sound a → Sound b
    good = sound_too a b w.secrets

    new : {c k : ℕ} {mac : List ℕ} → Sound a → Claims a m c k mac → new_to b k c ≡ new_to a k c
    new {c} {k} s x =
        let n = claims_names x in
        sym (ap₂ (λ (mark received : ℕ). is_new (eqb mark heard) received c) (w.mark k s n) (w.received k s n))

    same : (v : Result Accepted Refusal) → CheckEnd a m v → CheckEnd b n v
    same v (check_unsound h) = check_unsound (unsound_too a b w.secrets h)
    same v (check_refused s e) = check_refused (good s) (said ∙ e)
    same v (check_unknown c id mac s e f) = check_unknown c id mac (good s) (said ∙ e) (row_too a b w.secrets id None f)
    same v (check_replay c k mac s x h) = check_replay c k mac (good s) (claims x) (new s x ∙ h)
    same v (check_wrong c k mac s x h g) =
        check_wrong c k mac (good s) (claims x) (new s x ∙ h) (rw (w.key k s (claims_names x), ← image) at g)
    same v (check_accepts {k} {c} s x) =
        let claim = accepts_claims x in
        check_accepts (good s) (record {
          id = x.id;
          mac = x.mac;
          form = said ∙ x.form;
          secret = row_too a b w.secrets x.id (Some k) x.secret;
          new = new s claim ∙ x.new;
          right = rw (w.key k s (claims_names claim), ← image) at x.right;
        })

module _ (a b : Book) (m : List ℕ) where
  pub check_depends : SameForCheck a b m → check_of a m ≡ check_of b m
  check_depends w = sym (check_same a b m m w refl refl)

  module _ (w : SameSecrets a b) where
    pub keyed_depends : keyed_of a m ≡ keyed_of b m
    keyed_depends = sym (end_key b m (keyed_of a m) (same (keyed_of a m) (key_end a m)))
      where
        same : (v : Result ℕ Refusal) → KeyEnd a m v → KeyEnd b m v
        same v (key_unsound h) = key_unsound (unsound_too a b w h)
        same v (key_refused s e) = key_refused (sound_too a b w s) e
        same v (key_unknown id s e f) = key_unknown id (sound_too a b w s) e (row_too a b w id None f)
        same v (key_names {k} s n) =
            key_names (sound_too a b w s) (record { id = n.id; form = n.form; secret = row_too a b w n.id (Some k) n.secret })

    pub key_bytes_depend : ((k : ℕ) → Sound a → Names a m k → key_of a k ≡ key_of b k) → key_bytes a (keyed_of a m) ≡ key_bytes b (keyed_of b m)
    key_bytes_depend same = on (keyed_of a m) (key_end a m) ∙ ap (key_bytes b) keyed_depends
      where
        on : (v : Result ℕ Refusal) → KeyEnd a m v → key_bytes a v ≡ key_bytes b v
        on (Err r) x = refl
        on (Ok k) (key_names s n) = same k s n

-- ---- seal

module _ (a b : Book) (id : ℕ) (m : List ℕ) where
  pub seal_depends : SameForSeal a b id → seal_of a id m ≡ seal_of b id m
  seal_depends w = sym (end_seal b id m (seal_of a id m) (same (seal_of a id m) (seal_end a id m)))
    where
      same : (o : Outcome) → SealEnd a id m o → SealEnd b id m o
      same o (seal_unsound h) = seal_unsound (unsound_too a b w.secrets h)
      same o (seal_refused s e) = seal_refused (sound_too a b w.secrets s) e
      same o (seal_unknown x s e f) = seal_unknown x (sound_too a b w.secrets s) e (row_too a b w.secrets id None f)
      same o (seal_spent x k s e f h) =
          seal_spent x k (sound_too a b w.secrets s) e (row_too a b w.secrets id (Some k) f) (sym (w.sent k s f) ∙ h)
      same o (seal_seals {k} s x) =
          let sent = w.sent k s x.secret in
          seal_seals (sound_too a b w.secrets s) (record {
            auth = x.auth;
            form = x.form;
            secret = row_too a b w.secrets id (Some k) x.secret;
            unspent = rw sent at x.unspent;
            next = rw sent at x.next;
            message = rw (w.key k s x.secret) at x.message;
          })

-- the message with other bytes in the places that a seal writes is sealed to the same bytes
module _ (b : Book) (id : ℕ) (m : List ℕ) (a : Auth) (other : List ℕ) (form : form_of m ≡ Ok a) (size : length other ≡ seal_size) where
  pub fields_depend : seal_of b id (sealed_with a other m) ≡ seal_of b id m
  fields_depend = end_seal b id (sealed_with a other m) (seal_of b id m) (same (seal_of b id m) (seal_end b id m))
    where
      w : Rewritten m a other
      w = seal_laws.seals m a other form size

      same : (o : Outcome) → SealEnd b id m o → SealEnd b id (sealed_with a other m) o
      same o (seal_unsound h) = seal_unsound h
      same o (seal_refused s e) = never cc
      same o (seal_unknown x s e f) = seal_unknown _ s w.form f
      same o (seal_spent x k s e f h) = seal_spent _ k s w.form f h
      same o (seal_seals {k} {c} {n} s x) =
          let auth : x.auth ≡ a = cc (x.form, form) in
          let image = image_of (sealed_with a (fields c id ++ zeros mac_size) m) in
          let new = fields c id ++ hmac (key_of b k) image in
          seal_seals s (record {
            auth = with_fields a _ _;
            form = w.form;
            secret = x.secret;
            unspent = x.unspent;
            next = x.next;
            message = rw auth at x.message
                ∙ sym (rw (w.again (fields c id ++ zeros mac_size) (seal_laws.seal_size_lem c id (zeros mac_size) refl))
                (w.again new (seal_laws.seal_size_lem c id (hmac (key_of b k) image) (hmac_size (key_of b k) image))));
          })

-- ---- the rows in use

module _ (a b : Book) (w : SameInUse a b) where
  used : (id k : ℕ) → row_of a id ≡ Some k → k < a.rows
  used id k e = ((row_says.row a id k).0 e).used

  secrets : SameSecrets a b
  secrets =
      let z = w.alike in
      record {
        soundness = sound_depends a b z;
        ids = ext_get_or 0 (take a.rows a.ids) (take b.rows b.ids) (simp length-take (rw (z.same_rows, z.ids_size)))
            (λ i h.
            let l : i < a.rows = omega (arith, length-take a.rows a.ids) in
            get_or-take a.rows a.ids i 0 l ∙ z.same_ids i l ∙ sym (get_or-take b.rows b.ids i 0 (omega (arith, z.same_rows))));
      }

  same_key : (k : ℕ) → Sound a → k < a.rows → key_of a k ≡ key_of b k
  same_key k s l =
      let z = w.alike in
      let t : Sound b = (sound_says b).0 (sym secrets.soundness ∙ (sound_says a).1 s) in
      key_depends a b s t k (record {
        used = l;
        used_too = omega (arith, z.same_rows);
        same_size = z.same_lengths k l;
        same_bytes_lem = λ i h. w.bytes
            k i l h;
      })

  same_found : (m : List ℕ) (k : ℕ) → Sound a → Names a m k → key_of a k ≡ key_of b k
  same_found m k s n = same_key k s (used n.id k n.secret)

  in_use_check : (m : List ℕ) → SameForCheck a b m
  in_use_check m = record {
    secrets = secrets;
    key = same_found m;
    mark = λ k s n. w.alike.same_marks k (used n.id k n.secret);
    received = λ k s n. w.received k (used n.id k n.secret);
  }

  in_use_seal : (id : ℕ) → SameForSeal a b id
  in_use_seal id = record { secrets = secrets; key = λ k s e. same_key k s (used id k e); sent = λ k s e. w.sent k (used id k e) }

-- ---- a judgement by a nonce

module _ (a b : Servers) (k : ℕ) (w : SameForJudge a b k) (s : SoundRows a) (row : k < length a.marks) where
  mark : get_or a.marks k 0 ≡ get_or b.marks k 0
  mark = w.mark s row

  -- whether a nonce is the row's: with none yet it is not, whatever bytes stand there
  same_known : (nonce : List ℕ) → known_to (row_at a k) nonce ≡ known_to (row_at b k) nonce
  same_known nonce =
      elim (ℕ_discrete (get_or a.marks k 0) 0) [
        | yes z ↦ rw (eq-eqb _ _ z, eq-eqb _ _ (sym mark ∙ z))
        | no z ↦ ap₂ (λ (n : ℕ) (x : List ℕ). not (eqb n 0) && same_bytes nonce x) mark (w.nonce s row z)
      ]

  -- whether a counter is new to it: unless it is heard, whatever counter stands there
  same_new : (c : ℕ) → serverNew (row_at a k) c ≡ serverNew (row_at b k) c
  same_new c =
      elim (ℕ_discrete (get_or a.marks k 0) 2) [
        | yes z ↦ ap₂ (λ (n x : ℕ). is_new (eqb n 2) x c) mark (w.counter s row z)
        | no z ↦
            ap (λ (t : Bool). is_new t (get_or a.counters k 0) c) (ne_eqb _ _ z) ∙ new_unheard (get_or a.counters k 0) c
            ∙ sym (ap (λ (t : Bool). is_new t (get_or b.counters k 0) c) (ne_eqb _ _ (λ y. z (mark ∙ y))) ∙ new_unheard (get_or b.counters k 0) c)
      ]

sound_rows_lem : (a : Servers) {k : ℕ} {m : List ℕ} {p : Places} → Placed a k m p → SoundRows a
sound_rows_lem a q = (rows_say.sound a).0 q.sound

placed_same : (a b : Servers) (k : ℕ) (m : List ℕ) → SameForJudge a b k → {p : Places} → Placed a k m p → Placed b k m p
placed_same a b k m w q = record { sound = sym w.soundness ∙ q.sound; shape = q.shape; row = w.there.0 q.row }

-- each end of a judgement on the one is an end of that on the other
judge_same : (a b : Servers) (k : ℕ) (m : List ℕ) → SameForJudge a b k → (j : Judgement) → JudgeCase a k m j → JudgeCase b k m j
judge_same a b k m w j (judge_unsound e) = judge_unsound (sym w.soundness ∙ e)
judge_same a b k m w j (judge_unread e f) = judge_unread (sym w.soundness ∙ e) f
judge_same a b k m w j (judge_no_row e f l) = judge_no_row (sym w.soundness ∙ e) f (missing (λ h. omega (arith, w.there.1 h)))
  where
    missing : (k < length b.marks → ⊥) → length b.marks ≤ k
    missing n = elim (dec_lt k (length b.marks)) [ yes h ↦ absurd (n h) | no h ↦ omega arith ]
judge_same a b k m w j (judge_unfit q h) = judge_unfit (placed_same a b k m w q) h
judge_same a b k m w j (judge_takes {nonce = nonce} q h e) =
    judge_takes (placed_same a b k m w q) h (sym (same_known a b k w (sound_rows_lem a q) q.row nonce) ∙ e)
judge_same a b k m w j (judge_knows {nonce = nonce} q h e) =
    judge_knows (placed_same a b k m w q) h (sym (same_known a b k w (sound_rows_lem a q) q.row nonce) ∙ e)
judge_same a b k m w j (judge_no_nonce q h e) = judge_no_nonce (placed_same a b k m w q) h (sym (w.mark (sound_rows_lem a q) q.row) ∙ e)
judge_same a b k m w j (judge_replay {c = c} q h n e) =
    judge_replay (placed_same a b k m w q) h (λ z. n (w.mark (sound_rows_lem a q) q.row ∙ z)) (sym (same_new a b k w (sound_rows_lem a q) q.row c) ∙ e)
judge_same a b k m w j (judge_wrong {c = c} {image = image} q h n e d) =
    let s = sound_rows_lem a q in
    judge_wrong (placed_same a b k m w q) h (λ z. n (w.mark s q.row ∙ z)) (sym (same_new a b k w s q.row c) ∙ e)
    (λ z. d (z ∙ ap (λ (x : List ℕ). hmac x image) (sym (w.nonce s q.row n))))
judge_same a b k m w j (judge_renews {c = c} {image = image} q h n e d) =
    let s = sound_rows_lem a q in
    judge_renews (placed_same a b k m w q) h (λ z. n (w.mark s q.row ∙ z)) (sym (same_new a b k w s q.row c) ∙ e)
    (d ∙ ap (λ (x : List ℕ). hmac x image) (w.nonce s q.row n))

judge_depends : (a b : Servers) (k : ℕ) (m : List ℕ) → SameForJudge a b k → judge_of a k m ≡ judge_of b k m
judge_depends a b k m w = sym (case_judge b k m _ (judge_same a b k m w _ (judge_case a k m)))

pub dependence : Dependence
dependence = record {
  check = check_depends;
  keyed = keyed_depends;
  key_bytes_lem = key_bytes_depend;
  seal = seal_depends;
  found_fields = fields_depend;
  judge = judge_depends;
  check_in_use = λ a b m w. check_depends a b m (in_use_check a b w m);
  key_in_use = λ a b m w. key_bytes_depend a b m (secrets a b w) (same_found a b w m);
  seal_in_use = λ a b id m w. seal_depends a b id m (in_use_seal a b w id);
}
