-- Runs over any state, seen as a number of channels, where a step reads and writes one channel, or none.
-- Where the second run has the first one's steps, those of each channel in their order, and besides them only steps that change nothing
-- where they stand, each step of the first run has the same answer in the second, and each channel ends the same. The two runs may start from
-- two states: it is said of the channels that hold the same at both starts. For each channel by itself that is proofs/Channel.antt, and this
-- file goes between its indices and the lists of steps.
use mathlib.Core.Path.{◌≡◌, refl, sym, ap, ◌∙◌}
use mathlib.Core.Logic.{◌≢◌, inl, inr}
use mathlib.Core.List.{List, [], ◌∷◌}
use mathlib.Core.HLevel.{Discrete}
use Rattle.std.proofs.lemmas.Option.{none-some, same_Some}
use Prim.Native.Nat.{ℕ, zero, suc, ◌≤◌, ◌<◌}
use native.Mathlib.Decide.{ℕ_discrete, dec_le}
use native.Mathlib.Omega.{arith}
use lib.ListN.{length}
use Rattle.demands.proofs.Channel
use Rattle.demands.proofs.Channel.{search_below}
use Rattle.std.specs.Prelude.{None, Option, Some, slice_get}

module _ {A : Type 0} where
  pub some_at : (l : List A) (i : ℕ) → i < length l → (a : A) × (slice_get l i ≡ Some a)
  some_at [] i h = absurd (omega arith)
  some_at (x ∷ l) zero h = (x, refl)
  some_at (x ∷ l) (suc i) h = some_at l i (omega arith)

  pub lt_at : (l : List A) (i : ℕ) (a : A) → slice_get l i ≡ Some a → i < length l
  lt_at [] i a e = let z : ◌≡◌ {A = ℕ} 0 1 = cc in omega arith
  lt_at (x ∷ l) zero a e = omega arith
  lt_at (x ∷ l) (suc i) a e = omega (arith, lt_at l i a e)

-- ---- the steps of a run by their places

-- What is asked of the definitions of a run, by their clauses: each step finds the state as the last one left it.
pub record Walk {State Step Answer : Type 0} (answer_of : State → Step → Answer) (after : State → Step → State) : Type 0 where
  pub answers : State → List Step → List Answer
  pub ending : State → List Step → State
  pub state_at : State → List Step → ℕ → State
  pub answers_next : (b : State) (s : Step) (l : List Step) → answers b (s ∷ l) ≡ answer_of b s ∷ answers (after b s) l
  pub ending_none : (b : State) → ending b [] ≡ b
  pub ending_next : (b : State) (s : Step) (l : List Step) → ending b (s ∷ l) ≡ ending (after b s) l
  pub state_at_none : (b : State) (i : ℕ) → state_at b [] i ≡ b
  pub state_at_first : (b : State) (s : Step) (l : List Step) → state_at b (s ∷ l) 0 ≡ b
  pub state_at_next : (b : State) (s : Step) (l : List Step) (i : ℕ) → state_at b (s ∷ l) (suc i) ≡ state_at (after b s) l i

module _ {State Step Answer : Type 0} {answer_of : State → Step → Answer} {after : State → Step → State} (run : Walk answer_of after) where
  pub answer_at : (b : State) (l : List Step) (i : ℕ) (s : Step) → slice_get l i ≡ Some s
      → slice_get (run.answers b l) i ≡ Some (answer_of (run.state_at b l i) s)
  answer_at b [] i s e = cc
  answer_at b (x ∷ l) zero s e = rw (run.answers_next b x l, run.state_at_first b x l) cc
  answer_at b (x ∷ l) (suc i) s e = rw (run.answers_next b x l, run.state_at_next b x l i) (answer_at (after b x) l i s e)

  pub state_at_zero : (b : State) (l : List Step) → run.state_at b l 0 ≡ b
  state_at_zero b [] = run.state_at_none b 0
  state_at_zero b (x ∷ l) = run.state_at_first b x l

  pub next_at : (b : State) (l : List Step) (i : ℕ) (s : Step) → slice_get l i ≡ Some s → run.state_at b l (suc i) ≡ after (run.state_at b l i) s
  next_at b [] i s e = cc
  next_at b (x ∷ l) zero s e = rw (run.state_at_next b x l 0, run.state_at_first b x l, state_at_zero (after b x) l) cc
  next_at b (x ∷ l) (suc i) s e = rw (run.state_at_next b x l (suc i), run.state_at_next b x l i) (next_at (after b x) l i s e)

  pub end_at : (b : State) (l : List Step) → run.state_at b l (length l) ≡ run.ending b l
  end_at b [] = run.state_at_none b 0 ∙ sym (run.ending_none b)
  end_at b (x ∷ l) = rw (run.state_at_next b x l (length l), run.ending_next b x l) (end_at (after b x) l)

  -- what every step keeps holds of every state of a run
  pub inv_at : (Inv : State → Type 0) → ((b : State) (s : Step) → Inv b → Inv (after b s)) → (b : State) (l : List Step) (i : ℕ)
      → Inv b → Inv (run.state_at b l i)
  inv_at Inv f b [] i h = rw (run.state_at_none b i) h
  inv_at Inv f b (x ∷ l) zero h = rw (run.state_at_first b x l) h
  inv_at Inv f b (x ∷ l) (suc i) h = rw (run.state_at_next b x l i) (inv_at Inv f (after b x) l i (f b x h))

  pub inv_end : (Inv : State → Type 0) → ((b : State) (s : Step) → Inv b → Inv (after b s)) → (b : State) (l : List Step)
      → Inv b → Inv (run.ending b l)
  inv_end Inv f b l h = rw (← (end_at b l)) (inv_at Inv f b l (length l) h)

  -- what no step from i to j breaks
  pub kept_on : (P : State → Type 0) (b : State) (l : List Step) (i j : ℕ) → i ≤ j → j ≤ length l
      → ((p : ℕ) (s : Step) → i ≤ p → p < j → slice_get l p ≡ Some s → P (run.state_at b l p) → P (after (run.state_at b l p) s))
      → P (run.state_at b l i) → P (run.state_at b l j)
  kept_on P b l i zero q m h g = let e : i ≡ 0 = omega arith in rw (← e) g
  kept_on P b l i (suc j) q m h g =
      elim (dec_le i j) [
        | no n ↦ let e : i ≡ suc j = omega arith in rw (← e) g
        | yes n ↦
            let s = some_at l j (omega arith) in
            rw (next_at b l j s.0 s.1)
            (h j s.0 n (omega arith) s.1 (kept_on P b l i j n (omega arith) (λ p t x y. h p t x (omega arith)) g))
      ]

-- ---- channels

module _ {Step Ch : Type 0} (channel : Step → Option Ch) where
  abbrev pub channel_at : Option Step → Option Ch
  channel_at None = None
  channel_at (Some s) = channel s

-- whether a channel is this one
this_one : {Ch : Type 0} → Discrete Ch → (o : Option Ch) (c : Ch) → Dec (o ≡ Some c)
this_one same? None c = no (λ e. none-some c e)
this_one same? (Some d) c =
    elim (same? d c) [ yes e ↦ yes (ap Some e) | no n ↦ no (λ e. n (same_Some d c e)) ]

-- What is asked of the steps: `holds c b` is what channel c holds in the state b, `Inv` holds of every state of a run, and `Alike s t` says
-- that t is s but for what no step looks at.
pub record Local
    {State Step Answer Ch : Type 0} {C : Ch → Type 0} (answer_of : State → Step → Answer) (after : State → Step → State)
    (channel : Step → Option Ch) (holds : (c : Ch) → State → C c) (Inv : State → Type 0) (Alike : Step → Step → Type 0)
    : Type 0
  where
    pub kept : (b : State) (s : Step) → Inv b → Inv (after b s)
    pub other : (b : State) (s : Step) (c : Ch) → Inv b → channel s ≢ Some c → holds c (after b s) ≡ holds c b
    pub channel_alike : (s t : Step) → Alike s t → channel s ≡ channel t
    pub answer : (s t : Step) → Alike s t → (a b : State) → Inv a → Inv b → ((c : Ch) → channel s ≡ Some c → holds c a ≡ holds c b)
        → answer_of a s ≡ answer_of b t
    pub change : (s t : Step) → Alike s t → (c : Ch) → channel s ≡ Some c → (a b : State) → Inv a → Inv b → holds c a ≡ holds c b
        → holds c (after a s) ≡ holds c (after b t)

module _
    {State Step Answer Ch : Type 0} {C : Ch → Type 0} {answer_of : State → Step → Answer} {after : State → Step → State}
    {channel : Step → Option Ch} {holds : (c : Ch) → State → C c} {Inv : State → Type 0} {Alike : Step → Step → Type 0}
    (run : Walk answer_of after) (local : Local answer_of after channel holds Inv Alike) (same? : Discrete Ch)
    (a b : State) (good-a : Inv a) (good-b : Inv b) (first second : List Step) (place : ℕ → ℕ)
    (carried : (i : ℕ) (s : Step) → slice_get first i ≡ Some s → (t : Step) × (slice_get second (place i) ≡ Some t) × Alike s t)
    (order : (i j : ℕ) (s t : Step) (c : Ch) → slice_get first i ≡ Some s → slice_get first j ≡ Some t → channel s ≡ Some c → channel t ≡ Some c
    → i < j → place i < place j)
    (put_in : (p : ℕ) → p < length second → ((i : ℕ) → i < length first → place i ≢ p)
    → (t : Step) × (slice_get second p ≡ Some t) × ((c : Ch) → holds c (after (run.state_at b second p) t) ≡ holds c (run.state_at b second p)))
  where
    good₁ : (i : ℕ) → Inv (run.state_at a first i)
    good₁ i = inv_at run Inv local.kept a first i good-a

    good₂ : (p : ℕ) → Inv (run.state_at b second p)
    good₂ p = inv_at run Inv local.kept b second p good-b

    module _ (c : Ch) (start : holds c a ≡ holds c b) where
      On : ℕ → Type 0
      On i = channel_at channel (slice_get first i) ≡ Some c

      on? : (i : ℕ) → Dec (On i)
      unfolding On
      on? i = this_one same? (channel_at channel (slice_get first i)) c

      fst : ℕ → C c
      fst i = holds c (run.state_at a first i)

      snd : ℕ → C c
      snd p = holds c (run.state_at b second p)

      inside : (i : ℕ) → i < length first → On i → place i < length second
      inside i l o =
          let s = some_at first i l in
          let t = carried i s.0 s.1 in
          lt_at second (place i) t.0 t.1

      in_order : (i j : ℕ) → j < length first → On i → On j → i < j → place i < place j
      unfolding On
      in_order i j l o q h =
          let s = some_at first i (omega arith) in
          let t = some_at first j l in
          order i j s.0 t.0 c s.1 t.1 (rw s.1 at o) (rw t.1 at q) h

      off₁ : (i : ℕ) → i < length first → ¬ On i → fst (suc i) ≡ fst i
      unfolding On fst
      off₁ i l o =
          let s = some_at first i l in
          rw (next_at run a first i s.0 s.1) (local.other _ _ c (good₁ i) (λ e. o (rw s.1 e)))

      begins : fst 0 ≡ snd 0
      unfolding fst snd
      begins = rw (state_at_zero run a first, state_at_zero run b second) start

      off₂ : (p : ℕ) → p < length second → ((i : ℕ) → i < length first → On i → place i ≢ p) → snd (suc p) ≡ snd p
      unfolding On snd
      off₂ p l f =
          elim (search_below (λ i. place i ≡ p) (λ i. ℕ_discrete (place i) p) (length first)) [
            | inr g ↦ let t = put_in p l g in rw (next_at run b second p t.0 t.1) (t.2 c)
            | inl h ↦
                let i = h.0 in
                let s = some_at first i h.1 in
                let t = carried i s.0 s.1 in
                rw (next_at run b second p t.0 (rw h.2 at t.1))
                (local.other _ _ c (good₂ p) (λ e. f i h.1 (rw (s.1, local.channel_alike _ _ t.2) e) h.2))
          ]

      on : (i : ℕ) → i < length first → On i → fst i ≡ snd (place i) → fst (suc i) ≡ snd (suc (place i))
      unfolding On fst snd
      on i l o e =
          let s = some_at first i l in
          let t = carried i s.0 s.1 in
          rw (next_at run a first i s.0 s.1, next_at run b second (place i) t.0 t.1)
          (local.change s.0 t.0 t.2 c (rw s.1 at o) _ _ (good₁ i) (good₂ (place i)) e)

      held : (i : ℕ) → i < length first → On i → holds c (run.state_at a first i) ≡ holds c (run.state_at b second (place i))
      unfolding fst snd
      held = Channel.at (length first) (length second) place On on? fst snd inside in_order begins off₁ off₂ on

      pub same_ends : holds c (run.ending b second) ≡ holds c (run.ending a first)
      unfolding fst snd
      same_ends =
          rw (← (end_at run b second), ← (end_at run a first))
          (sym (Channel.ends (length first) (length second) place On on? fst snd inside in_order begins off₁ off₂ on))

    -- a step of the first run whose channel, where it has one, holds the same at both starts
    pub same_answer : (i : ℕ) (s : Step) → slice_get first i ≡ Some s → ((c : Ch) → channel s ≡ Some c → holds c a ≡ holds c b)
        → slice_get (run.answers b second) (place i) ≡ slice_get (run.answers a first) i
    unfolding On
    same_answer i s e starts =
        let t = carried i s e in
        rw (answer_at run a first i s e, answer_at run b second (place i) t.0 t.1)
        (ap Some (sym (local.answer s t.0 t.2 _ _ (good₁ i) (good₂ (place i)) (λ c g. held c (starts c g) i (lt_at first i s e) (rw e g)))))
