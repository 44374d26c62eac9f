-- One channel, two runs. The first run has n steps, the second N; step k of the first stands at `place k` of the second.
-- `On k`: step k works on the channel. `fst k`, `snd p`: what the channel holds before step k of the first run, before step p of the second.
-- Where the channel's steps keep their order, a step that is not the channel's leaves it alone in either run,
-- and a step of the channel does the same to it in both, the channel holds the same at each of its steps and at the end.
-- Nothing is asked of what a step does: it may set the channel to anything.
use mathlib.Core.Path.{◌≡◌, sym, ap, ◌∙◌}
use mathlib.Core.Logic.{◌≢◌, ◌⊎◌, inl, inr}
use Prim.Native.Nat.{ℕ, zero, suc, ◌≤◌, ◌<◌}
use native.Mathlib.Decide.{ℕ_discrete, dec_le}
use native.Mathlib.Omega.{arith}

-- does one of the first m numbers have the property?
pub search_below : (P : ℕ → Type 0) → ((i : ℕ) → Dec (P i)) → (m : ℕ) → ((i : ℕ) × (i < m) × P i) ⊎ ((i : ℕ) → i < m → ¬ P i)
search_below P p? zero = inr (λ i l. absurd (omega arith))
search_below P p? (suc m) =
    elim (search_below P p? m) [
      | inl s ↦ inl (s.0, omega arith, s.2)
      | inr f ↦ elim (p? m) [
        | yes h ↦ inl (m, omega arith, h)
        | no h ↦ inr (λ i l q. elim (ℕ_discrete i m) [ yes e ↦ h (rw e at q) | no e ↦ f i (omega arith) q ])
      ]
    ]

both? : {A B : Type 0} → Dec A → Dec B → Dec (A × B)
both? (yes a) (yes b) = yes (a, b)
both? (yes a) (no b) = no (λ t. b t.1)
both? (no a) d = no (λ t. a t.0)

module _
    {C : Type 0} (n N : ℕ) (place : ℕ → ℕ) (On : ℕ → Type 0) (on? : (k : ℕ) → Dec (On k)) (fst snd : ℕ → C)
    (inside : (k : ℕ) → k < n → On k → place k < N)
    (order : (j k : ℕ) → k < n → On j → On k → j < k → place j < place k)
    (start : fst 0 ≡ snd 0)
    (off₁ : (k : ℕ) → k < n → ¬ On k → fst (suc k) ≡ fst k)
    (off₂ : (p : ℕ) → p < N → ((k : ℕ) → k < n → On k → place k ≢ p) → snd (suc p) ≡ snd p)
    (on : (k : ℕ) → k < n → On k → fst k ≡ snd (place k) → fst (suc k) ≡ snd (suc (place k)))
  where
    -- from i to j no step of the first run is the channel's
    quiet : (j i : ℕ) → i ≤ j → j ≤ n → ((h : ℕ) → i ≤ h → h < j → ¬ On h) → fst j ≡ fst i
    quiet zero i l m f = ap fst (omega arith)
    quiet (suc j) i l m f =
        elim (dec_le i j) [
          | yes h ↦ off₁ j m (f j h (omega arith)) ∙ quiet j i h (omega arith) (λ g a b. f g a (omega arith))
          | no h ↦ ap fst (omega arith)
        ]

    -- the channel's steps before j in the first run are those before p in the second
    Level : ℕ → ℕ → Type 0
    Level j p = (i : ℕ) → i < n → On i → (i < j → place i < p) × (place i < p → i < j)

    back : (i k : ℕ) → i < n → On i → On k → place i < place k → i < k
    back i k l o q b =
        elim (dec_le k i) [
          | no h ↦ omega arith
          | yes h ↦ elim (ℕ_discrete k i) [
            | yes e ↦ absurd (omega (arith, ap place e))
            | no e ↦ absurd (omega (arith, order k i l q o (omega arith)))
          ]
        ]

    level_at : (k : ℕ) → k < n → On k → Level k (place k)
    unfolding Level
    level_at k l o = λ i a q. (order i k l q o, back i k a q o)

    level : (p j : ℕ) → p ≤ N → j ≤ n → Level j p → fst j ≡ snd p
    unfolding Level
    level zero j l m v = quiet j 0 (omega arith) m (λ h a b o. omega (arith, (v h (omega arith) o).0 b)) ∙ start
    level (suc p) j l m v =
        elim (search_below (λ i. On i × (place i ≡ p)) (λ i. both? (on? i) (ℕ_discrete (place i) p)) n) [
          | inl s ↦
              let i = s.0 in
              let o = s.2.0 in
              quiet j (suc i) ((v i s.1 o).1 (omega arith)) m (λ h a b q. omega (arith, order i h (omega arith) o q a, (v h (omega arith) q).0 b))
              ∙ on i s.1 o (level p i (omega arith) (omega arith) (rw (← s.2.1) (level_at i s.1 o)) ∙ ap snd (sym s.2.1))
              ∙ ap (λ (q : ℕ). snd (suc q)) s.2.1
          | inr f ↦ level p j (omega arith) m (λ i a o.
              let g : place i ≢ p = λ e. f i a (o, e) in
              (λ b. omega (arith, (v i a o).0 b), λ b. (v i a o).1 (omega arith))) ∙ sym (off₂ p l (λ i a o e. f i a (o, e)))
        ]

    -- the channel holds the same at each of its steps
    pub at : (k : ℕ) → k < n → On k → fst k ≡ snd (place k)
    at k l o = level (place k) k (omega (arith, inside k l o)) (omega arith) (level_at k l o)

    -- and at the end
    pub ends : fst n ≡ snd N
    unfolding Level
    ends = level N n (omega arith) (omega arith) (λ i a o. (λ b. inside i a o, λ b. a))
