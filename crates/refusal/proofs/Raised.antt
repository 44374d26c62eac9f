-- What a `?` hands on: the refusal that it met; and what is known where an option was asked for with a refusal in place of none.
use mathlib.Core.Path.{◌≡◌, refl, sym, ap, ◌∙◌}
use mathlib.Core.Bool.{true≢false}
use Rattle.std.specs.Prelude.{Option, Some, None, Result, Ok, Err, ok_or, is_ok}
use Rattle.std.specs.Result.{IsErrAnd}
use Rattle.std.proofs.lemmas.Result.{err_from_is_err_and}
use Rattle.refusal.specs.declared.Refusal.{Refusal}

pub raised : {A : Type 0} (r : Result A Refusal) {met : Refusal} → IsErrAnd r (λ q. q ≡ met) → r ≡ Err met
raised r {met} h = let p = err_from_is_err_and {Q = λ q. q ≡ met} r h in p.1 ∙ ap Err p.2

module _ {A E : Type 0} where
  pub asked_there : (o : Option A) (e : E) {x : A} → ok_or o e ≡ Ok x → o ≡ Some x
  asked_there None e h = absurd (true≢false (sym (ap is_ok h)))
  asked_there (Some y) e h = ap there h
    where
      there : Result A E → Option A
      there (Ok z) = Some z
      there (Err d) = None

  pub asked_none : (o : Option A) (e : E) {d : E} → ok_or o e ≡ Err d → (o ≡ None) × (e ≡ d)
  asked_none None e h = (refl, ap other h)
    where
      other : Result A E → E
      other (Ok z) = e
      other (Err d) = d
  asked_none (Some y) e h = absurd (true≢false (ap is_ok h))
