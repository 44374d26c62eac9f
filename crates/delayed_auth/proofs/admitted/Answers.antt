-- `delayed_auth::admitted` meets its contract: 1, then the form (proofs/Admits.antt).
use mathlib.Core.Path.{sym, ◌∙◌}
use Rattle.delayed_auth.proofs.Admits.{unsound_book, sound_book, case_form}
use Rattle.delayed_auth.proofs.admitted.Goals as goal

pub returns-then-not-is_sound : goal.returns-then-not-is_sound
returns-then-not-is_sound c = case_form _ _ _ (unsound_book (sym c.is_sound.ensures ∙ c.if-not-is_sound.true))

pub returns : goal.returns
returns c = case_form _ _ _ (sound_book (sym c.is_sound.ensures ∙ c.if-not-is_sound.false) (sym c.form_of.ensures))
