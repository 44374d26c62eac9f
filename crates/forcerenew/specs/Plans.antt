-- What the code's private types stand for, for the contracts of its private functions. Nothing here needs to be believed: the entry's contract speaks of
-- the definitions in Judging.
use Rattle.std.specs.Prelude.{ℕ, List, Result, Ok, Err}
use Rattle.refusal.specs.declared.Refusal.{Refusal}
use Rattle.forcerenew.specs.Shown.{Shown, unfit, gives, orders, image_at}
use Rattle.forcerenew.specs.Judging.{Judgement, takes, knows, renews, refused}
use Rattle.forcerenew.specs.declared.Shows.{Shows}
use Rattle.forcerenew.specs.declared.Shows.TheVariants.{Gives, Orders}
use Rattle.forcerenew.specs.declared.Plan.{Plan}
use Rattle.forcerenew.specs.declared.Plan.TheVariants.{Takes, Knows, Renews}

-- what is shown by the option 90 at offset o
abbrev pub shown_as : List ℕ → ℕ → Result Shows Refusal → Shown
shown_as m o (Err r) = unfit r
shown_as m o (Ok (Gives counter nonce)) = gives counter nonce.bytes.now
shown_as m o (Ok (Orders counter mac)) = orders counter mac.now (image_at m o)

abbrev pub planned_as : Result Plan Refusal → Judgement
planned_as (Ok (Takes counter nonce)) = takes counter nonce.bytes.now
planned_as (Ok (Knows counter)) = knows counter
planned_as (Ok (Renews counter)) = renews counter
planned_as (Err r) = refused r
