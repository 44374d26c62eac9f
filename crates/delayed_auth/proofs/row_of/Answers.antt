-- `delayed_auth::row_of` meets its contract: on ids that ascend each answer of the search by halving is that of the search over all rows
-- (proofs/Finding.antt).
use Rattle.delayed_auth.proofs.Finding.{row_stands, row_missing, row_unsized}
use Rattle.delayed_auth.proofs.row_of.Goals as goal

pub returns-in-Stands : goal.returns-in-Stands
returns-in-Stands c =
    row_stands _ _ _ c.requires c.known-sought.ensures c.in-Stands.is

pub returns-in-Missing : goal.returns-in-Missing
returns-in-Missing c = row_missing _ _ _ c.requires c.known-sought.ensures c.in-Missing.is

pub returns-in-Unsized : goal.returns-in-Unsized
returns-in-Unsized c = row_unsized _ _ _ c.requires c.known-sought.ensures c.in-Unsized.is
