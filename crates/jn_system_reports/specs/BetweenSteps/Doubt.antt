-- Transactions in doubt.
use Rattle.std.specs.Prelude.{◌≡◌, true, None, is_some}
use Rattle.jn_base.specs.declared.names.Tid.{Tid}
use Rattle.jn_rows.specs.Stable.{Pick}
use Rattle.jn_system.specs.WholeSystem.World.{World}
use Rattle.jn_system_reports.specs.BetweenSteps.Sent.{HasCommitLine}

-- some pick at its coordinator finds its flag
pub record HasFlag (r : World) (T : Tid) : Type 0 where
  pub pick : Pick
  pub is : is_some ((r.found T.server pick).flags T) ≡ true

-- its flag may be found, and its commit has no line
pub record IsInDoubt (r : World) (T : Tid) : Type 0 where
  pub flag : HasFlag r T
  pub unnamed : HasCommitLine r T → ⊥

-- where one is in doubt, its coordinator is down
abbrev pub IsDownInDoubt : World → Type 0
IsDownInDoubt r = (T : Tid) → IsInDoubt r T → r.memory T.server ≡ None
