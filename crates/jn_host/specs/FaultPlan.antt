-- Which calls of an object in memory are to fail.
use Rattle.std.specs.Prelude.{ℕ, ◌≡◌, Bool, nat_eq, Vec}
use Rattle.std.specs.List.{list_any}
use Rattle.std.specs.declared.alloc.Global.{Global}
use Rattle.jn_host.specs.declared.fault_plan.FaultPlan.{FaultPlan}
use Rattle.jn_base.specs.Counts.{bumped}

-- no call was made yet, and those of these numbers are to fail
abbrev pub Plans : Vec ℕ Global → FaultPlan → Type 0
Plans failing plan = (plan.failing ≡ failing) × (plan.calls ≡ 0)

-- one more call was made
abbrev pub after_call : FaultPlan → FaultPlan
after_call plan = record plan { calls = bumped plan.calls }

-- whether the next call is to fail
abbrev pub fails_next : FaultPlan → Bool
fails_next plan = list_any (nat_eq (bumped plan.calls)) plan.failing.items
