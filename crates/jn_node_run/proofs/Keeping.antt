-- What a keeper has once an image was saved, or wasn't.
use Rattle.jn_node_run.proofs.Common.{◌≡◌, ◌≢◌, ℕ, List, Option, Some, None, Result, Ok, Err, refl, sym, ap, ◌∙◌, true≢false, is_ok, is_some, DeviceState, Contents, kept_at, SavesOne, Node, Counts, KeepsOwn, KeeperState, KeeperFails}
use Rattle.std.proofs.Math.Path.{fun_ext}
use Rattle.jn_host.specs.declared.KeepFailure.{KeepFailure}
use Rattle.jn_host.specs.declared.KeepFailure.TheVariants as failures

some-is : {A : Type 0} (a b : A) → Some a ≡ Some b → a ≡ b
some-is a b h = cc

-- where each name holds what it held, all that is kept is the same
pub same-kept : (kept kept' : Option Contents) → is_some kept' ≡ is_some kept → ((other : List ℕ) → kept_at kept' other ≡ kept_at kept other) → kept' ≡ kept
same-kept None None told same = refl
same-kept None (Some holds') told same = absurd (true≢false told)
same-kept (Some holds) None told same = absurd (true≢false (sym told))
same-kept (Some holds) (Some holds') told same = ap (λ (h : Contents). Some h) (fun_ext (λ (other : List ℕ). some-is (holds' other) (holds other) (same other)))

-- a keeper whose contents and whose count are the same is as it was
pub keeper-same : (before after : KeeperState) → after.kept ≡ before.kept → after.faults ≡ before.faults → after ≡ before
keeper-same before after kept faults = ap (λ (k : Option Contents). record { kept = k; faults = after.faults }) kept ∙ ap (λ (n : ℕ). record { kept = before.kept; faults = n }) faults

-- no call failed where something was given, or memory ran out
pub ok-no-fail : {A : Type 0} (r : Result A KeepFailure) (a : A) → r ≡ Ok a → r ≢ Err failures.Failed
ok-no-fail r a is fail = true≢false (sym (ap is_ok is) ∙ ap is_ok fail)

memory-other : failures.Memory ≢ failures.Failed
memory-other h = cc

pub memory-no-fail : {A : Type 0} (r : Result A KeepFailure) → r ≡ Err failures.Memory → r ≢ Err failures.Failed
memory-no-fail {A} r is fail = memory-other (err-is failures.Memory failures.Failed (sym is ∙ fail))
  where
    err-is : (d f : KeepFailure) → Path (Result A KeepFailure) (Err d) (Err f) → d ≡ f
    err-is d f h = cc

module _ (node : Node) (g : Counts) (d : DeviceState) (before after : KeeperState) (answer : Result (Unit {0}) KeepFailure) (s : SavesOne node.closing g node.server d before.kept before.faults answer after.kept after.faults) where
  pub done-kept : answer ≡ Ok tt → KeepsOwn node g d before after
  done-kept is = record { saved = s.saved (ap is_ok is); told = s.told; others = s.others; faults = s.no_fault (ok-no-fail answer tt is) }

  pub failed-kept : answer ≡ Err failures.Failed → KeeperFails before after
  failed-kept is = record { kept = same-kept before.kept after.kept s.told (s.unsaved (ap is_ok is)); rose = s.rose is }

  pub memory-kept : answer ≡ Err failures.Memory → after ≡ before
  memory-kept is = keeper-same before after (same-kept before.kept after.kept s.told (s.unsaved (ap is_ok is))) (s.no_fault (memory-no-fail answer is))
