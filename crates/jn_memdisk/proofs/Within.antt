-- The faults that wait name pages that there are.
use Rattle.std.proofs.Common.{◌≡◌, ℕ, true, false, List, [], ◌∷◌, ◌++◌, Option, Some, sym, subst, arith}
use Rattle.std.proofs.lemmas.Bool.Decides.{nat_tests}
use Rattle.std.specs.Prelude.{nat_lt, if◌then◌else◌}
use Rattle.jn_base.specs.declared.device.FaultKind.{FaultKind}
use Rattle.jn_base.specs.declared.device.FaultKind.TheVariants.{Soft, Null, Bad, Decay, Revive, StopBefore, StopTorn, StopAfter}
use Rattle.jn_device.specs.declared.Armed.{Armed}
use Rattle.jn_device.specs.Calls.{due, waiting_on}
use Rattle.jn_device.specs.Events.{is_within}
use Rattle.jn_memdisk.specs.Faults.{all_within, Within}

kind_within : (count : ℕ) (k : FaultKind) → is_within count k ≡ true → Within count (Some k)
kind_within count (Decay d) h = grind (arith, nat_tests)
kind_within count (Revive d) h = grind (arith, nat_tests)
kind_within count Soft h = tt
kind_within count Null h = tt
kind_within count Bad h = tt
kind_within count StopBefore h = tt
kind_within count StopTorn h = tt
kind_within count StopAfter h = tt

head_within : (count : ℕ) (w : Armed) (ws : List Armed) → all_within count (w ∷ ws) ≡ true → is_within count w.kind ≡ true
head_within count w ws h = grind arith

rest_within : (count : ℕ) (w : Armed) (ws : List Armed) → all_within count (w ∷ ws) ≡ true → all_within count ws ≡ true
rest_within count w ws h = grind arith

due_within : (count : ℕ) (ws : List Armed) → all_within count ws ≡ true → Within count (due ws)
due_within count [] h = tt
due_within count (w ∷ ws) h = elim (nat_lt w.after 2) as (λ b. Within count (if b then Some w.kind else due ws)) [
  | true ↦ kind_within count w.kind (head_within count w ws h)
  | false ↦ due_within count ws (rest_within count w ws h)
]

pub strikes_within : (count : ℕ) (ws : List Armed) (k : Option FaultKind) → k ≡ due ws → all_within count ws ≡ true → Within count k
strikes_within count ws k is h = subst (Within count) (sym is) (due_within count ws h)

pub waits_within : (count : ℕ) (ws : List Armed) → all_within count ws ≡ true → all_within count (waiting_on ws) ≡ true
waits_within count [] h = h
waits_within count (w ∷ ws) h =
    let head = head_within count w ws h in
    let rest = waits_within count ws (rest_within count w ws h) in
    grind arith

pub arms_within : (count : ℕ) (ws : List Armed) (w : Armed) → all_within count ws ≡ true → is_within count w.kind ≡ true → all_within count (ws ++ w ∷ []) ≡ true
arms_within count [] w h k = grind arith
arms_within count (v ∷ ws) w h k =
    let head = head_within count v ws h in
    let rest = arms_within count ws w (rest_within count v ws h) k in
    grind arith
