-- What a step leaves beside the stable state: how many rubbish records, and which map pages.
use Rattle.jn_wrong.proofs.Common.{◌≡◌, ◌≢◌, ◌<◌, ◌-◌, ℕ, Bool, true, List, [], ◌∷◌, Option, Some, None, is_none, true≢false, refl, sym, ◌∙◌, ap, arith, if◌then◌else◌, ◌&&◌, slice_get, nat_tests, Server, ServerNo, Tid, WorkId, server_eq, Message, RowOutcome, StableState, Change, AddReady, MarkGoing, CarryOut, RemoveWork, AddFlag, DropFlag, Pick, stable, Room, server_row, server_step, Step, Deliver, Restart, World, Memory, Setup, Moment, DoesStep, steps_in, IsUpBehind, removes_none, beside_by, beside_at, left_by_row, left_by_steps, left_with, left-sent, left-work, Beside, left_by, left_over}
use Rattle.jn_system.specs.WholeSystem.Steps.{Work}

same-server : (q : ServerNo) → server_eq q q ≡ true
same-server q = grind (arith, nat_tests)

-- what removes no work leaves no record
none-over : (y : StableState) (changes : List Change) → removes_none changes ≡ true → (b : Beside) → (left_over y changes b).rubbish ≡ b.rubbish
none-over y [] e b = refl
none-over y (AddReady head list reads ∷ changes) e b = none-over y changes e (left_by y (AddReady head list reads) b)
none-over y (MarkGoing W ∷ changes) e b = none-over y changes e b
none-over y (CarryOut W i ∷ changes) e b = none-over y changes e (left_by y (CarryOut W i) b)
none-over y (RemoveWork W ∷ changes) e b = absurd (true≢false (sym e))
none-over y (AddFlag flag ∷ changes) e b = none-over y changes e b
none-over y (DropFlag T ∷ changes) e b = none-over y changes e b

module _ (x : Setup) (a b : Moment) (d : DoesStep x a b) (q : ServerNo) (there : q.0 < x.servers) (up : IsUpBehind x a b d q) where
  abbrev w : World
  w = a.state.course.world

  abbrev reads : Pick → Beside
  reads = beside_by x a.devices q

  abbrev old : Beside
  old = beside_at x a.devices q

  left : beside_at x b.devices q ≡ left_by_steps reads w q (steps_in x a b d) old
  left = let befell = d.befalls in befell.left q there up

  left-as : (steps : List Step) → steps_in x a b d ≡ steps → beside_at x b.devices q ≡ left_by_steps reads w q steps old
  left-as steps e = left ∙ ap (λ (l : List Step). left_by_steps reads w q l old) e

  pub no-more : (left_by_steps reads w q (steps_in x a b d) old).rubbish < (beside_at x b.devices q).rubbish → ⊥
  no-more h = let e = ap (λ (z : Beside). z.rubbish) left in omega (arith, e, h)

  pub no-fewer : (beside_at x b.devices q).rubbish < (left_by_steps reads w q (steps_in x a b d) old).rubbish → ⊥
  no-fewer h = let e = ap (λ (z : Beside). z.rubbish) left in omega (arith, e, h)

  pub no-others : (left_by_steps reads w q (steps_in x a b d) old).maps ≢ (beside_at x b.devices q).maps → ⊥
  no-others h = h (sym (ap (λ (z : Beside). z.maps) left))

  pub by-message : (k : ℕ) (room : Room) (message : Message) (m : Memory) → steps_in x a b d ≡ Deliver k room ∷ [] → slice_get w.sent k ≡ Some (Server q, message)
      → w.memory q ≡ Some m → removes_none (server_row m (stable (w.found q)) room message).changes ≡ true → (beside_at x b.devices q).rubbish ≡ old.rubbish
  by-message k room message m steps sent is none = ap (λ (z : Beside). z.rubbish) (left-as (Deliver k room ∷ []) steps ∙ left-sent reads w q k room q message sent true (same-server q) (Some m) is old)
      ∙ none-over (stable (w.found q)) (server_row m (stable (w.found q)) room message).changes none old

  pub by-erasure : (room : Room) (m : Memory) (row : RowOutcome Memory) → steps_in x a b d ≡ Work q room ∷ [] → w.memory q ≡ Some m → server_step m (stable (w.found q)) room ≡ Some row → row.changes ≡ []
      → (beside_at x b.devices q).rubbish ≡ old.rubbish - 1
  by-erasure room m row steps is row-is none = ap (λ (z : Beside). z.rubbish) (left-as (Work q room ∷ []) steps
      ∙ left-work reads w q q room true (same-server q) (Some m) is old
      ∙ ap (λ (o : Option (RowOutcome Memory)). left_with (Work q room) (stable (w.found q)) o old) row-is
      ∙ ap (λ (changes : List Change). left_by_row (Work q room) (stable (w.found q)) changes old) none)

  pub by-restart : (pick : Pick) (works : List WorkId) (tids : List Tid) → steps_in x a b d ≡ Restart q pick works tids ∷ [] → w.memory q ≡ None → (beside_at x b.devices q).rubbish ≡ 0
  by-restart pick works tids steps down = ap (λ (z : Beside). z.rubbish) (left-as (Restart q pick works tids ∷ []) steps
      ∙ ap (λ (c : Bool). came c (w.memory q)) (same-server q) ∙ ap (came true) down)
    where
      came : Bool → Option Memory → Beside
      came c o = if c && is_none o then record (beside_by x a.devices q pick) { rubbish = 0 } else beside_at x a.devices q

  pub by-nothing : steps_in x a b d ≡ [] → (beside_at x b.devices q).rubbish ≡ old.rubbish
  by-nothing steps = ap (λ (z : Beside). z.rubbish) (left-as [] steps)
