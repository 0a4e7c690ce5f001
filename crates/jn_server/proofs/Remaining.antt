-- Each background step leaves one less to make.
use Rattle.jn_server.proofs.Common.{◌≡◌, ◌⊎◌, inl, inr, ◌≤◌, ◌<◌, ℕ, ◌+◌, Bool, true, false, true≢false, List, [], ◌∷◌, length, Option, Some, None, is_some, refl, sym, ◌∙◌, ap, subst, arith, if◌then◌else◌, not, work_tells, work_eq, of_worker, of_step, server_step, RowOutcome, StableState, Prepared, CarryOut, RemoveWork, is_going, made_by, made_all, ServerView, memory_of, room_of, state, Beside, WorkId, Work, WorkerTable, intentions_of, is_none, ◌≢◌, slice_get, Files, change, intention_change, quiet, at_work, going_work, without, carried_row, going_row, storage_of, Memory, StepLeaves, steps_of, steps_of_work, steps_of_works, steps_left, Intention}
use Rattle.std.proofs.lemmas.Option.{slice_get_within}
use Rattle.jn_system.proofs.WholeSystem.WorkerRows.{going-is}

-- ---- numbers

both : (a b c d : ℕ) → a ≤ c → b ≤ d → a + b ≤ c + d
both a b c d h k = omega (arith, h, k)

first-less : (a b c d : ℕ) → a < c → b ≤ d → a + b < c + d
first-less a b c d h k = omega (arith, h, k)

rest-less : (a b c d : ℕ) → a ≤ c → b < d → a + b < c + d
rest-less a b c d h k = omega (arith, h, k)

some-work : (a b : Work) → Some a ≡ Some b → a ≡ b
some-work a b e = cc

no-work : (w : Work) → None ≡ Some w → ⊥
no-work w e = cc

abbrev Tells : WorkId → WorkId → Type 0
Tells a b = ((work_eq a b ≡ true) × (a ≡ b)) ⊎ ((work_eq a b ≡ false) × (a ≢ b))

same-name : (a : WorkId) → work_eq a a ≡ true
same-name a = grind (arith, work_tells a a)

-- so many steps, if it goes
abbrev if_goes : Bool → ℕ → ℕ → ℕ
if_goes goes intentions next = if goes then steps_of intentions next else 0

-- ---- an intention is carried out

abbrev one_on : Bool → ℕ → ℕ → ℕ
one_on its k l = if its then k + 1 else l

carried-most : (goes its : Bool) (n k l : ℕ) → (its ≡ true → k ≡ l) → if_goes goes n (one_on its k l) ≤ if_goes goes n l
carried-most false its n k l same = omega arith
carried-most true false n k l same = omega arith
carried-most true true n k l same = let e = same refl in omega (arith, e)

carried-one : (goes its : Bool) (n k l : ℕ) → goes ≡ true → its ≡ true → k ≡ l → l < n → if_goes goes n (one_on its k l) < if_goes goes n l
carried-one false its n k l g i same h = absurd (true≢false (sym g))
carried-one true false n k l g i same h = absurd (true≢false (sym i))
carried-one true true n k l g i same h = omega (arith, same, h)

module _ (x : StableState) (next : WorkId → ℕ) (W : WorkId) (files : Files) where
  abbrev later : WorkId → ℕ
  later = at_work next W (next W + 1)

  abbrev written : StableState
  written = record x { files = files }

  its-count : (V : WorkId) → work_eq W V ≡ true → next W ≡ next V
  its-count V e = by (work_tells W V)
    where
      by : Tells W V → next W ≡ next V
      by (inl h) = ap next h.1
      by (inr h) = absurd (true≢false (sym e ∙ h.0))

  work-most : (V : WorkId) → steps_of_work written later V ≤ steps_of_work x next V
  work-most V = carried-most (is_going (x.works V)) (work_eq W V) (length (intentions_of (x.works V))) (next W) (next V) (its-count V)

  works-most : (t : WorkerTable) → steps_of_works written later t ≤ steps_of_works x next t
  works-most [] = omega arith
  works-most (v ∷ vs) = both _ _ _ _ (work-most v.name) (works-most vs)

  work-less : (V : WorkId) → W ≡ V → is_going (x.works W) ≡ true → next W < length (intentions_of (x.works W)) → steps_of_work written later V < steps_of_work x next V
  work-less V same g h = subst (λ (U : WorkId). steps_of_work written later U < steps_of_work x next U) same
      (carried-one (is_going (x.works W)) (work_eq W W) (length (intentions_of (x.works W))) (next W) (next W) g (same-name W) refl h)

  carried-less : (t : WorkerTable) (w : Work) → going_work x t ≡ Some w → W ≡ w.name → is_going (x.works W) ≡ true → next W < length (intentions_of (x.works W)) → steps_of_works written later t < steps_of_works x next t
  carried-less [] w e same g h = absurd (no-work w e)
  carried-less (v ∷ vs) w e same g h = by (is_going (x.works v.name)) refl e (carried-less vs w)
    where
      by : (b : Bool) → is_going (x.works v.name) ≡ b → (if b then Some v else going_work x vs) ≡ Some w
          → (going_work x vs ≡ Some w → W ≡ w.name → is_going (x.works W) ≡ true → next W < length (intentions_of (x.works W)) → steps_of_works written later vs < steps_of_works x next vs)
          → steps_of_works written later (v ∷ vs) < steps_of_works x next (v ∷ vs)
      by true b q again = first-less _ _ _ _ (work-less v.name (same ∙ sym (ap (λ (z : Work). z.name) (some-work v w q))) g h) (works-most vs)
      by false b q again = rest-less _ _ _ _ (work-most v.name) (again q same g h)

-- ---- a work is over

abbrev none_there : Bool → Option Prepared → Option Prepared
none_there its o = if its then None else o

gone-most : (its : Bool) (o : Option Prepared) (k l : ℕ) → if_goes (is_going (none_there its o)) (length (intentions_of (none_there its o))) (if its then k else l) ≤ if_goes (is_going o) (length (intentions_of o)) l
gone-most true o k l = by (if_goes (is_going o) (length (intentions_of o)) l)
  where
    by : (n : ℕ) → 0 ≤ n
    by n = omega arith
gone-most false o k l = by (if_goes (is_going o) (length (intentions_of o)) l)
  where
    by : (n : ℕ) → n ≤ n
    by n = omega arith

module _ (x : StableState) (next : WorkId → ℕ) (W : WorkId) where
  abbrev gone : StableState
  gone = record x { works = at_work x.works W None }

  abbrev forgotten : WorkId → ℕ
  forgotten = at_work next W 0

  left-most : (V : WorkId) → steps_of_work gone forgotten V ≤ steps_of_work x next V
  left-most V = gone-most (work_eq W V) (x.works V) 0 (next V)

  all-left-most : (t : WorkerTable) → steps_of_works gone forgotten t ≤ steps_of_works x next t
  all-left-most [] = omega arith
  all-left-most (v ∷ vs) = both _ _ _ _ (left-most v.name) (all-left-most vs)

  -- its own steps are one more than the records that it leaves
  leaves-less : (goes : Bool) (n k a b : ℕ) → goes ≡ true → a ≤ b → a + n < if_goes goes n k + b
  leaves-less true n k a b g h = omega (arith, h)
  leaves-less false n k a b g h = absurd (true≢false (sym g))

  its-less : (v : Work) (vs : WorkerTable) → v.name ≡ W → is_going (x.works W) ≡ true → (if_removed : Bool) → work_eq v.name W ≡ if_removed
      → steps_of_works gone forgotten (if if_removed then vs else v ∷ without W vs) + length (intentions_of (x.works W)) < steps_of_works x next (v ∷ vs)
  its-less v vs same g true e = subst (λ (U : WorkId). steps_of_works gone forgotten vs + length (intentions_of (x.works W)) < steps_of_work x next U + steps_of_works x next vs) (sym same)
      (leaves-less (is_going (x.works W)) (length (intentions_of (x.works W))) (next W) (steps_of_works gone forgotten vs) (steps_of_works x next vs) g (all-left-most vs))
  its-less v vs same g false e = absurd (true≢false (sym (same-name W) ∙ ap (λ (U : WorkId). work_eq U W) (sym same) ∙ e))

  sums : (a b c d n : ℕ) → a ≤ c → b + n < d → (a + b) + n < c + d
  sums a b c d n h k = omega (arith, h, k)

  over-less : (t : WorkerTable) (w : Work) → going_work x t ≡ Some w → w.name ≡ W → is_going (x.works W) ≡ true → steps_of_works gone forgotten (without W t) + length (intentions_of (x.works W)) < steps_of_works x next t
  over-less [] w e same g = absurd (no-work w e)
  over-less (v ∷ vs) w e same g = by (is_going (x.works v.name)) refl e (over-less vs w)
    where
      other : is_going (x.works v.name) ≡ false → (going_work x vs ≡ Some w → w.name ≡ W → is_going (x.works W) ≡ true → steps_of_works gone forgotten (without W vs) + length (intentions_of (x.works W)) < steps_of_works x next vs)
          → going_work x vs ≡ Some w → (its : Bool) → work_eq v.name W ≡ its → Tells v.name W → steps_of_works gone forgotten (if its then vs else v ∷ without W vs) + length (intentions_of (x.works W)) < steps_of_works x next (v ∷ vs)
      other stays again q true is (inl h) = absurd (true≢false (sym g ∙ ap (λ (U : WorkId). is_going (x.works U)) (sym h.1) ∙ stays))
      other stays again q true is (inr h) = absurd (true≢false (sym is ∙ h.0))
      other stays again q false is tells = sums _ _ _ _ _ (left-most v.name) (again q same g)

      by : (b : Bool) → is_going (x.works v.name) ≡ b → (if b then Some v else going_work x vs) ≡ Some w
          → (going_work x vs ≡ Some w → w.name ≡ W → is_going (x.works W) ≡ true → steps_of_works gone forgotten (without W vs) + length (intentions_of (x.works W)) < steps_of_works x next vs)
          → steps_of_works gone forgotten (without W (v ∷ vs)) + length (intentions_of (x.works W)) < steps_of_works x next (v ∷ vs)
      by true b q again = its-less v vs (ap (λ (z : Work). z.name) (some-work v w q) ∙ same) g (work_eq v.name W) refl
      by false b q again = other b again q (work_eq v.name W) refl (work_tells v.name W)

-- ---- a work that goes has a step to make

some-left : (goes : Bool) (n k : ℕ) → goes ≡ true → 0 < if_goes goes n k
some-left true n k g = omega arith
some-left false n k g = absurd (true≢false (sym g))

some-first : (a b : ℕ) → 0 < a → 0 < a + b
some-first a b h = omega (arith, h)

some-rest : (a b : ℕ) → 0 < b → 0 < a + b
some-rest a b h = omega (arith, h)

goes-some : (x : StableState) (next : WorkId → ℕ) (t : WorkerTable) (w : Work) → going_work x t ≡ Some w → 0 < steps_of_works x next t
goes-some x next [] w e = absurd (no-work w e)
goes-some x next (v ∷ vs) w e = by (is_going (x.works v.name)) refl e (goes-some x next vs w)
  where
    by : (b : Bool) → is_going (x.works v.name) ≡ b → (if b then Some v else going_work x vs) ≡ Some w → (going_work x vs ≡ Some w → 0 < steps_of_works x next vs) → 0 < steps_of_works x next (v ∷ vs)
    by true b q again = some-first _ _ (some-left (is_going (x.works v.name)) (length (intentions_of (x.works v.name))) (next v.name) b)
    by false b q again = some-rest (steps_of_work x next v.name) _ (again q)

-- ---- a step of a server

some-row : (a b : RowOutcome Memory) → Some a ≡ Some b → a ≡ b
some-row a b e = cc

no-row : (row : RowOutcome Memory) → None ≡ Some row → ⊥
no-row row e = cc

carried-sum : (a b c r s : ℕ) → a ≡ b → b < c → r ≡ s → a + r < c + s
carried-sum a b c r s e h k = omega (arith, e, h, k)

ended-sum : (a b c r s d : ℕ) → a ≡ b → b + d < c → r ≡ s + d → a + r < c + s
ended-sum a b c r s d e h k = omega (arith, e, h, k)

erased-sum : (a b r s : ℕ) → a ≡ b → r + 1 ≡ s → a + r < b + s
erased-sum a b r s e k = omega (arith, e, k)

some-rubbish : (l : List WorkId) → not (is_none l) ≡ true → 0 < length l
some-rubbish [] e = absurd (true≢false (sym e))
some-rubbish (W ∷ Ws) e = omega arith

module _ (v w : ServerView) where
  abbrev m : Memory
  m = memory_of v

  abbrev x : StableState
  x = state v.storage

  abbrev next : WorkId → ℕ
  next = v.storage.accounts.next

  abbrev t : WorkerTable
  t = v.worker.table

  -- where this row is done, a step less is left
  abbrev LessBy : RowOutcome Memory → Type 0
  LessBy row = memory_of w ≡ row.table → state w.storage ≡ made_all row.changes x → StepLeaves v row w → steps_left w < steps_left v

  counted : (s : StableState) (k : Memory) → memory_of w ≡ k → state w.storage ≡ s → steps_of_works (state w.storage) w.storage.accounts.next w.worker.table ≡ steps_of_works s k.next k.worker
  counted s k mem st = ap (λ (z : StableState). steps_of_works z w.storage.accounts.next w.worker.table) st ∙ ap (λ (z : Memory). steps_of_works s z.next z.worker) mem

  carries : (u : Work) (i : Intention) → going_work x t ≡ Some u → slice_get (intentions_of (x.works u.name)) (next u.name) ≡ Some i → LessBy (of_worker m (carried_row t v.tickets u (Some i)))
  carries u i g e mem st leaves = carried-sum _ _ _ _ _ (counted (made_by (CarryOut u.name i) x) (of_worker m (carried_row t v.tickets u (Some i))).table mem st)
      (carried-less x next u.name (change (intention_change i) x.files) t u g refl (going-is x t u g) (slice_get_within (intentions_of (x.works u.name)) (next u.name) i e))
      (ap (λ (b : Beside). b.rubbish) (leaves.1 (CarryOut u.name i) refl))

  ends : (u : Work) → going_work x t ≡ Some u → LessBy (of_worker m (carried_row t v.tickets u None))
  ends u g mem st leaves = ended-sum _ _ _ _ _ (length (intentions_of (x.works u.name))) (counted (made_by (RemoveWork u.name) x) (of_worker m (carried_row t v.tickets u None)).table mem st)
      (over-less x next u.name t u g refl (going-is x t u g))
      (ap (λ (b : Beside). b.rubbish) (leaves.1 (RemoveWork u.name) refl))

  erases : LessBy (of_worker m (quiet t v.tickets))
  erases mem st leaves = let one = leaves.0 refl in erased-sum _ _ _ _ (counted x (of_worker m (quiet t v.tickets)).table mem st) one.rubbish_less

  pub row-less : (row : RowOutcome Memory) → server_step (memory_of v) (state v.storage) (room_of v.storage) ≡ Some row → LessBy row
  row-less row e = by (going_work x t) refl e
    where
      at-next : (u : Work) → going_work x t ≡ Some u → (o : Option Intention) → slice_get (intentions_of (x.works u.name)) (next u.name) ≡ o → Some (of_worker m (carried_row t v.tickets u o)) ≡ Some row → LessBy row
      at-next u g (Some i) is q = subst (λ (r : RowOutcome Memory). LessBy r) (some-row _ row q) (carries u i g is)
      at-next u g None is q = subst (λ (r : RowOutcome Memory). LessBy r) (some-row _ row q) (ends u g)

      at-rest : (b : Bool) → of_step m (if b then Some (quiet t v.tickets) else None) ≡ Some row → LessBy row
      at-rest true q = subst (λ (r : RowOutcome Memory). LessBy r) (some-row _ row q) erases
      at-rest false q = absurd (no-row row q)

      by : (o : Option Work) → going_work x t ≡ o → of_step m (going_row t (storage_of m x (room_of v.storage)) v.tickets o) ≡ Some row → LessBy row
      by (Some u) g q = at-next u g (slice_get (intentions_of (x.works u.name)) (next u.name)) refl q
      by None g q = at-rest (room_of v.storage).rubbish q

-- where there is a step, some are left
pub step-some : (v : ServerView) → is_some (server_step (memory_of v) (state v.storage) (room_of v.storage)) ≡ true → 0 < steps_left v
step-some v there = by (going_work x t) refl there
  where
    x : StableState
    x = state v.storage

    t : WorkerTable
    t = v.worker.table

    at-rest : (b : Bool) → (room_of v.storage).rubbish ≡ b → is_some (of_step (memory_of v) (if b then Some (quiet t v.tickets) else None)) ≡ true → 0 < steps_left v
    at-rest true is q = some-rest (steps_of_works x v.storage.accounts.next t) _ (some-rubbish v.storage.accounts.rubbish is)
    at-rest false is q = absurd (true≢false (sym q))

    by : (o : Option Work) → going_work x t ≡ o → is_some (of_step (memory_of v) (going_row t (storage_of (memory_of v) x (room_of v.storage)) v.tickets o)) ≡ true → 0 < steps_left v
    by (Some u) g q = some-first _ _ (goes-some x v.storage.accounts.next t u g)
    by None g q = at-rest (room_of v.storage).rubbish refl q
