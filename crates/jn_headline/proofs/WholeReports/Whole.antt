-- After an end that settles until nothing is left to do, nothing is left at a server, so nothing is held for commit.
use Rattle.jn_headline.proofs.Common.{◌≡◌, ◌≢◌, ◌⊎◌, inl, inr, ◌≤◌, ◌<◌, ℕ, zero, suc, ◌+◌, Bool, true, false, List, [], ◌∷◌, ◌++◌, append-nil, append_assoc, length, Option, Some, None, is_some, refl, sym, ◌∙◌, ap, subst, arith, if◌then◌else◌, map, nat_tests, ServerNo, LockUnit, server_eq, server_tells, AllFiles, StableState, Pick, commit_holder, World, Memory, opening, servers_from, Step, Dismiss, Crash, Narrow, Restart, CloseClients, IsStep, after, narrow, run, IsRun, Printed, Item, steps_of, world_of, IsReported, Comeback, Ending, restarts_from, steps_at_end, world_at_end, ArePrinted, IsEnding, Course, opening_course, go, go_on, Chances, clients_from, next_step, onward, until_rest, ask_again, settled, steps-append, on-world, AreUp, Start, restarts, end_steps, without_messages, ended, IsClosed, IsEmpty, Leaves, course_at_end, IsSettledEnd}
use Rattle.std.proofs.Math.Path.{fun_ext}
use Rattle.jn_system.specs.WholeSystem.Settle.{Chance, first_busy}
use Rattle.jn_system_settling.proofs.Settling.Courses.{waiting-is}
use Rattle.jn_system_settling.proofs.AtRest.Answered.{rest-keeps, ask-keeps}
use Rattle.jn_system_settling.proofs.Closing.Ends.{end-leaves-nothing}

-- ---- courses that are one but for the steps so far

abbrev bare : Course → Course
bare c = record c { steps = [] }

go-same : (step : Step) (c d : Course) → bare c ≡ bare d → bare (go step c) ≡ bare (go step d)
go-same step c d e = ap (λ z. bare (go step z)) e

on-same : (steps : List Step) (c d : Course) → bare c ≡ bare d → bare (go_on steps c) ≡ bare (go_on steps d)
on-same [] c d e = e
on-same (step ∷ steps) c d e = on-same steps (go step c) (go step d) (go-same step c d e)

rest-same : (ss : List ServerNo) (chances : ℕ → Chance) (j : ℕ) (c d : Course) → bare c ≡ bare d → bare (until_rest ss chances j c) ≡ bare (until_rest ss chances j d)
rest-same ss chances zero c d e = e
rest-same ss chances (suc j) c d e = by (next_step (chances 0) c.waiting (first_busy c.world ss)) (λ step. rest-same ss (λ n. chances (n + 1)) j (go step c) (go step d) (go-same step c d e))
    ∙ ap (λ (z : Course). bare (onward (next_step (chances 0) z.waiting (first_busy z.world ss)) d (until_rest ss (λ n. chances (n + 1)) j))) e
  where
    by : (o : Option Step) → ((step : Step) → bare (until_rest ss (λ n. chances (n + 1)) j (go step c)) ≡ bare (until_rest ss (λ n. chances (n + 1)) j (go step d)))
        → bare (onward o c (until_rest ss (λ n. chances (n + 1)) j)) ≡ bare (onward o d (until_rest ss (λ n. chances (n + 1)) j))
    by None again = e
    by (Some step) again = again step

settled-same : (n : ℕ) (x : Chances) (c d : Course) → bare c ≡ bare d → bare (settled n x c) ≡ bare (settled n x d)
settled-same n x c d e = let ss = servers_from 0 n in let ask = ask_again (clients_from 1 8) ss in let p = until_rest ss x.first x.steps c in let q = until_rest ss x.first x.steps d in
    rest-same ss x.second x.steps (go_on ask p) (go_on ask q) (on-same ask p q (rest-same ss x.first x.steps c d e))

-- ---- where each pick finds what it found

narrow-same : (s : ServerNo) (w : World) → after (Narrow s (λ c. c)) w ≡ w
narrow-same s w = by (w.memory s)
  where
    found : (q : ServerNo) (c : Pick) → (if server_eq s q then w.found s c else w.found q c) ≡ w.found q c
    found q c = on (server_tells s q)
      where
        on : ((server_eq s q ≡ true) × (s ≡ q)) ⊎ ((server_eq s q ≡ false) × (s ≢ q)) → (if server_eq s q then w.found s c else w.found q c) ≡ w.found q c
        on (inl t) = ap (λ (b : Bool). if b then w.found s c else w.found q c) t.0 ∙ ap (λ (z : ServerNo). w.found z c) t.1
        on (inr t) = ap (λ (b : Bool). if b then w.found s c else w.found q c) t.0

    by : (o : Option Memory) → narrow s (λ c. c) o w ≡ w
    by None = ap (λ (f : ServerNo → Pick → StableState). record w { found = f }) (fun_ext (λ q. fun_ext (λ c. found q c)))
    by (Some m) = refl

narrow-bare : (n : ℕ) (at_most : n ≤ 8) (s : ServerNo) (d : Course) → bare (go (Narrow s (λ c. c)) d) ≡ bare d
narrow-bare n at_most s d = ap (λ (l : List ℕ). record { world = after (Narrow s (λ c. c)) d.world; waiting = l; steps = [] }) (waiting-is n at_most d.world d (Narrow s (λ c. c)) [] (ap (λ (z : World). z.sent) (narrow-same s d.world) ∙ sym (append-nil d.world.sent)) ∙ append-nil d.waiting)
    ∙ ap (λ (z : World). record { world = z; waiting = d.waiting; steps = [] }) (narrow-same s d.world)

-- ---- the two forms of an end

abbrev start_of : Comeback → Start
start_of x = record { narrowed = λ c. c; pick = x.pick; works = x.works; tids = x.tids }

abbrev start_at : ℕ → List Comeback → Start
start_at k [] = record { narrowed = λ c. c; pick = λ n. true; works = []; tids = [] }
start_at zero (x ∷ xs) = start_of x
start_at (suc k) (x ∷ xs) = start_at k xs

abbrev Come : (ServerNo → Start) → ℕ → List Comeback → Type 0
Come starts first [] = Unit {0}
Come starts first (x ∷ xs) = (starts (record { 0 = first }) ≡ start_of x) × Come starts (first + 1) xs

they-come : (all xs : List Comeback) (first : ℕ) → ((k : ℕ) → start_at (first + k) all ≡ start_at k xs) → Come (λ s. start_at s.0 all) first xs
they-come all [] first h = tt
they-come all (x ∷ xs) first h = (ap (λ k. start_at k all) (no-more first) ∙ h 0, they-come all xs (first + 1) (λ k. ap (λ j. start_at j all) (later first k) ∙ h (suc k)))
  where
    no-more : (a : ℕ) → a ≡ a + 0
    no-more a = omega arith

    later : (a b : ℕ) → a + 1 + b ≡ a + suc b
    later a b = omega arith

module _ (n : ℕ) (at_most : n ≤ 8) where
  -- the first steps may come where the last ones may, and lead where the second ones lead
  abbrev Do : List Step → List Step → List Step → Type 0
  Do these those longer = (c d : Course) → bare c ≡ bare d → IsRun longer d.world → IsRun these c.world × (bare (go_on these c) ≡ bare (go_on those d))

  do-step : (step : Step) (a b l : List Step) → Do a b l → Do (step ∷ a) (step ∷ b) (step ∷ l)
  do-step step a b l h c d e i = let on = h (go step c) (go step d) (go-same step c d e) i.1 in ((subst (λ (z : Course). IsStep step z.world) (sym e) i.0, on.0), on.1)

  do-steps : (xs a b l : List Step) → Do a b l → Do (xs ++ a) (xs ++ b) (xs ++ l)
  do-steps [] a b l h = h
  do-steps (step ∷ xs) a b l h = do-step step (xs ++ a) (xs ++ b) (xs ++ l) (do-steps xs a b l h)

  do-restarts : (starts : ServerNo → Start) (first : ℕ) (xs : List Comeback) → Come starts first xs → (a b l : List Step) → Do a b l
      → Do (restarts starts (servers_from first (length xs)) ++ a) (restarts_from first xs ++ b) (restarts_from first xs ++ l)
  do-restarts starts first [] come a b l h = h
  do-restarts starts first (x ∷ xs) come a b l h = let s : ServerNo = record { 0 = first } in let more = restarts starts (servers_from (first + 1) (length xs)) ++ a in
      subst (λ (z : Start). Do (Narrow s z.narrowed ∷ Restart s z.pick z.works z.tids ∷ more) (restarts_from first (x ∷ xs) ++ b) (restarts_from first (x ∷ xs) ++ l)) (sym come.0)
      (narrowed s (Restart s x.pick x.works x.tids ∷ more) (restarts_from first (x ∷ xs) ++ b) (restarts_from first (x ∷ xs) ++ l)
      (do-step (Restart s x.pick x.works x.tids) more (restarts_from (first + 1) xs ++ b) (restarts_from (first + 1) xs ++ l) (do-restarts starts (first + 1) xs come.1 a b l h)))
    where
      narrowed : (s : ServerNo) (a b l : List Step) → Do a b l → Do (Narrow s (λ c. c) ∷ a) b l
      narrowed s a b l h c d e i = let on = h (go (Narrow s (λ c. c)) c) d (narrow-bare n at_most s c ∙ e) i in ((tt, on.0), on.1)

  abbrev starts : Ending → ServerNo → Start
  starts e s = start_at s.0 e.comebacks

  abbrev crashes : List Step
  crashes = map (λ (s : ServerNo). Crash s) (servers_from 0 n)

  abbrev closes : List Step
  closes = map (λ (s : ServerNo). CloseClients s) (servers_from 0 n)

  abbrev come : Ending → List Step → List Step
  come e settling = restarts_from 0 e.comebacks ++ (closes ++ settling)

  steps-are : (e : Ending) → steps_at_end n e ≡ Dismiss ∷ (crashes ++ come e e.settling)
  steps-are e = ap (λ l. Dismiss ∷ l) (append_assoc (crashes ++ restarts_from 0 e.comebacks) closes e.settling ∙ append_assoc crashes (restarts_from 0 e.comebacks) (closes ++ e.settling))

  do-end : (e : Ending) → length e.comebacks ≡ n → Do (end_steps (starts e) (servers_from 0 n)) (steps_at_end n (record e { settling = [] })) (steps_at_end n e)
  do-end e long = subst (λ l. Do (end_steps (starts e) (servers_from 0 n)) l (steps_at_end n e)) (sym (steps-are (record e { settling = [] }))) (subst (λ l. Do (end_steps (starts e) (servers_from 0 n)) (Dismiss ∷ (crashes ++ come e [])) l) (sym (steps-are e))
      (do-step Dismiss (crashes ++ again n) (crashes ++ come e []) (crashes ++ come e e.settling) (do-steps crashes (again n) (come e []) (come e e.settling) (subst (λ (k : ℕ). Do (again k) (come e []) (come e e.settling)) long
      (do-restarts (starts e) 0 e.comebacks (they-come e.comebacks e.comebacks 0 (λ k. ap (λ j. start_at j e.comebacks) (none-more k))) closes (closes ++ []) (closes ++ e.settling)
      (subst (λ l. Do l (closes ++ []) (closes ++ e.settling)) (append-nil closes) (do-steps closes [] [] e.settling (λ c d same i. (tt, same)))))))))
    where
      none-more : (k : ℕ) → 0 + k ≡ k
      none-more k = omega arith

      again : ℕ → List Step
      again k = restarts (starts e) (servers_from 0 k) ++ closes

  -- ---- what is so after it

  -- a course's steps lead to its world
  abbrev Stands : World → Course → Type 0
  Stands w c = run c.steps w ≡ c.world

  settled-stands : (w : World) (files : AllFiles) (epochs : ServerNo → ℕ) (x : Chances) (c : Course) → Stands w c → Stands w (settled n x c)
  settled-stands w files epochs x c h = let ss = servers_from 0 n in let p = until_rest ss x.first x.steps c in
      rest-keeps n at_most w files epochs (Stands w) go-stands x.steps x.second (go_on (ask_again (clients_from 1 8) ss) p)
      (ask-keeps n at_most w files epochs (Stands w) go-stands (clients_from 1 8) ss p (rest-keeps n at_most w files epochs (Stands w) go-stands x.steps x.first c h))
    where
      go-stands : (d : Course) (step : Step) → Stands w d → IsStep step d.world → Stands w (go step d)
      go-stands d step k i = steps-append d.steps (step ∷ []) w ∙ ap (after step) k

  on-stands : (w : World) (steps : List Step) (c : Course) → Stands w c → Stands w (go_on steps c)
  on-stands w [] c h = h
  on-stands w (step ∷ steps) c h = on-stands w steps (go step c) (steps-append c.steps (step ∷ []) w ∙ ap (after step) h)

-- each server that prints is up
pub printed-up : (first : ℕ) (w : World) (prints : List (List Printed)) → ArePrinted first w prints → (s : ServerNo) → first ≤ s.0 → s.0 < first + length prints → is_some (w.memory s) ≡ true
printed-up first w [] h s low high = absurd (none first s.0 low high)
  where
    none : (a b : ℕ) → a ≤ b → b < a + 0 → ⊥
    none a b h k = omega (arith, h, k)
printed-up first w (x ∷ xs) h s low high = by (server_tells (record { 0 = first }) s) (λ l. printed-up (first + 1) w xs h.1 s l (shift s.0 first (length xs) high))
  where
    next : (a b : ℕ) → a ≤ b → (server_eq (record { 0 = a }) (record { 0 = b })) ≡ false → a + 1 ≤ b
    next a b l e = grind (arith, nat_tests, l, e)

    shift : (a b c : ℕ) → a < b + suc c → a < b + 1 + c
    shift a b c h = omega (arith, h)

    by : ((server_eq (record { 0 = first }) s ≡ true) × ((record { 0 = first }) ≡ s)) ⊎ ((server_eq (record { 0 = first }) s ≡ false) × ((record { 0 = first }) ≢ s)) → (first + 1 ≤ s.0 → is_some (w.memory s) ≡ true) → is_some (w.memory s) ≡ true
    by (inl t) again = ap (λ (q : ServerNo). is_some (w.memory q)) (sym t.1) ∙ (let p = h.0 in ap is_some p.up)
    by (inr t) again = again (next first s.0 low t.0)

module _ (servers : ℕ) (few : servers ≤ 8) (files : AllFiles) (epochs : ServerNo → ℕ) (items : List Item) (e : Ending) (h : IsReported items (opening servers files epochs)) (may : IsRun (steps_at_end servers e) (world_of items (opening servers files epochs)))
    (all_up : length e.comebacks ≡ servers) (rest : IsSettledEnd servers e (world_of items (opening servers files epochs))) (up : AreUp servers (world_at_end servers e (world_of items (opening servers files epochs)))) where
  abbrev w : World
  w = world_of items (opening servers files epochs)

  abbrev before : Course
  before = go_on (steps_of items) (opening_course servers files epochs)

  abbrev here : Course
  here = record { world = w; waiting = []; steps = [] }

  same : bare (ended servers (starts servers few e) before) ≡ bare (course_at_end servers e w)
  same = (do-end servers few e all_up (without_messages before) here (ap (λ (z : World). record { world = z; waiting = []; steps = [] }) (on-world (steps_of items) (opening_course servers files epochs))) may).1

  leaves : Leaves IsClosed servers rest.first rest.second (ended servers (starts servers few e) before)
  leaves = end-leaves-nothing servers few files epochs (steps_of items) h.steps (starts servers few e) (do-end servers few e all_up here here refl may).0 rest.first rest.second

  abbrev chances : Chances
  chances = record { first = rest.first; second = rest.second; steps = rest.enough + leaves.steps }

  stands : (settled servers chances (course_at_end servers e w)).world ≡ world_at_end servers e w
  stands = sym (settled-stands servers few w files epochs chances (course_at_end servers e w) (on-stands servers few w (steps_at_end servers (record e { settling = [] })) here refl)) ∙ ap (λ l. run l w) (rest.each (rest.enough + leaves.steps) (more rest.enough leaves.steps))
    where
      more : (a b : ℕ) → a ≤ a + b
      more a b = omega arith

  leads : (settled servers chances (ended servers (starts servers few e) before)).world ≡ world_at_end servers e w
  leads = ap (λ (z : Course). z.world) (settled-same servers chances _ _ same) ∙ stands

  pub empty-where-up : (s : ServerNo) (m : Memory) → (world_at_end servers e (world_of items (opening servers files epochs))).memory s ≡ Some m → IsEmpty m ((world_at_end servers e (world_of items (opening servers files epochs))).found s)
  empty-where-up s m is = subst (λ (z : World). IsEmpty m (z.found s)) leads (closed.servers s m (ap (λ (z : World). z.memory s) leads ∙ is))
    where
      more : (a b : ℕ) → b ≤ a + b
      more a b = omega arith

      closed : IsClosed (settled servers chances (ended servers (starts servers few e) before))
      closed = leaves.each (rest.enough + leaves.steps) (more rest.enough leaves.steps) (subst (AreUp servers) (sym leads) up)

  pub holds-where-up : (s : ServerNo) (m : Memory) (u : LockUnit) → (world_at_end servers e (world_of items (opening servers files epochs))).memory s ≡ Some m → commit_holder u m.worker ≡ None
  holds-where-up s m u is = ap (commit_holder u) (let empty = empty-where-up s m is in empty.works)

pub end-holds : (servers : ℕ) → servers ≤ 8 → (files : AllFiles) (epochs : ServerNo → ℕ) (items : List Item) (e : Ending) → IsReported items (opening servers files epochs) → IsEnding servers e (world_of items (opening servers files epochs))
    → IsSettledEnd servers e (world_of items (opening servers files epochs)) → (s : ServerNo) (m : Memory) (u : LockUnit) → (world_at_end servers e (world_of items (opening servers files epochs))).memory s ≡ Some m → commit_holder u m.worker ≡ None
end-holds servers few files epochs items e h k rest = holds-where-up servers few files epochs items e h k.steps k.all_up rest
    (λ s l. printed-up 0 (world_at_end servers e (world_of items (opening servers files epochs))) e.prints k.prints s (omega arith) (let long = k.all_print in grind (arith, nat_tests, l, long)))
