-- A message that a settle hands over waits no more, so that no settle hands it over again.
use Rattle.jn_wrong.proofs.Common.{◌≡◌, ◌<◌, ℕ, ◌+◌, Bool, true, false, List, [], ◌∷◌, ◌++◌, length, length-append, drop, Option, Some, None, refl, sym, ◌∙◌, ap, subst, arith, ◌&&◌, not, nat_eq, nat_lt, if◌then◌else◌, slice_get, drop-append_seam, nat_tests, ServerNo, Client, Server, AllFiles, Event, Sent, Pick, World, Memory, Room, Step, Deliver, StopDelivery, after, Course, without_number, still_waiting, numbered, go, go_on, handing, Setup, Chance, Task, Rests, Dismisses, Stage, CutShort, State, next_at, next_task, begun, Deed, room, no_room, delivered, delivered_at, servers_of, first_busy, next_event, next_in, resting, deed_of, is_too_much, come_to, cut_short, made, done, none, more, MayLead, before, HandsOver, Left, ClientNo, ClientTable}
use Rattle.jn_schedule.specs.declared.Event.TheVariants as events
use Rattle.jn_system_settling.proofs.Settling.Burdens.{are_below, below-both, below-more, below-new}
use Rattle.jn_system_settling.proofs.Settling.Courses.{below-still}
use Rattle.jn_system.proofs.WholeSystem.Grows.{Grows, grows}
use Rattle.jn_system_settling.proofs.Settling.Parts.{get-some}

-- ---- numbers that wait

-- the number isn't among these
abbrev are_absent : ℕ → List ℕ → Bool
are_absent k [] = true
are_absent k (j ∷ js) = not (nat_eq j k) && are_absent k js

-- each stands there once
abbrev are_single : List ℕ → Bool
are_single [] = true
are_single (k ∷ ks) = are_absent k ks && are_single ks

both : (a b : Bool) → a ≡ true → b ≡ true → (a && b) ≡ true
both a b h k = grind arith

first : (a b : Bool) → (a && b) ≡ true → a ≡ true
first a b h = grind arith

second : (a b : Bool) → (a && b) ≡ true → b ≡ true
second a b h = grind arith

absent-less : (k j : ℕ) (ks : List ℕ) → are_absent k ks ≡ true → are_absent k (without_number j ks) ≡ true
absent-less k j [] h = refl
absent-less k j (i ∷ is) h = let again = absent-less k j is in grind (arith, h)

absent-both : (k : ℕ) (a b : List ℕ) → are_absent k a ≡ true → are_absent k b ≡ true → are_absent k (a ++ b) ≡ true
absent-both k [] b h l = l
absent-both k (x ∷ a) b h l = let again = absent-both k a b in grind (arith, h, l)

absent-new : (k n : ℕ) (ys : List Sent) → k < n → are_absent k (numbered n ys) ≡ true
absent-new k n [] h = refl
absent-new k n (y ∷ ys) h = let again = absent-new k (n + 1) ys in grind (arith, nat_tests, h)

single-less : (j : ℕ) (ks : List ℕ) → are_single ks ≡ true → are_single (without_number j ks) ≡ true
single-less j [] h = refl
single-less j (i ∷ is) h = by (nat_eq i j) (single-less j is (second (are_absent i is) (are_single is) h)) (absent-less i j is (first (are_absent i is) (are_single is) h))
  where
    by : (b : Bool) → are_single (without_number j is) ≡ true → are_absent i (without_number j is) ≡ true → are_single (if b then is else i ∷ without_number j is) ≡ true
    by true k l = second (are_absent i is) (are_single is) h
    by false k l = both _ _ l k

single-new : (n : ℕ) (ys : List Sent) → are_single (numbered n ys) ≡ true
single-new n [] = refl
single-new n (y ∷ ys) = both _ _ (absent-new n (n + 1) ys (next n)) (single-new (n + 1) ys)
  where
    next : (m : ℕ) → m < m + 1
    next m = omega arith

single-both : (n : ℕ) (ks : List ℕ) (ys : List Sent) → are_below n ks ≡ true → are_single ks ≡ true → are_single (ks ++ numbered n ys) ≡ true
single-both n [] ys l h = single-new n ys
single-both n (k ∷ ks) ys l h = both _ _ (absent-both k ks (numbered n ys) (first (are_absent k ks) (are_single ks) h) (absent-new k n ys (below k n (first (nat_lt k n) (are_below n ks) l))))
    (single-both n ks ys (second (nat_lt k n) (are_below n ks) l) (second (are_absent k ks) (are_single ks) h))
  where
    below : (a m : ℕ) → nat_lt a m ≡ true → a < m
    below a m e = grind (arith, nat_tests, e)

-- what a step takes from what waits
still : (P : List ℕ → Type 0) → ((j : ℕ) (ks : List ℕ) → P ks → P (without_number j ks)) → (step : Step) (ks : List ℕ) → P ks → P (still_waiting step ks)
still P less (Deliver k room) ks h = less k ks h
still P less (StopDelivery k room made) ks h = less k ks h
still P less _ ks h = h

-- ---- courses

-- each message that waits was sent, and waits once
record Tidy (c : Course) : Type 0 where
  below : are_below (length c.world.sent) c.waiting ≡ true
  single : are_single c.waiting ≡ true

-- the message was sent and waits no more
record Gone (k : ℕ) (c : Course) : Type 0 where
  sent : k < length c.world.sent
  absent : are_absent k c.waiting ≡ true

module _ (c : Course) (step : Step) (g : Grows c.world (after step c.world)) where
  waits : (go step c).waiting ≡ still_waiting step c.waiting ++ numbered (length c.world.sent) g.new
  waits = ap (λ (xs : List Sent). still_waiting step c.waiting ++ numbered (length c.world.sent) (drop (length c.world.sent) xs)) g.sent
      ∙ ap (λ (xs : List Sent). still_waiting step c.waiting ++ numbered (length c.world.sent) xs) (drop-append_seam c.world.sent g.new)

  long : length (go step c).world.sent ≡ length c.world.sent + length g.new
  long = ap length g.sent ∙ length-append c.world.sent g.new

  go-tidy : Tidy c → Tidy (go step c)
  go-tidy t = record {
    below = let l = long in subst (λ ks. are_below (length (go step c).world.sent) ks ≡ true) (sym waits)
        (below-both (length (go step c).world.sent) (still_waiting step c.waiting) (numbered (length c.world.sent) g.new)
        (below-more (length c.world.sent) (length (go step c).world.sent) (still_waiting step c.waiting) (omega (arith, l)) (below-still (length c.world.sent) step c.waiting t.below))
        (below-new (length c.world.sent) g.new (length (go step c).world.sent) (omega (arith, l))));
    single = subst (λ ks. are_single ks ≡ true) (sym waits) (single-both (length c.world.sent) (still_waiting step c.waiting) g.new (below-still (length c.world.sent) step c.waiting t.below)
        (still (λ ks. are_single ks ≡ true) single-less step c.waiting t.single));
  }

  kept-absent : (k : ℕ) → k < length c.world.sent → are_absent k (still_waiting step c.waiting) ≡ true → Gone k (go step c)
  kept-absent k l h = record {
    sent = let m = long in omega (arith, m, l);
    absent = subst (λ ks. are_absent k ks ≡ true) (sym waits) (absent-both k (still_waiting step c.waiting) (numbered (length c.world.sent) g.new) h (absent-new k (length c.world.sent) g.new l));
  }

  go-gone : (k : ℕ) → Gone k c → Gone k (go step c)
  go-gone k h = kept-absent k h.sent (still (λ ks. are_absent k ks ≡ true) (absent-less k) step c.waiting h.absent)

-- ---- runs

module _ (P : Course → Type 0) (goes : (c : Course) (step : Step) → P c → P (go step c)) (drops : (c : Course) → P c → P (record c { waiting = [] })) where
  on : (steps : List Step) (c : Course) → P c → P (go_on steps c)
  on [] c h = h
  on (step ∷ steps) c h = on steps (go step c) (goes c step h)

  begins : (task : Task) (s : State) → P s.course → P (begun task s).course
  begins Dismisses s h = drops s.course h
  begins _ s h = h

  keeps : (x : Setup) (h : Chance) (task : Task) (s : State) → P s.course → P (done x h task s).course
  keeps x h task s p = by (is_too_much deed (go_on deed.steps (begun task s).course))
    where
      deed : Deed
      deed = deed_of x h task s

      by : (b : Bool) → P (if b then cut_short (begun task s) else come_to x h deed (go_on deed.steps (begun task s).course) (begun task s)).course
      by true = begins task s p
      by false = on deed.steps (begun task s).course (begins task s p)

  leads : (x : Setup) (s t : State) → MayLead x s t → P s.course → P t.course
  leads x s t (none u) p = p
  leads x s t (more a b c m rest) p = leads x b t rest (subst (λ (u : State). P u.course) (sym m.state_is) (keeps x m.chance m.task s p))

tidy-leads : (x : Setup) (s t : State) → MayLead x s t → Tidy s.course → Tidy t.course
tidy-leads = leads Tidy (λ c step. go-tidy c step (grows c.world step)) (λ c h. record { below = refl; single = refl })

gone-leads : (k : ℕ) (x : Setup) (s t : State) → MayLead x s t → Gone k s.course → Gone k t.course
gone-leads k = leads (Gone k) (λ c step. go-gone c step (grows c.world step) k) (λ c h. record { sent = h.sent; absent = refl })

-- ---- a message that is handed over

waits-first : (waiting : List ℕ) (busy : Option ServerNo) (k : ℕ) → next_event waiting busy ≡ Some (events.Deliver k) → waiting ≡ k ∷ drop 1 waiting
waits-first (j ∷ js) busy k e = ap (λ (i : ℕ). i ∷ js) (same e)
  where
    same : Some (events.Deliver j) ≡ Some (events.Deliver k) → j ≡ k
    same z = cc
waits-first [] (Some q) k e = absurd (no' e)
  where
    no' : Some (events.Step q) ≡ Some (events.Deliver k) → ⊥
    no' z = cc
waits-first [] None k e = absurd (no' e)
  where
    no' : None ≡ Some (events.Deliver k) → ⊥
    no' z = cc

-- nothing comes behind a run that is cut short
idle : {A : Type 0} (s : State) (task : Task) → s.stage ≡ CutShort → next_task s ≡ Some task → A
idle s task e n = absurd (no' (ap (λ (stage : Stage). next_at stage s.tasks) (sym e) ∙ n))
  where
    no' : None ≡ Some task → ⊥
    no' z = cc

module _ (k : ℕ) where
  -- the one step takes the message from what waits
  abbrev Takes : Deed → Type 0
  Takes deed = (c : Course) → k < length c.world.sent → are_absent k (without_number k c.waiting) ≡ true → Gone k (go_on deed.steps c)

  by-step : (step : Step) → ((ks : List ℕ) → still_waiting step ks ≡ without_number k ks) → (c : Course) → k < length c.world.sent → are_absent k (without_number k c.waiting) ≡ true → Gone k (go_on (step ∷ []) c)
  by-step step is c l h = kept-absent c step (grows c.world step) k l (subst (λ ks. are_absent k ks ≡ true) (sym (is c.waiting)) h)

  handing-takes : (r : Room) (stop : Option (Pick → Left)) (c : Course) → k < length c.world.sent → are_absent k (without_number k c.waiting) ≡ true → Gone k (go_on (handing k r stop ∷ []) c)
  handing-takes r None = by-step (Deliver k r) (λ ks. refl)
  handing-takes r (Some made) = by-step (StopDelivery k r made) (λ ks. refl)

  at-takes : (h : Chance) (q : ServerNo) (o : Option Memory) → Takes (delivered_at h k q o)
  at-takes h q None = by-step (Deliver k (room h q)) (λ ks. refl)
  at-takes h q (Some m) = handing-takes (room h q) h.stop

  takes : (h : Chance) (t : ClientNo → ClientTable) (w : World) (y : Sent) → Takes (delivered h k t w (Some y))
  takes h t w (Client c, message) = by-step (Deliver k no_room) (λ ks. refl)
  takes h t w (Server q, message) = at-takes h q (w.memory q)

  -- afterwards it waits no more, or the run is cut short
  handed : (x : Setup) (s t : State) → Tidy s.course → HandsOver x k s t → (t.stage ≡ CutShort → ⊥) → Gone k t.course
  handed x s t tidy d goes = subst (λ (u : State). Gone k u.course) (sym d.state_is) (by (is_too_much deed (go_on deed.steps s.course)) (λ e. goes (ap (λ (u : State). u.stage) d.state_is ∙ e)))
    where
      deed : Deed
      deed = resting x d.chance s.clients s.course.world (next_in x d.chance.rubbish s.course)

      now : List ℕ
      now = s.course.waiting

      is-first : now ≡ k ∷ drop 1 now
      is-first = waits-first s.course.waiting (first_busy d.chance.rubbish s.course.world (servers_of x)) k d.is_next

      same : nat_eq k k ≡ true
      same = grind (arith, nat_tests)

      was-sent : k < length s.course.world.sent
      was-sent = below k (length s.course.world.sent) (first (nat_lt k (length s.course.world.sent)) (are_below (length s.course.world.sent) (drop 1 now)) (subst (λ ks. are_below (length s.course.world.sent) ks ≡ true) is-first tidy.below))
        where
          below : (a m : ℕ) → nat_lt a m ≡ true → a < m
          below a m e = grind (arith, nat_tests, e)

      absent : are_absent k (without_number k s.course.waiting) ≡ true
      absent = subst (λ ks. are_absent k (without_number k ks) ≡ true) (sym is-first)
          (subst (λ b. are_absent k (if b then drop 1 now else k ∷ without_number k (drop 1 now)) ≡ true) (sym same) (first (are_absent k (drop 1 now)) (are_single (drop 1 now)) (subst (λ ks. are_single ks ≡ true) is-first tidy.single)))

      taken : Gone k (go_on deed.steps s.course)
      taken = subst (λ o. Gone k (go_on (resting x d.chance s.clients s.course.world o).steps s.course)) (sym d.is_next) (there (get-some s.course.world.sent k was-sent))
        where
          there : (y : Sent) × (slice_get s.course.world.sent k ≡ Some y) → Gone k (go_on (delivered d.chance k s.clients s.course.world (slice_get s.course.world.sent k)).steps s.course)
          there (y, e) = subst (λ o. Gone k (go_on (delivered d.chance k s.clients s.course.world o).steps s.course)) (sym e) (takes d.chance s.clients s.course.world y s.course was-sent absent)

      by : (b : Bool) → ((if b then cut_short (begun Rests s) else come_to x d.chance deed (go_on deed.steps s.course) (begun Rests s)).stage ≡ CutShort → ⊥)
          → Gone k (if b then cut_short (begun Rests s) else come_to x d.chance deed (go_on deed.steps s.course) (begun Rests s)).course
      by true n = absurd (n refl)
      by false n = taken

  not-again : (x : Setup) (u v : State) → Gone k u.course → HandsOver x k u v → ⊥
  not-again x u v g d = clash (first (not (nat_eq k k)) (are_absent k (drop 1 u.course.waiting)) (subst (λ ks. are_absent k ks ≡ true) (waits-first u.course.waiting (first_busy d.chance.rubbish u.course.world (servers_of x)) k d.is_next) g.absent))
    where
      clash : not (nat_eq k k) ≡ true → ⊥
      clash e = grind (arith, nat_tests, e)

-- a run that is cut short stays there
behind : (x : Setup) (k : ℕ) (t u v : State) → MayLead x t u → HandsOver x k u v → t.stage ≡ CutShort → ⊥
behind x k t u v (none a) d e = idle t Rests e d.rests
behind x k t u v (more a b c m rest) d e = idle t m.task e m.task_is

pub once : (x : Setup) (schedule : List Event) (files : AllFiles) (epochs : ServerNo → ℕ) (k : ℕ) (s t u v : State) → MayLead x (before x schedule files epochs) s → HandsOver x k s t → MayLead x t u → HandsOver x k u v → ⊥
once x schedule files epochs k s t u v to d on again = not-again k x u v (gone-leads k x t u on (handed k x s t (tidy-leads x (before x schedule files epochs) s to (record { below = refl; single = refl })) d (behind x k t u v on again))) again
