-- When a rest is over, and whether an event is refused.
use Rattle.jn_machine.proofs.Common.{◌≡◌, ◌≤◌, ◌<◌, ◌≢◌, ℕ, zero, suc, ◌+◌, Bool, true, false, List, [], ◌∷◌, ◌++◌, append-nil, length, drop, Option, Some, None, refl, sym, ◌∙◌, ap, subst, arith, drop-append_seam, if◌then◌else◌, nat_lt, ServerNo, Event, EventRefusal, Line, Text, Sent, World, servers_from, Course, newly_sent, Setup, Chance, Task, Meets, Rests, CutShort, State, when_of, begun, Deed, is_busy, nobody, nothing, tells, refusal_of, servers_of, first_busy, next_event, next_in, acted, met, resting, own_texts, message_texts, traced, texts_of, lines_at, most_messages, is_too_much, come_to, cut_short, made_to, made, done, IsAtRest}
use Rattle.jn_report.specs.declared.line.Text.TheVariants.{RefusedEvent}

-- the tasks of a deed come first
made-tasks : (x : Setup) (h : Chance) (deed : Deed) (c : Course) (s : State) → (made_to x h deed c s).stage ≢ CutShort → (made_to x h deed c s).tasks ≡ deed.tasks ++ s.tasks
made-tasks x h deed c s = by (is_too_much deed c)
  where
    by : (b : Bool) → (if b then cut_short s else come_to x h deed c s).stage ≢ CutShort → (if b then cut_short s else come_to x h deed c s).tasks ≡ deed.tasks ++ s.tasks
    by true k = absurd (k refl)
    by false k = refl

no-longer : (task : Task) (tasks : List Task) → task ∷ tasks ≡ tasks → ⊥
no-longer task tasks e = longer (length tasks) (ap length e)
  where
    longer : (n : ℕ) → suc n ≡ n → ⊥
    longer n h = omega arith

none-busy : (rubbish : ServerNo → Bool) (w : World) (first n : ℕ) → first_busy rubbish w (servers_from first n) ≡ None → (q : ServerNo) → first ≤ q.0 → q.0 < first + n → is_busy rubbish w q ≡ false
none-busy rubbish w first zero h q low high = absurd (empty low high)
  where
    empty : first ≤ q.0 → q.0 < first + 0 → ⊥
    empty a b = omega arith
none-busy rubbish w first (suc n) h q low high = by (is_busy rubbish w (record { 0 = first })) refl h (λ k l m. none-busy rubbish w (first + 1) n k q l m)
  where
    one : ServerNo
    one = record { 0 = first }

    clash : Some one ≡ None → ⊥
    clash e = cc

    same : (m : ℕ) → m ≡ first → first ≤ m → is_busy rubbish w (record { 0 = first }) ≡ false → is_busy rubbish w (record { 0 = m }) ≡ false
    same m e l k = subst (λ (i : ℕ). is_busy rubbish w (record { 0 = i }) ≡ false) (sym e) k

    by : (b : Bool) → is_busy rubbish w (record { 0 = first }) ≡ b → (if b then Some (record { 0 = first }) else first_busy rubbish w (servers_from (first + 1) n)) ≡ None
        → (first_busy rubbish w (servers_from (first + 1) n) ≡ None → first + 1 ≤ q.0 → q.0 < first + 1 + n → is_busy rubbish w q ≡ false) → is_busy rubbish w q ≡ false
    by true e k rest = absurd (clash k)
    by false e k rest = here (nat_lt first q.0) refl
      where
        above : nat_lt first q.0 ≡ true → first + 1 ≤ q.0
        above z = grind arith

        below : nat_lt first q.0 ≡ false → q.0 ≡ first
        below z = grind arith

        within : q.0 < first + 1 + n
        within = omega arith

        here : (c : Bool) → nat_lt first q.0 ≡ c → is_busy rubbish w q ≡ false
        here true z = rest k (above z) within
        here false z = same q.0 (below z) low e

module _ (x : Setup) (h : Chance) (s : State) where
  pub rest-ends : (done x h Rests s).stage ≢ CutShort → (done x h Rests s).tasks ≡ drop 1 s.tasks → IsAtRest x h.rubbish s.course
  rest-ends k e = by s.course.waiting refl (first_busy h.rubbish s.course.world (servers_of x)) refl (sym (made-tasks x h (resting x h s.callers s.course.world (next_in x h.rubbish s.course)) _ (begun Rests s) k) ∙ e)
    where
      by : (waiting : List ℕ) → s.course.waiting ≡ waiting → (busy : Option ServerNo) → first_busy h.rubbish s.course.world (servers_of x) ≡ busy
          → (resting x h s.callers s.course.world (next_event waiting busy)).tasks ++ drop 1 s.tasks ≡ drop 1 s.tasks → IsAtRest x h.rubbish s.course
      by (n ∷ waiting) w busy b z = absurd (no-longer Rests (drop 1 s.tasks) z)
      by [] w (Some q) b z = absurd (no-longer Rests (drop 1 s.tasks) z)
      by [] w None b z = record { waiting = w; idle = λ q l. none-busy h.rubbish s.course.world 0 x.servers b q (least q.0) (most q.0 l) }
        where
          least : (n : ℕ) → 0 ≤ n
          least n = omega arith

          most : (n : ℕ) → n < x.servers → n < 0 + x.servers
          most n m = omega arith

  pub is-refused : (event : Event) (refusal : EventRefusal) → refusal_of x s.course.world event ≡ Some refusal → done x h (Meets event) s ≡ made x h (tells (RefusedEvent refusal ∷ [])) (begun (Meets event) s)
  is-refused event refusal e = ap (λ o. made x h (met x h event s.callers s.course.world o) (begun (Meets event) s)) e

  pub is-done : (event : Event) → refusal_of x s.course.world event ≡ None → done x h (Meets event) s ≡ made x h (acted x h event s.callers s.course.world) (begun (Meets event) s)
  is-done event e = ap (λ o. made x h (met x h event s.callers s.course.world o) (begun (Meets event) s)) e

-- ---- a step of nothing

drop-all : {A : Type 0} (xs : List A) → drop (length xs) xs ≡ []
drop-all xs = subst (λ ys. drop (length xs) ys ≡ []) (append-nil xs) (drop-append_seam xs [])

none-told : (k : ℕ) (trace : Bool) (own : List Text) (sent : List Sent) → own ≡ [] → sent ≡ [] → own ++ [] ++ traced trace (message_texts nobody k sent) ≡ []
none-told k trace own sent e f = subst (λ (texts : List Text). texts ++ [] ++ traced trace (message_texts nobody k sent) ≡ []) (sym e)
    (subst (λ (others : List Sent). [] ++ traced trace (message_texts nobody k others) ≡ []) (sym f) (by trace))
  where
    by : (b : Bool) → [] ++ traced b [] ≡ []
    by true = refl
    by false = refl

module _ (x : Setup) (h : Chance) (s : State) where
  told-nothing : texts_of x h nothing s.course.world s.course.world ≡ []
  told-nothing = none-told (length s.course.world.sent) x.trace (own_texts s.course.world s.course.world) (newly_sent s.course.world s.course.world) (drop-all s.course.world.lines) (drop-all s.course.world.sent)

  stays : come_to x h nothing s.course s ≡ s
  stays = ap (λ (lines : List Line). record s { lines = lines }) (ap (λ (texts : List Text). s.lines ++ lines_at (when_of s) texts) told-nothing ∙ append-nil s.lines)

  pub made-nothing : nat_lt most_messages (length s.course.world.sent) ≡ false → made x h nothing s ≡ s
  made-nothing few = ap (λ (b : Bool). if b then cut_short s else come_to x h nothing s.course s) few ∙ stays

module _ (x : Setup) (h : Chance) (s : State) where
  pub rest-over : nat_lt most_messages (length s.course.world.sent) ≡ false → next_in x h.rubbish s.course ≡ None → done x h Rests s ≡ begun Rests s
  rest-over few e = ap (λ o. made x h (resting x h s.callers s.course.world o) (begun Rests s)) e ∙ made-nothing x h (begun Rests s) few

  pub rest-goes-on : (event : Event) → next_in x h.rubbish s.course ≡ Some event → done x h Rests s ≡ made x h (record (acted x h event s.callers s.course.world) { tasks = Rests ∷ [] }) (begun Rests s)
  rest-goes-on event e = ap (λ o. made x h (resting x h s.callers s.course.world o) (begun Rests s)) e
