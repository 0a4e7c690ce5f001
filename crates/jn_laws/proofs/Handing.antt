-- What a step that hands over a message does: one step of the system, and what it reports and sends.
use Rattle.jn_laws.proofs.Common.{◌≡◌, ◌≢◌, ◌⊎◌, inl, inr, ℕ, Bool, true, false, List, [], ◌∷◌, ◌++◌, append-nil, length, drop, Option, Some, None, refl, sym, ◌∙◌, ap, subst, arith, drop-append_seam, if◌then◌else◌, nat_lt, slice_get, Party, Message, Event, Text, Sent, World, Step, after, Setup, Chance, Use, Deed, delivered, acted, met, resting, next_in, deed_of, Moment, DoesStep, Task, Meets, Acts, Rests, Stage, CutShort, State, next_at, when_of, begun, number_in, number_by, Answer, faults_in, IsGiven, IsTooLong, nat_tests, outside_texts, own_texts, message_texts, traced, texts_of, most_messages, come_to, cut_short, made, NoSuchMessage, Course, go, newly_sent, unless, slice_get_within, ClientNo, ClientTable, go_on, reported, HasTables, own-said}
use Rattle.jn_report.specs.Lines.{lines_at}
use Rattle.jn_schedule.specs.declared.Event.TheVariants as events

-- a deed of one step of the system
abbrev pub one_step : Party → Use → Step → ((ClientNo → ClientTable) → ClientNo → ClientTable) → Option (List Text) → List Task → Deed
one_step actor device step becomes said tasks = record { actor = actor; device = device; steps = step ∷ []; clients = becomes; said = said; texts = []; tasks = tasks; cuts = false }

pub itself : {A : Type 0} (eq : A → A → Bool) (a : A) → ((eq a a ≡ true) × (a ≡ a)) ⊎ ((eq a a ≡ false) × (a ≢ a)) → eq a a ≡ true
itself eq a (inl t) = t.0
itself eq a (inr t) = absurd (t.1 refl)

some-number : (j k : ℕ) → Some j ≡ Some k → j ≡ k
some-number j k e = cc

no-number : (k : ℕ) → None ≡ Some k → ⊥
no-number k e = cc

-- a task does one step of the system, and nothing else
pub record DoesOne (x : Setup) (h : Chance) (task : Task) (s : State) (actor : Party) (device : Use) (step : Step) : Type 0 where
  pub becomes : (ClientNo → ClientTable) → ClientNo → ClientTable
  pub said : Option (List Text)
  pub tasks : List Task
  pub deed : deed_of x h task s ≡ one_step actor device step becomes said tasks
  pub begun_is : begun task s ≡ record s { tasks = drop 1 s.tasks }

module _ (x : Setup) (h : Chance) (s : State) (k : ℕ) (to : Party) (message : Message) (is : slice_get s.course.world.sent k ≡ Some (to, message)) (device : Use) (step : Step) (becomes : (ClientNo → ClientTable) → ClientNo → ClientTable)
    (said : Option (List Text)) (deed-is : delivered h k s.clients s.course.world (Some (to, message)) ≡ one_step to device step becomes said []) where
  abbrev w : World
  w = s.course.world

  acts-so : (j : ℕ) → j ≡ k → acted x h (events.Deliver j) s.clients w ≡ one_step to device step becomes said []
  acts-so j e = subst (λ (i : ℕ). delivered h i s.clients w (slice_get w.sent i) ≡ one_step to device step becomes said []) (sym e) (ap (λ (o : Option Sent). delivered h k s.clients w o) is ∙ deed-is)

  is-there : (j : ℕ) → j ≡ k → nat_lt j (length w.sent) ≡ true
  is-there j e = let below = slice_get_within w.sent k (to, message) is in grind (arith, nat_tests, e, below)

  meets-so : (j : ℕ) → j ≡ k → met x h (events.Deliver j) s.clients w (unless (nat_lt j (length w.sent)) NoSuchMessage None) ≡ one_step to device step becomes said []
  meets-so j e = ap (λ (b : Bool). met x h (events.Deliver j) s.clients w (unless b NoSuchMessage None)) (is-there j e) ∙ acts-so j e

  rests-so : (o : Option Event) → number_in o ≡ Some k → resting x h s.clients w o ≡ one_step to device step becomes said (Rests ∷ [])
  rests-so None e = absurd (no-number k e)
  rests-so (Some (events.Deliver j)) e = ap (λ (d : Deed). record d { tasks = Rests ∷ [] }) (acts-so j (some-number j k e))
  rests-so (Some event) e = absurd (no-number k e)

  pub does-one : (task : Task) → number_by x h task s ≡ Some k → DoesOne x h task s to device step
  does-one (Meets (events.Deliver j)) e = record { becomes = becomes; said = said; tasks = []; deed = meets-so j (some-number j k e); begun_is = refl }
  does-one (Acts (events.Deliver j)) e = record { becomes = becomes; said = said; tasks = []; deed = acts-so j (some-number j k e); begun_is = refl }
  does-one Rests e = record { becomes = becomes; said = said; tasks = Rests ∷ []; deed = rests-so (next_in x h.rubbish s.course) e; begun_is = refl }
  does-one task e = absurd (no-number k e)

-- ---- what it reports and sends

module _ (x : Setup) (a b : Moment) (d : DoesStep x a b) (to : Party) (device : Use) (step : Step) (one : DoesOne x d.chance d.task a.state to device step) where
  abbrev world : World
  world = a.state.course.world

  abbrev left : State
  left = record a.state { tasks = drop 1 a.state.tasks }

  abbrev deed : Deed
  deed = one_step to device step one.becomes one.said one.tasks

  abbrev now : Course
  now = go step a.state.course

  made-so : b.state ≡ made x d.chance deed left
  made-so = d.state_is ∙ ap (λ (y : Deed). made x d.chance y (begun d.task a.state)) one.deed ∙ ap (λ (s : State). made x d.chance deed s) one.begun_is

  -- it isn't the last step of the run
  going : a.state.stage ≡ CutShort → ⊥
  going e = none (sym (ap (λ (stage : Stage). next_at stage a.state.tasks) e) ∙ d.task_is)
    where
      none : None ≡ Some d.task → ⊥
      none z = cc

  pub data Went : Type 0 where
    came : b.state ≡ come_to x d.chance deed now left → Went
    cut : b.state ≡ cut_short left → nat_lt most_messages (length (after step world).sent) ≡ true → Went

  pub went : Went
  went = by (nat_lt most_messages (length (after step world).sent)) refl
    where
      by : (long : Bool) → nat_lt most_messages (length (after step world).sent) ≡ long → Went
      by true e = cut (made-so ∙ ap (λ (long : Bool). if long then cut_short left else come_to x d.chance deed now left) e) e
      by false e = came (made-so ∙ ap (λ (long : Bool). if long then cut_short left else come_to x d.chance deed now left) e)

  came-only : b.state.stage ≢ CutShort → b.state ≡ come_to x d.chance deed now left
  came-only not-cut = by went
    where
      by : Went → b.state ≡ come_to x d.chance deed now left
      by (came e) = e
      by (cut e long) = absurd (not-cut (ap (λ (s : State). s.stage) e))

  pub world-after : b.state.stage ≢ CutShort → b.state.course.world ≡ after step world
  world-after not-cut = ap (λ (s : State). s.course.world) (came-only not-cut)

  module _ (has : HasTables a.state) (answer : Answer) (lines-are : (after step world).lines ≡ world.lines ++ answer.texts) (sent-are : (after step world).sent ≡ world.sent ++ answer.messages) where
    says : reported one.said (own_texts world (after step world)) ≡ own_texts world (after step world)
    says = subst (λ (y : Deed). reported y.said (own_texts world (go_on y.steps a.state.course).world) ≡ own_texts world (go_on y.steps a.state.course).world) one.deed (own-said x d.chance d.task a.state has a.state.course refl)

    own : reported one.said (own_texts world (after step world)) ≡ answer.texts
    own = says ∙ ap (λ (texts : List Text). drop (length world.lines) texts) lines-are ∙ drop-append_seam world.lines answer.texts

    new : newly_sent world (after step world) ≡ answer.messages
    new = ap (λ (sent : List Sent). drop (length world.sent) sent) sent-are ∙ drop-append_seam world.sent answer.messages

    abbrev told : List Text
    told = outside_texts device d.chance.told

    abbrev traces : List Sent → List Text
    traces sent = traced x.trace (message_texts to (length world.sent) sent)

    texts-are : texts_of x d.chance deed world (after step world) ≡ faults_in x a b d ++ answer.texts ++ traces answer.messages
    texts-are = ap (λ (texts : List Text). told ++ texts ++ [] ++ traces (newly_sent world (after step world))) own
        ∙ ap (λ (texts : List Text). texts ++ traces (newly_sent world (after step world))) (append-nil (told ++ answer.texts))
        ∙ ap (λ (sent : List Sent). told ++ answer.texts ++ traces sent) new
        ∙ ap (λ (y : Deed). outside_texts y.device d.chance.told ++ answer.texts ++ traces answer.messages) (sym one.deed)

    pub gives : b.state.stage ≢ CutShort → IsGiven x a b d to answer
    gives not-cut = record {
      lines = ap (λ (s : State). s.lines) (came-only not-cut) ∙ ap (λ (texts : List Text). a.state.lines ++ lines_at (when_of a.state) texts) texts-are;
      sent = ap (λ (w : World). w.sent) (world-after not-cut) ∙ sent-are;
    }

    pub is-long : b.state.stage ≡ CutShort → IsTooLong a b answer
    is-long e = by went
      where
        by : Went → IsTooLong a b answer
        by (came f) = absurd (going (sym (ap (λ (s : State). s.stage) f) ∙ e))
        by (cut f long) = record {
          lines = ap (λ (s : State). s.lines) f;
          sent = ap (λ (s : State). s.course.world.sent) f;
          many = let same = ap (λ (sent : List Sent). length sent) sent-are in grind (arith, nat_tests, long, same);
        }
