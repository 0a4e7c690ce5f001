-- States but for the steps so far, which nothing looks at.
use Rattle.jn_wrong.proofs.Common.{◌≡◌, ℕ, Bool, true, false, List, [], ◌∷◌, ◌++◌, append-nil, length, drop, refl, sym, ◌∙◌, ap, subst, drop-append_seam, Line, Sent, World, ◌||◌, if◌then◌else◌, nat_lt, Party, Text, Step, Course, go, go_on, newly_sent, Setup, Chance, Task, Begins, Meets, Acts, Rests, ComesUp, Dismisses, GoesDown, ClosesClients, CountsCommits, State, when_of, begun, Deed, deed_of, outside_texts, own_texts, message_texts, traced, lines_at, most_messages, is_too_much, come_to, cut_short, made, done, ClientNo, ClientTable, reported}
use Rattle.std.specs.Prelude.{Option, None}
use Rattle.jn_wrong.proofs.StillRuns.{still}

abbrev pub bare_course : Course → Course
bare_course c = record c { steps = [] }

abbrev pub bare : State → State
bare s = record s { course = bare_course s.course }

abbrev pub came_of : ((ClientNo → ClientTable) → ClientNo → ClientTable) → Option (List Text) → List Text → List Text → Party → List Task → Bool → Course → State → State
came_of becomes said out texts actor tasks trace c s = record {
  course = c;
  clients = becomes s.clients;
  tasks = tasks ++ s.tasks;
  lines = s.lines ++ lines_at (when_of s) (out ++ reported said (own_texts s.course.world c.world) ++ texts ++ traced trace (message_texts actor (length s.course.world.sent) (newly_sent s.course.world c.world)));
  stage = s.stage;
}

abbrev pub made_of : ((ClientNo → ClientTable) → ClientNo → ClientTable) → Option (List Text) → List Text → List Text → Party → List Task → Bool → Bool → Course → State → State
made_of becomes said out texts actor tasks cuts trace c s = if cuts || nat_lt most_messages (length c.world.sent) then bare (cut_short s) else came_of becomes said out texts actor tasks trace c s

pub bare-made : (x : Setup) (h : Chance) (deed : Deed) (s : State) → bare (made x h deed s) ≡ made_of deed.clients deed.said (outside_texts deed.device h.told) deed.texts deed.actor deed.tasks deed.cuts x.trace (bare_course (go_on deed.steps s.course)) (bare s)
bare-made x h deed s = by (is_too_much deed (go_on deed.steps s.course))
  where
    by : (b : Bool) → bare (if b then cut_short s else come_to x h deed (go_on deed.steps s.course) s)
        ≡ (if b then bare (cut_short (bare s)) else came_of deed.clients deed.said (outside_texts deed.device h.told) deed.texts deed.actor deed.tasks x.trace (bare_course (go_on deed.steps s.course)) (bare s))
    by true = refl
    by false = refl

go-bare : (steps : List Step) (c : Course) → bare_course (go_on steps c) ≡ bare_course (go_on steps (bare_course c))
go-bare [] c = refl
go-bare (step ∷ steps) c = go-bare steps (go step c) ∙ sym (go-bare steps (go step (bare_course c)))

made-bare : (x : Setup) (h : Chance) (deed : Deed) (s : State) → bare (made x h deed s) ≡ bare (made x h deed (bare s))
made-bare x h deed s = bare-made x h deed s
    ∙ ap (λ (c : Course). made_of deed.clients deed.said (outside_texts deed.device h.told) deed.texts deed.actor deed.tasks deed.cuts x.trace c (bare s)) (go-bare deed.steps s.course)
    ∙ sym (bare-made x h deed (bare s))

pub done-bare : (x : Setup) (h : Chance) (task : Task) (s : State) → bare (done x h task s) ≡ bare (done x h task (bare s))
done-bare x h (Begins e) s = made-bare x h (deed_of x h (Begins e) s) (begun (Begins e) s)
done-bare x h (Meets e) s = made-bare x h (deed_of x h (Meets e) s) (begun (Meets e) s)
done-bare x h (Acts e) s = made-bare x h (deed_of x h (Acts e) s) (begun (Acts e) s)
done-bare x h Rests s = made-bare x h (deed_of x h Rests s) (begun Rests s)
done-bare x h (ComesUp q) s = made-bare x h (deed_of x h (ComesUp q) s) (begun (ComesUp q) s)
done-bare x h Dismisses s = made-bare x h (deed_of x h Dismisses s) (begun Dismisses s)
done-bare x h (GoesDown q) s = made-bare x h (deed_of x h (GoesDown q) s) (begun (GoesDown q) s)
done-bare x h (ClosesClients q) s = made-bare x h (deed_of x h (ClosesClients q) s) (begun (ClosesClients q) s)
done-bare x h CountsCommits s = made-bare x h (deed_of x h CountsCommits s) (begun CountsCommits s)

-- other steps, which lead to the same world, with no fault reported
pub made-same : (x : Setup) (h : Chance) (deed : Deed) (steps : List Step) (s : State) → outside_texts deed.device h.told ≡ [] → outside_texts deed.device [] ≡ []
    → bare_course (go_on deed.steps s.course) ≡ bare_course (go_on steps s.course) → bare (made x h deed s) ≡ bare (made x still (record deed { steps = steps }) s)
made-same x h deed steps s silent quiet same = bare-made x h deed s
    ∙ ap (λ (out : List Text). made_of deed.clients deed.said out deed.texts deed.actor deed.tasks deed.cuts x.trace (bare_course (go_on deed.steps s.course)) (bare s)) (silent ∙ sym quiet)
    ∙ ap (λ (c : Course). made_of deed.clients deed.said (outside_texts deed.device []) deed.texts deed.actor deed.tasks deed.cuts x.trace c (bare s)) same
    ∙ sym (bare-made x still (record deed { steps = steps }) s)

-- a deed that does nothing but leave its task
pub idles : (x : Setup) (deed : Deed) (s s' : State) → nat_lt most_messages (length s.course.world.sent) ≡ false → deed.steps ≡ [] → outside_texts deed.device [] ≡ [] → deed.texts ≡ [] → deed.cuts ≡ false → deed.clients ≡ (λ f. f) → deed.said ≡ None
    → s' ≡ record s { tasks = s'.tasks } → deed.tasks ++ s'.tasks ≡ s.tasks → bare (made x still deed s') ≡ bare s
idles x deed s s' few none silent untold goes_on same unsaid is tasks = bare-made x still deed s'
    ∙ ap (λ (steps : List Step). made_of deed.clients deed.said (outside_texts deed.device []) deed.texts deed.actor deed.tasks deed.cuts x.trace (bare_course (go_on steps s'.course)) (bare s')) none
    ∙ ap (λ (out : List Text). made_of deed.clients deed.said out deed.texts deed.actor deed.tasks deed.cuts x.trace (bare_course s'.course) (bare s')) silent
    ∙ ap (λ (becomes : (ClientNo → ClientTable) → ClientNo → ClientTable). made_of becomes deed.said [] deed.texts deed.actor deed.tasks deed.cuts x.trace (bare_course s'.course) (bare s')) same
    ∙ ap (λ (said : Option (List Text)). made_of (λ f. f) said [] deed.texts deed.actor deed.tasks deed.cuts x.trace (bare_course s'.course) (bare s')) unsaid
    ∙ ap (λ (texts : List Text). made_of (λ f. f) None [] texts deed.actor deed.tasks deed.cuts x.trace (bare_course s'.course) (bare s')) untold
    ∙ ap (λ (cuts : Bool). made_of (λ f. f) None [] [] deed.actor deed.tasks cuts x.trace (bare_course s'.course) (bare s')) goes_on
    ∙ ap (λ (z : State). made_of (λ f. f) None [] [] deed.actor deed.tasks false x.trace (bare_course z.course) (bare z)) is
    ∙ ap (λ (b : Bool). if b then bare (cut_short u) else came_of (λ f. f) None [] [] deed.actor deed.tasks x.trace (bare_course u.course) (bare u)) few
    ∙ ap (λ (ts : List Task). record (bare s) { tasks = ts; lines = s.lines ++ lines_at (when_of s) ([] ++ own_texts w w ++ [] ++ traced x.trace (message_texts deed.actor (length w.sent) (newly_sent w w))) }) tasks
    ∙ ap (λ (texts : List Text). record (bare s) { lines = s.lines ++ lines_at (when_of s) texts }) (none-told x.trace deed.actor (length w.sent) (own_texts w w) (newly_sent w w) (drop-all w.lines) (drop-all w.sent))
    ∙ ap (λ (lines : List Line). record (bare s) { lines = lines }) (append-nil s.lines)
  where
    w : World
    w = s.course.world

    u : State
    u = record s { tasks = s'.tasks }

    drop-all : {A : Type 0} (xs : List A) → drop (length xs) xs ≡ []
    drop-all xs = subst (λ ys. drop (length xs) ys ≡ []) (append-nil xs) (drop-append_seam xs [])

    none-told : (trace : Bool) (actor : Party) (k : ℕ) (own : List Text) (sent : List Sent) → own ≡ [] → sent ≡ [] → [] ++ own ++ [] ++ traced trace (message_texts actor k sent) ≡ []
    none-told trace actor k own sent e f = ap (λ (texts : List Text). [] ++ texts ++ [] ++ traced trace (message_texts actor k sent)) e ∙ ap (λ (more : List Sent). traced trace (message_texts actor k more)) f ∙ by trace
      where
        by : (b : Bool) → traced b [] ≡ []
        by true = refl
        by false = refl
