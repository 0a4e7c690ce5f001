-- Messages have lines only where they are asked for, and each line that counts commits counts those before it.
use Rattle.jn_machine.proofs.Common.{◌≡◌, ℕ, Bool, true, false, List, [], ◌∷◌, ◌++◌, append-nil, append_assoc, length, drop, refl, sym, ◌∙◌, subst, arith, if◌then◌else◌, list_all, drop-append_seam, list_all-append, When, Text, Line, history_of, Sent, Step, go_on, newly_sent, Setup, Chance, Task, Dismisses, CountsCommits, State, when_of, begun, Deed, nobody, deed_of, own_texts, texts_of, lines_at, is_too_much, come_to, cut_short, made_to, traced, message_texts, none, more, MayStep, MayLead, no_message, are_quiet, counts_right, count_right, NextEvent, reported}
use Rattle.jn_machine.proofs.Telling.{may_tell, both, first, second}
use Rattle.jn_report.specs.declared.line.Text.TheVariants as says
use Rattle.jn_machine.proofs.Ordered.{begun-lines}
use Rattle.jn_machine.proofs.Clients.{task-says}
use Rattle.jn_machine.proofs.Texts.{deed-texts, task-texts, Besides}

-- ---- what no step of the system reports

-- neither a message nor a count of commits nor a refusal
abbrev pub is_of_system : Text → Bool
is_of_system (says.Message k a b kind) = false
is_of_system (says.Commits n) = false
is_of_system (says.RefusedEvent refusal) = false
is_of_system text = true

pub of-step : (step : Step) (text : Text) → may_tell step text ≡ true → is_of_system text ≡ true
of-step NextEvent text h = grind arith
of-step _ text h = grind arith

-- ---- messages

of-system : (text : Text) → is_of_system text ≡ true → no_message text ≡ true
of-system text h = grind arith

besides : Besides no_message
besides = record { file = λ q f. refl; page = λ q f p bytes. refl; locked = λ q u T. refl; refused = λ refusal. refl; outside = λ q fault. refl }

task-quiet : (x : Setup) (h : Chance) (task : Task) (s : State) → list_all no_message (deed_of x h task s).texts ≡ true
task-quiet x h CountsCommits s = refl
task-quiet x h task s = task-texts no_message besides x h task s (λ e. cc)

at-lines : (test : Text → Bool) (w : When) (texts : List Text) → list_all test texts ≡ true → list_all (λ (l : Line). test l.text) (lines_at w texts) ≡ true
at-lines test w [] h = refl
at-lines test w (text ∷ texts) h = both _ _ (first _ _ h) (at-lines test w texts (second _ _ h))

module _ (x : Setup) (quiet : x.trace ≡ false) where
  silent : (b : Bool) → x.trace ≡ b → b ≡ true → ⊥
  silent b e k = absurd (clash (sym quiet ∙ e ∙ k))
    where
      clash : false ≡ true → ⊥
      clash z = cc

  made-quiet : (h : Chance) (deed : Deed) (s : State) → list_all no_message (reported deed.said []) ≡ true → list_all no_message deed.texts ≡ true → are_quiet s.lines ≡ true → are_quiet (made_to x h deed (go_on deed.steps s.course) s).lines ≡ true
  made-quiet h deed s r t old = by (is_too_much deed (go_on deed.steps s.course))
    where
      texts : List Text
      texts = texts_of x h deed s.course.world (go_on deed.steps s.course).world

      by : (b : Bool) → are_quiet (if b then cut_short s else come_to x h deed (go_on deed.steps s.course) s).lines ≡ true
      by true = old
      by false = list_all-append (λ (l : Line). no_message l.text) s.lines (lines_at (when_of s) texts) ∙ both (are_quiet s.lines) (are_quiet (lines_at (when_of s) texts)) old (at-lines no_message (when_of s) texts
          (deed-texts no_message (λ step text k. of-system text (of-step step text k)) (λ q fault. refl) x (λ k a b kind e. absurd (silent x.trace refl e)) h deed s.course r t))

  step-quiet : (s t : State) → MayStep x s t → are_quiet s.lines ≡ true → are_quiet t.lines ≡ true
  step-quiet s t m old = subst (λ (u : State). are_quiet u.lines ≡ true) (sym m.state_is)
      (made-quiet m.chance (deed_of x m.chance m.task s) (begun m.task s) (task-says no_message (λ step text k. of-system text (of-step step text k)) x m.chance m.task s) (task-quiet x m.chance m.task s) (subst (λ (ls : List Line). are_quiet ls ≡ true) (sym (begun-lines m.task s)) old))

  pub quiet-run : (s t : State) → MayLead x s t → are_quiet s.lines ≡ true → are_quiet t.lines ≡ true
  quiet-run s t (none u) old = old
  quiet-run s t (more a b c m rest) old = quiet-run b t rest (step-quiet s b m old)

-- ---- counts of commits

abbrev no_count : Text → Bool
no_count (says.Commits n) = false
no_count text = true

system-counts : (text : Text) → is_of_system text ≡ true → no_count text ≡ true
system-counts text h = grind arith

none-besides : Besides no_count
none-besides = record { file = λ q f. refl; page = λ q f p bytes. refl; locked = λ q u T. refl; refused = λ refusal. refl; outside = λ q fault. refl }

counts-join : (old new rest : List Line) → count_right old new ≡ true → count_right (old ++ new) rest ≡ true → count_right old (new ++ rest) ≡ true
counts-join old [] rest h k = subst (λ (ls : List Line). count_right ls rest ≡ true) (append-nil old) k
counts-join old (l ∷ new) rest h k = both _ _ (first _ _ h) (counts-join (old ++ l ∷ []) new rest (second _ _ h) (subst (λ (ls : List Line). count_right ls rest ≡ true) (sym (append_assoc old (l ∷ []) new)) k))

-- lines that count nothing
counts-none : (w : When) (old : List Line) (texts : List Text) → list_all no_count texts ≡ true → count_right old (lines_at w texts) ≡ true
counts-none w old [] h = refl
counts-none w old (text ∷ texts) h = both _ _ (right text (first _ _ h)) (counts-none w (old ++ (record { when = w; text = text }) ∷ []) texts (second _ _ h))
  where
    right : (text : Text) → no_count text ≡ true → counts_right old text ≡ true
    right text k = grind arith

module _ (x : Setup) where
  quiet-made : (h : Chance) (deed : Deed) (s : State) → list_all no_count (reported deed.said []) ≡ true → list_all no_count deed.texts ≡ true → count_right [] s.lines ≡ true → count_right [] (made_to x h deed (go_on deed.steps s.course) s).lines ≡ true
  quiet-made h deed s r t old = by (is_too_much deed (go_on deed.steps s.course))
    where
      texts : List Text
      texts = texts_of x h deed s.course.world (go_on deed.steps s.course).world

      by : (b : Bool) → count_right [] (if b then cut_short s else come_to x h deed (go_on deed.steps s.course) s).lines ≡ true
      by true = old
      by false = counts-join [] s.lines (lines_at (when_of s) texts) old (counts-none (when_of s) s.lines texts
          (deed-texts no_count (λ step text k. system-counts text (of-step step text k)) (λ q fault. refl) x (λ k a b kind e. refl) h deed s.course r t))

  first-count : (n : ℕ) (w : When) (old : List Line) → n ≡ length (history_of old) → count_right old ((record { when = w; text = says.Commits n }) ∷ []) ≡ true
  first-count n w old e = grind arith

  drop-all : {A : Type 0} (xs : List A) → drop (length xs) xs ≡ []
  drop-all xs = subst (λ ys. drop (length xs) ys ≡ []) (append-nil xs) (drop-append_seam xs [])

  alone : (k : ℕ) (count : Text) (trace : Bool) (own : List Text) (sent : List Sent) → own ≡ [] → sent ≡ [] → own ++ count ∷ [] ++ traced trace (message_texts nobody k sent) ≡ count ∷ []
  alone k count trace own sent e f = subst (λ (texts : List Text). texts ++ count ∷ [] ++ traced trace (message_texts nobody k sent) ≡ count ∷ []) (sym e)
      (subst (λ (more' : List Sent). count ∷ [] ++ traced trace (message_texts nobody k more') ≡ count ∷ []) (sym f) (by trace))
    where
      by : (b : Bool) → count ∷ [] ++ traced b [] ≡ count ∷ []
      by true = refl
      by false = refl

  counting-made : (h : Chance) (s : State) → count_right [] s.lines ≡ true → count_right [] (made_to x h (deed_of x h CountsCommits s) s.course (begun CountsCommits s)).lines ≡ true
  counting-made h s old = by (is_too_much (deed_of x h CountsCommits s) s.course)
    where
      count : Text
      count = says.Commits (length (history_of s.lines))

      texts : List Text
      texts = texts_of x h (deed_of x h CountsCommits s) s.course.world s.course.world

      one : texts ≡ count ∷ []
      one = alone (length s.course.world.sent) count x.trace (own_texts s.course.world s.course.world) (newly_sent s.course.world s.course.world) (drop-all s.course.world.lines) (drop-all s.course.world.sent)

      by : (b : Bool) → count_right [] (if b then cut_short (begun CountsCommits s) else come_to x h (deed_of x h CountsCommits s) s.course (begun CountsCommits s)).lines ≡ true
      by true = old
      by false = subst (λ (new : List Text). count_right [] (s.lines ++ lines_at (when_of s) new) ≡ true) (sym one)
          (counts-join [] s.lines ((record { when = when_of s; text = count }) ∷ []) old (first-count (length (history_of s.lines)) (when_of s) s.lines refl))

  step-counts : (s t : State) → MayStep x s t → count_right [] s.lines ≡ true → count_right [] t.lines ≡ true
  step-counts s t m old = subst (λ (u : State). count_right [] u.lines ≡ true) (sym m.state_is) (by m.task)
    where
      by : (task : Task) → count_right [] (made_to x m.chance (deed_of x m.chance task s) (go_on (deed_of x m.chance task s).steps (begun task s).course) (begun task s)).lines ≡ true
      by CountsCommits = counting-made m.chance s old
      by Dismisses = quiet-made m.chance (deed_of x m.chance Dismisses s) (begun Dismisses s) refl refl old
      by task = quiet-made m.chance (deed_of x m.chance task s) (begun task s) (task-says no_count (λ step text k. system-counts text (of-step step text k)) x m.chance task s) (task-texts no_count none-besides x m.chance task s (λ e. cc)) old

  pub count-run : (s t : State) → MayLead x s t → count_right [] s.lines ≡ true → count_right [] t.lines ≡ true
  count-run s t (none u) old = old
  count-run s t (more a b c m rest) old = count-run b t rest (step-counts s b m old)
