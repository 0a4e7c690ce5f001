-- What the lines of a run report, read one after another: what holds of it at each step of the system holds of the run.
use Rattle.jn_wrong.proofs.Common.{◌≡◌, ℕ, ◌+◌, Bool, true, false, List, [], ◌∷◌, ◌++◌, append-nil, append_assoc, map, length, drop, refl, sym, ◌∙◌, ap, subst, arith, ◌&&◌, if◌then◌else◌, list_all, drop-append_seam, ServerNo, Tid, Party, Outside, When, Text, Line, Sent, World, has_line, named_now, Step, after, Course, go, go_on, newly_sent, Setup, Chance, Task, Begins, Meets, Acts, Rests, ComesUp, Dismisses, GoesDown, ClosesClients, CountsCommits, State, when_of, begun, Use, Nothing, Calls, Reads, Recovers, PowersOff, Decays, Revives, Arms, Disarms, Deed, deed_of, outside_texts, own_texts, message_texts, traced, texts_of, lines_at, is_too_much, come_to, cut_short, done, none, more, MayLead, is_note, is_of_delivery, is_answer, begun-lines, task-texts, Besides, are_read, Cleans, reported, HasTables, begun-said, begun-tables, become}
use Rattle.jn_report.specs.declared.line.Text.TheVariants as says

both : (a b : Bool) → a ≡ true → b ≡ true → (a && b) ≡ true
both a b h k = grind arith

first : (a b : Bool) → (a && b) ≡ true → a ≡ true
first a b h = grind arith

second : (a b : Bool) → (a && b) ≡ true → b ≡ true
second a b h = grind arith

-- what servers report of power: that one comes up, or goes down
abbrev pub no_turn : Text → Bool
no_turn (says.Up s epoch) = false
no_turn (says.Down s) = false
no_turn (says.Stopped s) = false
no_turn text = true

pub of-answer : (text : Text) → is_answer text ≡ true → no_turn text ≡ true
of-answer text h = grind arith

pub of-note : (text : Text) → is_note text ≡ true → no_turn text ≡ true
of-note text h = grind arith

pub of-delivery : (text : Text) → is_of_delivery text ≡ true → no_turn text ≡ true
of-delivery text h = grind arith

pub named-quiet : (Ts : List Tid) (lines : List Text) → list_all no_turn (named_now Ts lines) ≡ true
named-quiet [] lines = refl
named-quiet (T ∷ Ts) lines = by (has_line T lines) (named-quiet Ts lines)
  where
    by : (b : Bool) → list_all no_turn (named_now Ts lines) ≡ true → list_all no_turn (if b then named_now Ts lines else says.Commit T ∷ named_now Ts lines) ≡ true
    by true h = h
    by false h = h

module _ (A : Type 0) (next : A → Text → A) (may : A → Text → Bool) (aside : (was : A) (text : Text) → no_turn text ≡ true → (may was text ≡ true) × (next was text ≡ was)) where
  abbrev pub reads : A → List Text → Bool
  reads was [] = true
  reads was (text ∷ texts) = may was text && reads (next was text) texts

  abbrev pub behind : A → List Text → A
  behind was [] = was
  behind was (text ∷ texts) = behind (next was text) texts

  abbrev line_behind : A → List Line → A
  line_behind was [] = was
  line_behind was (l ∷ lines) = line_behind (next was l.text) lines

  reads-both : (was : A) (xs ys : List Text) → reads was xs ≡ true → reads (behind was xs) ys ≡ true → reads was (xs ++ ys) ≡ true
  reads-both was [] ys h k = k
  reads-both was (x ∷ xs) ys h k = both (may was x) (reads (next was x) (xs ++ ys)) (first (may was x) (reads (next was x) xs) h) (reads-both (next was x) xs ys (second (may was x) (reads (next was x) xs) h) k)

  behind-both : (was : A) (xs ys : List Text) → behind was (xs ++ ys) ≡ behind (behind was xs) ys
  behind-both was [] ys = refl
  behind-both was (x ∷ xs) ys = behind-both (next was x) xs ys

  lines-both : (was : A) (w : When) (lines : List Line) (texts : List Text) → are_read next may was lines ≡ true → reads (line_behind was lines) texts ≡ true → are_read next may was (lines ++ lines_at w texts) ≡ true
  lines-both was w [] [] h k = refl
  lines-both was w [] (text ∷ texts) h k = both (may was text) (are_read next may (next was text) (lines_at w texts)) (first (may was text) (reads (next was text) texts) k)
      (lines-both (next was text) w [] texts refl (second (may was text) (reads (next was text) texts) k))
  lines-both was w (l ∷ lines) texts h k = both (may was l.text) (are_read next may (next was l.text) (lines ++ lines_at w texts)) (first (may was l.text) (are_read next may (next was l.text) lines) h)
      (lines-both (next was l.text) w lines texts (second (may was l.text) (are_read next may (next was l.text) lines) h) k)

  lines-behind : (was : A) (w : When) (lines : List Line) (texts : List Text) → line_behind was (lines ++ lines_at w texts) ≡ behind (line_behind was lines) texts
  lines-behind was w [] [] = refl
  lines-behind was w [] (text ∷ texts) = lines-behind (next was text) w [] texts
  lines-behind was w (l ∷ lines) texts = lines-behind (next was l.text) w lines texts

  pub quiet-behind : (was : A) (texts : List Text) → list_all no_turn texts ≡ true → behind was texts ≡ was
  quiet-behind was [] h = refl
  quiet-behind was (text ∷ texts) h = ap (λ (b : A). behind b texts) (aside was text (first (no_turn text) (list_all no_turn texts) h)).1 ∙ quiet-behind was texts (second (no_turn text) (list_all no_turn texts) h)

  pub quiet-reads : (was : A) (texts : List Text) → list_all no_turn texts ≡ true → reads was texts ≡ true
  quiet-reads was [] h = refl
  quiet-reads was (text ∷ texts) h = both (may was text) (reads (next was text) texts) (aside was text (first (no_turn text) (list_all no_turn texts) h)).0
      (quiet-reads (next was text) texts (second (no_turn text) (list_all no_turn texts) h))

  -- ---- one step, where what was read stands so in the system

  module _ (Stands : A → World → Type 0) where
    pub record Reading (was : A) (w now : World) : Type 0 where
      pub texts : List Text
      pub lines : now.lines ≡ w.lines ++ texts
      pub read : reads was texts ≡ true
      pub stands : Stands (behind was texts) now

    record Tells (was : A) (now : World) (texts : List Text) : Type 0 where
      read : reads was texts ≡ true
      stands : Stands (behind was texts) now

    module _ (each : (w : World) (step : Step) (was : A) → Stands was w → Reading was w (after step w)) where
      gone-on : (steps : List Step) (c : Course) (was : A) → Stands was c.world → Reading was c.world (go_on steps c).world
      gone-on [] c was h = record { texts = []; lines = sym (append-nil c.world.lines); read = refl; stands = h }
      gone-on (step ∷ steps) c was h = joined (each c.world step was h) (λ now k. gone-on steps (go step c) now k)
        where
          joined : Reading was c.world (after step c.world) → ((now : A) → Stands now (after step c.world) → Reading now (after step c.world) (go_on steps (go step c)).world) → Reading was c.world (go_on steps (go step c)).world
          joined a on = let b = on (behind was a.texts) a.stands in record {
            texts = a.texts ++ b.texts;
            lines = b.lines ∙ ap (λ (ls : List Text). ls ++ b.texts) a.lines ∙ append_assoc c.world.lines a.texts b.texts;
            read = reads-both was a.texts b.texts a.read b.read;
            stands = subst (λ (z : A). Stands z (go_on steps (go step c)).world) (sym (behind-both was a.texts b.texts)) b.stands;
          }

      of-faults : (s : ServerNo) (told : List Outside) → list_all no_turn (map (λ (fault : Outside). says.Outside s fault) told) ≡ true
      of-faults s [] = refl
      of-faults s (fault ∷ told) = of-faults s told

      of-outside : (device : Use) (told : List Outside) → list_all no_turn (outside_texts device told) ≡ true
      of-outside (Calls s most) told = of-faults s told
      of-outside (Cleans s) told = of-faults s told
      of-outside (Reads s) told = of-faults s told
      of-outside (Recovers s) told = of-faults s told
      of-outside Nothing told = refl
      of-outside (PowersOff s) told = refl
      of-outside (Decays s p) told = refl
      of-outside (Revives s p) told = refl
      of-outside (Arms s n kind) told = refl
      of-outside Disarms told = refl

      of-messages : (from : Party) (k : ℕ) (sent : List Sent) → list_all no_turn (message_texts from k sent) ≡ true
      of-messages from k [] = refl
      of-messages from k (one ∷ sent) = of-messages from (k + 1) sent

      of-traced : (trace : Bool) (from : Party) (k : ℕ) (sent : List Sent) → list_all no_turn (traced trace (message_texts from k sent)) ≡ true
      of-traced true from k sent = of-messages from k sent
      of-traced false from k sent = refl

      besides : Besides no_turn
      besides = record { file = λ q f. refl; page = λ q f p bytes. refl; locked = λ q u T. refl; refused = λ refusal. refl; outside = λ q fault. refl }

      deed-tells : (x : Setup) (h : Chance) (task : Task) (s : State) → list_all no_turn (deed_of x h task s).texts ≡ true
      deed-tells x h CountsCommits s = refl
      deed-tells x h (Begins e) s = task-texts no_turn besides x h (Begins e) s (λ e. cc)
      deed-tells x h (Meets e) s = task-texts no_turn besides x h (Meets e) s (λ e. cc)
      deed-tells x h (Acts e) s = task-texts no_turn besides x h (Acts e) s (λ e. cc)
      deed-tells x h Rests s = task-texts no_turn besides x h Rests s (λ e. cc)
      deed-tells x h (ComesUp p) s = task-texts no_turn besides x h (ComesUp p) s (λ e. cc)
      deed-tells x h Dismisses s = task-texts no_turn besides x h Dismisses s (λ e. cc)
      deed-tells x h (GoesDown p) s = task-texts no_turn besides x h (GoesDown p) s (λ e. cc)
      deed-tells x h (ClosesClients p) s = task-texts no_turn besides x h (ClosesClients p) s (λ e. cc)

      -- texts that report no turn, before or behind others
      quiet-first : (was : A) (now : World) (xs ys : List Text) → list_all no_turn xs ≡ true → Tells was now ys → Tells was now (xs ++ ys)
      quiet-first was now xs ys h k = record {
        read = reads-both was xs ys (quiet-reads was xs h) (subst (λ (z : A). reads z ys ≡ true) (sym (quiet-behind was xs h)) k.read);
        stands = subst (λ (z : A). Stands z now) (sym (behind-both was xs ys ∙ ap (λ (z : A). behind z ys) (quiet-behind was xs h))) k.stands;
      }

      quiet-last : (was : A) (now : World) (xs ys : List Text) → Tells was now xs → list_all no_turn ys ≡ true → Tells was now (xs ++ ys)
      quiet-last was now xs ys k h = record {
        read = reads-both was xs ys k.read (quiet-reads (behind was xs) ys h);
        stands = subst (λ (z : A). Stands z now) (sym (behind-both was xs ys ∙ quiet-behind (behind was xs) ys h)) k.stands;
      }

      own-tells : (steps : List Step) (c : Course) (was : A) → Stands was c.world → Tells was (go_on steps c).world (own_texts c.world (go_on steps c).world)
      own-tells steps c was h = by (gone-on steps c was h)
        where
          by : Reading was c.world (go_on steps c).world → Tells was (go_on steps c).world (own_texts c.world (go_on steps c).world)
          by t = subst (λ (texts : List Text). Tells was (go_on steps c).world texts) (sym (ap (λ (ls : List Text). drop (length c.world.lines) ls) t.lines ∙ drop-append_seam c.world.lines t.texts)) (record { read = t.read; stands = t.stands })

      texts-tell : (x : Setup) (h : Chance) (deed : Deed) (c : Course) → reported deed.said (own_texts c.world (go_on deed.steps c).world) ≡ own_texts c.world (go_on deed.steps c).world
          → (was : A) → Stands was c.world → list_all no_turn deed.texts ≡ true → Tells was (go_on deed.steps c).world (texts_of x h deed c.world (go_on deed.steps c).world)
      texts-tell x h deed c says was stands quiet = subst (λ (texts : List Text). Tells was now (told ++ texts ++ deed.texts ++ messages)) (sym says) (quiet-last was now (told ++ own ++ deed.texts) messages (quiet-last was now (told ++ own) deed.texts (quiet-first was now told own (of-outside deed.device h.told) (own-tells deed.steps c was stands)) quiet)
          (of-traced x.trace deed.actor (length c.world.sent) (newly_sent c.world (go_on deed.steps c).world)))
        where
          now : World
          now = (go_on deed.steps c).world

          told : List Text
          told = outside_texts deed.device h.told

          own : List Text
          own = own_texts c.world (go_on deed.steps c).world

          messages : List Text
          messages = traced x.trace (message_texts deed.actor (length c.world.sent) (newly_sent c.world (go_on deed.steps c).world))

      -- ---- runs

      record Holds (was : A) (s : State) : Type 0 where
        read : are_read next may was s.lines ≡ true
        stands : Stands (line_behind was s.lines) s.course.world
        tables : HasTables s

      world-begun : (task : Task) (s : State) → (begun task s).course.world ≡ s.course.world
      world-begun Dismisses s = refl
      world-begun task s = refl

      one-step : (was : A) (x : Setup) (h : Chance) (task : Task) (s : State) → Holds was s → Holds was (done x h task s)
      one-step was x h task s holds = by (is_too_much deed (go_on deed.steps u.course))
        where
          deed : Deed
          deed = deed_of x h task s

          u : State
          u = begun task s

          read-now : are_read next may was u.lines ≡ true
          read-now = ap (λ (ls : List Line). are_read next may was ls) (begun-lines task s) ∙ holds.read

          stands-now : Stands (line_behind was u.lines) u.course.world
          stands-now = subst (λ (ls : List Line). Stands (line_behind was ls) u.course.world) (sym (begun-lines task s)) (subst (λ (w : World). Stands (line_behind was s.lines) w) (sym (world-begun task s)) holds.stands)

          texts : List Text
          texts = texts_of x h deed u.course.world (go_on deed.steps u.course).world

          tells : Tells (line_behind was u.lines) (go_on deed.steps u.course).world texts
          tells = texts-tell x h deed u.course (begun-said x h task s holds.tables) (line_behind was u.lines) stands-now (deed-tells x h task s)

          by : (b : Bool) → Holds was (if b then cut_short u else come_to x h deed (go_on deed.steps u.course) u)
          by true = record { read = read-now; stands = stands-now; tables = begun-tables task s holds.tables }
          by false = record {
            read = lines-both was (when_of u) u.lines texts read-now tells.read;
            stands = subst (λ (z : A). Stands z (go_on deed.steps u.course).world) (sym (lines-behind was (when_of u) u.lines texts)) tells.stands;
            tables = become x h task s holds.tables;
          }

      all-steps : (was : A) (x : Setup) (s t : State) → MayLead x s t → Holds was s → Holds was t
      all-steps was x s t (none u) holds = holds
      all-steps was x s t (more a b c m rest) holds = all-steps was x b t rest (subst (Holds was) (sym m.state_is) (one-step was x m.chance m.task s holds))

      pub run-read : (was : A) (x : Setup) (s t : State) → s.lines ≡ [] → HasTables s → Stands was s.course.world → MayLead x s t → are_read next may was t.lines ≡ true
      run-read was x s t no_line tables stands leads = let end = all-steps was x s t leads start in end.read
        where
          start : Holds was s
          start = record {
            read = ap (λ (ls : List Line). are_read next may was ls) no_line;
            stands = subst (λ (ls : List Line). Stands (line_behind was ls) s.course.world) (sym no_line) stands;
            tables = tables;
          }
