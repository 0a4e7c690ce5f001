-- The lines of a show are those of what there is to print.
use Rattle.jn_wrong.proofs.Common.{◌≡◌, ◌≢◌, ℕ, ◌+◌, Bool, true, false, List, [], ◌∷◌, ◌++◌, append-nil, map, length, Option, None, refl, ◌∙◌, ap, subst, arith, not, filter, if◌then◌else◌, ServerNo, Party, Outside, EventRefusal, Text, Line, Sent, Pick, stable, commit_holder, World, Printed, FileThere, PageStored, UnitLocked, Step, Course, go_on, newly_sent, text_printed, prints_of, Setup, Chance, prints_found, Task, Meets, Acts, CutShort, State, when_of, begun, Deed, Reads, stopped_idle, shown, showing, IsLookedOver, Alone, Befalls, refusal_of, met, deed_of, own_texts, message_texts, traced, texts_of, lines_at, is_too_much, come_to, cut_short, Moment, DoesStep, may_tell, begun-lines, is_printed, printed_lines, Shows, plain, Server, Left}
use Rattle.jn_schedule.specs.declared.Event.TheVariants as events
use Rattle.jn_report.specs.declared.line.Text.TheVariants as says
use Rattle.jn_wrong.proofs.Filtered.{filter-both, lines-left, is_of_step, step-tells, own-filtered}
use Rattle.jn_wrong.proofs.Printed.{all-printed, unit-of}

of-step : (step : Step) (text : Text) → may_tell step text ≡ true → not (is_printed text) ≡ true
of-step step text h = by (step-tells step text h)
  where
    by : is_of_step text ≡ true → not (is_printed text) ≡ true
    by k = grind arith

messages-none : (from : Party) (k : ℕ) (sent : List Sent) → filter is_printed (message_texts from k sent) ≡ []
messages-none from k [] = refl
messages-none from k (one ∷ sent) = messages-none from (k + 1) sent

traced-none : (trace : Bool) (from : Party) (k : ℕ) (sent : List Sent) → filter is_printed (traced trace (message_texts from k sent)) ≡ []
traced-none true from k sent = messages-none from k sent
traced-none false from k sent = refl

outside-none : (q : ServerNo) (told : List Outside) → filter is_printed (map (λ (fault : Outside). says.Outside q fault) told) ≡ []
outside-none q [] = refl
outside-none q (fault ∷ told) = outside-none q told

all-prints : (q : ServerNo) (prints : List Printed) → filter is_printed (map (text_printed q) prints) ≡ map (text_printed q) prints
all-prints q [] = refl
all-prints q (FileThere f ∷ prints) = ap (λ (texts : List Text). says.File q f ∷ texts) (all-prints q prints)
all-prints q (PageStored f p bytes ∷ prints) = ap (λ (texts : List Text). says.Page q f p bytes ∷ texts) (all-prints q prints)
all-prints q (UnitLocked u T ∷ prints) = ap (λ (texts : List Text). says.Locked q u T ∷ texts) (all-prints q prints)

module _ (x : Setup) (q : ServerNo) (h : Chance) where
  abbrev looks : List Step → List Text → Deed
  looks steps texts = record (plain (Server q) steps) { device = Reads q; texts = texts }

  prints-of : (steps : List Step) (prints : List Printed) (c : Course)
      → filter is_printed (texts_of x h (looks steps (map (text_printed q) prints)) c.world (go_on steps c).world) ≡ map (text_printed q) prints
  prints-of steps prints c = filter-both is_printed (told ++ own ++ texts) messages
      ∙ ap (λ (more : List Text). filter is_printed (told ++ own ++ texts) ++ more) (traced-none x.trace (looks steps texts).actor (length c.world.sent) (newly_sent c.world (go_on steps c).world))
      ∙ append-nil (filter is_printed (told ++ own ++ texts))
      ∙ filter-both is_printed (told ++ own) texts
      ∙ ap (λ (front : List Text). front ++ filter is_printed texts) before
      ∙ all-prints q prints
    where
      texts : List Text
      texts = map (text_printed q) prints

      told : List Text
      told = map (λ (fault : Outside). says.Outside q fault) h.told

      own : List Text
      own = own_texts c.world (go_on steps c).world

      messages : List Text
      messages = traced x.trace (message_texts (looks steps texts).actor (length c.world.sent) (newly_sent c.world (go_on steps c).world))

      before : filter is_printed (told ++ own) ≡ []
      before = filter-both is_printed told own ∙ ap (λ (front : List Text). front ++ filter is_printed own) (outside-none q h.told) ∙ own-filtered is_printed of-step steps c

module _ (x : Setup) (q : ServerNo) (a b : Moment) (d : DoesStep x a b) (goes : b.state.stage ≢ CutShort) (unstopped : d.chance.stop ≡ None) (is : deed_of x d.chance d.task a.state ≡ showing d.chance q) where
  abbrev w : World
  w = a.state.course.world

  abbrev u : State
  u = begun d.task a.state

  looked : IsLookedOver (x.counts q) d.chance w q (a.devices q) (b.devices q)
  looked = by (subst (λ (deed : Deed). Befalls x d.chance deed w a.devices b.devices) is d.befalls)
    where
      by : Befalls x d.chance (showing d.chance q) w a.devices b.devices → IsLookedOver (x.counts q) d.chance w q (a.devices q) (b.devices q)
      by f = at f.used
        where
          at : Alone q (IsLookedOver (x.counts q) d.chance w q) a.devices b.devices → IsLookedOver (x.counts q) d.chance w q (a.devices q) (b.devices q)
          at alone = alone.its

  abbrev printed : List Printed
  printed = prints_found d.chance.found

  deed-is : deed_of x d.chance d.task a.state ≡ looks x q d.chance (stopped_idle q d.chance.stop) (map (text_printed q) printed)
  deed-is = is ∙ ap (λ (stop : Option (Pick → Left)). looks x q d.chance (stopped_idle q d.chance.stop) (shown q printed stop)) unstopped

  lines-are : printed_lines b.state.lines ≡ printed_lines a.state.lines ++ lines_at (when_of u) (map (text_printed q) printed)
  lines-are = ap (λ (s : State). printed_lines s.lines) d.state_is ∙ by (is_too_much deed (go_on deed.steps u.course)) (λ e. goes (ap (λ (s : State). s.stage) d.state_is ∙ e))
    where
      deed : Deed
      deed = deed_of x d.chance d.task a.state

      texts : List Text
      texts = texts_of x d.chance deed u.course.world (go_on deed.steps u.course).world

      of-texts : filter is_printed texts ≡ map (text_printed q) printed
      of-texts = ap (λ (z : Deed). filter is_printed (texts_of x d.chance z u.course.world (go_on z.steps u.course).world)) deed-is ∙ prints-of x q d.chance (stopped_idle q d.chance.stop) printed u.course

      by : (c : Bool) → ((if c then cut_short u else come_to x d.chance deed (go_on deed.steps u.course) u).stage ≡ CutShort → ⊥)
          → printed_lines (if c then cut_short u else come_to x d.chance deed (go_on deed.steps u.course) u).lines ≡ printed_lines a.state.lines ++ lines_at (when_of u) (map (text_printed q) printed)
      by true n = absurd (n refl)
      by false n = filter-both (λ (l : Line). is_printed l.text) u.lines (lines_at (when_of u) texts)
          ∙ ap (λ (ls : List Line). printed_lines ls ++ printed_lines (lines_at (when_of u) texts)) (begun-lines d.task a.state)
          ∙ ap (λ (ls : List Line). printed_lines a.state.lines ++ ls) (lines-left is_printed (when_of u) texts ∙ ap (λ (ts : List Text). lines_at (when_of u) ts) of-texts)

  shows-all : Shows x q a b d
  shows-all = record {
    memory = looked.memory;
    up = looked.up;
    prints = printed;
    all = all-printed (prints_of q w looked.memory) (λ v y e. unit-of v (commit_holder v looked.memory.worker) ((stable (w.found q)).files v) y e) printed (looked.prints unstopped);
    lines = lines-are;
  }

pub at-end : (x : Setup) (q : ServerNo) (a b : Moment) (d : DoesStep x a b) → d.task ≡ Acts (events.Show q) → d.chance.stop ≡ None → b.state.stage ≢ CutShort → Shows x q a b d
at-end x q a b d task unstopped goes = shows-all x q a b d goes unstopped (ap (λ (t : Task). deed_of x d.chance t a.state) task)

pub in-schedule : (x : Setup) (q : ServerNo) (a b : Moment) (d : DoesStep x a b) → d.task ≡ Meets (events.Show q) → refusal_of x a.state.course.world (events.Show q) ≡ None → d.chance.stop ≡ None → b.state.stage ≢ CutShort → Shows x q a b d
in-schedule x q a b d task done' unstopped goes = shows-all x q a b d goes unstopped (ap (λ (t : Task). deed_of x d.chance t a.state) task ∙ ap (λ (o : Option EventRefusal). met x d.chance (events.Show q) a.state.clients a.state.course.world o) done')
