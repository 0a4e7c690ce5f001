-- Where a call of the world that settles has come, in the written machine.
use Rattle.jn_settles.proofs.Common.{◌≡◌, ℕ, ◌+◌, true, false, List, ◌∷◌, ◌++◌, length, drop, Some, sym, ◌∙◌, ap, subst, map, Result, Ok, DeviceState, Line, StoreView, Setup, settling, Moment, Task, Begins, Rests, InSchedule, first_of_tasks, when_of, IsTold, WentOn, Standing, Stands, Ended, DoesTasks, DoesScheduled, is_going, texts_since, ComesThrough}
use Rattle.jn_world.specs.Written.{GoesTo}
use Rattle.std.proofs.Math.Seq.{drop-append_seam}
use Rattle.jn_report.specs.declared.line.When.{When}
use Rattle.jn_schedule.specs.declared.Event.TheVariants as events

module _ {S A : Type 0} (look : S → StoreView) (device : S → DeviceState) (x : Setup) (m : Moment) (rest : List Task) (before after : Standing S) (a : A) (lines lines' : List Line) (stands : Stands look device x before m)
    (no_rest : first_of_tasks rest ≡ Some Rests → ⊥) (result : Result A Ended) (ok : result ≡ Ok a) where
  abbrev pub Went : Type 0
  Went = WentOn look device x m rest after lines lines'

  -- by the clause of a settle, and by that of an event
  pub by-tasks : (when : When) → m.state.tasks ≡ settling x ++ rest → is_going m.state.stage ≡ true → when_of m.state ≡ when → DoesTasks look device settling when before result after lines lines' → Went
  by-tasks when tasks going at does = subst (λ (r : Result A Ended). GoesTo look device x m rest r after lines lines') ok (does x m rest stands tasks going at)

  pub by-event : (number : ℕ) → m.state.tasks ≡ Begins events.Settle ∷ rest → m.state.stage ≡ InSchedule → number ≡ m.state.course.world.event + 1
      → DoesScheduled look device number events.Settle before result after lines lines' → Went
  by-event number tasks stage is does = subst (λ (r : Result A Ended). GoesTo look device x m rest r after lines lines') ok (does x m rest stands tasks stage is)

  pub comes-through-these : (tasks : List Task) → m.state.tasks ≡ tasks ++ rest → is_going m.state.stage ≡ true → (w : WentOn look device x m rest after lines lines') → ComesThrough x tasks rest m w.last
  comes-through-these tasks begins going w = record {
    begins = begins;
    leads = w.leads;
    ends = w.tasks;
    no_rest = no_rest;
    whole = λ cut. clash (sym going ∙ ap is_going (sym w.stage ∙ cut));
  }
    where
      clash : true ≡ false → ⊥
      clash e = cc

-- the same lines were added here and there
pub same-texts : (m last : Moment) (lines lines' : List Line) → IsTold m last lines lines' → texts_since m.state.lines last.state.lines ≡ texts_since lines lines'
same-texts m last lines lines' t = ap (λ (ls : List Line). map (λ (l : Line). l.text) ls)
    (ap (drop (length m.state.lines)) t.there ∙ drop-append_seam m.state.lines t.new ∙ sym (ap (drop (length lines)) t.here ∙ drop-append_seam lines t.new))
