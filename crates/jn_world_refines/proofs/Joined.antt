-- Calls of the code one after another.
use Rattle.jn_world_refines.proofs.Common.{List, [], ◌++◌, append-nil, append_assoc, refl, sym, ◌∙◌, ap, DeviceState, Line, StoreView, Setup, Moment, Leads, DoesStep, none, more, Task, join, Standing, Stands, IsTold, Limit, WentOn, WasCut}

told-both : (m n last : Moment) (a b c : List Line) → IsTold m n a b → IsTold n last b c → IsTold m last a c
told-both m n last a b c first second = record {
  new = first.new ++ second.new;
  here = second.here ∙ ap (λ (ls : List Line). ls ++ second.new) first.here ∙ append_assoc a first.new second.new;
  there = second.there ∙ ap (λ (ls : List Line). ls ++ second.new) first.there ∙ append_assoc m.state.lines first.new second.new;
}

-- the steps to where a run is cut short
pub cut-leads : (x : Setup) (m : Moment) (limit : Limit) (lines lines' : List Line) (cut : WasCut x m limit lines lines') → Leads x m cut.last
cut-leads x m limit lines lines' cut = join Moment (DoesStep x) m cut.before cut.last cut.leads (more cut.before cut.last cut.last cut.step (none cut.last))

module _ {S : Type 0} (look : S → StoreView) (device : S → DeviceState) (x : Setup) (m : Moment) where
  -- no task is done yet
  pub went-nowhere : (w : Standing S) → Stands look device x w m → (lines : List Line) → WentOn look device x m m.state.tasks w lines lines
  went-nowhere w stands lines = record { last = m; leads = none m; stands = stands; tasks = refl; stage = refl; told = record { new = []; here = sym (append-nil lines); there = sym (append-nil m.state.lines) } }

  module _ (rest : List Task) (w : Standing S) (a b c : List Line) (first : WentOn look device x m rest w a b) where
    -- more tasks are done
    pub went-further : (less : List Task) (w' : Standing S) → WentOn look device x first.last less w' b c → WentOn look device x m less w' a c
    went-further less w' second = record {
      last = second.last;
      leads = join Moment (DoesStep x) m first.last second.last first.leads second.leads;
      stands = second.stands;
      tasks = second.tasks;
      stage = second.stage ∙ first.stage;
      told = told-both m first.last second.last a b c first.told second.told;
    }

    -- or the run is cut short there
    pub went-to-cut : (limit : Limit) → WasCut x first.last limit b c → WasCut x m limit a c
    went-to-cut limit second = record {
      before = second.before;
      leads = join Moment (DoesStep x) m first.last second.before first.leads second.leads;
      last = second.last;
      step = second.step;
      comes = second.comes;
      stage = second.stage;
      told = told-both m first.last second.last a b c first.told second.told;
    }
