-- From the start of a run by calls of the code to its end, or to where it is cut short.
use Rattle.jn_world_refines.proofs.Common.{◌≡◌, ℕ, List, [], ◌++◌, refl, sym, ◌∙◌, ap, ServerNo, AllFiles, Line, Event, Setup, Devices, Moment, DoesStep, Leads, none, CutShort, AtEnd, before, AreImages, IsWhole, IsLimited, IsPartOfRun, join, IsTold}
use Rattle.jn_world_refines.specs.Written.{IsReported}

module _ (x : Setup) (schedule : List Event) (images : Devices) where
  pub reported-first : (files : AllFiles) (epochs : ServerNo → ℕ) → AreImages x files epochs images → IsReported x schedule images (record { state = before x schedule files epochs; devices = images }) []
  reported-first files epochs are = record {
    written = record { files = files; epochs = epochs; are_images = are; leads = none (record { state = before x schedule files epochs; devices = images }) };
    lines_are = refl;
  }

  -- what went on, began the end or was cut short leads further and reported these lines
  pub reported-further : (m last : Moment) (a b : List Line) → IsReported x schedule images m a → Leads x m last → IsTold m last a b → IsReported x schedule images last b
  reported-further m last a b h leads told = record {
    written = let w = h.written in record { files = w.files; epochs = w.epochs; are_images = w.are_images; leads = join Moment (DoesStep x) (record { state = before x schedule w.files w.epochs; devices = images }) m last w.leads leads };
    lines_are = told.there ∙ ap (λ (ls : List Line). ls ++ told.new) h.lines_are ∙ sym told.here;
  }

  pub reported-whole : (m : Moment) (lines : List Line) → IsReported x schedule images m lines → m.state.stage ≡ AtEnd → m.state.tasks ≡ [] → IsWhole x schedule images m.devices lines
  reported-whole m lines h stage tasks = record { last = m; written = h.written; stage = stage; tasks = tasks; closing_is = refl; lines_are = h.lines_are }

  pub reported-limited : (m : Moment) (lines : List Line) → IsReported x schedule images m lines → m.state.stage ≡ CutShort → IsLimited x schedule images lines
  reported-limited m lines h stage = record { last = m; written = h.written; stage = stage; lines_are = h.lines_are }

  pub reported-part : (m : Moment) (lines : List Line) → IsReported x schedule images m lines → IsPartOfRun x schedule images lines
  reported-part m lines h = record { now = m; written = h.written; lines_are = h.lines_are }
