-- What the code reports of a restart behind the faults of its device.
use Rattle.std.specs.Prelude.{Bool, List, [], ◌∷◌, drop}
use Rattle.jn_base.specs.declared.names.ServerNo.{ServerNo}
use Rattle.jn_base.specs.declared.names.Tid.{Tid}
use Rattle.jn_device.specs.Device.{DeviceState}
use Rattle.jn_place.specs.declared.place.Restarted.{Restarted}
use Rattle.jn_place.specs.declared.place.Restarted.TheVariants as came
use Rattle.jn_report.specs.declared.line.EventRefusal.TheVariants.{EpochsUsedUp}
use Rattle.jn_report.specs.declared.line.Text.{Text}
use Rattle.jn_report.specs.declared.line.Text.TheVariants as says
use Rattle.jn_report.specs.declared.line.Line.{Line}
use Rattle.jn_store.specs.Store.{StoreView}
use Rattle.jn_machine.specs.Chances.{Setup}
use Rattle.jn_machine.specs.Runs.{Moment}
use Rattle.jn_world_refines.specs.Going.{NoEpochLeft, WasCut, IsStepTo}
use Rattle.jn_world_refines.specs.Stands.{Standing, with_named}
use Rattle.jn_world_refines.specs.Naming.{names_told}

-- where these are named so far
abbrev pub texts_restarted : ServerNo → (Tid → Bool) → Restarted → List Text
texts_restarted q named (came.Up epoch tids) = says.Up q epoch ∷ names_told tids.items named
texts_restarted q named came.Stopped = says.Stopped q ∷ []
texts_restarted q named came.UsedUp = says.RefusedEvent EpochsUsedUp ∷ []

-- At the start and the end: the server came up or was stopped, or its epochs are used up and the run is cut short. The lines of that
-- restart aren't reported then.
abbrev pub ComesTo : {S : Type 0} → (S → StoreView) → (S → DeviceState) → Setup → Moment → ServerNo → Standing S → Restarted → Standing S → List Line → List Line → Type 0
ComesTo look device x m q w came.UsedUp w' lines lines' = WasCut x m (NoEpochLeft q) lines lines
ComesTo look device x m q w restarted w' lines lines' = IsStepTo look device x m (drop 1 m.state.tasks) (with_named (texts_restarted q w.named restarted) w') lines lines'
