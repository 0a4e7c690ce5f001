-- How a server that is down came up.
use Rattle.jn_base.specs.declared.names.ServerNo.{ServerNo}
use Rattle.jn_base.specs.declared.names.Tid.{Tid}
use Rattle.jn_device.specs.Device.{DeviceState}
use Rattle.jn_events.specs.Naming.{has_come}
use Rattle.jn_place.specs.Exact.{IsRestart}
use Rattle.jn_place.specs.declared.place.Place.{Place}
use Rattle.jn_place.specs.declared.place.Restarted.{Restarted}
use Rattle.jn_place.specs.declared.place.Slot.{Slot}
use Rattle.jn_recovery.specs.Counts.{counts_by}
use Rattle.jn_report.specs.Lines.{lines_at}
use Rattle.jn_report.specs.declared.line.EventRefusal.TheVariants.{EpochsUsedUp}
use Rattle.jn_report.specs.declared.line.Line.{Line}
use Rattle.jn_report.specs.declared.line.Text.{Text}
use Rattle.jn_report.specs.declared.line.Text.TheVariants.{RefusedEvent}
use Rattle.jn_report.specs.declared.line.When.{When}
use Rattle.jn_store.specs.Store.{StoreView}
use Rattle.jn_world.specs.Calm.{IsQuietAt, IsUpAndCalm}
use Rattle.jn_world.specs.Standing.{is_up_at}
use Rattle.jn_world_refines.specs.Pages.{HasCounts}
use Rattle.jn_world_refines.specs.Restarting.{texts_restarted}
use Rattle.jn_world_refines.specs.Stands.{Standing, with_named}
use Rattle.std.specs.Prelude.{◌≡◌, ℕ, false, List, slice_get, Some, Bool, [], true, ◌∷◌, ◌++◌, slice_set}
use Rattle.jn_place.specs.declared.place.Restarted.TheVariants as came

-- every server is down
abbrev pub AreDown : {S : Type 0} → List (Place S) → Type 0
AreDown places = (n : ℕ) → is_up_at n places ≡ false

-- this one came up where no fault waited, and the others are as they were
pub record IsRisen {S : Type 0} (look : S → StoreView) (n : ℕ) (before after : List (Place S)) : Type 0 where
  pub here : (p q : Place S) → slice_get before n ≡ Some p → slice_get after n ≡ Some q → IsQuietAt look p.slot → IsUpAndCalm look q
  pub others : (i : ℕ) → (n ≡ i → ⊥) → slice_get after i ≡ slice_get before i

-- where no epoch is left nothing is reported yet
abbrev pub texts_so_far : ServerNo → (Tid → Bool) → Restarted → List Text
texts_so_far q named came.UsedUp = []
texts_so_far q named restarted = texts_restarted q named restarted

-- and then the event is refused
abbrev pub left_to_tell : When → Bool → List Line
left_to_tell when true = []
left_to_tell when false = record { when = when; text = RefusedEvent EpochsUsedUp } ∷ []

pub record BroughtUp {S : Type 0} (look : S → StoreView) (device : S → DeviceState) (q : ServerNo) (when : When) (w : Standing S) (came : Bool) (w' : Standing S) (lines lines' : List Line) : Type 0 where
  pub place : Place S
  pub at : slice_get w.places q.0 ≡ Some place
  pub restarted : Restarted
  pub slot : Slot S
  pub now : List Line
  pub restart : IsRestart look device q (counts_by place.counts) when place.slot restarted slot lines now
  pub counts : HasCounts look q (counts_by place.counts) slot
  pub here : w' ≡ with_named (texts_restarted q w.named restarted) (record w { places = slice_set w.places q.0 (record place { slot = slot }) })
  pub told : lines' ≡ now ++ lines_at when (texts_so_far q w.named restarted)
  pub came_is : came ≡ has_come restarted
