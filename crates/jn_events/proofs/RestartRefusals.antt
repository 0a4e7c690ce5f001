-- Why a restart is refused beforehand.
use Rattle.jn_events.proofs.Common.{ServerNo, DeviceState, Setup, refusal_of, if_down, Moment, Restart, StoreView, is_up_at, Standing, Stands, ◌≡◌, false, length, Option, Some, None, ◌<◌, true, true≢false, sym, ◌∙◌, nat_lt, is_some}
use Rattle.jn_events.proofs.Refusing.{not-there, up-as, is-there}
use Rattle.jn_system.specs.WholeSystem.World.{Memory}
use Rattle.jn_report.specs.declared.line.EventRefusal.TheVariants as refusals

module _ {S : Type 0} (look : S → StoreView) (device : S → DeviceState) (w : Standing S) (q : ServerNo) (x : Setup) (m : Moment) (stands : Stands look device x w m) where
  pub restart-not-there : nat_lt q.0 (length w.places) ≡ false → refusal_of x m.state.course.world (Restart q) ≡ Some refusals.NoSuchServer
  restart-not-there none = by (m.state.course.world.memory q)
    where
      by : (o : Option Memory) → if_down x q o ≡ Some refusals.NoSuchServer
      by None = not-there look device x w m stands q None none
      by (Some k) = not-there look device x w m stands q (Some refusals.ServerUp) none

  module _ (there : nat_lt q.0 (length w.places) ≡ true) (h : q.0 < length w.places) where
    pub restart-up : is_up_at q.0 w.places ≡ true → refusal_of x m.state.course.world (Restart q) ≡ Some refusals.ServerUp
    restart-up up = by (m.state.course.world.memory q) (up-as look device x w m stands q h ∙ up)
      where
        by : (o : Option Memory) → is_some o ≡ true → if_down x q o ≡ Some refusals.ServerUp
        by None e = absurd (true≢false (sym e))
        by (Some k) e = is-there look device x w m stands q (Some refusals.ServerUp) there

    pub restart-down : is_up_at q.0 w.places ≡ false → refusal_of x m.state.course.world (Restart q) ≡ None
    restart-down down = by (m.state.course.world.memory q) (up-as look device x w m stands q h ∙ down)
      where
        by : (o : Option Memory) → is_some o ≡ false → if_down x q o ≡ None
        by None e = is-there look device x w m stands q None there
        by (Some k) e = absurd (true≢false e)
