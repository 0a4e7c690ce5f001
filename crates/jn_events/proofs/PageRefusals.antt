-- Why an event of a server's device is refused beforehand, and what is refused behind it.
use Rattle.jn_events.proofs.Common.{set-get_or, FaultKind, ServerNo, DeviceState, is_within, IsBefalling, Setup, physical_pages, refusal_of, unless, if_there, Moment, Place, Counts, page_count, counts_by, Line, Event, StoreView, EndsStep, Ended, Memory, Standing, Stands, ◌≡◌, ℕ, refl, ap, sym, ◌∙◌, ◌≤◌, length, Ok, Err, subst, false, Some, None, true, arith, ◌+◌, Bool, set, nat_tests, slice_get_within, List, Result, IfErr, OnOk, nat_lt, slice_get}
use Rattle.jn_events.proofs.Refusing.{not-there, is-there}
use Rattle.std.proofs.Math.ListN.{get_or}
use Rattle.jn_schedule.specs.declared.Event.TheVariants as events
use Rattle.jn_report.specs.declared.line.EventRefusal.TheVariants as refusals

-- what was read is written again
pub written-again : {S : Type 0} (ps : List (Place S)) (i : ℕ) (p : Place S) → p ≡ get_or ps i p → ps ≡ set ps i p
written-again {S} ps i p read = sym (ap (λ (q : Place S). set ps i q) read ∙ set-get_or ps i p)

-- a call that was refused last reports that alone
pub ends-refused : {S A : Type 0} (r : Result A Ended) (w : Standing S) (lines wanted later : List Line) → OnOk r (later ≡ wanted) → IfErr r (λ e. e ≡ Memory) → length w.net.sent ≤ 1000000 → EndsStep r w w lines wanted later
ends-refused (Ok a) w lines wanted later told memory few = (refl, told, few)
ends-refused {S} {A} (Err e) w lines wanted later told memory few = subst (λ (f : Ended). EndsStep {S = S} {A = A} (Err f) w w lines wanted later) (sym memory) tt

module _ {S : Type 0} (look : S → StoreView) (device : S → DeviceState) (w : Standing S) (q : ServerNo) where
  -- no such server
  pub befalls-nothing : (event : Event) → IsBefalling q event → nat_lt q.0 (length w.places) ≡ false → (x : Setup) (m : Moment) → Stands look device x w m → refusal_of x m.state.course.world event ≡ Some refusals.NoSuchServer
  befalls-nothing (events.Decay s p) its none x m stands = ap (λ (r : ServerNo). refusal_of x m.state.course.world (events.Decay r p)) its ∙ not-there look device x w m stands q (unless (nat_lt p (physical_pages x q)) refusals.NoSuchPage None) none
  befalls-nothing (events.Revive s p) its none x m stands = ap (λ (r : ServerNo). refusal_of x m.state.course.world (events.Revive r p)) its ∙ not-there look device x w m stands q (unless (nat_lt p (physical_pages x q)) refusals.NoSuchPage None) none
  befalls-nothing (events.Arm s n kind) its none x m stands = ap (λ (r : ServerNo). refusal_of x m.state.course.world (events.Arm r n kind)) its ∙ not-there look device x w m stands q (unless (is_within (physical_pages x q) kind) refusals.NoSuchPage None) none
  befalls-nothing (events.Command c command) its none x m stands = absurd its
  befalls-nothing (events.Call c s call) its none x m stands = absurd its
  befalls-nothing (events.Again c) its none x m stands = absurd its
  befalls-nothing (events.Deliver k) its none x m stands = absurd its
  befalls-nothing events.Settle its none x m stands = absurd its
  befalls-nothing (events.Step s) its none x m stands = absurd its
  befalls-nothing (events.Nudge s) its none x m stands = absurd its
  befalls-nothing (events.Timeout s T) its none x m stands = absurd its
  befalls-nothing (events.Scrub s) its none x m stands = absurd its
  befalls-nothing (events.Crash s) its none x m stands = absurd its
  befalls-nothing (events.Restart s) its none x m stands = absurd its
  befalls-nothing (events.Show s) its none x m stands = absurd its

  module _ (place : Place S) (at : slice_get w.places q.0 ≡ Some place) where
    is-one : nat_lt q.0 (length w.places) ≡ true
    is-one = let within = slice_get_within w.places q.0 place at in grind (arith, nat_tests)

    pages-are : (x : Setup) (m : Moment) → Stands look device x w m → physical_pages x q ≡ page_count (counts_by place.counts) + page_count (counts_by place.counts)
    pages-are x m stands = let there = stands.places q.0 place at in ap (λ (g : Counts). page_count g + page_count g) there.counts

    -- the page is there or not
    pub page-as : (p : ℕ) (b : Bool) → nat_lt p (page_count (counts_by place.counts) + page_count (counts_by place.counts)) ≡ b → (x : Setup) (m : Moment) → Stands look device x w m
        → if_there x q (unless (nat_lt p (physical_pages x q)) refusals.NoSuchPage None) ≡ unless b refusals.NoSuchPage None
    page-as p b is x m stands =
        is-there look device x w m stands q (unless (nat_lt p (physical_pages x q)) refusals.NoSuchPage None) is-one
        ∙ ap (λ (n : ℕ). unless (nat_lt p n) refusals.NoSuchPage None) (pages-are x m stands)
        ∙ ap (λ (c : Bool). unless c refusals.NoSuchPage None) is

    pub fault-as : (n : ℕ) (kind : FaultKind) (b : Bool) → is_within (page_count (counts_by place.counts) + page_count (counts_by place.counts)) kind ≡ b → (x : Setup) (m : Moment) → Stands look device x w m
        → refusal_of x m.state.course.world (events.Arm q n kind) ≡ unless b refusals.NoSuchPage None
    fault-as n kind b is x m stands =
        is-there look device x w m stands q (unless (is_within (physical_pages x q) kind) refusals.NoSuchPage None) is-one
        ∙ ap (λ (k : ℕ). unless (is_within k kind) refusals.NoSuchPage None) (pages-are x m stands)
        ∙ ap (λ (c : Bool). unless c refusals.NoSuchPage None) is
