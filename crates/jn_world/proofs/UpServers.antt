-- A server that is up takes a message, makes a step or sends again, as the written machine has it.
use Rattle.jn_world.proofs.Common.{Server, ServerNo, DeviceState, Collected, Carried, with_delivered, Posted, LeavesPlace, has_work_at, PlaceReads, Took, WhereUp, TakeLeaves, WorkedBy, WorkLeaves, AsksAgain, StandsThere, IsPlace, Place, Slot, Up, Down, Gone, Counts, counts_by, lines_at, Line, When, pairs_view, StoreView, works_at, works_in, DoesEvent, EndsStep, Ended, HasCounts, ReadsPages, Standing, with_answer, texts_sent, ◌≡◌, ℕ, ◌+◌, length, Option, Some, None, ap, [], ◌++◌, ◌∙◌, subst, append-nil, set, List, slice_get, Result}
use Rattle.jn_world.proofs.Places.{has-counts, delivered-length}
use Rattle.jn_world.proofs.ServerCalls.{took-does, worked-does, nudged-does}
use Rattle.jn_world_refines.proofs.Held.{reads-pages}
use Rattle.jn_schedule.specs.declared.Event.TheVariants as events

-- a step leaves a place with as many pages
pub left-counts : {S : Type 0} (look : S → StoreView) (q : ServerNo) (most : ℕ) (p p' : Place S) (answer : Option Collected) → p'.counts ≡ p.counts → LeavesPlace look q most p' answer → HasCounts look q (counts_by p.counts) p'.slot
left-counts look q most p p' None e h = has-counts look q most p p' e h
left-counts look q most p p' (Some out) e h = has-counts look q (most + length out.messages) p p' e h.0

-- whether the place that is read has something to do
pub works-here : {S : Type 0} (look : S → StoreView) (ps : List (Place S)) (q : ServerNo) (p : Place S) → slice_get ps q.0 ≡ Some p → works_at look q.0 ps ≡ has_work_at look p.slot
works-here {S} look ps q p at = ap (λ (o : Option (Place S)). works_in look o) at

module _ {S : Type 0} (look : S → StoreView) (device : S → DeviceState) (seen : (s : S) → look s ≡ pairs_view (device s)) where
  reads-by : (q : ServerNo) (g : Counts) (most : ℕ) (slot : Slot S) → StandsThere look q g most slot → PlaceReads look slot → ReadsPages look device g slot
  reads-by q g most (Up p) h room = reads-pages look device seen g p h.counts room
  reads-by q g most (Down s) h room = absurd room
  reads-by q g most Gone h room = absurd room

  -- the code tells rightly of its pages
  pub reads-here : (q : ServerNo) (most : ℕ) (p : Place S) → IsPlace look q most p → PlaceReads look p.slot → ReadsPages look device (counts_by p.counts) p.slot
  reads-here q most p h room = reads-by q (counts_by p.counts) most p.slot h.stands room

  -- it takes the message of this number
  pub took-now : {A : Type 0} (w : Standing S) (q : ServerNo) (place new : Place S) (i : ℕ) → i ≡ q.0 → new.counts ≡ place.counts
      → (when : When) (r : Result A Ended) (u : Standing S) (first later : List Line) → slice_get w.places q.0 ≡ Some place → HasCounts look q (counts_by place.counts) new.slot
      → (k : ℕ) (one : Posted) (answer : Option Collected) (start told : List Line) (net : Carried) → start ≡ [] → slice_get w.net.sent k ≡ Some one → one.to ≡ Server q → ReadsPages look device (counts_by place.counts) place.slot
      → Took look device q (counts_by place.counts) when one.message place.slot answer new.slot start told → WhereUp look (TakeLeaves one.message) place.slot new.slot
      → net ≡ record w.net { sent = with_delivered k w.net.sent }
      → EndsStep r (with_answer q (Some k) answer (record w { places = set w.places i new; net = net })) u first (first ++ told ++ lines_at when (texts_sent q (Some k) w.trace (length net.sent) answer)) later
      → DoesEvent look device (events.Deliver k) when w r u first later
  took-now w q place new i index same when r u first later at counts k one answer start told net none posted to reads took leaves delivers ends =
      took-does look device seen w q place new i index same when r u first later at counts k one answer told posted to reads (subst (λ (l : List Line). Took look device q (counts_by place.counts) when one.message place.slot answer new.slot l told) none took) leaves
      (subst (λ (n : Carried). EndsStep r (with_answer q (Some k) answer (record w { places = set w.places i new; net = n })) u first (first ++ told ++ lines_at when (texts_sent q (Some k) w.trace (length w.net.sent) answer)) later) delivers
      (subst (λ (j : ℕ). EndsStep r (with_answer q (Some k) answer (record w { places = set w.places i new; net = net })) u first (first ++ told ++ lines_at when (texts_sent q (Some k) w.trace j answer)) later)
      (ap (λ (n : Carried). length n.sent) delivers ∙ delivered-length k w.net.sent) ends))

  -- it makes a step
  pub worked-now : {A : Type 0} (w : Standing S) (q : ServerNo) (place new : Place S) (i : ℕ) → i ≡ q.0 → new.counts ≡ place.counts
      → (when : When) (r : Result A Ended) (u : Standing S) (first later : List Line) → slice_get w.places q.0 ≡ Some place → HasCounts look q (counts_by place.counts) new.slot
      → (answer : Option Collected) (start told : List Line) → start ≡ [] → ReadsPages look device (counts_by place.counts) place.slot
      → WorkedBy look device q (counts_by place.counts) when place.slot answer new.slot start told → WhereUp look WorkLeaves place.slot new.slot
      → EndsStep r (with_answer q None answer (record w { places = set w.places i new })) u first (first ++ told ++ lines_at when (texts_sent q None w.trace (length w.net.sent) answer)) later
      → DoesEvent look device (events.Step q) when w r u first later
  worked-now w q place new i index same when r u first later at counts answer start told none reads worked leaves ends =
      worked-does look device seen w q place new i index same when r u first later at counts answer told reads
      (subst (λ (l : List Line). WorkedBy look device q (counts_by place.counts) when place.slot answer new.slot l told) none worked) leaves ends

  -- it sends again what waits for an answer
  pub nudged-now : {A : Type 0} (w : Standing S) (q : ServerNo) (place : Place S) → slice_get w.places q.0 ≡ Some place
      → (when : When) (r : Result A Ended) (u : Standing S) (first later start : List Line) → start ≡ [] → (out : Collected) → AsksAgain look place.slot out
      → EndsStep r (with_answer q None (Some out) w) u first (first ++ start ++ lines_at when (texts_sent q None w.trace (length w.net.sent) (Some out))) later
      → DoesEvent look device (events.Nudge q) when w r u first later
  nudged-now w q place at when r u first later start none out asks ends =
      nudged-does look device seen w q place at when r u first later out asks
      (subst (λ (l : List Line). EndsStep r (with_answer q None (Some out) w) u first (l ++ lines_at when (texts_sent q None w.trace (length w.net.sent) (Some out))) later) (ap (λ (l : List Line). first ++ l) none ∙ append-nil first) ends)
