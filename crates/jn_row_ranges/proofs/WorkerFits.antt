-- What a worker's row sends and sets going weighs less than the message, and its table stays small.
use Rattle.jn_row_ranges.proofs.Common.{◌≡◌, ◌≤◌, ℕ, Bool, true, false, List, [], ◌∷◌, ◌++◌, length-append, Option, Some, None, true≢false, refl, sym, ◌∙◌, ap, arith, ◌+◌, ◌&&◌, if◌then◌else◌, is_some, nat_tests, Tid, WorkId, Tickets, work_tells, Message, Work, Phase, StableState, Prepared, Change, AddFlag, DropFlag, made_all, is_going, at_work, gone_on, ready_work, RowOutcome, Sent, WorkerTable, WorkStorage, Wanted, with_phase, after_grant, broken_by, breaks_at, new_work, commit_wants, worker_row, going_work, worker_step, AreOrderly, weight, its_wants, Replies, is_open_already, WorkerCase, none_done, replies_only, opens_anew, refuses_next, performs_next, prepares_it, marks_it, drops_it, removes_it, worker-case, WorkerStep, is_over, worker-step-case, weigh_all, goings, name_from}
use Rattle.std.specs.Prelude.{length}
use Rattle.jn_base.specs.declared.names.LockUnit.{LockUnit}
use Rattle.jn_rows.specs.declared.worker.Phase.TheVariants.{Prepared as Stored}
use Rattle.jn_rows.specs.Worker.{without}
use Rattle.jn_lock_rows.specs.Matching.{is_before, are_rising}
use Rattle.jn_lock_rows.proofs.Works.{none-front}
use Rattle.jn_system.proofs.WholeSystem.WorkerRows.{going-is}
use Rattle.jn_locks.proofs.Orders.{work_before-irreflexive}
use Rattle.jn_msgs.specs.declared.message.Message.TheVariants as messages

abbrev Stable : Type 0
Stable = WorkId → Option Prepared

-- ---- how many works go

goings-phase : (stored : Stable) (W : WorkId) (p : Phase) (t : WorkerTable) → goings stored (with_phase W p t) ≡ goings stored t
goings-phase stored W p [] = refl
goings-phase stored W p (w ∷ ws) = let again = goings-phase stored W p ws in grind arith

same-name : (T : Tid) (o : Option LockUnit) (v : Work) → (broken_by T o v).name ≡ v.name
same-name T None v = refl
same-name T (Some u) v = refl

goings-grant : (stored : Stable) (T : Tid) (W : WorkId) (wants : List Wanted) (t : WorkerTable) → goings stored (after_grant T W wants t) ≡ goings stored t
goings-grant stored T W wants [] = refl
goings-grant stored T W wants (v ∷ vs) = let again = goings-grant stored T W wants vs in let same = same-name T (breaks_at W wants v) v in grind arith

goings-less : (now stored : Stable) (t : WorkerTable) → ((V : WorkId) → is_going (now V) ≡ true → is_going (stored V) ≡ true) → goings now t ≤ goings stored t
goings-less now stored [] h = omega arith
goings-less now stored (w ∷ ws) h = let again = goings-less now stored ws h in let here = h w.name in grind arith

goings-without : (stored : Stable) (W : WorkId) (t : WorkerTable) → goings stored (without W t) ≤ goings stored t
goings-without stored W [] = omega arith
goings-without stored W (w ∷ ws) = let again = goings-without stored W ws in grind arith

goings-more : (stored : Stable) (t : WorkerTable) (w : Work) → is_going (stored w.name) ≡ false → goings stored (t ++ w ∷ []) ≡ goings stored t
goings-more stored [] w h = grind arith
goings-more stored (v ∷ vs) w h = let again = goings-more stored vs w h in grind arith

-- what is put in a work's place doesn't go
goings-at : (stored : Stable) (W : WorkId) (o : Option Prepared) (t : WorkerTable) → is_going o ≡ false → goings (at_work stored W o) t ≤ goings stored t
goings-at stored W o t idle = goings-less (at_work stored W o) stored t on
  where
    on : (V : WorkId) → is_going (at_work stored W o V) ≡ true → is_going (stored V) ≡ true
    on V g = grind (arith, idle)

-- a work that stands once
goings-behind : (stored : Stable) (W : WorkId) (p : Option Prepared) (t : WorkerTable) → is_before W t ≡ true → goings (at_work stored W p) t ≡ goings stored t
goings-behind stored W p [] h = refl
goings-behind stored W p (v ∷ vs) h = let again = goings-behind stored W p vs in let tells = work_tells W v.name in let same = work_before-irreflexive W in grind arith

goings-mark : (stored : Stable) (W : WorkId) (p : Option Prepared) (t : WorkerTable) → are_rising t ≡ true → goings (at_work stored W p) t ≤ goings stored t + 1
goings-mark stored W p [] h = omega arith
goings-mark stored W p (v ∷ vs) h = let again = goings-mark stored W p vs in let behind = goings-behind stored W p vs in let tells = work_tells W v.name in grind arith

-- the going work is over
goings-over : (x : StableState) (t : WorkerTable) (w : Work) → going_work x t ≡ Some w → goings (at_work x.works w.name None) (without w.name t) + 1 ≤ goings x.works t
goings-over x [] w h = absurd (cc h)
goings-over x (v ∷ vs) w h = by (is_going (x.works v.name)) refl h (goings-over x vs w)
  where
    less : goings (at_work x.works w.name None) vs ≤ goings x.works vs
    less = goings-at x.works w.name None vs refl

    some : Some v ≡ Some w → v ≡ w
    some q = cc

    by : (b : Bool) → is_going (x.works v.name) ≡ b → (if b then Some v else going_work x vs) ≡ Some w
        → (going_work x vs ≡ Some w → goings (at_work x.works w.name None) (without w.name vs) + 1 ≤ goings x.works vs)
        → goings (at_work x.works w.name None) (without w.name (v ∷ vs)) + 1 ≤ goings x.works (v ∷ vs)
    by true g e again = let tells = work_tells v.name w.name in let is = some e in grind (arith, less)
    by false g e again = let on = again e in let tells = work_tells v.name w.name in let going = going-is x vs w e in grind (arith, less)

-- ---- rows

-- each message weighs something
pub weighs-some : (m : Message) → 1 ≤ weight m
weighs-some (messages.End c request T works) = omega arith
weighs-some m = omega arith

abbrev pub keeps_flags : Change → Bool
keeps_flags (AddFlag flag) = false
keeps_flags (DropFlag T) = false
keeps_flags change = true

abbrev pub keep_flags : List Change → Bool
keep_flags [] = true
keep_flags (c ∷ cs) = keeps_flags c && keep_flags cs

pub record WorkerFits (x : StableState) (t : WorkerTable) (weight_of : ℕ) (row : RowOutcome WorkerTable) : Type 0 where
  pub few : length row.table ≤ 64
  pub flags : keep_flags row.changes ≡ true
  pub sent : weigh_all row.messages + 1 ≤ weight_of
  pub goes : weigh_all row.messages + goings (made_all row.changes x).works row.table + 1 ≤ goings x.works t + weight_of

pub length-phase : (W : WorkId) (p : Phase) (t : WorkerTable) → length (with_phase W p t) ≡ length t
length-phase W p [] = refl
length-phase W p (w ∷ ws) = let again = length-phase W p ws in grind arith

length-grant : (T : Tid) (W : WorkId) (wants : List Wanted) (t : WorkerTable) → length (after_grant T W wants t) ≡ length t
length-grant T W wants [] = refl
length-grant T W wants (v ∷ vs) = let again = length-grant T W wants vs in grind arith

length-without : (W : WorkId) (t : WorkerTable) → length (without W t) ≤ length t
length-without W [] = omega arith
length-without W (w ∷ ws) = let again = length-without W ws in grind arith

module _ (s : WorkStorage) (k : Tickets) (t : WorkerTable) (few : length t ≤ 64) where
  abbrev Fits : ℕ → RowOutcome WorkerTable → Type 0
  Fits n row = WorkerFits s.state t n row

  -- nothing stable changes, and the works are the same but for their phases
  still : (n : ℕ) (row : RowOutcome WorkerTable) → row.changes ≡ [] → length row.table ≡ length t → goings s.state.works row.table ≡ goings s.state.works t → weigh_all row.messages + 1 ≤ n → Fits n row
  still n row none same goes light = record {
    few = omega (arith, same, few);
    flags = rw none refl;
    sent = light;
    goes = rw none (omega (arith, goes, light));
  }

  -- a reply weighs less than what it answers
  light : (m : Message) (x : Sent) → Replies t s k m x → weight x.1 + 1 ≤ weight m
  light _ _ (is_open_already c q T w e) = omega arith
  light m x reply = omega arith

  -- the next name is stored nowhere
  new-idle : AreOrderly t k s.state.works → is_going (s.state.works (name_from k)) ≡ false
  new-idle fact = by (s.state.works (name_from k)) refl
    where
      by : (o : Option Prepared) → s.state.works (name_from k) ≡ o → is_going o ≡ false
      by None e = refl
      by (Some p) e = absurd (true≢false (sym (fact.live (name_from k) (ap is_some e)) ∙ ap is_some (none-front (name_from k) t fact.before)))

  fits : AreOrderly t k s.state.works → (m : Message) (row : RowOutcome WorkerTable) → WorkerCase t s k m row → Fits (weight m) row
  fits fact _ _ (none_done m) = let some = weighs-some m in still _ _ refl refl refl (omega (arith, some))
  fits fact _ _ (replies_only m x reply) = let less = light m x reply in still _ _ refl refl refl (omega (arith, less))
  fits fact _ _ (opens_anew c q T e room) = record {
    few = let more = length-append t (new_work (name_from k) T ∷ []) in grind (arith, nat_tests, room);
    flags = refl;
    sent = omega arith;
    goes = let more = goings-more s.state.works t (new_work (name_from k) T) (new-idle fact) in omega (arith, more);
  }
  fits fact _ _ (refuses_next c q W n op w a refusal e f l r) = still 2 _ refl (length-phase w.name _ t) (goings-phase s.state.works w.name _ t) (omega arith)
  fits fact _ _ (performs_next c q W n op w a e f l r) = let wants = its_wants s a op in still 2 _ refl (length-phase w.name _ _ ∙ length-grant w.tid w.name wants t)
      (goings-phase s.state.works w.name _ (after_grant w.tid w.name wants t) ∙ goings-grant s.state.works w.tid w.name wants t) (omega arith)
  fits fact _ _ (prepares_it T c W w a e f v) = let wants = commit_wants a.writes in let ready = Some (ready_work (record { work = w.name; tid = w.tid; client = c }) a.list a.reads) in record {
    few = let one = length-phase w.name (Stored (record { reads = a.reads; writes = a.writes })) (after_grant w.tid w.name wants t) in let two = length-grant w.tid w.name wants t in omega (arith, one, two, few);
    flags = refl;
    sent = omega arith;
    goes = let one = goings-phase (at_work s.state.works w.name ready) w.name (Stored (record { reads = a.reads; writes = a.writes })) (after_grant w.tid w.name wants t) in
        let two = goings-grant (at_work s.state.works w.name ready) w.tid w.name wants t in let less = goings-at s.state.works w.name ready t refl in omega (arith, one, two, less);
  }
  fits fact _ _ (marks_it T W w p e f g) = record { few = few; flags = refl; sent = omega arith; goes = let one = goings-mark s.state.works W (gone_on (s.state.works W)) t fact.rising in omega (arith, one) }
  fits fact _ _ (drops_it T W w e f) = record { few = let less = length-without W t in omega (arith, less, few); flags = refl; sent = omega arith; goes = let one = goings-without s.state.works W t in omega (arith, one) }
  fits fact _ _ (removes_it T W w p e f g) = record {
    few = let less = length-without W t in omega (arith, less, few);
    flags = refl;
    sent = omega arith;
    goes = let one = goings-without (at_work s.state.works W None) W t in let less = goings-at s.state.works W None t refl in omega (arith, one, less);
  }

pub worker-fits : (s : WorkStorage) (k : Tickets) (t : WorkerTable) (m : Message) → AreOrderly t k s.state.works → length t ≤ 64 → WorkerFits s.state t (weight m) (worker_row t s k m)
worker-fits s k t m fact few = fits s k t few fact m (worker_row t s k m) (worker-case t s k m)

-- ---- a background step

-- what it sends weighs no more than what went before
pub record StepFits (x : StableState) (t : WorkerTable) (row : RowOutcome WorkerTable) : Type 0 where
  pub few : length row.table ≤ 64
  pub flags : keep_flags row.changes ≡ true
  pub sent : weigh_all row.messages ≤ 1
  pub goes : weigh_all row.messages + goings (made_all row.changes x).works row.table ≤ goings x.works t

pub step-fits : (s : WorkStorage) (k : Tickets) (t : WorkerTable) (row : RowOutcome WorkerTable) → length t ≤ 64 → worker_step t s k ≡ Some row → StepFits s.state t row
step-fits s k t row few h = by row (worker-step-case t s k row h)
  where
    by : (row : RowOutcome WorkerTable) → WorkerStep t s k row → StepFits s.state t row
    by _ (is_over w goes none) = record {
      few = let less = length-without w.name t in omega (arith, less, few);
      flags = refl;
      sent = omega arith;
      goes = let over = goings-over s.state t w goes in omega (arith, over);
    }
    by row step = record { few = few; flags = refl; sent = omega arith; goes = omega arith }
