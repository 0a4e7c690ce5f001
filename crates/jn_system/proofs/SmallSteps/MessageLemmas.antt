-- What a message says stays true.
use Rattle.jn_system.proofs.Common.{◌≡◌, ◌≢◌, ◌⊎◌, inl, inr, ℕ, Bool, true, false, List, [], ◌∷◌, Option, Some, None, not, refl, sym, ◌∙◌, ap, subst, arith, ◌&&◌, ◌||◌, ServerNo, Tid, WorkId, server_eq, tid_tells, work_tells, AllFiles, at_work, at_tid, World, Atom, Begin, Open, End, NoteReady, NoteOver, Abort, Close, Name, Decide, Restart, after, run, opening_world, May, MayRun, Message, Vote, Outcome}
use Rattle.jn_system.proofs.SmallSteps.Invariant.{Invariant, NamesFact}
use Rattle.jn_msgs.specs.declared.message.Message.TheVariants as messages
use Rattle.jn_msgs.specs.declared.message.Outcome.TheVariants as outcomes
use Rattle.jn_msgs.specs.declared.message.Vote.TheVariants as votes
use Rattle.jn_system.specs.SmallSteps.Messages.{IsPartOf, IsWorkOf, BegunSays, OpenedSays, OutcomeSays, VoteSays, DropSays, Says}
use Rattle.jn_system.proofs.SmallSteps.NameLemmas.{fresh_work}
use Rattle.jn_system.proofs.SmallSteps.Runs.{step_kept, run_kept, opening_kept}
use Rattle.jn_system.proofs.SmallSteps.Updates.{not_both, at_work_other, at_tid_other}

-- what has happened stays so
pub record Grows (w v : World) : Type 0 where
  pub opened : (W : WorkId) → w.opened W ≡ true → v.opened W ≡ true
  pub owner : (W : WorkId) → w.opened W ≡ true → v.owner W ≡ w.owner W
  pub begun : (T : Tid) → w.begun T ≡ true → v.begun T ≡ true
  pub ended : (T : Tid) → w.ended T ≡ true → v.ended T ≡ true
  pub part : (T : Tid) → w.ended T ≡ true → (s : ServerNo) → v.part T s ≡ w.part T s
  pub was_ready : (W : WorkId) → w.was_ready W ≡ true → v.was_ready W ≡ true
  pub over : (W : WorkId) → w.over W ≡ true → v.over W ≡ true
  pub aborted : (T : Tid) → w.aborted T ≡ true → v.aborted T ≡ true
  pub named : (T : Tid) → w.named T ≡ true → v.named T ≡ true
  pub closed : (T : Tid) → w.closed T ≡ true → v.closed T ≡ true

stays_work : (f : WorkId → Bool) (W V : WorkId) → f V ≡ true → at_work f W true V ≡ true
stays_work f W V h = grind (arith, work_tells)

stays_tid : (f : Tid → Bool) (W V : Tid) → f V ≡ true → at_tid f W true V ≡ true
stays_tid f W V h = grind (arith, tid_tells)

or_stays : (a b : Bool) → a ≡ true → (a || b) ≡ true
or_stays a b h = grind arith

part_other : (w : World) (T : Tid) (works : ServerNo → Option WorkId) → w.ended T ≡ false → (U : Tid) → w.ended U ≡ true → (s : ServerNo) → at_tid w.part T works U s ≡ w.part U s
part_other w T works f U h s = ap (λ f. f s) (at_tid_other w.part T works U (λ e. not_both (w.ended U) h (subst (λ x. w.ended x ≡ false) e f)))

owner_other : (w : World) (W : WorkId) (T : Tid) → w.opened W ≡ false → (V : WorkId) → w.opened V ≡ true → at_work w.owner W T V ≡ w.owner V
owner_other w W T f V h = at_work_other w.owner W T V (λ e. not_both (w.opened V) h (subst (λ x. w.opened x ≡ false) e f))

pub grows : (a : Atom) (w : World) → May a w → NamesFact w → Grows w (after a w)
grows (Begin T) w may names = record {
  opened = λ W h. h;
  owner = λ W h. refl;
  begun = λ U h. stays_tid w.begun T U h;
  ended = λ T h. h;
  part = λ T h s. refl;
  was_ready = λ W h. h;
  over = λ W h. h;
  aborted = λ T h. h;
  named = λ T h. h;
  closed = λ T h. h;
}
grows (Open W T) w may names = record {
  opened = λ V h. stays_work w.opened W V h;
  owner = λ V h. owner_other w W T (fresh_work w W T names may) V h;
  begun = λ T h. h;
  ended = λ T h. h;
  part = λ T h s. refl;
  was_ready = λ W h. h;
  over = λ W h. h;
  aborted = λ T h. h;
  named = λ T h. h;
  closed = λ T h. h;
}
grows (End T works) w may names = record {
  opened = λ W h. h;
  owner = λ W h. refl;
  begun = λ T h. h;
  ended = λ U h. stays_tid w.ended T U h;
  part = λ U h s. part_other w T works may.fresh U h s;
  was_ready = λ W h. h;
  over = λ W h. h;
  aborted = λ T h. h;
  named = λ T h. h;
  closed = λ T h. h;
}
grows (NoteReady W) w may names = record {
  opened = λ W h. h;
  owner = λ W h. refl;
  begun = λ T h. h;
  ended = λ T h. h;
  part = λ T h s. refl;
  was_ready = λ V h. stays_work w.was_ready W V h;
  over = λ W h. h;
  aborted = λ T h. h;
  named = λ T h. h;
  closed = λ T h. h;
}
grows (NoteOver W) w may names = record {
  opened = λ W h. h;
  owner = λ W h. refl;
  begun = λ T h. h;
  ended = λ T h. h;
  part = λ T h s. refl;
  was_ready = λ W h. h;
  over = λ V h. stays_work w.over W V h;
  aborted = λ T h. h;
  named = λ T h. h;
  closed = λ T h. h;
}
grows (Abort T) w may names = record {
  opened = λ W h. h;
  owner = λ W h. refl;
  begun = λ T h. h;
  ended = λ T h. h;
  part = λ T h s. refl;
  was_ready = λ W h. h;
  over = λ W h. h;
  aborted = λ U h. stays_tid w.aborted T U h;
  named = λ T h. h;
  closed = λ T h. h;
}
grows (Close T) w may names = record {
  opened = λ W h. h;
  owner = λ W h. refl;
  begun = λ T h. h;
  ended = λ T h. h;
  part = λ T h s. refl;
  was_ready = λ W h. h;
  over = λ W h. h;
  aborted = λ T h. h;
  named = λ T h. h;
  closed = λ U h. stays_tid w.closed T U h;
}
grows (Name T) w may names = record {
  opened = λ W h. h;
  owner = λ W h. refl;
  begun = λ T h. h;
  ended = λ T h. h;
  part = λ T h s. refl;
  was_ready = λ W h. h;
  over = λ W h. h;
  aborted = λ T h. h;
  named = λ U h. stays_tid w.named T U h;
  closed = λ T h. h;
}
grows (Decide flag) w may names = record {
  opened = λ W h. h;
  owner = λ W h. refl;
  begun = λ T h. h;
  ended = λ T h. h;
  part = λ T h s. refl;
  was_ready = λ W h. h;
  over = λ W h. h;
  aborted = λ T h. h;
  named = λ U h. stays_tid w.named flag.tid U h;
  closed = λ T h. h;
}
grows (Restart s x) w may names = record {
  opened = λ W h. h;
  owner = λ W h. refl;
  begun = λ T h. h;
  ended = λ T h. h;
  part = λ T h s. refl;
  was_ready = λ W h. h;
  over = λ W h. h;
  aborted = λ T h. or_stays (w.aborted T) (server_eq s T.server && (w.begun T && not (w.named T))) h;
  named = λ T h. h;
  closed = λ T h. h;
}
grows _ w may names = record {
  opened = λ W h. h;
  owner = λ W h. refl;
  begun = λ T h. h;
  ended = λ T h. h;
  part = λ T h s. refl;
  was_ready = λ W h. h;
  over = λ W h. h;
  aborted = λ T h. h;
  named = λ T h. h;
  closed = λ T h. h;
}

grows_on : (a b c : World) → Grows a b → Grows b c → Grows a c
grows_on a b c f g = record {
  opened = λ W h. g.opened W (f.opened W h);
  owner = λ W h. g.owner W (f.opened W h) ∙ f.owner W h;
  begun = λ T h. g.begun T (f.begun T h);
  ended = λ T h. g.ended T (f.ended T h);
  part = λ T h s. g.part T (f.ended T h) s ∙ f.part T h s;
  was_ready = λ W h. g.was_ready W (f.was_ready W h);
  over = λ W h. g.over W (f.over W h);
  aborted = λ T h. g.aborted T (f.aborted T h);
  named = λ T h. g.named T (f.named T h);
  closed = λ T h. g.closed T (f.closed T h);
}

pub run_grows : (atoms : List Atom) (w : World) → MayRun atoms w → Invariant w → Grows w (run atoms w)
run_grows [] w may inv = record {
  opened = λ W h. h;
  owner = λ W h. refl;
  begun = λ T h. h;
  ended = λ T h. h;
  part = λ T h s. refl;
  was_ready = λ W h. h;
  over = λ W h. h;
  aborted = λ T h. h;
  named = λ T h. h;
  closed = λ T h. h;
}
run_grows (a ∷ atoms) w may inv = grows_on w (after a w) (run atoms (after a w)) (grows a w may.0 inv.names) (run_grows atoms (after a w) may.1 (step_kept a w may.0 inv))

module _ (w v : World) (g : Grows w v) where
  part_stays : (T : Tid) (W : WorkId) → IsPartOf w T W → IsPartOf v T W
  part_stays T W h = (g.ended T h.0, g.part T h.0 W.server ∙ h.1)

  work_stays : (T : Tid) (W : WorkId) → IsWorkOf w T W → IsWorkOf v T W
  work_stays T W h = (g.opened W h.0, g.owner W h.0 ∙ h.1)

  begun_stays : (o : Option Tid) → BegunSays w o → BegunSays v o
  begun_stays None h = tt
  begun_stays (Some T) h = g.begun T h

  opened_stays : (T : Tid) (o : Option WorkId) → OpenedSays w T o → OpenedSays v T o
  opened_stays T None h = tt
  opened_stays T (Some W) h = work_stays T W h

  outcome_stays : (T : Tid) (o : Outcome) → OutcomeSays w T o → OutcomeSays v T o
  outcome_stays T outcomes.Committed h = g.named T h
  outcome_stays T (outcomes.Aborted cause) h = g.aborted T h
  outcome_stays T (outcomes.Waiting s u by) h = tt
  outcome_stays T (outcomes.NotKnown s epoch) (inl h) = inl (g.aborted T h)
  outcome_stays T (outcomes.NotKnown s epoch) (inr h) = inr (g.closed T h)

  vote_stays : (W : WorkId) (vote : Vote) → VoteSays w W vote → VoteSays v W vote
  vote_stays W votes.Ready h = g.was_ready W h
  vote_stays W _ h = tt

  drop_stays : (T : Tid) (W : WorkId) → DropSays w T W → DropSays v T W
  drop_stays T W h = (work_stays T W h.0, by h.1)
    where
      by : (w.aborted T ≡ true) ⊎ ((w.over W ≡ true) ⊎ ((w.ended T ≡ true) × (w.part T W.server ≢ Some W))) → (v.aborted T ≡ true) ⊎ ((v.over W ≡ true) ⊎ ((v.ended T ≡ true) × (v.part T W.server ≢ Some W)))
      by (inl k) = inl (g.aborted T k)
      by (inr (inl k)) = inr (inl (g.over W k))
      by (inr (inr k)) = inr (inr (g.ended T k.0, λ e. k.1 (sym (g.part T k.0 W.server) ∙ e)))

  pub says_still : (m : Message) → Says w m → Says v m
  says_still (messages.Begin c request) h = tt
  says_still (messages.Open c request T) h = g.begun T h
  says_still (messages.Op c request W number op) h = g.opened W h
  says_still (messages.End c request T works) h = (
    g.begun T h.0,
    g.ended T h.1,
    record { each = λ W i. g.part T h.1 W.server ∙ h.2.each W i; all = λ s W i. h.2.all s W (sym (g.part T h.1 s) ∙ i) },
  )
  says_still (messages.Abort c request T works) h = (g.begun T h.0, λ W i. work_stays T W (h.1 W i))
  says_still (messages.Thanks c T) h = g.closed T h
  says_still (messages.Begun c request T) h = begun_stays T h
  says_still (messages.Opened c request T W) h = opened_stays T W h
  says_still (messages.Answer c request answer) h = tt
  says_still (messages.Outcome c T outcome) h = outcome_stays T outcome h
  says_still (messages.Prepare T c W) h = part_stays T W h
  says_still (messages.Commit T W) h = (g.named T h.0, part_stays T W h.1)
  says_still (messages.Drop T W) h = drop_stays T W h
  says_still (messages.Vote T W vote) h = (vote_stays W vote h.0, part_stays T W h.1)
  says_still (messages.Done T W) h = g.over W h
  says_still (messages.Inquire T W) h = work_stays T W h

pub still_true : (files : AllFiles) (epochs : ServerNo → ℕ) (atoms more : List Atom) → MayRun atoms (opening_world files epochs) → MayRun more (run atoms (opening_world files epochs)) → (m : Message)
    → Says (run atoms (opening_world files epochs)) m → Says (run more (run atoms (opening_world files epochs))) m
still_true files epochs atoms more may further m h = let w = run atoms (opening_world files epochs) in
    says_still w (run more w) (run_grows more w further (run_kept atoms (opening_world files epochs) may (opening_kept files epochs))) m h
