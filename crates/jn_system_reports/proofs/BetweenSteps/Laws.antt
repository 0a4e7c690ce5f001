-- The laws that are the machine's, in the words of the whole system.
use Rattle.jn_system_reports.proofs.Common.{◌≡◌, ◌⊎◌, inl, inr, ◌≤◌, ◌<◌, ℕ, Bool, true, false, List, [], Option, Some, None, is_some, refl, sym, ◌∙◌, ap, subst, ServerNo, ClientNo, LockUnit, Tid, WorkId, AllFiles, Intention, Message, ActiveWork, StableState, Pick, OpenWork, is_work, Sent, Machine, Working, HasRead, Invariant, run_atoms, opening_world, IsGiven, Says, not_both, some_is, false_unless, clash, run_told, opening_told, IsTold, opening_kept, World, Memory, has_line, ServerFact, UpFact, found-open, IsTrue, IsCurrent, active_in, working_in, working_of, holds-of, Opening, opening_in, openings, Has, all-have-theirs, WasSent, HasCommitLine, WasEnded, IsFlagged, IsPrepared, IsCarriedOut, DoWorksStay, IsActive, AreAsPrepared, AreReadsKept, RequestNo, FilesAnswer, replay}
use Rattle.jn_msgs.specs.declared.message.Message.TheVariants as messages
use Rattle.jn_msgs.specs.declared.message.Outcome.TheVariants as outcomes
use Rattle.jn_rows.specs.Client.{work_at}
use Rattle.jn_system.proofs.SmallSteps.Invariant as states
use Rattle.jn_system_order.proofs.Ordering.Facts.{opening}
use Rattle.jn_system_reports.specs.BetweenSteps.Names.{WasMade, AreMadeOnce}
use Rattle.jn_system_reports.specs.BetweenSteps.Doubt.{IsDownInDoubt}
use Rattle.jn_system_reports.specs.BetweenSteps.Commits.{AreToldAfter}
use Rattle.jn_system_reports.specs.BetweenSteps.Parts.{IsPart}
use Rattle.jn_system_reports.specs.BetweenSteps.Answers.{DoAnswersStand}
use Rattle.jn_system_reports.proofs.BetweenSteps.Standing.{Standing, Later, named-is, invariant}
use Rattle.jn_system_reports.proofs.BetweenSteps.Staying.{IsThere, IsDone, Stays, StayFact, run-stays, HasReadAll, StoredAs, IsSo, SoFact, so-still, run-so, reads-still}

module _ (files : AllFiles) (epochs : ServerNo → ℕ) (r : World) (h : Standing files epochs r) where
  abbrev pub w : Machine
  w = run_atoms h.atoms (opening_world files epochs)

  pub inv : Invariant (run_atoms h.atoms (opening_world files epochs))
  inv = invariant files epochs r h

  pub named : (T : Tid) → (run_atoms h.atoms (opening_world files epochs)).named T ≡ has_line T r.lines
  named T = named-is files epochs r h T

  pub said : (message : Message) → WasSent r message → Says (run_atoms h.atoms (opening_world files epochs)) message
  said message s = holds-of (IsTrue (run_atoms h.atoms (opening_world files epochs))) r.sent s.number (s.to, message) h.mirrors.says s.is

  pub up-is : (s : ServerNo) (m : Memory) → r.memory s ≡ Some m → (run_atoms h.atoms (opening_world files epochs)).up s ≡ true
  up-is s m is = h.mirrors.up s ∙ ap is_some is

  pub up-fact : (s : ServerNo) (m : Memory) → r.memory s ≡ Some m → UpFact s m (r.found s)
  up-fact s m is = subst (λ o. ServerFact s o (r.found s)) is (h.locks s)

  -- ---- names

  has : (c : ClientNo) (n : RequestNo) (T : Tid) → WasSent r (messages.Begun c n (Some T)) → Has (opening c n T) (openings r.sent)
  has c n T s = holds-of (λ (x : Sent). (a : Opening) → Has a (opening_in x) → Has a (openings r.sent)) r.sent s.number (s.to, messages.Begun c n (Some T)) (all-have-theirs r.sent) s.is (opening c n T) (inl refl)

  made : (s : ServerNo) (epoch ticket : ℕ) → ((c : Pick) → IsGiven (w.up s) (w.ticket s) (w.found s c).epoch epoch ticket) → WasMade r s epoch ticket
  made s epoch ticket given = record {
    epoch = λ c. subst (λ (x : StableState). epoch ≤ x.epoch) (h.mirrors.found s c) (given c).0;
    ticket = λ m is e. subst (λ (n : ℕ). ticket < n) (h.mirrors.ticket s m is) ((given (λ n. false)).1 (up-is s m is)
        (e ∙ (up-fact s m is).epoch ∙ ap (λ (x : StableState). x.epoch) (sym (h.mirrors.found s (λ n. false)))));
  }

  one-client : (c d : ClientNo) (T : Tid) → (r.clients c).transaction ≡ Some T → (r.clients d).transaction ≡ Some T → c ≡ d
  one-client c d T e f = let a = (h.facts.clients c).current T e in let b = (h.facts.clients d).current T f in ap (λ (o : Opening). o.client) (h.facts.unique (opening c a.request T) (opening d b.request T) a.has b.has refl)

  its-work : (c : ClientNo) (T : Tid) (s : ServerNo) (v : OpenWork) → (r.clients c).transaction ≡ Some T → work_at s (r.clients c).works ≡ Some v → w.owner v.work ≡ T
  its-work c T s v e k = (found-open w T s (r.clients c).works v ((subst (λ o. IsCurrent w o (r.clients c).works) e (h.mirrors.clients c).current).1) k).0.1

  pub made-once : AreMadeOnce r
  made-once = record {
    transactions = λ c d m n T a b. let e = h.facts.unique (opening c m T) (opening d n T) (has c m T a) (has d n T b) refl in (ap (λ (o : Opening). o.client) e, ap (λ (o : Opening). o.request) e);
    works = λ c d m n T U W a b. sym (said (messages.Opened c m T (Some W)) a).1 ∙ (said (messages.Opened d n U (Some W)) b).1;
    clients = one-client;
    openers = λ c d T U s q v x e f k l same. one-client c d T e (f ∙ ap (λ (Z : Tid). Some Z) (sym (its-work d U q x f l) ∙ ap w.owner (sym same) ∙ its-work c T s v e k));
    before = λ c n T s. made T.server T.epoch T.ticket (λ k. inv.names.tids T k (said (messages.Begun c n (Some T)) s));
    works_before = λ c n T W s. made W.server W.epoch W.ticket (λ k. inv.names.works W k (said (messages.Opened c n T (Some W)) s).0);
  }

  -- ---- doubt

  pub doubt : IsDownInDoubt r
  doubt T d = by (r.memory T.server) refl
    where
      by : (o : Option Memory) → r.memory T.server ≡ o → o ≡ None
      by None e = refl
      by (Some m) e = absurd (d.unnamed (sym (named T) ∙ inv.flags T.server d.flag.pick T (up-is T.server m e) (ap (λ (x : StableState). is_some (x.flags T)) (h.mirrors.found T.server d.flag.pick) ∙ d.flag.is)))

  -- ---- commits

  pub told-after : AreToldAfter r
  told-after = record {
    works = λ T W s. sym (named T) ∙ (said (messages.Commit T W) s).0;
    clients = λ c T s. sym (named T) ∙ said (messages.Outcome c T outcomes.Committed) s;
  }

  -- ---- answers

  its-told : IsTold files (run_atoms h.atoms (opening_world files epochs))
  its-told = (run_told files h.atoms (opening_world files epochs) h.may (opening_kept files epochs) (opening_told files epochs)).1

  pub active-is : (W : WorkId) (a : ActiveWork) → IsActive r W a → (run_atoms h.atoms (opening_world files epochs)).active W ≡ Some (record { list = a.list; reads = a.reads })
  active-is W a k = h.mirrors.active W ∙ ap (λ o. active_in o W) k.up ∙ ap working_of k.is ∙ ap working_in k.active

  not-named : (T : Tid) → (HasCommitLine r T → ⊥) → (run_atoms h.atoms (opening_world files epochs)).named T ≡ false
  not-named T none = false_unless (w.named T) (λ e. none (sym (named T) ∙ e))

  pub answers-stand : DoAnswersStand files r
  answers-stand = record {
    history = w.history;
    told = h.mirrors.commits;
    serial = subst (λ (f : AllFiles). Rattle.jn_system.specs.SmallSteps.World.IsSerial f w.history) its-told.opening inv.core.serial;
    did = w.trace;
    active = λ W a k. let f = inv.core.active W (record { list = a.list; reads = a.reads }) (active-is W a k) in
        record { agrees = subst (λ (x : AllFiles). FilesAnswer (replay x w.history W.server) (w.trace W)) its-told.opening f.agrees; effects = f.list; reads = f.reads };
    ready = λ W c p e no. let f = (inv.core.states W.server c).prepared W p (ap (λ (x : StableState). x.works W) (h.mirrors.found W.server c) ∙ e) in
        record { agrees = subst (λ (x : AllFiles). FilesAnswer (replay x w.history W.server) (w.trace W)) its-told.opening (f.agrees (not-named (w.owner W) (λ y. no (ap (λ (T : Tid). has_line T r.lines) f.tid ∙ y)))); effects = f.list; reads = f.reads };
  }

  -- ---- works

  opening-so : SoFact (opening_world files epochs)
  opening-so W = ([], [], λ c. tt)

  opening-stays : StayFact (opening_world files epochs)
  opening-stays W r n = absurd (not_both true refl (sym r))

  -- where it was ready, and its transaction isn't aborted
  stays : (W : WorkId) → w.was_ready W ≡ true → w.aborted (w.owner W) ≡ false → IsPrepared r W ⊎ IsCarriedOut r W
  stays W ready clear = by (run-stays h.atoms (opening_world files epochs) h.may (opening_kept files epochs) opening-stays W ready clear)
    where
      by : Stays (run_atoms h.atoms (opening_world files epochs)) W → IsPrepared r W ⊎ IsCarriedOut r W
      by (inl k) = inl (λ c. subst (λ (x : StableState). IsThere W x) (h.mirrors.found W.server c) (k c))
      by (inr k) = inr (λ c. subst (λ (x : StableState). IsDone W x) (h.mirrors.found W.server c) (k c))

  pub not-aborted : (T : Tid) → w.named T ≡ true → w.aborted T ≡ false
  not-aborted T n = false_unless (w.aborted T) (λ a. not_both (w.named T) n (inv.core.aborted T a).not_named)

  named-stays : (T : Tid) (W : WorkId) → w.named T ≡ true → w.part T W.server ≡ Some W → IsPrepared r W ⊎ (HasCommitLine r T × IsCarriedOut r W)
  named-stays T W n part = by (stays W ((inv.core.named T n).ready W.server W part) (subst (λ (U : Tid). w.aborted U ≡ false) (sym (inv.core.parts T W.server W part).owner) (not-aborted T n)))
    where
      by : IsPrepared r W ⊎ IsCarriedOut r W → IsPrepared r W ⊎ (HasCommitLine r T × IsCarriedOut r W)
      by (inl k) = inl k
      by (inr k) = inr (sym (named T) ∙ n, k)

  flagged-stays : (T : Tid) (W : WorkId) → IsFlagged r T W → (b : Bool) → w.named T ≡ b → IsPrepared r W ⊎ (HasCommitLine r T × IsCarriedOut r W)
  flagged-stays T W k b e = by b e
    where
      flag-is : (w.found T.server k.pick).flags T ≡ Some k.flag
      flag-is = ap (λ (x : StableState). x.flags T) (h.mirrors.found T.server k.pick) ∙ k.is

      flag : states.HasFlag w T.server T k.flag
      flag = (inv.core.states T.server k.pick).flag T k.flag flag-is

      part : w.part T W.server ≡ Some W
      part = flag.works.each W k.work

      owner : w.owner W ≡ T
      owner = (inv.core.parts T W.server W part).owner

      clear : w.aborted T ≡ false
      clear = false_unless (w.aborted T) (λ a. clash ((w.found T.server k.pick).flags T) k.flag flag-is ((inv.core.states T.server k.pick).aborted T refl a))

      by : (b : Bool) → w.named T ≡ b → IsPrepared r W ⊎ (HasCommitLine r T × IsCarriedOut r W)
      by true n = named-stays T W n part
      by false n = inl (λ c. ap (λ (x : StableState). is_some (x.works W)) (sym (h.mirrors.found W.server c)) ∙ (inv.core.states W.server c).ready W refl (flag.ready W.server W part)
          (subst (λ (U : Tid). w.aborted U ≡ false) (sym owner) clear) (subst (λ (U : Tid). w.named U ≡ false) (sym owner) n))

  pub its-part : (T : Tid) (W : WorkId) → IsPart r T W → w.part T W.server ≡ Some W
  its-part T W p = (said (messages.End p.0.client p.0.request T p.0.works) p.0.sent).2.each W p.1

  -- a named transaction was ended
  pub was-ended : (T : Tid) → HasCommitLine r T → WasEnded r T
  was-ended T n = h.ended T (inv.core.named T (named T ∙ n)).ended

  of-both : (T : Tid) (e f : WasEnded r T) (W : WorkId) → is_work W e.works ≡ true → is_work W f.works ≡ true
  of-both T e f W k = (said (messages.End f.client f.request T f.works) f.sent).2.all W.server W (its-part T W (e, k))

  same-works : (T : Tid) (e f : WasEnded r T) (W : WorkId) (a b : Bool) → is_work W e.works ≡ a → is_work W f.works ≡ b → a ≡ b
  same-works T e f W true b k l = sym (of-both T e f W k) ∙ l
  same-works T e f W false true k l = sym k ∙ of-both T f e W l
  same-works T e f W false false k l = refl

  pub works-stay : DoWorksStay r
  works-stay = record { ended = was-ended; same = λ T e f W. same-works T e f W (is_work W e.works) (is_work W f.works) refl refl; stay = λ T W k. by T W k }
    where
      by : (T : Tid) (W : WorkId) → IsFlagged r T W ⊎ (HasCommitLine r T × IsPart r T W) → IsPrepared r W ⊎ (HasCommitLine r T × IsCarriedOut r W)
      by T W (inl k) = flagged-stays T W k (w.named T) refl
      by T W (inr k) = named-stays T W (named T ∙ k.0) (its-part T W k.1)

-- what a pick finds of a work, each pick finds later too
pub as-prepared : (files : AllFiles) (epochs : ServerNo → ℕ) (r q : World) (h : Standing files epochs r) → Later files epochs r h q → AreAsPrepared r q
as-prepared files epochs r q h later W c d p y e f = by (run-so h.atoms (opening_world files epochs) h.may (opening_kept files epochs) (opening-so files epochs r h) W)
  where
    v : Machine
    v = run_atoms h.atoms (opening_world files epochs)

    its : (v.found W.server c).works W ≡ Some p
    its = ap (λ (x : StableState). x.works W) (h.mirrors.found W.server c) ∙ e

    fact : states.IsPrepared v W.server (v.found W.server c) W p
    fact = ((invariant files epochs r h).core.states W.server c).prepared W p its

    by : (l : List Intention) × (u : List LockUnit) × IsSo v W l u → (y.list ≡ p.list) × (y.reads ≡ p.reads)
    by so =
        let now = subst (λ o. StoredAs so.0 so.1 o) its (so.2 c) in
        let then-so = subst (λ (z : Machine). IsSo z W so.0 so.1) (sym later.same) (so-still later.more v W so.0 so.1 later.further (invariant files epochs r h) (record { opened = fact.opened; none = fact.not_active }) so.2) in
        let after = subst (λ o. StoredAs so.0 so.1 o) (ap (λ (x : StableState). x.works W) (later.stands.mirrors.found W.server d) ∙ f) (then-so d) in
        (after.0 ∙ sym now.0, after.1 ∙ sym now.1)

-- what an active work has read it has read later
pub reads-kept : (files : AllFiles) (epochs : ServerNo → ℕ) (r q : World) (h : Standing files epochs r) → Later files epochs r h q → AreReadsKept r q
reads-kept files epochs r q h later W a u k read = (
  λ b l. now.0 (record { list = b.list; reads = b.reads }) (active-is files epochs q later.stands W b l),
  λ c p e. now.1 c p (ap (λ (x : StableState). x.works W) (later.stands.mirrors.found W.server c) ∙ e),
)
  where
    v : Machine
    v = run_atoms h.atoms (opening_world files epochs)

    active : v.active W ≡ Some (record { list = a.list; reads = a.reads })
    active = active-is files epochs r h W a k

    now : HasReadAll (run_atoms later.stands.atoms (opening_world files epochs)) W u
    now = subst (λ (z : Machine). HasReadAll z W u) (sym later.same) (reads-still later.more v W u later.further (invariant files epochs r h) ((invariant files epochs r h).core.active W (record { list = a.list; reads = a.reads }) active).opened (
      λ b e. subst (λ (z : Working). HasRead z.reads u) (some_is (record { list = a.list; reads = a.reads }) b (sym active ∙ e)) read,
      λ c p e. absurd (clash (v.active W) (record { list = a.list; reads = a.reads }) active (((invariant files epochs r h).core.states W.server c).prepared W p e).not_active),
    ))
