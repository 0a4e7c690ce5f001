-- What holds of a world holds of one that is the same but for lines of servers that came up, and for servers that haven't come up yet.
use Rattle.jn_between.proofs.Common.{◌≡◌, ◌⊎◌, inl, inr, ◌≤◌, ◌<◌, ℕ, List, ◌++◌, Option, Some, None, is_some, refl, sym, ◌∙◌, ap, subst, slice_get, list_any, ServerNo, Tid, WorkId, tid_eq, AllFiles, Line, Event, StableState, Pick, IsUp, history_of, operations_of, replay_operations, plain, ops-aside, history-aside, operations-aside, World, Memory, commits_in, IsAsIn, ups-name-none, IsConsistent}
use Rattle.jn_base.specs.declared.names.ClientNo.{ClientNo}
use Rattle.jn_msgs.specs.declared.message.Message.{Message}
use Rattle.jn_rows.specs.Outcomes.{Sent}
use Rattle.jn_rows.specs.Client.{ClientTable, work_at}
use Rattle.jn_rows.specs.declared.worker.ActiveWork.{ActiveWork}
use Rattle.jn_order.specs.Answers.{FilesAnswer}
use Rattle.jn_replay.specs.declared.files.Performed.{Performed}
use Rattle.jn_system_reports.specs.Telling.Told.{at_place}
use Rattle.jn_system_reports.specs.BetweenSteps.Sent.{WasSent, HasCommitLine}
use Rattle.jn_system_reports.specs.BetweenSteps.Names.{WasMade, AreMadeOnce}
use Rattle.jn_system_reports.specs.BetweenSteps.Doubt.{IsInDoubt, IsDownInDoubt}
use Rattle.jn_system_reports.specs.BetweenSteps.Parts.{WasEnded, IsPart, IsNoPart}
use Rattle.jn_system_reports.specs.BetweenSteps.Works.{AreCarriedOut, IsFlagged, IsPrepared, IsCarriedOut, DoWorksStay, IsActive}
use Rattle.jn_system_reports.specs.BetweenSteps.Commits.{AreToldAfter}
use Rattle.jn_system_reports.specs.BetweenSteps.Drops.{IsOver, IsPast, AreOfThePast}
use Rattle.jn_system_reports.specs.BetweenSteps.Answers.{DoAnswersStand}
use Rattle.jn_system_reports.specs.BetweenSteps.Lines.{WasAsked, StandAt, DoLinesStand}
use Rattle.jn_system_order.proofs.Mirroring.Mirrored.{commits-more}

module _ (w v : World) (k : IsAsIn w v) where
  pub commits : commits_in v.lines ≡ commits_in w.lines
  commits = ap commits_in k.lines ∙ commits-more k.ups w.lines ∙ ap (λ (Ts : List Tid). Ts ++ commits_in w.lines) (ups-name-none k.ups k.are_up)

  pub named-in : (T : Tid) → HasCommitLine v T → HasCommitLine w T
  named-in T n = ap (λ (Ts : List Tid). list_any (λ (U : Tid). tid_eq U T) Ts) (sym commits) ∙ n

  pub named-out : (T : Tid) → HasCommitLine w T → HasCommitLine v T
  named-out T n = ap (λ (Ts : List Tid). list_any (λ (U : Tid). tid_eq U T) Ts) commits ∙ n

  sent-in : (message : Message) → WasSent v message → WasSent w message
  sent-in message s = record { to = s.to; number = s.number; is = ap (λ (l : List Sent). slice_get l s.number) (sym k.sent) ∙ s.is }

  sent-out : (message : Message) → WasSent w message → WasSent v message
  sent-out message s = record { to = s.to; number = s.number; is = ap (λ (l : List Sent). slice_get l s.number) k.sent ∙ s.is }

  ended-in : (T : Tid) → WasEnded v T → WasEnded w T
  ended-in T e = record { client = e.client; request = e.request; works = e.works; sent = sent-in _ e.sent }

  ended-out : (T : Tid) → WasEnded w T → WasEnded v T
  ended-out T e = record { client = e.client; request = e.request; works = e.works; sent = sent-out _ e.sent }

  active-in : (W : WorkId) (a : ActiveWork) → IsActive v W a → IsActive w W a
  active-in W a s = record { memory = s.memory; up = k.memory W.server s.memory s.up; work = s.work; is = s.is; active = s.active }

  -- ---- names

  made : (s : ServerNo) (e t : ℕ) → WasMade w s e t → WasMade v s e t
  made s e t h = record {
    epoch = λ c. subst (λ (f : ServerNo → Pick → StableState). e ≤ (f s c).epoch) (sym k.found) (h.epoch c);
    ticket = λ m up. h.ticket m (k.memory s m up);
  }

  same-client : (c : ClientNo) → v.clients c ≡ w.clients c
  same-client c = ap (λ (f : ClientNo → ClientTable). f c) k.clients

  names-seen : AreMadeOnce w → AreMadeOnce v
  names-seen h = record {
    transactions = λ c d m n T a b. h.transactions c d m n T (sent-in _ a) (sent-in _ b);
    works = λ c d m n T U W a b. h.works c d m n T U W (sent-in _ a) (sent-in _ b);
    clients = λ c d T e f. h.clients c d T (ap (λ (t : ClientTable). t.transaction) (sym (same-client c)) ∙ e) (ap (λ (t : ClientTable). t.transaction) (sym (same-client d)) ∙ f);
    openers = λ c d T U s q a b e f l n same. h.openers c d T U s q a b
        (ap (λ (t : ClientTable). t.transaction) (sym (same-client c)) ∙ e) (ap (λ (t : ClientTable). t.transaction) (sym (same-client d)) ∙ f)
        (subst (λ (t : ClientTable). work_at s t.works ≡ Some a) (same-client c) l) (subst (λ (t : ClientTable). work_at q t.works ≡ Some b) (same-client d) n) same;
    before = λ c n T s. made T.server T.epoch T.ticket (h.before c n T (sent-in _ s));
    works_before = λ c n T W s. made W.server W.epoch W.ticket (h.works_before c n T W (sent-in _ s));
  }

  -- ---- doubt

  doubt-seen : IsDownInDoubt w → IsDownInDoubt v
  doubt-seen h T d = by (v.memory T.server) refl
    where
      in-doubt : IsInDoubt w T
      in-doubt = record {
        flag = record { pick = d.flag.pick; is = ap (λ (f : ServerNo → Pick → StableState). is_some ((f T.server d.flag.pick).flags T)) (sym k.found) ∙ d.flag.is };
        unnamed = λ n. d.unnamed (named-out T n);
      }

      clash : (m : Memory) → None ≡ Some m → ⊥
      clash m z = cc

      by : (o : Option Memory) → v.memory T.server ≡ o → o ≡ None
      by None e = refl
      by (Some m) e = absurd (clash m (sym (h T in-doubt) ∙ k.memory T.server m e))

  -- ---- works

  prepared-seen : (W : WorkId) → IsPrepared w W → IsPrepared v W
  prepared-seen W p c = ap (λ (f : ServerNo → Pick → StableState). is_some ((f W.server c).works W)) k.found ∙ p c

  carried-seen : (W : WorkId) → IsCarriedOut w W → IsCarriedOut v W
  carried-seen W h c p e = subst (λ (f : ServerNo → Pick → StableState). AreCarriedOut p.list (f W.server c).files) (sym k.found)
      (h c p (ap (λ (f : ServerNo → Pick → StableState). (f W.server c).works W) (sym k.found) ∙ e))

  works-seen : DoWorksStay w → DoWorksStay v
  unfolding ended-in
  works-seen h = record {
    ended = λ T n. ended-out T (h.ended T (named-in T n));
    same = λ T e f W. h.same T (ended-in T e) (ended-in T f) W;
    stay = λ T W s. out T W (h.stay T W (into T W s));
  }
    where
      into : (T : Tid) (W : WorkId) → IsFlagged v T W ⊎ (HasCommitLine v T × IsPart v T W) → IsFlagged w T W ⊎ (HasCommitLine w T × IsPart w T W)
      into T W (inl f) = inl (record { pick = f.pick; flag = f.flag; is = ap (λ (g : ServerNo → Pick → StableState). (g T.server f.pick).flags T) (sym k.found) ∙ f.is; work = f.work })
      into T W (inr p) = inr (named-in T p.0, (ended-in T p.1.0, p.1.1))

      out : (T : Tid) (W : WorkId) → IsPrepared w W ⊎ (HasCommitLine w T × IsCarriedOut w W) → IsPrepared v W ⊎ (HasCommitLine v T × IsCarriedOut v W)
      out T W (inl p) = inl (prepared-seen W p)
      out T W (inr p) = inr (named-out T p.0, carried-seen W p.1)

  -- ---- commits and drops

  told-seen : AreToldAfter w → AreToldAfter v
  told-seen h = record { works = λ T W s. named-out T (h.works T W (sent-in _ s)); clients = λ c T s. named-out T (h.clients c T (sent-in _ s)) }

  past-seen : (c : ClientNo) (T : Tid) → IsPast w c T → IsPast v c T
  past-seen c T p = record {
    request = p.request;
    began = sent-out _ p.began;
    drawn = subst (λ (t : ClientTable). p.request.0 < t.next) (sym (same-client c)) p.drawn;
    answered = λ o e. p.answered o (ap (λ (t : ClientTable). t.outstanding) (sym (same-client c)) ∙ e);
    over = λ e. p.over (ap (λ (t : ClientTable). t.transaction) (sym (same-client c)) ∙ e);
  }

  drops-seen : AreOfThePast w → AreOfThePast v
  unfolding ended-out
  drops-seen h = record {
    drops = λ T W n s. out T W (h.drops T W (named-in T n) (sent-in _ s));
    unknown = λ c T s epoch n m. past-seen c T (h.unknown c T s epoch (named-in T n) (sent-in _ m));
  }
    where
      out : (T : Tid) (W : WorkId) → IsOver w W ⊎ IsNoPart w T W → IsOver v W ⊎ IsNoPart v T W
      out T W (inl o) = inl (record { found = λ c. ap (λ (f : ServerNo → Pick → StableState). (f W.server c).works W) k.found ∙ o.found c; table = λ m up. o.table m (k.memory W.server m up) })
      out T W (inr p) = inr (ended-out T p.0, p.1)

  -- ---- answers

  answers-seen : (files : AllFiles) → DoAnswersStand files w → DoAnswersStand files v
  answers-seen files h = record {
    history = h.history;
    told = h.told ∙ sym commits;
    serial = h.serial;
    did = h.did;
    active = λ W a s. h.active W a (active-in W a s);
    ready = λ W c p e no. h.ready W c p (ap (λ (f : ServerNo → Pick → StableState). (f W.server c).works W) (sym k.found) ∙ e) (λ n. no (named-out p.tid n));
  }

  pub seen : (files : AllFiles) → IsConsistent files w → IsConsistent files v
  seen files h = record {
    names = names-seen h.names;
    doubt = doubt-seen h.doubt;
    works = works-seen h.works;
    commits = told-seen h.commits;
    drops = drops-seen h.drops;
    answers = answers-seen files h.answers;
    up = λ q m e. subst (λ (f : ServerNo → Pick → StableState). IsUp (f q)) (sym k.found) (h.up q m (k.memory q m e));
  }

  -- ---- what the lines report

  -- where the lines are the same but for those aside
  pub lines-seen : (files : AllFiles) (events : List Event) (a b : List Line) → plain a ≡ plain b → DoLinesStand files events a w → DoLinesStand files events b v
  unfolding active-in
  lines-seen files events a b same h = record {
    active = λ W x s asked. stands s.work.tid W.server (h.active W x (active-in W x s) (asked-in W asked));
    ready = λ W c p e no asked. stands p.tid W.server (h.ready W c p (ap (λ (f : ServerNo → Pick → StableState). (f W.server c).works W) (sym k.found) ∙ e) (λ n. no (named-out p.tid n)) (asked-in W asked));
  }
    where
      asked-in : (W : WorkId) → WasAsked v W → WasAsked w W
      asked-in W q = record { client = q.client; request = q.request; number = q.number; op = q.op; sent = sent-in _ q.sent }

      stands : (T : Tid) (s : ServerNo) → StandAt files events a T s → StandAt files events b T s
      stands T s h = subst (λ (f : AllFiles). FilesAnswer (f s) (at_place s (operations_of events b T))) (ap (λ (Ts : List Tid). replay_operations files events a Ts) (history-aside events a b same) ∙ operations-aside events a b same files (history_of b))
          (subst (λ (ps : List Performed). FilesAnswer (replay_operations files events a (history_of a) s) (at_place s ps)) (ops-aside events a b same T) h)
