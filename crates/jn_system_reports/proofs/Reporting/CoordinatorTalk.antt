-- A coordinator answers no operation, and asks for none.
use Rattle.jn_system_reports.proofs.Common.{ℕ, Bool, true, false, List, [], ◌∷◌, if◌then◌else◌, ClientNo, Tid, WorkId, Tickets, Message, Transaction, Stage, RowOutcome, Sent, CoordinatorTable, besides, drops, commits, prepares, coordinator_row, told_again, coordinator_again, committed_to, Saying, says_nothing, says_unknown, prepares_again, CoordinatorCase, is_left_by, begins_anew, finds_no_room, starts_voting, is_committed_by, is_aborted_by, coordinator-case}
use Rattle.jn_rows.specs.declared.coordinator.Stage.TheVariants.{Open, Voting, Committed, Aborted}
use Rattle.jn_system_reports.proofs.Reporting.Lists.{Each, each-append}
use Rattle.jn_system_reports.proofs.Reporting.Asking.{IsReply}

module _ (sent : List Sent) where
  abbrev pub Silent : RowOutcome CoordinatorTable → Type 0
  Silent row = Each (IsReply sent) row.messages

  drops-silent : (T : Tid) (Ws : List WorkId) → Each (IsReply sent) (drops T Ws)
  drops-silent T [] = tt
  drops-silent T (W ∷ Ws) = (tt, drops-silent T Ws)

  commits-silent : (T : Tid) (Ws : List WorkId) → Each (IsReply sent) (commits T Ws)
  commits-silent T [] = tt
  commits-silent T (W ∷ Ws) = (tt, commits-silent T Ws)

  prepares-silent : (T : Tid) (c : ClientNo) (Ws : List WorkId) → Each (IsReply sent) (prepares T c Ws)
  prepares-silent T c [] = tt
  prepares-silent T c (W ∷ Ws) = (tt, prepares-silent T c Ws)

  module _ (t : CoordinatorTable) (k : Tickets) where
    says-silent : (m : Message) (said : List Sent) → Saying t k m said → Each (IsReply sent) said
    says-silent _ _ (says_nothing m W x asks found) = tt
    says-silent _ _ (says_unknown m c T works ends none) = (tt, drops-silent T works)
    says-silent _ _ (prepares_again c q works x b found e) = prepares-silent x.tid x.client (besides b.works b.ready)
    says-silent _ _ _ = (tt, tt)

    case-silent : (free : ℕ) (m : Message) (row : RowOutcome CoordinatorTable) → CoordinatorCase t free k m row → Silent row
    case-silent free _ _ (is_left_by m said says) = says-silent m said says
    case-silent free _ _ (begins_anew c q later room) = (tt, tt)
    case-silent free _ _ (finds_no_room c q later full) = (tt, tt)
    case-silent free _ _ (starts_voting c q W Ws x found e room) = prepares-silent x.tid x.client (W ∷ Ws)
    case-silent free _ _ (is_committed_by m x q works found why) = each-append (IsReply sent) (commits x.tid works) _ (commits-silent x.tid works) (tt, tt)
    case-silent free _ _ (is_aborted_by m x cause works found why) = each-append (IsReply sent) (drops x.tid works) _ (drops-silent x.tid works) (tt, tt)
    case-silent free _ _ _ = tt

    pub coordinator-silent : (free : ℕ) (message : Message) → Silent (coordinator_row t free k message)
    coordinator-silent free message = case-silent free message _ (coordinator-case t free k message)

  told-again-silent : (x : Transaction) (stage : Stage) → Each (IsReply sent) (told_again x stage)
  told-again-silent x Open = tt
  told-again-silent x (Voting b) = tt
  told-again-silent x (Aborted cause) = (tt, tt)
  told-again-silent x (Committed d) = each-append (IsReply sent) (commits x.tid (besides d.works d.done)) _ (commits-silent x.tid (besides d.works d.done)) (by d.thanked)
    where
      by : (b : Bool) → Each (IsReply sent) (if b then [] else committed_to x ∷ [])
      by true = tt
      by false = (tt, tt)

  pub again-silent-all : (xs : List Transaction) → Each (IsReply sent) (coordinator_again xs)
  again-silent-all [] = tt
  again-silent-all (x ∷ xs) = each-append (IsReply sent) (told_again x x.stage) _ (told-again-silent x x.stage) (again-silent-all xs)
