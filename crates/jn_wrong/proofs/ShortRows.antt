-- Whatever holds where a server is short of room holds of all that a coordinator's rows say of it.
use Rattle.jn_wrong.proofs.Common.{◌≡◌, ℕ, zero, suc, Bool, true, false, List, [], ◌∷◌, ◌++◌, Option, Some, None, subst, if◌then◌else◌, nat_lt, slice_get, ServerNo, ClientNo, Tid, WorkId, Tickets, Resource, tid_eq, Message, Outcome, StableState, FlagState, Change, RowOutcome, Sent, CoordinatorTable, transaction_at, with_stage, without, besides, drops, commits, prepares, committed_to, aborted_to, after_closing, coordinator_row, told_again, coordinator_again, all_thanked, restored_transaction, restored_transactions, OfCause, Cause, Vote, Transaction}
use Rattle.jn_base.specs.declared.names.Resource.TheVariants as resources
use Rattle.jn_msgs.specs.declared.message.Message.TheVariants as messages
use Rattle.jn_msgs.specs.declared.message.Outcome.TheVariants as outcomes
use Rattle.jn_msgs.specs.declared.message.Vote.TheVariants as votes
use Rattle.jn_rows.specs.declared.coordinator.Stage.{Stage}
use Rattle.jn_rows.specs.declared.coordinator.Stage.TheVariants.{Open, Voting, Committed, Aborted}
use Rattle.jn_system.proofs.WholeSystem.Closes.{Closes, Empty, Stays, Goes, Waits, Forgets, client-closes, outcomes-close}
use Rattle.jn_system.proofs.WholeSystem.CoordinatorCases.{Saying, says_nothing, says_unknown, prepares_again, says_aborted, Aborting, finds_no_record, work_has_no_room, CoordinatorCase, is_ignored_by, is_left_by, begins_anew, finds_no_room, starts_voting, counts_vote, is_committed_by, is_aborted_by, notes_commit, forgets_commit, forgets_abort, coordinator-case}

module _ (P : ServerNo → Resource → ℕ → ℕ → Type 0) where
  -- ---- messages

  abbrev pub OfVote : WorkId → Vote → Type 0
  OfVote W (votes.Full n f d) = P W.server n f d
  OfVote W vote = Unit {0}

  abbrev pub OfOutcome : Outcome → Type 0
  OfOutcome (outcomes.Aborted cause) = OfCause P cause
  OfOutcome outcome = Unit {0}

  abbrev pub OfMessage : Message → Type 0
  OfMessage (messages.Vote T W vote) = OfVote W vote
  OfMessage (messages.Outcome c T outcome) = OfOutcome outcome
  OfMessage message = Unit {0}

  abbrev pub OfAll : List Sent → Type 0
  OfAll [] = Unit {0}
  OfAll (sent ∷ more) = OfMessage sent.1 × OfAll more

  pub both-say : (xs ys : List Sent) → OfAll xs → OfAll ys → OfAll (xs ++ ys)
  both-say [] ys h k = k
  both-say (x ∷ xs) ys h k = (h.0, both-say xs ys h.1 k)

  pub said : (xs : List Sent) (k : ℕ) (y : Sent) → OfAll xs → slice_get xs k ≡ Some y → OfMessage y.1
  said [] k y h e = absurd (no' e)
    where
      no' : None ≡ Some y → ⊥
      no' z = cc
  said (x ∷ xs) zero y h e = subst (λ (s : Sent). OfMessage s.1) (some e) h.0
    where
      some : Some x ≡ Some y → x ≡ y
      some z = cc
  said (x ∷ xs) (suc k) y h e = said xs k y h.1 e

  drops-say : (T : Tid) (Ws : List WorkId) → OfAll (drops T Ws)
  drops-say T [] = tt
  drops-say T (W ∷ Ws) = (tt, drops-say T Ws)

  commits-say : (T : Tid) (Ws : List WorkId) → OfAll (commits T Ws)
  commits-say T [] = tt
  commits-say T (W ∷ Ws) = (tt, commits-say T Ws)

  prepares-say : (T : Tid) (c : ClientNo) (Ws : List WorkId) → OfAll (prepares T c Ws)
  prepares-say T c [] = tt
  prepares-say T c (W ∷ Ws) = (tt, prepares-say T c Ws)

  -- ---- a coordinator's transactions

  abbrev pub OfStage : Stage → Type 0
  OfStage (Aborted cause) = OfCause P cause
  OfStage stage = Unit {0}

  abbrev pub OfTable : List Transaction → Type 0
  OfTable [] = Unit {0}
  OfTable (y ∷ ys) = OfStage y.stage × OfTable ys

  abbrev OfFound : Option Transaction → Type 0
  OfFound None = Unit {0}
  OfFound (Some y) = OfStage y.stage

  found-at : (T : Tid) (ys : List Transaction) → OfTable ys → OfFound (transaction_at T ys)
  found-at T [] h = tt
  found-at T (y ∷ ys) h = by (tid_eq y.tid T) (found-at T ys h.1)
    where
      by : (b : Bool) → OfFound (transaction_at T ys) → OfFound (if b then Some y else transaction_at T ys)
      by true again = h.0
      by false again = again

  both-stand : (xs ys : List Transaction) → OfTable xs → OfTable ys → OfTable (xs ++ ys)
  both-stand [] ys h k = k
  both-stand (x ∷ xs) ys h k = (h.0, both-stand xs ys h.1 k)

  staged-so : (T : Tid) (stage : Stage) → OfStage stage → (ys : List Transaction) → OfTable ys → OfTable (with_stage T stage ys)
  staged-so T stage s [] h = tt
  staged-so T stage s (y ∷ ys) h = by (tid_eq y.tid T) (staged-so T stage s ys h.1)
    where
      by : (b : Bool) → OfTable (with_stage T stage ys) → OfTable (if b then record y { stage = stage } ∷ ys else y ∷ with_stage T stage ys)
      by true again = (s, h.1)
      by false again = (h.0, again)

  without-so : (T : Tid) (ys : List Transaction) → OfTable ys → OfTable (without T ys)
  without-so T [] h = tt
  without-so T (y ∷ ys) h = by (tid_eq y.tid T) (without-so T ys h.1)
    where
      by : (b : Bool) → OfTable (without T ys) → OfTable (if b then ys else y ∷ without T ys)
      by true again = h.1
      by false again = (h.0, again)

  closes-so : {Q : Transaction → Type 0} {xs ys : List Transaction} {cs : List Change} → Closes Q xs ys cs → OfTable xs → OfTable ys
  closes-so Empty h = tt
  closes-so (Stays y c) h = (h.0, closes-so c h.1)
  closes-so (Goes y p e c) h = closes-so c h.1
  closes-so (Waits y d p e c) h = (tt, closes-so c h.1)
  closes-so (Forgets y d p e g c) h = closes-so c h.1

  pub all-thanked-so : (ys : List Transaction) → OfTable ys → OfTable (all_thanked ys)
  all-thanked-so ys h = closes-so (outcomes-close ys) h

  pub restored-so : (s : StableState) (Ts : List Tid) → OfTable (restored_transactions s Ts)
  restored-so s [] = tt
  restored-so s (T ∷ Ts) = both-stand (restored_transaction T (s.flags T)) (restored_transactions s Ts) (by (s.flags T)) (restored-so s Ts)
    where
      by : (o : Option FlagState) → OfTable (restored_transaction T o)
      by None = tt
      by (Some flag) = (tt, tt)

  -- ---- its rows

  pub record OfRow (row : RowOutcome CoordinatorTable) : Type 0 where
    pub says : OfAll row.messages
    pub table : OfTable row.table.transactions

  module _ (t : CoordinatorTable) (free : ℕ) (k : Tickets) (its : OfTable t.transactions) (short : nat_lt free 1 ≡ true → P k.server resources.Records free 1) where
    says-so : (m : Message) (sent : List Sent) → Saying t k m sent → OfAll sent
    says-so _ _ (says_nothing m W y asks found) = tt
    says-so _ _ (says_unknown m c T works asks none) = (tt, drops-say T works)
    says-so _ _ (prepares_again c q works y b found e) = prepares-say y.tid y.client (besides b.works b.ready)
    says-so _ _ (says_aborted m c works y cause asks found e) = (subst OfStage e (subst OfFound found (found-at y.tid t.transactions its)), tt)
    says-so m sent says = (tt, tt)

    -- it is short itself, or a vote says so
    cause-so : (m : Message) (y : Transaction) (cause : Cause) (works : List WorkId) → OfMessage m → Aborting free k y m cause works → OfCause P cause
    cause-so _ y _ _ h (finds_no_record c q works e full) = short full
    cause-so _ y _ _ h (work_has_no_room W number left need b e is) = h
    cause-so m y cause works h why = tt

    case-so : (m : Message) (row : RowOutcome CoordinatorTable) → OfMessage m → CoordinatorCase t free k m row → OfRow row
    case-so _ _ h (is_ignored_by m) = record { says = tt; table = its }
    case-so _ _ h (is_left_by m sent says) = record { says = says-so m sent says; table = its }
    case-so _ _ h (begins_anew c q later room) = record { says = (tt, tt); table = both-stand (after_closing c t.transactions) (_ ∷ []) (closes-so (client-closes c t.transactions) its) (tt, tt) }
    case-so _ _ h (finds_no_room c q later full) = record { says = (tt, tt); table = closes-so (client-closes c t.transactions) its }
    case-so _ _ h (starts_voting c q W Ws y found e room) = record { says = prepares-say y.tid y.client (W ∷ Ws); table = staged-so y.tid _ tt t.transactions its }
    case-so _ _ h (counts_vote W y b found e is waits) = record { says = tt; table = staged-so y.tid _ tt t.transactions its }
    case-so _ _ h (is_committed_by m y q works found why) = record { says = both-say (commits y.tid works) (committed_to y ∷ []) (commits-say y.tid works) (tt, tt); table = staged-so y.tid _ tt t.transactions its }
    case-so _ _ h (is_aborted_by m y cause works found why) = let of = cause-so m y cause works h why in
        record { says = both-say (drops y.tid works) (aborted_to y cause ∷ []) (drops-say y.tid works) (of, tt); table = staged-so y.tid (Aborted cause) of t.transactions its }
    case-so _ _ h (notes_commit m y d found notes waits) = record { says = tt; table = staged-so y.tid (Committed d) tt t.transactions its }
    case-so _ _ h (forgets_commit m y d found notes through) = record { says = tt; table = without-so y.tid t.transactions its }
    case-so _ _ h (forgets_abort c y cause found e) = record { says = tt; table = without-so y.tid t.transactions its }

  pub coordinates-so : (t : CoordinatorTable) (free : ℕ) (k : Tickets) → OfTable t.transactions → (nat_lt free 1 ≡ true → P k.server resources.Records free 1) → (m : Message) → OfMessage m → OfRow (coordinator_row t free k m)
  coordinates-so t free k its short m h = case-so t free k its short m (coordinator_row t free k m) h (coordinator-case t free k m)

  again-one : (y : Transaction) (stage : Stage) → OfStage stage → OfAll (told_again y stage)
  again-one y Open h = tt
  again-one y (Voting b) h = tt
  again-one y (Committed d) h = both-say (commits y.tid (besides d.works d.done)) _ (commits-say y.tid (besides d.works d.done)) (by d.thanked)
    where
      by : (b : Bool) → OfAll (if b then [] else committed_to y ∷ [])
      by true = tt
      by false = (tt, tt)
  again-one y (Aborted cause) h = (h, tt)

  pub again-so : (ys : List Transaction) → OfTable ys → OfAll (coordinator_again ys)
  again-so [] h = tt
  again-so (y ∷ ys) h = both-say (told_again y y.stage) (coordinator_again ys) (again-one y y.stage h.0) (again-so ys h.1)
