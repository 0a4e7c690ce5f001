-- A commit is told once its flag is put, row by row.
use Rattle.jn_coord.proofs.Common.{◌≡◌, ◌⊎◌, inl, inr, ⊎_elim, ℕ, Bool, true, false, not, nat_eq, nat_lt, ◌&&◌, ◌||◌, if◌then◌else◌, List, [], ◌∷◌, ◌++◌, length, Option, Some, None, refl, sym, ◌∙◌, ap, subst, true≢false, is_some, list_any, ClientNo, Tid, WorkId, Cause, Tickets, tid_eq, tid_tells, Message, Vote, Transaction, Stage, Open, Voting, Committed, Aborted, Commitment, Ballot, Change, RowOutcome, Sent, ignored, CoordinatorTable, transaction_at, is_work, with_work, all_in, drops, commits, prepares, committed_to, aborted_to, abort_row, commit_row, not_known, after_closing, changes_of_closing, seen_now, begun_by, begin_new, begin_again, begin_row, end_promised, end_stage, end_row, abort_stage, abort_request, forget_row, thanks_stage, thanks_row, told_stage, inquire_row, counted_vote, vote_stage, vote_row, done_stage, done_row, coordinator_row, committed_at, RequestNo}
use Rattle.jn_msgs.specs.declared.message.Message.TheVariants as messages
use Rattle.jn_msgs.specs.declared.message.Vote.TheVariants as votes
use Rattle.jn_coord.specs.AfterFlag.{is_commit_of, tells_commit, FollowsFlag}
use Rattle.jn_coord.proofs.Tables.{at-named}
use Rattle.jn_coord.proofs.Fitting.{committed-found}

abbrev told_in : Tid → List Sent → Bool
told_in T sent = list_any (λ (s : Sent). is_commit_of T s.1) sent

drops-no : (T U : Tid) (Ws : List WorkId) (rest : List Sent) → told_in T (drops U Ws ++ rest) ≡ told_in T rest
drops-no T U [] rest = refl
drops-no T U (W ∷ Ws) rest = drops-no T U Ws rest

only-drops : (T U : Tid) (Ws : List WorkId) → told_in T (drops U Ws) ≡ false
only-drops T U [] = refl
only-drops T U (W ∷ Ws) = only-drops T U Ws

only-prepares : (T U : Tid) (c : ClientNo) (Ws : List WorkId) → told_in T (prepares U c Ws) ≡ false
only-prepares T U c [] = refl
only-prepares T U c (W ∷ Ws) = only-prepares T U c Ws

commits-no : (T U : Tid) (Ws : List WorkId) (rest : List Sent) → tid_eq U T ≡ false → told_in T (commits U Ws ++ rest) ≡ told_in T rest
commits-no T U [] rest e = refl
commits-no T U (W ∷ Ws) rest e = rw e (commits-no T U Ws rest e)

-- ---- rows

record Follows (t : CoordinatorTable) (row : RowOutcome CoordinatorTable) : Type 0 where
  is : FollowsFlag t row

silent : (t : CoordinatorTable) (row : RowOutcome CoordinatorTable) → ((T : Tid) → tells_commit T row ≡ false) → Follows t row
silent t row none = record { is = λ T h. absurd (true≢false (sym h ∙ none T)) }

if-follows : (t : CoordinatorTable) (b : Bool) (row row' : RowOutcome CoordinatorTable) → Follows t row → Follows t row' → Follows t (if b then row else row')
if-follows t true row row' e f = e
if-follows t false row row' e f = f

-- of one transaction alone, which stands as committed
stood : (t : CoordinatorTable) (row : RowOutcome CoordinatorTable) (U : Tid) → is_some (committed_at U t.transactions) ≡ true → ((T : Tid) → tid_eq U T ≡ false → tells_commit T row ≡ false) → Follows t row
stood t row U at none = record { is = λ T h. ⊎_elim (λ e. inr (subst (λ V. is_some (committed_at V t.transactions) ≡ true) e.1 at)) (λ e. absurd (true≢false (sym h ∙ none T e.0))) (tid_tells U T) }

abort-follows : (t : CoordinatorTable) (k : Tickets) (x : Transaction) (cause : Cause) (Ws : List WorkId) → Follows t (abort_row t k x cause Ws)
abort-follows t k x cause Ws = silent t _ (λ T. rw (drops-no T x.tid Ws (aborted_to x cause ∷ [])) refl)

commit-follows : (t : CoordinatorTable) (k : Tickets) (x : Transaction) (q : RequestNo) (Ws : List WorkId) → Follows t (commit_row t k x q Ws)
commit-follows t k x q Ws = record { is = λ T h. by T h (tid_eq x.tid T) refl }
  where
    by : (T : Tid) → tells_commit T (commit_row t k x q Ws) ≡ true → (b : Bool) → tid_eq x.tid T ≡ b → ((tid_eq x.tid T || false) ≡ true) ⊎ (is_some (committed_at T t.transactions) ≡ true)
    by T h true e = inl (rw e refl)
    by T h false e = let none : tells_commit T (commit_row t k x q Ws) ≡ false = rw (commits-no T x.tid Ws (committed_to x ∷ []) e, e) refl in absurd (true≢false (sym h ∙ none))

not-known-follows : (t : CoordinatorTable) (k : Tickets) (c : ClientNo) (T : Tid) (Ws : List WorkId) → Follows t (not_known t k c T Ws)
not-known-follows t k c U Ws = silent t _ (λ T. rw (only-drops T U Ws) refl)

end-promised-follows : (t : CoordinatorTable) (k : Tickets) (x : Transaction) (q : RequestNo) (Ws : List WorkId) → Follows t (end_promised t k x q Ws)
end-promised-follows t k x q [] = commit-follows t k x q []
end-promised-follows t k x q (W ∷ Ws) = silent t _ (λ T. rw (only-prepares T x.tid x.client Ws) refl)

end-follows : (t : CoordinatorTable) (free : ℕ) (k : Tickets) (x : Transaction) (q : RequestNo) (Ws : List WorkId) (s : Stage) → ((d : Commitment) → s ≡ Committed d → is_some (committed_at x.tid t.transactions) ≡ true) → Follows t (end_stage t free k x q Ws s)
end-follows t free k x q Ws Open at = if-follows t (nat_lt free 1) _ _ (abort-follows t k x _ Ws) (end-promised-follows t k x q Ws)
end-follows t free k x q Ws (Voting b) at = silent t _ (λ T. rw (only-prepares T x.tid x.client _) refl)
end-follows t free k x q Ws (Committed d) at = stood t _ x.tid (at d refl) (λ T e. rw e refl)
end-follows t free k x q Ws (Aborted cause) at = silent t _ (λ T. refl)

abort-stage-follows : (t : CoordinatorTable) (k : Tickets) (x : Transaction) (Ws : List WorkId) (s : Stage) → ((d : Commitment) → s ≡ Committed d → is_some (committed_at x.tid t.transactions) ≡ true) → Follows t (abort_stage t k x Ws s)
abort-stage-follows t k x Ws Open at = abort-follows t k x _ Ws
abort-stage-follows t k x Ws (Voting b) at = abort-follows t k x _ _
abort-stage-follows t k x Ws (Committed d) at = stood t _ x.tid (at d refl) (λ T e. rw e refl)
abort-stage-follows t k x Ws (Aborted cause) at = silent t _ (λ T. refl)

told-follows : (t : CoordinatorTable) (k : Tickets) (U : Tid) (W : WorkId) (s : Stage) → ((d : Commitment) → s ≡ Committed d → is_some (committed_at U t.transactions) ≡ true) → Follows t (told_stage t k U W s)
told-follows t k U W Open at = silent t _ (λ T. refl)
told-follows t k U W (Voting b) at = silent t _ (λ T. refl)
told-follows t k U W (Committed d) at = if-follows t (is_work W d.works && not (is_work W d.done)) _ _ (stood t _ U (at d refl) (λ T e. rw e refl)) (silent t _ (λ T. refl))
told-follows t k U W (Aborted cause) at = silent t _ (λ T. refl)

forget-follows : (t : CoordinatorTable) (k : Tickets) (U : Tid) (d : Commitment) → Follows t (forget_row t k U d)
forget-follows t k U d = if-follows t (d.thanked && all_in d.works d.done) _ _ (silent t _ (λ T. refl)) (silent t _ (λ T. refl))

thanks-follows : (t : CoordinatorTable) (k : Tickets) (U : Tid) (s : Stage) → Follows t (thanks_stage t k U s)
thanks-follows t k U Open = silent t _ (λ T. refl)
thanks-follows t k U (Voting b) = silent t _ (λ T. refl)
thanks-follows t k U (Committed d) = if-follows t d.thanked _ _ (silent t (ignored t k) (λ T. refl)) (forget-follows t k U (record d { thanked = true }))
thanks-follows t k U (Aborted cause) = silent t _ (λ T. refl)

counted-follows : (t : CoordinatorTable) (k : Tickets) (x : Transaction) (b : Ballot) (W : WorkId) (vote : Vote) → Follows t (counted_vote t k x b W vote)
counted-follows t k x b W votes.Ready = if-follows t (all_in b.works (with_work W b.ready)) _ _ (commit-follows t k x b.request b.works) (silent t _ (λ T. refl))
counted-follows t k x b W (votes.Waiting u by) = if-follows t (is_work W b.ready) _ _ (silent t _ (λ T. refl)) (silent t _ (λ T. refl))
counted-follows t k x b W (votes.Lost then' now) = abort-follows t k x _ _
counted-follows t k x b W (votes.Broken u by) = abort-follows t k x _ _
counted-follows t k x b W (votes.Full number free need) = abort-follows t k x _ _

vote-follows : (t : CoordinatorTable) (k : Tickets) (x : Transaction) (W : WorkId) (vote : Vote) (s : Stage) → ((d : Commitment) → s ≡ Committed d → is_some (committed_at x.tid t.transactions) ≡ true) → Follows t (vote_stage t k x W vote s)
vote-follows t k x W vote Open at = silent t _ (λ T. refl)
vote-follows t k x W vote (Voting b) at = if-follows t (is_work W b.works) _ _ (counted-follows t k x b W vote) (silent t _ (λ T. refl))
vote-follows t k x W vote (Committed d) at = told-follows t k x.tid W (Committed d) at
vote-follows t k x W vote (Aborted cause) at = silent t _ (λ T. refl)

done-follows : (t : CoordinatorTable) (k : Tickets) (U : Tid) (W : WorkId) (s : Stage) → Follows t (done_stage t k U W s)
done-follows t k U W Open = silent t _ (λ T. refl)
done-follows t k U W (Voting b) = silent t _ (λ T. refl)
done-follows t k U W (Committed d) = if-follows t (is_work W d.works && not (is_work W d.done)) _ _ (forget-follows t k U (record d { done = d.done ++ W ∷ [] })) (silent t (ignored t k) (λ T. refl))
done-follows t k U W (Aborted cause) = silent t _ (λ T. refl)

begin-follows : (t : CoordinatorTable) (k : Tickets) (c : ClientNo) (q : RequestNo) → Follows t (begin_row t k c q)
begin-follows t k c q = if-follows t (nat_lt (t.seen c) q.0) _ _ (new (record { transactions = after_closing c t.transactions; seen = seen_now t.seen c q }) (changes_of_closing c t.transactions))
    (if-follows t (nat_eq (t.seen c) q.0) _ _ (again (begun_by c q t.transactions)) (silent t (ignored t k) (λ T. refl)))
  where
    new : (u : CoordinatorTable) (cs : List Change) → Follows t (begin_new u cs k c q)
    new u cs = if-follows t (nat_lt (length u.transactions) 64) _ _ (silent t _ (λ T. refl)) (silent t _ (λ T. refl))

    again : (o : Option Transaction) → Follows t (begin_again t k c q o)
    again None = silent t _ (λ T. refl)
    again (Some x) = silent t _ (λ T. refl)

-- ---- every message

-- of the transaction at a name, what is committed there stands so under its own name
at-follows : (t : CoordinatorTable) (U : Tid) (row : Option Transaction → RowOutcome CoordinatorTable)
    → ((x : Transaction) → x.tid ≡ U → ((d : Commitment) → x.stage ≡ Committed d → is_some (committed_at x.tid t.transactions) ≡ true) → Follows t (row (Some x)))
    → Follows t (row None) → Follows t (row (transaction_at U t.transactions))
at-follows t U row f n = by (transaction_at U t.transactions) refl
  where
    by : (o : Option Transaction) → transaction_at U t.transactions ≡ o → Follows t (row o)
    by None e = n
    by (Some x) e = let named = at-named U t.transactions x e in f x named (λ d is. rw named (ap is_some (committed-found U t.transactions x e) ∙ rw is refl))

follows : (t : CoordinatorTable) (free : ℕ) (k : Tickets) (m : Message) → Follows t (coordinator_row t free k m)
follows t free k (messages.Begin c q) = begin-follows t k c q
follows t free k (messages.End c q U Ws) = at-follows t U (end_row t free k c q U Ws) (λ x named at. end-follows t free k x q Ws x.stage at) (not-known-follows t k c U Ws)
follows t free k (messages.Abort c q U Ws) = at-follows t U (abort_request t k c U Ws) (λ x named at. abort-stage-follows t k x Ws x.stage at) (not-known-follows t k c U Ws)
follows t free k (messages.Thanks c U) = at-follows t U (thanks_row t k U) (λ x named at. thanks-follows t k U x.stage) (silent t _ (λ T. refl))
follows t free k (messages.Vote U W vote) = at-follows t U (vote_row t k U W vote) (λ x named at. vote-follows t k x W vote x.stage at) (silent t _ (λ T. refl))
follows t free k (messages.Done U W) = at-follows t U (done_row t k U W) (λ x named at. done-follows t k U W x.stage) (silent t _ (λ T. refl))
follows t free k (messages.Inquire U W) = at-follows t U (inquire_row t k U W) (λ x named at. told-follows t k U W x.stage (λ d is. subst (λ V. is_some (committed_at V t.transactions) ≡ true) named (at d is))) (silent t _ (λ T. refl))
follows t free k (messages.Open c q U) = silent t _ (λ T. refl)
follows t free k (messages.Op c q W n op) = silent t _ (λ T. refl)
follows t free k (messages.Begun c q U) = silent t _ (λ T. refl)
follows t free k (messages.Opened c q U W) = silent t _ (λ T. refl)
follows t free k (messages.Answer c q answer) = silent t _ (λ T. refl)
follows t free k (messages.Outcome c U outcome) = silent t _ (λ T. refl)
follows t free k (messages.Prepare U c W) = silent t _ (λ T. refl)
follows t free k (messages.Commit U W) = silent t _ (λ T. refl)
follows t free k (messages.Drop U W) = silent t _ (λ T. refl)

pub after-flag : (t : CoordinatorTable) (free : ℕ) (k : Tickets) (m : Message) → FollowsFlag t (coordinator_row t free k m)
after-flag t free k m = (follows t free k m).is
