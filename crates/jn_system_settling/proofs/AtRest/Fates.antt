-- What becomes of a transaction in a row of its coordinator: it stays as it is, comes to another stage, is forgotten, or is
-- closed by a later Begin of its client.
use Rattle.jn_system_settling.proofs.Common.{◌≡◌, ◌≢◌, ◌⊎◌, inl, inr, ℕ, ◌+◌, Bool, true, false, List, [], ◌∷◌, ◌++◌, length, Option, Some, None, true≢false, refl, sym, ◌∙◌, ap, subst, arith, ◌&&◌, ◌||◌, not, if◌then◌else◌, nat_lt, nat_eq, ServerNo, ClientNo, Tid, WorkId, Tickets, Cause, Client, Server, client_eq, tid_eq, work_eq, client_tells, tid_tells, work_tells, Message, Note, Vote, Transaction, Stage, Open, Voting, Committed, Aborted, Ballot, Commitment, DropFlag, RowOutcome, Sent, quiet, ignored, CoordinatorTable, staged, transaction_at, with_stage, all_in, is_work, besides, drops, commits, committed_to, aborted_to, commit_row, abort_row, forget_row, closed, after_closing, changes_of_closing, seen_now, begin_new, begin_again, begun_by, begin_row, name_from, end_promised, end_stage, end_row, abort_stage, abort_request, told_stage, inquire_row, with_work, counted_vote, vote_stage, vote_row, done_stage, done_row, thanks_stage, thanks_row, coordinator_row, Machine, AreTransactions, in_stage, at-stage, none-staged, none-less, In, is_undecided, RequestNo, found-name}
use Rattle.jn_msgs.specs.declared.message.Message.TheVariants as messages
use Rattle.jn_msgs.specs.declared.message.Note.TheVariants as notes
use Rattle.jn_msgs.specs.declared.message.Vote.TheVariants as votes
use Rattle.jn_rows.specs.Coordinator.{without}
use Rattle.jn_system_order.proofs.Mirroring.Transactions.{at-less}
use Rattle.jn_system_settling.proofs.AtRest.Ways.{Has}
use Rattle.jn_system_settling.proofs.AtRest.Votes.{is_begin_message}
use Rattle.jn_system_settling.proofs.AtRest.About.{is_about}

-- a vote or a commit that is complete goes no further in its stage
abbrev pub is_unfinished : Stage → Bool
is_unfinished (Voting b) = not (all_in b.works b.ready)
is_unfinished (Committed d) = not (d.thanked && all_in d.works d.done)
is_unfinished stage = true

-- ---- messages of a row

pub has-after : (a b : List Sent) (x : Sent) → Has x b → Has x (a ++ b)
has-after [] b x h = h
has-after (y ∷ a) b x h = inr (has-after a b x h)

pub has-before : (a b : List Sent) (x : Sent) → Has x a → Has x (a ++ b)
has-before [] b x h = absurd h
has-before (y ∷ a) b x (inl e) = inl e
has-before (y ∷ a) b x (inr h) = inr (has-before a b x h)

-- one for each of these works
pub has-commit : (T : Tid) (W : WorkId) (Ws : List WorkId) → is_work W Ws ≡ true → Has (Server W.server, messages.Commit T W) (commits T Ws)
has-commit T W [] h = absurd (true≢false (sym h))
has-commit T W (V ∷ Vs) h = by (work_tells V W) (has-commit T W Vs)
  where
    by : ((work_eq V W ≡ true) × (V ≡ W)) ⊎ ((work_eq V W ≡ false) × (V ≢ W)) → (is_work W Vs ≡ true → Has (Server W.server, messages.Commit T W) (commits T Vs)) → Has (Server W.server, messages.Commit T W) (commits T (V ∷ Vs))
    by (inl p) again = inl (ap (λ (U : WorkId). (Server U.server, messages.Commit T U)) p.1)
    by (inr p) again = inr (again (sym (ap (λ (b : Bool). b || is_work W Vs) p.0) ∙ h))

-- ---- one transaction's stage

-- to which stage it comes, with these messages and notes
pub data Move (y : Transaction) (sent : List Sent) (told : List Note) : Stage → Type 0 where
  starts : (b : Ballot) → y.stage ≡ Open → Move y sent told (Voting b)
  notes_one : (b : Ballot) (W : WorkId) → y.stage ≡ Voting b → Move y sent told (Voting (record b { ready = with_work W b.ready }))
  commits_now : (d : Commitment) → is_undecided y.stage ≡ true → In (notes.Commit y.tid) told → Has (committed_to y) sent → ((W : WorkId) → is_work W d.works ≡ true → Has (Server W.server, messages.Commit y.tid W) sent) → Move y sent told (Committed d)
  aborts_now : (cause : Cause) → is_undecided y.stage ≡ true → Has (aborted_to y cause) sent → Move y sent told (Aborted cause)
  finishes : (d now : Commitment) → y.stage ≡ Committed d → now.works ≡ d.works → ((W : WorkId) → is_work W d.done ≡ true → is_work W now.done ≡ true) → (d.thanked ≡ true → now.thanked ≡ true) → Move y sent told (Committed now)

-- what a row on this transaction does to the table
pub data Kind (U : Tid) (y : Transaction) (t : CoordinatorTable) (row : RowOutcome CoordinatorTable) : Type 0 where
  keeps : row.table.transactions ≡ t.transactions → Kind U y t row
  comes : (stage : Stage) → row.table.transactions ≡ with_stage U stage t.transactions → is_unfinished stage ≡ true → Move y row.messages row.notes stage → Kind U y t row
  goes : row.table.transactions ≡ without U t.transactions → is_undecided y.stage ≡ false → Kind U y t row

pub data Fate (T : Tid) (x : Transaction) (t : CoordinatorTable) (m : Message) (row : RowOutcome CoordinatorTable) : Type 0 where
  stays : transaction_at T row.table.transactions ≡ Some x → Fate T x t m row
  moves : (stage : Stage) → transaction_at T row.table.transactions ≡ Some (record x { stage = stage }) → Move x row.messages row.notes stage → Fate T x t m row
  forgets : transaction_at T row.table.transactions ≡ None → is_undecided x.stage ≡ false → Fate T x t m row
  closes : (q : RequestNo) → m ≡ messages.Begin x.client q → nat_lt (t.seen x.client) q.0 ≡ true → is_undecided x.stage ≡ true → transaction_at T row.table.transactions ≡ None → Fate T x t m row

some-transaction : (x y : Transaction) → Some x ≡ Some y → x ≡ y
some-transaction x y e = cc

-- ---- a row on a transaction that is there

module _ (t : CoordinatorTable) (k : Tickets) (U : Tid) (y : Transaction) (found : transaction_at U t.transactions ≡ Some y) where
  abbrev Its : RowOutcome CoordinatorTable → Type 0
  Its row = Kind U y t row

  its-name : y.tid ≡ U
  its-name = found-name U t.transactions y found

  either-its : (b : Bool) (p q : RowOutcome CoordinatorTable) → Its p → Its q → Its (if b then p else q)
  either-its true p q h l = h
  either-its false p q h l = l

  either-by : (b : Bool) (p q : RowOutcome CoordinatorTable) → Its p → (b ≡ false → Its q) → Its (if b then p else q)
  either-by true p q h l = h
  either-by false p q h l = l refl

  as-named : (stage : Stage) → with_stage y.tid stage t.transactions ≡ with_stage U stage t.transactions
  as-named stage = ap (λ (V : Tid). with_stage V stage t.transactions) its-name

  commit-its : (request : RequestNo) (works : List WorkId) → is_undecided y.stage ≡ true → Its (commit_row t k y request works)
  commit-its request works u = comes (Committed (record { works = works; done = []; thanked = false })) (as-named _) refl
      (commits_now (record { works = works; done = []; thanked = false }) u (inl refl) (has-after (commits y.tid works) (committed_to y ∷ []) (committed_to y) (inl refl)) (λ W h. has-before (commits y.tid works) (committed_to y ∷ []) _ (has-commit y.tid W works h)))

  abort-its : (cause : Cause) (works : List WorkId) → is_undecided y.stage ≡ true → Its (abort_row t k y cause works)
  abort-its cause works u = comes (Aborted cause) (as-named _) refl (aborts_now cause u (has-after (drops y.tid works) (aborted_to y cause ∷ []) (aborted_to y cause) (inl refl)))

  pub end-its : (free : ℕ) (request : RequestNo) (works : List WorkId) (s : Stage) → y.stage ≡ s → Its (end_stage t free k y request works s)
  end-its free request works Open e = either-its (nat_lt free 1) _ _ (abort-its _ works (ap is_undecided e)) (by works)
    where
      by : (works : List WorkId) → Its (end_promised t k y request works)
      by [] = commit-its request [] (ap is_undecided e)
      by (W ∷ Ws) = comes (Voting (record { request = request; works = W ∷ Ws; ready = [] })) (as-named _) refl (starts (record { request = request; works = W ∷ Ws; ready = [] }) e)
  end-its free request works (Voting b) e = keeps refl
  end-its free request works (Committed d) e = keeps refl
  end-its free request works (Aborted cause) e = keeps refl

  pub abort-stage-its : (works : List WorkId) (s : Stage) → y.stage ≡ s → Its (abort_stage t k y works s)
  abort-stage-its works Open e = abort-its _ works (ap is_undecided e)
  abort-stage-its works (Voting b) e = abort-its _ (b.works ++ besides works b.works) (ap is_undecided e)
  abort-stage-its works (Committed d) e = keeps refl
  abort-stage-its works (Aborted cause) e = keeps refl

  pub told-its : (T : Tid) (W : WorkId) (s : Stage) → Its (told_stage t k T W s)
  told-its T W Open = keeps refl
  told-its T W (Voting b) = keeps refl
  told-its T W (Committed d) = either-its (is_work W d.works && not (is_work W d.done)) _ _ (keeps refl) (keeps refl)
  told-its T W (Aborted cause) = keeps refl

  pub vote-its : (W : WorkId) (vote : Vote) (s : Stage) → y.stage ≡ s → Its (vote_stage t k y W vote s)
  vote-its W vote Open e = keeps refl
  vote-its W vote (Committed d) e = told-its y.tid W (Committed d)
  vote-its W vote (Aborted cause) e = told-its y.tid W (Aborted cause)
  vote-its W vote (Voting b) e = either-its (is_work W b.works) _ _ (by vote) (keeps refl)
    where
      by : (vote : Vote) → Its (counted_vote t k y b W vote)
      by votes.Ready = either-by (all_in b.works (with_work W b.ready)) _ _ (commit-its b.request b.works (ap is_undecided e))
          (λ f. comes (Voting (record b { ready = with_work W b.ready })) (as-named _) (ap not f) (notes_one b W e))
      by (votes.Waiting u held) = either-its (is_work W b.ready) _ _ (keeps refl) (keeps refl)
      by (votes.Lost m n) = abort-its _ (besides b.works (W ∷ [])) (ap is_undecided e)
      by (votes.Broken u held) = abort-its _ b.works (ap is_undecided e)
      by (votes.Full number free need) = abort-its _ b.works (ap is_undecided e)

  -- how far a committed one has come
  forget-its : (d now : Commitment) → y.stage ≡ Committed d → now.works ≡ d.works → ((W : WorkId) → is_work W d.done ≡ true → is_work W now.done ≡ true) → (d.thanked ≡ true → now.thanked ≡ true) → Its (forget_row t k U now)
  forget-its d now e w f g = either-by (now.thanked && all_in now.works now.done) _ _ (goes refl (ap is_undecided e)) (λ u. comes (Committed now) refl (ap not u) (finishes d now e w f g))

  pub done-its : (W : WorkId) (s : Stage) → y.stage ≡ s → Its (done_stage t k U W s)
  done-its W Open e = keeps refl
  done-its W (Voting b) e = keeps refl
  done-its W (Aborted cause) e = keeps refl
  done-its W (Committed d) e = either-its (is_work W d.works && not (is_work W d.done)) _ _ (forget-its d (record d { done = d.done ++ W ∷ [] }) e refl (λ V h. more d.done V h) (λ h. h)) (keeps refl)
    where
      more : (Vs : List WorkId) (V : WorkId) → is_work V Vs ≡ true → is_work V (Vs ++ W ∷ []) ≡ true
      more [] V h = absurd (true≢false (sym h))
      more (X ∷ Vs) V h = let again = more Vs V in grind (arith, h)

  pub thanks-its : (s : Stage) → y.stage ≡ s → Its (thanks_stage t k U s)
  thanks-its Open e = keeps refl
  thanks-its (Voting b) e = keeps refl
  thanks-its (Aborted cause) e = goes refl (ap is_undecided e)
  thanks-its (Committed d) e = either-its d.thanked _ _ (keeps refl) (forget-its d (record d { thanked = true }) e refl (λ W h. h) (λ h. refl))

-- none stays none where a client's transactions are closed
pub none-closed : (T : Tid) (c : ClientNo) (xs : List Transaction) → transaction_at T xs ≡ None → transaction_at T (after_closing c xs) ≡ None
none-closed T c [] h = refl
none-closed T c (y ∷ xs) h = by (client_eq y.client c) y.stage (tid_eq y.tid T) refl h (none-closed T c xs)
  where
    no : Some y ≡ None → ⊥
    no q = cc

    on : (b f : Bool) (d : Commitment) → f ≡ tid_eq y.tid T → f ≡ false → transaction_at T (after_closing c xs) ≡ None → transaction_at T ((if b then [] else record y { stage = Committed (record d { thanked = true }) } ∷ []) ++ after_closing c xs) ≡ None
    on true f d e g again = again
    on false f d e g again = ap (λ (z : Bool). if z then Some (record y { stage = Committed (record d { thanked = true }) }) else transaction_at T (after_closing c xs)) (sym e ∙ g) ∙ again

    by : (b : Bool) (s : Stage) (f : Bool) → f ≡ tid_eq y.tid T → (if f then Some y else transaction_at T xs) ≡ None → (transaction_at T xs ≡ None → transaction_at T (after_closing c xs) ≡ None)
        → transaction_at T (if b then closed s y ++ after_closing c xs else y ∷ after_closing c xs) ≡ None
    by b s true e q again = absurd (no q)
    by false s false e q again = ap (λ (z : Bool). if z then Some y else transaction_at T (after_closing c xs)) (sym e) ∙ again q
    by true Open false e q again = again q
    by true (Voting b) false e q again = again q
    by true (Aborted cause) false e q again = again q
    by true (Committed d) false e q again = on (all_in d.works d.done) false d e refl (again q)

-- ---- every row

module _ (w : Machine) (s : ServerNo) (t : CoordinatorTable) (free : ℕ) (k : Tickets) (all : AreTransactions w s t.transactions) (T : Tid) (x : Transaction) (found : transaction_at T t.transactions ≡ Some x) where
  -- it is that transaction, or another one
  from-kind : (U : Tid) (y : Transaction) (m : Message) (row : RowOutcome CoordinatorTable) → transaction_at U t.transactions ≡ Some y → Kind U y t row → Fate T x t m row
  from-kind U y m row e (keeps now) = stays (ap (transaction_at T) now ∙ found)
  from-kind U y m row e (comes stage now unfinished move) = by (tid_tells U T)
    where
      by : ((tid_eq U T ≡ true) × (U ≡ T)) ⊎ ((tid_eq U T ≡ false) × (U ≢ T)) → Fate T x t m row
      by (inl p) = let one = some-transaction y x (sym e ∙ ap (λ (V : Tid). transaction_at V t.transactions) p.1 ∙ found) in
          moves stage (ap (transaction_at T) now ∙ at-stage T U stage t.transactions ∙ ap (λ (b : Bool). if b then in_stage stage (transaction_at T t.transactions) else transaction_at T t.transactions) p.0 ∙ ap (in_stage stage) found)
          (subst (λ (z : Transaction). Move z row.messages row.notes stage) one move)
      by (inr p) = stays (ap (transaction_at T) now ∙ at-stage T U stage t.transactions ∙ ap (λ (b : Bool). if b then in_stage stage (transaction_at T t.transactions) else transaction_at T t.transactions) p.0 ∙ found)
  from-kind U y m row e (goes now decided) = by (tid_tells U T)
    where
      by : ((tid_eq U T ≡ true) × (U ≡ T)) ⊎ ((tid_eq U T ≡ false) × (U ≢ T)) → Fate T x t m row
      by (inl p) = let one = some-transaction y x (sym e ∙ ap (λ (V : Tid). transaction_at V t.transactions) p.1 ∙ found) in
          forgets (ap (transaction_at T) now ∙ at-less w s T U t.transactions all ∙ ap (λ (b : Bool). if b then None else transaction_at T t.transactions) p.0) (subst (λ (z : Transaction). is_undecided z.stage ≡ false) one decided)
      by (inr p) = stays (ap (transaction_at T) now ∙ at-less w s T U t.transactions all ∙ ap (λ (b : Bool). if b then None else transaction_at T t.transactions) p.0 ∙ found)

  -- a row on another one
  other-kind : (U : Tid) (y : Transaction) (row : RowOutcome CoordinatorTable) → tid_eq U T ≡ false → Kind U y t row → transaction_at T row.table.transactions ≡ Some x
  other-kind U y row ne (keeps now) = ap (transaction_at T) now ∙ found
  other-kind U y row ne (comes stage now unfinished move) = ap (transaction_at T) now ∙ at-stage T U stage t.transactions ∙ ap (λ (b : Bool). if b then in_stage stage (transaction_at T t.transactions) else transaction_at T t.transactions) ne ∙ found
  other-kind U y row ne (goes now decided) = ap (transaction_at T) now ∙ at-less w s T U t.transactions all ∙ ap (λ (b : Bool). if b then None else transaction_at T t.transactions) ne ∙ found

  other-one : (U : Tid) (f : Option Transaction → RowOutcome CoordinatorTable) → tid_eq U T ≡ false → (f None).table.transactions ≡ t.transactions → ((y : Transaction) → transaction_at U t.transactions ≡ Some y → Kind U y t (f (Some y)))
      → transaction_at T (f (transaction_at U t.transactions)).table.transactions ≡ Some x
  other-one U f ne none some = by (transaction_at U t.transactions) refl
    where
      by : (o : Option Transaction) → transaction_at U t.transactions ≡ o → transaction_at T (f o).table.transactions ≡ Some x
      by None e = ap (transaction_at T) none ∙ found
      by (Some y) e = other-kind U y (f (Some y)) ne (some y e)

  mine : (U : Tid) (f : Option Transaction → RowOutcome CoordinatorTable) → (f None).table.transactions ≡ t.transactions → ((y : Transaction) → transaction_at U t.transactions ≡ Some y → Kind U y t (f (Some y)))
      → transaction_at T (f (Some x)).table.transactions ≡ Some x → transaction_at T (f (transaction_at U t.transactions)).table.transactions ≡ Some x
  mine U f none some own = by (tid_tells U T)
    where
      by : ((tid_eq U T ≡ true) × (U ≡ T)) ⊎ ((tid_eq U T ≡ false) × (U ≢ T)) → transaction_at T (f (transaction_at U t.transactions)).table.transactions ≡ Some x
      by (inl p) = ap (λ o. transaction_at T (f o).table.transactions) (ap (λ (V : Tid). transaction_at V t.transactions) p.1 ∙ found) ∙ own
      by (inr p) = other-one U f p.0 none some

  -- an undecided one stays as it is where the message isn't about it and begins nothing
  pub row-kept : (m : Message) → is_about T m ≡ false → is_begin_message m ≡ false → is_undecided x.stage ≡ true → transaction_at T (coordinator_row t free k m).table.transactions ≡ Some x
  row-kept (messages.Begin c q) h b u = absurd (true≢false b)
  row-kept (messages.End c q U Ws) h b u = other-one U (end_row t free k c q U Ws) h refl (λ y e. end-its t k U y e free q Ws y.stage refl)
  row-kept (messages.Abort c q U Ws) h b u = other-one U (abort_request t k c U Ws) h refl (λ y e. abort-stage-its t k U y e Ws y.stage refl)
  row-kept (messages.Vote U W vote) h b u = other-one U (vote_row t k U W vote) h refl (λ y e. vote-its t k U y e W vote y.stage refl)
  row-kept (messages.Thanks c U) h b u = mine U (thanks_row t k U) refl (λ y e. thanks-its t k U y e y.stage refl) (ap (transaction_at T) (still x.stage u) ∙ found)
    where
      still : (s : Stage) → is_undecided s ≡ true → (thanks_stage t k U s).table.transactions ≡ t.transactions
      still Open u = refl
      still (Voting b) u = refl
      still s u = absurd (true≢false (sym u))
  row-kept (messages.Done U W) h b u = mine U (done_row t k U W) refl (λ y e. done-its t k U y e W y.stage refl) (ap (transaction_at T) (still x.stage u) ∙ found)
    where
      still : (s : Stage) → is_undecided s ≡ true → (done_stage t k U W s).table.transactions ≡ t.transactions
      still Open u = refl
      still (Voting b) u = refl
      still s u = absurd (true≢false (sym u))
  row-kept (messages.Inquire U W) h b u = mine U (inquire_row t k U W) refl (λ y e. told-its t k U y e U W y.stage) (ap (transaction_at T) (still x.stage u) ∙ found)
    where
      still : (s : Stage) → is_undecided s ≡ true → (told_stage t k U W s).table.transactions ≡ t.transactions
      still Open u = refl
      still (Voting b) u = refl
      still s u = absurd (true≢false (sym u))
  row-kept m h b u = found

  unmoved : (m : Message) (row : RowOutcome CoordinatorTable) → row.table.transactions ≡ t.transactions → Fate T x t m row
  unmoved m row e = stays (ap (transaction_at T) e ∙ found)

  -- a Begin that closes the client's transactions
  data Left (xs : List Transaction) (now : List Transaction) (c : ClientNo) (y : Transaction) : Type 0 where
    other : transaction_at T now ≡ Some y → Left xs now c y
    thanked_now : (d : Commitment) → y.stage ≡ Committed d → transaction_at T now ≡ Some (record y { stage = Committed (record d { thanked = true }) }) → Left xs now c y
    gone : transaction_at T now ≡ None → is_undecided y.stage ≡ false → Left xs now c y
    closed_now : y.client ≡ c → is_undecided y.stage ≡ true → transaction_at T now ≡ None → Left xs now c y

  closing-leaves : (c : ClientNo) (xs : List Transaction) (y : Transaction) → AreTransactions w s xs → transaction_at T xs ≡ Some y → Left xs (after_closing c xs) c y
  closing-leaves c [] y are h = absurd (cc h)
  closing-leaves c (z ∷ xs) y are h = by (tid_tells z.tid T) (client_tells z.client c) h (closing-leaves c xs y are.2)
    where
      Is-client : Type 0
      Is-client = ((client_eq z.client c ≡ true) × (z.client ≡ c)) ⊎ ((client_eq z.client c ≡ false) × (z.client ≢ c))

      there : Bool → Stage → List Transaction
      there b s = if b then closed s z ++ after_closing c xs else z ∷ after_closing c xs

      -- it is this one
      mine : tid_eq z.tid T ≡ true → transaction_at T xs ≡ None → (stage : Stage) → z.stage ≡ stage → Left (z ∷ xs) (closed stage z ++ after_closing c xs) z.client z
      mine e none Open q = closed_now refl (ap is_undecided q) (none-closed T c xs none)
      mine e none (Voting b) q = closed_now refl (ap is_undecided q) (none-closed T c xs none)
      mine e none (Aborted cause) q = gone (none-closed T c xs none) (ap is_undecided q)
      mine e none (Committed d) q = on (all_in d.works d.done)
        where
          on : (b : Bool) → Left (z ∷ xs) ((if b then [] else record z { stage = Committed (record d { thanked = true }) } ∷ []) ++ after_closing c xs) z.client z
          on true = gone (none-closed T c xs none) (ap is_undecided q)
          on false = thanked_now d q (ap (λ (f : Bool). if f then Some (record z { stage = Committed (record d { thanked = true }) }) else transaction_at T (after_closing c xs)) e)

      -- what stands before it is another one
      past : tid_eq z.tid T ≡ false → (b : Bool) (stage : Stage) → transaction_at T (there b stage) ≡ transaction_at T (after_closing c xs)
      past e false stage = ap (λ (f : Bool). if f then Some z else transaction_at T (after_closing c xs)) e
      past e true Open = refl
      past e true (Voting b) = refl
      past e true (Aborted cause) = refl
      past e true (Committed d) = on (all_in d.works d.done)
        where
          on : (b : Bool) → transaction_at T ((if b then [] else record z { stage = Committed (record d { thanked = true }) } ∷ []) ++ after_closing c xs) ≡ transaction_at T (after_closing c xs)
          on true = refl
          on false = ap (λ (f : Bool). if f then Some (record z { stage = Committed (record d { thanked = true }) }) else transaction_at T (after_closing c xs)) e

      further : (l : List Transaction) → transaction_at T l ≡ transaction_at T (after_closing c xs) → Left xs (after_closing c xs) c y → Left (z ∷ xs) l c y
      further l e (other h) = other (e ∙ h)
      further l e (thanked_now d q h) = thanked_now d q (e ∙ h)
      further l e (gone h u) = gone (e ∙ h) u
      further l e (closed_now q u h) = closed_now q u (e ∙ h)

      by : ((tid_eq z.tid T ≡ true) × (z.tid ≡ T)) ⊎ ((tid_eq z.tid T ≡ false) × (z.tid ≢ T)) → Is-client → (if tid_eq z.tid T then Some z else transaction_at T xs) ≡ Some y
          → (transaction_at T xs ≡ Some y → Left xs (after_closing c xs) c y) → Left (z ∷ xs) (there (client_eq z.client c) z.stage) c y
      by (inl p) i q again = subst (λ (v : Transaction). Left (z ∷ xs) (there (client_eq z.client c) z.stage) c v) (some-transaction z y (sym (ap (λ (f : Bool). if f then Some z else transaction_at T xs) p.0) ∙ q)) (at i)
        where
          at : Is-client → Left (z ∷ xs) (there (client_eq z.client c) z.stage) c z
          at (inl e) = subst (λ (f : Bool). Left (z ∷ xs) (there f z.stage) c z) (sym e.0) (subst (λ (d : ClientNo). Left (z ∷ xs) (closed z.stage z ++ after_closing c xs) d z) e.1 (mine p.0 (subst (λ (V : Tid). transaction_at V xs ≡ None) p.1 are.1) z.stage refl))
          at (inr e) = subst (λ (f : Bool). Left (z ∷ xs) (there f z.stage) c z) (sym e.0) (other (ap (λ (f : Bool). if f then Some z else transaction_at T (after_closing c xs)) p.0))
      by (inr p) i q again = further (there (client_eq z.client c) z.stage) (past p.0 (client_eq z.client c) z.stage) (again (sym (ap (λ (f : Bool). if f then Some z else transaction_at T xs) p.0) ∙ q))

  -- no other has the name of a new one
  module _ (fresh : tid_eq (name_from k) T ≡ false) where
    one-more : (l : List Transaction) (z : Transaction) → tid_eq z.tid T ≡ false → transaction_at T (l ++ z ∷ []) ≡ transaction_at T l
    one-more [] z e = ap (λ (f : Bool). if f then Some z else None) e
    one-more (y ∷ l) z e = ap (λ o. if tid_eq y.tid T then Some y else o) (one-more l z e)

    begin-fate : (c : ClientNo) (q : RequestNo) → Fate T x t (messages.Begin c q) (begin_row t k c q)
    begin-fate c q = by (nat_lt (t.seen c) q.0) refl (nat_eq (t.seen c) q.0)
      where
        ys : List Transaction
        ys = after_closing c t.transactions

        left : (row : RowOutcome CoordinatorTable) → transaction_at T row.table.transactions ≡ transaction_at T (after_closing c t.transactions) → nat_lt (t.seen c) q.0 ≡ true → Left t.transactions (after_closing c t.transactions) c x → Fate T x t (messages.Begin c q) row
        left row e l (other h) = stays (e ∙ h)
        left row e l (thanked_now d f h) = moves (Committed (record d { thanked = true })) (e ∙ h) (finishes d (record d { thanked = true }) f refl (λ W g. g) (λ g. refl))
        left row e l (gone h u) = forgets (e ∙ h) u
        left row e l (closed_now f u h) = closes q (ap (λ (z : ClientNo). messages.Begin z q) (sym f)) (ap (λ (z : ClientNo). nat_lt (t.seen z) q.0) f ∙ l) u (e ∙ h)

        new : nat_lt (t.seen c) q.0 ≡ true → (b : Bool) → Fate T x t (messages.Begin c q) (if b
            then record { table = record { transactions = after_closing c t.transactions ++ (record { tid = name_from k; client = c; begun = Some q; stage = Open }) ∷ []; seen = seen_now t.seen c q }; changes = changes_of_closing c t.transactions; messages = (Client c, messages.Begun c q (Some (name_from k))) ∷ []; notes = []; tickets = record k { next = k.next + 1 } }
            else record { table = record { transactions = after_closing c t.transactions; seen = seen_now t.seen c q }; changes = changes_of_closing c t.transactions; messages = (Client c, messages.Begun c q None) ∷ []; notes = []; tickets = k })
        new l true = left _ (one-more ys _ fresh) l (closing-leaves c t.transactions x all found)
        new l false = left _ refl l (closing-leaves c t.transactions x all found)

        again : (o : Option Transaction) → Fate T x t (messages.Begin c q) (begin_again t k c q o)
        again (Some y) = unmoved _ _ refl
        again None = unmoved _ _ refl

        by : (b : Bool) → nat_lt (t.seen c) q.0 ≡ b → (d : Bool) → Fate T x t (messages.Begin c q) (if b then begin_new (record { transactions = after_closing c t.transactions; seen = seen_now t.seen c q }) (changes_of_closing c t.transactions) k c q
            else (if d then begin_again t k c q (begun_by c q t.transactions) else ignored t k))
        by true e d = new e (nat_lt (length ys) 64)
        by false e true = again (begun_by c q t.transactions)
        by false e false = unmoved _ _ refl

    pub row-fate : (m : Message) → Fate T x t m (coordinator_row t free k m)
    row-fate (messages.Begin c q) = begin-fate c q
    row-fate (messages.End c q U works) = by (transaction_at U t.transactions) refl
      where
        by : (o : Option Transaction) → transaction_at U t.transactions ≡ o → Fate T x t (messages.End c q U works) (end_row t free k c q U works o)
        by None e = unmoved _ _ refl
        by (Some y) e = from-kind U y _ _ e (end-its t k U y e free q works y.stage refl)
    row-fate (messages.Abort c q U works) = by (transaction_at U t.transactions) refl
      where
        by : (o : Option Transaction) → transaction_at U t.transactions ≡ o → Fate T x t (messages.Abort c q U works) (abort_request t k c U works o)
        by None e = unmoved _ _ refl
        by (Some y) e = from-kind U y _ _ e (abort-stage-its t k U y e works y.stage refl)
    row-fate (messages.Thanks c U) = by (transaction_at U t.transactions) refl
      where
        by : (o : Option Transaction) → transaction_at U t.transactions ≡ o → Fate T x t (messages.Thanks c U) (thanks_row t k U o)
        by None e = unmoved _ _ refl
        by (Some y) e = from-kind U y _ _ e (thanks-its t k U y e y.stage refl)
    row-fate (messages.Vote U W vote) = by (transaction_at U t.transactions) refl
      where
        by : (o : Option Transaction) → transaction_at U t.transactions ≡ o → Fate T x t (messages.Vote U W vote) (vote_row t k U W vote o)
        by None e = unmoved _ _ refl
        by (Some y) e = from-kind U y _ _ e (vote-its t k U y e W vote y.stage refl)
    row-fate (messages.Done U W) = by (transaction_at U t.transactions) refl
      where
        by : (o : Option Transaction) → transaction_at U t.transactions ≡ o → Fate T x t (messages.Done U W) (done_row t k U W o)
        by None e = unmoved _ _ refl
        by (Some y) e = from-kind U y _ _ e (done-its t k U y e W y.stage refl)
    row-fate (messages.Inquire U W) = by (transaction_at U t.transactions) refl
      where
        by : (o : Option Transaction) → transaction_at U t.transactions ≡ o → Fate T x t (messages.Inquire U W) (inquire_row t k U W o)
        by None e = unmoved _ _ refl
        by (Some y) e = from-kind U y _ _ e (told-its t k U y e U W y.stage)
    row-fate m = unmoved _ _ refl

-- ---- a transaction that isn't there

module _ (t : CoordinatorTable) (free : ℕ) (k : Tickets) (T : Tid) (none : transaction_at T t.transactions ≡ None) where
  -- it isn't there then, or has just begun
  record IsNew (row : RowOutcome CoordinatorTable) : Type 0 where
    is : (y : Transaction) → transaction_at T row.table.transactions ≡ Some y → y.stage ≡ Open

  no-one : (row : RowOutcome CoordinatorTable) → transaction_at T row.table.transactions ≡ None → IsNew row
  no-one row e = record { is = λ y f. absurd (clash y (sym e ∙ f)) }
    where
      clash : (y : Transaction) → None ≡ Some y → ⊥
      clash y q = cc

  kind-new : (U : Tid) (y : Transaction) (row : RowOutcome CoordinatorTable) → Kind U y t row → IsNew row
  kind-new U y row (keeps e) = no-one row (ap (transaction_at T) e ∙ none)
  kind-new U y row (comes stage e unfinished move) = no-one row (ap (transaction_at T) e ∙ none-staged T U stage t.transactions none)
  kind-new U y row (goes e u) = no-one row (ap (transaction_at T) e ∙ none-less T U t.transactions none)

  on-one : (U : Tid) (f : Option Transaction → RowOutcome CoordinatorTable) → (f None).table.transactions ≡ t.transactions → ((y : Transaction) → transaction_at U t.transactions ≡ Some y → Kind U y t (f (Some y))) → IsNew (f (transaction_at U t.transactions))
  on-one U f same some = by (transaction_at U t.transactions) refl
    where
      by : (o : Option Transaction) → transaction_at U t.transactions ≡ o → IsNew (f o)
      by None e = no-one (f None) (ap (transaction_at T) same ∙ none)
      by (Some y) e = kind-new U y (f (Some y)) (some y e)

  last-is : (l : List Transaction) (z y : Transaction) → transaction_at T l ≡ None → transaction_at T (l ++ z ∷ []) ≡ Some y → z ≡ y
  last-is [] z y h e = by (tid_eq z.tid T) e
    where
      by : (b : Bool) → (if b then Some z else None) ≡ Some y → z ≡ y
      by true q = some-transaction z y q
      by false q = absurd (cc q)
  last-is (x ∷ l) z y h e = by (tid_eq x.tid T) h e (last-is l z y)
    where
      clash : Some x ≡ None → ⊥
      clash q = cc

      by : (b : Bool) → (if b then Some x else transaction_at T l) ≡ None → (if b then Some x else transaction_at T (l ++ z ∷ [])) ≡ Some y → (transaction_at T l ≡ None → transaction_at T (l ++ z ∷ []) ≡ Some y → z ≡ y) → z ≡ y
      by true q r again = absurd (clash q)
      by false q r again = again q r

  choose-new : (b : Bool) (p q : RowOutcome CoordinatorTable) → IsNew p → IsNew q → IsNew (if b then p else q)
  choose-new true p q h l = h
  choose-new false p q h l = l

  pub row-new : (m : Message) (y : Transaction) → transaction_at T (coordinator_row t free k m).table.transactions ≡ Some y → y.stage ≡ Open
  row-new m = (by m).is
    where
      by : (m : Message) → IsNew (coordinator_row t free k m)
      by (messages.Begin c q) = choose-new (nat_lt (t.seen c) q.0) _ _
          (choose-new (nat_lt (length (after_closing c t.transactions)) 64) _ _ (record { is = λ y e. ap (λ (z : Transaction). z.stage) (sym (last-is (after_closing c t.transactions) _ y (none-closed T c t.transactions none) e)) }) (no-one _ (none-closed T c t.transactions none)))
          (choose-new (nat_eq (t.seen c) q.0) _ _ (again (begun_by c q t.transactions)) (no-one _ none))
        where
          again : (o : Option Transaction) → IsNew (begin_again t k c q o)
          again None = no-one _ none
          again (Some y) = no-one _ none
      by (messages.End c q U Ws) = on-one U (end_row t free k c q U Ws) refl (λ y e. end-its t k U y e free q Ws y.stage refl)
      by (messages.Abort c q U Ws) = on-one U (abort_request t k c U Ws) refl (λ y e. abort-stage-its t k U y e Ws y.stage refl)
      by (messages.Thanks c U) = on-one U (thanks_row t k U) refl (λ y e. thanks-its t k U y e y.stage refl)
      by (messages.Vote U W vote) = on-one U (vote_row t k U W vote) refl (λ y e. vote-its t k U y e W vote y.stage refl)
      by (messages.Done U W) = on-one U (done_row t k U W) refl (λ y e. done-its t k U y e W y.stage refl)
      by (messages.Inquire U W) = on-one U (inquire_row t k U W) refl (λ y e. told-its t k U y e U W y.stage)
      by m = no-one _ none

-- ---- a Done and a Thanks of one that has committed

module _ (w : Machine) (s : ServerNo) (t : CoordinatorTable) (k : Tickets) (all : AreTransactions w s t.transactions) (T : Tid) (x : Transaction) (d : Commitment) (found : transaction_at T t.transactions ≡ Some x) (stage : x.stage ≡ Committed d) where
  itself : tid_eq T T ≡ true
  itself = grind (arith, tid_tells T T)

  same-commit : (a b : Commitment) → Committed a ≡ Committed b → a ≡ b
  same-commit a b e = cc

  -- of what is left of it
  abbrev Leaves : (Commitment → Bool) → RowOutcome CoordinatorTable → Type 0
  Leaves P row = (y : Transaction) (now : Commitment) → transaction_at T row.table.transactions ≡ Some y → y.stage ≡ Committed now → P now ≡ true

  forgotten : (P : Commitment → Bool) (now : Commitment) → P now ≡ true → Leaves P (forget_row t k T now)
  forgotten P now h = by (now.thanked && all_in now.works now.done)
    where
      clash : (y : Transaction) → None ≡ Some y → ⊥
      clash y q = cc

      by : (b : Bool) → Leaves P (if b then record (quiet (record t { transactions = without T t.transactions }) k) { changes = DropFlag T ∷ [] } else quiet (staged t T (Committed now)) k)
      by true y a e f = absurd (clash y (sym (at-less w s T T t.transactions all ∙ ap (λ (b : Bool). if b then None else transaction_at T t.transactions) itself) ∙ e))
      by false y a e f = subst (λ (z : Commitment). P z ≡ true) (same-commit now a (ap (λ (z : Transaction). z.stage) (some-transaction (record x { stage = Committed now }) y
          (sym (at-stage T T (Committed now) t.transactions ∙ ap (λ (b : Bool). if b then in_stage (Committed now) (transaction_at T t.transactions) else transaction_at T t.transactions) itself ∙ ap (in_stage (Committed now)) found) ∙ e)) ∙ f)) h

  unchanged : (P : Commitment → Bool) → P d ≡ true → Leaves P (ignored t k)
  unchanged P h y a e f = subst (λ (z : Commitment). P z ≡ true) (same-commit d a (sym stage ∙ ap (λ (z : Transaction). z.stage) (some-transaction x y (sym found ∙ e)) ∙ f)) h

  choose-left : (P : Commitment → Bool) (b : Bool) (p q : RowOutcome CoordinatorTable) → (b ≡ true → Leaves P p) → (b ≡ false → Leaves P q) → Leaves P (if b then p else q)
  choose-left P true p q h l = h refl
  choose-left P false p q h l = l refl

  pub done-leaves : (W : WorkId) → is_work W d.works ≡ true → Leaves (λ now. is_work W now.done) (done_row t k T W (transaction_at T t.transactions))
  done-leaves W work = subst (λ o. Leaves (λ now. is_work W now.done) (done_row t k T W o)) (sym found) (subst (λ (z : Stage). Leaves (λ now. is_work W now.done) (done_stage t k T W z)) (sym stage)
      (choose-left (λ now. is_work W now.done) (is_work W d.works && not (is_work W d.done)) _ _ (λ e. forgotten (λ now. is_work W now.done) (record d { done = d.done ++ W ∷ [] }) (last d.done)) (λ e. unchanged (λ now. is_work W now.done) (grind (arith, work, e)))))
    where
      last : (Vs : List WorkId) → is_work W (Vs ++ W ∷ []) ≡ true
      last [] = grind (arith, work_tells W W)
      last (V ∷ Vs) = let again = last Vs in grind arith

  pub thanks-leaves : (c : ClientNo) → Leaves (λ now. now.thanked) (thanks_row t k T (transaction_at T t.transactions))
  thanks-leaves c = subst (λ o. Leaves (λ now. now.thanked) (thanks_row t k T o)) (sym found) (subst (λ (z : Stage). Leaves (λ now. now.thanked) (thanks_stage t k T z)) (sym stage)
      (choose-left (λ now. now.thanked) d.thanked _ _ (λ e. unchanged (λ now. now.thanked) e) (λ e. forgotten (λ now. now.thanked) (record d { thanked = true }) refl)))
