-- What is sent about the vote of a transaction is sent for a message about it.
use Rattle.jn_system_settling.proofs.Common.{◌≡◌, ℕ, Bool, true, false, List, [], ◌∷◌, ◌++◌, refl, arith, ◌&&◌, not, ClientNo, Tid, WorkId, Tickets, tid_eq, Message, RowOutcome, Sent, WorkerTable, WorkStorage, worker_row, CoordinatorTable, besides, drops, commits, prepares, coordinator_row, Replies, votes_against, votes_broken, votes_again, votes_lost, WorkerCase, replies_only, prepares_it, worker-case, Saying, says_nothing, says_unknown, prepares_again, CoordinatorCase, is_left_by, starts_voting, is_committed_by, is_aborted_by, coordinator-case}
use Rattle.jn_msgs.specs.declared.message.Message.TheVariants as messages

-- an End, an Abort, a Prepare or a Vote of it
abbrev pub is_about : Tid → Message → Bool
is_about T (messages.End c q U works) = tid_eq U T
is_about T (messages.Abort c q U works) = tid_eq U T
is_about T (messages.Prepare U c W) = tid_eq U T
is_about T (messages.Vote U W vote) = tid_eq U T
is_about T message = false

-- none of these is about it
abbrev pub are_off : Tid → List Sent → Bool
are_off T [] = true
are_off T (x ∷ xs) = not (is_about T x.1) && are_off T xs

pub off-both : (T : Tid) (a b : List Sent) → are_off T a ≡ true → are_off T b ≡ true → are_off T (a ++ b) ≡ true
off-both T [] b h k = k
off-both T (x ∷ a) b h k = let again = off-both T a b in grind (arith, h, k)

off-drops : (T U : Tid) (Ws : List WorkId) → are_off T (drops U Ws) ≡ true
off-drops T U [] = refl
off-drops T U (W ∷ Ws) = off-drops T U Ws

pub off-commits : (T U : Tid) (Ws : List WorkId) → are_off T (commits U Ws) ≡ true
off-commits T U [] = refl
off-commits T U (W ∷ Ws) = off-commits T U Ws

off-prepares : (T U : Tid) (c : ClientNo) (Ws : List WorkId) → tid_eq U T ≡ false → are_off T (prepares U c Ws) ≡ true
off-prepares T U c [] h = refl
off-prepares T U c (W ∷ Ws) h = let again = off-prepares T U c Ws h in grind (arith, h)

-- ---- a worker's rows

module _ (T : Tid) (t : WorkerTable) (s : WorkStorage) (k : Tickets) where
  pub record Off (row : RowOutcome WorkerTable) : Type 0 where
    pub off : are_off T row.messages ≡ true

  pub worker-off : (m : Message) → is_about T m ≡ false → Off (worker_row t s k m)
  worker-off m h = by m (worker_row t s k m) h (worker-case t s k m)
    where
      one-vote : (U : Tid) → tid_eq U T ≡ false → (not (tid_eq U T) && true) ≡ true
      one-vote U h = grind (arith, h)

      reply : (m : Message) (x : Sent) → is_about T m ≡ false → Replies t s k m x → are_off T (x ∷ []) ≡ true
      reply _ _ h (votes_against U c W w a e f v) = one-vote U h
      reply _ _ h (votes_broken U c W w u held e f) = one-vote U h
      reply _ _ h (votes_again U c W w p e f g) = one-vote U h
      reply _ _ h (votes_lost U c W e) = one-vote U h
      reply m x h r = refl

      by : (m : Message) (row : RowOutcome WorkerTable) → is_about T m ≡ false → WorkerCase t s k m row → Off row
      by _ _ h (replies_only m x r) = record { off = reply m x h r }
      by _ _ h (prepares_it U c W w a e f v) = record { off = one-vote U h }
      by m row h case = record { off = refl }

-- ---- a coordinator's rows

module _ (T : Tid) (t : CoordinatorTable) (free : ℕ) (k : Tickets) where
  pub record OffRow (row : RowOutcome CoordinatorTable) : Type 0 where
    pub off : are_off T row.messages ≡ true

  says-off : (m : Message) (sent : List Sent) → is_about T m ≡ false → Saying t k m sent → are_off T sent ≡ true
  says-off _ _ h (says_nothing m W y asks found) = refl
  says-off _ _ h (says_unknown m c U works ends none) = off-drops T U works
  says-off _ _ h (prepares_again c q works y b found e) = off-prepares T y.tid y.client (besides b.works b.ready) h
  says-off _ _ h _ = refl

  case-off : (m : Message) (row : RowOutcome CoordinatorTable) → is_about T m ≡ false → CoordinatorCase t free k m row → are_off T row.messages ≡ true
  case-off _ _ h (is_left_by m sent says) = says-off m sent h says
  case-off _ _ h (starts_voting c q W Ws y found e room) = off-prepares T y.tid y.client (W ∷ Ws) h
  case-off _ _ h (is_committed_by m y q works found why) = off-both T (commits y.tid works) _ (off-commits T y.tid works) refl
  case-off _ _ h (is_aborted_by m y cause works found why) = off-both T (drops y.tid works) _ (off-drops T y.tid works) refl
  case-off _ _ h _ = refl

  pub coordinator-off : (m : Message) → is_about T m ≡ false → OffRow (coordinator_row t free k m)
  coordinator-off m h = record { off = case-off m _ h (coordinator-case t free k m) }
