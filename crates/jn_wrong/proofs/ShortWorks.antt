-- And of all that a worker's rows say of it.
use Rattle.jn_wrong.proofs.Common.{◌≡◌, ℕ, Bool, true, false, [], ◌∷◌, Option, Some, None, refl, if◌then◌else◌, nat_lt, ServerNo, WorkId, Tickets, Server, Resource, Need, Message, Work, StableState, is_going, RowOutcome, Sent, WorkerTable, WorkStorage, Held, shortage, vote_of, need_in, conflict, commit_wants, worker_row, work_at, worker_step, worker_again, IsShort}
use Rattle.jn_base.specs.declared.names.Resource.TheVariants as resources
use Rattle.jn_msgs.specs.declared.message.Message.TheVariants as messages
use Rattle.jn_msgs.specs.declared.message.Vote.TheVariants as votes
use Rattle.jn_system.proofs.WholeSystem.WorkerCases.{Replies, votes_against, WorkerCase, none_done, replies_only, marks_it, drops_it, removes_it, WorkerStep, is_over, worker-case, worker-step-case}
use Rattle.jn_wrong.proofs.ShortRows.{OfMessage, OfVote, OfAll}

module _ (P : ServerNo → Resource → ℕ → ℕ → Type 0) where
  -- what a row sends is said truly
  abbrev Says : RowOutcome WorkerTable → Type 0
  Says row = OfAll P row.messages

  module _ (t : WorkerTable) (s : WorkStorage) (k : Tickets) where
    -- it refuses for want of room only where it is short
    short-vote : (W : WorkId) (free need : Need) → ((n : Resource) (f d : ℕ) → IsShort free n f d → P W.server n f d) → (held : Option Held) → OfVote P W (vote_of held (shortage free need))
    short-vote W free need short (Some held) = tt
    short-vote W free need short None = by (nat_lt free.records need.records) refl (nat_lt free.pages need.pages) refl (nat_lt free.heads need.heads) refl
      where
        by : (a : Bool) → nat_lt free.records need.records ≡ a → (b : Bool) → nat_lt free.pages need.pages ≡ b → (c : Bool) → nat_lt free.heads need.heads ≡ c
            → OfVote P W (vote_of None (if a then Some (votes.Full resources.Records free.records need.records) else (if b then Some (votes.Full resources.Pages free.pages need.pages) else (if c then Some (votes.Full resources.Heads free.heads need.heads) else None))))
        by true e b f c g = short resources.Records free.records need.records (record { has_is = refl; less = e })
        by false e true f c g = short resources.Pages free.pages need.pages (record { has_is = refl; less = f })
        by false e false f true g = short resources.Heads free.heads need.heads (record { has_is = refl; less = g })
        by false e false f false g = tt

    pub works-so : ((W : WorkId) (w : Work) → work_at W t ≡ Some w → (n : Resource) (f d : ℕ) → IsShort s.free n f d → P w.name.server n f d) → (m : Message) → Says (worker_row t s k m)
    works-so short m = by m (worker_row t s k m) (worker-case t s k m)
      where
        reply : (m : Message) (x : Sent) → Replies t s k m x → OfMessage P x.1
        reply _ _ (votes_against T c W w a e f v) = short-vote w.name s.free (need_in s.maps s.state.files a.list) (short W w e) (conflict w.name (commit_wants a.writes) t)
        reply m x r = tt

        by : (m : Message) (row : RowOutcome WorkerTable) → WorkerCase t s k m row → Says row
        by _ _ (none_done m) = tt
        by _ _ (replies_only m x r) = (reply m x r, tt)
        by _ _ (marks_it T W w p e f g) = tt
        by _ _ (drops_it T W w e f) = tt
        by _ _ (removes_it T W w p e f g) = tt
        by m row case = (tt, tt)

    pub steps-so : (row : RowOutcome WorkerTable) → worker_step t s k ≡ Some row → Says row
    steps-so row h = by row (worker-step-case t s k row h)
      where
        by : (row : RowOutcome WorkerTable) → WorkerStep t s k row → Says row
        by _ (is_over w e f) = (tt, tt)
        by row case = tt

  pub asks-so : (x : StableState) (t : WorkerTable) → OfAll P (worker_again x t)
  asks-so x [] = tt
  asks-so x (w ∷ ws) = by (is_going (x.works w.name)) (asks-so x ws)
    where
      by : (b : Bool) → OfAll P (worker_again x ws) → OfAll P (if b then worker_again x ws else (Server w.tid.server, messages.Inquire w.tid w.name) ∷ worker_again x ws)
      by true h = h
      by false h = (tt, h)
