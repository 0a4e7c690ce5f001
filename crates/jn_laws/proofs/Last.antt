-- The vote that is the last Ready of its transaction commits it.
use Rattle.jn_laws.proofs.Common.{◌≡◌, ◌≢◌, ◌⊎◌, inl, inr, ℕ, Bool, true, false, List, [], ◌∷◌, ◌++◌, Option, Some, refl, sym, ◌∙◌, ap, subst, arith, ◌||◌, ◌&&◌, if◌then◌else◌, ServerNo, Tid, WorkId, Server, work_eq, work_tells, RowOutcome, ignored, quiet, CoordinatorTable, is_work, all_in, with_work, vote_row, vote_stage, counted_vote, commit_row, staged, Memory, of_coordinator, transaction-named, Setup, Moment, DoesStep, CutShort, HandsOver, Answer, of_row, of_server, its_answer, IsGiven, IsStopped, IsVoting, IsLast, commits_with, Transaction}
use Rattle.jn_msgs.specs.declared.message.Message.TheVariants.{Vote}
use Rattle.jn_msgs.specs.declared.message.Vote.TheVariants.{Ready}
use Rattle.jn_rows.specs.declared.coordinator.Stage.{Stage}
use Rattle.jn_rows.specs.declared.coordinator.Stage.TheVariants.{Voting}
use Rattle.jn_rows.specs.declared.coordinator.Voting.{Voting as Ballot}
use Rattle.jn_laws.proofs.Handing.{itself}
use Rattle.jn_laws.proofs.Answering.{answered}

-- ---- all are ready

left-or : (a b : Bool) → a ≡ true → (a || b) ≡ true
left-or a b e = grind arith

right-or : (a b : Bool) → b ≡ true → (a || b) ≡ true
right-or a b e = grind arith

same-work : (W : WorkId) → work_eq W W ≡ true
same-work W = itself work_eq W (work_tells W W)

in-front : (V : WorkId) (Ws more : List WorkId) → is_work V Ws ≡ true → is_work V (Ws ++ more) ≡ true
in-front V [] more e = absurd (cc e)
in-front V (W ∷ Ws) more e = let on = in-front V Ws more in grind (arith, e, on)

at-end : (W : WorkId) (Ws : List WorkId) → is_work W (Ws ++ W ∷ []) ≡ true
at-end W [] = left-or (work_eq W W) false (same-work W)
at-end W (V ∷ Ws) = right-or (work_eq V W) (is_work W (Ws ++ W ∷ [])) (at-end W Ws)

its-own : (W : WorkId) (Ws : List WorkId) → is_work W (with_work W Ws) ≡ true
its-own W Ws = by (is_work W Ws) refl
  where
    by : (b : Bool) → is_work W Ws ≡ b → is_work W (if b then Ws else Ws ++ W ∷ []) ≡ true
    by true e = e
    by false e = at-end W Ws

another : (V W : WorkId) (Ws : List WorkId) → is_work V Ws ≡ true → is_work V (with_work W Ws) ≡ true
another V W Ws e = by (is_work W Ws)
  where
    by : (b : Bool) → is_work V (if b then Ws else Ws ++ W ∷ []) ≡ true
    by true = e
    by false = in-front V Ws (W ∷ []) e

all-there : (Vs Ws : List WorkId) → ((V : WorkId) → is_work V Vs ≡ true → is_work V Ws ≡ true) → all_in Vs Ws ≡ true
all-there [] Ws each = refl
all-there (V ∷ Vs) Ws each = both (is_work V Ws) (all_in Vs Ws) (each V (left-or (work_eq V V) (is_work V Vs) (same-work V))) (all-there Vs Ws (λ U e. each U (right-or (work_eq V U) (is_work U Vs) e)))
  where
    both : (a b : Bool) → a ≡ true → b ≡ true → (a && b) ≡ true
    both a b e f = grind arith

are-ready : (W : WorkId) (b : Ballot) → IsLast W b → all_in b.works (with_work W b.ready) ≡ true
are-ready W b last = all-there b.works (with_work W b.ready) each
  where
    each : (V : WorkId) → is_work V b.works ≡ true → is_work V (with_work W b.ready) ≡ true
    each V e = by (work_tells V W)
      where
        by : ((work_eq V W ≡ true) × (V ≡ W)) ⊎ ((work_eq V W ≡ false) × (V ≢ W)) → is_work V (with_work W b.ready) ≡ true
        by (inl t) = subst (λ (U : WorkId). is_work U (with_work W b.ready) ≡ true) (sym t.1) (its-own W b.ready)
        by (inr t) = another V W b.ready (last.others V e t.0)

-- ---- its row

module _ (x : Setup) (a : Moment) (k : ℕ) (q : ServerNo) (T : Tid) (W : WorkId) (v : IsVoting a.state.course.world q T) (last : IsLast W v.ballot) where
  abbrev t : CoordinatorTable
  t = v.memory.coordinator

  row-is : vote_row t v.memory.tickets T W Ready (Some v.transaction) ≡ commit_row t v.memory.tickets v.transaction v.ballot.request v.ballot.works
  row-is = ap (λ (stage : Stage). vote_stage t v.memory.tickets v.transaction W Ready stage) v.votes
      ∙ ap (λ (its : Bool). if its then counted_vote t v.memory.tickets v.transaction v.ballot W Ready else ignored t v.memory.tickets) last.its
      ∙ ap (λ (all : Bool). if all then commit_row t v.memory.tickets v.transaction v.ballot.request v.ballot.works
      else quiet (staged t v.transaction.tid (Voting (record v.ballot { ready = with_work W v.ballot.ready }))) v.memory.tickets) (are-ready W v.ballot last)

  answer-is : its_answer x a k (Server q) (Vote T W Ready) ≡ commits_with T v.transaction v.ballot
  answer-is = ap (λ (o : Option Memory). of_server x a k q (Vote T W Ready) o) v.up
      ∙ ap (λ (o : Option Transaction). of_row q k (of_coordinator v.memory (vote_row t v.memory.tickets T W Ready o))) v.is
      ∙ ap (λ (row : RowOutcome CoordinatorTable). of_row q k (of_coordinator v.memory row)) row-is
      ∙ ap (λ (U : Tid). commits_with U v.transaction v.ballot) (transaction-named T t.transactions v.transaction v.is)

pub last-ready : (x : Setup) (a b : Moment) (d : DoesStep x a b) (k : ℕ) (q : ServerNo) (T : Tid) (W : WorkId) (v : IsVoting a.state.course.world q T) → HandsOver x a b d k (Server q) (Vote T W Ready) → IsLast W v.ballot
    → b.state.stage ≢ CutShort → (IsStopped a b (Server q) → ⊥) → IsGiven x a b d (Server q) (commits_with T v.transaction v.ballot)
last-ready x a b d k q T W v hands last goes whole = subst (λ (answer : Answer). IsGiven x a b d (Server q) answer) (answer-is x a k q T W v last) (answered x a b d k (Server q) (Vote T W Ready) hands goes whole).0
