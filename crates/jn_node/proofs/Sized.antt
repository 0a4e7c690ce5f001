-- A server that is up has the sizes that its rows ask for.
use Rattle.std.proofs.Common.{◌≡◌, ℕ, Bool, true, false, List, [], ◌∷◌, Option, Some, None, refl, sym, ◌∙◌, ap, arith}
use Rattle.std.specs.Prelude.{if◌then◌else◌, is_some}
use Rattle.jn_base.specs.declared.names.ServerNo.{ServerNo}
use Rattle.jn_base.specs.declared.names.ClientNo.{ClientNo}
use Rattle.jn_base.specs.declared.names.Tid.{Tid}
use Rattle.jn_base.specs.Names.{tid_eq}
use Rattle.jn_rows.specs.declared.worker.Work.{Work}
use Rattle.jn_rows.specs.declared.coordinator.Transaction.{Transaction}
use Rattle.jn_rows.specs.declared.coordinator.Stage.{Stage}
use Rattle.jn_rows.specs.declared.coordinator.Stage.TheVariants.{Open, Voting, Committed, Aborted}
use Rattle.jn_rows.specs.Stable.{Prepared, FlagState}
use Rattle.jn_rows.specs.Worker.{work_at}
use Rattle.jn_lock_rows.specs.Matching.{are_rising}
use Rattle.jn_storage.specs.Calls.{state}
use Rattle.jn_worker.specs.Fitting.{WorkFits}
use Rattle.jn_coord.specs.Calls.{flag_told, committed_as, committed_at as told_at}
use Rattle.jn_server.specs.Seen.{ServerView, IsServer, memory_of}
use Rattle.jn_row_ranges.specs.Naming.{are_transactions_within}
use Rattle.jn_row_ranges.specs.Within.{MemoryWithin}
use Rattle.jn_row_ranges.specs.Sizes.{are_small_stages, committed_at, HasSizes}
use Rattle.jn_rows.specs.Coordinator.{is_committed}

stages-small : (n : ℕ) (xs : List Transaction) → are_transactions_within n xs ≡ true → are_small_stages n xs ≡ true
stages-small n [] h = refl
stages-small n (x ∷ xs) h = let again = stages-small n xs in grind (arith, h)

work-live : (o : Option Work) (p : Option Prepared) → WorkFits o p → is_some p ≡ true → is_some o ≡ true
work-live (Some w) p h s = refl
work-live None None h s = s
work-live None (Some p) h s = absurd h

flag-there : (o : Option FlagState) → is_some o ≡ true → is_some (flag_told o) ≡ true
flag-there None h = h
flag-there (Some f) h = refl

stage-committed : (c : ClientNo) (s : Stage) → is_some (committed_as c s) ≡ true → is_committed s ≡ true
stage-committed c (Committed d) h = refl
stage-committed c Open h = h
stage-committed c (Voting b) h = h
stage-committed c (Aborted cause) h = h

committed-told : (T : Tid) (xs : List Transaction) → is_some (told_at T xs) ≡ true → committed_at T xs ≡ true
committed-told T [] h = h
committed-told T (x ∷ xs) h = by (tid_eq x.tid T) h (committed-told T xs)
  where
    by : (b : Bool) → is_some (if b then committed_as x.client x.stage else told_at T xs) ≡ true → (is_some (told_at T xs) ≡ true → committed_at T xs ≡ true)
        → (if b then is_committed x.stage else committed_at T xs) ≡ true
    by true e again = stage-committed x.client x.stage e
    by false e again = again e

pub sized : (s : ServerNo) (v : ServerView) → IsServer v → are_rising v.worker.table ≡ true → MemoryWithin 8 s (memory_of v) → HasSizes 8 (memory_of v) (state v.storage)
sized s v h rising within = record {
  works = h.works.few;
  orderly = record { rising = rising; before = h.works_before.live; live = λ W e. work-live (work_at W v.worker.table) ((state v.storage).works W) (h.works.stored W) e };
  transactions = h.transactions.few;
  stages = stages-small 8 v.coordinator.transactions within.transactions;
  flags = λ T e. committed-told T v.coordinator.transactions (ap is_some (sym (h.transactions.flags T)) ∙ flag-there ((state v.storage).flags T) e);
}
