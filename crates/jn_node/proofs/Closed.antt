-- A server that went down, came up once more, and left the store of a sound image.
use Rattle.std.proofs.Common.{◌≡◌, ◌<◌, ℕ, suc, true, false, sym, ◌∙◌, ap, subst}
use Rattle.jn_base.specs.declared.names.ServerNo.{ServerNo}
use Rattle.jn_device.specs.Happens.{Happens, none}
use Rattle.jn_intent.specs.Scrubbing.{counts_in, IsIdle, Scrubbed}
use Rattle.jn_order.specs.Files.{Files}
use Rattle.jn_page_state.specs.Images.{IsImage}
use Rattle.jn_page_state.specs.Pages.{found_on}
use Rattle.jn_page_state.specs.Recoverable.{IsRecoverable}
use Rattle.jn_records.specs.StablePages.{Counts, page_count}
use Rattle.jn_recovery.specs.declared.load.Found.{Found}
use Rattle.jn_rows.specs.Stable.{StableState, Pick}
use Rattle.jn_server.specs.Restarting.{IsLeft, IsRestarted}
use Rattle.jn_server.specs.Seen.{ServerView}
use Rattle.jn_server.specs.Settled.{IsSettledState}
use Rattle.jn_storage.specs.Calls.{state}
use Rattle.jn_storage.specs.Storage.{Accounts}
use Rattle.jn_store.specs.Store.{StoreView, IsCalm}
use Rattle.jn_node.specs.Calls.{LeavesScrubbed}
use Rattle.jn_node.specs.Nodes.{IsRunning, running_of}
use Rattle.jn_node.specs.Running.{IsClosedTo, state_of}
use Rattle.jn_node.proofs.Moments.{Sees, same-state}
use Rattle.jn_node.proofs.Opened.{came-before-last, came-counts, one-more}

-- ---- the scrub, and down

module _ (v w : ServerView) (store : StoreView) (h : Scrubbed v.storage true w.storage) (left : IsLeft w store) where
  pub leaves-scrubbed : IsCalm v.storage.store → LeavesScrubbed v store
  leaves-scrubbed calm = record {
    count = subst (λ (a : Accounts). page_count (counts_in a) ≡ store.count) h.same left.recoverable.count;
    found = λ c. subst (λ (a : Accounts). found_on (counts_in a) store c ≡ state v.storage) h.same (left.found c ∙ h.unchanged c);
    image = λ idle. subst (IsImage v.storage.accounts.server (counts_in v.storage.accounts) (state v.storage).files) (sym left.same) (h.image calm idle);
    happens = λ from before. subst (λ (z : StoreView). Happens from z.device) (sym left.same) (h.called.later.store.happens from before);
  }

-- ---- all of it

-- the state that was found at the end, in the next epoch
module _ (s : ServerNo) (g : Counts) (v : ServerView) (runs : IsRunning s g v) (at : Sees g v) (settled : IsSettledState (state_of g (running_of v))) (store : StoreView) (left : IsLeft v store) where
  -- a restart may begin
  pub left-recoverable : IsRecoverable s g store
  left-recoverable = subst (λ q. IsRecoverable q g store) runs.its (subst (λ h. IsRecoverable v.storage.accounts.server h store) runs.counts left.recoverable)

  pub left-found : (c : Pick) → found_on g store c ≡ state_of g (running_of v)
  left-found c = subst (λ h. found_on h store c ≡ v.storage.found c) runs.counts (left.found c) ∙ runs.serves.works.serving.up c ∙ same-state g v at

  module _ (told : Found) (w : ServerView) (r : IsRestarted s g store told w) (last : StoreView) (h : LeavesScrubbed w last) where
    now-is : state w.storage ≡ record (state_of g (running_of v)) { epoch = suc (state_of g (running_of v)).epoch }
    now-is = r.loaded.found (λ n. false) ∙ ap (λ (x : StableState). record x { epoch = suc x.epoch }) (left-found r.loaded.before)

    idle : IsIdle w.storage
    idle = record {
      works = λ W. ap (λ (x : StableState). x.works W) now-is ∙ settled.works W;
      flags = λ T. ap (λ (x : StableState). x.flags T) now-is ∙ settled.flags T;
      rubbish = r.loaded.recovered.rubbish;
    }

    pub closed-to : IsClosedTo s g (running_of v) last
    closed-to = record {
      before_last = subst (λ (x : StableState). x.epoch < 4294967295) (left-found r.loaded.before) (came-before-last s g store told w r);
      found = λ c. subst (λ k. found_on k last c ≡ state w.storage) (came-counts s g store told w r) (h.found c) ∙ now-is
          ∙ ap (λ (n : ℕ). record (state_of g (running_of v)) { epoch = n }) (one-more (state_of g (running_of v)).epoch);
      image = subst (λ (f : Files). IsImage s g f last) (ap (λ (x : StableState). x.files) now-is)
          (subst (λ k. IsImage s k (state w.storage).files last) (came-counts s g store told w r)
          (subst (λ q. IsImage q (counts_in w.storage.accounts) (state w.storage).files last) r.loaded.server_is (h.image idle)));
      count = subst (λ k. page_count k ≡ last.count) (came-counts s g store told w r) h.count;
      happens = h.happens v.storage.store.device (r.loaded.recovering.later.happens v.storage.store.device
          (subst (λ (z : StoreView). Happens v.storage.store.device z.device) (sym left.same) (none v.storage.store.device)));
    }
