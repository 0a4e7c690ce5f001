-- A server that came up.
use Rattle.std.proofs.Common.{◌≡◌, ◌≤◌, ◌<◌, ℕ, suc, true, false, [], length, sym, ◌∙◌, ap, subst, arith}
use Rattle.std.specs.Prelude.{◌+◌, is_some}
use Rattle.std.proofs.lemmas.Bool.Decides.{nat_tests}
use Rattle.jn_base.specs.declared.names.ServerNo.{ServerNo}
use Rattle.jn_device.specs.Happens.{none}
use Rattle.jn_intent.specs.Scrubbing.{counts_in}
use Rattle.jn_lock_rows.specs.Matching.{are_rising}
use Rattle.jn_msgs.specs.Ranges.{is_near}
use Rattle.jn_page_state.specs.Pages.{found_on}
use Rattle.jn_records.specs.StablePages.{Counts}
use Rattle.jn_recovery.specs.declared.load.Found.{Found}
use Rattle.jn_row_ranges.specs.Naming.{StateWithin}
use Rattle.jn_row_ranges.specs.Within.{MemoryWithin}
use Rattle.jn_row_ranges.proofs.ServerRows.{restored-within}
use Rattle.jn_rows.specs.Stable.{StableState, Pick}
use Rattle.jn_server.specs.Reading.{IsRoomOfPages, StandsOnPages}
use Rattle.jn_server.specs.Restarting.{IsRestarted}
use Rattle.jn_server.specs.Seen.{ServerView}
use Rattle.jn_storage.specs.Calls.{state}
use Rattle.jn_store.specs.Store.{StoreView, IsCalm}
use Rattle.jn_node.specs.Nodes.{IsRunning, running_of}
use Rattle.jn_node.specs.Running.{HoldsAll, IsOpen}
use Rattle.jn_node.proofs.Moments.{Sees, moment, same-beside, same-state, still-silent}

pub one-more : (n : ℕ) → suc n ≡ n + 1
one-more n = omega arith

near-eight : (s : ServerNo) → s.0 ≤ 7 → is_near 8 s ≡ true
near-eight s h = grind (arith, nat_tests, h)

module _ (s : ServerNo) (g : Counts) (v : StoreView) (told : Found) (w : ServerView) (r : IsRestarted s g v told w) where
  abbrev x : StableState
  x = found_on g v r.loaded.before

  pub came-counts : counts_in w.storage.accounts ≡ g
  came-counts = by w.storage.accounts.pool w.storage.accounts.heads w.storage.accounts.leaves r.loaded.pool r.loaded.heads r.loaded.leaves
    where
      by : (pool heads leaves : ℕ) → pool ≡ g.pool → heads ≡ g.heads → leaves ≡ g.leaves → record { pool = pool; heads = heads; leaves = leaves } ≡ g
      by pool heads leaves a b c = λ i. record { pool = a i; heads = b i; leaves = c i }

  pub came-before-last : x.epoch < 4294967295
  came-before-last = by told.epoch (state w.storage).epoch x.epoch r.loaded.epoch (ap (λ (y : StableState). y.epoch) (r.loaded.found (λ n. false))) r.loaded.epoch_fits
    where
      by : (a b c : ℕ) → a ≡ b → b ≡ suc c → a < 4294967296 → c < 4294967295
      by a b c d e f = omega (arith, d, e, f)

  no-earlier : (n e : ℕ) → n < e → n ≡ e → ⊥
  no-earlier n e a b = omega (arith, a, b)

  -- each work that it found is of an earlier epoch
  came-holds : Sees g w → HoldsAll g (running_of w)
  came-holds at W p there own first = absurd (no-earlier W.epoch (state w.storage).epoch
      (r.loaded.works_earlier W (ap is_some (ap (λ (y : StableState). y.works W) (same-state g w at) ∙ there))) (own ∙ sym (ap (λ (y : StableState). y.epoch) (same-state g w at))))

  module _ (calm : IsCalm v) (silent : v.told ≡ []) (low : s.0 ≤ 7) (names : (c : Pick) → StateWithin 8 (found_on g v c)) (at : Sees g w) (stands : StandsOnPages w) (room : IsRoomOfPages w) (order : are_rising w.worker.table ≡ true) where
    pub came-runs : IsRunning s g w
    came-runs = record {
      serves = r.serves;
      stands = stands;
      room = room;
      order = order;
      its = r.loaded.server_is;
      counts = came-counts;
      near = near-eight s low;
      within = subst (MemoryWithin 8 s) (sym r.remembers) (restored-within 8 s x r.works r.tids (names r.loaded.before));
      moment = moment s g w at r.loaded.server_is came-counts r.serves stands room (r.loaded.recovering.later.calm calm)
          (still-silent v w.storage.store r.loaded.recovering.later calm silent) (came-holds at);
    }

    pub came-open : IsOpen s g v (running_of w)
    came-open = record {
      pick = r.loaded.before;
      works = r.works;
      tids = r.tids;
      work_names = r.work_names;
      flag_names = r.flag_names;
      memory = r.remembers;
      found = λ c. ap (λ f. f c) (sym at) ∙ r.loaded.found c ∙ ap (λ (n : ℕ). record x { epoch = n }) (one-more x.epoch);
      before_last = came-before-last;
      beside = sym (same-beside g w at came-counts r.serves stands) ∙ (λ i. record { rubbish = length (r.loaded.recovered.rubbish i); maps = r.loaded.maps i; supplied = r.loaded.supplied i });
      happens = r.loaded.recovering.later.happens v.device (none v.device);
      moment = let on = came-runs in on.moment;
    }
