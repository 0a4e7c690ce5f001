-- Each step of the whole system keeps each transaction with the client that began it.
use Rattle.jn_system_settling.proofs.Common.{◌≡◌, ◌≤◌, ℕ, true, List, [], ◌∷◌, ◌++◌, Option, Some, None, true≢false, refl, sym, subst, ServerNo, Message, StableState, Pick, Change, AddReady, MarkGoing, CarryOut, RemoveWork, AddFlag, DropFlag, stable, made_all, RowOutcome, Sent, WorkerTable, work_of, timed_out, with_epoch, World, Memory, Room, storage_of, server_row, of_worker, of_timeout, server_timeout, restored, Step, IsStep, after, UpFact, ServerFact, LockFacts, Opening, openings, openings-more, Sizes, outcomes-close, ServerRow, of_message, of_work, of_closing, StepCase, client_row, row_done, row_stopped, gone_late, gone_down, come_up, found_anew, dismissed, quietly, step-case, memory-now, memory-gone, found-now, found-then, row-either, row-of-step, grows, Left, left_of, keep_flags, worker-fits, step-fits}
use Rattle.jn_system_settling.proofs.Settling.SizeSteps.{orderly}
use Rattle.jn_system_settling.proofs.Settling.WorldSizes.{up-sizes}
use Rattle.jn_system_settling.proofs.AtRest.Owners.{Owner, owner_in, owner-more, all_owned, FlagsOwned, flags_owned, grown, coordinator-owned, coordinator-flags, prefix-owned, all-changed-owned, restored-owned, closes-owned, closes-flags-owned}

-- of one server
pub record ServerOwned (P : Owner) (o : Option Memory) (found : Pick → StableState) : Type 0 where
  pub table : (m : Memory) → o ≡ Some m → all_owned P m.coordinator.transactions ≡ true
  pub flags : (c : Pick) → FlagsOwned P (found c).flags

abbrev pub AreOwned : World → Type 0
AreOwned r = (s : ServerNo) → ServerOwned (owner_in (openings r.sent)) (r.memory s) (r.found s)

-- more is sent
more-owned : (os more : List Opening) (o : Option Memory) (found : Pick → StableState) → ServerOwned (owner_in os) o found → ServerOwned (owner_in (os ++ more)) o found
more-owned os more o found h = record {
  table = λ m e. grown (owner_in os) (owner_in (os ++ more)) (owner-more os more) m.coordinator.transactions (h.table m e);
  flags = λ c T f e. owner-more os more f.client T (h.flags c T f e);
}

-- flags that no change of a worker touches
works-owned : (P : Owner) (cs : List Change) → keep_flags cs ≡ true → flags_owned P cs ≡ true
works-owned P [] h = refl
works-owned P (AddReady head list reads ∷ cs) h = works-owned P cs h
works-owned P (MarkGoing W ∷ cs) h = works-owned P cs h
works-owned P (CarryOut W i ∷ cs) h = works-owned P cs h
works-owned P (RemoveWork W ∷ cs) h = works-owned P cs h
works-owned P (AddFlag flag ∷ cs) h = absurd (true≢false (sym h))
works-owned P (DropFlag T ∷ cs) h = absurd (true≢false (sym h))

-- what a row of a server has, over its messages
pub record MemoryOwned (os : List Opening) (row : RowOutcome Memory) : Type 0 where
  pub table : all_owned (owner_in (os ++ openings row.messages)) row.table.coordinator.transactions ≡ true
  pub flags : flags_owned (owner_in os) row.changes ≡ true

module _ (n : ℕ) (at_most : n ≤ 8) (w : World) (sizes : Sizes n w) (locks : LockFacts w) (owned : AreOwned w) where
  abbrev os : List Opening
  os = openings w.sent

  at-worker : (s : ServerNo) (m : Memory) (row : RowOutcome WorkerTable) → w.memory s ≡ Some m → keep_flags row.changes ≡ true → MemoryOwned os (of_worker m row)
  at-worker s m row up same = record {
    table = grown (owner_in os) (owner_in (os ++ openings row.messages)) (owner-more os (openings row.messages)) m.coordinator.transactions ((owned s).table m up);
    flags = works-owned (owner_in os) row.changes same;
  }

  row-owned : (s : ServerNo) (m : Memory) (room : Room) (message : Message) → w.memory s ≡ Some m → MemoryOwned os (server_row m (stable (w.found s)) room message)
  row-owned s m room message up = row-either (MemoryOwned os) m (stable (w.found s)) room message
      (let sizes = up-sizes n at_most w sizes locks s m up in let fits = worker-fits (storage_of m (stable (w.found s)) room) m.tickets m.worker message (orderly fact.table) sizes.works in at-worker s m _ up fits.flags)
      (let h = coordinator-owned os m.coordinator room.free.records m.tickets message ((owned s).table m up) in record { table = h.table; flags = coordinator-flags (owner_in os) m.coordinator room.free.records m.tickets message ((owned s).table m up) })
    where
      fact : UpFact s m (w.found s)
      fact = subst (λ o. ServerFact s o (w.found s)) up (locks s)

  row-of : (s : ServerNo) (m : Memory) (stop : Option (Pick → Left)) (step : Step) (k : Option ℕ) (row : RowOutcome Memory) → w.memory s ≡ Some m → ServerRow w s m stop step k row → MemoryOwned os row
  row-of s m _ _ _ _ up (of_message stop k room message is) = row-owned s m room message up
  row-of s m _ _ _ _ up (of_work stop room row is) = row-of-step (MemoryOwned os) m (stable (w.found s)) room row is
      (λ r e. let sizes = up-sizes n at_most w sizes locks s m up in let fits = step-fits (storage_of m (stable (w.found s)) room) m.tickets m.worker r sizes.works e in at-worker s m r up fits.flags)
  row-of s m _ _ _ _ up of_closing = let its = outcomes-close m.coordinator.transactions in record {
    table = closes-owned (owner_in (os ++ [])) its (grown (owner_in os) (owner_in (os ++ [])) (owner-more os []) m.coordinator.transactions ((owned s).table m up));
    flags = closes-flags-owned (owner_in os) its;
  }

  -- ---- every step

  -- the servers as they are, once this was sent
  abbrev AreOwnedBy : List Sent → Type 0
  AreOwnedBy sent = (q : ServerNo) → ServerOwned (owner_in (openings sent)) (w.memory q) (w.found q)

  sent-owned : (more : List Sent) → AreOwnedBy (w.sent ++ more)
  sent-owned more q = subst (λ l. ServerOwned (owner_in l) (w.memory q) (w.found q)) (sym (openings-more w.sent more)) (more-owned os (openings more) (w.memory q) (w.found q) (owned q))

  abbrev TableOwned : List Sent → Memory → Type 0
  TableOwned sent m = all_owned (owner_in (openings sent)) m.coordinator.transactions ≡ true

  abbrev StateOwned : List Sent → StableState → Type 0
  StateOwned sent x = FlagsOwned (owner_in (openings sent)) x.flags

  by-case : (step : Step) (now : World) → AreOwnedBy now.sent → StepCase w step now → AreOwned now
  by-case _ _ old (client_row _ c t sent lines row) = old
  by-case step _ old (row_done _ s m k row e is) = λ q. record {
    table = memory-now (TableOwned (w.sent ++ row.messages)) w.memory (λ q. (old q).table) s row.table (subst (λ l. all_owned (owner_in l) row.table.coordinator.transactions ≡ true) (sym more) r.table) q;
    flags = found-now (StateOwned (w.sent ++ row.messages)) w (λ q. (old q).flags) s (λ c. made_all row.changes (w.found s c)) now q;
  }
    where
      r : MemoryOwned os row
      r = row-of s m None step k row e is

      more : openings (w.sent ++ row.messages) ≡ os ++ openings row.messages
      more = openings-more w.sent row.messages

      now : (c : Pick) → StateOwned (w.sent ++ row.messages) (made_all row.changes (w.found s c))
      now c T f at = subst (λ l. owner_in l f.client T ≡ true) (sym more) (owner-more os _ f.client T (all-changed-owned (owner_in os) row.changes (w.found s c) r.flags ((owned s).flags c) T f at))
  by-case step _ old (row_stopped _ s m k row made e is) = let r = row-of s m (Some made) step k row e is in λ q. record {
    table = memory-gone (TableOwned w.sent) w.memory (λ q. (owned q).table) s q;
    flags = found-now (StateOwned w.sent) w (λ q. (owned q).flags) s (λ c. left_of (made c) row.changes (w.found s c)) (λ c. prefix-owned (owner_in os) row.changes (made c).whole (w.found s c) r.flags ((owned s).flags c)) q;
  }
  by-case _ _ old (gone_late s m T e) = λ q. record { table = memory-now (TableOwned w.sent) w.memory (λ q. (owned q).table) s (server_timeout m T) (same (timed_out m.worker (work_of T m.worker))) q; flags = (owned q).flags }
    where
      same : (o : Option WorkerTable) → TableOwned w.sent (of_timeout m o)
      same None = (owned s).table m e
      same (Some t) = (owned s).table m e
  by-case _ _ old (gone_down s m e) = λ q. record { table = memory-gone (TableOwned w.sent) w.memory (λ q. (owned q).table) s q; flags = (owned q).flags }
  by-case _ _ old (come_up s pick Ws Ts e) = λ q. record {
    table = memory-now (TableOwned w.sent) w.memory (λ q. (owned q).table) s (restored s (w.found s pick) Ws Ts) (restored-owned (owner_in os) (w.found s pick) Ts ((owned s).flags pick)) q;
    flags = found-now (StateOwned w.sent) w (λ q. (owned q).flags) s (λ c. with_epoch (w.found s pick)) (λ c. (owned s).flags pick) q;
  }
  by-case step _ old (found_anew _ s found lines e is) = λ q. record { table = (owned q).table; flags = found-then (StateOwned w.sent) w (λ q. (owned q).flags) s (λ x h. h) step found lines is q }
  by-case _ _ old dismissed = old
  by-case _ _ old (quietly _ event sent lines is) = old

  pub step-keeps-owned : (step : Step) → IsStep step w → AreOwned (after step w)
  step-keeps-owned step i = let g = grows w step in by-case step (after step w) (subst AreOwnedBy (sym g.sent) (sent-owned g.new)) (step-case w step)
