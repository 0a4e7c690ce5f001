-- Devices at which no fault waits strike nothing, and stay so.
use Rattle.jn_headline.proofs.Common.{◌≡◌, ◌≢◌, ◌⊎◌, inl, inr, ℕ, ◌<◌, Bool, true, false, List, [], Option, Some, None, is_some, refl, sym, ◌∙◌, ap, subst, not, if◌then◌else◌, slice_get, ServerNo, ClientNo, Tid, Client, Server, server_eq, server_tells, Message, DeviceState, RowOutcome, Sent, Pick, stable, World, Memory, at_server, Room, server_row, server_step, of_coordinator, restored, Deliver, Work, Nudge, Crash, Restart, CloseClients, after, at_memory, handed, work, works, nudge, crash, close_clients, restart, took, Setup, Chance, Devices, IsCalled, IsRecovery, ClientTable, take_row}
use Rattle.jn_records.specs.StablePages.{Counts}
use Rattle.jn_base.specs.declared.names.WorkId.{WorkId}
use Rattle.jn_device.specs.Events.{powered_off}
use Rattle.jn_rows.specs.declared.client.Taken.{Taken}
use Rattle.jn_rows.specs.declared.client.Taken.TheVariants as taken
use Rattle.jn_rows.specs.Coordinator.{close_clients_row}
use Rattle.jn_machine.proofs.Struck.{nothing-strikes}
use Rattle.jn_machine.proofs.Called.{called-later}

-- each server that is up has power, and no device has reported a fault or lets one wait
pub record IsQuiet (x : Setup) (w : World) (ds : Devices) : Type 0 where
  pub power : (q : ServerNo) → q.0 < x.servers → is_some (w.memory q) ≡ true → (ds q).power ≡ true
  pub told : (q : ServerNo) → q.0 < x.servers → (ds q).told ≡ []
  pub waiting : (q : ServerNo) → q.0 < x.servers → (ds q).waiting ≡ []

-- ---- which servers are up

-- it was up before
abbrev pub WasUp : World → World → ServerNo → Type 0
WasUp w now q = is_some (now.memory q) ≡ true → is_some (w.memory q) ≡ true

module _ (w : World) (q : ServerNo) where
  stays : (now : World) → now.memory ≡ w.memory → WasUp w now q
  stays now e h = ap (λ (f : ServerNo → Option Memory). is_some (f q)) (sym e) ∙ h

  at-up : (s : ServerNo) (m n : Memory) (now : World) → w.memory s ≡ Some m → now.memory ≡ at_server w.memory s (Some n) → WasUp w now q
  at-up s m n now up e h = by (server_tells s q)
    where
      by : ((server_eq s q ≡ true) × (s ≡ q)) ⊎ ((server_eq s q ≡ false) × (s ≢ q)) → is_some (w.memory q) ≡ true
      by (inl t) = ap (λ (z : ServerNo). is_some (w.memory z)) (sym t.1) ∙ ap is_some up
      by (inr t) = ap (λ (b : Bool). is_some (if b then Some n else w.memory q)) (sym t.0) ∙ ap (λ (f : ServerNo → Option Memory). is_some (f q)) (sym e) ∙ h

  took-up : (c : ClientNo) (k : ℕ) (t : ClientTable) (r : Taken) → (took c k t r w).memory ≡ w.memory
  took-up c k t taken.Ignored = refl
  took-up c k t (taken.Send to message) = refl
  took-up c k t (taken.Told line answer) = refl

  -- a message that is handed over
  pub delivered-up : (k : ℕ) (room : Room) → WasUp w (after (Deliver k room) w) q
  delivered-up k room = by (slice_get w.sent k)
    where
      at : (s : ServerNo) (message : Message) (o : Option Memory) → w.memory s ≡ o → WasUp w (at_memory s k room None message o w) q
      at s message None e = λ h. h
      at s message (Some m) e = at-up s m (server_row m (stable (w.found s)) room message).table (at_memory s k room None message (Some m) w) e refl

      by : (o : Option Sent) → WasUp w (handed k room None o w) q
      by None = λ h. h
      by (Some (Client c, message)) = stays (took c k (take_row (w.clients c) message).0 (take_row (w.clients c) message).1 w) (took-up c k (take_row (w.clients c) message).0 (take_row (w.clients c) message).1)
      by (Some (Server s, message)) = at s message (w.memory s) refl

  pub worked-up : (s : ServerNo) (room : Room) → WasUp w (after (Work s room) w) q
  worked-up s room = by (w.memory s) refl
    where
      at : (m : Memory) → w.memory s ≡ Some m → (o : Option (RowOutcome Memory)) → WasUp w (works s None o w) q
      at m e None = λ h. h
      at m e (Some row) = at-up s m row.table (works s None (Some row) w) e refl

      by : (o : Option Memory) → w.memory s ≡ o → WasUp w (work s room None o w) q
      by None e = λ h. h
      by (Some m) e = at m e (server_step m (stable (w.found s)) room)

  pub nudged-up : (s : ServerNo) → WasUp w (after (Nudge s) w) q
  nudged-up s = by (w.memory s)
    where
      by : (o : Option Memory) → WasUp w (nudge s o w) q
      by None = λ h. h
      by (Some m) = λ h. h

  pub closed-up : (s : ServerNo) → WasUp w (after (CloseClients s) w) q
  closed-up s = by (w.memory s) refl
    where
      by : (o : Option Memory) → w.memory s ≡ o → WasUp w (close_clients s o w) q
      by None e = λ h. h
      by (Some m) e = at-up s m (of_coordinator m (close_clients_row m.coordinator m.tickets)).table (close_clients s (Some m) w) e refl

  pub crashed-up : (s : ServerNo) → WasUp w (after (Crash s) w) q
  crashed-up s = by (w.memory s)
    where
      by : (o : Option Memory) → WasUp w (crash s o w) q
      by None = λ h. h
      by (Some m) = at (server_tells s q)
        where
          at : ((server_eq s q ≡ true) × (s ≡ q)) ⊎ ((server_eq s q ≡ false) × (s ≢ q)) → WasUp w (crash s (Some m) w) q
          at (inl t) h = absurd (clash (ap (λ (b : Bool). is_some (if b then None else w.memory q)) (sym t.0) ∙ h))
            where
              clash : false ≡ true → ⊥
              clash z = cc
          at (inr t) h = ap (λ (b : Bool). is_some (if b then None else w.memory q)) (sym t.0) ∙ h

  -- and another server than the one that comes up
  pub restarted-up : (s : ServerNo) (pick : Pick) (Ws : List WorkId) (Ts : List Tid) → server_eq s q ≡ false → WasUp w (after (Restart s pick Ws Ts) w) q
  restarted-up s pick Ws Ts e = by (w.memory s)
    where
      by : (o : Option Memory) → WasUp w (restart s pick Ws Ts o w) q
      by None h = ap (λ (b : Bool). is_some (if b then Some (restored s (w.found s pick) Ws Ts) else w.memory q)) (sym e) ∙ h
      by (Some m) h = h

-- ---- a device that is called

pub record Calm (h : Chance) (e : DeviceState) : Type 0 where
  pub stop : h.stop ≡ None
  pub told : h.told ≡ []
  pub power : e.power ≡ true
  pub nothing_told : e.told ≡ []
  pub nothing_waits : e.waiting ≡ []

pub called-calm : (most : ℕ) (h : Chance) (d e : DeviceState) → IsCalled most h d e → d.power ≡ true → d.told ≡ [] → d.waiting ≡ [] → Calm h e
called-calm most h d e c on none quiet = let still = nothing-strikes most h d e c on none quiet in record {
  stop = still.0;
  told = still.1;
  power = ap (λ (f : DeviceState). f.power) c.after ∙ lit c.last.power (sym (ap is_some still.0) ∙ c.stop);
  nothing_told = ap (λ (f : DeviceState). f.told) c.after;
  nothing_waits = ap (λ (f : DeviceState). f.waiting) c.after ∙ (let later = called-later most h d e c in later.quiet) quiet;
}
  where
    lit : (power : Bool) → false ≡ not power → power ≡ true
    lit true k = refl
    lit false k = absurd (clash k)
      where
        clash : false ≡ true → ⊥
        clash z = cc

pub record Raised (h : Chance) (up : Bool) (e : DeviceState) : Type 0 where
  pub stop : h.stop ≡ None
  pub told : h.told ≡ []
  pub power : up ≡ true → e.power ≡ true
  pub nothing_told : e.told ≡ []
  pub nothing_waits : e.waiting ≡ []

pub recovered-calm : {s : ServerNo} (g : Counts) (h : Chance) (up : Bool) (d e : DeviceState) → IsRecovery s g h up d e → d.told ≡ [] → d.waiting ≡ [] → Raised h up e
recovered-calm g h up d e r none quiet = record {
  stop = calm.stop;
  told = calm.told;
  power = on up r.after;
  nothing_told = silent up r.after;
  nothing_waits = still up r.after;
}
  where
    calm : Calm h r.last
    calm = called-calm _ h r.powered r.last r.called r.power.power_is (r.power.told ∙ none) (r.power.waiting ∙ quiet)

    on : (b : Bool) → e ≡ (if b then r.last else powered_off r.last) → b ≡ true → e.power ≡ true
    on true k z = ap (λ (f : DeviceState). f.power) k ∙ calm.power
    on false k z = absurd (clash z)
      where
        clash : false ≡ true → ⊥
        clash z = cc

    silent : (b : Bool) → e ≡ (if b then r.last else powered_off r.last) → e.told ≡ []
    silent true k = ap (λ (f : DeviceState). f.told) k ∙ calm.nothing_told
    silent false k = ap (λ (f : DeviceState). f.told) k ∙ calm.nothing_told

    still : (b : Bool) → e ≡ (if b then r.last else powered_off r.last) → e.waiting ≡ []
    still true k = ap (λ (f : DeviceState). f.waiting) k ∙ calm.nothing_waits
    still false k = ap (λ (f : DeviceState). f.waiting) k ∙ calm.nothing_waits

-- ---- all devices

module _ (x : Setup) (w now : World) (ds es : Devices) (quiet : IsQuiet x w ds) where
  -- none is used
  pub quiet-same : ((q : ServerNo) → WasUp w now q) → ((q : ServerNo) → es q ≡ ds q) → IsQuiet x now es
  quiet-same up same = record {
    power = λ q l h. ap (λ (f : DeviceState). f.power) (same q) ∙ quiet.power q l (up q h);
    told = λ q l. ap (λ (f : DeviceState). f.told) (same q) ∙ quiet.told q l;
    waiting = λ q l. ap (λ (f : DeviceState). f.waiting) (same q) ∙ quiet.waiting q l;
  }

  -- one is used
  pub quiet-alone : (s : ServerNo) → ((q : ServerNo) → server_eq s q ≡ false → WasUp w now q) → ((q : ServerNo) → server_eq s q ≡ false → es q ≡ ds q)
      → (is_some (now.memory s) ≡ true → (es s).power ≡ true) → (es s).told ≡ [] → (es s).waiting ≡ [] → IsQuiet x now es
  quiet-alone s up same on none still = record {
    power = λ q l h. power q l h (server_tells s q);
    told = λ q l. told q l (server_tells s q);
    waiting = λ q l. waiting q l (server_tells s q);
  }
    where
      Tells : ServerNo → Type 0
      Tells q = ((server_eq s q ≡ true) × (s ≡ q)) ⊎ ((server_eq s q ≡ false) × (s ≢ q))

      power : (q : ServerNo) → q.0 < x.servers → is_some (now.memory q) ≡ true → Tells q → (es q).power ≡ true
      power q l h (inl t) = subst (λ (z : ServerNo). is_some (now.memory z) ≡ true → (es z).power ≡ true) t.1 on h
      power q l h (inr t) = ap (λ (f : DeviceState). f.power) (same q t.0) ∙ quiet.power q l (up q t.0 h)

      told : (q : ServerNo) → q.0 < x.servers → Tells q → (es q).told ≡ []
      told q l (inl t) = subst (λ (z : ServerNo). (es z).told ≡ []) t.1 none
      told q l (inr t) = ap (λ (f : DeviceState). f.told) (same q t.0) ∙ quiet.told q l

      waiting : (q : ServerNo) → q.0 < x.servers → Tells q → (es q).waiting ≡ []
      waiting q l (inl t) = subst (λ (z : ServerNo). (es z).waiting ≡ []) t.1 still
      waiting q l (inr t) = ap (λ (f : DeviceState). f.waiting) (same q t.0) ∙ quiet.waiting q l

  -- a server that is up is called
  pub quiet-called : (h : Chance) (s : ServerNo) → ((q : ServerNo) → WasUp w now q) → ((q : ServerNo) → server_eq s q ≡ false → es q ≡ ds q) → Calm h (es s) → IsQuiet x now es
  quiet-called h s up same calm = quiet-alone s (λ q e. up q) same (λ z. calm.power) calm.nothing_told calm.nothing_waits
