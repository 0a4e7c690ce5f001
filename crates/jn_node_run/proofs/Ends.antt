-- What is left, by the status.
use Rattle.jn_node_run.proofs.Common.{◌≡◌, ◌≤◌, ◌+◌, ℕ, Bool, true, false, List, length, Option, Result, Ok, Err, refl, sym, ap, subst, ◌∙◌, arith, true≢false, ◌↔◌, IsFalse, Has, image_name, AreWithin, IsClosed, NodeFault, EndsSettled, IsFound, NodeEnds, RefusedOwn, ServedWhole, ServedFront, last_epoch, epoch_found, node_done, node_not_loaded, node_refused, node_refusal_not_written, node_not_read, node_not_written, node_no_epoch, node_no_epoch_left, node_passed_limit, node_frame, node_unsettled, node_not_saved, node_no_memory, node_no_memory_inside, ServerKept, DiskKept, status_of, status_then, Node, Counts, DeviceState, Start, Streamed, StreamedFront, StreamsTo, start_of, Status, pairs_view, FailsToWrite, KeeperState, Outside, SinkState, SourceState, Writes, WritesFront}
use Rattle.std.proofs.Math.Seq.{take-length}
use Rattle.std.specs.Io.KnownBytes.{append_known}
use Rattle.jn_base.specs.declared.names.ServerNo.{ServerNo}
use Rattle.jn_image_files.specs.Examined.{IsRefused}
use Rattle.jn_image_files.specs.Texts.{refusal_text}
use Rattle.jn_image_files.specs.declared.refusal.Refusal.{Refusal}
use Rattle.jn_node.specs.Running.{Running, IsOpen, IsClosedTo, state_of}
use Rattle.jn_node.specs.Serving.{ServesFrames, sent_bytes}
use Rattle.jn_node.specs.declared.fault.NodeFault.TheVariants as faults
use Rattle.jn_server.specs.Settled.{IsSettledState}
use Rattle.jn_serving.specs.Input.{IsAtEnd, frames_of, most_piece}
use Rattle.jn_serving.specs.declared.fault.StreamFault.{StreamFault}
use Rattle.jn_serving.specs.declared.fault.StreamFault.TheVariants as streams
use Rattle.jn_status.specs.Refusing.{Refuses}
use Rattle.jn_status.specs.declared.status.Status.TheVariants as statuses

-- ---- what is written, and what is read

-- a text that was written is a front of itself
front-written : (text : List ℕ) (before after : SinkState) → Writes text before after → WritesFront text before after
front-written text before after w = record { took = (length text, w.took ∙ ap (λ (bytes : List ℕ). append_known before.taken bytes) (sym (take-length text))); faults = w.faults }

near-all : (n : ℕ) → n ≤ n + most_piece
near-all n = omega arith

-- the three are the same where a sink and a keeper are
outside-same : (source : SourceState) (sink sink' : SinkState) (keeper keeper' : KeeperState) → sink' ≡ sink → keeper' ≡ keeper → Path Outside (record { source = source; sink = sink'; keeper = keeper' }) (record { source = source; sink = sink; keeper = keeper })
outside-same source sink sink' keeper keeper' s k = ap (λ (y : SinkState). record { source = source; sink = y; keeper = keeper' }) s ∙ ap (λ (y : KeeperState). record { source = source; sink = sink; keeper = y }) k

-- memory ran out, and nothing was read or written
pub memory-ends : (node : Node) (source : SourceState) (sink sink' : SinkState) (keeper keeper' : KeeperState) → sink' ≡ sink → keeper' ≡ keeper
    → NodeEnds node (record { source = source; sink = sink; keeper = keeper }) (record { source = source; sink = sink'; keeper = keeper' }) statuses.Memory
memory-ends node source sink sink' keeper keeper' s k = node_no_memory (outside-same source sink sink' keeper keeper' s k)

-- ---- an image that is refused

module _ (node : Node) (source : SourceState) (sink sink' : SinkState) (keeper keeper' : KeeperState) (content : Option (List ℕ)) (has : Has keeper.kept (image_name node.opening node.server.0) content)
    (r : Refusal) (refused : (r.server ≡ node.server) × IsRefused node.server content r.cause) (same : keeper' ≡ keeper) where
  abbrev refused_from : Outside
  refused_from = record { source = source; sink = sink; keeper = keeper }

  abbrev refused_to : Outside
  refused_to = record { source = source; sink = sink'; keeper = keeper' }

  own : (Written : List ℕ → SinkState → SinkState → Type 0) → Written (refusal_text r) sink sink' → RefusedOwn node refused_from refused_to Written
  own Written w = record {
    content = content;
    has = has;
    cause = r.cause;
    refused = refused.1;
    written = subst (λ (q : ServerNo). Written (refusal_text (record { server = q; cause = r.cause })) sink sink') refused.0 w;
  }

  pub refused-ends : (status : Status) → Refuses (refusal_text r) statuses.Image sink status sink' → NodeEnds node refused_from refused_to status
  refused-ends statuses.Image h = node_refused (own Writes h.1) refl same
  refused-ends statuses.Write h = node_refusal_not_written (own FailsToWrite h) refl same
  refused-ends statuses.Memory h = memory-ends node source sink sink' keeper keeper' h same
  refused-ends statuses.Done h = absurd cc
  refused-ends statuses.Words h = absurd cc
  refused-ends statuses.Schedule h = absurd cc
  refused-ends statuses.Read h = absurd cc
  refused-ends statuses.Keep h = absurd cc
  refused-ends statuses.Limit h = absurd cc
  refused-ends statuses.Unsettled h = absurd cc
  refused-ends statuses.Frame h = absurd cc

-- ---- a server that doesn't come up

pub not-up : (node : Node) (outside : Outside) (found : IsFound node outside.keeper.kept) (fault : NodeFault) → (fault ≡ faults.UsedUp → epoch_found found ≡ last_epoch) → NodeEnds node outside outside (status_of fault)
not-up node outside found faults.UsedUp used = node_no_epoch found (used refl) refl
not-up node outside found faults.Memory used = node_no_memory refl

-- ---- a server that was served

module _ (node : Node) (keeper keeper' : KeeperState) (found : IsFound node keeper.kept) (first : Running) (opens : IsOpen node.server found.counts (pairs_view found.disk) first)
    (source source' : SourceState) (sink sink' : SinkState) (last : Running) where
  abbrev start : Start
  start = start_of node.server found.counts first source sink

  abbrev before : Outside
  before = record { source = source; sink = sink; keeper = keeper }

  abbrev after : Outside
  after = record { source = source'; sink = sink'; keeper = keeper' }

  abbrev told : Streamed start last source' sink' → ServedWhole node before after
  told t = record {
    read = t.read;
    gave = t.gave;
    served = record { found = found; first = first; opens = opens; sent = t.serves.sent; last = last; serves = t.serves.serves };
    written = t.serves.written;
  }

  front : (Written : List ℕ → SinkState → SinkState → Type 0) → StreamedFront start Written source' sink' → ServedFront node before after Written
  front Written t = record {
    read = t.read;
    gave = t.gave;
    front = t.front;
    near = t.near;
    served = record { found = found; first = first; opens = opens; sent = t.serves.sent; last = t.last; serves = t.serves.serves };
    written = t.serves.written;
  }

  -- all that was served is a front too
  whole : Streamed start last source' sink' → ServedFront node before after WritesFront
  whole t = record {
    read = t.read;
    gave = t.gave;
    front = length t.read;
    near = near-all (length t.read);
    served = record {
      found = found;
      first = first;
      opens = opens;
      sent = t.serves.sent;
      last = last;
      serves = subst (λ (bytes : List ℕ). ServesFrames node.server found.counts first (frames_of node.server bytes) t.serves.sent last) (sym (take-length t.read)) t.serves.serves;
    };
    written = front-written (sent_bytes node.server t.serves.sent) sink sink' t.serves.written;
  }

  -- the stream wasn't served to its end
  pub gives-up : (fault : StreamFault) (answer : Result (Unit {0}) StreamFault) → answer ≡ Err fault → StreamsTo start answer last source' sink' → keeper' ≡ keeper → NodeEnds node before after (status_then fault)
  gives-up streams.Read answer is s same = let t = s.not_read is in node_not_read (told t.0) t.1 t.2 t.3 same
  gives-up streams.Write answer is s same = let t = s.write is in node_not_written (front FailsToWrite t) t.calls same
  gives-up streams.TooLong answer is s same = let t = s.too_long is in node_passed_limit (told t.0) t.1 t.2 t.3 same
  gives-up streams.NoFrame answer is s same = let t = s.no_frame is in node_frame (told t.0) t.1 t.2 same
  gives-up streams.Memory answer is s same = let t = s.memory is in node_no_memory_inside (front WritesFront t) t.calls same

  -- it was, and then the server went down, or didn't
  module _ (t : Streamed start last source' sink') (end : IsAtEnd node.server source.left t.read) (calls : source'.faults ≡ source.faults) where
    abbrev ends : IsSettledState (state_of found.counts last) → EndsSettled node before after
    ends settled = record { told = told t; end = end; settled = settled; faults = calls }

    pub goes-down : (status : Status) → ServerKept node found.counts last keeper status keeper' → NodeEnds node before after status
    goes-down statuses.Done k = node_done (ends k.0) k.1
    goes-down statuses.Unsettled k = node_unsettled (told t) end k.0 calls k.1
    goes-down statuses.Limit k = node_no_epoch_left (ends k.0) k.1 k.2
    goes-down statuses.Keep k = node_not_saved (ends k.0) k.1 k.2
    goes-down statuses.Memory k = node_no_memory_inside (whole t) calls k
    goes-down statuses.Words k = absurd k
    goes-down statuses.Schedule k = absurd k
    goes-down statuses.Image k = absurd k
    goes-down statuses.Read k = absurd k
    goes-down statuses.Write k = absurd k
    goes-down statuses.Frame k = absurd k

-- ---- a server that goes down

-- what is known of it at first, by the number and the counts that it has
module _ (node : Node) (g own : Counts) (same : own ≡ g) (x : Running) (keeper : KeeperState) where
  -- nobody waits for it
  pub settled-so : (waits : Bool) → IsFalse waits ↔ IsSettledState (state_of own x) → waits ≡ false → IsSettledState (state_of own x)
  settled-so waits tells none = tells.0 none

  -- somebody waits
  pub stays-up : (waits : Bool) → IsFalse waits ↔ IsSettledState (state_of own x) → waits ≡ true → ServerKept node g x keeper statuses.Unsettled keeper
  stays-up waits tells some = subst (λ (h : Counts). ServerKept node h x keeper statuses.Unsettled keeper) same ((λ settled. true≢false (sym some ∙ tells.1 settled)), refl)

  -- it didn't come up once more
  pub not-down : (fault : NodeFault) → IsSettledState (state_of own x) → (fault ≡ faults.UsedUp → (state_of own x).epoch ≡ last_epoch) → ServerKept node own x keeper (status_of fault) keeper
  not-down faults.UsedUp settled used = (settled, used refl, refl)
  not-down faults.Memory settled used = refl

  pub fails-down : {A : Type 0} (r : Result A NodeFault) (fault : NodeFault) (status : Status) → r ≡ Err fault → status ≡ status_of fault → IsSettledState (state_of own x) → (r ≡ Err faults.UsedUp → (state_of own x).epoch ≡ last_epoch) → ServerKept node g x keeper status keeper
  fails-down r fault status is its settled used = subst (λ (s : Status). ServerKept node g x keeper s keeper) (sym its)
      (subst (λ (h : Counts). ServerKept node h x keeper (status_of fault) keeper) same (not-down fault settled (λ e. used (is ∙ ap (λ (f : NodeFault). Err f) e))))

  module _ (number : ServerNo) (its : number ≡ node.server) (d : DeviceState) (closed : IsClosedTo number own x (pairs_view d)) where
    closed-so : IsClosedTo node.server g x (pairs_view d)
    closed-so = subst (λ (h : Counts). IsClosedTo node.server h x (pairs_view d)) same (subst (λ (s : ServerNo). IsClosedTo s own x (pairs_view d)) its closed)

    -- its disk is that of a server that was closed
    pub is-closed : AreWithin g → IsClosed node.server g d
    is-closed within = record { within = within; files = (state_of g x).files; image = closed-so.image; count = closed-so.count }

    -- and was saved, or not
    pub saves-own : IsSettledState (state_of own x) → (keeper' : KeeperState) (status : Status) → DiskKept node g d keeper status keeper' → ServerKept node g x keeper status keeper'
    saves-own settled keeper' status k = by (subst (λ (h : Counts). IsSettledState (state_of h x)) same settled) status k
      where
        by : IsSettledState (state_of g x) → (status : Status) → DiskKept node g d keeper status keeper' → ServerKept node g x keeper status keeper'
        by still statuses.Done k = (still, record { disk = d; closed = closed-so; keeps = k })
        by still statuses.Keep k = (still, closed-so.before_last, k)
        by still statuses.Memory k = k
        by still statuses.Words k = absurd k
        by still statuses.Schedule k = absurd k
        by still statuses.Image k = absurd k
        by still statuses.Read k = absurd k
        by still statuses.Write k = absurd k
        by still statuses.Limit k = absurd k
        by still statuses.Unsettled k = absurd k
        by still statuses.Frame k = absurd k
