-- What a client has asked for stays known as its table changes.
use Rattle.jn_system_reports.proofs.Common.{◌≡◌, ◌≢◌, ◌⊎◌, inl, inr, ◌<◌, ◌≤◌, ℕ, List, Some, None, sym, ◌∙◌, ap, subst, arith, ServerNo, ClientNo, Tid, WorkId, Op, Command, Do, OpenWork, Outstanding, ClientTable, Machine, IsWorkOf, Opening, Has, Began, RequestNo}
use Rattle.jn_rows.specs.Client.{work_at}
use Rattle.jn_system_order.proofs.Ordering.Facts.{opening}
use Rattle.jn_system_reports.proofs.Reporting.Asking.{Asking}

-- the client took its beginning, and has gone on from it
pub record IsPast (os : List Opening) (c : ClientNo) (t : ClientTable) (T : Tid) : Type 0 where
  pub request : RequestNo
  pub has : Has (opening c request T) os
  pub drawn : request.0 < t.next
  pub over : t.transaction ≢ Some T
  pub answered : (o : Outstanding) → t.outstanding ≡ Some o → o.request ≢ request

-- the work is one of the client's transaction, and this many operations of it were asked for
pub record IsOpen (t : ClientTable) (T : Tid) (W : WorkId) (n : ℕ) : Type 0 where
  pub current : t.transaction ≡ Some T
  pub work : OpenWork
  pub found : work_at W.server t.works ≡ Some work
  pub named : work.work ≡ W
  pub counted : n ≤ work.last

pub record IsKnown (os : List Opening) (w : Machine) (c : ClientNo) (t : ClientTable) (W : WorkId) (n : ℕ) : Type 0 where
  pub tid : Tid
  pub of : IsWorkOf w tid W
  pub stands : IsOpen t tid W n ⊎ IsPast os c t tid

abbrev pub Does : Command → Op → Type 0
Does command op = (s : ServerNo) × (command ≡ Do s op)

pub record AskedFact (os : List Opening) (w : Machine) (t : ClientTable) (a : Asking) : Type 0 where
  pub drawn : a.request.0 < t.next
  -- where it is outstanding, it is what the client was told to do
  pub waits : (o : Outstanding) → t.outstanding ≡ Some o → o.request ≡ a.request → Does o.command a.op
  pub known : IsKnown os w a.client t a.work a.number.0

-- ---- growth of what is said

pub known-grows : (os os' : List Opening) (w v : Machine) (t : ClientTable) (a : Asking) → ((o : Opening) → Has o os → Has o os') → ((T : Tid) (W : WorkId) → IsWorkOf w T W → IsWorkOf v T W) → AskedFact os w t a → AskedFact os' v t a
known-grows os os' w v t a more grow h = record { drawn = h.drawn; waits = h.waits; known = record { tid = h.known.tid; of = grow h.known.tid a.work h.known.of; stands = by h.known.stands } }
  where
    by : IsOpen t h.known.tid a.work a.number.0 ⊎ IsPast os a.client t h.known.tid → IsOpen t h.known.tid a.work a.number.0 ⊎ IsPast os' a.client t h.known.tid
    by (inl p) = inl p
    by (inr p) = inr (record { request = p.request; has = more _ p.has; drawn = p.drawn; over = p.over; answered = p.answered })

-- ---- changes of the table

-- a work that is found stays, with no fewer operations
abbrev pub WorksStay : ClientTable → ClientTable → Type 0
WorksStay t u = (s : ServerNo) (v : OpenWork) → work_at s t.works ≡ Some v → (x : OpenWork) × (work_at s u.works ≡ Some x) × (x.work ≡ v.work) × (v.last ≤ x.last)

-- what is outstanding was so before, or its request is new
abbrev pub WaitsStay : ClientTable → ClientTable → Type 0
WaitsStay t u = (o : Outstanding) → u.outstanding ≡ Some o → (t.outstanding ≡ Some o) ⊎ (t.next ≤ o.request.0)

module _ (os : List Opening) (w : Machine) (t u : ClientTable) (a : Asking) (h : AskedFact os w t a) (next : t.next ≤ u.next) where
  drawn-on : (n : ℕ) → n < t.next → n < u.next
  drawn-on n k = omega (arith, next)

  not-new : (p q : RequestNo) → q.0 < t.next → t.next ≤ p.0 → p ≢ q
  not-new p q k l e = let same = ap (λ (z : RequestNo). z.0) e in omega (arith, k, l, same)

  with-known : WaitsStay t u → (IsOpen t h.known.tid a.work a.number.0 ⊎ IsPast os a.client t h.known.tid → IsOpen u h.known.tid a.work a.number.0 ⊎ IsPast os a.client u h.known.tid) → AskedFact os w u a
  with-known waits f = record { drawn = drawn-on a.request.0 h.drawn; waits = λ o e k. by o k (waits o e); known = record { tid = h.known.tid; of = h.known.of; stands = f h.known.stands } }
    where
      by : (o : Outstanding) → o.request ≡ a.request → (t.outstanding ≡ Some o) ⊎ (t.next ≤ o.request.0) → Does o.command a.op
      by o k (inl e) = h.waits o e k
      by o k (inr l) = absurd (not-new o.request a.request h.drawn l k)

  past-on : WaitsStay t u → (u.transaction ≡ Some h.known.tid → ⊥) → IsPast os a.client t h.known.tid → IsPast os a.client u h.known.tid
  past-on waits over p = record { request = p.request; has = p.has; drawn = drawn-on p.request.0 p.drawn; over = over; answered = λ o e. by o (waits o e) }
    where
      by : (o : Outstanding) → (t.outstanding ≡ Some o) ⊎ (t.next ≤ o.request.0) → o.request ≢ p.request
      by o (inl e) = p.answered o e
      by o (inr l) = not-new o.request p.request p.drawn l

  -- its transaction goes on
  pub goes-on : WaitsStay t u → u.transaction ≡ t.transaction → WorksStay t u → AskedFact os w u a
  goes-on waits same works = with-known waits by
    where
      counts : (v x : OpenWork) → v.last ≤ x.last → a.number.0 ≤ v.last → a.number.0 ≤ x.last
      counts v x k l = omega (arith, k, l)

      by : IsOpen t h.known.tid a.work a.number.0 ⊎ IsPast os a.client t h.known.tid → IsOpen u h.known.tid a.work a.number.0 ⊎ IsPast os a.client u h.known.tid
      by (inl p) = let x = works a.work.server p.work p.found in inl (record { current = same ∙ p.current; work = x.0; found = x.1; named = x.2 ∙ p.named; counted = counts p.work x.0 x.3 p.counted })
      by (inr p) = inr (past-on waits (λ e. p.over (sym same ∙ e)) p)

  -- it is over
  pub ends : u.transaction ≡ None → u.outstanding ≡ None → ((T : Tid) → t.transaction ≡ Some T → Began os a.client t.next T) → AskedFact os w u a
  ends none idle began = with-known waits by
    where
      no-out : (o : Outstanding) → None ≡ Some o → ⊥
      no-out o e = cc

      no-tid : (T : Tid) → None ≡ Some T → ⊥
      no-tid T e = cc

      waits : WaitsStay t u
      waits o e = absurd (no-out o (sym idle ∙ e))

      by : IsOpen t h.known.tid a.work a.number.0 ⊎ IsPast os a.client t h.known.tid → IsOpen u h.known.tid a.work a.number.0 ⊎ IsPast os a.client u h.known.tid
      by (inl p) = let b = began h.known.tid p.current in inr (record { request = b.request; has = b.has; drawn = drawn-on b.request.0 b.drawn; over = λ e. no-tid h.known.tid (sym none ∙ e); answered = λ o e. absurd (no-out o (sym idle ∙ e)) })
      by (inr p) = inr (past-on waits (λ e. no-tid h.known.tid (sym none ∙ e)) p)

  -- one begins
  pub begins : (T : Tid) (o : Outstanding) → t.transaction ≡ None → t.outstanding ≡ Some o → u.transaction ≡ Some T → u.outstanding ≡ None → ((q : RequestNo) → Has (opening a.client q T) os → o.request ≡ q) → AskedFact os w u a
  begins T o none was now idle one = with-known waits by
    where
      no-out : (x : Outstanding) → None ≡ Some x → ⊥
      no-out x e = cc

      no-tid : (U : Tid) → None ≡ Some U → ⊥
      no-tid U e = cc

      same : (U : Tid) → Some T ≡ Some U → T ≡ U
      same U e = cc

      waits : WaitsStay t u
      waits x e = absurd (no-out x (sym idle ∙ e))

      by : IsOpen t h.known.tid a.work a.number.0 ⊎ IsPast os a.client t h.known.tid → IsOpen u h.known.tid a.work a.number.0 ⊎ IsPast os a.client u h.known.tid
      by (inl p) = absurd (no-tid h.known.tid (sym none ∙ p.current))
      by (inr p) = inr (past-on waits (λ e. p.answered o was (one p.request (subst (λ (U : Tid). Has (opening a.client p.request U) os) (sym (same h.known.tid (sym now ∙ e))) p.has))) p)
