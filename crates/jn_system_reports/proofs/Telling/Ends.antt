-- A client ends its transaction: what was reported is what its works did.
use Rattle.jn_system_reports.proofs.Common.{◌≡◌, ◌≢◌, ◌⊎◌, inl, inr, ◌≤◌, ◌+◌, true, false, List, [], ◌∷◌, Option, Some, None, refl, sym, ◌∙◌, ap, subst, ServerNo, ClientNo, Tid, WorkId, Server, End, Event, Message, ActiveWork, OpenWork, Sent, ClientTable, Sends, names_of, Machine, Invariant, Atom, end_it, MayRun, Says, IsWorkOf, not_both, at_tid_here, at_tid_other, at_tid_cases, World, commanded, Mirrors, AreOpen, IsCurrent, found-open, is_closing, Facts, work_in, parts_of, request_of}
use Rattle.jn_msgs.specs.declared.message.Message.TheVariants as messages
use Rattle.jn_rows.specs.Client.{work_at}
use Rattle.jn_system.specs.SmallSteps.Steps.{run}
use Rattle.jn_system_reports.proofs.Telling.Atoms.{IsPresent}
use Rattle.jn_system_reports.proofs.Telling.Acting.{acting, acting-of-active}
use Rattle.jn_system_reports.proofs.Telling.Facts.{IsNumbered, IsRunningAt, IsPast, IsEndedAt, Talk}
use Rattle.jn_system_reports.proofs.Telling.Quiet.{map-all, past-more}

module _ (r : World) (w : Machine) (mirrors : Mirrors r w) (facts : Facts r w) (inv : Invariant w) (grow : (atoms : List Atom) → MayRun atoms w → (message : Message) → Says w message → Says (run atoms w) message) (c : ClientNo) where
  abbrev t : ClientTable
  t = r.clients c

  module _ (T : Tid) (idle : t.outstanding ≡ None) (its : t.transaction ≡ Some T) where
    current : (w.begun T ≡ true) × AreOpen w T t.works
    current = subst (λ o. IsCurrent w o t.works) its (mirrors.clients c).current

    abbrev parts : ServerNo → Option WorkId
    parts = parts_of t.works

    abbrev v : Machine
    v = end_it T parts w

    its-part : v.part T ≡ parts
    its-part = at_tid_here w.part T parts

    abbrev u : ClientTable
    u = record t { next = t.next + 1; outstanding = Some (record { event = r.event; request = request_of t.next; command = End; to = Server T.server; message = messages.End t.client (request_of t.next) T (names_of t.works) }) }

    abbrev message : Message
    message = messages.End t.client (request_of t.next) T (names_of t.works)

    abbrev ended-world : World
    ended-world = commanded c (Sends u (Server T.server) message) r

    -- ---- the talk

    module _ (events : List Event) (talk : Talk events r w) (talk' : Talk events ended-world w) where
      not-ended : w.ended T ≡ false
      not-ended = (facts.clients c).fresh T its (ap is_closing idle)

      -- a work of it that is somewhere takes operations
      takes-operations : (W : WorkId) → IsWorkOf w T W → IsPresent w W → (a : ActiveWork) × (acting r W ≡ Some a)
      takes-operations W of (inl h) = let k = acting-of-active (r.memory W.server) W h.0 (sym (mirrors.active W) ∙ h.1) in (k.0, k.1.0)
      takes-operations W of (inr (inl h)) = absurd (not_both (w.ended T) (inv.core.parts T W.server W (subst (λ (U : Tid). w.part U W.server ≡ Some W) of.1 ((inv.core.states W.server h.pick).prepared W h.work h.is).part)).ended not-ended)
      takes-operations W of (inr (inr h)) = absurd (not_both (w.ended T) (inv.core.parts T W.server W (subst (λ (U : Tid). w.part U W.server ≡ Some W) of.1 (inv.core.rest.part_of W h))).ended not-ended)

      numbered-past : (y : OpenWork) (a : ActiveWork) → a.last ≡ y.last → (z : Sent) → IsNumbered y None z → IsPast y.work a z
      numbered-past y a e (to, messages.Op d request V number op) h = λ k. subst (λ n. number.0 ≤ n) (sym e) (h k).0
      numbered-past y a e (to, _) h = tt

      part-ended : (s : ServerNo) (o : Option OpenWork) → work_at s t.works ≡ o → IsRunningAt events r w T None s o → IsEndedAt events ended-world v T s (work_in o)
      part-ended s None e h = h
      part-ended s (Some y) e h = (
        λ p. let a = takes-operations y.work (found-open w T s t.works y current.1 e).0 p in (h.1 a.0 a.1).1,
        λ a f. past-more y.work a r.sent ((Server T.server, message) ∷ []) (tt, tt) (map-all (IsNumbered y None) (IsPast y.work a) r.sent (numbered-past y a (h.1 a f).0) h.0),
      )

      ended-now : (U : Tid) → v.ended U ≡ true → w.aborted U ≡ false → (s : ServerNo) → IsEndedAt events ended-world v U s (v.part U s)
      ended-now U e free s = by (at_tid_cases w.ended T true U true e)
        where
          still : (o : Option WorkId) → IsEndedAt events ended-world w U s o → IsEndedAt events ended-world v U s o
          still None h = h
          still (Some W) h = h

          by : ((T ≡ U) × (true ≡ true)) ⊎ ((T ≢ U) × (w.ended U ≡ true)) → IsEndedAt events ended-world v U s (v.part U s)
          by (inl p) = subst (λ (z : Tid). IsEndedAt events ended-world v z s (v.part z s)) p.0 (subst (λ f. IsEndedAt events ended-world v T s (f s)) (sym its-part)
              (part-ended s (work_at s t.works) refl (subst (λ o. IsRunningAt events r w T o s (work_at s t.works)) idle ((talk.clients c).running T its (ap is_closing idle) s))))
          by (inr p) = subst (λ f. IsEndedAt events ended-world v U s (f s)) (sym (at_tid_other w.part T parts U p.0)) (still (w.part U s) (talk'.ended U p.1 free s))

      pub end-talks : Talk events ended-world (end_it T (parts_of t.works) w)
      end-talks = record {
        clients = λ d. let h = talk'.clients d in record { asking = h.asking; owner = h.owner; running = h.running };
        ended = ended-now;
        owners = talk'.owners;
        drawn = talk'.drawn;
        known = λ W e. let h = talk'.known W e in record { opened = h.opened; begun = h.begun; its = h.its };
        unasked = talk'.unasked;
        started = talk'.started;
      }
