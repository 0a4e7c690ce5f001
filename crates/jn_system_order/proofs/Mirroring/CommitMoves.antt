-- What a worker does with a Commit, as steps of the machine: its work goes on, or is over.
use Rattle.jn_system_order.proofs.Common.{◌≡◌, ◌≢◌, ◌⊎◌, inl, inr, Bool, true, false, List, [], ◌∷◌, Option, Some, None, is_some, refl, sym, ◌∙◌, ap, subst, arith, if◌then◌else◌, All-nil, All-cons, ServerNo, Tid, WorkId, Server, server_eq, work_eq, work_tells, Message, StableState, Prepared, Pick, MarkGoing, made_by, at_work, stable, is_going, work_at, Machine, PartFact, Atom, NoteOver, Make, always, run, MayRun, MayGoOn, Says, World, Memory, UpFact, Mirrors, IsTrue, IsAddressed, working_of, next_in, Left}
use Rattle.jn_msgs.specs.declared.message.Message.TheVariants as messages
use Rattle.jn_system_order.proofs.Mirroring.GrantMoves.{active-here, found-here, found-same}
use Rattle.jn_system_order.proofs.Mirroring.Mirrored.{some_made, left-one, DoesStop}
use Rattle.jn_system_order.proofs.Mirroring.QuietMoves.{RowMoves, still-stops}

module _ (r : World) (w : Machine) (s : ServerNo) (m : Memory) (mirrors : Mirrors r w) (is : r.memory s ≡ Some m) (up : UpFact s m (r.found s))
    (grow : (atoms : List Atom) → MayRun atoms w → (message : Message) → Says w message → Says (run atoms w) message) (parts : PartFact w)
    (T : Tid) (W : WorkId) (said : Says w (messages.Commit T W)) (at : W.server ≡ s) where
  next-here : (V : WorkId) → V.server ≡ s → w.next V ≡ m.next V
  next-here V e = mirrors.next V ∙ ap (λ (q : ServerNo). next_in (r.memory q) V) e ∙ ap (λ o. next_in o V) is

  -- ---- a work that is over

  module _ (gone : work_at W m.worker ≡ None) where
    not-stored : (stable (r.found s)).works W ≡ None
    not-stored = by ((stable (r.found s)).works W) refl
      where
        by : (o : Option Prepared) → (stable (r.found s)).works W ≡ o → o ≡ None
        by None e = refl
        by (Some p) e = absurd (no (sym (ap is_some gone) ∙ up.table.live W (ap is_some e)))
          where
            no : false ≡ true → ⊥
            no q = grind arith

    may-over : MayRun (NoteOver W ∷ []) w
    may-over = (
      record {
        opened = (parts T W.server W said.1.1).opened;
        not_active = active-here r w s m mirrors is up W at ∙ ap working_of gone;
        nowhere = λ c. ap (λ (z : StableState). z.works W) (found-here r w s m mirrors is up W.server c at) ∙ not-stored;
      },
      tt,
    )

    over-now : ((work_eq W W ≡ true) × (W ≡ W)) ⊎ ((work_eq W W ≡ false) × (W ≢ W)) → at_work w.over W true W ≡ true
    over-now (inl e) = ap (λ (b : Bool). if b then true else w.over W) e.0
    over-now (inr e) = absurd (e.1 refl)

    pub over-moves : RowMoves s m (record { table = m.worker; changes = []; messages = (Server T.server, messages.Done T W) ∷ []; notes = []; tickets = m.tickets }) w
    over-moves = record {
      atoms = NoteOver W ∷ [];
      may = may-over;
      does = record {
        up = λ q. refl;
        found = λ q k. found-same r w s m mirrors is up q k;
        here = λ V e. active-here r w s m mirrors is up V e;
        elsewhere = λ V ne. refl;
        next_here = next-here;
        next_elsewhere = λ V ne. refl;
        ticket_here = mirrors.ticket s m is;
        ticket_elsewhere = λ q ne. refl;
        knowledge = λ U. refl;
        history = refl;
        ended = refl;
        owner = λ V v h. grow (NoteOver W ∷ []) may-over (messages.Inquire v.tid V) (mirrors.owner s m V v is h);
        grows = λ message h. grow (NoteOver W ∷ []) may-over message h;
        says = All-cons (IsTrue (run (NoteOver W ∷ []) w)) (Server T.server, messages.Done T W) [] (over-now (work_tells W W)) (All-nil (IsTrue (run (NoteOver W ∷ []) w)));
        addressed = All-cons IsAddressed (Server T.server, messages.Done T W) [] refl (All-nil IsAddressed);
      };
      stops = still-stops r w s m mirrors is up _ refl;
    }

  -- ---- a work that goes on

  module _ (ready : is_going ((stable (r.found s)).works W) ≡ false) where
    may-go : MayGoOn w W
    may-go = record {
      named = subst (λ (U : Tid). w.named U ≡ true) (sym (parts T W.server W said.1.1).owner) said.0;
      none = next-here W at ∙ up.idle W ready;
    }

    may-mark : (done : Pick → Bool) → MayRun (Make done (MarkGoing W) ∷ []) w
    may-mark done = (λ c. may-go, tt)

    mark-stops : (made : Pick → Left) → DoesStop s (record { table = m.worker; changes = MarkGoing W ∷ []; messages = []; notes = []; tickets = m.tickets }) made w (run (Make (λ p. some_made (made p).whole) (MarkGoing W) ∷ []) w)
    mark-stops made = record {
      up = λ q. refl;
      found = λ q p. ap (λ (z : ServerNo). if server_eq z q then (if some_made (made p).whole then made_by (MarkGoing W) (w.found z p) else w.found z p) else w.found q p) at
          ∙ ap (λ z. if server_eq s q then z else w.found q p) (left-one (MarkGoing W) (made p) (w.found s p) refl);
      elsewhere = λ V ne. refl;
      next = λ V ne. refl;
      ticket = λ q ne. refl;
      knowledge = λ U ne. refl;
      history = refl;
      ended = refl;
      grows = λ message h. grow (Make (λ p. some_made (made p).whole) (MarkGoing W) ∷ []) (may-mark (λ p. some_made (made p).whole)) message h;
    }

    pub mark-moves : RowMoves s m (record { table = m.worker; changes = MarkGoing W ∷ []; messages = []; notes = []; tickets = m.tickets }) w
    mark-moves = record {
      atoms = Make always (MarkGoing W) ∷ [];
      may = may-mark always;
      does = record {
        up = λ q. refl;
        found = λ q p. ap (λ (z : ServerNo). if server_eq z q then made_by (MarkGoing W) (w.found z p) else w.found q p) at;
        here = λ V e. active-here r w s m mirrors is up V e;
        elsewhere = λ V ne. refl;
        next_here = next-here;
        next_elsewhere = λ V ne. refl;
        ticket_here = mirrors.ticket s m is;
        ticket_elsewhere = λ q ne. refl;
        knowledge = λ U. refl;
        history = refl;
        ended = refl;
        owner = λ V v h. grow (Make always (MarkGoing W) ∷ []) (may-mark always) (messages.Inquire v.tid V) (mirrors.owner s m V v is h);
        grows = λ message h. grow (Make always (MarkGoing W) ∷ []) (may-mark always) message h;
        says = All-nil (IsTrue (run (Make always (MarkGoing W) ∷ []) w));
        addressed = All-nil IsAddressed;
      };
      stops = λ made. record { atoms = Make (λ p. some_made (made p).whole) (MarkGoing W) ∷ []; may = may-mark (λ p. some_made (made p).whole); does = mark-stops made };
    }
