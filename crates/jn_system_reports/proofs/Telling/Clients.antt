-- One client changes, and perhaps something is reported: what keeps the talk.
use Rattle.jn_system_reports.proofs.Common.{◌≡◌, ◌≢◌, ◌⊎◌, inl, inr, ◌<◌, ◌≤◌, ℕ, true, false, List, ◌++◌, Option, Some, None, refl, sym, ◌∙◌, ap, subst, arith, fun_ext, All, All-append, ServerNo, ClientNo, Tid, WorkId, Event, Message, Text, OpenWork, Outstanding, Sent, ClientTable, is_begin, open_at, Machine, some_is, none_some, World, at_client, openings, openings-more, Has, has-first, is_closing, RequestNo, one-client, after, Dismiss}
use Rattle.jn_system_reports.proofs.Telling.TransactionLines.{owner_in, is_begun, begun_by}
use Rattle.jn_msgs.specs.declared.message.Message.TheVariants as messages
use Rattle.jn_system_order.proofs.Ordering.Facts.{opening}
use Rattle.jn_system_reports.proofs.Telling.Tellings.{SaysAs}
use Rattle.jn_system_reports.proofs.Telling.Acting.{AreSilent}
use Rattle.jn_system_reports.proofs.Telling.Facts.{said, op_asked, IsAsking, IsNumbered, Hears, IsRunningAt, IsTalking, IsEndedAt, IsKept, IsDrawn, op_sent, IsOpenAt, IsKnown, IsStarted, Talk}
use Rattle.jn_system_reports.proofs.Telling.Quiet.{AreDumb, same-told, silent-nos, silent-drawn, every, HaveNoOp, SameTold, numbered-more, past-more, map-all, same-sent}

-- the client's table is replaced, and no other
pub at-own : (clients : ClientNo → ClientTable) (c : ClientNo) (u : ClientTable) → at_client clients c u c ≡ u
at-own clients c u = one-client (λ d t. c ≡ d → t ≡ u) clients c u (λ e. refl) (λ d other e. absurd (other e)) c refl

pub at-other : (clients : ClientNo → ClientTable) (c d : ClientNo) (u : ClientTable) → c ≢ d → at_client clients c u d ≡ clients d
at-other clients c d u = one-client (λ e t. c ≢ e → t ≡ clients e) clients c u (λ ne. absurd (ne refl)) (λ e other ne. refl) d

-- no two clients are in one transaction
pub same-client : (events : List Event) (r : World) (v : Machine) (c d : ClientNo) (T : Tid) → Talk events r v → (r.clients c).transaction ≡ Some T → (r.clients d).transaction ≡ Some T → c ≡ d
same-client events r v c d T talk e f = some_is c d (sym ((talk.clients c).owner T e) ∙ (talk.clients d).owner T f)

module _ (events : List Event) (r : World) (v : Machine) (c : ClientNo) (u : ClientTable) (more : List Sent) (texts : List Text) where
  abbrev pub now : World
  now = record r { clients = at_client r.clients c u; sent = r.sent ++ more; lines = r.lines ++ texts }

  -- ---- requests

  -- what it waits for it did before, or it is drawn now
  abbrev pub DrawsNew : Type 0
  DrawsNew = ((r.clients c).next ≤ u.next) × ((o : Outstanding) → u.outstanding ≡ Some o → ((r.clients c).outstanding ≡ Some o) ⊎ ((r.clients c).next ≤ o.request.0))

  pub table-drawn : DrawsNew → (x : Sent) → IsDrawn r x → IsDrawn now x
  table-drawn new (to, messages.Op d request W number op) h = (
    one-client (λ e t. request.0 < (r.clients e).next → request.0 < t.next) r.clients c u (λ k. below k) (λ e ne k. k) d h.0,
    one-client (λ e t. request.0 < (r.clients e).next → ((o : Outstanding) → (r.clients e).outstanding ≡ Some o → o.request ≡ request → o.message ≡ messages.Op d request W number op) → (o : Outstanding) → t.outstanding ≡ Some o → o.request ≡ request → o.message ≡ messages.Op d request W number op)
        r.clients c u (λ k l o e f. by k o f l (new.1 o e)) (λ e ne k l. l) d h.0 h.1,
  )
    where
      below : request.0 < (r.clients c).next → request.0 < u.next
      below k = let le = new.0 in omega (arith, k, le)

      by : request.0 < (r.clients c).next → (o : Outstanding) → o.request ≡ request → ((o : Outstanding) → (r.clients c).outstanding ≡ Some o → o.request ≡ request → o.message ≡ messages.Op d request W number op)
          → ((r.clients c).outstanding ≡ Some o) ⊎ ((r.clients c).next ≤ o.request.0) → o.message ≡ messages.Op d request W number op
      by k o f l (inl e) = l o e f
      by k o f l (inr le) = absurd (let same = ap (λ (z : RequestNo). z.0) f in omega (arith, k, le, same))
  table-drawn new (to, messages.Answer d request answer) h = (
    one-client (λ e t. request.0 < (r.clients e).next → request.0 < t.next) r.clients c u (λ k. below k) (λ e ne k. k) d h.0,
    one-client (λ e t. request.0 < (r.clients e).next → ((o : Outstanding) → (r.clients e).outstanding ≡ Some o → o.request ≡ request → IsKept r answer o.message) → (o : Outstanding) → t.outstanding ≡ Some o → o.request ≡ request → IsKept now answer o.message)
        r.clients c u (λ k l o e f. by k o f l (new.1 o e)) (λ e ne k l o f g. kept-still o.message (l o f g)) d h.0 h.1,
  )
    where
      below : request.0 < (r.clients c).next → request.0 < u.next
      below k = let le = new.0 in omega (arith, k, le)

      kept-still : (message : Message) → IsKept r answer message → IsKept now answer message
      kept-still (messages.Op e q W number op) k = k
      kept-still _ k = tt

      by : request.0 < (r.clients c).next → (o : Outstanding) → o.request ≡ request → ((o : Outstanding) → (r.clients c).outstanding ≡ Some o → o.request ≡ request → IsKept r answer o.message)
          → ((r.clients c).outstanding ≡ Some o) ⊎ ((r.clients c).next ≤ o.request.0) → IsKept now answer o.message
      by k o f l (inl e) = kept-still o.message (l o e f)
      by k o f l (inr le) = absurd (let same = ap (λ (z : RequestNo). z.0) f in omega (arith, k, le, same))
  table-drawn new (to, _) h = tt

  pub table-started : DrawsNew → (T : Tid) → ((d : ClientNo) → begun_by d T (r.lines ++ texts) ≡ true → begun_by d T r.lines ≡ true) → IsStarted r T → IsStarted now T
  table-started new T told k = record {
    client = k.client;
    request = k.request;
    has = subst (λ l. Has (opening k.client k.request T) l) (sym (openings-more r.sent more)) (has-first (opening k.client k.request T) (openings r.sent) (openings more) k.has);
    drawn = one-client (λ e t. k.request.0 < (r.clients e).next → k.request.0 < t.next) r.clients c u (λ l. let le = new.0 in omega (arith, l, le)) (λ e ne l. l) k.client k.drawn;
    before = one-client (λ e t. k.request.0 < (r.clients e).next → ((o : Outstanding) → (r.clients e).outstanding ≡ Some o → is_begin o.command ≡ true → k.request.0 < o.request.0) → (o : Outstanding) → t.outstanding ≡ Some o → is_begin o.command ≡ true → k.request.0 < o.request.0)
        r.clients c u (λ l m o e f. by l m o f (new.1 o e)) (λ e ne l m. m) k.client k.drawn k.before;
    its = λ d e. k.its d (told d e);
  }
    where
      by : k.request.0 < (r.clients c).next → ((o : Outstanding) → (r.clients c).outstanding ≡ Some o → is_begin o.command ≡ true → k.request.0 < o.request.0) → (o : Outstanding) → is_begin o.command ≡ true
          → ((r.clients c).outstanding ≡ Some o) ⊎ ((r.clients c).next ≤ o.request.0) → k.request.0 < o.request.0
      by l m o f (inl e) = m o e f
      by l m o f (inr le) = omega (arith, l, le)

  -- ---- one server of a transaction that goes on

  -- no operation is outstanding there, before and now
  pub running-still : (T : Tid) (s : ServerNo) (o o' : Option Outstanding) (x : Option OpenWork) → HaveNoOp more → said events T s (r.lines ++ texts) ≡ said events T s r.lines
      → ((y : OpenWork) → x ≡ Some y → (op_asked o y.work ≡ None) × (op_asked o' y.work ≡ None)) → IsRunningAt events r v T o s x → IsRunningAt events now v T o' s x
  running-still T s o o' None no_op same none h = same ∙ h
  running-still T s o o' (Some y) no_op same none h = let n = none y refl in (
    numbered-more y o' r.sent more no_op (map-all (IsNumbered y o) (IsNumbered y o') r.sent (numbered-still n.1) h.0),
    λ a e. subst (λ z. Hears z y a (said events T s (r.lines ++ texts)) (v.trace y.work)) (sym n.1)
        (subst (λ z. Hears None y a z (v.trace y.work)) (sym same) (subst (λ z. Hears z y a (said events T s r.lines) (v.trace y.work)) n.0 (h.1 a e))),
  )
    where
      numbered-still : op_asked o' y.work ≡ None → (z : Sent) → IsNumbered y o z → IsNumbered y o' z
      numbered-still e (to, messages.Op d request W number op) k = λ f. ((k f).0, λ g p l. absurd (none_some p (sym e ∙ l)))
      numbered-still e (to, _) k = tt

  -- another client's, whatever is outstanding there
  pub running-other : (T : Tid) (s : ServerNo) (o : Option Outstanding) (x : Option OpenWork) → HaveNoOp more → said events T s (r.lines ++ texts) ≡ said events T s r.lines → IsRunningAt events r v T o s x → IsRunningAt events now v T o s x
  running-other T s o None no_op same h = same ∙ h
  running-other T s o (Some y) no_op same h = (numbered-more y o r.sent more no_op h.0, λ a e. subst (λ z. Hears (op_asked o y.work) y a z (v.trace y.work)) (sym same) (h.1 a e))

  -- ---- the whole

  module _ (talk : Talk events r v) (no_op : HaveNoOp more) (own : IsTalking events now v c u)
      (others : (T : Tid) (d : ClientNo) → c ≢ d → owner_in T None r.lines ≡ Some d → (owner_in T None (r.lines ++ texts) ≡ Some d) × ((s : ServerNo) → said events T s (r.lines ++ texts) ≡ said events T s r.lines))
      (ended : (T : Tid) → v.ended T ≡ true → (s : ServerNo) → said events T s (r.lines ++ texts) ≡ said events T s r.lines)
      (owners : (T : Tid) (d : ClientNo) → owner_in T None (r.lines ++ texts) ≡ Some d → ((at_client r.clients c u d).transaction ≡ None) ⊎ ((at_client r.clients c u d).transaction ≡ Some T))
      (new : DrawsNew) (drawn : All (IsDrawn now) more) (known : (W : WorkId) → op_sent W r.sent ≡ true → IsKnown r v W → IsKnown now v W) (started : (T : Tid) → is_begun T (r.lines ++ texts) ≡ true → IsStarted now T) where
    other-talks : (d : ClientNo) → c ≢ d → IsTalking events now v d (r.clients d)
    other-talks d ne = let h = talk.clients d in record {
      asking = h.asking;
      owner = λ T e. (others T d ne (h.owner T e)).0;
      running = λ T e k s. running-other T s (r.clients d).outstanding (open_at s (r.clients d).works) no_op ((others T d ne (h.owner T e)).1 s) (h.running T e k s);
    }

    ended-still : (T : Tid) (s : ServerNo) (o : Option WorkId) → said events T s (r.lines ++ texts) ≡ said events T s r.lines → IsEndedAt events r v T s o → IsEndedAt events now v T s o
    ended-still T s None same h = same ∙ h
    ended-still T s (Some W) same h = (λ p. subst (λ z. SaysAs z (v.trace W)) (sym same) (h.0 p), λ a e. past-more W a r.sent more no_op (h.1 a e))

    pub client-talks : Talk events now v
    client-talks = record {
      clients = one-client (λ d t. IsTalking events now v d t) r.clients c u own other-talks;
      ended = λ T e free s. ended-still T s (v.part T s) (ended T e s) (talk.ended T e free s);
      owners = owners;
      drawn = All-append (IsDrawn now) r.sent more (map-all (IsDrawn r) (IsDrawn now) r.sent (table-drawn new) talk.drawn) drawn;
      known = λ W e. let was = sym (same-sent W r.sent more no_op) ∙ e in known W was (talk.known W was);
      unasked = λ W e. talk.unasked W (sym (same-sent W r.sent more no_op) ∙ e);
      started = started;
    }

  -- ---- nothing is answered, and nothing begins

  module _ (talk : Talk events r v) (silent : AreSilent more) (dumb : AreDumb texts) (new : DrawsNew) where
    told : SameTold r.lines (r.lines ++ texts)
    told = same-told r.lines texts dumb

    -- it stays in its transaction, or leaves it
    module _ (stays : (T : Tid) → u.transaction ≡ Some T → ((r.clients c).transaction ≡ Some T) × (u.works ≡ (r.clients c).works)) (own : IsTalking events now v c u) where
      keeps-known : (W : WorkId) → IsKnown r v W → IsKnown now v W
      keeps-known W k = record {
        opened = k.opened;
        begun = told.begun (v.owner W) ∙ k.begun;
        its = one-client (λ d t. t.transaction ≡ Some (v.owner W) → IsOpenAt W (open_at W.server t.works)) r.clients c u
            (λ e. let l = stays (v.owner W) e in subst (λ z. IsOpenAt W (open_at W.server z)) (sym l.1) (k.its c l.0)) (λ d ne. k.its d);
      }

      keeps-owner : (T : Tid) → owner_in T None r.lines ≡ Some c → (u.transaction ≡ None) ⊎ (u.transaction ≡ Some T)
      keeps-owner T e = by u.transaction refl
        where
          on : (U : Tid) → u.transaction ≡ Some U → ((r.clients c).transaction ≡ None) ⊎ ((r.clients c).transaction ≡ Some T) → (u.transaction ≡ None) ⊎ (u.transaction ≡ Some T)
          on U f (inl g) = absurd (none_some U (sym g ∙ (stays U f).0))
          on U f (inr g) = inr (f ∙ sym (stays U f).0 ∙ g)

          by : (o : Option Tid) → u.transaction ≡ o → (u.transaction ≡ None) ⊎ (u.transaction ≡ Some T)
          by None f = inl f
          by (Some U) f = on U f (talk.owners T c e)

      pub quiet-client-talks : Talk events now v
      quiet-client-talks = client-talks talk (silent-nos more silent) own (λ T d ne e. (told.owner T ∙ e, told.said events T)) (λ T e. told.said events T)
          (λ T d e. one-client (λ d t. owner_in T None r.lines ≡ Some d → (t.transaction ≡ None) ⊎ (t.transaction ≡ Some T)) r.clients c u (keeps-owner T) (λ d ne. talk.owners T d) d (sym (told.owner T) ∙ e))
          new (every (IsDrawn now) more silent (silent-drawn now)) (λ W e. keeps-known W) (λ T e. table-started new T (λ d f. sym (told.by d T) ∙ f) (talk.started T (sym (told.begun T) ∙ e)))

    -- no operation is outstanding, before and now
    pub plain-talks : (stays : (T : Tid) → u.transaction ≡ Some T → ((r.clients c).transaction ≡ Some T) × (u.works ≡ (r.clients c).works)) → ((o : Outstanding) → u.outstanding ≡ Some o → IsAsking events c u o o.command)
        → ((T : Tid) → u.transaction ≡ Some T → is_closing u.outstanding ≡ false → (is_closing (r.clients c).outstanding ≡ false) × ((W : WorkId) → (op_asked (r.clients c).outstanding W ≡ None) × (op_asked u.outstanding W ≡ None))) → Talk events now v
    plain-talks stays asking free = quiet-client-talks stays (record {
      asking = asking;
      owner = λ T e. told.owner T ∙ (talk.clients c).owner T (stays T e).0;
      running = λ T e k s. let f = free T e k in running-still T s (r.clients c).outstanding u.outstanding (open_at s u.works) (silent-nos more silent) (told.said events T s) (λ y l. f.1 y.work)
          (subst (λ z. IsRunningAt events r v T (r.clients c).outstanding s (open_at s z)) (sym (stays T e).1) ((talk.clients c).running T (stays T e).0 f.0 s));
    })

-- the client stays as it is
module _ (events : List Event) (r : World) (v : Machine) (c : ClientNo) (more : List Sent) (texts : List Text) (talk : Talk events r v) (silent : AreSilent more) (dumb : AreDumb texts) where
  pub same-client-talks : Talk events (now events r v c (r.clients c) more texts) v
  same-client-talks = quiet-client-talks events r v c (r.clients c) more texts talk silent dumb (le (r.clients c).next, λ o e. inl e) (λ T e. (e, refl)) (record {
    asking = (talk.clients c).asking;
    owner = λ T e. (same-told r.lines texts dumb).owner T ∙ (talk.clients c).owner T e;
    running = λ T e k s. running-other events r v c (r.clients c) more texts T s (r.clients c).outstanding (open_at s (r.clients c).works) (silent-nos more silent) ((same-told r.lines texts dumb).said events T s) ((talk.clients c).running T e k s);
  })
    where
      le : (n : ℕ) → n ≤ n
      le n = omega arith

  -- no client changes
  pub no-client-talks : Talk events (record r { sent = r.sent ++ more; lines = r.lines ++ texts }) v
  no-client-talks = subst (λ f. Talk events (record r { clients = f; sent = r.sent ++ more; lines = r.lines ++ texts }) v) (fun_ext (one-client (λ d t. t ≡ r.clients d) r.clients c (r.clients c) refl (λ d other. refl))) same-client-talks

-- no client waits for anything or has a transaction any more
pub dismiss-talks : (events : List Event) (r : World) (v : Machine) → Talk events r v → Talk events (after Dismiss r) v
dismiss-talks events r v talk = record {
  clients = λ c. record { asking = λ o e. absurd (none_some o e); owner = λ T e. absurd (none_some T e); running = λ T e. absurd (none_some T e) };
  ended = talk.ended;
  owners = λ T c e. inl refl;
  drawn = map-all (IsDrawn r) (IsDrawn (after Dismiss r)) r.sent still talk.drawn;
  known = λ W e. let k = talk.known W e in record { opened = k.opened; begun = k.begun; its = λ c f. absurd (none_some (v.owner W) f) };
  unasked = talk.unasked;
  started = λ T e. let k = talk.started T e in record { client = k.client; request = k.request; has = k.has; drawn = k.drawn; before = λ o f. absurd (none_some o f); its = k.its };
}
  where
    still : (x : Sent) → IsDrawn r x → IsDrawn (after Dismiss r) x
    still (to, messages.Op d request W number op) h = (h.0, λ o e. absurd (none_some o e))
    still (to, messages.Answer d request answer) h = (h.0, λ o e. absurd (none_some o e))
    still (to, _) h = tt
