-- What holds of the openings, the clients and the ends between any two steps.
use Rattle.jn_system_order.proofs.Common.{◌≡◌, ◌⊎◌, inl, inr, ◌<◌, ℕ, Bool, true, false, List, [], ◌∷◌, Option, Some, None, sym, ◌∙◌, ap, subst, All, All-head, All-tail, ServerNo, ClientNo, Tid, Outstanding, Sent, ClientTable, is_begin, is_end_or_abort, Machine, not_both, false_unless, World, Memory, Mirrors, IsTrue, RequestNo}
use Rattle.jn_msgs.specs.declared.message.Message.TheVariants as messages
use Rattle.jn_system_order.proofs.Ordering.Openings.{Opening, opening_in, openings, Has, has-either, HaveOpenings}

abbrev pub opening : ClientNo → RequestNo → Tid → Opening
opening c q T = record { client = c; request = q; tid = T }

-- it waits for an End or an Abort
abbrev pub is_closing : Option Outstanding → Bool
is_closing None = false
is_closing (Some o) = is_end_or_abort o.command

-- one of the client's requests before this one began it
pub record Began (os : List Opening) (c : ClientNo) (n : ℕ) (T : Tid) : Type 0 where
  pub request : RequestNo
  pub has : Has (opening c request T) os
  pub drawn : request.0 < n

pub record IsWaiting (os : List Opening) (ended : Tid → Bool) (c : ClientNo) (n : ℕ) (o : Outstanding) : Type 0 where
  pub drawn : o.request.0 < n
  pub quiet : opening_in (o.to, o.message) ≡ []
  -- what it waits to begin has no end
  pub begins : is_begin o.command ≡ true → (T : Tid) → Has (opening c o.request T) os → ended T ≡ false

pub record IsRunning (os : List Opening) (ended : Tid → Bool) (c : ClientNo) (t : ClientTable) : Type 0 where
  pub name : t.client ≡ c
  pub current : (T : Tid) → t.transaction ≡ Some T → Began os c t.next T
  pub fresh : (T : Tid) → t.transaction ≡ Some T → is_closing t.outstanding ≡ false → ended T ≡ false
  pub waits : (o : Outstanding) → t.outstanding ≡ Some o → IsWaiting os ended c t.next o

pub record Facts (r : World) (w : Machine) : Type 0 where
  -- each transaction begins once
  pub unique : (a b : Opening) → Has a (openings r.sent) → Has b (openings r.sent) → a.tid ≡ b.tid → a ≡ b
  pub tables : (s : ServerNo) (m : Memory) → r.memory s ≡ Some m → HaveOpenings (openings r.sent) m.coordinator.transactions
  pub drawn : (a : Opening) → Has a (openings r.sent) → w.ended a.tid ≡ true → a.request.0 < (r.clients a.client).next
  pub clients : (c : ClientNo) → IsRunning (openings r.sent) w.ended c (r.clients c)
  pub begun : (T : Tid) → w.ended T ≡ true → w.begun T ≡ true

-- a message says that what it opens has begun
abbrev Begun : Machine → Opening → Type 0
Begun w a = w.begun a.tid ≡ true

opening-begun : (w : Machine) (a : Opening) (sent : Sent) → IsTrue w sent → Has a (opening_in sent) → Begun w a
opening-begun w a (to, messages.Begun c q (Some T)) h (inl e) = subst (λ (z : Opening). Begun w z) e h
opening-begun w a (to, messages.Begun c q (Some T)) h (inr k) = absurd k
opening-begun w a (to, messages.Begun c q None) h k = absurd k
opening-begun w a (to, _) h k = absurd k

pub openings-begun : (w : Machine) (sent : List Sent) → All (IsTrue w) sent → (a : Opening) → Has a (openings sent) → Begun w a
openings-begun w [] all a h = absurd h
openings-begun w (x ∷ sent) all a h = by (has-either a (opening_in x) (openings sent) h) (openings-begun w sent (All-tail (IsTrue w) x sent all) a)
  where
    by : Has a (opening_in x) ⊎ Has a (openings sent) → (Has a (openings sent) → Begun w a) → Begun w a
    by (inl k) on = opening-begun w a x (All-head (IsTrue w) x sent all) k
    by (inr k) on = on k

-- where it comes from: it was sent before, or it is of a transaction that has just begun
abbrev pub Back : List Opening → List Opening → Opening → Machine → Type 0
Back os now fresh w = (a : Opening) → Has a now → Has a os ⊎ ((a ≡ fresh) × (w.begun fresh.tid ≡ false))

-- ---- no client changes

module _ (r r' : World) (w v : Machine) (mirrors : Mirrors r w) (facts : Facts r w) (clients : r'.clients ≡ r.clients) (ended : v.ended ≡ w.ended) (grow : (T : Tid) → w.begun T ≡ true → v.begun T ≡ true)
    (fresh : Opening) (forth : (a : Opening) → Has a (openings r.sent) → Has a (openings r'.sent)) (back : Back (openings r.sent) (openings r'.sent) fresh w)
    (tables : (s : ServerNo) (m : Memory) → r'.memory s ≡ Some m → HaveOpenings (openings r'.sent) m.coordinator.transactions) where
  old-begun : (a : Opening) → Has a (openings r.sent) → w.begun a.tid ≡ true
  old-begun a h = openings-begun w r.sent mirrors.says a h

  unique : (a b : Opening) → Has a (openings r'.sent) → Has b (openings r'.sent) → a.tid ≡ b.tid → a ≡ b
  unique a b h k e = by (back a h) (back b k)
    where
      by : Has a (openings r.sent) ⊎ ((a ≡ fresh) × (w.begun fresh.tid ≡ false)) → Has b (openings r.sent) ⊎ ((b ≡ fresh) × (w.begun fresh.tid ≡ false)) → a ≡ b
      by (inl p) (inl q) = facts.unique a b p q e
      by (inl p) (inr q) = absurd (not_both (w.begun a.tid) (old-begun a p) (subst (λ (T : Tid). w.begun T ≡ false) (ap (λ (z : Opening). z.tid) (sym q.0) ∙ sym e) q.1))
      by (inr p) (inl q) = absurd (not_both (w.begun b.tid) (old-begun b q) (subst (λ (T : Tid). w.begun T ≡ false) (ap (λ (z : Opening). z.tid) (sym p.0) ∙ e) p.1))
      by (inr p) (inr q) = p.0 ∙ sym q.0

  not-ended : (T : Tid) → w.begun T ≡ false → w.ended T ≡ false
  not-ended T h = false_unless (w.ended T) (λ e. not_both (w.begun T) (facts.begun T e) h)

  drawn : (a : Opening) → Has a (openings r'.sent) → w.ended a.tid ≡ true → a.request.0 < (r.clients a.client).next
  drawn a h e = by (back a h)
    where
      by : Has a (openings r.sent) ⊎ ((a ≡ fresh) × (w.begun fresh.tid ≡ false)) → a.request.0 < (r.clients a.client).next
      by (inl p) = facts.drawn a p e
      by (inr p) = absurd (not_both (w.ended a.tid) e (not-ended a.tid (subst (λ (z : Opening). w.begun z.tid ≡ false) (sym p.0) p.1)))

  running : (c : ClientNo) → IsRunning (openings r'.sent) w.ended c (r.clients c)
  running c = let h = facts.clients c in record {
    name = h.name;
    current = λ T e. let b = h.current T e in record { request = b.request; has = forth (opening c b.request T) b.has; drawn = b.drawn };
    fresh = h.fresh;
    waits = λ o e. let x = h.waits o e in record { drawn = x.drawn; quiet = x.quiet; begins = λ b T k. by o x b T (back (opening c o.request T) k) };
  }
    where
      by : (o : Outstanding) → IsWaiting (openings r.sent) w.ended c (r.clients c).next o → is_begin o.command ≡ true → (T : Tid) → Has (opening c o.request T) (openings r.sent) ⊎ ((opening c o.request T ≡ fresh) × (w.begun fresh.tid ≡ false)) → w.ended T ≡ false
      by o x b T (inl p) = x.begins b T p
      by o x b T (inr p) = not-ended T (subst (λ (z : Opening). w.begun z.tid ≡ false) (sym p.0) p.1)

  pub facts-keep : Facts r' v
  facts-keep = record {
    unique = unique;
    tables = tables;
    drawn = λ a h e. subst (λ f. a.request.0 < (f a.client).next) (sym clients) (drawn a h (subst (λ f. f a.tid ≡ true) ended e));
    clients = λ c. subst (λ f. IsRunning (openings r'.sent) f c (r'.clients c)) (sym ended) (subst (λ f. IsRunning (openings r'.sent) w.ended c (f c)) (sym clients) (running c));
    begun = λ T e. grow T (facts.begun T (subst (λ f. f T ≡ true) ended e));
  }
