-- A work is opened.
use Rattle.jn_worker.proofs.Common.{◌≡◌, ◌<◌, ◌+◌, ℕ, Bool, true, false, List, [], ◌∷◌, ◌++◌, Option, Some, None, length, refl, sym, ◌∙◌, ap, subst, arith, true≢false, Ok, nat_lt, is_some, if◌then◌else◌, append-nil, nat_tests, ClientNo, Tid, Tickets, WorkId, Client, work_eq, work_tells, Files, work_before, work_before-irreflexive, Collected, Work, sends, Prepared, WorkerTable, work_at, work_of, name_from, new_work, open_row, is_after, at-more, none-front, is_in, IsPrepared, StorageView, state, WorkerView, Fits, TicketsFit, WorkFits, WorkListFits, NameFits, Takes, RequestNo}
use Rattle.jn_msgs.specs.declared.message.Message.TheVariants as messages
use Rattle.jn_worker.proofs.Exits.{without_change}

-- the next name comes after this one
next-before : (W : WorkId) (k : Tickets) → work_before W (name_from k) ≡ true → work_before W (name_from (record k { next = k.next + 1 })) ≡ true
unfolding work_before
next-before W k h = grind (arith, nat_tests, h)

self-before : (k : Tickets) → work_before (name_from k) (name_from (record k { next = k.next + 1 })) ≡ true
unfolding work_before
self-before k = grind (arith, nat_tests)

after-next : (ws : List Work) (k : Tickets) → is_after (name_from k) ws ≡ true → is_after (name_from (record k { next = k.next + 1 })) ws ≡ true
after-next [] k h = refl
after-next (w ∷ ws) k h = let again = after-next ws k in let n = next-before w.name k in grind (arith, h)

after-added : (V : WorkId) (ws : List Work) (w : Work) → is_after V ws ≡ true → work_before w.name V ≡ true → is_after V (ws ++ w ∷ []) ≡ true
after-added V [] w h b = grind arith
after-added V (x ∷ xs) w h b = let again = after-added V xs w in grind (arith, h, b)

length-more : (ws : List Work) (w : Work) → length (ws ++ w ∷ []) ≡ length ws + 1
length-more [] w = refl
length-more (x ∷ xs) w = let again = length-more xs w in grind arith

nothing-prepared : (files : Files) → IsPrepared files [] []
nothing-prepared files = record {
  order = record { order = refl; plain = tt };
  length_fits = omega arith;
  in_range = refl;
  reads_fit = omega arith;
  reads_ascend = refl;
  reads_in_range = refl;
  reads_files = refl;
  files_there = refl;
  no_lost_put = refl;
}

fits_opened : (t : WorkerView) (v : StorageView) (k : Tickets) (T : Tid) → Fits t v → TicketsFit t.table v k → length t.table < 64 → Fits (record t { table = t.table ++ new_work (name_from k) T ∷ [] }) v
fits_opened t v k T h f room = record {
  serving = h.serving;
  few = omega (arith, room, length-more t.table (new_work W T));
  stored = λ V. subst (λ o. WorkFits o ((state v).works V)) (sym (at-more V t.table (new_work W T) f.live)) (stays V (work_eq W V) refl);
  going = h.going;
  lists = λ V. subst (λ o. WorkListFits (state v).files o) (sym (at-more V t.table (new_work W T) f.live)) (listed V (work_eq W V));
  names = λ V s. named V (work_eq W V) refl (ap is_some (sym (at-more V t.table (new_work W T) f.live)) ∙ s);
}
  where
    W : WorkId
    W = name_from k

    same : (V : WorkId) → work_eq W V ≡ true → W ≡ V
    same V e = let t = work_tells W V in grind (arith, e)

    fresh : (o : Option Work) (p : Option Prepared) → o ≡ None → WorkFits o p → WorkFits (Some (new_work W T)) p
    fresh o None e g = tt
    fresh o (Some p) e g = absurd (subst (λ o. WorkFits o (Some p)) e g)

    stays : (V : WorkId) (b : Bool) → work_eq W V ≡ b → WorkFits (if b then Some (new_work W T) else work_at V t.table) ((state v).works V)
    stays V true e = subst (λ U. WorkFits (Some (new_work W T)) ((state v).works U)) (same V e) (fresh (work_at W t.table) ((state v).works W) (none-front W t.table f.live) (h.stored W))
    stays V false e = h.stored V

    listed : (V : WorkId) (b : Bool) → WorkListFits (state v).files (if b then Some (new_work W T) else work_at V t.table)
    listed V true = record { prepared = nothing-prepared (state v).files; writes = refl }
    listed V false = h.lists V

    no_rubbish : (b : Bool) → is_in work_eq W v.accounts.rubbish ≡ b → b ≡ false
    no_rubbish false e = refl
    no_rubbish true e = absurd (true≢false (sym (f.rubbish W e) ∙ work_before-irreflexive W))

    named : (V : WorkId) (b : Bool) → work_eq W V ≡ b → is_some (if b then Some (new_work W T) else work_at V t.table) ≡ true → NameFits v V
    named V true e s = subst (λ U. NameFits v U) (same V e) (record { given = record { own = f.server; past = omega (arith, f.epoch) }; no_rubbish = no_rubbish (is_in work_eq W v.accounts.rubbish) refl })
    named V false e s = h.names V s

tickets_opened : (t : WorkerTable) (v : StorageView) (k : Tickets) (T : Tid) → TicketsFit t v k → TicketsFit (t ++ new_work (name_from k) T ∷ []) v (record k { next = k.next + 1 })
tickets_opened t v k T f = record {
  server = f.server;
  epoch = f.epoch;
  live = after-added (name_from (record k { next = k.next + 1 })) t (new_work (name_from k) T) (after-next t k f.live) (self-before k);
  rubbish = λ V e. next-before V k (f.rubbish V e);
}

opens : (t : WorkerTable) (k : Tickets) (c : ClientNo) (request : RequestNo) (T : Tid) → length t < 64
    → open_row t k c request T None ≡ sends (t ++ new_work (name_from k) T ∷ []) (record k { next = k.next + 1 }) ((Client c, messages.Opened c request T (Some (name_from k))) ∷ [])
opens t k c request T room = ap (λ b. if b then sends (t ++ new_work (name_from k) T ∷ []) (record k { next = k.next + 1 }) ((Client c, messages.Opened c request T (Some (name_from k))) ∷ []) else sends t k ((Client c, messages.Opened c request T None) ∷ [])) below
  where
    below : nat_lt (length t) 64 ≡ true
    below = grind (arith, nat_tests, room)

open_made : (t u : WorkerView) (v : StorageView) (before after : Collected) (k : Tickets) (c : ClientNo) (request : RequestNo) (T : Tid) → Fits t v → TicketsFit t.table v k → work_of T t.table ≡ None → length t.table < 64
    → u ≡ record t { table = t.table ++ new_work (name_from k) T ∷ [] } → after.notes ≡ before.notes → after.messages ≡ before.messages ++ (Client c, messages.Opened c request T (Some (name_from k))) ∷ []
    → Takes 784 (open_row t.table k c request T (work_of T t.table)) t v before k (Ok (tt {0})) u v after (record k { next = k.next + 1 })
open_made t u v before after k c request T h f none room is notes sent = subst (λ o. Takes 784 (open_row t.table k c request T o) t v before k (Ok (tt {0})) u v after (record k { next = k.next + 1 })) (sym none)
    (subst (λ (u : WorkerView). Takes 784 (open_row t.table k c request T None) t v before k (Ok (tt {0})) u v after (record k { next = k.next + 1 })) (sym is)
    (subst (λ row. Takes 784 row t v before k (Ok (tt {0})) (record t { table = t.table ++ new_work (name_from k) T ∷ [] }) v after (record k { next = k.next + 1 })) (sym (opens t.table k c request T room))
    (without_change (tt {0}) _ t _ v before after k (record k { next = k.next + 1 }) refl refl sent (notes ∙ sym (append-nil before.notes)) refl (fits_opened t v k T h f room) (tickets_opened t.table v k T))))

-- ---- as the code has it

pub open_here : (t : WorkerView) (ws found opened : List Work) (gs : List WorkId) (v : StorageView) (before after : Collected) (k : Tickets) (c : ClientNo) (request : RequestNo) (T : Tid) (N : WorkId) (n : ℕ) → record { table = ws; going = gs } ≡ t → found ≡ ws → work_of T found ≡ None
    → n ≡ length ws → n < 64 → N ≡ name_from k → opened ≡ ws ++ new_work N T ∷ [] → after ≡ record { messages = before.messages ++ (Client c, messages.Opened c request T (Some N)) ∷ []; notes = before.notes }
    → Fits t v → TicketsFit t.table v k → Takes 784 (open_row t.table k c request T (work_of T t.table)) t v before k (Ok (tt {0})) (record { table = opened; going = gs }) v after (record k { next = k.next + 1 })
open_here t ws found opened gs v before after k c request T N n e same none count short name is sent h f = open_made t (record { table = opened; going = gs }) v before after k c request T h f
    (ap (λ (t : WorkerView). work_of T t.table) (sym e) ∙ (ap (λ ws. work_of T ws) (sym same) ∙ none))
    (subst (λ (t : WorkerView). length t.table < 64) e (subst (λ n. n < 64) count short))
    (ap (λ l. record { table = l; going = gs }) is ∙ (ap (λ (t : WorkerView). record t { table = t.table ++ new_work N T ∷ [] }) e ∙ ap (λ N. record t { table = t.table ++ new_work N T ∷ [] }) name)) (ap (λ (o : Collected). o.notes) sent)
    (ap (λ (o : Collected). o.messages) sent ∙ ap (λ N. before.messages ++ (Client c, messages.Opened c request T (Some N)) ∷ []) name)
