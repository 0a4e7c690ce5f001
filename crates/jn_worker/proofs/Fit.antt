-- The works and the storage still fit after a change.
use Rattle.jn_worker.proofs.Common.{◌≡◌, ◌≤◌, Bool, true, false, not, List, [], ◌∷◌, ◌++◌, length, Option, Some, None, if◌then◌else◌, refl, sym, ◌∙◌, ap, subst, arith, ◌&&◌, ◌||◌, is_some, Tickets, WorkId, work_eq, work_tells, Files, work_before, Work, Phase, Active, Broken, Stored, Prepared, MarkGoing, RemoveWork, made_by, at_work, gone_on, is_ready, is_going, WorkerTable, work_at, without, with_phase, vulnerable, name_from, are_rising, is_after, at-less, in_phase, at-phase, is_in, StorageView, state, IsReady, MarkedGoing, WorkRemoved, WorkerView, Fits, TicketsFit, WorkFits, PhaseFits, WorkListFits, ListFits, NameFits, is_stored}
use Rattle.std.proofs.lemmas.Bool.{true≢false}

-- ---- marked

-- a prepared work whose transaction isn't known to have committed is ready
pub ready_here : (t : WorkerView) (v : StorageView) (W : WorkId) (w : Work) → Fits t v → work_at W t.table ≡ Some w → is_stored w.phase ≡ true → is_in work_eq W t.going ≡ false → IsReady v W
ready_here t v W w h at phase out = by w.phase ((state v).works W) refl phase (subst (λ o. WorkFits o ((state v).works W)) at (h.stored W)) (sym (h.going W) ∙ out)
  where
    by : (phase : Phase) (p : Option Prepared) → p ≡ p → is_stored phase ≡ true → PhaseFits phase w.tid p → is_going p ≡ false → is_ready p ≡ true
    by (Stored q) (Some p) e s f g = grind (arith, g)
    by (Stored q) None e s f g = absurd f
    by (Active a) p e s f g = absurd (cc s)
    by (Broken u T) p e s f g = absurd (cc s)

in-more : (V W : WorkId) (xs : List WorkId) → is_in work_eq V (xs ++ W ∷ []) ≡ (is_in work_eq V xs || work_eq W V)
in-more V W [] = grind arith
in-more V W (x ∷ xs) = let again = in-more V W xs in grind arith

pub name-later : (v w : StorageView) → w.accounts.server ≡ v.accounts.server → (state w).epoch ≡ (state v).epoch → (W : WorkId) → is_in work_eq W w.accounts.rubbish ≡ false → NameFits v W → NameFits w W
name-later v w server epoch W no_rubbish h = record {
  given = record { own = h.given.own ∙ sym server; past = subst (λ e. W.epoch ≤ e) (sym epoch) h.given.past };
  no_rubbish = no_rubbish;
}

pub fits_marked : (t : WorkerView) (v w : StorageView) (W : WorkId) → Fits t v → IsReady v W → MarkedGoing v W true w → Fits (record { table = t.table; going = t.going ++ W ∷ [] }) w
fits_marked t v w W h ready m = record {
  serving = m.called.serving refl;
  few = h.few;
  stored = λ V. subst (λ x. WorkFits (work_at V t.table) (x.works V)) (sym now) (stays V);
  going = λ V. in-more V W t.going ∙ (ap (λ b. b || work_eq W V) (h.going V) ∙ (goes V ∙ ap (λ x. is_going (x.works V)) (sym now)));
  lists = λ V. subst (λ x. WorkListFits x.files (work_at V t.table)) (sym now) (h.lists V);
  names = λ V s. name-later v w m.called.later.server (ap (λ x. x.epoch) now) V (ap (λ a. is_in work_eq V a.rubbish) (m.accounts refl) ∙ (h.names V s).no_rubbish) (h.names V s);
}
  where
    now : state w ≡ made_by (MarkGoing W) (state v)
    now = m.change.done refl (λ n. false)

    marked : (o : Option Work) (p : Option Prepared) → WorkFits o p → WorkFits o (gone_on p)
    marked None None f = f
    marked None (Some p) f = f
    marked (Some x) p f = phase x.phase p f
      where
        phase : (y : Phase) (p : Option Prepared) → PhaseFits y x.tid p → PhaseFits y x.tid (gone_on p)
        phase (Stored q) (Some p) f = record { tid = f.tid; reads = f.reads; writes = f.writes }
        phase (Stored q) None f = f
        phase (Active a) None f = f
        phase (Active a) (Some p) f = f
        phase (Broken u T) None f = f
        phase (Broken u T) (Some p) f = f

    stays : (V : WorkId) → WorkFits (work_at V t.table) (at_work (state v).works W (gone_on ((state v).works W)) V)
    stays V = by (work_eq W V) refl
      where
        by : (b : Bool) → work_eq W V ≡ b → WorkFits (work_at V t.table) (if b then gone_on ((state v).works W) else (state v).works V)
        by true e = subst (λ U. WorkFits (work_at V t.table) (gone_on ((state v).works U))) (same e) (marked (work_at V t.table) ((state v).works V) (h.stored V))
          where
            same : work_eq W V ≡ true → V ≡ W
            same e = let t = work_tells W V in grind (arith, e)
        by false e = h.stored V

    goes : (V : WorkId) → (is_going ((state v).works V) || work_eq W V) ≡ is_going (at_work (state v).works W (gone_on ((state v).works W)) V)
    goes V = by (work_eq W V) refl
      where
        by : (b : Bool) → work_eq W V ≡ b → (is_going ((state v).works V) || b) ≡ is_going (if b then gone_on ((state v).works W) else (state v).works V)
        by true e = or_true (is_going ((state v).works V)) ∙ sym (gone ((state v).works W) ready)
          where
            or_true : (b : Bool) → (b || true) ≡ true
            or_true true = refl
            or_true false = refl

            gone : (o : Option Prepared) → is_ready o ≡ true → is_going (gone_on o) ≡ true
            gone None e = absurd (cc e)
            gone (Some p) e = refl
        by false e = or_false (is_going ((state v).works V))
          where
            or_false : (b : Bool) → (b || false) ≡ b
            or_false true = refl
            or_false false = refl

pub tickets_marked : (t : WorkerTable) (v w : StorageView) (W : WorkId) (k : Tickets) → MarkedGoing v W true w → TicketsFit t v k → TicketsFit t w k
tickets_marked t v w W k m h = record {
  server = h.server ∙ sym m.called.later.server;
  epoch = h.epoch ∙ sym (ap (λ x. x.epoch) (m.change.done refl (λ n. false)));
  live = h.live;
  rubbish = λ V e. h.rubbish V (sym (ap (λ a. is_in work_eq V a.rubbish) (m.accounts refl)) ∙ e);
}

-- ---- let go

length-less : (W : WorkId) (ws : List Work) → length (without W ws) ≤ length ws
length-less W [] = omega arith
length-less W (w ∷ ws) = let again = length-less W ws in grind arith

pick-fits : (b : Bool) (o : Option Work) (p : Option Prepared) → WorkFits o p → WorkFits (if b then None else o) (if b then None else p)
pick-fits true o p f = tt
pick-fits false o p f = f

pick-lists : (b : Bool) (files : Files) (o : Option Work) → WorkListFits files o → WorkListFits files (if b then None else o)
pick-lists true files o f = tt
pick-lists false files o f = f

-- a name that is still live was live, and is another
still-live : (b : Bool) (o : Option Work) → is_some (if b then None else o) ≡ true → (b ≡ false) × (is_some o ≡ true)
still-live true o h = absurd (cc h)
still-live false o h = (refl, h)

after-less : (V W : WorkId) (ws : List Work) → is_after V ws ≡ true → is_after V (without W ws) ≡ true
after-less V W [] h = refl
after-less V W (w ∷ ws) h = let again = after-less V W ws in grind (arith, h)

-- a work that isn't prepared is no more
pub fits_let_go : (t : WorkerView) (v : StorageView) (W : WorkId) (w : Work) → Fits t v → are_rising t.table ≡ true → work_at W t.table ≡ Some w → is_stored w.phase ≡ false → Fits (record { table = without W t.table; going = t.going }) v
fits_let_go t v W w h rising at phase = record {
  serving = h.serving;
  few = omega (arith, h.few, length-less W t.table);
  stored = λ V. subst (λ o. WorkFits o ((state v).works V)) (sym (at-less V W t.table rising)) (stays V (work_eq W V) refl);
  going = h.going;
  lists = λ V. subst (λ o. WorkListFits (state v).files o) (sym (at-less V W t.table rising)) (pick-lists (work_eq W V) (state v).files (work_at V t.table) (h.lists V));
  names = λ V s. h.names V (still-live (work_eq W V) (work_at V t.table) (ap is_some (sym (at-less V W t.table rising)) ∙ s)).1;
}
  where
    not_stored : (phase : Phase) (p : Option Prepared) → is_stored phase ≡ false → PhaseFits phase w.tid p → WorkFits None p
    not_stored (Stored q) p e f = absurd (cc e)
    not_stored (Active a) None e f = tt
    not_stored (Active a) (Some p) e f = absurd f
    not_stored (Broken u T) None e f = tt
    not_stored (Broken u T) (Some p) e f = absurd f

    stays : (V : WorkId) (b : Bool) → work_eq W V ≡ b → WorkFits (if b then None else work_at V t.table) ((state v).works V)
    stays V true e = subst (λ U. WorkFits None ((state v).works U)) (same e) (not_stored w.phase ((state v).works W) phase (subst (λ o. WorkFits o ((state v).works W)) at (h.stored W)))
      where
        same : work_eq W V ≡ true → W ≡ V
        same e = let t = work_tells W V in grind (arith, e)
    stays V false e = h.stored V

-- a prepared work is removed
pub fits_removed : (t : WorkerView) (v w : StorageView) (W : WorkId) (going : List WorkId) → Fits t v → are_rising t.table ≡ true → ((V : WorkId) → is_in work_eq V going ≡ (is_in work_eq V t.going && not (work_eq W V))) → WorkRemoved v W true w
    → Fits (record { table = without W t.table; going = going }) w
fits_removed t v w W going h rising less m = record {
  serving = m.called.serving refl;
  few = omega (arith, h.few, length-less W t.table);
  stored = λ V. subst (λ x. WorkFits (work_at V (without W t.table)) (x.works V)) (sym now) (subst (λ o. WorkFits o (at_work (state v).works W None V)) (sym (at-less V W t.table rising)) (pick-fits (work_eq W V) (work_at V t.table) ((state v).works V) (h.stored V)));
  going = λ V. less V ∙ (goes V (work_eq W V) ∙ ap (λ x. is_going (x.works V)) (sym now));
  lists = λ V. subst (λ x. WorkListFits x.files (work_at V (without W t.table))) (sym now) (subst (λ o. WorkListFits (state v).files o) (sym (at-less V W t.table rising)) (pick-lists (work_eq W V) (state v).files (work_at V t.table) (h.lists V)));
  names = λ V s. let live = still-live (work_eq W V) (work_at V t.table) (ap is_some (sym (at-less V W t.table rising)) ∙ s) in
      name-later v w m.called.later.server (ap (λ x. x.epoch) now) V (no_rubbish V live.0 (h.names V live.1).no_rubbish) (h.names V live.1);
}
  where
    now : state w ≡ made_by (RemoveWork W) (state v)
    now = m.change.done refl (λ n. false)

    goes : (V : WorkId) (b : Bool) → (is_in work_eq V t.going && not b) ≡ is_going (if b then None else (state v).works V)
    goes V true = none (is_in work_eq V t.going)
      where
        none : (b : Bool) → (b && false) ≡ false
        none true = refl
        none false = refl
    goes V false = all (is_in work_eq V t.going) ∙ h.going V
      where
        all : (b : Bool) → (b && true) ≡ b
        all true = refl
        all false = refl

    no_rubbish : (V : WorkId) → work_eq W V ≡ false → is_in work_eq V v.accounts.rubbish ≡ false → is_in work_eq V w.accounts.rubbish ≡ false
    no_rubbish V other none = by (is_in work_eq V w.accounts.rubbish) refl
      where
        by : (b : Bool) → is_in work_eq V w.accounts.rubbish ≡ b → b ≡ false
        by false e = refl
        by true e = absurd (true≢false (sym ((m.accounts refl).rubbish_names V e) ∙ (ap (λ b. b || is_in work_eq V v.accounts.rubbish) other ∙ none)))

pub tickets_let_go : (t : WorkerTable) (v : StorageView) (W : WorkId) (k : Tickets) → TicketsFit t v k → TicketsFit (without W t) v k
tickets_let_go t v W k h = record { server = h.server; epoch = h.epoch; live = after-less (name_from k) W t h.live; rubbish = h.rubbish }

live-before : (V W : WorkId) (ws : List Work) → is_after V ws ≡ true → is_some (work_at W ws) ≡ true → work_before W V ≡ true
live-before V W [] h s = absurd (cc s)
live-before V W (w ∷ ws) h s = let again = live-before V W ws in let t = work_tells w.name W in grind (arith, h, s)

pub tickets_removed : (t : WorkerTable) (v w : StorageView) (W : WorkId) (k : Tickets) → is_some (work_at W t) ≡ true → WorkRemoved v W true w → TicketsFit t v k → TicketsFit (without W t) w k
tickets_removed t v w W k live m h = record {
  server = h.server ∙ sym m.called.later.server;
  epoch = h.epoch ∙ sym (ap (λ x. x.epoch) (m.change.done refl (λ n. false)));
  live = after-less (name_from k) W t h.live;
  rubbish = λ V e. by V (work_eq W V) refl ((m.accounts refl).rubbish_names V e);
}
  where
    by : (V : WorkId) (b : Bool) → work_eq W V ≡ b → (b || is_in work_eq V v.accounts.rubbish) ≡ true → work_before V (name_from k) ≡ true
    by V true e f = subst (λ U. work_before U (name_from k) ≡ true) (same e) (live-before (name_from k) W t h.live live)
      where
        same : work_eq W V ≡ true → W ≡ V
        same e = let t = work_tells W V in grind (arith, e)
    by V false e f = h.rubbish V f

-- ---- another phase

pub length-phase : (W : WorkId) (phase : Phase) (ws : List Work) → length (with_phase W phase ws) ≡ length ws
length-phase W phase [] = refl
length-phase W phase (w ∷ ws) = let again = length-phase W phase ws in grind arith

pub after-phase : (V W : WorkId) (phase : Phase) (ws : List Work) → is_after V (with_phase W phase ws) ≡ is_after V ws
after-phase V W phase [] = refl
after-phase V W phase (w ∷ ws) = let again = after-phase V W phase ws in grind arith

-- a work's next phase fits as it did
pub fits_phase : (t : WorkerView) (v : StorageView) (W : WorkId) (w : Work) (phase : Phase) → Fits t v → work_at W t.table ≡ Some w → PhaseFits phase w.tid ((state v).works W) → ListFits (state v).files phase
    → Fits (record { table = with_phase W phase t.table; going = t.going }) v
fits_phase t v W w phase h at stored list = record {
  serving = h.serving;
  few = omega (arith, h.few, length-phase W phase t.table);
  stored = λ V. subst (λ o. WorkFits o ((state v).works V)) (sym (at-phase V W phase t.table)) (stays V (work_eq W V) refl);
  going = h.going;
  lists = λ V. subst (λ o. WorkListFits (state v).files o) (sym (at-phase V W phase t.table)) (listed V (work_eq W V) refl);
  names = λ V s. h.names V (live V (work_eq W V) (ap is_some (sym (at-phase V W phase t.table)) ∙ s));
}
  where
    same : (V : WorkId) → work_eq W V ≡ true → W ≡ V
    same V e = let t = work_tells W V in grind (arith, e)

    found : (V : WorkId) → work_eq W V ≡ true → work_at V t.table ≡ Some w
    found V e = subst (λ U. work_at U t.table ≡ Some w) (same V e) at

    stays : (V : WorkId) (b : Bool) → work_eq W V ≡ b → WorkFits (if b then in_phase phase (work_at V t.table) else work_at V t.table) ((state v).works V)
    stays V true e = subst (λ o. WorkFits (in_phase phase o) ((state v).works V)) (sym (found V e)) (subst (λ U. PhaseFits phase w.tid ((state v).works U)) (same V e) stored)
    stays V false e = h.stored V

    listed : (V : WorkId) (b : Bool) → work_eq W V ≡ b → WorkListFits (state v).files (if b then in_phase phase (work_at V t.table) else work_at V t.table)
    listed V true e = subst (λ o. WorkListFits (state v).files (in_phase phase o)) (sym (found V e)) list
    listed V false e = h.lists V

    live : (V : WorkId) (b : Bool) → is_some (if b then in_phase phase (work_at V t.table) else work_at V t.table) ≡ true → is_some (work_at V t.table) ≡ true
    live V true s = by (work_at V t.table) s
      where
        by : (o : Option Work) → is_some (in_phase phase o) ≡ true → is_some o ≡ true
        by None s = absurd (cc s)
        by (Some x) s = refl
    live V false s = s

pub tickets_phase : (t : WorkerTable) (v : StorageView) (W : WorkId) (phase : Phase) (k : Tickets) → TicketsFit t v k → TicketsFit (with_phase W phase t) v k
tickets_phase t v W phase k h = record { server = h.server; epoch = h.epoch; live = after-phase (name_from k) W phase t ∙ h.live; rubbish = h.rubbish }

pub fits_vulnerable : (t : WorkerView) (v : StorageView) (W : WorkId) (w : Work) → Fits t v → work_at W t.table ≡ Some w → Fits (record { table = with_phase W (vulnerable w.phase) t.table; going = t.going }) v
fits_vulnerable t v W w h at = fits_phase t v W w (vulnerable w.phase) h at
    (stored w.phase ((state v).works W) (subst (λ o. WorkFits o ((state v).works W)) at (h.stored W))) (listed w.phase (subst (λ o. WorkListFits (state v).files o) at (h.lists W)))
  where
    stored : (phase : Phase) (p : Option Prepared) → PhaseFits phase w.tid p → PhaseFits (vulnerable phase) w.tid p
    stored (Active a) None f = f
    stored (Active a) (Some p) f = f
    stored (Broken u T) p f = f
    stored (Stored q) p f = f

    listed : (phase : Phase) → ListFits (state v).files phase → ListFits (state v).files (vulnerable phase)
    listed (Active a) f = record { prepared = f.prepared; writes = f.writes }
    listed (Broken u T) f = f
    listed (Stored q) f = f
