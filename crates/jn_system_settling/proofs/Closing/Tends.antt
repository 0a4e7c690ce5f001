-- What holds of a course after the end, and on what each work and each transaction waits.
use Rattle.jn_system_settling.proofs.Common.{◌≡◌, ◌≢◌, ◌⊎◌, inl, inr, ◌≤◌, ℕ, ◌+◌, Bool, true, false, List, [], ◌∷◌, ◌++◌, length, length-append, append_assoc, Option, Some, None, is_some, true≢false, refl, sym, ◌∙◌, ap, subst, arith, if◌then◌else◌, slice_get, ◌&&◌, nat_tests, ServerNo, ClientNo, Tid, WorkId, Server, server_eq, server_tells, AllFiles, Message, Work, Transaction, Stage, Open, Voting, Committed, Aborted, StableState, Prepared, Pick, stable, made_all, is_ready, RowOutcome, Sent, work_at, transaction_at, is_work, Machine, Invariant, Knows, Says, run_atoms, opening_world, some_is, some_of, not_both, World, Memory, Room, server_row, Step, IsStep, after, done, UpFact, ServerFact, IsAddressed, IsTransaction, IsStage, knowledge_of, known_in, found-is, Course, numbered, still_waiting, go, Reached, next-reached, MayBeFound, run_kept, opening_kept}
use Rattle.jn_msgs.specs.declared.message.Message.TheVariants as messages
use Rattle.jn_system_settling.proofs.Settling.Burdens.{are_below, get-more, get-next}
use Rattle.jn_system_settling.proofs.Settling.Courses.{Sound, go-sound, waiting-is, below-still}
use Rattle.jn_system_settling.proofs.AtRest.Within.{Within, within-step}
use Rattle.jn_system_settling.proofs.AtRest.Ways.{Has, Waits, now-waits}
use Rattle.jn_system_settling.proofs.Closing.Rows.{Kept, is_ours, are_ours, needs, needs_of, needs_in, RowTends, Own, Takes, commit-takes, drop-takes, inquire-answers, done-answers}

-- ---- the messages that wait

abbrev pub ours_at : Option Sent → Bool
ours_at None = true
ours_at (Some x) = is_ours x

abbrev pub waiting_ours : List Sent → List ℕ → Bool
waiting_ours sent [] = true
waiting_ours sent (k ∷ ks) = ours_at (slice_get sent k) && waiting_ours sent ks

pub ours-more : (xs ys : List Sent) (ks : List ℕ) → are_below (length xs) ks ≡ true → waiting_ours xs ks ≡ true → waiting_ours (xs ++ ys) ks ≡ true
ours-more xs ys [] h k = refl
ours-more xs ys (j ∷ ks) h k = let again = ours-more xs ys ks in let here = get-more xs ys j (grind (arith, nat_tests, h)) in grind (arith, h, k, here)

pub ours-both : (xs : List Sent) (a b : List ℕ) → waiting_ours xs a ≡ true → waiting_ours xs b ≡ true → waiting_ours xs (a ++ b) ≡ true
ours-both xs [] b h k = k
ours-both xs (j ∷ a) b h k = let again = ours-both xs a b in grind (arith, h, k)

pub ours-new : (xs ys : List Sent) → are_ours ys ≡ true → waiting_ours (xs ++ ys) (numbered (length xs) ys) ≡ true
ours-new xs [] h = refl
ours-new xs (y ∷ ys) h = let here = get-next xs y ys in let again = ours-new (xs ++ y ∷ []) ys (grind (arith, h)) in let l = length-append xs (y ∷ []) in
    let rest : waiting_ours (xs ++ y ∷ ys) (numbered (length xs + 1) ys) ≡ true = subst (λ zs. waiting_ours zs (numbered (length xs + 1) ys) ≡ true) (append_assoc xs (y ∷ []) ys) (subst (λ j. waiting_ours ((xs ++ y ∷ []) ++ ys) (numbered j ys) ≡ true) l again) in grind (arith, h, here, rest)

-- ---- what is waited for

abbrev pub stored : World → WorkId → Option Prepared
stored w W = (stable (w.found W.server)).works W

-- a transaction waits for the work
pub record Needed (w : World) (T : Tid) (W : WorkId) : Type 0 where
  pub memory : Memory
  pub up : w.memory T.server ≡ Some memory
  pub is : needs memory.coordinator.transactions T W ≡ true

-- a message waits that will end its being ready
pub data Asked (d : Course) (W : WorkId) : Type 0 where
  inquires : (T : Tid) → Waits d.world.sent d.waiting (Server T.server, messages.Inquire T W) → Asked d W
  commits : (T : Tid) → Waits d.world.sent d.waiting (Server W.server, messages.Commit T W) → Asked d W
  drops : (T : Tid) → Waits d.world.sent d.waiting (Server W.server, messages.Drop T W) → Asked d W

-- the work is there, or a message waits that will end the need
pub data Stays (d : Course) (T : Tid) (W : WorkId) : Type 0 where
  lives : is_some (stored d.world W) ≡ true → Stays d T W
  told : Waits d.world.sent d.waiting (Server W.server, messages.Commit T W) → Stays d T W
  carried : Waits d.world.sent d.waiting (Server T.server, messages.Done T W) → Stays d T W

pub record Ways (d : Course) : Type 0 where
  pub ready : (W : WorkId) → is_ready (stored d.world W) ≡ true → Asked d W
  pub needed : (T : Tid) (W : WorkId) → Needed d.world T W → Stays d T W

stored-now : (q : ServerNo) (k : Option ℕ) (row : RowOutcome Memory) (w : World) (W : WorkId) → stored (done q k row w) W ≡ (if server_eq q W.server then (made_all row.changes (stable (w.found q))).works W else stored w W)
stored-now q k row w W = by (server_eq q W.server)
  where
    by : (b : Bool) → (if b then (if true then made_all row.changes (stable (w.found q)) else stable (w.found q)) else stable (w.found W.server)).works W ≡ (if b then (made_all row.changes (stable (w.found q))).works W else stored w W)
    by true = refl
    by false = refl

module _ (n : ℕ) (at_most : n ≤ 8) (start : World) (files : AllFiles) (epochs : ServerNo → ℕ) where
  pub record Tends (d : Course) : Type 0 where
    pub sound : Sound n start d
    pub known : Reached files epochs d.world
    pub within : Within n d.world
    pub kept : (s : ServerNo) (m : Memory) → d.world.memory s ≡ Some m → Kept m
    pub idle : (c : ClientNo) → (d.world.clients c).outstanding ≡ None
    pub ours : waiting_ours d.world.sent d.waiting ≡ true

  -- ---- what the machine knows

  module _ (d : Course) (h : Tends d) where
    abbrev w : World
    w = d.world

    abbrev v : Machine
    v = run_atoms h.known.atoms (opening_world files epochs)

    pub inv : Invariant v
    inv = run_kept h.known.atoms (opening_world files epochs) h.known.may (opening_kept files epochs)

    pub up-fact : (s : ServerNo) (m : Memory) → w.memory s ≡ Some m → UpFact s m (w.found s)
    up-fact s m up = subst (λ o. ServerFact s o (w.found s)) up (h.sound.locks s)

    record PartOf (T : Tid) (W : WorkId) : Type 0 where
      owner : v.owner W ≡ T
      part : v.part T W.server ≡ Some W
      not_aborted : v.aborted T ≡ false
      has_ended : v.ended T ≡ true

    needed-part : (T : Tid) (W : WorkId) → Needed w T W → PartOf T W
    needed-part T W need = by (transaction_at T need.memory.coordinator.transactions) refl need.is
      where
        by : (o : Option Transaction) → transaction_at T need.memory.coordinator.transactions ≡ o → needs_of W o ≡ true → PartOf T W
        by None e is = absurd (true≢false (sym is))
        by (Some x) e is = on x.stage refl is (let f = found.0 in f.is)
          where
            found : IsTransaction v T.server x × (x.tid ≡ T)
            found = found-is v T.server T need.memory.coordinator.transactions x (h.known.mirrors.transactions T.server need.memory need.up) e

            known : (stage : Stage) → x.stage ≡ stage → Knows v T (knowledge_of (Some (record x { stage = stage })))
            known stage g = subst (λ k. Knows v T k) (h.known.mirrors.knowledge T ∙ ap (λ o. known_in o T) need.up ∙ ap knowledge_of e ∙ ap (λ (z : Stage). knowledge_of (Some (record x { stage = z }))) g)
                (inv.core.knowledge T (h.known.mirrors.up T.server ∙ ap is_some need.up) (let f = found.0 in subst (λ (U : Tid). v.begun U ≡ true) found.1 f.begun))

            on : (stage : Stage) → x.stage ≡ stage → needs_in W stage ≡ true → IsStage v x.tid x.stage → PartOf T W
            on (Committed c) g k s = let st : IsStage v T (Committed c) = subst (λ (U : Tid). IsStage v U (Committed c)) found.1 (subst (λ (z : Stage). IsStage v x.tid z) g s) in
                let part : v.part T W.server ≡ Some W = st.1.each W (first (is_work W c.works) _ k) in
                let p = inv.core.parts T W.server W part in let kn = known (Committed c) g in record { owner = p.owner; part = part; not_aborted = kn.1; has_ended = st.0 }
              where
                first : (a b : Bool) → (a && b) ≡ true → a ≡ true
                first a b e = grind (arith, e)
            on Open g k s = absurd (true≢false (sym k))
            on (Voting b) g k s = absurd (true≢false (sym k))
            on (Aborted cause) g k s = absurd (true≢false (sym k))

    state : (s : ServerNo) (c : Pick) → MayBeFound v s (w.found s c)
    state s c = subst (λ (x : StableState). MayBeFound v s x) (h.known.mirrors.found s c) (inv.core.states s c)

    -- a work that is to be dropped isn't needed
    drop-free : (T U : Tid) (W : WorkId) → Says v (messages.Drop T W) → Needed w U W → is_some (stored w W) ≡ true → ⊥
    drop-free T U W says need is = by says.1
      where
        p : PartOf U W
        p = needed-part U W need

        same : U ≡ T
        same = sym p.owner ∙ says.0.1

        there : (a : Prepared) × (stored w W ≡ Some a)
        there = some_of (stored w W) is

        by : (v.aborted T ≡ true) ⊎ ((v.over W ≡ true) ⊎ ((v.ended T ≡ true) × (v.part T W.server ≢ Some W))) → ⊥
        by (inl a) = not_both (v.aborted T) a (subst (λ (X : Tid). v.aborted X ≡ false) same p.not_aborted)
        by (inr (inl o)) = not_both (v.over W) o (let f = (state W.server (λ j. false)).prepared W there.0 there.1 in f.not_over)
        by (inr (inr o)) = o.1 (subst (λ (X : Tid). v.part X W.server ≡ Some W) same p.part)

    pub same-owner : (s : ServerNo) (m : Memory) → w.memory s ≡ Some m → (W : WorkId) (u : Work) (T : Tid) → work_at W m.worker ≡ Some u → Needed w T W → T ≡ u.tid
    same-owner s m up W u T e need = let p = needed-part T W need in sym p.owner ∙ (h.known.mirrors.owner s m W u up e).1

    -- ---- rows

    -- a server takes a message of these
    pub takes : (q : ServerNo) (m : Memory) (room : Room) (message : Message) → w.memory q ≡ Some m → is_ours (Server q, message) ≡ true → Says v message → IsAddressed (Server q, message)
        → Takes m (stable (w.found q)) (Needed w) (server_row m (stable (w.found q)) room message) (Server q, message)
    takes q m room (messages.Commit T W) up is says at = let f = up-fact q m up in commit-takes m (stable (w.found q)) (Needed w) (h.kept q m up) room f.table q T W (work_at W m.worker) refl
    takes q m room (messages.Drop T W) up is says at = let f = up-fact q m up in drop-takes m (stable (w.found q)) (Needed w) (h.kept q m up) room f.table q T W
        (λ U need there. drop-free T U W says need (subst (λ (s : ServerNo). is_some ((stable (w.found s)).works W) ≡ true) (sym at) there)) (work_at W m.worker) refl
    takes q m room (messages.Inquire T W) up is says at = inquire-answers m (stable (w.found q)) (Needed w) (h.kept q m up) q T W (transaction_at T m.coordinator.transactions) refl
    takes q m room (messages.Done T W) up is says at = done-answers m (stable (w.found q)) (Needed w) (h.kept q m up) v q (h.known.mirrors.transactions q m up) q T W (transaction_at T m.coordinator.transactions) refl
    takes q m room _ up is says at = absurd (true≢false (sym is))

    -- ---- the world after a row

    module _ (step : Step) (i : IsStep step w) (q : ServerNo) (m : Memory) (up : w.memory q ≡ Some m) (row : RowOutcome Memory) (k : Option ℕ) (is : after step w ≡ done q k row w)
        (tends : RowTends m (stable (w.found q)) (Needed w) row) where
      its-sent : (after step w).sent ≡ w.sent ++ row.messages
      its-sent = ap (λ (z : World). z.sent) is

      pub row-tends : waiting_ours w.sent (still_waiting step d.waiting) ≡ true → Tends (go step d)
      row-tends left = record {
        sound = go-sound n at_most start d step h.sound i;
        known = next-reached files epochs w step i h.known;
        within = within-step n at_most w h.sound.sizes h.sound.locks h.within step i;
        kept = λ s a e. kept s a (server_eq q s) (sym (ap (λ (z : World). z.memory s) is) ∙ e);
        idle = λ c. ap (λ (z : World). (z.clients c).outstanding) is ∙ h.idle c;
        ours = subst (λ xs. waiting_ours xs (go step d).waiting ≡ true) (sym its-sent) (subst (λ ks. waiting_ours (w.sent ++ row.messages) ks ≡ true) (sym (waiting-is n at_most start d step row.messages its-sent))
            (ours-both (w.sent ++ row.messages) (still_waiting step d.waiting) (numbered (length w.sent) row.messages)
            (ours-more w.sent row.messages (still_waiting step d.waiting) (below-still (length w.sent) step d.waiting h.sound.below) left) (ours-new w.sent row.messages tends.ours)));
      }
        where
          kept : (s : ServerNo) (a : Memory) (b : Bool) → (if b then Some row.table else w.memory s) ≡ Some a → Kept a
          kept s a true e = subst (λ (z : Memory). Kept z) (some_is row.table a e) tends.kept
          kept s a false e = h.kept s a e

      module _ (x0 : Sent) (own : Own m (stable (w.found q)) (Needed w) row x0) (moved : (x : Sent) → Waits w.sent d.waiting x → Waits (go step d).world.sent (go step d).waiting x ⊎ (x ≡ x0)) where
        new-waits : (x : Sent) → Has x row.messages → Waits (go step d).world.sent (go step d).waiting x
        new-waits x has = now-waits n at_most start d step row.messages x its-sent has

        its-own : (x : Sent) → x ≡ x0 → Own m (stable (w.found q)) (Needed w) row x
        its-own x e = subst (λ (z : Sent). Own m (stable (w.found q)) (Needed w) row z) (sym e) own

        here : (W : WorkId) → server_eq q W.server ≡ true → stored (go step d).world W ≡ (made_all row.changes (stable (w.found q))).works W
        here W e = ap (λ (z : World). stored z W) is ∙ stored-now q k row w W ∙ ap (λ (b : Bool). if b then (made_all row.changes (stable (w.found q))).works W else stored w W) e

        there : (W : WorkId) → server_eq q W.server ≡ false → stored (go step d).world W ≡ stored w W
        there W e = ap (λ (z : World). stored z W) is ∙ stored-now q k row w W ∙ ap (λ (b : Bool). if b then (made_all row.changes (stable (w.found q))).works W else stored w W) e

        at-here : (W : WorkId) → q ≡ W.server → server_eq q W.server ≡ true
        at-here W e = subst (λ (s : ServerNo). server_eq q s ≡ true) e (grind (arith, nat_tests))

        -- the message that was handed over is to the server
        module _ (to : (s : ServerNo) (message : Message) → (Server s, message) ≡ x0 → q ≡ s) where
          was-ready : (W : WorkId) → is_ready (stored (go step d).world W) ≡ true → is_ready (stored w W) ≡ true
          was-ready W r = by (server_tells q W.server)
            where
              by : ((server_eq q W.server ≡ true) × (q ≡ W.server)) ⊎ ((server_eq q W.server ≡ false) × (q ≢ W.server)) → is_ready (stored w W) ≡ true
              by (inl e) = subst (λ (s : ServerNo). is_ready ((stable (w.found s)).works W) ≡ true) e.1 (tends.ready W (sym (ap is_ready (here W e.0)) ∙ r))
              by (inr e) = sym (ap is_ready (there W e.0)) ∙ r

          ready-on : (W : WorkId) → is_ready (stored (go step d).world W) ≡ true → Asked d W → Asked (go step d) W
          ready-on W r (inquires T a) = by (moved _ a)
            where
              by : Waits (go step d).world.sent (go step d).waiting (Server T.server, messages.Inquire T W) ⊎ ((Server T.server, messages.Inquire T W) ≡ x0) → Asked (go step d) W
              by (inl a) = inquires T a
              by (inr e) = on (its-own (Server T.server, messages.Inquire T W) e)
                where
                  on : Has (Server W.server, messages.Commit T W) row.messages ⊎ Has (Server W.server, messages.Drop T W) row.messages → Asked (go step d) W
                  on (inl z) = commits T (new-waits _ z)
                  on (inr z) = drops T (new-waits _ z)
          ready-on W r (commits T a) = by (moved _ a)
            where
              by : Waits (go step d).world.sent (go step d).waiting (Server W.server, messages.Commit T W) ⊎ ((Server W.server, messages.Commit T W) ≡ x0) → Asked (go step d) W
              by (inl a) = commits T a
              by (inr e) = absurd (true≢false (sym r ∙ ap is_ready (here W (at-here W (to W.server (messages.Commit T W) e))) ∙ (its-own (Server W.server, messages.Commit T W) e).0))
          ready-on W r (drops T a) = by (moved _ a)
            where
              by : Waits (go step d).world.sent (go step d).waiting (Server W.server, messages.Drop T W) ⊎ ((Server W.server, messages.Drop T W) ≡ x0) → Asked (go step d) W
              by (inl a) = drops T a
              by (inr e) = absurd (true≢false (sym r ∙ ap is_ready (here W (at-here W (to W.server (messages.Drop T W) e))) ∙ its-own (Server W.server, messages.Drop T W) e))

          was-needed : (T : Tid) (W : WorkId) → Needed (go step d).world T W → Needed w T W
          was-needed T W need = by (server_tells q T.server) (sym (ap (λ (z : World). z.memory T.server) is) ∙ need.up)
            where
              by : ((server_eq q T.server ≡ true) × (q ≡ T.server)) ⊎ ((server_eq q T.server ≡ false) × (q ≢ T.server)) → (if server_eq q T.server then Some row.table else w.memory T.server) ≡ Some need.memory → Needed w T W
              by (inl e) g = record {
                memory = m;
                up = ap w.memory (sym e.1) ∙ up;
                is = tends.needed T W (subst (λ (z : Memory). needs z.coordinator.transactions T W ≡ true)
                    (sym (some_is row.table need.memory (sym (ap (λ (b : Bool). if b then Some row.table else w.memory T.server) e.0) ∙ g))) need.is);
              }
              by (inr e) g = record { memory = need.memory; up = sym (ap (λ (b : Bool). if b then Some row.table else w.memory T.server) e.0) ∙ g; is = need.is }

          -- what the row's table needs
          table-needs : (T : Tid) (W : WorkId) → Needed (go step d).world T W → q ≡ T.server → needs row.table.coordinator.transactions T W ≡ true
          table-needs T W need e = subst (λ (z : Memory). needs z.coordinator.transactions T W ≡ true) (sym (some_is row.table need.memory
              (sym (ap (λ (b : Bool). if b then Some row.table else w.memory T.server) (subst (λ (s : ServerNo). server_eq q s ≡ true) e (grind (arith, nat_tests)))) ∙ (sym (ap (λ (z : World). z.memory T.server) is) ∙ need.up)))) need.is

          gone-or : (T : Tid) (W : WorkId) → q ≡ W.server → (is_some ((made_all row.changes (stable (w.found q))).works W) ≡ true) ⊎ Has (Server T.server, messages.Done T W) row.messages → Stays (go step d) T W
          gone-or T W e (inl z) = lives (ap is_some (here W (at-here W e)) ∙ z)
          gone-or T W e (inr z) = carried (new-waits _ z)

          needed-on : (T : Tid) (W : WorkId) → Needed (go step d).world T W → Stays d T W → Stays (go step d) T W
          needed-on T W need (lives l) = by (server_tells q W.server)
            where
              by : ((server_eq q W.server ≡ true) × (q ≡ W.server)) ⊎ ((server_eq q W.server ≡ false) × (q ≢ W.server)) → Stays (go step d) T W
              by (inl e) = gone-or T W e.1 (tends.stays T W (was-needed T W need) (subst (λ (s : ServerNo). is_some ((stable (w.found s)).works W) ≡ true) (sym e.1) l))
              by (inr e) = lives (ap is_some (there W e.0) ∙ l)
          needed-on T W need (told a) = by (moved _ a)
            where
              by : Waits (go step d).world.sent (go step d).waiting (Server W.server, messages.Commit T W) ⊎ ((Server W.server, messages.Commit T W) ≡ x0) → Stays (go step d) T W
              by (inl a) = told a
              by (inr e) = gone-or T W (to W.server (messages.Commit T W) e) (its-own (Server W.server, messages.Commit T W) e).1
          needed-on T W need (carried a) = by (moved _ a)
            where
              by : Waits (go step d).world.sent (go step d).waiting (Server T.server, messages.Done T W) ⊎ ((Server T.server, messages.Done T W) ≡ x0) → Stays (go step d) T W
              by (inl a) = carried a
              by (inr e) = absurd (true≢false (sym (table-needs T W need (to T.server (messages.Done T W) e)) ∙ its-own (Server T.server, messages.Done T W) e))

          pub row-ways : Ways d → Ways (go step d)
          row-ways ways = record {
            ready = λ W r. ready-on W r (ways.ready W (was-ready W r));
            needed = λ T W need. needed-on T W need (ways.needed T W (was-needed T W need));
          }
