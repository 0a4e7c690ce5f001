-- How a step with a server's device turns out: the server goes on, or is stopped.
use Rattle.jn_machine_refines.proofs.Common.{◌≡◌, ℕ, Bool, true, false, List, [], ◌∷◌, ◌++◌, append-nil, Option, Some, None, refl, sym, ap, subst, arith, ◌||◌, if◌then◌else◌, nat_lt, slice_get, is_some, list_all, ServerNo, Server, server_eq, Message, Text, Pick, stable, RowOutcome, Sent, World, Memory, at_server, Room, server_row, server_step, Deliver, Work, Narrow, StopRestart, Restart, after, run, ends, at_memory, handed, work, works, narrow, stop_restart, restart, handing, working, has_going, Chance, no_room, stopped_idle, pick_read, recovering, is_note, is_up, is_of_delivery, Adds, adds, weaker, halves_found, works_found, tids_found, Left, whole_only}
use Rattle.jn_rows.specs.Worker.{going_work}
use Rattle.jn_report.specs.declared.line.Text.TheVariants as says
use Rattle.jn_rows.specs.declared.worker.Work.{Work as WorkEntry}
use Rattle.jn_machine_refines.proofs.Strikes.{is_harmless}

-- the server goes on, perhaps as one that came up
pub record Goes (q : ServerNo) (w now : World) : Type 0 where
  pub texts : List Text
  pub lines : now.lines ≡ w.lines ++ texts
  pub harmless : list_all is_harmless texts ≡ true
  pub others : (s : ServerNo) → server_eq q s ≡ false → now.memory s ≡ w.memory s
  pub number : now.event ≡ w.event

-- or it is stopped
pub record Halts (q : ServerNo) (w now : World) : Type 0 where
  pub lines : now.lines ≡ w.lines ++ says.Stopped q ∷ []
  pub down : now.memory q ≡ None
  pub others : (s : ServerNo) → server_eq q s ≡ false → now.memory s ≡ w.memory s
  pub number : now.event ≡ w.event

abbrev pub Turns : ServerNo → World → World → Option (Pick → Left) → Type 0
Turns q w now None = Goes q w now
Turns q w now (Some made) = Halts q w now

pub note-harmless : (text : Text) → is_note text ≡ true → is_harmless text ≡ true
note-harmless text h = grind arith

pub delivery-harmless : (text : Text) → is_of_delivery text ≡ true → is_harmless text ≡ true
delivery-harmless text h = grind arith

restart-harmless : (text : Text) → (is_up text || is_note text) ≡ true → is_harmless text ≡ true
restart-harmless text h = grind arith

pub at-other : {A : Type 0} (f : ServerNo → A) (q : ServerNo) (x : A) (s : ServerNo) → server_eq q s ≡ false → at_server f q x s ≡ f s
at-other f q x s e = ap (λ (b : Bool). if b then x else f s) e

pub at-self : {A : Type 0} (f : ServerNo → A) (q : ServerNo) (x : A) → server_eq q q ≡ true → at_server f q x q ≡ x
at-self f q x e = ap (λ (b : Bool). if b then x else f q) e

module _ (w : World) where
  goes-by : (q : ServerNo) (test : Text → Bool) (now : World) → ((text : Text) → test text ≡ true → is_harmless text ≡ true) → Adds test w.event w now
      → ((s : ServerNo) → server_eq q s ≡ false → now.memory s ≡ w.memory s) → Goes q w now
  goes-by q test now h a others = record { texts = a.texts; lines = a.lines; harmless = weaker test is_harmless h a.texts a.kinds; others = others; number = a.event_is }

  pub stays : (q : ServerNo) → Goes q w w
  stays q = record { texts = []; lines = sym (append-nil w.lines); harmless = refl; others = λ s e. refl; number = refl }

  halts : (q : ServerNo) (k : Option ℕ) (made : Pick → Left) (row : RowOutcome Memory) → server_eq q q ≡ true → Halts q w (ends q k (Some made) row w)
  halts q k made row e = record { lines = refl; down = at-self w.memory q None e; others = λ s o. at-other w.memory q None s o; number = refl }

  ends-others : (q : ServerNo) (k : Option ℕ) (row : RowOutcome Memory) (s : ServerNo) → server_eq q s ≡ false → (ends q k None row w).memory s ≡ w.memory s
  ends-others q k row s o = at-other w.memory q (Some row.table) s o

  module _ (q : ServerNo) (self : server_eq q q ≡ true) (m : Memory) (up : w.memory q ≡ Some m) where
    -- a message is handed over to it
    pub delivery-turns : (k : ℕ) (message : Message) (r : Room) (stop : Option (Pick → Left)) → slice_get w.sent k ≡ Some (Server q, message) → Turns q w (after (handing k r stop) w) stop
    delivery-turns k message r None e = goes-by q is_of_delivery (after (Deliver k r) w) delivery-harmless (adds w (Deliver k r))
        (λ s o. subst (λ (sent : Option Sent). (handed k r None sent w).memory s ≡ w.memory s) (sym e)
        (subst (λ (memory : Option Memory). (at_memory q k r None message memory w).memory s ≡ w.memory s) (sym up) (ends-others q (Some k) (server_row m (stable (w.found q)) r message) s o)))
    delivery-turns k message r (Some made) e = subst (λ (sent : Option Sent). Halts q w (handed k r (Some made) sent w)) (sym e)
        (subst (λ (memory : Option Memory). Halts q w (at_memory q k r (Some made) message memory w)) (sym up) (halts q (Some k) made (server_row m (stable (w.found q)) r message) self))

    -- something is to do where a work goes, or a rubbish record is left
    row-there : (r : Room) → (has_going (stable (w.found q)) (Some m) || r.rubbish) ≡ true → is_some (server_step m (stable (w.found q)) r) ≡ true
    row-there r h = by (going_work (stable (w.found q)) m.worker) refl
      where
        by : (o : Option WorkEntry) → going_work (stable (w.found q)) m.worker ≡ o → is_some (server_step m (stable (w.found q)) r) ≡ true
        by o e = grind (arith, e, h)

    row-others : (o : Option (RowOutcome Memory)) (s : ServerNo) → server_eq q s ≡ false → (works q None o w).memory s ≡ w.memory s
    row-others None s e = refl
    row-others (Some row) s e = ends-others q None row s e

    row-halts : (made : Pick → Left) (o : Option (RowOutcome Memory)) → is_some o ≡ true → Halts q w (works q (Some made) o w)
    row-halts made None h = absurd (cc h)
    row-halts made (Some row) h = halts q None made row self

    -- it makes a step
    pub working-turns : (r : Room) (stop : Option (Pick → Left)) → (has_going (stable (w.found q)) (Some m) || r.rubbish) ≡ true → Turns q w (after (working q r stop) w) stop
    working-turns r None h = goes-by q is_note (after (Work q r) w) note-harmless (adds w (Work q r))
        (λ s o. subst (λ (memory : Option Memory). (work q r None memory w).memory s ≡ w.memory s) (sym up) (row-others (server_step m (stable (w.found q)) r) s o))
    working-turns r (Some made) h = subst (λ (memory : Option Memory). Halts q w (work q r (Some made) memory w)) (sym up) (row-halts made (server_step m (stable (w.found q)) r) (row-there r h))

    -- it looks over its pages
    pub idle-turns : (stop : Option (Pick → Left)) → Turns q w (run (stopped_idle q stop) w) stop
    idle-turns None = stays q
    idle-turns (Some made) = working-turns (record no_room { rubbish = true }) (Some (λ c. whole_only 0)) (always (has_going (stable (w.found q)) (Some m)))
      where
        always : (b : Bool) → (b || true) ≡ true
        always b = grind arith

  module _ (q : ServerNo) (self : server_eq q q ≡ true) (down : w.memory q ≡ None) where
    -- it comes up, or is stopped before
    pub recovering-turns : (h : Chance) (stop : Option (Pick → Left)) → Turns q w (run (recovering h q stop) w) stop
    recovering-turns h None = goes-by q (λ text. is_up text || is_note text) (after (Restart q (pick_read h) (works_found h.found) (tids_found h.found)) w) restart-harmless (adds w (Restart q (pick_read h) (works_found h.found) (tids_found h.found)))
        (λ s o. subst (λ (memory : Option Memory). (restart q (pick_read h) (works_found h.found) (tids_found h.found) memory w).memory s ≡ w.memory s) (sym down) (at-other w.memory q _ s o))
    recovering-turns h (Some made) = subst (λ (v : World). Halts q w (after (StopRestart q (λ c. nat_lt 0 (made c).whole)) v)) (sym narrowed)
        (subst (λ (memory : Option Memory). Halts q w (stop_restart q (λ c. nat_lt 0 (made c).whole) memory (narrow q (halves_found h.found) None w))) (sym down)
        (record { lines = refl; down = down; others = λ s o. refl; number = refl }))
      where
        narrowed : narrow q (halves_found h.found) (w.memory q) w ≡ narrow q (halves_found h.found) None w
        narrowed = ap (λ (memory : Option Memory). narrow q (halves_found h.found) memory w) down

    -- its pages are cleaned
    pub narrow-turns : (h : Chance) → Goes q w (run (Narrow q (halves_found h.found) ∷ []) w)
    narrow-turns h = subst (λ (memory : Option Memory). Goes q w (narrow q (halves_found h.found) memory w)) (sym down) (record { texts = []; lines = sym (append-nil w.lines); harmless = refl; others = λ s o. refl; number = refl })
