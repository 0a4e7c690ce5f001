-- What each task does where nothing strikes: the same as without chances.
use Rattle.jn_wrong.proofs.Common.{◌≡◌, ◌≢◌, ◌⊎◌, inl, inr, ℕ, ◌<◌, Bool, true, false, List, [], ◌∷◌, Option, Some, None, is_some, refl, sym, ◌∙◌, ap, subst, arith, nat_tests, ◌||◌, if◌then◌else◌, nat_lt, list_any, ServerNo, ClientNo, Command, server_eq, server_tells, DeviceState, Event, Pick, Commanded, Refuses, Sends, command_row, World, Memory, NextEvent, Tell, Again, Nudge, Crash, CloseClients, AreNames, after, commanded, crash, go_on, Setup, Chance, Task, Begins, Meets, Acts, Dismisses, GoesDown, ClosesClients, CountsCommits, State, begun, served, stopped_idle, crashed_at, Devices, IsServed, Alone, Befalls, deed_of, made, done, IsQuiet, Calm, called-calm, quiet-same, quiet-alone, quiet-called, nudged-up, closed-up, crashed-up, no-faults, row_calls, IsScrubbed, scrubbed, Left}
use Rattle.jn_wrong.proofs.StillRuns.{still}
use Rattle.jn_schedule.specs.declared.Event.TheVariants as events
use Rattle.jn_wrong.proofs.Bare.{bare_course, bare, made-same}

-- it comes to what is done without chances, and nothing strikes later
pub record Follows (x : Setup) (h : Chance) (task : Task) (s : State) (es : Devices) : Type 0 where
  pub same : bare (done x h task s) ≡ bare (done x still task s)
  pub quiet : IsQuiet x (go_on (deed_of x h task s).steps s.course).world es

pub clash : (a : Bool) → a ≡ true → a ≡ false → ⊥
clash a e k = cc

pub below : (q n : ℕ) → nat_lt q n ≡ true → q < n
below q n e = grind (arith, nat_tests, e)

-- ---- names of nothing

pub none-named : {A B : Type 0} (eq before : A → A → Bool) (there : A → Option B) (names : List A) → AreNames eq before there names → ((a : A) → eq a a ≡ true) → ((a : A) → there a ≡ None) → names ≡ []
none-named eq before there [] are self none = refl
none-named eq before there (a ∷ names) are self none = absurd (clash (list_any (λ b. eq b a) (a ∷ names)) (first (eq a a) (list_any (λ b. eq b a) names) (self a)) (are.each a ∙ ap is_some (none a)))
  where
    first : (b c : Bool) → b ≡ true → (b || c) ≡ true
    first b c k = grind arith

pub itself : {A : Type 0} (eq : A → A → Bool) (a : A) → ((eq a a ≡ true) × (a ≡ a)) ⊎ ((eq a a ≡ false) × (a ≢ a)) → eq a a ≡ true
itself eq a (inl t) = t.0
itself eq a (inr t) = absurd (t.1 refl)

told-memory : (c : ClientNo) (r : Commanded) (w : World) → (commanded c r w).memory ≡ w.memory
told-memory c (Refuses refusal) w = refl
told-memory c (Sends t to message) w = refl

module _ (x : Setup) (h : Chance) (s : State) (ds es : Devices) (quiet : IsQuiet x s.course.world ds) where
  abbrev w : World
  w = s.course.world

  pub begins : (e : Event) → Befalls x h (deed_of x h (Begins e) s) w ds es → Follows x h (Begins e) s es
  begins e b = record { same = refl; quiet = quiet-same x w (after NextEvent w) ds es quiet (λ q z. z) b.used }

  pub tells-client : (c : ClientNo) (command : Command) → Befalls x h (deed_of x h (Meets (events.Command c command)) s) w ds es → Follows x h (Meets (events.Command c command)) s es
  tells-client c command b = record {
    same = refl;
    quiet = quiet-same x w (after (Tell c command) w) ds es quiet (λ q z. ap (λ (f : ServerNo → Option Memory). is_some (f q)) (sym (told-memory c (command_row (w.clients c) w.event command) w)) ∙ z) b.used;
  }

  pub settles : Befalls x h (deed_of x h (Meets events.Settle) s) w ds es → Follows x h (Meets events.Settle) s es
  settles b = record { same = refl; quiet = quiet-same x w w ds es quiet (λ q z. z) b.used }

  pub asks : (c : ClientNo) → Befalls x h (deed_of x h (Acts (events.Again c)) s) w ds es → Follows x h (Acts (events.Again c)) s es
  asks c b = record { same = refl; quiet = quiet-same x w (after (Again c) w) ds es quiet (λ q z. z) b.used }

  pub nudges : (q : ServerNo) → Befalls x h (deed_of x h (Acts (events.Nudge q)) s) w ds es → Follows x h (Acts (events.Nudge q)) s es
  nudges q b = record { same = refl; quiet = quiet-same x w (after (Nudge q) w) ds es quiet (λ p. nudged-up w p q) b.used }

  pub dismisses : Befalls x h (deed_of x h Dismisses s) w ds es → Follows x h Dismisses s es
  dismisses b = by b.used
    where
      by : ((q : ServerNo) → es q ≡ record (ds q) { waiting = [] }) → Follows x h Dismisses s es
      by used = record {
        same = refl;
        quiet = record {
          power = λ q l z. ap (λ (d : DeviceState). d.power) (used q) ∙ quiet.power q l z;
          told = λ q l. ap (λ (d : DeviceState). d.told) (used q) ∙ quiet.told q l;
          waiting = λ q l. ap (λ (d : DeviceState). d.waiting) (used q);
        };
      }

  pub counts : Befalls x h (deed_of x h CountsCommits s) w ds es → Follows x h CountsCommits s es
  counts b = record { same = refl; quiet = quiet-same x w w ds es quiet (λ q z. z) b.used }

  -- ---- a server is called

  pub is-calm : (most : ℕ) (q : ServerNo) → q.0 < x.servers → Alone q (IsServed (x.counts q) most h w q) ds es → Calm h (es q)
  is-calm most q l a = called-calm most h (ds q) (es q) a.its.called (quiet.power q l (ap is_some a.its.up)) (quiet.told q l) (quiet.waiting q l)

  pub closes : (q : ServerNo) → q.0 < x.servers → Befalls x h (deed_of x h (ClosesClients q) s) w ds es → Follows x h (ClosesClients q) s es
  closes q l b = by b.used
    where
      by : Alone q (IsServed (x.counts q) row_calls h w q) ds es → Follows x h (ClosesClients q) s es
      by a = let calm = is-calm row_calls q l a in record {
        same = made-same x h (served q row_calls (CloseClients q ∷ [])) (CloseClients q ∷ []) (begun (ClosesClients q) s) (no-faults q h.told calm.told) refl refl;
        quiet = quiet-called x w (after (CloseClients q) w) ds es quiet h q (λ p. closed-up w p q) a.others calm;
      }

  pub scrubs : (q : ServerNo) → q.0 < x.servers → Befalls x h (deed_of x h (Acts (events.Scrub q)) s) w ds es → Follows x h (Acts (events.Scrub q)) s es
  scrubs q l b = by b.used
    where
      by : Alone q (IsScrubbed (x.counts q) h w q) ds es → Follows x h (Acts (events.Scrub q)) s es
      by a = let calm = called-calm _ h (ds q) (es q) a.its.served.called (quiet.power q l (ap is_some a.its.served.up)) (quiet.told q l) (quiet.waiting q l) in record {
        same = made-same x h (scrubbed h q) [] (begun (Acts (events.Scrub q)) s) (no-faults q h.told calm.told) refl (ap (λ (o : Option (Pick → Left)). bare_course (go_on (stopped_idle q o) s.course)) calm.stop);
        quiet = subst (λ (o : Option (Pick → Left)). IsQuiet x (go_on (stopped_idle q o) s.course).world es) (sym calm.stop) (quiet-called x w w ds es quiet h q (λ p z. z) a.others calm);
      }

  -- ---- a server goes down

  crashes : (q : ServerNo) → q.0 < x.servers → (o : Option Memory) → w.memory q ≡ o → Befalls x h (crashed_at q o) w ds es
      → (bare (made x h (crashed_at q o) (begun (GoesDown q) s)) ≡ bare (made x still (crashed_at q o) (begun (GoesDown q) s))) × IsQuiet x (go_on (crashed_at q o).steps s.course).world es
  crashes q l None e b = (refl, quiet-same x w w ds es quiet (λ p z. z) b.used)
  crashes q l (Some m) e b = (refl, by b.used)
    where
      dark : is_some ((after (Crash q) w).memory q) ≡ true → ⊥
      dark z = no' (sym (ap (λ (o : Option Memory). is_some ((crash q o w).memory q)) e ∙ ap (λ (c : Bool). is_some (if c then None else w.memory q)) (itself server_eq q (server_tells q q))) ∙ z)
        where
          no' : false ≡ true → ⊥
          no' k = cc

      by : Alone q (λ (d e : DeviceState). e ≡ record d { power = false }) ds es → IsQuiet x (after (Crash q) w) es
      by a = quiet-alone x w (after (Crash q) w) ds es quiet q (λ p k. crashed-up w p q) a.others (λ z. absurd (dark z))
          (ap (λ (d : DeviceState). d.told) a.its ∙ quiet.told q l) (ap (λ (d : DeviceState). d.waiting) a.its ∙ quiet.waiting q l)

  pub goes-down : (q : ServerNo) → q.0 < x.servers → Befalls x h (deed_of x h (GoesDown q) s) w ds es → Follows x h (GoesDown q) s es
  goes-down q l b = let r = crashes q l (w.memory q) refl b in record { same = r.0; quiet = r.1 }
