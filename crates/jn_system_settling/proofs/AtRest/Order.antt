-- What a settle asks for again is handed over in its order: the clients ask first, so no Begin waits any more when a work's
-- question for its outcome is handed over.
use Rattle.jn_system_settling.proofs.Common.{length, length-append, append_assoc, ◌≡◌, ◌≢◌, ◌⊎◌, inl, inr, ◌≤◌, ◌<◌, ℕ, ◌+◌, Bool, true, false, List, [], ◌∷◌, ◌++◌, Option, Some, None, true≢false, refl, sym, ◌∙◌, ap, subst, arith, ◌&&◌, ◌||◌, if◌then◌else◌, slice_get, nat_eq, map, list_any, nat_tests, ServerNo, ClientNo, Tid, client_eq, server_eq, server_tells, Message, Transaction, Stage, Open, Voting, Committed, Aborted, StableState, Pick, stable, Sent, WorkerTable, worker_again, besides, commits, committed_to, told_again, coordinator_again, again_row, World, Memory, server_again, Step, Again, Nudge, IsStep, sent_now, Course, numbered, go, go_on, ask_again}
use Rattle.jn_system_settling.proofs.Settling.Burdens.{are_below, get-more, get-next}
use Rattle.jn_system_settling.proofs.Settling.Courses.{Sound, waiting-is}
use Rattle.jn_system_settling.proofs.AtRest.Ways.{Has, Waits, any-right, below-any}
use Rattle.jn_system_settling.proofs.AtRest.Votes.{is_plain, are_plain, is_begin_message, again-plain}
use Rattle.jn_system_settling.proofs.AtRest.Calm.{Comes, more_at, new-has, any-either, nudged, nudge-comes, again-comes}
use Rattle.jn_system_settling.proofs.AtRest.About.{is_about, are_off, off-both, off-commits}

-- no Begin is among these
abbrev pub NoBegin : List Sent → List ℕ → Type 0
NoBegin sent waiting = (y : Sent) → Waits sent waiting y → is_begin_message y.1 ≡ false

abbrev pub NoneBegins : List Sent → Type 0
NoneBegins more = (y : Sent) → Has y more → is_begin_message y.1 ≡ false

-- it waits, and no Begin waits behind it
pub record Before (sent : List Sent) (waiting : List ℕ) (x : Sent) : Type 0 where
  pub ahead : List ℕ
  pub number : ℕ
  pub behind : List ℕ
  pub split : waiting ≡ ahead ++ number ∷ behind
  pub is : slice_get sent number ≡ Some x
  pub none : NoBegin sent behind

pub plain-begins : (more : List Sent) → are_plain more ≡ true → NoneBegins more
plain-begins [] h y k = absurd k
plain-begins (x ∷ more) h y (inl e) = subst (λ (z : Sent). is_begin_message z.1 ≡ false) e (one x.1 (first (is_plain x.1) (are_plain more) h))
  where
    one : (m : Message) → is_plain m ≡ true → is_begin_message m ≡ false
    one m q = grind arith

    first : (a b : Bool) → (a && b) ≡ true → a ≡ true
    first a b q = grind arith
plain-begins (x ∷ more) h y (inr k) = plain-begins more (second (is_plain x.1) (are_plain more) h) y k
  where
    second : (a b : Bool) → (a && b) ≡ true → b ≡ true
    second a b q = grind arith

pub off-has : (T : Tid) (more : List Sent) → are_off T more ≡ true → (y : Sent) → Has y more → is_about T y.1 ≡ false
off-has T [] h y k = absurd k
off-has T (x ∷ more) h y (inl e) = subst (λ (z : Sent). is_about T z.1 ≡ false) e (grind (arith, h))
off-has T (x ∷ more) h y (inr k) = off-has T more (grind (arith, h)) y k

-- ---- a list grows

split-any : (k : ℕ) (a b : List ℕ) (j : ℕ) → list_any (nat_eq j) b ≡ true → list_any (nat_eq j) (a ++ k ∷ b) ≡ true
split-any k a b j h = any-right (nat_eq j) a (k ∷ b) (grind (arith, h))

none-more : (sent more : List Sent) (ks : List ℕ) → ((j : ℕ) → list_any (nat_eq j) ks ≡ true → j < length sent) → NoBegin sent ks → NoneBegins more → NoBegin (sent ++ more) (ks ++ numbered (length sent) more)
none-more sent more ks below none new y w = by (any-either (nat_eq w.number) ks (numbered (length sent) more) w.waits)
  where
    by : (list_any (nat_eq w.number) ks ≡ true) ⊎ (list_any (nat_eq w.number) (numbered (length sent) more) ≡ true) → is_begin_message y.1 ≡ false
    by (inl q) = none y (record { number = w.number; waits = q; is = sym (get-more sent more w.number (below w.number q)) ∙ w.is })
    by (inr q) = new y (new-has sent more w.number y q w.is)

pub before-more : (sent more : List Sent) (ks : List ℕ) (x : Sent) → are_below (length sent) ks ≡ true → Before sent ks x → NoneBegins more → Before (sent ++ more) (ks ++ numbered (length sent) more) x
before-more sent more ks x below h new = record {
  ahead = h.ahead;
  number = h.number;
  behind = h.behind ++ numbered (length sent) more;
  split = ap (λ l. l ++ numbered (length sent) more) h.split ∙ append_assoc h.ahead (h.number ∷ h.behind) (numbered (length sent) more);
  is = get-more sent more h.number (at h.number (any-right (nat_eq h.number) h.ahead (h.number ∷ h.behind) (itself h.number (list_any (nat_eq h.number) h.behind)))) ∙ h.is;
  none = none-more sent more h.behind (λ j q. at j (split-any h.number h.ahead h.behind j q)) h.none new;
}
  where
    at : (j : ℕ) → list_any (nat_eq j) (h.ahead ++ h.number ∷ h.behind) ≡ true → j < length sent
    at j q = below-any (length sent) j ks below (ap (list_any (nat_eq j)) h.split ∙ q)

    itself : (j : ℕ) (b : Bool) → (nat_eq j j || b) ≡ true
    itself j b = grind (arith, nat_tests)

new-before : (sent more : List Sent) (x : Sent) → Has x more → NoneBegins more → Before (sent ++ more) (numbered (length sent) more) x
new-before sent [] x h none = absurd h
new-before sent (y ∷ more) x h none = by h (new-before (sent ++ y ∷ []) more x)
  where
    longer : length (sent ++ y ∷ []) ≡ length sent + 1
    longer = length-append sent (y ∷ [])

    by : (y ≡ x) ⊎ Has x more → (Has x more → NoneBegins more → Before ((sent ++ y ∷ []) ++ more) (numbered (length (sent ++ y ∷ [])) more) x) → Before (sent ++ y ∷ more) (numbered (length sent) (y ∷ more)) x
    by (inl e) again = record {
      ahead = [];
      number = length sent;
      behind = numbered (length sent + 1) more;
      split = refl;
      is = get-next sent y more ∙ ap (λ z. Some z) e;
      none = λ z w. none z (inr (new-has (sent ++ y ∷ []) more w.number z (subst (λ n. list_any (nat_eq w.number) (numbered n more) ≡ true) (sym longer) w.waits) (ap (λ l. slice_get l w.number) (append_assoc sent (y ∷ []) more) ∙ w.is)));
    }
    by (inr k) again = let b = subst (λ n. Before ((sent ++ y ∷ []) ++ more) (numbered n more) x) longer (again k (λ z q. none z (inr q))) in
        record {
          ahead = length sent ∷ b.ahead;
          number = b.number;
          behind = b.behind;
          split = ap (λ l. length sent ∷ l) b.split;
          is = ap (λ l. slice_get l b.number) (sym (append_assoc sent (y ∷ []) more)) ∙ b.is;
          none = λ z w. b.none z (record { number = w.number; waits = w.waits; is = ap (λ l. slice_get l w.number) (append_assoc sent (y ∷ []) more) ∙ w.is });
        }

after-others : (sent : List Sent) (ks js : List ℕ) (x : Sent) → Before sent js x → Before sent (ks ++ js) x
after-others sent ks js x h = record { ahead = ks ++ h.ahead; number = h.number; behind = h.behind; split = ap (λ l. ks ++ l) h.split ∙ sym (append_assoc ks h.ahead (h.number ∷ h.behind)); is = h.is; none = h.none }

-- ---- the first one is handed over

-- it is the first one, and none of all is a Begin, or it is among the others
pub first-before : (sent : List Sent) (k : ℕ) (ks : List ℕ) (x : Sent) → is_begin_message x.1 ≡ false → Before sent (k ∷ ks) x → ((slice_get sent k ≡ Some x) × NoBegin sent (k ∷ ks)) ⊎ Before sent ks x
first-before sent k ks x plain h = by h.ahead h.split
  where
    head : (a b : ℕ) (l r : List ℕ) → ◌≡◌ {A = List ℕ} (a ∷ l) (b ∷ r) → (a ≡ b) × (l ≡ r)
    head a b l r q = (cc, cc)

    same : (y : Sent) → Some y ≡ Some x → y ≡ x
    same y q = cc

    by : (ahead : List ℕ) → k ∷ ks ≡ ahead ++ h.number ∷ h.behind → ((slice_get sent k ≡ Some x) × NoBegin sent (k ∷ ks)) ⊎ Before sent ks x
    by (j ∷ ahead) e = inr (record { ahead = ahead; number = h.number; behind = h.behind; split = (head k j ks (ahead ++ h.number ∷ h.behind) e).1; is = h.is; none = h.none })
    by [] e = inl (ap (slice_get sent) p.0 ∙ h.is, λ y w. on y w (nat_eq w.number k) refl)
      where
        p : (k ≡ h.number) × (ks ≡ h.behind)
        p = head k h.number ks h.behind e

        on : (y : Sent) (w : Waits sent (k ∷ ks) y) (b : Bool) → nat_eq w.number k ≡ b → is_begin_message y.1 ≡ false
        on y w true q = ap (λ (z : Sent). is_begin_message z.1) (same y (sym w.is ∙ ap (slice_get sent) (grind (arith, nat_tests, q)) ∙ ap (slice_get sent) p.0 ∙ h.is)) ∙ plain
        on y w false q = h.none y (subst (λ l. Waits sent l y) p.1 (record { number = w.number; waits = ap (λ (b : Bool). b || list_any (nat_eq w.number) ks) (sym q) ∙ w.waits; is = w.is }))

-- ---- what is asked again

off-inquires : (T : Tid) (x : StableState) (t : WorkerTable) → are_off T (worker_again x t) ≡ true
off-inquires T x [] = refl
off-inquires T x (v ∷ vs) = let again = off-inquires T x vs in grind arith

off-told : (T : Tid) (xs : List Transaction) → are_off T (coordinator_again xs) ≡ true
off-told T [] = refl
off-told T (x ∷ xs) = off-both T (told_again x x.stage) (coordinator_again xs) (by x.stage) (off-told T xs)
  where
    by : (s : Stage) → are_off T (told_again x s) ≡ true
    by Open = refl
    by (Voting b) = refl
    by (Aborted cause) = refl
    by (Committed d) = off-both T (commits x.tid (besides d.works d.done)) _ (off-commits T x.tid (besides d.works d.done)) (on d.thanked)
      where
        on : (b : Bool) → are_off T (if b then [] else committed_to x ∷ []) ≡ true
        on true = refl
        on false = refl

-- nothing that waits is about it
abbrev pub IsOff : Tid → Course → Type 0
IsOff T d = (y : Sent) → Waits d.world.sent d.waiting y → is_about T y.1 ≡ false

pub off-on : (T : Tid) (d now : Course) (taken : Option Sent) (w : World) (more : List Sent) → Comes d now taken w → w.sent ≡ d.world.sent ++ more → ((y : Sent) → Has y more → is_about T y.1 ≡ false) → IsOff T d → IsOff T now
off-on T d now taken w more comes e new h y q = by (comes.back more e y q)
  where
    by : Waits d.world.sent d.waiting y ⊎ Has y more → is_about T y.1 ≡ false
    by (inl k) = h y k
    by (inr k) = new y k

module _ (n : ℕ) (at_most : n ≤ 8) (start : World) (Good : Course → Type 0) (sound : (d : Course) → Good d → Sound n start d) (good : (d : Course) (step : Step) → Good d → IsStep step d.world → Good (go step d)) where
  more-begins : (o : Option Memory) (found : Pick → StableState) → NoneBegins (more_at o found)
  more-begins None found y k = absurd k
  more-begins (Some m) found y k = plain-begins (server_again m (stable found)) (again-plain (stable found) m.worker m.coordinator.transactions) y k

  more-off : (T : Tid) (o : Option Memory) (found : Pick → StableState) (y : Sent) → Has y (more_at o found) → is_about T y.1 ≡ false
  more-off T None found y k = absurd k
  more-off T (Some m) found y k = off-has T (server_again m (stable found)) (off-both T (worker_again (stable found) m.worker) (coordinator_again m.coordinator.transactions) (off-inquires T (stable found) m.worker) (off-told T m.coordinator.transactions)) y k

  comes-before : (d now : Course) (w : World) (more : List Sent) (x : Sent) → Comes d now None w → w.sent ≡ d.world.sent ++ more → (comes-still : now.waiting ≡ d.waiting ++ numbered (length d.world.sent) more) → Before (d.world.sent ++ more) (d.waiting ++ numbered (length d.world.sent) more) x → Before now.world.sent now.waiting x
  comes-before d now w more x comes e f b = subst (λ l. Before l now.waiting x) (sym (ap (λ (z : World). z.sent) comes.world ∙ e)) (subst (λ l. Before (d.world.sent ++ more) l x) (sym f) b)

  nudge-numbers : (q : ServerNo) (d : Course) (h : Good d) → (go (Nudge q) d).waiting ≡ d.waiting ++ numbered (length d.world.sent) (more_at (d.world.memory q) (d.world.found q))
  nudge-numbers q d h = waiting-is n at_most start d (Nudge q) (more_at (d.world.memory q) (d.world.found q)) (ap (λ (z : World). z.sent) (nudged q d.world (d.world.memory q)))

  nudges-before : (servers : List ServerNo) (d : Course) (x : Sent) → Good d → Before d.world.sent d.waiting x → Before (go_on (map (λ (q : ServerNo). Nudge q) servers) d).world.sent (go_on (map (λ (q : ServerNo). Nudge q) servers) d).waiting x
  nudges-before [] d x h b = b
  nudges-before (q ∷ servers) d x h b = nudges-before servers (go (Nudge q) d) x (good d (Nudge q) h tt)
      (comes-before d (go (Nudge q) d) _ (more_at (d.world.memory q) (d.world.found q)) x (nudge-comes n at_most start Good sound good q d h) refl (nudge-numbers q d h)
      (before-more d.world.sent (more_at (d.world.memory q) (d.world.found q)) d.waiting x (sound d h).below b (more-begins (d.world.memory q) (d.world.found q))))

  one-before : (q s : ServerNo) (servers : List ServerNo) (d : Course) (x : Sent) → Good d → Has x (more_at (d.world.memory s) (d.world.found s)) → ((server_eq q s ≡ true) × (q ≡ s)) ⊎ ((server_eq q s ≡ false) × (q ≢ s)) → list_any (λ z. server_eq z s) (q ∷ servers) ≡ true
      → ((e : Course) → Good e → list_any (λ z. server_eq z s) servers ≡ true → Has x (more_at (e.world.memory s) (e.world.found s)) → Before (go_on (map (λ (q : ServerNo). Nudge q) servers) e).world.sent (go_on (map (λ (q : ServerNo). Nudge q) servers) e).waiting x)
      → Before (go_on (map (λ (q : ServerNo). Nudge q) servers) (go (Nudge q) d)).world.sent (go_on (map (λ (q : ServerNo). Nudge q) servers) (go (Nudge q) d)).waiting x
  one-before q s servers d x h has (inl p) among again = nudges-before servers (go (Nudge q) d) x (good d (Nudge q) h tt) (comes-before d (go (Nudge q) d) _ (more_at (d.world.memory q) (d.world.found q)) x (nudge-comes n at_most start Good sound good q d h) refl (nudge-numbers q d h)
      (after-others (d.world.sent ++ more_at (d.world.memory q) (d.world.found q)) d.waiting (numbered (length d.world.sent) (more_at (d.world.memory q) (d.world.found q))) x (new-before d.world.sent (more_at (d.world.memory q) (d.world.found q)) x (subst (λ (z : ServerNo). Has x (more_at (d.world.memory z) (d.world.found z))) (sym p.1) has) (more-begins (d.world.memory q) (d.world.found q)))))
  one-before q s servers d x h has (inr p) among again = again (go (Nudge q) d) (good d (Nudge q) h tt) (grind (arith, among, p.0)) (subst (λ (z : World). Has x (more_at (z.memory s) (z.found s))) (sym (nudge-comes n at_most start Good sound good q d h).world) has)

  all-before : (s : ServerNo) (servers : List ServerNo) (d : Course) (x : Sent) → Good d → list_any (λ z. server_eq z s) servers ≡ true → Has x (more_at (d.world.memory s) (d.world.found s)) → Before (go_on (map (λ (q : ServerNo). Nudge q) servers) d).world.sent (go_on (map (λ (q : ServerNo). Nudge q) servers) d).waiting x
  all-before s [] d x h among has = absurd (true≢false (sym among))
  all-before s (q ∷ servers) d x h among has = one-before q s servers d x h has (server_tells q s) among (λ e g a k. all-before s servers e x g a k)

  -- what a server asks has no Begin behind it
  pub ask-before : (clients : List ClientNo) (servers : List ServerNo) (s : ServerNo) (d : Course) (x : Sent) → Good d → list_any (λ z. server_eq z s) servers ≡ true → Has x (more_at (d.world.memory s) (d.world.found s))
      → Before (go_on (ask_again clients servers) d).world.sent (go_on (ask_again clients servers) d).waiting x
  ask-before [] servers s d x h among has = all-before s servers d x h among has
  ask-before (e ∷ clients) servers s d x h among has = ask-before clients servers s (go (Again e) d) x (good d (Again e) h tt) among has

  nudges-off : (T : Tid) (servers : List ServerNo) (d : Course) → Good d → IsOff T d → IsOff T (go_on (map (λ (q : ServerNo). Nudge q) servers) d)
  nudges-off T [] d h off = off
  nudges-off T (q ∷ servers) d h off = nudges-off T servers (go (Nudge q) d) (good d (Nudge q) h tt) (off-on T d (go (Nudge q) d) None _ (more_at (d.world.memory q) (d.world.found q)) (nudge-comes n at_most start Good sound good q d h) refl (more-off T (d.world.memory q) (d.world.found q)) off)

  -- where no client asks about it nothing that waits is about it
  pub ask-off : (T : Tid) (clients : List ClientNo) (servers : List ServerNo) (d : Course) → Good d → ((c : ClientNo) → list_any (λ z. client_eq z c) clients ≡ true → (y : Sent) → Has y (sent_now (again_row (d.world.clients c))) → is_about T y.1 ≡ false)
      → IsOff T d → IsOff T (go_on (ask_again clients servers) d)
  ask-off T [] servers d h quiet off = nudges-off T servers d h off
  ask-off T (e ∷ clients) servers d h quiet off = ask-off T clients servers (go (Again e) d) (good d (Again e) h tt) (λ c among y k. quiet c (grind (arith, among)) y k)
      (off-on T d (go (Again e) d) None _ (sent_now (again_row (d.world.clients e))) (again-comes n at_most start Good sound good e d h) refl (λ y k. quiet e (itself e (list_any (λ z. client_eq z e) clients)) y k) off)
    where
      itself : (e : ClientNo) (b : Bool) → (client_eq e e || b) ≡ true
      itself e b = grind (arith, nat_tests)
