-- The numbers of the messages that wait in a network.
use Rattle.jn_world_refines.proofs.Common.{◌≡◌, ◌≤◌, ◌<◌, ℕ, zero, suc, ◌+◌, ◌-◌, Bool, true, false, List, [], ◌∷◌, ◌++◌, length, length-append, drop, length-drop, Option, Some, None, refl, sym, ◌∙◌, ap, subst, arith, nat_tests, ◌&&◌, nat_eq, if◌then◌else◌, slice_get, ServerNo, Step, Deliver, StopDelivery, after, handing, Course, opening_course, without_number, still_waiting, numbered, go, drop-length, drop-append_seam, drop-append-le, length-map, map-append, position_from, AllFiles, Posted, Carried, waiting, with_delivered, undelivered, waiting_numbers, sent_of, are_new, Carries, delivered_by}
use Rattle.std.specs.Prelude.{not}
use Rattle.jn_system.specs.WholeSystem.Settle.{Chance, next_step}

-- ---- messages that are sent

undelivered-more : (k : ℕ) (a b : List Posted) → undelivered k (a ++ b) ≡ undelivered k a ++ undelivered (k + length a) b
undelivered-more k [] b = ap (λ j. undelivered j b) (omega arith)
undelivered-more k (m ∷ a) b = by m.delivered (undelivered-more (k + 1) a b ∙ ap (λ j. undelivered (k + 1) a ++ undelivered j b) (omega arith))
  where
    by : (d : Bool) → undelivered (k + 1) (a ++ b) ≡ undelivered (k + 1) a ++ undelivered (k + length (m ∷ a)) b
        → (if d then undelivered (k + 1) (a ++ b) else k ∷ undelivered (k + 1) (a ++ b)) ≡ (if d then undelivered (k + 1) a else k ∷ undelivered (k + 1) a) ++ undelivered (k + length (m ∷ a)) b
    by true e = e
    by false e = ap (λ ks. k ∷ ks) e

new-numbered : (k : ℕ) (ms : List Posted) → are_new ms ≡ true → undelivered k ms ≡ numbered k (sent_of ms)
new-numbered k [] h = refl
new-numbered k (m ∷ ms) h = by m.delivered h (new-numbered (k + 1) ms)
  where
    by : (d : Bool) → (not d && are_new ms) ≡ true → (are_new ms ≡ true → undelivered (k + 1) ms ≡ numbered (k + 1) (sent_of ms))
        → (if d then undelivered (k + 1) ms else k ∷ undelivered (k + 1) ms) ≡ k ∷ numbered (k + 1) (sent_of ms)
    by true h again = absurd (cc h)
    by false h again = ap (λ ks. k ∷ ks) (again h)

waiting-more : (n : Carried) (more : List Posted) → n.forgotten ≤ length n.sent → are_new more ≡ true → waiting_numbers (record n { sent = n.sent ++ more }) ≡ waiting_numbers n ++ numbered (length n.sent) (sent_of more)
waiting-more n more l h = ap (undelivered n.forgotten) (drop-append-le n.forgotten n.sent more l)
    ∙ undelivered-more n.forgotten (drop n.forgotten n.sent) more
    ∙ ap (λ j. waiting_numbers n ++ undelivered j more) (let left = length-drop n.forgotten n.sent in omega (arith, left, l))
    ∙ ap (λ ks. waiting_numbers n ++ ks) (new-numbered (length n.sent) more h)

-- ---- messages that are delivered

-- each number is this one or a later one
other-number : (j k : ℕ) (ms : List Posted) → j < k → without_number j (undelivered k ms) ≡ undelivered k ms
other-number j k [] l = refl
other-number j k (m ∷ ms) l = by m.delivered (other-number j (k + 1) ms (omega (arith, l)))
  where
    apart : nat_eq k j ≡ false
    apart = grind (arith, nat_tests, l)

    by : (d : Bool) → without_number j (undelivered (k + 1) ms) ≡ undelivered (k + 1) ms → without_number j (if d then undelivered (k + 1) ms else k ∷ undelivered (k + 1) ms) ≡ (if d then undelivered (k + 1) ms else k ∷ undelivered (k + 1) ms)
    by true e = e
    by false e = ap (λ b. if b then undelivered (k + 1) ms else k ∷ without_number j (undelivered (k + 1) ms)) apart ∙ ap (λ ks. k ∷ ks) e

one-delivered : (k i : ℕ) (ms : List Posted) → undelivered k (with_delivered i ms) ≡ without_number (k + i) (undelivered k ms)
one-delivered k i [] = refl
one-delivered k zero (m ∷ ms) = by m.delivered (other-number (k + zero) (k + 1) ms (omega arith))
  where
    same : nat_eq k (k + zero) ≡ true
    same = grind (arith, nat_tests)

    by : (d : Bool) → without_number (k + zero) (undelivered (k + 1) ms) ≡ undelivered (k + 1) ms → undelivered (k + 1) ms ≡ without_number (k + zero) (if d then undelivered (k + 1) ms else k ∷ undelivered (k + 1) ms)
    by true e = sym e
    by false e = sym (ap (λ b. if b then undelivered (k + 1) ms else k ∷ without_number (k + zero) (undelivered (k + 1) ms)) same)
one-delivered k (suc i) (m ∷ ms) = by m.delivered (one-delivered (k + 1) i ms ∙ ap (λ j. without_number j (undelivered (k + 1) ms)) (omega arith))
  where
    apart : nat_eq k (k + suc i) ≡ false
    apart = grind (arith, nat_tests)

    by : (d : Bool) → undelivered (k + 1) (with_delivered i ms) ≡ without_number (k + suc i) (undelivered (k + 1) ms)
        → (if d then undelivered (k + 1) (with_delivered i ms) else k ∷ undelivered (k + 1) (with_delivered i ms)) ≡ without_number (k + suc i) (if d then undelivered (k + 1) ms else k ∷ undelivered (k + 1) ms)
    by true e = e
    by false e = ap (λ ks. k ∷ ks) e ∙ sym (ap (λ b. if b then undelivered (k + 1) ms else k ∷ without_number (k + suc i) (undelivered (k + 1) ms)) apart)

-- behind the first of them
behind-delivered : (first f k : ℕ) (ms : List Posted) → undelivered (first + f) (drop f (with_delivered k ms)) ≡ without_number (first + k) (undelivered (first + f) (drop f ms))
behind-delivered first zero k ms = subst (λ j. undelivered j (with_delivered k ms) ≡ without_number (first + k) (undelivered j ms)) (omega arith) (one-delivered first k ms)
behind-delivered first (suc f) k [] = refl
behind-delivered first (suc f) zero (m ∷ ms) = sym (other-number (first + zero) (first + suc f) (drop f ms) (omega arith))
behind-delivered first (suc f) (suc k) (m ∷ ms) = subst (λ j. undelivered j (drop f (with_delivered k ms)) ≡ without_number (first + suc k) (undelivered j (drop f ms))) next
    (subst (λ i. undelivered (first + 1 + f) (drop f (with_delivered k ms)) ≡ without_number i (undelivered (first + 1 + f) (drop f ms))) same (behind-delivered (first + 1) f k ms))
  where
    next : first + 1 + f ≡ first + suc f
    next = omega arith

    same : first + 1 + k ≡ first + suc k
    same = omega arith

waiting-delivered : (n : Carried) (k : ℕ) → waiting_numbers (record n { sent = with_delivered k n.sent }) ≡ without_number k (waiting_numbers n)
waiting-delivered n k = subst (λ f. undelivered f (drop n.forgotten (with_delivered k n.sent)) ≡ without_number k (undelivered f (drop n.forgotten n.sent))) none
    (subst (λ i. undelivered (0 + n.forgotten) (drop n.forgotten (with_delivered k n.sent)) ≡ without_number i (undelivered (0 + n.forgotten) (drop n.forgotten n.sent))) same (behind-delivered 0 n.forgotten k n.sent))
  where
    none : 0 + n.forgotten ≡ n.forgotten
    none = omega arith

    same : 0 + k ≡ k
    same = omega arith

same-sent : (k : ℕ) (ms : List Posted) → sent_of (with_delivered k ms) ≡ sent_of ms
same-sent k [] = refl
same-sent zero (m ∷ ms) = refl
same-sent (suc k) (m ∷ ms) = ap (λ xs. (m.to, m.message) ∷ xs) (same-sent k ms)

same-length : (k : ℕ) (ms : List Posted) → length (with_delivered k ms) ≡ length ms
same-length k [] = refl
same-length zero (m ∷ ms) = refl
same-length (suc k) (m ∷ ms) = let again = same-length k ms in omega (arith, again)

-- ---- the course

pub carries-first : (servers : ℕ) (files : AllFiles) (epochs : ServerNo → ℕ) → Carries (record { sent = []; forgotten = 0 }) (opening_course servers files epochs)
carries-first servers files epochs = record { forgotten = omega arith; sent = refl; waiting = refl }

-- what a step does to the messages that were there
record Hands (n : Carried) (step : Step) (handed : List Posted) : Type 0 where
  pub sent : sent_of handed ≡ sent_of n.sent
  pub long : length handed ≡ length n.sent
  pub waiting : waiting_numbers (record n { sent = handed }) ≡ still_waiting step (waiting_numbers n)

hands : (n : Carried) (step : Step) → Hands n step (delivered_by step n.sent)
hands n (Deliver k room) = record { sent = same-sent k n.sent; long = same-length k n.sent; waiting = waiting-delivered n k }
hands n (StopDelivery k room made) = record { sent = same-sent k n.sent; long = same-length k n.sent; waiting = waiting-delivered n k }
hands n _ = record { sent = refl; long = refl; waiting = refl }

pub carries-step : (n : Carried) (c : Course) (step : Step) (more : List Posted) → Carries n c → are_new more ≡ true → (after step c.world).sent ≡ c.world.sent ++ sent_of more → Carries (record n { sent = delivered_by step n.sent ++ more }) (go step c)
carries-step n c step more h new e = by (delivered_by step n.sent) (hands n step)
  where
    by : (handed : List Posted) → Hands n step handed → Carries (record n { sent = handed ++ more }) (go step c)
    by handed hand = record {
      forgotten = let long = hand.long in let less = h.forgotten in let both = length-append handed more in omega (arith, long, less, both);
      sent = e ∙ ap (λ xs. xs ++ sent_of more) (h.sent ∙ sym hand.sent) ∙ sym (map-append (λ (m : Posted). (m.to, m.message)) handed more);
      waiting = ap (λ xs. still_waiting step c.waiting ++ numbered (length c.world.sent) (drop (length c.world.sent) xs)) e
          ∙ ap (λ xs. still_waiting step c.waiting ++ numbered (length c.world.sent) xs) (drop-append_seam c.world.sent (sent_of more))
          ∙ ap (λ ks. still_waiting step ks ++ numbered (length c.world.sent) (sent_of more)) h.waiting
          ∙ ap (λ ks. ks ++ numbered (length c.world.sent) (sent_of more)) (sym hand.waiting)
          ∙ ap (λ k. waiting_numbers (record n { sent = handed }) ++ numbered k (sent_of more)) (ap length h.sent ∙ length-map n.sent (λ (m : Posted). (m.to, m.message)) ∙ sym hand.long)
          ∙ sym (waiting-more (record n { sent = handed }) more (let long = hand.long in let less = h.forgotten in omega (arith, long, less)) new);
    }

pub carries-forgotten : (n : Carried) (c : Course) (steps : List Step) → Carries n c → Carries (record n { forgotten = length n.sent }) (record { world = c.world; waiting = []; steps = steps })
carries-forgotten n c steps h = record { forgotten = omega arith; sent = h.sent; waiting = sym (ap (undelivered (length n.sent)) (drop-length n.sent)) }

-- ---- the least that waits

first-waits : (k : ℕ) (ms : List Posted) → position_from (λ (m : Posted). not m.delivered) k ms ≡ slice_get (undelivered k ms) 0
first-waits k [] = refl
first-waits k (m ∷ ms) = by m.delivered (first-waits (k + 1) ms)
  where
    by : (d : Bool) → position_from (λ (m : Posted). not m.delivered) (k + 1) ms ≡ slice_get (undelivered (k + 1) ms) 0
        → (if not d then Some k else position_from (λ (m : Posted). not m.delivered) (k + 1) ms) ≡ slice_get (if d then undelivered (k + 1) ms else k ∷ undelivered (k + 1) ms) 0
    by true e = e
    by false e = refl

pub least-waits : (n : Carried) → waiting n ≡ slice_get (waiting_numbers n) 0
least-waits n = first-waits n.forgotten (drop n.forgotten n.sent)

head-of : (ks : List ℕ) (k : ℕ) → slice_get ks 0 ≡ Some k → (chance : Chance) (busy : Option ServerNo) → next_step chance ks busy ≡ Some (handing k chance.room chance.stop)
head-of [] k e chance busy = absurd (cc e)
head-of (j ∷ js) k e chance busy = ap (λ i. Some (handing i chance.room chance.stop)) (some j k e)
  where
    some : (a b : ℕ) → Some a ≡ Some b → a ≡ b
    some a b q = cc

no-head : (ks : List ℕ) → slice_get ks 0 ≡ None → ks ≡ []
no-head [] e = refl
no-head (j ∷ js) e = absurd (cc e)

pub least-next : (n : Carried) (c : Course) → Carries n c → (k : ℕ) → waiting n ≡ Some k → (chance : Chance) (busy : Option ServerNo) → next_step chance c.waiting busy ≡ Some (handing k chance.room chance.stop)
least-next n c h k e chance busy = ap (λ ks. next_step chance ks busy) h.waiting ∙ head-of (waiting_numbers n) k (sym (least-waits n) ∙ e) chance busy

pub none-waits : (n : Carried) (c : Course) → Carries n c → waiting n ≡ None → c.waiting ≡ []
none-waits n c h e = h.waiting ∙ no-head (waiting_numbers n) (sym (least-waits n) ∙ e)

found-below : (k j : ℕ) (ms : List Posted) → position_from (λ (m : Posted). not m.delivered) k ms ≡ Some j → j < k + length ms
found-below k j [] e = absurd (cc e)
found-below k j (m ∷ ms) e = by m.delivered e (found-below (k + 1) j ms)
  where
    some : (a b : ℕ) → Some a ≡ Some b → a ≡ b
    some a b q = cc

    by : (d : Bool) → (if not d then Some k else position_from (λ (m : Posted). not m.delivered) (k + 1) ms) ≡ Some j → (position_from (λ (m : Posted). not m.delivered) (k + 1) ms ≡ Some j → j < k + 1 + length ms) → j < k + length (m ∷ ms)
    by true q again = let less = again q in omega (arith, less)
    by false q again = let same = some k j q in omega (arith, same)

pub least-there : (n : Carried) (k : ℕ) → waiting n ≡ Some k → k < length n.sent
least-there n k e = by (drop n.forgotten n.sent) (length-drop n.forgotten n.sent) e
  where
    by : (ms : List Posted) → length ms ≡ length n.sent - n.forgotten → position_from (λ (m : Posted). not m.delivered) n.forgotten ms ≡ Some k → k < length n.sent
    by [] l q = absurd (cc q)
    by (m ∷ ms) l q = let less = found-below n.forgotten k (m ∷ ms) q in omega (arith, l, less)
