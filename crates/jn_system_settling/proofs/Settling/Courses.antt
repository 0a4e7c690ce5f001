-- What holds of a course after each of its steps, and what a step does to its burden.
use Rattle.jn_system_settling.proofs.Common.{◌≡◌, ◌≤◌, ℕ, true, List, [], ◌∷◌, ◌++◌, length-append, refl, sym, ◌∙◌, ap, subst, arith, ◌+◌, length, drop, Sent, World, servers_from, Step, Deliver, StopDelivery, IsStep, IsRun, after, run, LockFacts, locks-keep, Course, numbered, without_number, still_waiting, go, go_on, weigh, going_works, burden, Sizes, one_if_delivery, deliveries, IsCourse, Grows, grows, drop-append_seam}
use Rattle.jn_system_settling.proofs.Settling.WorldSizes.{sizes-keep}
use Rattle.jn_system_settling.proofs.Settling.Burdens.{are_below, weigh-more, weigh-both, weigh-new, below-both, below-more, below-new, Leads}

-- ---- runs

run-more : (a : List Step) (step : Step) (w : World) → run (a ++ step ∷ []) w ≡ after step (run a w)
run-more [] step w = refl
run-more (x ∷ a) step w = run-more a step (after x w)

run-is : (a : List Step) (step : Step) (w : World) → IsRun a w → IsStep step (run a w) → IsRun (a ++ step ∷ []) w
run-is [] step w h i = (i, tt)
run-is (x ∷ a) step w h i = (h.0, run-is a step (after x w) h.1 i)

-- what holds of a course at each moment
pub record Sound (n : ℕ) (start : World) (c : Course) : Type 0 where
  pub course : IsCourse start c
  pub locks : LockFacts c.world
  pub sizes : Sizes n c.world
  pub below : are_below (length c.world.sent) c.waiting ≡ true

length-numbered : (k : ℕ) (ys : List Sent) → length (numbered k ys) ≡ length ys
length-numbered k [] = refl
length-numbered k (y ∷ ys) = let again = length-numbered (k + 1) ys in omega (arith, again)

-- each message that is sent waits or is handed over
abbrev pub IsBalanced : Course → Course → Type 0
IsBalanced c now = length now.world.sent + length c.waiting + deliveries c.steps ≡ length c.world.sent + length now.waiting + deliveries now.steps

below-less : (n k : ℕ) (ks : List ℕ) → are_below n ks ≡ true → are_below n (without_number k ks) ≡ true
below-less n k [] h = refl
below-less n k (j ∷ js) h = let again = below-less n k js in grind (arith, h)

pub below-still : (n : ℕ) (step : Step) (ks : List ℕ) → are_below n ks ≡ true → are_below n (still_waiting step ks) ≡ true
below-still n (Deliver k room) ks h = below-less n k ks h
below-still n (StopDelivery k room made) ks h = below-less n k ks h
below-still n step ks h = h

module _ (n : ℕ) (at_most : n ≤ 8) (start : World) where
  -- what is new waits behind what is still waiting
  pub waiting-is : (c : Course) (step : Step) (new : List Sent) → (after step c.world).sent ≡ c.world.sent ++ new → (go step c).waiting ≡ still_waiting step c.waiting ++ numbered (length c.world.sent) new
  waiting-is c step new e = ap (λ xs. still_waiting step c.waiting ++ numbered (length c.world.sent) (drop (length c.world.sent) xs)) e ∙ ap (λ xs. still_waiting step c.waiting ++ numbered (length c.world.sent) xs) (drop-append_seam c.world.sent new)

  pub go-sound : (c : Course) (step : Step) → Sound n start c → IsStep step c.world → Sound n start (go step c)
  go-sound c step h i = record {
    course = record {
      is_run = run-is c.steps step start h.course.is_run (subst (λ (z : World). IsStep step z) (sym h.course.stands) i);
      stands = run-more c.steps step start ∙ ap (after step) h.course.stands;
    };
    locks = locks-keep step c.world i h.locks;
    sizes = sizes-keep n at_most c.world h.sizes h.locks step i;
    below = below (grows c.world step);
  }
    where
      below : Grows c.world (after step c.world) → are_below (length (after step c.world).sent) (go step c).waiting ≡ true
      below g = let long = ap length g.sent ∙ length-append c.world.sent g.new in
          subst (λ ks. are_below (length (after step c.world).sent) ks ≡ true) (sym (waiting-is c step g.new g.sent))
          (below-both (length (after step c.world).sent) (still_waiting step c.waiting) (numbered (length c.world.sent) g.new)
          (below-more (length c.world.sent) (length (after step c.world).sent) (still_waiting step c.waiting) (omega (arith, long)) (below-still (length c.world.sent) step c.waiting h.below))
          (below-new (length c.world.sent) g.new (length (after step c.world).sent) (omega (arith, long))))

  pub go-on-sound : (steps : List Step) (c : Course) → Sound n start c → IsRun steps c.world → Sound n start (go_on steps c)
  go-on-sound [] c h i = h
  go-on-sound (step ∷ steps) c h i = go-on-sound steps (go step c) (go-sound c step h i.0) i.1

  -- what is sent waits
  pub go-balance : (c : Course) (step : Step) → length (go step c).world.sent + length (still_waiting step c.waiting) ≡ length c.world.sent + length (go step c).waiting
  go-balance c step = by (grows c.world step)
    where
      by : Grows c.world (after step c.world) → length (after step c.world).sent + length (still_waiting step c.waiting) ≡ length c.world.sent + length (go step c).waiting
      by g = let long = ap length g.sent ∙ length-append c.world.sent g.new in
          let waits = ap length (waiting-is c step g.new g.sent) ∙ length-append (still_waiting step c.waiting) (numbered (length c.world.sent) g.new) in
          let new = length-numbered (length c.world.sent) g.new in omega (arith, long, waits, new)

  -- the burden after a step
  pub burden-after : (c : Course) (step : Step) (less weight_of : ℕ) → Sound n start c → Leads n c.world (after step c.world) less weight_of
      → burden (servers_from 0 n) (go step c) + less ≤ weigh c.world.sent (still_waiting step c.waiting) + going_works c.world (servers_from 0 n) + weight_of
  burden-after c step less weight_of h leads = let old = weigh-more c.world.sent leads.new (still_waiting step c.waiting) (below-still (length c.world.sent) step c.waiting h.below) in
      let new = weigh-new c.world.sent leads.new in let both = weigh-both (c.world.sent ++ leads.new) (still_waiting step c.waiting) (numbered (length c.world.sent) leads.new) in
      let is : weigh (go step c).world.sent (go step c).waiting ≡ weigh (c.world.sent ++ leads.new) (still_waiting step c.waiting ++ numbered (length c.world.sent) leads.new)
      = ap (weigh (after step c.world).sent) (waiting-is c step leads.new leads.sent) ∙ ap (λ xs. weigh xs (still_waiting step c.waiting ++ numbered (length c.world.sent) leads.new)) leads.sent in
      let goes = leads.goes in omega (arith, old, new, both, is, goes)

pub deliveries-more : (steps : List Step) (step : Step) → deliveries (steps ++ step ∷ []) ≡ deliveries steps + one_if_delivery step
deliveries-more [] step = omega arith
deliveries-more (x ∷ steps) step = let again = deliveries-more steps step in omega (arith, again)
