-- A settle's bound, where servers that only erase may be stopped too.
use Rattle.jn_system_settling.proofs.Common.{◌≡◌, inl, inr, ◌≤◌, ◌<◌, ℕ, List, [], ◌∷◌, append-nil, Option, Some, None, refl, sym, subst, arith, ServerNo, Pick, stable, RowOutcome, World, Memory, servers_from, clients_from, Room, server_step, Step, StopWork, after, work, works, Course, go, go_on, onward, ask_again, ComesNext, IsHalt, EachComes, IsBounded, in_two, asked_again, Left}
use Rattle.std.specs.Prelude.{◌⊎◌}
use Rattle.jn_system_settling.proofs.Settling.Burdens.{Leads, stopped-leads}
use Rattle.jn_system_settling.proofs.Settling.Courses.{Sound, go-sound, go-balance, burden-after, deliveries-more}
use Rattle.jn_system_settling.proofs.Settling.Parts.{Bounded, part-bounded}
use Rattle.jn_system_settling.proofs.Settling.Asking.{asked, servers-length, waiting-light, waiting-weighs}

module _ (n : ℕ) (at_most : n ≤ 8) (start : World) where
  halt-weighs : (c : Course) → Sound n start c → (s : ServerNo) (room : Room) (made : Pick → Left) → s.0 < n → Leads n c.world (after (StopWork s room made) c.world) 0 0
  halt-weighs c h s room made l = by (c.world.memory s) refl
    where
      nothing : Leads n c.world c.world 0 0
      nothing = record { new = []; sent = sym (append-nil c.world.sent); goes = omega arith }

      at : (m : Memory) → c.world.memory s ≡ Some m → (o : Option (RowOutcome Memory)) → Leads n c.world (works s (Some made) o c.world) 0 0
      at m up None = nothing
      at m up (Some row) = stopped-leads n at_most c.world h.sizes h.locks s m up made row 0 (omega arith) (inl refl)

      by : (o : Option Memory) → c.world.memory s ≡ o → Leads n c.world (work s room (Some made) o c.world) 0 0
      by None e = nothing
      by (Some m) e = at m e (server_step m (stable (c.world.found s)) room)

  halt-bounded : (c : Course) → Sound n start c → (s : ServerNo) (room : Room) (made : Pick → Left) → s.0 < n → Bounded n at_most start c (go (StopWork s room made) c)
  halt-bounded c h s room made l = record {
    sound = go-sound n at_most start c (StopWork s room made) h tt;
    few = let more = deliveries-more c.steps (StopWork s room made) in let lower = burden-after n at_most start c (StopWork s room made) 0 0 h (halt-weighs c h s room made l) in omega (arith, more, lower);
    balance = let more = deliveries-more c.steps (StopWork s room made) in let sent = go-balance n at_most start c (StopWork s room made) in omega (arith, more, sent);
  }

  next-bounded : (c : Course) → Sound n start c → (step : Step) → ComesNext (servers_from 0 n) c step → Bounded n at_most start c (go step c)
  next-bounded c h step is = subst (λ o. Bounded n at_most start c (onward o c (λ d. d))) is.is_next (part-bounded n at_most start 1 (λ k. is.chance) c h)

  step-bounded : (c : Course) → Sound n start c → (step : Step) → ComesNext (servers_from 0 n) c step ⊎ IsHalt n step → Bounded n at_most start c (go step c)
  step-bounded c h step (inl is) = next-bounded c h step is
  step-bounded c h step (inr is) = subst (λ (z : Step). Bounded n at_most start c (go z c)) (sym is.is) (halt-bounded c h is.server is.room is.made is.below)

  then : (a b d : Course) → Bounded n at_most start a b → Bounded n at_most start b d → Bounded n at_most start a d
  then a b d h k = record { sound = k.sound; few = let one = h.few in let two = k.few in omega (arith, one, two); balance = let one = h.balance in let two = k.balance in omega (arith, one, two) }

  pub list-bounded : (steps : List Step) (c : Course) → Sound n start c → EachComes n steps c → Bounded n at_most start c (go_on steps c)
  list-bounded [] c h each = record { sound = h; few = omega arith; balance = refl }
  list-bounded (step ∷ steps) c h each = let one = step-bounded c h step each.0 in then c _ _ one (list-bounded steps (go step c) one.sound each.1)

  pub both-bounded : (one two : List Step) (c : Course) → Sound n start c → EachComes n one c → EachComes n two (asked_again n (go_on one c)) → IsBounded n start c (in_two n one two c)
  both-bounded one two c h first second = let a = list-bounded one c h first in let m = asked n at_most start (clients_from 1 8) (servers_from 0 n) (go_on one c) a.sound in
      let d = list-bounded two (go_on (ask_again (clients_from 1 8) (servers_from 0 n)) (go_on one c)) m.sound second in
      let before = a.few in let more = m.heavier in let after = d.few in let same = m.same in let waits = waiting-light c.world.sent c.waiting in let servers = servers-length n 0 in record {
        course = d.sound.course;
        handed = omega (arith, before, more, after, same, waits, servers);
        sent = let p = a.balance in let q = m.balance in let r = d.balance in let left = waiting-weighs (in_two n one two c).world.sent (in_two n one two c).waiting d.sound.below in omega (arith, before, more, after, same, waits, servers, p, q, r, left);
      }
