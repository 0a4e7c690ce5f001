-- What clients and servers send once more in the middle of a settle.
use Rattle.jn_system_settling.proofs.Common.{◌≡◌, ◌≤◌, ℕ, zero, suc, ◌+◌, ◌*◌, Bool, true, false, List, [], ◌∷◌, length, append-nil, Option, Some, None, refl, sym, ◌∙◌, ap, arith, if◌then◌else◌, map, slice_get, nat_tests, ServerNo, ClientNo, Server, Outstanding, Transaction, Stage, Open, Voting, Committed, Aborted, StableState, stable, is_going, Sent, WorkerTable, worker_again, commits, besides, told_again, coordinator_again, committed_to, again_row, sent_again, World, Memory, servers_from, server_again, Again, Nudge, after, nudge, sent_now, Course, go, go_on, Chances, clients_from, until_rest, ask_again, settled, weight_at, weigh, burden, are_small_stages, is_small_stage, deliveries, IsSettle, weigh_all, weigh-commits, weigh-all-more, besides-few, few-of, weighs-some}
use Rattle.jn_msgs.specs.declared.message.Message.TheVariants as messages
use Rattle.jn_system_settling.proofs.Settling.WorldSizes.{weighs, up-sizes}
use Rattle.jn_system_settling.proofs.Settling.Burdens.{Leads, are_below}
use Rattle.jn_system_settling.proofs.Settling.Courses.{Sound, IsBalanced, go-sound, go-balance, burden-after, deliveries-more}
use Rattle.jn_system_settling.proofs.Settling.Parts.{get-some, part-bounded}

inquires-light : (x : StableState) (t : WorkerTable) → weigh_all (worker_again x t) ≤ 3 * length t
inquires-light x [] = omega arith
inquires-light x (v ∷ vs) = by (is_going (x.works v.name)) (inquires-light x vs)
  where
    by : (b : Bool) → weigh_all (worker_again x vs) ≤ 3 * length vs
        → weigh_all (if b then worker_again x vs else (Server v.tid.server, messages.Inquire v.tid v.name) ∷ worker_again x vs) ≤ 3 * suc (length vs)
    by true h = omega (arith, h)
    by false h = omega (arith, h)

module _ (n : ℕ) (at_most : n ≤ 8) where
  told-light : (x : Transaction) (s : Stage) → is_small_stage n s ≡ true → weigh_all (told_again x s) ≤ 18
  told-light x Open h = omega arith
  told-light x (Voting b) h = omega arith
  told-light x (Aborted cause) h = omega arith
  told-light x (Committed d) h = let more = weigh-all-more (commits x.tid (besides d.works d.done)) (if d.thanked then [] else committed_to x ∷ []) in
      let each = weigh-commits x.tid (besides d.works d.done) in let few = besides-few d.works d.done in let all = few-of n d.works h in let last = by d.thanked in omega (arith, more, each, few, all, last, at_most)
    where
      by : (b : Bool) → weigh_all (if b then [] else committed_to x ∷ []) ≤ 2
      by true = omega arith
      by false = omega arith

  all-told-light : (xs : List Transaction) → are_small_stages n xs ≡ true → weigh_all (coordinator_again xs) ≤ 18 * length xs
  all-told-light [] h = omega arith
  all-told-light (x ∷ xs) h = let more = weigh-all-more (told_again x x.stage) (coordinator_again xs) in let one = told-light x x.stage (grind (arith, h)) in let rest = all-told-light xs (grind (arith, h)) in omega (arith, more, one, rest)

  module _ (start : World) where
    -- a client's message weighs 161 at most
    again-leads : (c : Course) (client : ClientNo) → Leads n c.world (after (Again client) c.world) 0 161
    again-leads c client = record { new = sent_now (again_row (c.world.clients client)); sent = refl; goes = let l = by (c.world.clients client).outstanding in omega (arith, l) }
      where
        by : (o : Option Outstanding) → weigh_all (sent_now (sent_again o)) ≤ 161
        by None = omega arith
        by (Some o) = let l = weighs o.message in omega (arith, l)

    nudge-leads : (c : Course) (s : ServerNo) → Sound n start c → Leads n c.world (after (Nudge s) c.world) 0 103040
    nudge-leads c s h = by (c.world.memory s) refl
      where
        by : (o : Option Memory) → c.world.memory s ≡ o → Leads n c.world (nudge s o c.world) 0 103040
        by None e = record { new = []; sent = sym (append-nil c.world.sent); goes = omega arith }
        by (Some m) e = let sizes = up-sizes n at_most c.world h.sizes h.locks s m e in let works = sizes.works in let transactions = sizes.transactions in record {
          new = server_again m (stable (c.world.found s));
          sent = refl;
          goes = let more = weigh-all-more (worker_again (stable (c.world.found s)) m.worker) (coordinator_again m.coordinator.transactions) in let one = inquires-light (stable (c.world.found s)) m.worker in
              let two = all-told-light m.coordinator.transactions sizes.stages in omega (arith, more, one, two, works, transactions);
        }

    -- what the asking adds
    pub record Asked (c now : Course) (extra : ℕ) : Type 0 where
      pub sound : Sound n start now
      pub same : deliveries now.steps ≡ deliveries c.steps
      pub balance : IsBalanced c now
      pub heavier : burden (servers_from 0 n) now ≤ burden (servers_from 0 n) c + extra

    then-asked : (a b d : Course) (p q : ℕ) → Asked a b p → Asked b d q → Asked a d (p + q)
    then-asked a b d p q h k = record { sound = k.sound; same = k.same ∙ h.same; balance = let one = h.balance in let two = k.balance in omega (arith, one, two); heavier = let one = h.heavier in let two = k.heavier in omega (arith, one, two) }

    again-asked : (c : Course) (client : ClientNo) → Sound n start c → Asked c (go (Again client) c) 161
    again-asked c client h = record {
      sound = go-sound n at_most start c (Again client) h tt;
      same = let more = deliveries-more c.steps (Again client) in omega (arith, more);
      balance = let more = deliveries-more c.steps (Again client) in let sent = go-balance n at_most start c (Again client) in omega (arith, more, sent);
      heavier = let l = burden-after n at_most start c (Again client) 0 161 h (again-leads c client) in omega (arith, l);
    }

    nudge-asked : (c : Course) (s : ServerNo) → Sound n start c → Asked c (go (Nudge s) c) 103040
    nudge-asked c s h = record {
      sound = go-sound n at_most start c (Nudge s) h tt;
      same = let more = deliveries-more c.steps (Nudge s) in omega (arith, more);
      balance = let more = deliveries-more c.steps (Nudge s) in let sent = go-balance n at_most start c (Nudge s) in omega (arith, more, sent);
      heavier = let l = burden-after n at_most start c (Nudge s) 0 103040 h (nudge-leads c s h) in omega (arith, l);
    }

    servers-asked : (servers : List ServerNo) (c : Course) → Sound n start c → Asked c (go_on (map (λ (s : ServerNo). Nudge s) servers) c) (103040 * length servers)
    servers-asked [] c h = record { sound = h; same = refl; balance = refl; heavier = omega arith }
    servers-asked (s ∷ servers) c h = let one = nudge-asked c s h in let rest = servers-asked servers (go (Nudge s) c) one.sound in let both = then-asked c _ _ _ _ one rest in
        record { sound = both.sound; same = both.same; balance = both.balance; heavier = let l = both.heavier in omega (arith, l) }

    pub asked : (clients : List ClientNo) (servers : List ServerNo) (c : Course) → Sound n start c → Asked c (go_on (ask_again clients servers) c) (161 * length clients + 103040 * length servers)
    asked [] servers c h = let rest = servers-asked servers c h in record { sound = rest.sound; same = rest.same; balance = rest.balance; heavier = let l = rest.heavier in omega (arith, l) }
    asked (client ∷ clients) servers c h = let one = again-asked c client h in let rest = asked clients servers (go (Again client) c) one.sound in let both = then-asked c _ _ _ _ one rest in
        record { sound = both.sound; same = both.same; balance = both.balance; heavier = let l = both.heavier in omega (arith, l) }

-- ---- a whole settle

pub servers-length : (n j : ℕ) → length (servers_from j n) ≡ n
servers-length zero j = refl
servers-length (suc n) j = let again = servers-length n (j + 1) in omega (arith, again)

at-light : (o : Option Sent) → weight_at o ≤ 161
at-light None = omega arith
at-light (Some x) = weighs x.1

pub waiting-light : (sent : List Sent) (ks : List ℕ) → weigh sent ks ≤ 161 * length ks
waiting-light sent [] = omega arith
waiting-light sent (k ∷ ks) = let again = waiting-light sent ks in let one = at-light (slice_get sent k) in omega (arith, again, one)

-- each that waits weighs something
pub waiting-weighs : (sent : List Sent) (ks : List ℕ) → are_below (length sent) ks ≡ true → length ks ≤ weigh sent ks
waiting-weighs sent [] h = omega arith
waiting-weighs sent (k ∷ ks) h = let again = waiting-weighs sent ks (grind (arith, h)) in let here = get-some sent k (grind (arith, nat_tests, h)) in
    let one = weighs-some here.0.1 in let is = ap weight_at here.1 in omega (arith, again, one, is)

pub settle-bounded : (n : ℕ) → n ≤ 8 → (start : World) (chances : Chances) (c : Course) → Sound n start c → IsSettle n start chances c
settle-bounded n at_most start chances c h = let first = part-bounded n at_most start chances.steps chances.first c h in
    let middle = asked n at_most start (clients_from 1 8) (servers_from 0 n) (until_rest (servers_from 0 n) chances.first chances.steps c) first.sound in
    let last = part-bounded n at_most start chances.steps chances.second (go_on (ask_again (clients_from 1 8) (servers_from 0 n)) (until_rest (servers_from 0 n) chances.first chances.steps c)) middle.sound in record {
      course = last.sound.course;
      handed = let one = first.few in let two = middle.heavier in let three = last.few in let same = middle.same in let waits = waiting-light c.world.sent c.waiting in let servers = servers-length n 0 in
          omega (arith, one, two, three, same, waits, servers);
      sent = let one = first.few in let two = middle.heavier in let three = last.few in let same = middle.same in let waits = waiting-light c.world.sent c.waiting in let servers = servers-length n 0 in
          let a = first.balance in let b = middle.balance in let d = last.balance in let left = waiting-weighs (settled n chances c).world.sent (settled n chances c).waiting last.sound.below in
          omega (arith, one, two, three, same, waits, servers, a, b, d, left);
    }
