-- Between the rests of a settle each client and each server sends once more what waits for an answer.
use Rattle.jn_at_rest.proofs.Common.{◌≡◌, ◌⊎◌, inl, inr, ℕ, suc, ◌+◌, List, [], ◌∷◌, ◌++◌, length, length-append, refl, sym, ◌∙◌, ap, arith, map, map-append, ServerNo, ClientNo, Step, NextEvent, Again, Nudge, go, go_on, clients_from, ask_again, Setup, Task, Acts, CutShort, servers_of, asking, none, more, Steps, Moment, DoesEarlier, GoesOn, IsCut, does}
use Rattle.jn_schedule.specs.declared.Event.TheVariants as events
use Rattle.jn_at_rest.proofs.Going.{InSettle, a_client, a_server, AllInSettle, at-end, not-cut}

-- the step that a task makes in which one asks
abbrev asked_by : Task → Step
asked_by (Acts (events.Again c)) = Again c
asked_by (Acts (events.Nudge q)) = Nudge q
asked_by task = NextEvent

data IsAsk : Task → Type 0 where
  by_client : (c : ClientNo) → IsAsk (Acts (events.Again c))
  by_server : (q : ServerNo) → IsAsk (Acts (events.Nudge q))

abbrev AllAsk : List Task → Type 0
AllAsk [] = Unit {0}
AllAsk (t ∷ ts) = IsAsk t × AllAsk ts

ask-both : (ts us : List Task) → AllAsk ts → AllAsk us → AllAsk (ts ++ us)
ask-both [] us h k = k
ask-both (t ∷ ts) us h k = (h.0, ask-both ts us h.1 k)

clients-ask : (cs : List ClientNo) → AllAsk (map (λ (c : ClientNo). Acts (events.Again c)) cs)
clients-ask [] = tt
clients-ask (c ∷ cs) = (by_client c, clients-ask cs)

servers-ask : (qs : List ServerNo) → AllAsk (map (λ (q : ServerNo). Acts (events.Nudge q)) qs)
servers-ask [] = tt
servers-ask (q ∷ qs) = (by_server q, servers-ask qs)

clients-steps : (cs : List ClientNo) → map asked_by (map (λ (c : ClientNo). Acts (events.Again c)) cs) ≡ map (λ (c : ClientNo). Again c) cs
clients-steps [] = refl
clients-steps (c ∷ cs) = ap (λ (steps : List Step). Again c ∷ steps) (clients-steps cs)

servers-steps : (qs : List ServerNo) → map asked_by (map (λ (q : ServerNo). Acts (events.Nudge q)) qs) ≡ map (λ (q : ServerNo). Nudge q) qs
servers-steps [] = refl
servers-steps (q ∷ qs) = ap (λ (steps : List Step). Nudge q ∷ steps) (servers-steps qs)

in-settle : (ts : List Task) → AllAsk ts → AllInSettle ts
in-settle [] h = tt
in-settle (t ∷ ts) h = (one h.0, in-settle ts h.1)
  where
    one : {t : Task} → IsAsk t → InSettle t
    one (by_client c) = a_client c
    one (by_server q) = a_server q

module _ (x : Setup) where
  abbrev its_clients : List Task
  its_clients = map (λ (c : ClientNo). Acts (events.Again c)) (clients_from 1 8)

  abbrev its_servers : List Task
  its_servers = map (λ (q : ServerNo). Acts (events.Nudge q)) (servers_of x)

  all-ask : AllAsk (asking x)
  all-ask = ask-both its_clients its_servers (clients-ask (clients_from 1 8)) (servers-ask (servers_of x))

  pub asking-in : AllInSettle (asking x)
  asking-in = in-settle (asking x) all-ask

  its-steps : map asked_by (asking x) ≡ ask_again (clients_from 1 8) (servers_of x)
  its-steps = map-append asked_by its_clients its_servers ∙ ap (λ (steps : List Step). steps ++ map asked_by its_servers) (clients-steps (clients_from 1 8))
      ∙ ap (λ (steps : List Step). map (λ (c : ClientNo). Again c) (clients_from 1 8) ++ steps) (servers-steps (servers_of x))

  asks-on : (rest front : List Task) (m e : Moment) → Steps Moment (DoesEarlier x rest) m e → e.state.tasks ≡ rest → (e.state.stage ≡ CutShort → ⊥) → m.state.tasks ≡ front ++ rest → AllAsk front
      → e.state.course ≡ go_on (map asked_by front) m.state.course
  asks-on rest [] m e steps ends whole is all = ap (λ (z : Moment). z.state.course) (at-end x rest m e steps is)
  asks-on rest (t ∷ front) m e (none a) ends whole is all = absurd (too-long (length front) (length (front ++ rest)) (length rest) (length-append front rest) (ap (λ (ts : List Task). length ts) (sym is ∙ ends)))
    where
      too-long : (some all few : ℕ) → all ≡ some + few → suc all ≡ few → ⊥
      too-long some all few f e = omega (arith, e, f)
  asks-on rest (t ∷ front) m e (more u c v d left) ends whole is all = by t all.0 (does x t (front ++ rest) m c d.step is) (λ tasks. asks-on rest front c e left ends whole tasks all.1)
    where
      by : (t : Task) → IsAsk t → GoesOn x d.step.chance t (front ++ rest) m c ⊎ IsCut t (front ++ rest) m c → (c.state.tasks ≡ front ++ rest → e.state.course ≡ go_on (map asked_by front) c.state.course)
          → e.state.course ≡ go_on (map asked_by front) (go (asked_by t) m.state.course)
      by _ (by_client client) (inl g) again = again g.tasks ∙ ap (go_on (map asked_by front)) g.course
      by _ (by_server q) (inl g) again = again g.tasks ∙ ap (go_on (map asked_by front)) g.course
      by t ask (inr k) again = absurd (not-cut x rest c e left whole k.stage)

  pub asks : (rest : List Task) (m e : Moment) → Steps Moment (DoesEarlier x rest) m e → e.state.tasks ≡ rest → (e.state.stage ≡ CutShort → ⊥) → m.state.tasks ≡ asking x ++ rest
      → e.state.course ≡ go_on (ask_again (clients_from 1 8) (servers_of x)) m.state.course
  asks rest m e steps ends whole is = asks-on rest (asking x) m e steps ends whole is all-ask ∙ ap (λ (ss : List Step). go_on ss m.state.course) its-steps
