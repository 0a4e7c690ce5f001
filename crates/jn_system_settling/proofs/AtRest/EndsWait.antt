-- Each end that a settle with these servers up leaves was reported to wait.
use Rattle.jn_system_settling.proofs.Common.{◌≡◌, ◌⊎◌, inl, inr, ◌≤◌, ℕ, true, length, length-append, Option, Some, None, is_some, true≢false, refl, sym, ◌∙◌, ap, subst, arith, list_any, ServerNo, Tid, Server, Command, End, AllFiles, stable, Sent, ClientTable, sent_again, take_row, World, Memory, opening, new_memory, servers_from, server_row, lines_of, Course, Chance, clients_from, until_rest, IsAtRest, Reached, AreUp, tells_waiting, own_texts, EndsWait, some-memory}
use Rattle.jn_system_settling.proofs.Settling.Courses.{Sound}
use Rattle.jn_system_settling.proofs.AtRest.Talk.{FitsCommand}
use Rattle.jn_system_settling.proofs.AtRest.Within.{Within}
use Rattle.jn_system_settling.proofs.AtRest.Ways.{Waits, rest-down}
use Rattle.jn_system_settling.proofs.AtRest.Answered.{Talks, among-clients}
use Rattle.jn_system_settling.proofs.AtRest.Begins.{Good, good-go}
use Rattle.jn_system_settling.proofs.AtRest.Answers.{rest-good, ask-good, stays}
use Rattle.jn_system_settling.proofs.AtRest.Memories.{Unfinished, all_unfinished, run-unfinished}
use Rattle.jn_system_settling.proofs.AtRest.Calm.{carried, Asked, ask-asks, rest-calm}
use Rattle.jn_system_settling.proofs.AtRest.Ends.{Longer, took-longer, OnWay, asks, client-way, server-way, work-way, rest-way}
use Rattle.jn_system_settling.proofs.AtRest.Settling.{course-twin, first_part, asked_again, second_part, all-answered}

module _ (n : ℕ) (at_most : n ≤ 8) (files : AllFiles) (epochs : ServerNo → ℕ) where
  abbrev start : World
  start = opening n files epochs

  abbrev IsGood : Course → Type 0
  IsGood d = Good n at_most start files epochs d

  pub reached : (d : Course) → IsGood d → Reached files epochs d.world
  reached d h = h.talking.known

  pub unfinished : (d : Course) → IsGood d → Unfinished d.world
  unfinished d h = let c = h.talking.sound.course in subst (λ (z : World). Unfinished z) c.stands (run-unfinished d.steps start none)
    where
      none : Unfinished start
      none s m e = subst (λ (z : Memory). all_unfinished z.coordinator.transactions ≡ true) (some-memory (new_memory s (epochs s)) m e) refl

  sound : (d : Course) → IsGood d → Sound n start d
  sound d h = h.talking.sound

  pub inside : (d : Course) → IsGood d → Within n d.world
  inside d h = h.talking.within

  -- who is up at the end was up
  pub was-up : (j : ℕ) (chances : ℕ → Chance) (d : Course) → AreUp n (until_rest (servers_from 0 n) chances j d).world → AreUp n d.world
  was-up j chances d up s near = by (d.world.memory s) refl
    where
      by : (o : Option Memory) → d.world.memory s ≡ o → is_some o ≡ true
      by (Some m) e = refl
      by None e = absurd (true≢false (sym (up s near) ∙ ap is_some (rest-down n s j chances d e)))

  -- lines grow in a part
  pub rest-long : (before j : ℕ) (chances : ℕ → Chance) (d : Course) → IsGood d → AreUp n (until_rest (servers_from 0 n) chances j d).world → before ≤ length d.world.lines → before ≤ length (until_rest (servers_from 0 n) chances j d).world.lines
  rest-long before = rest-calm n at_most start IsGood sound (good-go n at_most start files epochs) inside (λ d. before ≤ length d.world.lines)
      (λ d now k c message g is comes first l. longer d now _ comes.world (took-longer c k (take_row (d.world.clients c) message).0 (take_row (d.world.clients c) message).1 d.world) l)
      (λ d now k room s message m g is up comes first l. longer d now _ comes.world (record { more = lines_of s (Some k) (server_row m (stable (d.world.found s)) room message).notes; is = refl }) l)
      (λ d now s m v g e up goes comes l. longer d now _ comes.world (record { more = lines_of s None (carried m d.world s v).notes; is = refl }) l)
    where
      longer : (d now : Course) (w : World) → now.world ≡ w → Longer d.world w → before ≤ length d.world.lines → before ≤ length now.world.lines
      longer d now w e l h = subst (λ (z : World). before ≤ length z.lines) (sym e) (grown d.world w l h)
        where
          grown : (a b : World) → Longer a b → before ≤ length a.lines → before ≤ length b.lines
          grown a b l h = let e = ap length l.is ∙ length-append a.lines l.more in omega (arith, e, h)

  module _ (first second : ℕ → Chance) (c : Course) (i k : ℕ) (h : IsGood c) (rests : IsAtRest n (second_part n at_most files epochs second k (first_part n at_most files epochs first i c)))
      (up : AreUp n (second_part n at_most files epochs second k (first_part n at_most files epochs first i c)).world) where
    abbrev d : Course
    d = until_rest (servers_from 0 n) first i c

    abbrev middle : Course
    middle = asked_again n at_most files epochs (until_rest (servers_from 0 n) first i c)

    abbrev last : Course
    last = second_part n at_most files epochs second k (first_part n at_most files epochs first i c)

    pub good : IsGood d
    good = rest-good n at_most start files epochs (course-twin n at_most files epochs) i first c h

    pub good-middle : IsGood middle
    good-middle = ask-good n at_most start files epochs (course-twin n at_most files epochs) (clients_from 1 8) (servers_from 0 n) d good

    pub asked : Asked (clients_from 1 8) (servers_from 0 n) d middle
    asked = ask-asks n at_most start IsGood sound (good-go n at_most start files epochs) (clients_from 1 8) (servers_from 0 n) d good

    pub up-middle : AreUp n middle.world
    up-middle = was-up k second middle up

    pub up-first : AreUp n d.world
    up-first s near = ap is_some (ap (λ f. f s) (sym asked.memory)) ∙ up-middle s near

    pub long : length c.world.lines ≤ length middle.world.lines
    long = subst (λ l. length c.world.lines ≤ length l) (sym asked.lines) (rest-long (length c.world.lines) i first c h up-first (omega arith))

    pub ends-wait : EndsWait c.world last.world
    ends-wait e o low high is = by (rest-way n at_most files epochs reached e t o T (length c.world.lines) talks.name waits ends fits.1 unfinished last good-last rests.waits on-way.way)
      where
        t : ClientTable
        t = d.world.clients e

        talks : Talks e (d.world.clients e)
        talks = good.talking.talks e

        waits : t.outstanding ≡ Some o
        waits = stays n at_most start files epochs (course-twin n at_most files epochs) d good k second e low high rests.waits up o is

        ends : o.command ≡ End
        ends = all-answered n at_most files epochs first second c i k h rests up e o low high is

        fits : FitsCommand t o End
        fits = subst (λ (z : Command). FitsCommand t o z) ends (talks.fits o waits)

        T : Tid
        T = fits.0

        good-last : IsGood last
        good-last = rest-good n at_most start files epochs (course-twin n at_most files epochs) k second middle good-middle

        on-way : OnWay n at_most files epochs reached e t o T (length c.world.lines) talks.name waits ends fits.1 last
        on-way = rest-calm n at_most start IsGood sound (good-go n at_most start files epochs) inside (OnWay n at_most files epochs reached e t o T (length c.world.lines) talks.name waits ends fits.1)
            (λ d now k f message g is comes first. client-way n at_most files epochs reached e t o T (length c.world.lines) talks.name waits ends fits.1 d now k f message g is comes)
            (λ d now k room s message m g is up comes first. server-way n at_most files epochs reached e t o T (length c.world.lines) talks.name waits ends fits.1 d now k room s message m g is up comes)
            (λ d now s m v g e' up goes comes. work-way n at_most files epochs reached e t o T (length c.world.lines) talks.name waits ends fits.1 unfinished d now s m v g e' comes)
            k second middle good-middle up (record {
              long = long;
              way = asks (ap (λ f. f e) asked.tables) (subst (λ (x : Sent). Waits middle.world.sent middle.waiting x) (ap (λ z. (z, o.message)) fits.2 ∙ ap (λ z. (Server T.server, z)) fits.3)
                  (asked.from_client e (among-clients n at_most start files epochs 8 1 e low (omega (arith, high))) (o.to, o.message) (ap sent_again waits)));
            })

        by : ((last.world.clients e).outstanding ≡ None) ⊎ (list_any (tells_waiting e o.event) (own_texts c.world last.world) ≡ true)
            → list_any (tells_waiting e o.event) (own_texts c.world last.world) ≡ true
        by (inl q) = absurd (none (sym q ∙ is))
          where
            none : None ≡ Some o → ⊥
            none z = cc
        by (inr q) = q
