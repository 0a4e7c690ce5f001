-- A settle in which clients go on settles: behind its first part it is a settle as any other, and what was live before that part and
-- isn't live behind it stays away.
use Rattle.jn_system_settling.proofs.Common.{◌≡◌, ◌⊎◌, inl, inr, ◌≤◌, ◌<◌, ℕ, ◌+◌, Bool, false, true, List, [], ◌∷◌, ◌++◌, append_assoc, append-nil, length, Option, Some, None, is_some, true≢false, refl, sym, ◌∙◌, ap, subst, arith, list_any, ServerNo, ClientNo, WorkId, AllFiles, Pick, StableState, Text, Sent, ClientTable, Work, work_at, Machine, Invariant, run_atoms, opening_world, World, Memory, servers_from, clients_from, opening, own_texts, Step, IsStep, IsRun, after, run, LockFacts, ServerFact, UpFact, locks-keep, Course, go, go_on, Chance, until_rest, settled, Reached, ClientRow, by_command, by_ignoring, by_answering, by_telling, StepCase, client_row, row_done, row_stopped, gone_down, come_up, found_anew, quietly, FoundThen, by_narrowing, by_raising, Quiet, is_refused, is_lost, step-case, AreUp, live_at, entry_in, holds_undecided, tells_outcome, tells_waiting, AreDecided, EndsWait, IsSettled, LeavesBetween, AreNext, chances_of, asked, ask_again, drop, drop-append_seam, Atom, MayRun, run_kept, opening_kept, Mirrors, Facts, Next, step-next}
use Rattle.jn_system.proofs.SmallSteps.MessageLemmas.{run_grows}
use Rattle.jn_system_order.proofs.Mirroring.Losing.{run-append, may-append}
use Rattle.jn_system_settling.specs.AtRest.Calls.{ComesOrIsTold, comes, told, AreNextOrTold, ComeToRestTold, AreOnTheirWay}
use Rattle.jn_system_settling.proofs.Settling.Loops.{reached as steps-reached}
use Rattle.jn_system_settling.proofs.Settling.Settling.{on-world}
use Rattle.jn_system_settling.proofs.AtRest.Ways.{any-right}
use Rattle.jn_system_settling.proofs.AtRest.Begins.{Good, good-go}
use Rattle.jn_system_settling.proofs.AtRest.Answers.{ask-good}
use Rattle.jn_system_settling.proofs.AtRest.Calm.{Asked, ask-asks}
use Rattle.jn_system_settling.proofs.AtRest.Living.{NotLive, IsOld}
use Rattle.jn_system_settling.proofs.AtRest.Ends.{Longer}
use Rattle.jn_system_settling.proofs.AtRest.Settling.{course-twin, go-on-talking}
use Rattle.jn_system_settling.proofs.AtRest.EndsWait.{was-up}
use Rattle.jn_system_settling.proofs.AtRest.Behind.{next-is, next-may, none-is-told}
use Rattle.jn_system_settling.proofs.AtRest.Decided.{entry-of, not-there, rest-gone, settle-settles}

-- ---- lines grow

module _ (w : World) where
  more-lines : (lines more : List Text) → lines ≡ w.lines ++ more → (now : World) → now.lines ≡ lines → Longer w now
  more-lines lines more e now f = record { more = more; is = f ∙ e }

  same-lines : (now : World) → now.lines ≡ w.lines → Longer w now
  same-lines now f = record { more = []; is = f ∙ sym (append-nil w.lines) }

  client-longer : (now : World) (step : Step) (c : ClientNo) (t : ClientTable) (sent : List Sent) (lines : List Text) → ClientRow w c step t sent lines → now.lines ≡ lines → Longer w now
  client-longer now _ c _ _ _ (by_command command t to message is) f = same-lines now f
  client-longer now _ c _ _ _ (by_ignoring k room stop message t at is) f = more-lines _ _ refl now f
  client-longer now _ c _ _ _ (by_answering k room stop message t to answer at is) f = same-lines now f
  client-longer now _ c _ _ _ (by_telling k room stop message t line answer at is) f = more-lines _ _ refl now f

  quiet-longer : (now : World) (step : Step) (event : ℕ) (sent : List Sent) (lines : List Text) → Quiet w step event sent lines → now.lines ≡ lines → Longer w now
  quiet-longer now _ _ _ _ (is_refused c command refusal is) f = more-lines _ _ refl now f
  quiet-longer now _ _ _ _ (is_lost k room stop s message at down) f = more-lines _ _ refl now f
  quiet-longer now _ _ _ _ is f = same-lines now f

  found-longer : (now : World) (s : ServerNo) (step : Step) (found : Pick → StableState) (lines : List Text) → FoundThen w s step found lines → now.lines ≡ lines → Longer w now
  found-longer now s _ _ _ (by_narrowing g) f = same-lines now f
  found-longer now s _ _ _ (by_raising raise) f = more-lines _ _ refl now f

  case-longer : (step : Step) (now : World) → StepCase w step now → Longer w now
  case-longer step _ (client_row _ c t sent lines row) = client-longer _ step c t sent lines row refl
  case-longer step _ (row_done _ s m k row up of) = record { more = _; is = refl }
  case-longer step _ (row_stopped _ s m k row made up of) = record { more = _; is = refl }
  case-longer _ _ (gone_down s m up) = record { more = _; is = refl }
  case-longer _ _ (come_up s pick Ws Ts down) = record { more = _; is = refl }
  case-longer step _ (found_anew _ s found lines down is) = found-longer _ s step found lines is refl
  case-longer step _ (quietly _ event sent lines is) = quiet-longer _ step event sent lines is refl
  case-longer _ _ is = same-lines _ refl

abbrev longer-then : (a b c : World) → Longer a b → Longer b c → Longer a c
longer-then a b c h k = record { more = h.more ++ k.more; is = k.is ∙ ap (λ l. l ++ k.more) h.is ∙ append_assoc a.lines h.more k.more }

steps-longer : (steps : List Step) (d : Course) → Longer d.world (go_on steps d).world
steps-longer [] d = same-lines d.world d.world refl
steps-longer (step ∷ steps) d = longer-then d.world (go step d).world (go_on steps (go step d)).world (case-longer d.world step (after step d.world) (step-case d.world step))
    (steps-longer steps (go step d))

own-is : (before now : World) (h : Longer before now) → own_texts before now ≡ h.more
own-is before now h = ap (drop (length before.lines)) h.is ∙ drop-append_seam before.lines h.more

-- what was reported since a later moment was reported since an earlier one
told-since : (a b c : World) → Longer a b → Longer b c → (f : Text → Bool) → list_any f (own_texts b c) ≡ true → list_any f (own_texts a c) ≡ true
told-since a b c h k f is = subst (λ l. list_any f l ≡ true) (sym (own-is a c (longer-then a b c h k))) (any-right f h.more k.more (subst (λ l. list_any f l ≡ true) (own-is b c k) is))

-- ---- a work that was opened has a name that was given

module _ (files : AllFiles) (epochs : ServerNo → ℕ) (W : WorkId) where
  record Stood (r : World) : Type 0 where
    atoms : List Atom
    may : MayRun atoms (opening_world files epochs)
    mirrors : Mirrors r (run_atoms atoms (opening_world files epochs))
    facts : Facts r (run_atoms atoms (opening_world files epochs))
    locks : LockFacts r
    opened : (run_atoms atoms (opening_world files epochs)).opened W ≡ true

  stood-live : (r : World) → Reached files epochs r → (m : Memory) (v : Work) → r.memory W.server ≡ Some m → work_at W m.worker ≡ Some v → Stood r
  stood-live r R m v up live = record { atoms = R.atoms; may = R.may; mirrors = R.mirrors; facts = R.facts; locks = R.locks; opened = (R.mirrors.owner W.server m W v up live).0 }

  stood-inv : (r : World) (h : Stood r) → Invariant (run_atoms h.atoms (opening_world files epochs))
  stood-inv r h = run_kept h.atoms (opening_world files epochs) h.may (opening_kept files epochs)

  next-stood : (r : World) (step : Step) → IsStep step r → Stood r → Stood (after step r)
  next-stood r step i h = by (step-next files epochs h.atoms h.may r h.mirrors h.facts h.locks step i)
    where
      by : Next (after step r) (run_atoms h.atoms (opening_world files epochs)) → Stood (after step r)
      by next = let same = run-append h.atoms next.atoms (opening_world files epochs) in record {
        atoms = h.atoms ++ next.atoms;
        may = may-append h.atoms next.atoms (opening_world files epochs) h.may next.may;
        mirrors = subst (λ (z : Machine). Mirrors (after step r) z) (sym same) next.mirrors;
        facts = subst (λ (z : Machine). Facts (after step r) z) (sym same) next.facts;
        locks = locks-keep step r i h.locks;
        opened = subst (λ (z : Machine). z.opened W ≡ true) (sym same) ((run_grows next.atoms (run_atoms h.atoms (opening_world files epochs)) next.may (stood-inv r h)).opened W h.opened);
      }

  stood-on : (steps : List Step) (r : World) → IsRun steps r → Stood r → Stood (run steps r)
  stood-on [] r i h = h
  stood-on (step ∷ steps) r i h = stood-on steps (after step r) i.1 (next-stood r step i.0 h)

  stood-old : (r : World) → Stood r → (m : Memory) → r.memory W.server ≡ Some m → IsOld W m.tickets
  stood-old r h m up e = subst (λ (t : ℕ). W.ticket < t) (h.mirrors.ticket W.server m up)
      (((stood-inv r h).names.works W (λ n. false) h.opened).1 (h.mirrors.up W.server ∙ ap is_some up) (e ∙ fact.epoch ∙ sym (ap (λ x. x.epoch) (h.mirrors.found W.server (λ n. false)))))
    where
      fact : UpFact W.server m (r.found W.server)
      fact = subst (λ o. ServerFact W.server o (r.found W.server)) up (h.locks W.server)

-- ---- a settle

told-may : (servers : List ServerNo) (c : Course) (step : Step) → ComesOrIsTold servers c step → IsStep step c.world
told-may servers c _ (comes step h) = next-may c step (next-is servers c step h)
told-may servers c _ (told client s op h) = tt

pub told-run : (servers : List ServerNo) (steps : List Step) (c : Course) → AreNextOrTold servers steps c → IsRun steps c.world
told-run servers [] c h = tt
told-run servers (step ∷ steps) c h = (told-may servers c step h.0, told-run servers steps (go step c) h.1)

module _ (n : ℕ) (at_most : n ≤ 8) (files : AllFiles) (epochs : ServerNo → ℕ) where
  abbrev start : World
  start = opening n files epochs

  abbrev IsGood : Course → Type 0
  IsGood d = Good n at_most start files epochs d

  module _ (c : Course) (g : IsGood c) (one two : List Step) (first : ComeToRestTold (servers_from 0 n) one c) (second : ComeToRestTold (servers_from 0 n) two (asked n (go_on one c)))
      (way : AreOnTheirWay (go_on one c)) where
    -- behind the first part, behind the askings, and the end
    abbrev d : Course
    d = go_on one c

    abbrev middle : Course
    middle = asked n (go_on one c)

    abbrev last : Course
    last = go_on two (asked n (go_on one c))

    one-runs : IsRun one c.world
    one-runs = told-run (servers_from 0 n) one c first.each

    good-d : IsGood d
    good-d = go-on-talking n at_most files epochs start one c g one-runs

    good-middle : IsGood middle
    good-middle = ask-good n at_most start files epochs (course-twin n at_most files epochs) (clients_from 1 8) (servers_from 0 n) d good-d

    asked-so : Asked (clients_from 1 8) (servers_from 0 n) d middle
    asked-so = ask-asks n at_most start IsGood (λ e h. h.talking.sound) (good-go n at_most start files epochs) (clients_from 1 8) (servers_from 0 n) d good-d

    abbrev next : AreNext (servers_from 0 n) two middle
    next = none-is-told n at_most files epochs d good-d way first.rest.waits (servers_from 0 n) two second.each

    -- it is a settle of which the first part has no step
    abbrev none : ℕ → Chance
    none = chances_of (servers_from 0 n) [] d tt

    abbrev chances : ℕ → Chance
    chances = chances_of (servers_from 0 n) two middle next

    first-part : (j : ℕ) → until_rest (servers_from 0 n) none j d ≡ d
    first-part j = steps-reached (servers_from 0 n) [] d (record { next = tt; rest = first.rest }) j (omega arith)

    second-part : (j : ℕ) → length two ≤ j → until_rest (servers_from 0 n) chances j middle ≡ last
    second-part j l = steps-reached (servers_from 0 n) two middle (record { next = next; rest = second.rest }) j l

    whole : (j : ℕ) → length two ≤ j → settled n (record { first = none; second = chances; steps = j }) d ≡ last
    whole j l = ap (λ (z : Course). until_rest (servers_from 0 n) chances j (asked n z)) (first-part j) ∙ second-part j l

    module _ (up : AreUp n last.world) where
      since : IsSettled n d last
      since = by (settle-settles n at_most files epochs none chances d good-d)
        where
          by : LeavesBetween n none chances d (IsSettled n) → IsSettled n d last
          by h = subst (λ (z : Course). IsSettled n d z) (whole (h.steps + length two) (omega arith))
              (h.each (h.steps + length two) (omega arith) (subst (λ (z : Course). AreUp n z.world) (sym (whole (h.steps + length two) (omega arith))) up))

      up-middle : AreUp n middle.world
      up-middle = was-up n at_most files epochs (length two) chances middle (subst (λ (z : Course). AreUp n z.world) (sym (second-part (length two) (omega arith))) up)

      -- one that was live and isn't live behind the first part isn't live at the end
      module _ (W : WorkId) (near : W.server.0 < n) (v : Work) (was : live_at c.world W ≡ Some v) (gone : live_at d.world W ≡ None) where
        stood : Stood files epochs W d.world
        stood = let at = entry-of c.world W v was in
            subst (λ (z : World). Stood files epochs W z) (sym (on-world one c)) (stood-on files epochs W one c.world one-runs (stood-live files epochs W c.world g.talking.known at.0 v at.1 at.2))

        not-live : NotLive middle.world W
        not-live = by (d.world.memory W.server) refl
          where
            by : (o : Option Memory) → d.world.memory W.server ≡ o → NotLive middle.world W
            by None e = absurd (true≢false (sym (up-middle W.server near) ∙ ap (λ f. is_some (f W.server)) asked-so.memory ∙ ap is_some e))
            by (Some m) e = record {
              memory = m;
              up = ap (λ f. f W.server) asked-so.memory ∙ e;
              none = ap (λ o. entry_in o W) (sym e) ∙ gone;
              old = stood-old files epochs W d.world stood m e;
            }

        stays-gone : NotLive last.world W
        stays-gone = subst (λ (z : Course). NotLive z.world W) (second-part (length two) (omega arith))
            (rest-gone n at_most files epochs W (length two) chances middle good-middle (subst (λ (z : Course). AreUp n z.world) (sym (second-part (length two) (omega arith))) up) not-live)

      longer-first : Longer c.world d.world
      longer-first = steps-longer one c

      longer-last : Longer d.world last.world
      longer-last = longer-then d.world middle.world last.world (steps-longer (ask_again (clients_from 1 8) (servers_from 0 n)) d) (steps-longer two middle)

      decided : AreDecided n c.world last.world
      decided W z near there = by (since.works W z near there)
        where
          new : live_at d.world W ≡ None → (o : Option Work) → live_at c.world W ≡ o → live_at c.world W ≡ None
          new gone None e = e
          new gone (Some v) e = absurd (not-there last.world W z there (stays-gone W near v e gone))

          by : (holds_undecided (last.world.memory z.tid.server) z.tid ≡ true) ⊎ ((list_any (tells_outcome z.tid) (own_texts d.world last.world) ≡ true) ⊎ (live_at d.world W ≡ None))
              → (holds_undecided (last.world.memory z.tid.server) z.tid ≡ true) ⊎ ((list_any (tells_outcome z.tid) (own_texts c.world last.world) ≡ true) ⊎ (live_at c.world W ≡ None))
          by (inl h) = inl h
          by (inr (inl h)) = inr (inl (told-since c.world d.world last.world longer-first longer-last (tells_outcome z.tid) h))
          by (inr (inr h)) = inr (inr (new h (live_at c.world W) refl))

      ends : EndsWait c.world last.world
      ends e o low high is = told-since c.world d.world last.world longer-first longer-last (tells_waiting e o.event) (since.ends e o low high is)

      pub settles-told : IsSettled n c last
      settles-told = record { waits = since.waits; goes = since.goes; answers = since.answers; ends = ends; flags = since.flags; works = decided }
