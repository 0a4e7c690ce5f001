-- Every settle after every run answers.
use Rattle.jn_system_settling.proofs.Common.{◌≡◌, ◌≤◌, ℕ, suc, ◌+◌, List, [], ◌∷◌, Some, None, refl, sym, ◌∙◌, ap, subst, arith, false, inl, ServerNo, AllFiles, Outstanding, FlagState, World, Memory, opening, new_memory, servers_from, Step, IsRun, Course, opening_course, go, go_on, Chance, clients_from, until_rest, ask_again, settled, burden, IsAtRest, AreUp, AreAnswered, LeavesBetween, opening-reached, Client, Sent, new_table, some-memory}
use Rattle.jn_system_settling.proofs.Settling.Resting.{PartEnds, part-ends}
use Rattle.jn_system_settling.proofs.Settling.Settling.{opening-sound}
use Rattle.jn_system_settling.proofs.Settling.Courses.{Sound}
use Rattle.jn_system_settling.proofs.AtRest.Twins.{HasTwin, run-has-twin}
use Rattle.jn_system_settling.proofs.AtRest.Within.{opening-within}
use Rattle.jn_system_settling.proofs.AtRest.Answered.{Talking}
use Rattle.jn_system_settling.proofs.AtRest.Votes.{Votings}
use Rattle.jn_system_settling.proofs.AtRest.Requests.{Past, SeenFits}
use Rattle.jn_system_settling.proofs.AtRest.Begins.{Good, good-go}
use Rattle.jn_system_settling.proofs.AtRest.Answers.{rest-good, ask-good, settled-answers}
use Rattle.jn_msgs.specs.declared.message.Message.TheVariants as messages

module _ (n : ℕ) (at_most : n ≤ 8) (files : AllFiles) (epochs : ServerNo → ℕ) where
  opening-talking : Talking n at_most (opening n files epochs) files epochs (opening_course n files epochs)
  opening-talking = record {
    sound = opening-sound n files epochs;
    talks = λ c. record { name = refl; fits = λ o e. absurd (none o e) };
    known = opening-reached files epochs n;
    within = opening-within n files epochs;
  }
    where
      none : (o : Outstanding) → None ≡ Some o → ⊥
      none o e = cc

  opening-good : Good n at_most (opening n files epochs) files epochs (opening_course n files epochs)
  opening-good = record {
    talking = opening-talking;
    requests = record {
      draws = λ c. record { some = omega arith; latest = λ o e. absurd (none o e) };
      sent = λ x k. absurd k;
      servers = λ s. record {
        votings = λ m e. subst (λ (z : Memory). Votings (Past false (λ c. new_table c n)) z.coordinator.transactions) (some-memory (new_memory s (epochs s)) m e) tt;
        seen = λ m e c. subst (λ (z : Memory). SeenFits (λ c. new_table c n) [] c (z.coordinator.seen c)) (some-memory (new_memory s (epochs s)) m e) (inl refl);
        flags = λ k T f e. absurd (no-flag f e);
      };
    };
    replies = record { each = λ k c q a e. absurd (no-message (Client c, messages.Begun c q a) e) };
  }
    where
      none : (o : Outstanding) → None ≡ Some o → ⊥
      none o e = cc

      no-flag : (f : FlagState) → None ≡ Some f → ⊥
      no-flag f e = cc

      no-message : (x : Sent) → None ≡ Some x → ⊥
      no-message x e = cc

  pub go-on-talking : (start : World) (steps : List Step) (c : Course) → Good n at_most start files epochs c → IsRun steps c.world → Good n at_most start files epochs (go_on steps c)
  go-on-talking start [] c h i = h
  go-on-talking start (step ∷ steps) c h i = go-on-talking start steps (go step c) (good-go n at_most start files epochs c step h i.0) i.1

  pub course-talking : (steps : List Step) → IsRun steps (opening n files epochs) → Good n at_most (opening n files epochs) files epochs (go_on steps (opening_course n files epochs))
  course-talking steps h = go-on-talking (opening n files epochs) steps (opening_course n files epochs) opening-good h

  -- each course is a run
  pub course-twin : (d : Course) → Sound n (opening n files epochs) d → HasTwin files epochs d.world
  course-twin d h = subst (λ (z : World). HasTwin files epochs z) h.course.stands (run-has-twin n files epochs d.steps h.course.is_run)

  -- ---- what holds at the end

  abbrev start : World
  start = opening n files epochs

  abbrev IsGood : Course → Type 0
  IsGood d = Good n at_most start files epochs d

  abbrev pub first_part : (ℕ → Chance) → ℕ → Course → Course
  first_part first i c = until_rest (servers_from 0 n) first i c

  abbrev pub asked_again : Course → Course
  asked_again d = go_on (ask_again (clients_from 1 8) (servers_from 0 n)) d

  abbrev pub second_part : (ℕ → Chance) → ℕ → Course → Course
  second_part second k d = until_rest (servers_from 0 n) second k (asked_again d)

  -- what holds where both parts come to rest
  pub settles : (first second : ℕ → Chance) (c : Course) (Q : Course → Course → Type 0) → IsGood c
      → ((i k : ℕ) → IsAtRest n (first_part first i c) → IsAtRest n (second_part second k (first_part first i c)) → AreUp n (second_part second k (first_part first i c)).world → Q c (second_part second k (first_part first i c)))
      → LeavesBetween n first second c Q
  settles first second c Q h at_rest = record {
    steps = one.steps + two.steps;
    each = λ j l. subst (λ (z : Course). AreUp n z.world → Q c z) (sym (whole j l)) (at_rest one.steps two.steps (subst (λ (z : Course). IsAtRest n z) (sym first-ends) one.rests) (subst (λ (z : Course). IsAtRest n z) (sym (two.each two.steps (omega arith))) two.rests));
  }
    where
      one : PartEnds n first c
      one = part-ends n at_most start (suc (burden (servers_from 0 n) c)) first c h.talking.sound (omega arith)

      first-ends : until_rest (servers_from 0 n) first one.steps c ≡ one.last
      first-ends = one.each one.steps (omega arith)

      middle : Course
      middle = go_on (ask_again (clients_from 1 8) (servers_from 0 n)) (until_rest (servers_from 0 n) first one.steps c)

      asked : Good n at_most start files epochs middle
      asked = ask-good n at_most start files epochs course-twin (clients_from 1 8) (servers_from 0 n) (until_rest (servers_from 0 n) first one.steps c) (rest-good n at_most start files epochs course-twin one.steps first c h)

      two : PartEnds n second middle
      two = part-ends n at_most start (suc (burden (servers_from 0 n) middle)) second middle asked.talking.sound (omega arith)

      whole : (j : ℕ) → one.steps + two.steps ≤ j → settled n (record { first = first; second = second; steps = j }) c ≡ until_rest (servers_from 0 n) second two.steps middle
      whole j l = ap (λ (z : Course). until_rest (servers_from 0 n) second j (go_on (ask_again (clients_from 1 8) (servers_from 0 n)) z)) (one.each j (omega (arith, l)) ∙ sym first-ends) ∙ two.each j (omega (arith, l)) ∙ sym (two.each two.steps (omega arith))

  -- every client's command but an End is answered
  pub all-answered : (first second : ℕ → Chance) (c : Course) (i k : ℕ) → IsGood c → IsAtRest n (second_part second k (first_part first i c)) → AreUp n (second_part second k (first_part first i c)).world → AreAnswered (second_part second k (first_part first i c)).world
  all-answered first second c i k h rests up = settled-answers n at_most start files epochs course-twin (until_rest (servers_from 0 n) first i c) (rest-good n at_most start files epochs course-twin i first c h) k second rests.waits up
