-- A course with lines before its own goes as it does without them.
use Rattle.jn_at_rest.proofs.Common.{◌≡◌, ℕ, List, [], ◌∷◌, ◌++◌, length, drop, sym, ◌∙◌, ap, subst, Text, World, commits_in, Step, Restart, CloseClients, IsStep, IsRun, after, Course, go, go_on, numbered, newly_sent, still_waiting, behind}
use Rattle.jn_machine_refines.proofs.Behind.{step-behind}

-- the second course is the first one, with these lines before its own, but for the steps so far
pub record IsLined (texts : List Text) (c d : Course) : Type 0 where
  pub world : d.world ≡ behind texts c.world
  pub waiting : d.waiting ≡ c.waiting

module _ (texts : List Text) (mute : commits_in texts ≡ []) where
  may-step : (step : Step) (w : World) → IsStep step w → IsStep step (behind texts w)
  may-step (Restart s pick works tids) w h = h
  may-step (CloseClients s) w h = h
  may-step step w h = tt

  pub go-lined : (step : Step) (c d : Course) → IsLined texts c d → IsLined texts (go step c) (go step d)
  go-lined step c d g = record {
    world = ap (after step) g.world ∙ step-behind texts mute c.world step;
    waiting = ap (λ (ks : List ℕ). still_waiting step ks ++ numbered (length d.world.sent) (newly_sent d.world (after step d.world))) g.waiting
        ∙ ap (λ (w : World). still_waiting step c.waiting ++ numbered (length w.sent) (newly_sent w (after step w))) g.world
        ∙ ap (λ (w : World). still_waiting step c.waiting ++ numbered (length c.world.sent) (drop (length c.world.sent) w.sent)) (step-behind texts mute c.world step);
  }

  pub on-lined : (steps : List Step) (c d : Course) → IsLined texts c d → IsLined texts (go_on steps c) (go_on steps d)
  on-lined [] c d g = g
  on-lined (step ∷ steps) c d g = on-lined steps (go step c) (go step d) (go-lined step c d g)

  pub may-lined : (steps : List Step) (c d : Course) → IsLined texts c d → IsRun steps c.world → IsRun steps d.world
  may-lined [] c d g h = tt
  may-lined (step ∷ steps) c d g h = (subst (λ (w : World). IsStep step w) (sym g.world) (may-step step c.world h.0), may-lined steps (go step c) (go step d) (go-lined step c d g) h.1)
