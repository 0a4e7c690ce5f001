-- A course with lines of servers that came up before its own goes as it does without them.
use Rattle.jn_headline.proofs.Common.{◌≡◌, ℕ, true, List, [], ◌∷◌, ◌++◌, append-nil, length, drop, sym, ◌∙◌, ap, list_all, Text, World, commits_in, Step, IsStep, after, Course, go, numbered, newly_sent, still_waiting, Does, told_by, is_up, own_texts, behind}
use Rattle.jn_machine_refines.proofs.Behind.{ups-name-none, step-behind}
use Rattle.jn_machine_refines.proofs.Seen.{told-behind, may-run}

-- the first course is the second one, but for the lines of those that came up and for the steps so far
pub record GoesWith (ups : List Text) (c d : Course) : Type 0 where
  pub world : c.world ≡ behind ups d.world
  pub waiting : c.waiting ≡ d.waiting

module _ (ups : List Text) (are_up : list_all is_up ups ≡ true) where
  mute : commits_in ups ≡ []
  mute = ups-name-none ups are_up

  -- a step may come, and adds the same lines
  pub may-behind : (w : World) (step : Step) → IsStep step (behind ups w) → IsStep step w
  may-behind w step h = (may-run ups mute (step ∷ []) w (h, tt)).0

  pub own-behind : (w : World) (step : Step) → own_texts (behind ups w) (after step (behind ups w)) ≡ told_by (Does step) w
  own-behind w step = sym (append-nil (told_by (Does step) (behind ups w))) ∙ told-behind ups mute (Does step ∷ []) w ∙ append-nil (told_by (Does step) w)

  pub go-behind : (step : Step) (c d : Course) → GoesWith ups c d → GoesWith ups (go step c) (go step d)
  go-behind step c d g = record {
    world = ap (after step) g.world ∙ step-behind ups mute d.world step;
    waiting = ap (λ (ks : List ℕ). still_waiting step ks ++ numbered (length c.world.sent) (newly_sent c.world (after step c.world))) g.waiting
        ∙ ap (λ (w : World). still_waiting step d.waiting ++ numbered (length w.sent) (newly_sent w (after step w))) g.world
        ∙ ap (λ (w : World). still_waiting step d.waiting ++ numbered (length d.world.sent) (drop (length d.world.sent) w.sent)) (step-behind ups mute d.world step);
  }
