-- What is done and reported under an event is the same with lines of servers that came up before.
use Rattle.jn_machine_refines.proofs.Common.{◌≡◌, List, [], ◌∷◌, ◌++◌, refl, sym, ◌∙◌, ap, subst, ServerNo, Text, Event, World, commits_in, Step, Restart, CloseClients, IsStep, IsRun, run, after, Printed, Act, Does, Refuses, Tells, Shows, step_of, told_by, told_in, GoesOver, IsShow, IsShown, IsPrinted, own_texts, behind}
use Rattle.jn_schedule.specs.declared.Event.TheVariants as events
use Rattle.jn_machine_refines.proofs.Behind.{step-behind, run-behind}
use Rattle.jn_machine_refines.proofs.Acts.{grown-one, own-behind}

module _ (ups : List Text) (mute : commits_in ups ≡ []) where
  step-told : (step : Step) (w : World) → told_by (Does step) (behind ups w) ≡ told_by (Does step) w
  step-told step w = ap (λ (v : World). own_texts (behind ups w) v) (step-behind ups mute w step) ∙ own-behind ups w (after step w) (grown-one step w)

  act-told : (act : Act) (w : World) → told_by act (behind ups w) ≡ told_by act w
  act-told (Does step) w = step-told step w
  act-told (Refuses refusal) w = refl
  act-told (Tells s fault) w = refl
  act-told (Shows s prints) w = refl

  pub told-behind : (acts : List Act) (w : World) → told_in acts (behind ups w) ≡ told_in acts w
  told-behind [] w = refl
  told-behind (act ∷ acts) w = ap (λ (texts : List Text). texts ++ told_in acts (run (step_of act) (behind ups w))) (act-told act w)
      ∙ ap (λ (v : World). told_by act w ++ told_in acts v) (run-behind ups mute (step_of act) w)
      ∙ ap (λ (texts : List Text). told_by act w ++ texts) (told-behind acts (run (step_of act) w))

  may-step : (step : Step) (w : World) → IsStep step (behind ups w) → IsStep step w
  may-step (Restart s pick works tids) w h = h
  may-step (CloseClients s) w h = h
  may-step step w h = tt

  pub may-run : (steps : List Step) (w : World) → IsRun steps (behind ups w) → IsRun steps w
  may-run [] w h = tt
  may-run (step ∷ steps) w h = (may-step step w h.0, may-run steps (after step w) (subst (λ (v : World). IsRun steps v) (step-behind ups mute w step) h.1))

  module _ (q : ServerNo) (w : World) where
    printed-behind : (prints : List Printed) → IsPrinted q (behind ups w) prints → IsPrinted q w prints
    printed-behind prints p = record { memory = p.memory; up = p.up; prints_are = p.prints_are }

    over-behind : (acts : List Act) → GoesOver q (behind ups w) acts → GoesOver q w acts
    over-behind (Tells t fault ∷ acts) h = over-behind acts h
    over-behind (Shows t prints ∷ []) h = printed-behind prints h
    over-behind (Does step ∷ []) h = sym (step-told step w) ∙ h
    over-behind [] h = absurd h
    over-behind (Shows t prints ∷ act ∷ acts) h = absurd h
    over-behind (Does step ∷ act ∷ acts) h = absurd h
    over-behind (Refuses refusal ∷ acts) h = absurd h

    show-behind : (acts : List Act) → IsShow q (behind ups w) acts → IsShow q w acts
    show-behind (Refuses refusal ∷ []) h = tt
    show-behind (Refuses refusal ∷ act ∷ acts) h = absurd h
    show-behind (Tells t fault ∷ acts) h = over-behind (Tells t fault ∷ acts) h
    show-behind (Shows t prints ∷ acts) h = over-behind (Shows t prints ∷ acts) h
    show-behind (Does step ∷ acts) h = over-behind (Does step ∷ acts) h
    show-behind [] h = absurd h

  pub shown-behind : (event : Event) (acts : List Act) (w : World) → IsShown event (behind ups w) acts → IsShown event w acts
  shown-behind (events.Show s) acts w h = show-behind s w acts h
  shown-behind event acts w h = tt
