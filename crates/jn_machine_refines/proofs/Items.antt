-- A run that goes on by one event.
use Rattle.jn_machine_refines.proofs.Common.{◌≡◌, ℕ, suc, ◌+◌, List, [], ◌∷◌, ◌++◌, append-nil, append_assoc, length, refl, sym, ◌∙◌, ap, subst, arith, Line, Text, Event, World, Step, NextEvent, IsRun, run, after, Item, Act, Waiting, IsReported, IsUnder, AreUnder, IsShown, AreShown, AreStruck, FaultsWait, events_of, step_of, steps_of, steps_in, world_of, after_item, waiting_in, strikes, strike_all, told_by, told_in, told_under, at_event, lines_of, none_wait}

-- what waits after these items
abbrev pub waits_after : Waiting → List Item → World → Waiting
waits_after x [] w = x
waits_after x (item ∷ items) w = waits_after (strike_all (told_under item w) (waiting_in x item w)) items (after_item item w)

abbrev pub one_more : List Item → Item → List Item
one_more items item = items ++ item ∷ []

pub run-both : (a b : List Step) (w : World) → run (a ++ b) w ≡ run b (run a w)
run-both [] b w = refl
run-both (step ∷ a) b w = run-both a b (after step w)

pub is-run-both : (a b : List Step) (w : World) → IsRun a w → IsRun b (run a w) → IsRun (a ++ b) w
is-run-both [] b w h k = k
is-run-both (step ∷ a) b w h k = (h.0, is-run-both a b (after step w) h.1 k)

world-next : (item : Item) (items : List Item) (w : World) → world_of (item ∷ items) w ≡ world_of items (after_item item w)
world-next item items w = run-both (steps_in item.acts) (steps_of items) (after NextEvent w)

under-more : (items : List Item) (item : Item) → AreUnder items → IsUnder item.event item.acts → AreUnder (one_more items item)
under-more [] item h k = (k, tt)
under-more (i ∷ items) item h k = (h.0, under-more items item h.1 k)

steps-more : (items : List Item) (item : Item) → steps_of (one_more items item) ≡ steps_of items ++ NextEvent ∷ steps_in item.acts
steps-more [] item = ap (λ (l : List Step). NextEvent ∷ l) (append-nil (steps_in item.acts))
steps-more (i ∷ items) item = ap (λ (l : List Step). NextEvent ∷ steps_in i.acts ++ l) (steps-more items item) ∙ ap (λ (l : List Step). NextEvent ∷ l) (sym (append_assoc (steps_in i.acts) (steps_of items) (NextEvent ∷ steps_in item.acts)))

shown-more : (items : List Item) (item : Item) (w : World) → AreShown items w → IsShown item.event (after NextEvent (world_of items w)) item.acts → AreShown (one_more items item) w
shown-more [] item w h k = (k, tt)
shown-more (i ∷ items) item w h k = (h.0, shown-more items item (after_item i w) h.1 (subst (λ z. IsShown item.event (after NextEvent z) item.acts) (world-next i items w) k))

faults-more : (x : Waiting) (items : List Item) (item : Item) (w : World) → FaultsWait x items w
    → AreStruck (waiting_in (waits_after x items w) item (world_of items w)) (told_under item (world_of items w)) → FaultsWait x (one_more items item) w
faults-more x [] item w h k = (k, tt)
faults-more x (i ∷ items) item w h k = (
  h.0,
  faults-more (strike_all (told_under i w) (waiting_in x i w)) items item (after_item i w) h.1
      (subst (λ z. AreStruck (waiting_in (waits_after x (i ∷ items) w) item z) (told_under item z)) (world-next i items w) k),
)

-- what is done under one more event, behind these items
pub record IsNext (items : List Item) (item : Item) (w : World) : Type 0 where
  pub under : IsUnder item.event item.acts
  pub steps : IsRun (steps_in item.acts) (after NextEvent (world_of items w))
  pub shown : IsShown item.event (after NextEvent (world_of items w)) item.acts
  pub struck : AreStruck (waiting_in (waits_after none_wait items w) item (world_of items w)) (told_under item (world_of items w))

pub reported-more : (items : List Item) (item : Item) (w : World) → IsReported items w → IsNext items item w → IsReported (one_more items item) w
reported-more items item w h n = record {
  under = under-more items item h.under n.under;
  steps = subst (λ l. IsRun l w) (sym (steps-more items item)) (is-run-both (steps_of items) (NextEvent ∷ steps_in item.acts) w h.steps (tt, n.steps));
  shows = shown-more items item w h.shows n.shown;
  faults = faults-more none_wait items item w h.faults n.struck;
}

-- ---- what one more item adds

pub world-more : (items : List Item) (item : Item) (w : World) → world_of (one_more items item) w ≡ after_item item (world_of items w)
world-more items item w = ap (λ (l : List Step). run l w) (steps-more items item) ∙ run-both (steps_of items) (NextEvent ∷ steps_in item.acts) w

pub waits-more : (x : Waiting) (items : List Item) (item : Item) (w : World)
    → waits_after x (one_more items item) w ≡ strike_all (told_under item (world_of items w)) (waiting_in (waits_after x items w) item (world_of items w))
waits-more x [] item w = refl
waits-more x (i ∷ items) item w = waits-more (strike_all (told_under i w) (waiting_in x i w)) items item (after_item i w)
    ∙ ap (λ (z : World). strike_all (told_under item z) (waiting_in (waits_after x (i ∷ items) w) item z)) (sym (world-next i items w))

pub events-more : (items : List Item) (item : Item) → events_of (one_more items item) ≡ events_of items ++ item.event ∷ []
events-more [] item = refl
events-more (i ∷ items) item = ap (λ (es : List Event). i.event ∷ es) (events-more items item)

pub lines-more : (items : List Item) (item : Item) (w : World) → lines_of (one_more items item) w ≡ lines_of items w ++ at_event ((world_of items w).event + 1) (told_under item (world_of items w))
lines-more [] item w = append-nil (at_event (w.event + 1) (told_under item w))
lines-more (i ∷ items) item w = ap (λ (ls : List Line). at_event (w.event + 1) (told_under i w) ++ ls) (lines-more items item (after_item i w))
    ∙ sym (append_assoc (at_event (w.event + 1) (told_under i w)) (lines_of items (after_item i w)) _)
    ∙ ap (λ (z : World). lines_of (i ∷ items) w ++ at_event (z.event + 1) (told_under item z)) (sym (world-next i items w))

pub length-more : (items : List Item) (item : Item) → length (one_more items item) ≡ length items + 1
length-more [] item = refl
length-more (i ∷ items) item = next _ _ (length-more items item)
  where
    next : (a b : ℕ) → a ≡ b + 1 → suc a ≡ suc b + 1
    next a b e = omega (arith, e)

-- ---- acts that are joined

pub steps-join : (a b : List Act) → steps_in (a ++ b) ≡ steps_in a ++ steps_in b
steps-join [] b = refl
steps-join (act ∷ a) b = ap (λ (l : List Step). step_of act ++ l) (steps-join a b) ∙ sym (append_assoc (step_of act) (steps_in a) (steps_in b))

pub told-join : (a b : List Act) (w : World) → told_in (a ++ b) w ≡ told_in a w ++ told_in b (run (steps_in a) w)
told-join [] b w = refl
told-join (act ∷ a) b w = ap (λ (ls : List Text). told_by act w ++ ls) (told-join a b (run (step_of act) w))
    ∙ sym (append_assoc (told_by act w) (told_in a (run (step_of act) w)) (told_in b (run (steps_in a) (run (step_of act) w))))
    ∙ ap (λ (z : World). (told_by act w ++ told_in a (run (step_of act) w)) ++ told_in b z) (sym (run-both (step_of act) (steps_in a) w))

pub strike-join : (a b : List Text) (x : Waiting) → strike_all (a ++ b) x ≡ strike_all b (strike_all a x)
strike-join [] b x = refl
strike-join (text ∷ a) b x = strike-join a b (strikes text x)

pub struck-join : (a b : List Text) (x : Waiting) → AreStruck x a → AreStruck (strike_all a x) b → AreStruck x (a ++ b)
struck-join [] b x h k = k
struck-join (text ∷ a) b x h k = (h.0, struck-join a b (strikes text x) h.1 k)
