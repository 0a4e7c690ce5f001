-- An end that was done whole is an ending of the whole system, which settles until nothing is left to do.
use Rattle.jn_headline.proofs.Common.{◌≡◌, ℕ, ◌+◌, ◌<◌, ◌≤◌, true, List, [], ◌∷◌, ◌++◌, append_assoc, append-nil, length, Some, None, is_some, refl, sym, ◌∙◌, ap, subst, arith, map, list_all, ServerNo, ClientNo, LockUnit, AllFiles, Text, Line, commit_holder, plain, World, Memory, opening, servers_from, Printed, Step, Again, Nudge, Dismiss, run, IsRun, Course, go, go_on, settled, until_rest, ask_again, on-world, AreUp, IsEmpty, ComeToRest, chances_of, asked, reached, Item, Does, told_by, world_of, lines_of, IsReported, Ending, settles, world_at_end, ArePrinted, told_by_steps, texts_from, at_end, counted, IsWholeRun, all_lines, IsSettledEnd, Moment}
use Rattle.jn_headline.proofs.WholeReports.Whole.{printed-up, empty-where-up}
use Rattle.jn_headline.proofs.Came.{all-append, on-append, drop-all}
use Rattle.jn_headline.proofs.Parts.{Part}
use Rattle.jn_headline.proofs.Through.{clients, opening_steps, asked_steps, Whole}

steps-of : (steps : List Step) (c : Course) → (go_on steps c).steps ≡ c.steps ++ steps
steps-of [] c = sym (append-nil c.steps)
steps-of (step ∷ steps) c = steps-of steps (go step c) ∙ append_assoc c.steps (step ∷ []) steps

-- ---- the ending

-- where nothing of the end but the dismissal was done, and no message waits
abbrev pub dismissed : World → Course
dismissed w = go Dismiss (record { world = w; waiting = []; steps = [] })

-- where the end that follows these items is cut off, and where it was done whole
abbrev pub PartOf : ℕ → AllFiles → (ServerNo → ℕ) → List Item → Moment → Type 0
PartOf servers files epochs items now = Part (dismissed (world_of items (opening servers files epochs))) (lines_of items (opening servers files epochs)) now

abbrev pub WholeOf : ℕ → AllFiles → (ServerNo → ℕ) → List Item → Moment → Type 0
WholeOf servers files epochs items now = Whole servers (dismissed (world_of items (opening servers files epochs))) (lines_of items (opening servers files epochs)) now

pub dismissal-untold : (w : World) → told_by (Does Dismiss) w ≡ []
dismissal-untold w = drop-all w.lines

module _ (servers : ℕ) (few : servers ≤ 8) (files : AllFiles) (epochs : ServerNo → ℕ) (items : List Item) (reported : IsReported items (opening servers files epochs)) where
  abbrev done_world : World
  done_world = world_of items (opening servers files epochs)

  abbrev begin : Course
  begin = dismissed (world_of items (opening servers files epochs))

  abbrev done_lines : List Line
  done_lines = lines_of items (opening servers files epochs)

  module _ (now : Moment) (whole : WholeOf servers files epochs items now) where
    abbrev opens : List Step
    opens = opening_steps servers whole.backs

    abbrev asks : List Step
    asks = ask_again clients (servers_from 0 servers)

    abbrev every : List Step
    every = asked_steps servers whole.backs whole.one ++ whole.two

    abbrev settling : List Step
    settling = whole.one ++ asks ++ whole.two

    abbrev with_prints : List (List Printed) → Ending
    with_prints prints = record { comebacks = whole.backs; settling = settling; prints = prints }

    steps-are : every ≡ opens ++ settling
    steps-are = ap (λ (ss : List Step). ss ++ whole.two) (append_assoc (opens ++ whole.one) (map (λ (c : ClientNo). Again c) clients) (map (λ (s : ServerNo). Nudge s) (servers_from 0 servers)) ∙ append_assoc opens whole.one asks)
        ∙ append_assoc opens (whole.one ++ asks) whole.two

    asked-are : asked_steps servers whole.backs whole.one ≡ opens ++ (whole.one ++ asks)
    asked-are = append_assoc (opens ++ whole.one) (map (λ (c : ClientNo). Again c) clients) (map (λ (s : ServerNo). Nudge s) (servers_from 0 servers)) ∙ append_assoc opens whole.one asks

    may : IsRun (Dismiss ∷ (opens ++ settling)) done_world
    may = (tt, subst (λ (ss : List Step). IsRun ss begin.world) steps-are whole.is_run)

    -- ---- it settles

    abbrev here : Course
    here = go_on opens begin

    asked-at : go_on (asked_steps servers whole.backs whole.one) begin ≡ asked servers (go_on whole.one here)
    asked-at = ap (λ (ss : List Step). go_on ss begin) asked-are ∙ on-append opens (whole.one ++ asks) begin ∙ on-append whole.one asks here

    second-rest : ComeToRest (servers_from 0 servers) whole.two (asked servers (go_on whole.one here))
    second-rest = subst (λ (c : Course). ComeToRest (servers_from 0 servers) whole.two c) asked-at whole.second

    settles-so : (prints : List (List Printed)) → IsSettledEnd servers (with_prints prints) done_world
    settles-so prints = record {
      first = chances_of (servers_from 0 servers) whole.one here whole.first.next;
      second = chances_of (servers_from 0 servers) whole.two (asked servers (go_on whole.one here)) second-rest.next;
      enough = length whole.one + length whole.two;
      each = λ n l. ap (λ (ss : List Step). (settled servers (record { first = chances_of (servers_from 0 servers) whole.one here whole.first.next; second = chances_of (servers_from 0 servers) whole.two (asked servers (go_on whole.one here)) second-rest.next; steps = n }) (go_on ss begin)).steps) (append-nil opens)
          ∙ ap (λ (c : Course). (until_rest (servers_from 0 servers) (chances_of (servers_from 0 servers) whole.two (asked servers (go_on whole.one here)) second-rest.next) n (asked servers c)).steps) (reached (servers_from 0 servers) whole.one here whole.first n (left n l))
          ∙ ap (λ (c : Course). c.steps) (reached (servers_from 0 servers) whole.two (asked servers (go_on whole.one here)) second-rest n (right n l))
          ∙ ap (λ (c : Course). (go_on whole.two c).steps) (sym asked-at) ∙ ap (λ (c : Course). c.steps) (sym (on-append (asked_steps servers whole.backs whole.one) whole.two begin))
          ∙ steps-of every begin ∙ ap (λ (ss : List Step). Dismiss ∷ ss) steps-are;
    }
      where
        left : (n : ℕ) → length whole.one + length whole.two ≤ n → length whole.one ≤ n
        left n l = omega (arith, l)

        right : (n : ℕ) → length whole.one + length whole.two ≤ n → length whole.two ≤ n
        right n l = omega (arith, l)

    -- ---- what it prints

    pub world-is : (prints : List (List Printed)) → world_at_end servers (with_prints prints) done_world ≡ (go_on every begin).world
    world-is prints = sym (on-world every begin ∙ ap (λ (ss : List Step). run ss begin.world) steps-are)

    pub up : AreUp servers (world_at_end servers (with_prints []) done_world)
    up s l = subst (λ (w : World). is_some (w.memory s) ≡ true) (sym (world-is [])) (printed-up 0 (go_on every begin).world whole.prints whole.are_printed s (least s.0) (below s.0 (length whole.prints) l whole.print_count))
      where
        least : (a : ℕ) → 0 ≤ a
        least a = omega arith

        below : (a n : ℕ) → a < servers → n ≡ servers → a < 0 + n
        below a n h e = omega (arith, h, e)

    pub empty : (s : ServerNo) (m : Memory) → (go_on every begin).world.memory s ≡ Some m → IsEmpty m ((go_on every begin).world.found s)
    empty s m e = subst (λ (w : World). IsEmpty m (w.found s)) (world-is []) (empty-where-up servers few files epochs items (with_prints []) reported may whole.back_count (settles-so []) up s m (ap (λ (w : World). w.memory s) (world-is []) ∙ e))

    pub free : (s : ServerNo) (m : Memory) (u : LockUnit) → (go_on every begin).world.memory s ≡ Some m → commit_holder u m.worker ≡ None
    free s m u e = ap (commit_holder u) (let it = empty s m e in it.works)

    abbrev pub ending : Ending
    ending = with_prints whole.prints

    settling-settles : list_all settles settling ≡ true
    settling-settles = all-append settles (whole.one ++ asks) whole.two (all-append settles whole.one asks whole.one_settles (all-append settles (map (λ (c : ClientNo). Again c) clients) (map (λ (s : ServerNo). Nudge s) (servers_from 0 servers)) refl (nudges (servers_from 0 servers)))) whole.two_settles
      where
        nudges : (ss : List ServerNo) → list_all settles (map (λ (s : ServerNo). Nudge s) ss) ≡ true
        nudges [] = refl
        nudges (s ∷ ss) = nudges ss

    pub is-whole : IsWholeRun servers files epochs items ending
    is-whole = record {
      reported = reported;
      ending = record {
        steps = may;
        all_up = whole.back_count;
        settling = settling-settles;
        all_print = whole.print_count;
        prints = subst (λ (w : World). ArePrinted 0 w whole.prints) (sym (world-is whole.prints)) whole.are_printed;
      };
    }

    pub is-settled : IsSettledEnd servers ending done_world
    is-settled = settles-so whole.prints

    pub lines-are : plain now.state.lines ≡ plain (all_lines servers files epochs items ending)
    lines-are = whole.lines ∙ ap (λ (ts : List Text). plain (counted (done_lines ++ at_end ts))) texts
      where
        texts : told_by_steps every begin.world ++ texts_from 0 whole.prints ≡ told_by_steps (Dismiss ∷ (opens ++ settling)) done_world ++ texts_from 0 whole.prints
        texts = ap (λ (ss : List Step). told_by_steps ss begin.world ++ texts_from 0 whole.prints) steps-are
            ∙ ap (λ (ts : List Text). ts ++ told_by_steps (opens ++ settling) begin.world ++ texts_from 0 whole.prints) (sym (dismissal-untold done_world))
