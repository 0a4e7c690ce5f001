-- What a settle of a run leaves where all servers are up as it ends.
use Rattle.jn_at_rest.proofs.Common.{◌≡◌, ◌⊎◌, inl, inr, ℕ, ◌+◌, ◌≤◌, ◌<◌, true, false, List, [], ◌∷◌, ◌++◌, append_assoc, length, drop, None, refl, sym, ◌∙◌, ap, subst, arith, list_any, ServerNo, AllFiles, Text, World, servers_from, commits_in, Course, go_on, Befalling, clients_from, ask_again, until_rest, settled, NothingGoes, AreUp, AreAnswered, AreForgotten, AreDecided, EndsWait, IsSettled, LeavesBetween, own_texts, tells_waiting, tells_outcome, holds_undecided, live_at, chances_of, asked, reached, Setup, Task, Rests, CutShort, asking, settling, rubbish_on, Steps, Moment, behind, DoesEarlier}
use Rattle.jn_system_settling.proofs.AtRest.Decided.{settle-settles}
use Rattle.jn_at_rest.proofs.Lined.{IsLined, on-lined}
use Rattle.jn_at_rest.proofs.Downs.{downs, downs-mute}
use Rattle.jn_at_rest.proofs.Held.{Held}
use Rattle.jn_at_rest.proofs.Going.{a_rest, all-both, up-before, not-cut, Splits, splits}
use Rattle.jn_at_rest.proofs.Resting.{Rested, rests}
use Rattle.jn_at_rest.proofs.Asking.{asking-in, asks}

-- ---- with lines before

module _ (texts : List Text) where
  drop-behind : (front : List Text) (before now : List Text) → drop (length (front ++ before)) (front ++ now) ≡ drop (length before) now
  drop-behind [] before now = refl
  drop-behind (t ∷ front) before now = drop-behind front before now

  same-told : (before now : World) → own_texts (behind texts before) (behind texts now) ≡ own_texts before now
  same-told before now = drop-behind texts before.lines now.lines

  decided-behind : (n : ℕ) (before now : World) → AreDecided n (behind texts before) (behind texts now) → AreDecided n before now
  decided-behind n before now h W w near live = by (h W w near live)
    where
      by : (holds_undecided (now.memory w.tid.server) w.tid ≡ true) ⊎ ((list_any (tells_outcome w.tid) (own_texts (behind texts before) (behind texts now)) ≡ true) ⊎ (live_at before W ≡ None))
          → (holds_undecided (now.memory w.tid.server) w.tid ≡ true) ⊎ ((list_any (tells_outcome w.tid) (own_texts before now) ≡ true) ⊎ (live_at before W ≡ None))
      by (inl e) = inl e
      by (inr (inl e)) = inr (inl (ap (list_any (tells_outcome w.tid)) (sym (same-told before now)) ∙ e))
      by (inr (inr e)) = inr (inr e)

  ends-behind : (before now : World) → EndsWait (behind texts before) (behind texts now) → EndsWait before now
  ends-behind before now h c o low high is = ap (list_any (tells_waiting c o.event)) (sym (same-told before now)) ∙ h c o low high is

  pub settled-lined : (n : ℕ) (a b c d : Course) → IsLined texts a c → IsLined texts b d → IsSettled n c d → IsSettled n a b
  settled-lined n a b c d h k s = record {
    waits = sym k.waiting ∙ s.waits;
    goes = both.0;
    answers = both.1;
    ends = both.2;
    flags = both.3;
    works = both.4;
  }
    where
      All : World → World → Type 0
      All v w = NothingGoes n w × AreAnswered w × EndsWait v w × AreForgotten n w × AreDecided n v w

      at-c : All (behind texts a.world) (behind texts b.world)
      at-c = subst (λ (w : World). All (behind texts a.world) w) k.world (subst (λ (v : World). All v d.world) h.world (s.goes, s.answers, s.ends, s.flags, s.works))

      both : All a.world b.world
      both = (at-c.0, at-c.1, ends-behind a.world b.world at-c.2, at-c.3, decided-behind n a.world b.world at-c.4)

-- ---- the settle

module _ (x : Setup) (few : x.servers ≤ 8) (files : AllFiles) (epochs : ServerNo → ℕ) (rest : List Task) (a b : Moment) (held : Held x few files epochs a.state.course)
    (begins : a.state.tasks ≡ settling x ++ rest) (steps : Steps Moment (DoesEarlier x rest) a b) (ends : b.state.tasks ≡ rest) (whole : b.state.stage ≡ CutShort → ⊥) (up : AreUp x.servers b.state.course.world) where
  abbrev last_rest : List Task
  last_rest = Rests ∷ []

  abbrev texts : List Text
  texts = downs 0 x.servers

  mute : commits_in (downs 0 x.servers) ≡ []
  mute = downs-mute 0 x.servers

  one : Splits x (asking x ++ Rests ∷ []) rest a b
  one = splits x (asking x ++ last_rest) rest (Rests ∷ []) a b begins steps ends whole

  one-tasks : one.last.state.tasks ≡ asking x ++ (last_rest ++ rest)
  one-tasks = one.tasks ∙ append_assoc (asking x) last_rest rest

  two : Splits x (Rests ∷ []) rest one.last b
  two = splits x last_rest rest (asking x) one.last b one-tasks one.second ends whole

  up-one : AreUp x.servers one.last.state.course.world
  up-one = up-before x rest (asking x ++ last_rest) one.last b one.tasks (all-both (asking x) last_rest (asking-in x) (a_rest, tt)) one.second up

  first-rest : Rested x texts mute held.twin one.last
  first-rest = rests x texts mute held.twin ((asking x ++ last_rest) ++ rest) a one.last one.first up-one one.tasks (not-cut x rest one.last b one.second whole) begins held.lined

  abbrev middle : Course
  middle = asked x.servers (go_on first-rest.these held.twin)

  at-middle : IsLined texts two.last.state.course (asked x.servers (go_on first-rest.these held.twin))
  at-middle = subst (λ (k : Course). IsLined texts k middle) (sym (asks x (last_rest ++ rest) one.last two.last two.first two.tasks (not-cut x rest two.last b two.second whole) one-tasks))
      (on-lined texts mute (ask_again (clients_from 1 8) (servers_from 0 x.servers)) one.last.state.course (go_on first-rest.these held.twin) first-rest.lined)

  second-rest : Rested x texts mute (asked x.servers (go_on first-rest.these held.twin)) b
  second-rest = rests x texts mute middle rest two.last b two.second up ends whole two.tasks at-middle

  abbrev first : ℕ → Befalling
  first = chances_of (servers_from 0 x.servers) first-rest.these held.twin first-rest.comes.next

  abbrev second : ℕ → Befalling
  second = chances_of (servers_from 0 x.servers) second-rest.these (asked x.servers (go_on first-rest.these held.twin)) second-rest.comes.next

  leaves : LeavesBetween x.servers first second held.twin (IsSettled x.servers)
  leaves = settle-settles x.servers few files epochs first second held.twin held.good

  abbrev enough : ℕ
  enough = leaves.steps + (length first-rest.these + length second-rest.these)

  is-settle : settled x.servers (record { first = first; second = second; steps = enough }) held.twin ≡ go_on second-rest.these middle
  is-settle = ap (λ (k : Course). until_rest (servers_from 0 x.servers) second enough (asked x.servers k)) (reached (servers_from 0 x.servers) first-rest.these held.twin first-rest.comes enough (omega arith))
      ∙ reached (servers_from 0 x.servers) second-rest.these middle second-rest.comes enough (omega arith)

  up-then : AreUp x.servers (go_on second-rest.these middle).world
  up-then = subst (λ (w : World). AreUp x.servers w) (sym second-rest.lined.world) up

  settled-there : IsSettled x.servers held.twin (go_on second-rest.these middle)
  settled-there = subst (λ (k : Course). IsSettled x.servers held.twin k) is-settle
      (leaves.each enough (omega arith) (subst (λ (k : Course). AreUp x.servers k.world) (sym is-settle) up-then))

  pub is-settled : IsSettled x.servers a.state.course b.state.course
  is-settled = settled-lined texts x.servers a.state.course b.state.course held.twin (go_on second-rest.these middle) held.lined second-rest.lined settled-there

  pub no-rubbish : (q : ServerNo) → q.0 < x.servers → rubbish_on x b.devices q ≡ false
  no-rubbish = second-rest.rubbish
