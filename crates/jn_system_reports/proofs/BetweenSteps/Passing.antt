-- A client that is told that a named transaction isn't known is past it.
use Rattle.jn_system_reports.proofs.Common.{◌≡◌, ◌⊎◌, inl, inr, ℕ, zero, suc, true, List, [], ◌∷◌, Some, None, ◌∙◌, ap, slice_get, ServerNo, ClientNo, Tid, Party, AllFiles, Sent, run_atoms, opening_world, not_both, World, Step, after, run, IsRun, Opening, opening_in, openings, Has, has-either, WasSent, HasCommitLine, IsPast}
use Rattle.jn_msgs.specs.declared.message.Message.TheVariants as messages
use Rattle.jn_msgs.specs.declared.message.Outcome.TheVariants as outcomes
use Rattle.jn_system.specs.WholeSystem.World.{opening as start}
use Rattle.jn_system_order.proofs.Ordering.Facts.{opening}
use Rattle.jn_system_reports.proofs.Reporting.Lists.{each-in, get-in}
use Rattle.jn_system_reports.proofs.Reporting.Known as known
use Rattle.jn_system_reports.proofs.Reporting.Past.{Past, SaysPast}
use Rattle.jn_system_reports.proofs.Reporting.Reached.{Reached, Free, named-is, invariant, next-reached, opening-reached}

-- ---- every run

reach : (files : AllFiles) (epochs : ServerNo → ℕ) (steps : List Step) (r : World) → Reached files epochs r → IsRun steps r → Reached files epochs (run steps r)
reach files epochs [] r h i = h
reach files epochs (step ∷ steps) r h i = reach files epochs steps (after step r) (next-reached files epochs r step i.0 h) i.1

pub reached : (servers : ℕ) (files : AllFiles) (epochs : ServerNo → ℕ) (steps : List Step) → IsRun steps (start servers files epochs) → Reached files epochs (run steps (start servers files epochs))
reached servers files epochs steps i = reach files epochs steps (start servers files epochs) (opening-reached files epochs servers) i

-- ---- the message of a beginning

abbrev IsAt : List Sent → Opening → Type 0
IsAt sent a = (to : Party) × (k : ℕ) × (slice_get sent k ≡ Some (to, messages.Begun a.client a.request (Some a.tid)))

first-at : (x : Sent) (sent : List Sent) (a : Opening) → Has a (opening_in x) → IsAt (x ∷ sent) a
first-at (to, messages.Begun c q (Some T)) sent a (inl e) = (to, zero, ap (λ (o : Opening). Some (to, messages.Begun o.client o.request (Some o.tid))) e)
first-at (to, messages.Begun c q (Some T)) sent a (inr k) = absurd k
first-at (to, messages.Begun c q None) sent a k = absurd k
first-at (to, _) sent a k = absurd k

sent-at : (sent : List Sent) (a : Opening) → Has a (openings sent) → IsAt sent a
sent-at [] a h = absurd h
sent-at (x ∷ sent) a h = by (has-either a (opening_in x) (openings sent) h) (sent-at sent a)
  where
    by : Has a (opening_in x) ⊎ Has a (openings sent) → (Has a (openings sent) → IsAt sent a) → IsAt (x ∷ sent) a
    by (inl k) on = first-at x sent a k
    by (inr k) on = let s = on k in (s.0, suc s.1, s.2)

module _ (files : AllFiles) (epochs : ServerNo → ℕ) (r : World) (h : Reached files epochs r) where
  past-is : (c : ClientNo) (T : Tid) → known.IsPast (openings r.sent) c (r.clients c) T → IsPast r c T
  past-is c T p = let s = sent-at r.sent (opening c p.request T) p.has in record { request = p.request; began = record { to = s.0; number = s.1; is = s.2 }; drawn = p.drawn; answered = p.answered; over = p.over }

  pub unknown : (c : ClientNo) (T : Tid) (s : ServerNo) (epoch : ℕ) → HasCommitLine r T → WasSent r (messages.Outcome c T (outcomes.NotKnown s epoch)) → IsPast r c T
  unknown c T s epoch named sent = by (each-in (SaysPast (openings r.sent) r.clients (run_atoms h.atoms (opening_world files epochs)) Free) r.sent (sent.to, messages.Outcome c T (outcomes.NotKnown s epoch)) h.past.says (get-in r.sent sent.number _ sent.is))
    where
      by : Past (openings r.sent) r.clients (run_atoms h.atoms (opening_world files epochs)) Free c T ⊎ (((run_atoms h.atoms (opening_world files epochs)).aborted T ≡ true) × Unit {0}) → IsPast r c T
      by (inl p) = past-is c T p
      by (inr p) = absurd (not_both ((run_atoms h.atoms (opening_world files epochs)).named T) (named-is files epochs r h T ∙ named) ((invariant files epochs r h).core.aborted T p.0).not_named)
