use Rattle.jn_events.proofs.Common.{ServerNo, DoesTasks, GoesDown, End, AreQuiet, IsWorld, is_up_at, standing_of, ◌≡◌, ◌<◌, ℕ, false, Ok, vec_len}
use Rattle.jn_events.proofs.Calls.{at_servers}
use Rattle.jn_events.proofs.ending.crash_all.Given as goal

abbrev pub invariant-loop-s : goal.invariant-loop-s
invariant-loop-s g l = record {
  world : IsWorld (λ s. g.S.StableStore.view s) l.world;
  down : (i : ℕ) → i < l.s → is_up_at i l.world.places.items ≡ false;
  quiet : AreQuiet (λ s. g.S.StableStore.view s) l.initial.world.places.items → AreQuiet (λ s. g.S.StableStore.view s) l.world.places.items;
  as_many : vec_len l.world.places ≡ vec_len l.initial.world.places;
  clients : l.world.clients ≡ l.initial.world.clients;
  does : DoesTasks {A = ℕ} (λ s. g.S.StableStore.view s) (λ s. g.S.Powered.device s) (at_servers (λ (q : ServerNo). GoesDown q) l.s) End (standing_of l.initial.world) (Ok 0) (standing_of l.world) l.initial.lines.items l.lines.items;
}
