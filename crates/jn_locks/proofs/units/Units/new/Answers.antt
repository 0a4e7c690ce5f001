use Rattle.jn_locks.proofs.Common.{ℕ, List, Option, ap, Vec, Holder, unit_place, place_eq, holders_in}
use Rattle.std.specs.Map.{lookup}
use Rattle.jn_locks.proofs.units.Units.new.Goals as goal

pub returns : goal.returns
returns c =
    λ u. ap (λ (es : List ((ℕ × Option ℕ) × Vec Holder)). holders_in (lookup (place_eq (unit_place u)) es)) c.new.ensures.empty
