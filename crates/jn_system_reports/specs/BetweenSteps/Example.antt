-- A run in which a transaction is in doubt.
use Rattle.std.specs.Prelude.{if◌then◌else◌, List, [], ◌∷◌, ◌++◌}
use Rattle.jn_system.specs.WholeSystem.Steps.{Step, StopDelivery}
use Rattle.jn_system.specs.WholeSystem.Example.{much, to_the_vote}
use Rattle.jn_rows.specs.Stable.{whole_only}

-- the server stops while it puts the flag, which is found by the picks that read the first half of page 3
abbrev pub to_the_stop : List Step
to_the_stop = to_the_vote ++ StopDelivery 8 much (λ c. if c 3 then whole_only 1 else whole_only 0) ∷ []
