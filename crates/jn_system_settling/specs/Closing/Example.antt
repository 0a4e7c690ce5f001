-- A server is stopped while it commits, and the run ends there.
use Rattle.std.specs.Prelude.{true, if◌then◌else◌, List, [], ◌∷◌, ◌++◌}
use Rattle.jn_base.specs.declared.names.ServerNo.{ServerNo}
use Rattle.jn_order.specs.Files.{no_files}
use Rattle.jn_system.specs.WholeSystem.Steps.{Step, StopDelivery}
use Rattle.jn_system.specs.WholeSystem.Example.{the_transaction, the_work, much, to_the_vote}
use Rattle.jn_system.specs.WholeSystem.Course.{Course, opening_course, go_on}
use Rattle.jn_system.specs.WholeSystem.Settle.{settled}
use Rattle.jn_system_settling.specs.Settling.Rows.{calm, enough}
use Rattle.jn_system_settling.specs.Closing.Ending.{Start, ended}
use Rattle.jn_rows.specs.Stable.{whole_only}

-- the flag is found by the picks that read the first half of page 3
abbrev pub with_a_flag : List Step
with_a_flag = to_the_vote ++ StopDelivery 8 much (λ c. if c 3 then whole_only 1 else whole_only 0) ∷ []

-- the ready work and the flag are found
abbrev pub finds_both : ServerNo → Start
finds_both s = record { narrowed = λ p. p; pick = λ n. true; works = the_work ∷ []; tids = the_transaction ∷ [] }

abbrev pub the_last : Course
the_last = settled 1 (record { first = λ n. calm; second = λ n. calm; steps = enough }) (ended 1 finds_both (go_on with_a_flag (opening_course 1 no_files (λ s. 0))))
