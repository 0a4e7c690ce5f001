-- What the lines report of a transaction at one server.
use Rattle.std.specs.Prelude.{if◌then◌else◌, List, [], ◌∷◌}
use Rattle.jn_base.specs.declared.names.ServerNo.{ServerNo}
use Rattle.jn_base.specs.Names.{server_eq}
use Rattle.jn_replay.specs.declared.files.Performed.{Performed}
use Rattle.jn_order.specs.Answers.{Answered}

-- the operations at one server
abbrev pub at_place : ServerNo → List Performed → List Answered
at_place s [] = []
at_place s (p ∷ ps) = if server_eq p.server s then (record { op = p.op; answer = p.answer }) ∷ at_place s ps else at_place s ps
