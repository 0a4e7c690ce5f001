-- A run in which a client makes a file at one server and commits, without and with stops.
use Rattle.std.specs.Prelude.{ℕ, true, false, if◌then◌else◌, List, [], ◌∷◌}
use Rattle.jn_records.specs.MapPlaces.{no_maps}
use Rattle.jn_rows.specs.Stable.{whole_only}
use Rattle.jn_base.specs.declared.names.ServerNo.{ServerNo}
use Rattle.jn_base.specs.declared.names.ClientNo.{ClientNo}
use Rattle.jn_base.specs.declared.names.FileNo.{FileNo}
use Rattle.jn_base.specs.declared.names.Tid.{Tid}
use Rattle.jn_base.specs.declared.names.WorkId.{WorkId}
use Rattle.jn_base.specs.declared.op.Op.TheVariants as ops
use Rattle.jn_base.specs.declared.op.Command.TheVariants.{Begin, Open, Do, End}
use Rattle.jn_order.specs.Files.{no_files}
use Rattle.jn_system.specs.WholeSystem.World.{World, opening}
use Rattle.jn_system.specs.WholeSystem.Servers.{Room}
use Rattle.jn_system.specs.WholeSystem.Steps.{Step, NextEvent, Tell, Deliver, Work, StopDelivery, Crash, Restart, Nudge, Dismiss, CloseClients}

abbrev pub the_server : ServerNo
the_server = record { 0 = 0 }

abbrev pub the_client : ClientNo
the_client = record { 0 = 1 }

abbrev pub the_file : FileNo
the_file = record { 0 = 7 }

abbrev pub the_transaction : Tid
the_transaction = record { server = the_server; epoch = 0; ticket = 0 }

abbrev pub the_work : WorkId
the_work = record { server = the_server; epoch = 0; ticket = 1 }

abbrev pub much : Room
much = record { free = record { records = 9; pages = 9; heads = 9 }; maps = no_maps; rubbish = false }

abbrev pub start : World
start = opening 1 no_files (λ s. 0)

abbrev pub delivered : ℕ → Step
delivered k = Deliver k much

-- a file is made, and its work is asked to prepare
abbrev pub to_the_vote : List Step
to_the_vote =
    NextEvent ∷ Tell the_client (Begin the_server) ∷ delivered 0 ∷ delivered 1
    ∷ NextEvent ∷ Tell the_client (Open the_server) ∷ delivered 2 ∷ delivered 3
    ∷ NextEvent ∷ Tell the_client (Do the_server (ops.Create the_file)) ∷ delivered 4 ∷ delivered 5
    ∷ NextEvent ∷ Tell the_client End ∷ delivered 6 ∷ delivered 7
    ∷ []

-- the vote commits, the client is told, and the work is carried out
abbrev pub to_the_end : List Step
to_the_end =
    delivered 8
    ∷ delivered 10
    ∷ delivered 9
    ∷ Work the_server much
    ∷ Work the_server much
    ∷ delivered 12
    ∷ delivered 11
    ∷ []

-- the server stops while it puts the flag, which is found by the picks that read the first half of page 3
abbrev pub with_a_stop : List Step
with_a_stop =
    StopDelivery 8 much (λ c. if c 3 then whole_only 1 else whole_only 0)
    ∷ Restart the_server (λ n. true) (the_work ∷ []) (the_transaction ∷ [])
    ∷ Nudge the_server
    ∷ delivered 10
    ∷ Work the_server much
    ∷ Crash the_server
    ∷ Restart the_server (λ n. true) (the_work ∷ []) (the_transaction ∷ [])
    ∷ Work the_server much
    ∷ Work the_server much
    ∷ []

-- the client is dismissed while it still waits to hear of its commit, and the works that are done are told
abbrev pub the_end : List Step
the_end = Dismiss ∷ CloseClients the_server ∷ delivered 12 ∷ []
