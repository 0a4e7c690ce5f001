-- A run in which a server is stopped within the first of the two puts of a cut, and one in which it is stopped while it puts a flag.
use Rattle.std.specs.Prelude.{◌≡◌, ℕ, Bool, true, false, ◌&&◌, ◌||◌, nat_eq, nat_lt, nat_le, if◌then◌else◌, List, [], ◌∷◌, ◌++◌, Option, Some, None}
use Rattle.jn_base.specs.declared.names.BlockNo.{BlockNo}
use Rattle.jn_base.specs.declared.names.LockUnit.{LockUnit}
use Rattle.jn_base.specs.declared.names.LockUnit.TheVariants.{File, Block}
use Rattle.jn_base.specs.declared.op.Op.TheVariants as ops
use Rattle.jn_base.specs.declared.op.Command.TheVariants.{Begin, Open, Do, End}
use Rattle.jn_base.specs.Names.{file_eq, request_of}
use Rattle.jn_order.specs.Files.{AllFiles, there, zeros}
use Rattle.jn_records.specs.declared.flag.Flag.{Flag}
use Rattle.jn_records.specs.declared.intention.Intention.{Intention}
use Rattle.jn_records.specs.declared.intention.What.TheVariants.{Cut}
use Rattle.jn_records.specs.MapPlaces.{MapPlaces, is_in_range}
use Rattle.jn_rows.specs.Stable.{StableState, Pick, Left, Change, CarryOut, AddFlag, stable, whole_only}
use Rattle.jn_system.specs.WholeSystem.World.{World, opening}
use Rattle.jn_system.specs.WholeSystem.Servers.{Room}
use Rattle.jn_system.specs.WholeSystem.Steps.{Step, NextEvent, Tell, Deliver, Work, StopDelivery, StopWork, Restart, after, run}
use Rattle.jn_system.specs.WholeSystem.Example.{the_server, the_client, the_file, the_transaction, the_work, much}

-- The file has two map pages: one names blocks 140 and 160, the next one block 250.
abbrev pub is_stored : ℕ → Bool
is_stored p = nat_eq p 140 || (nat_eq p 160 || nat_eq p 250)

abbrev pub mapped_files : AllFiles
mapped_files s (File f) = if file_eq the_file f then Some there else None
mapped_files s (Block f p) = if file_eq the_file f && is_stored p.0 then Some zeros else None

abbrev pub its_maps : MapPlaces
its_maps f j = file_eq the_file f && nat_lt j 2

abbrev pub room : Room
room = record much { maps = its_maps }

abbrev pub at : ℕ → LockUnit
at p = Block the_file (record { 0 = p })

-- what is found of these blocks
abbrev pub blocks_of : StableState → List (Option (List ℕ))
blocks_of x = x.files (at 140) ∷ x.files (at 160) ∷ x.files (at 250) ∷ []

-- a transaction cuts the file at block 150, which falls inside of its first map page, and its work is asked to prepare
abbrev pub to_the_flag : List Step
to_the_flag =
    NextEvent ∷ Tell the_client (Begin the_server) ∷ Deliver 0 room ∷ Deliver 1 room
    ∷ NextEvent ∷ Tell the_client (Open the_server) ∷ Deliver 2 room ∷ Deliver 3 room
    ∷ NextEvent ∷ Tell the_client (Do the_server (ops.Cut the_file (record { 0 = 150 }))) ∷ Deliver 4 room ∷ Deliver 5 room
    ∷ NextEvent ∷ Tell the_client End ∷ Deliver 6 room ∷ Deliver 7 room
    ∷ []

-- it commits, and its work goes on
abbrev pub to_the_cut : List Step
to_the_cut = to_the_flag ++ (Deliver 8 room ∷ Deliver 9 room ∷ [])

abbrev pub start : World
start = opening 1 mapped_files (λ s. 0)

-- what is found at the server before a stop, by each pick
abbrev pub before : List Step → StableState
before steps = stable ((run steps start).found the_server)

-- what this pick finds there behind the stop
abbrev pub behind : List Step → Step → Pick → StableState
behind steps stop c = (after stop (run steps start)).found the_server c

-- ---- a stop within the first put of the cut

abbrev pub the_cut : Intention
the_cut = record { what = Cut; file = the_file; block = record { 0 = 150 }; bytes = zeros }

abbrev pub its_changes : List Change
its_changes = CarryOut the_work the_cut ∷ []

-- The first half of the first map page is put, without the blocks from 150 on, and the head isn't. Those who read this half, that of page 20, find
-- these blocks gone.
abbrev pub a_part : Pick → Left
a_part c = if c 20 then record { whole = 0; gone = Some (λ (p : BlockNo). is_in_range 0 p.0 && nat_le 150 p.0) } else whole_only 0

abbrev pub stopped_in_part : Step
stopped_in_part = StopWork the_server room a_part

abbrev pub first_halves : Pick
first_halves n = true

-- the restart finds the work, and carries the cut out once more
abbrev pub to_the_end : List Step
to_the_end = Restart the_server first_halves (the_work ∷ []) (the_transaction ∷ []) ∷ Work the_server room ∷ Work the_server room ∷ []

abbrev pub all_steps : List Step
all_steps = to_the_cut ++ (stopped_in_part ∷ to_the_end)

-- ---- a stop while the flag is put

abbrev pub the_flag : Flag
the_flag = record { tid = the_transaction; client = the_client; request = request_of 4; works = the_work ∷ [] }

abbrev pub flag_changes : List Change
flag_changes = AddFlag the_flag ∷ []

abbrev pub stopped_at_the_flag : Step
stopped_at_the_flag = StopDelivery 8 room (λ c. if c 3 then whole_only 1 else whole_only 0)
