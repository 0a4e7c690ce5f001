-- What a transaction lacks at one server on whose pages nothing is stored, and reports of it.
use Rattle.std.specs.Prelude.{◌≡◌, ◌-◌, ℕ, false, nat_lt, if◌then◌else◌, List, [], ◌∷◌, ◌++◌, Option, Some, None}
use Rattle.jn_base.specs.declared.names.Cause.TheVariants.{Full as FullAt}
use Rattle.jn_base.specs.declared.names.Resource.{Resource}
use Rattle.jn_base.specs.declared.op.Command.TheVariants as commands
use Rattle.jn_base.specs.declared.op.Op.TheVariants as ops
use Rattle.jn_base.specs.declared.names.Resource.TheVariants.{Records}
use Rattle.jn_msgs.specs.declared.message.Vote.{Vote}
use Rattle.jn_msgs.specs.declared.message.Vote.TheVariants.{Full}
use Rattle.jn_records.specs.declared.net_list.Need.{Need}
use Rattle.jn_records.specs.MapPlaces.{no_maps}
use Rattle.jn_records.specs.StablePages.{Counts}
use Rattle.jn_rows.specs.Worker.{shortage}
use Rattle.jn_schedule.specs.declared.Event.{Event}
use Rattle.jn_report.specs.declared.line.Line.{Line}
use Rattle.jn_report.specs.declared.line.Text.TheVariants as says
use Rattle.jn_system.specs.WholeSystem.ExampleNames.{s0, c1, tid, file, block}
use Rattle.jn_rows.specs.Coordinator.{promised}
use Rattle.jn_system.specs.WholeSystem.World.{Memory}
use Rattle.jn_machine.specs.Chances.{Setup, Chance, Free, none_free}
use Rattle.jn_machine.specs.Tasks.{Task, Rests, State, next_task}
use Rattle.jn_machine.specs.Devices.{Devices}
use Rattle.jn_machine.specs.Whole.{IsWhole}
use Rattle.jn_machine.specs.Examples.{setup, calm, calm_at, line, at_end, block_of, makes_file, then_settle}
use Rattle.jn_wrong.specs.NewImages.{AreNew}
use Rattle.jn_wrong.specs.Wrong.{a_file_made, the_end}

-- what a transaction lacks first whose one work needs so much: a record for its flag, and then what the work needs of the rest
abbrev pub lacking : Need → Counts → Option Vote
lacking need g = if nat_lt g.pool 1 then Some (Full Records g.pool 1) else shortage (record { records = g.pool - 1; heads = g.heads; pages = g.leaves }) need

-- from new images a whole run of the schedule on one server reports want of this only where it is lacking, with these numbers
abbrev pub IsOnlyOfLacking : Need → List Event → (Resource → ℕ → ℕ → List Line) → Type 0
IsOnlyOfLacking needs schedule report = (x : Setup) (images closing : Devices) (resource : Resource) (free need : ℕ) → x.servers ≡ 1 → x.trace ≡ false → AreNew x images
    → IsWhole x schedule images closing (report resource free need) → lacking needs (x.counts s0) ≡ Some (Full resource free need)

-- and where it is lacking each of them reports exactly this
abbrev pub IsOnlyWhereLacking : Need → List Event → (Resource → ℕ → ℕ → List Line) → Type 0
IsOnlyWhereLacking needs schedule report = (x : Setup) (images closing : Devices) (lines : List Line) (resource : Resource) (free need : ℕ) → x.servers ≡ 1 → x.trace ≡ false → AreNew x images
    → lacking needs (x.counts s0) ≡ Some (Full resource free need) → IsWhole x schedule images closing lines → lines ≡ report resource free need

-- a record for the intention that makes the file, one for the work that is ready, and a head
abbrev pub for_a_file : Need
for_a_file = record { records = 2; heads = 1; pages = 0 }

-- and with a block that is written: one more intention, and the block's data page
abbrev pub for_a_block : Need
for_a_block = record { records = 3; heads = 1; pages = 1 }

-- and where the block is past those of a head: a data page for its map page too
abbrev pub for_a_map_page : Need
for_a_map_page = record { records = 3; heads = 1; pages = 2 }

-- a client makes file 7, writes this block of it, and ends
abbrev pub writes_at : ℕ → List ℕ → List Event
writes_at p bytes = makes_file s0 (then_settle c1 (commands.Do s0 (ops.Write (file 7) (block p) (block_of bytes))) (then_settle c1 commands.End []))

-- where a block was written: it aborts for want of these, of which so many are free and so many are needed
abbrev pub full_at_block : Resource → ℕ → ℕ → List Line
full_at_block resource free need = line 0 (says.Up s0 1) ∷ line 2 (says.Begun c1 1 (tid s0 0)) ∷ line 4 (says.Opened c1 3 s0) ∷ line 6 (says.Did c1 5) ∷ line 8 (says.Did c1 7)
    ∷ line 10 (says.Aborted c1 9 (tid s0 0) (FullAt s0 resource free need)) ∷ the_end

-- where a file is made, and nothing is lacking
abbrev pub made_report : List Line
made_report = a_file_made ++ at_end (says.File s0 (file 7)) ∷ at_end (says.Commits 1) ∷ []

-- ---- one server with one record, which it promises to a transaction's flag, or with one data page

abbrev pub one_record : Setup
one_record = record (setup 1) { counts = λ q. record { pool = 1; heads = 16; leaves = 128 } }

abbrev pub one_page : Setup
one_page = record (setup 1) { counts = λ q. record { pool = 32; heads = 16; leaves = 1 } }

-- where nothing is stored, all is free but the records that are promised
abbrev unpromised : Counts → Option Memory → Need
unpromised g None = none_free
unpromised g (Some m) = record { records = g.pool - promised m.coordinator.transactions; heads = g.heads; pages = g.leaves }

abbrev in_room_at : Counts → State → Option Task → Chance
in_room_at g s (Some Rests) = record calm { found = Free (unpromised g (s.course.world.memory s0)) no_maps }
in_room_at g s task = calm_at s task

-- a message finds that free
abbrev pub in_room : Setup → ℕ → State → Chance
in_room x n s = in_room_at (x.counts s0) s (next_task s)
