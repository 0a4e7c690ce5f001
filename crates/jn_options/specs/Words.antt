-- The command that words ask for.
use Rattle.std.specs.Prelude.{◌≡◌, ◌&&◌, ◌||◌, ◌≤◌, ◌<◌, ◌-◌, ◌^◌, ℕ, Bool, false, List, map, Option, Some, None, is_some, IfSome, String, string_bytes, codes, decimal, nat_le, if◌then◌else◌, option_and_then, option_map}
use Rattle.std.specs.Option.{option_map_or}
use Rattle.std.specs.Str.{bytes_eq}
use Rattle.std.specs.Str.Parse.{digits_value}
use Rattle.std.specs.declared.alloc.Global.{Global}
use Rattle.clap.specs.Words.{Row, Text, fault_of, first_of, subcommand_of}
use Rattle.clap.specs.Walk.{is_empty}
use Rattle.jn_options.specs.Command.{program_app}
use Rattle.jn_options.specs.Names.{IsName, name_in}
use Rattle.jn_options.specs.declared.asked.Command.{Command}
use Rattle.jn_options.specs.declared.asked.Command.TheVariants as commands
use Rattle.jn_options.specs.declared.asked.Geometry.{Geometry}
use Rattle.jn_options.specs.declared.asked.Node.{Node}
use Rattle.jn_options.specs.declared.asked.Opening.{Opening}
use Rattle.jn_options.specs.declared.asked.Opening.TheVariants.{New, Images}
use Rattle.jn_options.specs.declared.asked.Options.{Options}
use Rattle.jn_options.specs.declared.asked.Trial.{Trial}

-- ---- one option

-- the number from `least` to `most` that a text spells, in decimal digits with no sign and no leading zero
abbrev pub number_in : ℕ → ℕ → Text → Option ℕ
number_in least most text =
    let n = digits_value 10 text in
    if bytes_eq text (decimal n) && (nat_le least n && nat_le n most) then Some n else None

-- the number from `least` to `most` that is given
abbrev pub number_given : Text → ℕ → ℕ → List Row → Option ℕ
number_given name least most rows = option_and_then (number_in least most) (first_of name rows)

-- the number from 1 to `most` that is given to the option, or the one that stands where none is
abbrev pub count_given : Text → ℕ → ℕ → List Row → Option ℕ
count_given name most without rows = option_map_or (number_in 1 most) (first_of name rows) (Some without)

-- whether the option without a value is given
abbrev pub is_given : Text → List Row → Bool
is_given name rows = option_map_or (λ text. bytes_eq text (codes "true")) (first_of name rows) false

-- whether the option with a value is given
abbrev pub has_value : Text → List Row → Bool
has_value name rows = is_some (first_of name rows)

-- ---- a run

-- the counts of a new disk's pages
abbrev pub geometry_given : List Row → Option Geometry
geometry_given rows =
    option_and_then (λ pool.
    option_and_then (λ heads.
    option_map (λ leaves. record { pool = pool; heads = heads; leaves = leaves })
    (count_given (codes "data") 8000 128 rows))
    (count_given (codes "heads") 1000 16 rows))
    (count_given (codes "pool") 1000 32 rows)

-- whether one of these counts is given
abbrev pub has_geometry : List Row → Bool
has_geometry rows = has_value (codes "pool") rows || (has_value (codes "heads") rows || has_value (codes "data") rows)

-- the images of this name: the counts of their pages are in them, so no count is given beside it
abbrev pub images_given : List Row → Text → Option Opening
images_given rows name = if has_geometry rows then None else option_map Images (name_in name)

-- what the disks hold at first
abbrev pub opening_given : List Row → Option Opening
opening_given rows = option_map_or (images_given rows) (first_of (codes "in") rows) (option_map New (geometry_given rows))

-- the run that begins so, of which no images are kept
abbrev pub run_from : List Row → Option Opening → Option Options
run_from rows opening =
    option_and_then (λ servers.
    option_map (λ opening. record {
      servers = servers;
      opening = opening;
      closing = None;
      trace = is_given (codes "trace") rows;
    })
    opening)
    (count_given (codes "servers") 8 1 rows)

-- whether the disks hold what the images of this name hold
abbrev pub is_of : Text → Opening → Bool
is_of name (New geometry) = false
is_of name (Images own) = bytes_eq own name

-- the run of which images of this name are kept: not those that it begins with
abbrev pub kept_as : Options → Text → Option Options
kept_as options name =
    if is_of name options.opening then None
    else option_map (λ closing. record options { closing = Some closing }) (name_in name)

abbrev pub kept_if_given : List Row → Options → Option Options
kept_if_given rows options = option_map_or (kept_as options) (first_of (codes "out") rows) (Some options)

-- the options among what `run` was given
abbrev pub options_given : List Row → Option Options
options_given rows = option_and_then (kept_if_given rows) (run_from rows (opening_given rows))

-- ---- a trial

-- the numbers among what `trial` was given
abbrev pub trial_given : List Row → Option Trial
trial_given rows =
    option_and_then (λ seed.
    option_map (λ events. record { seed = seed; events = events })
    (number_given (codes "events") 1 100000 rows))
    (number_given (codes "seed") 0 (2 ^ 64 - 1) rows)

-- ---- a node

-- the name that is given to an option
abbrev pub name_given : Text → List Row → Option Text
name_given name rows = option_and_then name_in (first_of name rows)

-- The node of this server that begins with the image of one name and is kept under another.
abbrev pub node_from : Option ℕ → Option Text → Option Text → Option Node
node_from server opening closing =
    option_and_then (λ server.
    option_and_then (λ opening.
    option_and_then (λ closing.
    if bytes_eq opening closing then None
    else Some (record { server = record { 0 = server }; opening = opening; closing = closing }))
    closing)
    opening)
    server

-- the server and the names among what `node` was given
abbrev pub node_given : List Row → Option Node
node_given rows = node_from (number_given (codes "server") 0 7 rows) (name_given (codes "in") rows) (name_given (codes "out") rows)

-- ---- a command

-- the command of this name, with what it was given
abbrev pub command_given : Text × List Row → Option Command
command_given found =
    if bytes_eq found.0 (codes "run") then option_map commands.Run (options_given found.1)
    else (if bytes_eq found.0 (codes "trial") then option_map commands.Trial (trial_given found.1)
    else (if bytes_eq found.0 (codes "node") then option_map commands.Node (node_given found.1)
    else None))

-- The command of words, of which the first is the program's name. `fault_of` is empty exactly where `clap` takes the words;
-- `subcommand_of` is then the command among them, if there is one, with what was found for its options.
abbrev pub command_in : List Text → Option Command
command_in words = if is_empty (fault_of program_app words)
    then option_and_then command_given (subcommand_of program_app words)
    else None

abbrev pub command_of : List (String Global) → Option Command
command_of words = command_in (map string_bytes words)

-- ---- what a command may be

-- what each count of pages may be
pub record IsGeometry (geometry : Geometry) : Type 0 where
  pub pool : (1 ≤ geometry.pool) × (geometry.pool ≤ 1000)
  pub heads : (1 ≤ geometry.heads) × (geometry.heads ≤ 1000)
  pub leaves : (1 ≤ geometry.leaves) × (geometry.leaves ≤ 8000)

abbrev pub IsOpening : Opening → Type 0
IsOpening (New geometry) = IsGeometry geometry
IsOpening (Images name) = IsName name

-- what each option may be; no image is saved under the name that was read
pub record AreWithinLimits (options : Options) : Type 0 where
  pub servers : (1 ≤ options.servers) × (options.servers ≤ 8)
  pub opening : IsOpening options.opening
  pub closing : IfSome options.closing IsName
  pub differ : IfSome options.closing (λ name. is_of name options.opening ≡ false)

pub record IsTrialInRange (trial : Trial) : Type 0 where
  pub seed : trial.seed < 2 ^ 64
  pub events : (1 ≤ trial.events) × (trial.events ≤ 100000)

-- the image is saved under another name than that which was read
pub record IsNodeInRange (node : Node) : Type 0 where
  pub server : node.server.0 ≤ 7
  pub opening : IsName node.opening
  pub closing : IsName node.closing
  pub differ : bytes_eq node.opening node.closing ≡ false

abbrev pub IsCommandInRange : Command → Type 0
IsCommandInRange (commands.Run options) = AreWithinLimits options
IsCommandInRange (commands.Trial trial) = IsTrialInRange trial
IsCommandInRange (commands.Node node) = IsNodeInRange node
