-- The command line of the program, as what `clap` reads of a command.
use Rattle.std.specs.Prelude.{Some, true, codes}
use Rattle.clap.specs.Words.{App, Rule, Text, new_app, new_rule, with_rule, with_subcommand}
use Rattle.clap.specs.declared.builder.ArgAction.TheVariants.{SetTrue}

-- an option with one value, as `--pool 32` or `--pool=32`
abbrev pub valued : Text → Rule
valued name = record (new_rule name) { long = Some name }

-- one that has to be there
abbrev pub needed : Text → Rule
needed name = record (valued name) { required = true }

-- an option without a value
abbrev pub switch : Text → Rule
switch name = record (new_rule name) { long = Some name; action = Some SetTrue }

-- a value that is known by its place, and has to be there
abbrev pub placed : Text → Rule
placed name = record (new_rule name) { required = true }

-- the command `run`, whose options are given at most once each, in any order
unfoldable pub run_app : App
run_app = with_rule (with_rule (with_rule (with_rule (with_rule (with_rule (with_rule (new_app (codes "run"))
    (valued (codes "servers"))) (valued (codes "pool"))) (valued (codes "heads"))) (valued (codes "data")))
    (valued (codes "in"))) (valued (codes "out"))) (switch (codes "trace"))

-- the command `trial`, with its two numbers
unfoldable pub trial_app : App
trial_app = with_rule (with_rule (new_app (codes "trial")) (placed (codes "seed"))) (placed (codes "events"))

-- the command `node`, with its server and the names of images
unfoldable pub node_app : App
node_app = with_rule (with_rule (with_rule (new_app (codes "node")) (placed (codes "server"))) (needed (codes "in"))) (needed (codes "out"))

-- a command that offers neither help nor a version
abbrev pub without_help : App → App
without_help a = record a { top = record a.top { disable_help_flag = true; disable_help_subcommand = true } }

-- the program, whose next word is a command; what stands behind that is the command's
unfoldable pub program_app : App
program_app = with_subcommand (with_subcommand (with_subcommand (without_help (new_app (codes "juniper"))) run_app.top) trial_app.top) node_app.top
