-- What holds of each command that words ask for.
use Rattle.jn_options.proofs.Common.{◌≡◌, ◌≤◌, ◌^◌, ◌-◌, ◌&&◌, ℕ, Bool, true, false, cond, leb, leb-true, length, List, Option, Some, None, is_some, option_map, unwrap_or, refl, sym, subst, ap, arith, codes, IfSome, option_and_then, option_map_or, bytes_eq, and_parts, false≢true, Row, Text, fault_of, first_of, subcommand_of, is_empty, program_app, AreWithinLimits, IsCommandInRange, IsGeometry, IsNodeInRange, IsOpening, IsTrialInRange, command_given, command_in, count_given, geometry_given, has_geometry, images_given, is_of, kept_as, name_given, node_given, number_given, number_in, opening_given, options_given, run_from, trial_given, New, Images, Options, IsName, name_in}
use Rattle.jn_options.specs.declared.asked.Command.{Command}
use Rattle.jn_options.specs.declared.asked.Command.TheVariants as commands
use Rattle.jn_options.specs.declared.asked.Geometry.{Geometry}
use Rattle.jn_options.specs.declared.asked.Node.{Node}
use Rattle.jn_options.specs.declared.asked.Opening.{Opening}
use Rattle.jn_options.specs.declared.asked.Trial.{Trial}
use Rattle.jn_options.proofs.Numbers.{number_stands}

-- ---- options that are there

none≢some : {X : Type 0} (x : X) → None ≡ Some x → ⊥
none≢some x e = false≢true (ap is_some e)

same_some : {X : Type 0} (x y : X) → Some x ≡ Some y → x ≡ y
same_some x y e = ap (λ o. unwrap_or o x) e

then_some : {X Y : Type 0} (f : X → Option Y) (o : Option X) (y : Y) → option_and_then f o ≡ Some y → (x : X) × (o ≡ Some x) × (f x ≡ Some y)
then_some f None y e = absurd (none≢some y e)
then_some f (Some x) y e = (x, refl, e)

map_some : {X Y : Type 0} (f : X → Y) (o : Option X) (y : Y) → option_map f o ≡ Some y → (x : X) × (o ≡ Some x) × (f x ≡ y)
map_some f None y e = absurd (none≢some y e)
map_some f (Some x) y e = (x, refl, same_some (f x) y e)

-- ---- numbers and names

number_limits : (least most n : ℕ) (text : Text) → number_in least most text ≡ Some n → (least ≤ n) × (n ≤ most)
number_limits least most n text is =
    let at = number_stands least most n text is in (at.0, at.1.small)

given_limits : (name : Text) (least most n : ℕ) (rows : List Row) → number_given name least most rows ≡ Some n → (least ≤ n) × (n ≤ most)
given_limits name least most n rows is =
    let (text, there, spelled) = then_some (number_in least most) (first_of name rows) n is in
    number_limits least most n text spelled

count_limits : (name : Text) (most without n : ℕ) (rows : List Row) → 1 ≤ without → without ≤ most → count_given name most without rows ≡ Some n → (1 ≤ n) × (n ≤ most)
count_limits name most without n rows low high is = go (first_of name rows) is
  where
    go : (o : Option Text) → option_map_or (number_in 1 most) o (Some without) ≡ Some n → (1 ≤ n) × (n ≤ most)
    go None e =
        let same : without ≡ n = same_some without n e in
        (omega (arith, same, low), omega (arith, same, high))
    go (Some text) e = number_limits 1 most n text e

-- a name is the text, within its limits
name_is : (text name : Text) → name_in text ≡ Some name → (text ≡ name) × IsName name
name_is text name is = go (leb 1 (length text) && leb (length text) 100) refl is
  where
    go : (test : Bool) → (leb 1 (length text) && leb (length text) 100) ≡ test → cond test (Some text) None ≡ Some name → (text ≡ name) × IsName name
    go false tests e = absurd (none≢some name e)
    go true tests e =
        let parts = and_parts _ _ tests in
        let same : text ≡ name = same_some text name e in
        (same, subst IsName same (leb-true 1 (length text) parts.0, leb-true (length text) 100 parts.1))

-- ---- a run

geometry_limits : (rows : List Row) (g : Geometry) → geometry_given rows ≡ Some g → IsGeometry g
geometry_limits rows g is =
    let (pool, pool_is, rest) = then_some _ _ g is in
    let (heads, heads_is, last) = then_some _ _ g rest in
    let (leaves, leaves_is, same) = map_some _ _ g last in
    subst IsGeometry same (record {
      pool = count_limits (codes "pool") 1000 32 pool rows (omega arith) (omega arith) pool_is;
      heads = count_limits (codes "heads") 1000 16 heads rows (omega arith) (omega arith) heads_is;
      leaves = count_limits (codes "data") 8000 128 leaves rows (omega arith) (omega arith) leaves_is;
    })

images_limits : (rows : List Row) (text : Text) (opening : Opening) → images_given rows text ≡ Some opening → IsOpening opening
images_limits rows text opening is = go (has_geometry rows) is
  where
    go : (test : Bool) → cond test None (option_map Images (name_in text)) ≡ Some opening → IsOpening opening
    go true e = absurd (none≢some opening e)
    go false e =
        let (name, named, same) = map_some Images (name_in text) opening e in
        subst IsOpening same (name_is text name named).1

opening_limits : (rows : List Row) (opening : Opening) → opening_given rows ≡ Some opening → IsOpening opening
opening_limits rows opening is = go (first_of (codes "in") rows) is
  where
    go : (o : Option Text) → option_map_or (images_given rows) o (option_map New (geometry_given rows)) ≡ Some opening → IsOpening opening
    go None e =
        let (g, given, same) = map_some New (geometry_given rows) opening e in
        subst IsOpening same (geometry_limits rows g given)
    go (Some text) e = images_limits rows text opening e

run_limits : (rows : List Row) (options : Options) → run_from rows (opening_given rows) ≡ Some options → AreWithinLimits options
run_limits rows options is =
    let (servers, servers_is, rest) = then_some _ _ options is in
    let (opening, opening_is, same) = map_some _ _ options rest in
    subst AreWithinLimits same (record {
      servers = count_limits (codes "servers") 8 1 servers rows (omega arith) (omega arith) servers_is;
      opening = opening_limits rows opening opening_is;
      closing = tt;
      differ = tt;
    })

kept_limits : (run options : Options) (text : Text) → AreWithinLimits run → kept_as run text ≡ Some options → AreWithinLimits options
kept_limits run options text within is = go (is_of text run.opening) refl is
  where
    go : (test : Bool) → is_of text run.opening ≡ test
        → cond test None (option_map (λ (name : Text). record run { closing = Some name }) (name_in text)) ≡ Some options → AreWithinLimits options
    go true own e = absurd (none≢some options e)
    go false own e =
        let (name, named, same) = map_some _ (name_in text) options e in
        let is_name = name_is text name named in
        subst AreWithinLimits same (record {
          servers = within.servers;
          opening = within.opening;
          closing = is_name.1;
          differ = subst (λ (t : Text). is_of t run.opening ≡ false) is_name.0 own;
        })

options_limits : (rows : List Row) (options : Options) → options_given rows ≡ Some options → AreWithinLimits options
options_limits rows options is =
    let (run, run_is, kept) = then_some _ (run_from rows (opening_given rows)) options is in
    go run (run_limits rows run run_is) (first_of (codes "out") rows) kept
  where
    go : (run : Options) → AreWithinLimits run → (o : Option Text) → option_map_or (kept_as run) o (Some run) ≡ Some options → AreWithinLimits options
    go run within None e = subst AreWithinLimits (same_some run options e) within
    go run within (Some text) e = kept_limits run options text within e

-- ---- a command

trial_limits : (rows : List Row) (trial : Trial) → trial_given rows ≡ Some trial → IsTrialInRange trial
trial_limits rows trial is =
    let (seed, seed_is, rest) = then_some _ _ trial is in
    let (events, events_is, same) = map_some _ _ trial rest in
    let in_range = given_limits (codes "seed") 0 (2 ^ 64 - 1) seed rows seed_is in
    subst IsTrialInRange same (record {
      seed = omega (arith, in_range.1);
      events = given_limits (codes "events") 1 100000 events rows events_is;
    })

name_limits : (name : Text) (rows : List Row) (text : Text) → name_given name rows ≡ Some text → IsName text
name_limits name rows text is =
    let (given, there, named) = then_some name_in (first_of name rows) text is in
    (name_is given text named).1

node_limits : (rows : List Row) (node : Node) → node_given rows ≡ Some node → IsNodeInRange node
node_limits rows node is =
    let (server, server_is, rest) = then_some _ _ node is in
    let (opening, opening_is, last) = then_some _ _ node rest in
    let (closing, closing_is, differ) = then_some _ _ node last in
    go server opening closing (given_limits (codes "server") 0 7 server rows server_is).1 (name_limits (codes "in") rows opening opening_is) (name_limits (codes "out") rows closing closing_is) (bytes_eq opening closing) refl differ
  where
    go : (server : ℕ) (opening closing : Text) → server ≤ 7 → IsName opening → IsName closing → (test : Bool) → bytes_eq opening closing ≡ test
        → cond test None (Some (record { server = record { 0 = server }; opening = opening; closing = closing })) ≡ Some node → IsNodeInRange node
    go server opening closing small is_opening is_closing true same e = absurd (none≢some node e)
    go server opening closing small is_opening is_closing false differ e =
        subst IsNodeInRange (same_some (record { server = record { 0 = server }; opening = opening; closing = closing }) node e)
        (record { server = small; opening = is_opening; closing = is_closing; differ = differ })

given_in_range : (found : Text × List Row) (command : Command) → command_given found ≡ Some command → IsCommandInRange command
given_in_range found command is = run (bytes_eq found.0 (codes "run")) is
  where
    node : (test : Bool) → cond test (option_map commands.Node (node_given found.1)) None ≡ Some command → IsCommandInRange command
    node false e = absurd (none≢some command e)
    node true e =
        let (asked, given, same) = map_some commands.Node (node_given found.1) command e in
        subst IsCommandInRange same (node_limits found.1 asked given)

    trial : (test : Bool) → cond test (option_map commands.Trial (trial_given found.1))
        (cond (bytes_eq found.0 (codes "node")) (option_map commands.Node (node_given found.1)) None) ≡ Some command → IsCommandInRange command
    trial false e = node (bytes_eq found.0 (codes "node")) e
    trial true e =
        let (asked, given, same) = map_some commands.Trial (trial_given found.1) command e in
        subst IsCommandInRange same (trial_limits found.1 asked given)

    run : (test : Bool) → cond test (option_map commands.Run (options_given found.1))
        (cond (bytes_eq found.0 (codes "trial")) (option_map commands.Trial (trial_given found.1))
        (cond (bytes_eq found.0 (codes "node")) (option_map commands.Node (node_given found.1)) None)) ≡ Some command → IsCommandInRange command
    run false e = trial (bytes_eq found.0 (codes "trial")) e
    run true e =
        let (options, given, same) = map_some commands.Run (options_given found.1) command e in
        subst IsCommandInRange same (options_limits found.1 options given)

-- the same of a command that may be none
pub if_in_range : (found : Text × List Row) (o : Option Command) → o ≡ command_given found → IfSome o IsCommandInRange
if_in_range found None is = tt
if_in_range found (Some command) is = given_in_range found command (sym is)

pub in_range : (words : List Text) (command : Command) → command_in words ≡ Some command → IsCommandInRange command
in_range words command is = go (is_empty (fault_of program_app words)) is
  where
    go : (test : Bool) → cond test (option_and_then command_given (subcommand_of program_app words)) None ≡ Some command → IsCommandInRange command
    go false e = absurd (none≢some command e)
    go true e =
        let (found, there, given) = then_some command_given (subcommand_of program_app words) command e in
        given_in_range found command given
