-- Runs for which no name is given.
use Rattle.jn_options.proofs.Common.{◌≡◌, ◌∙◌, ap, refl, cond, codes, List, [], Option, Some, None, option_map, option_and_then, option_map_or, Row, Text, fault_of, first_of, subcommand_of, is_empty, program_app, command_given, command_in, geometry_given, images_given, kept_as, opening_given, options_given, run_from, New, Options}
use Rattle.clap.specs.Kinds.{Kinds}
use Rattle.jn_options.specs.declared.asked.Command.TheVariants as commands

then_itself : {X : Type 0} (o : Option X) → option_and_then (λ (x : X). Some x) o ≡ o
then_itself None = refl
then_itself (Some x) = refl

without_names : (rows : List Row) → first_of (codes "in") rows ≡ None → first_of (codes "out") rows ≡ None
    → options_given rows ≡ run_from rows (option_map New (geometry_given rows))
without_names rows no_in no_out =
    ap (λ (o : Option Text). option_and_then (λ (run : Options). option_map_or (kept_as run) o (Some run)) (run_from rows (opening_given rows))) no_out
    ∙ then_itself (run_from rows (opening_given rows))
    ∙ ap (λ (o : Option Text). run_from rows (option_map_or (images_given rows) o (option_map New (geometry_given rows)))) no_in

pub on_new_disks : (words : List Text) (rows : List Row) → fault_of program_app words ≡ []
    → subcommand_of program_app words ≡ Some (codes "run", rows)
    → first_of (codes "in") rows ≡ None → first_of (codes "out") rows ≡ None
    → command_in words ≡ option_map commands.Run (run_from rows (option_map New (geometry_given rows)))
on_new_disks words rows faultless is_run no_in no_out =
    ap (λ (ks : Kinds). cond (is_empty ks) (option_and_then command_given (subcommand_of program_app words)) None) faultless
    ∙ ap (option_and_then command_given) is_run
    ∙ ap (option_map commands.Run) (without_names rows no_in no_out)
