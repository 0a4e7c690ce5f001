-- The names from below that these proofs cite, passed on from one place. Declares nothing.
pub use Rattle.std.proofs.Common.{◌≡◌, ◌≢◌, ◌∙◌, ap, subst, refl, true, List, [], inl, inr, sym, Option, Some, None, is_some, option_map, ◌≤◌, ◌^◌, ◌-◌, ◌&&◌, ℕ, Bool, false, cond, leb, leb-true, length, unwrap_or, arith, codes, IfSome, ◌<◌, take, drop, le-leb, decimal, map, string_bytes, ◌||◌, ap₂}
pub use Rattle.clap.specs.Words.{App, HasMatchesOf, Text, fault_of, is_simple, is_simple_and_free, kind_of, subcommand_of, subcommand_rows_of, HasKind, IsAmong, first_of, first_value, rows_of, Row, app_of, with_rule, new_app, with_subcommand, found_of}
unfoldable pub use Rattle.clap.proofs.OnLiterals.{clap_on_literals}
pub use Rattle.jn_options.specs.Command.{without_help}
unfoldable pub use Rattle.jn_options.specs.Command.{program_app, run_app, trial_app, node_app}
pub use Rattle.std.specs.Prelude.{option_and_then}
pub use Rattle.std.specs.Option.{option_map_or}
pub use Rattle.std.specs.Str.{bytes_eq}
pub use Rattle.std.proofs.lemmas.Bool.{and_parts, false≢true, and_from}
pub use Rattle.clap.specs.Walk.{is_empty}
pub use Rattle.jn_options.specs.Words.{AreWithinLimits, IsCommandInRange, IsGeometry, IsNodeInRange, IsOpening, IsTrialInRange, command_given, command_in, count_given, geometry_given, has_geometry, images_given, is_of, kept_as, name_given, node_given, number_given, number_in, opening_given, options_given, run_from, trial_given}
pub use Rattle.jn_options.specs.declared.asked.Opening.TheVariants.{New, Images}
pub use Rattle.jn_options.specs.declared.asked.Options.{Options}
pub use Rattle.jn_options.specs.Names.{IsName, name_in}
pub use Rattle.std.proofs.lemmas.Result.{IfOk-weaker}
unfoldable pub use Rattle.std.specs.Fmt.{digits}
