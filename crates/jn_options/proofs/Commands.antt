-- What `clap` makes of words for a command that is the program's.
use Rattle.jn_options.proofs.Common.{◌≡◌, ◌≢◌, ◌∙◌, ap, subst, refl, true, List, [], inl, inr, App, HasMatchesOf, Text, fault_of, is_simple, is_simple_and_free, kind_of, subcommand_of, subcommand_rows_of, HasKind, IsAmong, clap_on_literals, program_app, run_app, trial_app, node_app}
use Rattle.clap.specs.declared.error.Error.{Error}
use Rattle.clap.specs.declared.error.kind.ErrorKind.TheVariants as kinds
use Rattle.clap.specs.declared.parser.matches.ArgMatches.{ArgMatches}

simple_and_free : is_simple_and_free program_app ≡ true
unfolding clap_on_literals program_app run_app trial_app node_app
simple_and_free = refl

simple : is_simple program_app ≡ true
unfolding clap_on_literals program_app run_app trial_app node_app
simple = refl

module _ (a : App) (is : a ≡ program_app) (words : List Text) where
  pub taken : (m : ArgMatches) → (is_simple_and_free a ≡ true → fault_of a words ≡ []) → HasMatchesOf a words m
      → (fault_of program_app words ≡ []) × (subcommand_rows_of m ≡ subcommand_of program_app words)
  taken m faults matches = (
    subst (λ (b : App). fault_of b words ≡ []) is (faults (ap is_simple_and_free is ∙ simple_and_free)),
    (matches (ap is_simple is ∙ simple)).1 ∙ ap (λ (b : App). subcommand_of b words) is,
  )

  pub refused : (e : Error) → kind_of e ≢ kinds.OutOfMemory → (is_simple_and_free a ≡ true → HasKind (fault_of a words) e) → fault_of program_app words ≢ []
  refused e other fails none = elim (fails (ap is_simple_and_free is ∙ simple_and_free)) [
    | inl memory ↦ other memory
    | inr among ↦ subst (IsAmong (kind_of e)) (ap (λ (b : App). fault_of b words) is ∙ none) among
  ]
