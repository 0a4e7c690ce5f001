-- What a loop over the transactions that a restart finds reports: each that isn't named yet is named.
use Rattle.std.specs.Prelude.{Bool, ◌||◌, if◌then◌else◌, List, [], ◌∷◌}
use Rattle.jn_base.specs.declared.names.Tid.{Tid}
use Rattle.jn_base.specs.Names.{tid_eq}
use Rattle.jn_report.specs.declared.line.Text.{Text}
use Rattle.jn_report.specs.declared.line.Text.TheVariants as says

-- this one is named too
abbrev pub with_name : Tid → (Tid → Bool) → Tid → Bool
with_name T named U = tid_eq T U || named U

-- which are named afterwards, and what was reported
abbrev pub named_by : List Tid → (Tid → Bool) → Tid → Bool
named_by [] named = named
named_by (T ∷ Ts) named = if named T then named_by Ts named else named_by Ts (with_name T named)

abbrev pub names_told : List Tid → (Tid → Bool) → List Text
names_told [] named = []
names_told (T ∷ Ts) named = if named T then names_told Ts named else says.Commit T ∷ names_told Ts (with_name T named)
