use Rattle.jn_laws.proofs.Common.{if◌then◌else◌, refl, whole_only}
use Rattle.jn_laws.proofs.parts.a_flag_is_found_whole_or_not_at_all.Goals as goal

pub returns-clause-left : goal.returns-clause-left
returns-clause-left c = λ p. record { left = if p 3 then whole_only 1 else whole_only 0; is_after = refl }
