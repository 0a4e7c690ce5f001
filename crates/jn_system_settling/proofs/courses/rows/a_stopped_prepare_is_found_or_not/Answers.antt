use Rattle.jn_system_settling.proofs.Settling.Reports.{a_stopped_prepare_is_found_or_not_found, a_stopped_prepare_is_found_or_not_found_steps, a_stopped_prepare_is_found_or_not_found_file, a_stopped_prepare_is_found_or_not_decayed, a_stopped_prepare_is_found_or_not_decayed_steps, a_stopped_prepare_is_found_or_not_revived, a_stopped_prepare_is_found_or_not_revived_steps, a_stopped_prepare_is_found_or_not_revived_file}
use Rattle.jn_system_settling.proofs.courses.rows.a_stopped_prepare_is_found_or_not.Goals as goal

pub returns-clause-found_steps : goal.returns-clause-found_steps
returns-clause-found_steps c = a_stopped_prepare_is_found_or_not_found_steps

pub returns-clause-found : goal.returns-clause-found
returns-clause-found c = a_stopped_prepare_is_found_or_not_found

pub returns-clause-file : goal.returns-clause-file
returns-clause-file c = a_stopped_prepare_is_found_or_not_found_file

pub returns-clause-decayed_steps : goal.returns-clause-decayed_steps
returns-clause-decayed_steps c = a_stopped_prepare_is_found_or_not_decayed_steps

pub returns-clause-decayed : goal.returns-clause-decayed
returns-clause-decayed c = a_stopped_prepare_is_found_or_not_decayed

pub returns-clause-revived_steps : goal.returns-clause-revived_steps
returns-clause-revived_steps c = a_stopped_prepare_is_found_or_not_revived_steps

pub returns-clause-revived : goal.returns-clause-revived
returns-clause-revived c = a_stopped_prepare_is_found_or_not_revived

pub returns-clause-revived_file : goal.returns-clause-revived_file
returns-clause-revived_file c = a_stopped_prepare_is_found_or_not_revived_file
