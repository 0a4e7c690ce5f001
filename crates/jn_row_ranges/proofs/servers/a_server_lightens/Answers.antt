use Rattle.jn_row_ranges.proofs.Lightening.{row-lightens, step-lightens}
use Rattle.jn_row_ranges.proofs.servers.a_server_lightens.Goals as goal

pub returns-clause-row : goal.returns-clause-row
returns-clause-row c = row-lightens

pub returns-clause-step : goal.returns-clause-step
returns-clause-step c = step-lightens
