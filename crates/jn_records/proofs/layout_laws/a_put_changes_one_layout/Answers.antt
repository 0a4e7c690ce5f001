use Rattle.jn_records.proofs.Common.{layout_by}
use Rattle.jn_records.proofs.Layouts.{set-map, map-put, block-put}
use Rattle.jn_records.proofs.layout_laws.a_put_changes_one_layout.Goals as goal

pub returns-clause-head : goal.returns-clause-head
returns-clause-head c = λ maps heads place h. set-map (layout_by maps) heads place h

pub returns-clause-map : goal.returns-clause-map
returns-clause-map c = map-put

pub returns-clause-block : goal.returns-clause-block
returns-clause-block c = block-put
