use Rattle.jn_names.proofs.MapLaws.{answers, full-bind, others}
use Rattle.jn_names.proofs.laws.names_are_a_map.Goals as goal

pub returns-clause-answers : goal.returns-clause-answers
returns-clause-answers c = λ command files names fits h. answers command files names fits h

pub returns-clause-full : goal.returns-clause-full
returns-clause-full c = λ d name file files names n h. full-bind d name file files names n h

pub returns-clause-others : goal.returns-clause-others
returns-clause-others c = λ command files u h. others command files u h
