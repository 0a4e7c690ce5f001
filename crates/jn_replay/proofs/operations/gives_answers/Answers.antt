use Rattle.jn_replay.proofs.Common.{refl, ◌∙◌, files_of}
use Rattle.jn_replay.proofs.Same.{files_then-step, GivesAnswers-step, ↔-trans}
use Rattle.jn_replay.proofs.operations.gives_answers.Goals as goal

pub loop-p-preserved : goal.loop-p-preserved
loop-p-preserved c = record {
  answers = ↔-trans c.loop-p.invariant.answers (GivesAnswers-step c.args.ops.now c.loop-p.p-index c.p-item.result (files_of c.loop-p.files) (files_of c.do_op.new.files) c.in_ok-answer.answer c.loop-p-test.true c.p-item.is c.in_ok-answer.ensures.after c.in_ok-answer.ensures.answer (c.if-not-is_same_answer.ensures.0 refl));
  after = files_then-step c.args.ops.now c.loop-p.p-index c.p-item.result (files_of c.loop-p.files) (files_of c.do_op.new.files) c.loop-p-test.true c.p-item.is c.in_ok-answer.ensures.after ∙ c.loop-p.invariant.after;
}
