use Rattle.jn_world.proofs.Exits.{part-memory}
use Rattle.jn_world.proofs.Sending.{sends-out}
use Rattle.jn_world.proofs.Common.{standing_of, ◌∙◌}
use Rattle.jn_world.proofs.world.World.send_out.Goals as goal

pub returns-in_err-tell_notes-clause-ends : goal.returns-in_err-tell_notes-clause-ends
returns-in_err-tell_notes-clause-ends g c = part-memory c.from_residual.result _ _ _ _ c.from_residual.ensures.0 c.from_residual.ensures.1

pub returns-clause-ends : goal.returns-clause-ends
returns-clause-ends g c =
    let e = c.in_ok-tell_notes.ensures in
    sends-out c.args.server c.args.message c.args.when c.args.out c.args.self.now c.tell_notes.new.self c.deref.result.now c.into_parts-messages.result.0.items (standing_of c.post_all.new.self)
    c.args.told.now.items c.tell_notes.new.told.items c.post_all.new.told.items c.post_all.result
    (c.deref.ensures.value ∙ c.into_parts-messages.ensures.notes) c.into_parts-messages.ensures.messages e.others e.names e.told c.post_all.ensures.ends
