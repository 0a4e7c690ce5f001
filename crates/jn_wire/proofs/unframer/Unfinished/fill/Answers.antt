use Rattle.std.proofs.Common.{◌≡◌, ◌≤◌, length, rules}
use Rattle.jn_wire.specs.Unframing.{whole_length}
use Rattle.jn_wire.proofs.Filling.{fills}
use Rattle.jn_wire.proofs.unframer.Unfinished.fill.Goals as goal

pub returns-clause-ok : goal.returns-clause-ok
returns-clause-ok c =
    let long : 2 ≤ length c.hold.new.held.items = search rules in
    let size : c.whole_length-size.result ≡ whole_length c.hold.new.held.items = search rules in
    fills c.args.self.now.bytes.items c.args.piece.now c.hold.new.held.items c.hold-2.new.held.items c.in_ok-rest.rest.now c.whole_length-size.result c.hold-2.result
    c.requires.unfinished c.in_ok-rest.ensures.held c.in_ok-rest.ensures.rest long size c.hold-2.ensures.held c.hold-2.ensures.rest
