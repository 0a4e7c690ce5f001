use Rattle.std.proofs.Common.{◌≡◌, length, rules}
use Rattle.jn_wire.specs.Spelling.{body_bytes, frame_bytes}
use Rattle.jn_wire.proofs.Framing.{length-in-front}
use Rattle.jn_wire.proofs.write.put_frame.Goals as goal

pub returns-clause-ok : goal.returns-clause-ok
unfolding frame_bytes
returns-clause-ok c =
    let start : c.len-start.result ≡ length c.args.out.now.items = search rules in
    let end : c.len.result ≡ length c.put_body.new.out.items = search rules in
    length-in-front c.args.out.now.items (body_bytes c.args.framed.now) c.put_u16.new.out.items c.put_body.new.out.items c.write_size.new.out.items c.len-start.result c.len.result
    start end c.in_ok-put_u16.ensures.ok c.in_ok-put_body.ensures.ok c.write_size.ensures
