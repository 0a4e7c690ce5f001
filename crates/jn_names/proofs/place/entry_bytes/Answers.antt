use Rattle.std.proofs.Common.{length, refl}
use Rattle.jn_names.proofs.Bytes.{entry-filled}
use Rattle.jn_names.proofs.place.entry_bytes.Goals as goal

pub returns : goal.returns
returns c = rw c.write_u32.ensures at (entry-filled (length c.args.name.now) c.args.name.now c.write_u32.new.buf c.put_at.new.bytes c.put_at-2.new.bytes c.put_at-3.new.bytes c.requires (rw c.write_u32.ensures refl) c.put_at.ensures c.put_at-2.ensures c.put_at-3.ensures)
