use Rattle.jn_records.proofs.Common.{◌≡◌, ℕ, length, refl, ap, List, arith, big_bytes, LockUnit, unit_bytes, length-unit}
use Rattle.jn_records.proofs.Lists.{length-fields, grows}
use Rattle.jn_records.proofs.record.put_prepared.Goals as goal

pub put_list-requires-clause-room : goal.put_list-requires-clause-room
put_list-requires-clause-room c =
    let size = length-fields (λ (u : LockUnit). unit_bytes u) 6 length-unit c.args.reads.now in
    let head = c.args.head.now in
    let begin : length c.args.page.now ≡ 0 = ap (λ (l : List ℕ). length l) c.requires.blank in
    let a = grows c.put_u8.new.self c.args.page.now (big_bytes 1 c.args.kind) 1 refl c.put_u8.ensures in
    let b = grows c.put_bytes.new.self c.put_u8.new.self c.to_bytes.result 9 (rw c.to_bytes.ensures.bytes refl) c.put_bytes.ensures in
    let d = grows c.put_bytes-2.new.self c.put_bytes.new.self c.to_bytes-2.result 9 (rw c.to_bytes-2.ensures.bytes refl) c.put_bytes-2.ensures in
    let e = grows c.put_u8-2.new.self c.put_bytes-2.new.self (big_bytes 1 head.client.0) 1 refl c.put_u8-2.ensures in
    let f = grows c.put_u8-3.new.self c.put_u8-2.new.self (big_bytes 1 c.args.intentions) 1 refl c.put_u8-3.ensures in
    let g = grows c.put_u8-4.new.self c.put_u8-3.new.self (big_bytes 1 (length c.args.reads.now)) 1 refl c.put_u8-4.ensures in
    omega (arith, size, begin, a, b, d, e, f, g, c.requires.few)
