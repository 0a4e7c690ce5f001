use Rattle.jn_records.proofs.Common.{◌≡◌, ℕ, length, refl, ap, List, arith, big_bytes, WorkId, work_bytes}
use Rattle.jn_records.proofs.Lists.{length-fields, grows}
use Rattle.jn_records.proofs.record.put_flag.Goals as goal

pub put_list-requires-clause-room : goal.put_list-requires-clause-room
put_list-requires-clause-room c =
    let works = c.as_slice-works.result.now in
    let size = length-fields (λ (w : WorkId). work_bytes w) 9 (λ w. refl) works in
    let flag = c.args.flag.now in
    let all : length works ≡ length flag.works = ap (λ (ws : List WorkId). length ws) c.as_slice-works.ensures in
    let begin : length c.args.page.now ≡ 0 = ap (λ (l : List ℕ). length l) c.requires.blank in
    let a = grows c.put_u8.new.self c.args.page.now (big_bytes 1 4) 1 refl c.put_u8.ensures in
    let b = grows c.put_bytes.new.self c.put_u8.new.self c.to_bytes.result 9 (rw c.to_bytes.ensures.bytes refl) c.put_bytes.ensures in
    let d = grows c.put_u8-2.new.self c.put_bytes.new.self (big_bytes 1 flag.client.0) 1 refl c.put_u8-2.ensures in
    let e = grows c.put_u32.new.self c.put_u8-2.new.self (big_bytes 4 flag.request.0) 4 refl c.put_u32.ensures in
    let f = grows c.put_u8-3.new.self c.put_u32.new.self (big_bytes 1 (length works)) 1 refl c.put_u8-3.ensures in
    omega (arith, size, begin, all, a, b, d, e, f, c.requires.few)
