-- Behind the bytes that are put the zeros stay.
use Rattle.std.proofs.Common.{◌≡◌, ◌≤◌, ◌+◌, ◌-◌, ℕ, List, length, take, drop, replicate, arith, sym, ap, ◌∙◌}
use Rattle.std.proofs.lemmas.List.{length-take, drop-drop, drop-replicate}
use Rattle.std.proofs.lemmas.Slice.{drop-put_mid}
use borrow.Rule.Slice.PartMut.{put_mid}
use Rattle.jn_base.proofs.fields.PageWriter.put_bytes.Goals as goal

zeros_stay : (page bytes : List ℕ) (at n : ℕ) → at ≤ length page → length bytes ≡ at + n - at → drop at page ≡ replicate (512 - at) 0
    → drop (at + n) (put_mid at (at + n - at) page bytes) ≡ replicate (512 - (at + n)) 0
zeros_stay page bytes at n within len zeros =
    drop-put_mid at (at + n - at) page bytes (at + n) (omega arith) within len
    ∙ sym (drop-drop n at page)
    ∙ ap (drop n) zeros
    ∙ drop-replicate n (512 - at) 0
    ∙ ap (λ (k : ℕ). replicate k 0) (let e : 512 - at - n ≡ 512 - (at + n) = omega arith in e)

pub invariant_of-self : goal.invariant_of-self
invariant_of-self c =
    let page = c.self.inside.page in
    let at = c.self.inside.at in
    let bytes = c.args.bytes.now in
    let put = c.copy_from_slice.new.self in
    let so_far : length (take at page) ≡ length c.args.self.now = ap length c.self.view_is in
    let copied : length put ≡ length bytes = ap length c.copy_from_slice.ensures.after in
    (omega (arith, so_far, length-take at page, c.self.told), zeros_stay page put at (length bytes) (omega (arith, c.self.told)) (omega (arith, copied)) c.self.invariant.1)
