use Rattle.jn_files.proofs.Common.{◌≡◌, ℕ, sym, subst, false, List, Option, None, Some, FileNo, number_at, is_number_above, IsNumberAbove, Head, NextFile}
use Rattle.jn_files.proofs.Indexed.{next_found, next_none}
use Rattle.jn_files.proofs.heads.Heads.next.Goals as goal

pub returns-in_err-number_above : goal.returns-in_err-number_above
returns-in_err-number_above c =
    let files = c.self.inside.files in
    subst (λ (x : Option FileNo). NextFile c.args.self.now c.args.after x) (sym c.from_residual.ensures) (subst (λ (l : List Head). NextFile l c.args.after None) c.self.view_is
    (next_none files c.self.inside.slots.items c.self.invariant c.args.after
    (subst (λ (after : Option ℕ). (slot n : ℕ) → number_at files slot ≡ Some n → is_number_above after n ≡ false) c.number_of.ensures c.in_err-number_above.ensures.none)))

pub returns : goal.returns
returns c =
    let files = c.self.inside.files in
    let f : FileNo = record { 0 = c.in_ok-number_above.field-0 } in
    subst (λ (l : List Head). NextFile l c.args.after (Some f)) c.self.view_is (next_found files c.self.inside.slots.items c.self.invariant c.args.after f
    (subst (λ (after : Option ℕ). IsNumberAbove files after f.0) c.number_of.ensures c.in_ok-number_above.ensures.found))
