use Rattle.jn_files.proofs.Common.{ℕ, Option, None, sym, subst, BlockNo, LeastFrom, Head, TableView, head_in, NextBlock, has_block}
use Rattle.jn_files.proofs.Lookup.{block_next, no_block}
use Rattle.jn_files.proofs.table.FileTable.next_block.Goals as goal

pub returns : goal.returns
returns c =
    let t = c.self.inside in
    let slot = c.in_ok-slot.slot in
    subst (λ (x : TableView). NextBlock x c.args.f c.args.after c.block_from.result) c.self.view_is
    (block_next c.args.f t.maps t.heads slot c.in_ok-slot.ensures.found.1 c.in_ok-slot.ensures.lowest _ c.block_from.result
    (subst (λ (n : ℕ). LeastFrom (λ (p : BlockNo). p.0) (has_block t.maps (head_in t.heads slot)) n c.block_from.result) c.number_after.ensures.value
    (subst (λ (h : Head). LeastFrom (λ (p : BlockNo). p.0) (has_block t.maps h) c.number_after.result c.block_from.result) c.slot.ensures c.block_from.ensures)))

pub returns-in_err-slot : goal.returns-in_err-slot
returns-in_err-slot c =
    let t = c.self.inside in
    subst (λ (x : Option BlockNo). NextBlock c.args.self.now c.args.f c.args.after x) (sym c.from_residual.ensures)
    (subst (λ (x : TableView). NextBlock x c.args.f c.args.after None) c.self.view_is (no_block c.args.f t.maps t.heads (sym c.in_err-slot.ensures.there) _))
