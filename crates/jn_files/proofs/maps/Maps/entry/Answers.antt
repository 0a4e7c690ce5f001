use Rattle.jn_files.proofs.Common.{◌≡◌, ◌≤◌, ◌∙◌, ℕ, List, [], length, ap, subst, arith, nat_tests, slice_index, slice_index_or, kept_entry, through}
use Rattle.jn_files.proofs.MapRows.{entry-at}
use Rattle.jn_files.proofs.maps.Maps.entry.Goals as goal

pub returns : goal.returns
returns c =
    subst (λ (rows : List (List ℕ)). c.args.address ≤ length rows → slice_index_or c.index-2.result.now c.args.k 0 ≡ through (kept_entry rows) c.args.address c.args.k) c.self.view_is
    (λ few. entry-at c.self.inside.slots.items c.self.inside.rows.items _ c.self.invariant c.args.address c.args.k c.index.result.now c.index-2.result.now c.if-address-eq0.false few c.index.ensures c.index-2.ensures)
    c.requires.below
