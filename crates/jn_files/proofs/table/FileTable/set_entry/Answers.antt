use Rattle.jn_files.proofs.Common.{◌≡◌, ◌%◌, ℕ, suc, sym, ap, subst, List, Bool, slice_index, head_blocks, head_map, TableView, head_in, row_at, range_of, IsChanged, AreFree, MaySet, table_view}
use Rattle.std.proofs.Common.{slice_set}
use Rattle.jn_files.proofs.Holding.{entry_kept, entry_changed}
use Rattle.jn_files.proofs.Standing.{free_by}
use Rattle.jn_files.proofs.table.FileTable.set_entry.Goals as goal

pub rename-requires-clause-kept : goal.rename-requires-clause-kept
rename-requires-clause-kept c =
    let t = c.self.inside in
    subst (λ (l : List Bool). AreFree l t.named.items t.free_leaves) (sym c.deref.ensures.value) (free_by t.pool t.heads t.maps t.held.items t.touched.items t.named.items t.free_heads t.free_leaves c.self.invariant)

pub invariant_of-self : goal.invariant_of-self
invariant_of-self c =
    let t = c.self.inside in
    entry_kept t.pool t.heads t.maps t.held.items t.touched.items t.named.items t.free_heads t.free_leaves c.self.invariant c.args.slot c.args.p.0 c.args.a c.args.d c.requires.block c.requires.range (subst (λ (x : TableView). head_map (head_in x.heads c.args.slot) (range_of c.args.p.0) ≡ suc c.args.d) (sym c.self.view_is) c.requires.map)
    (subst (λ (x : TableView). MaySet x c.args.slot c.args.p.0 c.args.a) (sym c.self.view_is) c.requires.may)
    c.args.row (subst (λ (x : TableView). c.args.row ≡ slice_set (row_at x.maps c.args.d) (c.args.p.0 % head_blocks) (suc c.args.a)) (sym c.self.view_is) c.requires.row) c.rename.new.named.items c.rename.new.free
    (slice_index c.replace-old.result (c.args.p.0 % head_blocks)) (ap (λ (l : List ℕ). slice_index l (c.args.p.0 % head_blocks)) c.replace-old.ensures.old) c.rename.ensures.named
    (subst (λ (l : List Bool). AreFree l c.rename.new.named.items c.rename.new.free) c.deref.ensures.value c.rename.ensures.kept) c.replace-old.new.self c.replace-old.ensures.new

pub returns : goal.returns
returns c =
    let t = c.self.inside in
    subst (λ (x : TableView). IsChanged x x.heads (slice_set x.maps c.args.d c.args.row) (table_view t.pool t.heads c.replace-old.new.self t.held.items t.touched.items t.free_heads c.rename.new.free)) c.self.view_is
    (entry_changed t.pool t.heads t.maps t.held.items t.touched.items t.named.items t.free_heads t.free_leaves c.self.invariant c.args.slot c.args.p.0 c.args.a c.args.d c.requires.block c.requires.range (subst (λ (x : TableView). head_map (head_in x.heads c.args.slot) (range_of c.args.p.0) ≡ suc c.args.d) (sym c.self.view_is) c.requires.map)
    (subst (λ (x : TableView). MaySet x c.args.slot c.args.p.0 c.args.a) (sym c.self.view_is) c.requires.may)
    c.args.row (subst (λ (x : TableView). c.args.row ≡ slice_set (row_at x.maps c.args.d) (c.args.p.0 % head_blocks) (suc c.args.a)) (sym c.self.view_is) c.requires.row) c.rename.new.named.items c.rename.new.free
    (slice_index c.replace-old.result (c.args.p.0 % head_blocks)) (ap (λ (l : List ℕ). slice_index l (c.args.p.0 % head_blocks)) c.replace-old.ensures.old) c.rename.ensures.named
    (subst (λ (l : List Bool). AreFree l c.rename.new.named.items c.rename.new.free) c.deref.ensures.value c.rename.ensures.kept) c.replace-old.new.self c.replace-old.ensures.new c.rename.ensures.promised)
