use Rattle.jn_files.proofs.Common.{◌≡◌, ◌<◌, ◌%◌, ℕ, suc, sym, ap, ◌∙◌, subst, List, Bool, drop, head_blocks, TableView, head_in, row_at, cut_addresses, cut_map, IsChanged, AreFree, table_view, unnamed_all}
use Rattle.std.proofs.Common.{slice_set}
use Rattle.jn_files.proofs.Places.{cut_map_is}
use Rattle.jn_files.proofs.Holding.{cut_row_kept, cut_row_changed}
use Rattle.jn_files.proofs.Standing.{free_by}
use Rattle.jn_files.proofs.table.FileTable.set_cut_row.Goals as goal

pub unname_row-requires-clause-kept : goal.unname_row-requires-clause-kept
unname_row-requires-clause-kept c =
    let t = c.self.inside in
    subst (λ (l : List Bool). AreFree l t.named.items t.free_leaves) (sym c.deref.ensures.value) (free_by t.pool t.heads t.maps t.held.items t.touched.items t.named.items t.free_heads t.free_leaves c.self.invariant)

pub invariant_of-self : goal.invariant_of-self
invariant_of-self c =
    let t = c.self.inside in
    let below = subst (λ (x : TableView). c.args.slot < x.counts.heads) (sym c.self.view_is) c.requires.slot in
    let high = cut_map_is c.args.n.0 (head_in t.heads c.args.slot) c.args.d (subst (λ (x : TableView). cut_map c.args.n.0 (head_in x.heads c.args.slot) ≡ suc c.args.d) (sym c.self.view_is) c.requires.map) in
    cut_row_kept t.pool t.heads t.maps t.held.items t.touched.items t.named.items t.free_heads t.free_leaves c.self.invariant c.args.slot c.args.n.0 c.args.d below high.0 c.requires.range high.1
    c.args.row (subst (λ (x : TableView). c.args.row ≡ cut_addresses (c.args.n.0 % head_blocks) (row_at x.maps c.args.d)) (sym c.self.view_is) c.requires.row) c.unname_row.new.named.items c.unname_row.new.free
    (c.unname_row.ensures.named ∙ ap (λ (l : List ℕ). unnamed_all (drop (c.args.n.0 % head_blocks) l) t.named.items) c.replace-old.ensures.old)
    (subst (λ (l : List Bool). AreFree l c.unname_row.new.named.items c.unname_row.new.free) c.deref.ensures.value c.unname_row.ensures.kept) c.replace-old.new.self c.replace-old.ensures.new

pub returns : goal.returns
returns c =
    let t = c.self.inside in
    let below = subst (λ (x : TableView). c.args.slot < x.counts.heads) (sym c.self.view_is) c.requires.slot in
    let high = cut_map_is c.args.n.0 (head_in t.heads c.args.slot) c.args.d (subst (λ (x : TableView). cut_map c.args.n.0 (head_in x.heads c.args.slot) ≡ suc c.args.d) (sym c.self.view_is) c.requires.map) in
    subst (λ (x : TableView). IsChanged x x.heads (slice_set x.maps c.args.d c.args.row) (table_view t.pool t.heads c.replace-old.new.self t.held.items t.touched.items t.free_heads c.unname_row.new.free)) c.self.view_is
    (cut_row_changed t.pool t.heads t.maps t.held.items t.touched.items t.named.items t.free_heads t.free_leaves c.self.invariant c.args.slot c.args.n.0 c.args.d below high.0 c.requires.range high.1
    c.args.row (subst (λ (x : TableView). c.args.row ≡ cut_addresses (c.args.n.0 % head_blocks) (row_at x.maps c.args.d)) (sym c.self.view_is) c.requires.row) c.unname_row.new.named.items c.unname_row.new.free
    (c.unname_row.ensures.named ∙ ap (λ (l : List ℕ). unnamed_all (drop (c.args.n.0 % head_blocks) l) t.named.items) c.replace-old.ensures.old)
    (subst (λ (l : List Bool). AreFree l c.unname_row.new.named.items c.unname_row.new.free) c.deref.ensures.value c.unname_row.ensures.kept) c.replace-old.new.self c.replace-old.ensures.new c.unname_row.ensures.promised)
