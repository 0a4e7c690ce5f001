use Rattle.jn_files.proofs.Common.{◌≡◌, ◌%◌, Bool, true, false, rules, sym, ap, ◌∙◌, subst, refl, is_ok, head_blocks, StorePut, TableView, IsTable, head_in, row_at, cut_addresses}
use Rattle.jn_files.proofs.Places.{cut_map_is}
use Rattle.jn_files.proofs.Stored.{puts_cut_row}
use Rattle.jn_files.proofs.table.FileTable.cut_map.Goals as goal

pub returns : goal.returns
returns g c f own =
    let is = subst (λ (x : TableView). IsTable x) c.self.view_is c.self.invariant.table in
    let high = cut_map_is c.args.n.0 (head_in c.args.self.now.heads c.args.slot) c.args.d c.requires.map in
    let row_is : c.cut_row-row.result ≡ cut_addresses (c.args.n.0 % head_blocks) (row_at c.args.self.now.maps c.args.d) =
    c.cut_row-row.ensures ∙ ap (cut_addresses (c.args.n.0 % head_blocks)) (c.row.ensures ∙ ap (λ (x : TableView). row_at x.maps c.args.d) c.self.view_is) in
    puts_cut_row c.args.self.now (g.S.StableStore.view c.args.store.now) c.args.slot c.args.d c.args.n is c.requires.slot high.0 c.requires.range high.1 c.requires.fits f own true c.set_cut_row.new.self (g.S.StableStore.view c.put.new.self) c.cut_row-row.result row_is c.data_page.result c.map_page.result
    c.data_page.ensures c.map_page.ensures c.in_ok-put.ensures.put (λ e. c.set_cut_row.ensures) (λ e. absurd (cc e))

pub returns-in_err-put : goal.returns-in_err-put
returns-in_err-put g c f own =
    let is = subst (λ (x : TableView). IsTable x) c.self.view_is c.self.invariant.table in
    let high = cut_map_is c.args.n.0 (head_in c.args.self.now.heads c.args.slot) c.args.d c.requires.map in
    let row_is : c.cut_row-row.result ≡ cut_addresses (c.args.n.0 % head_blocks) (row_at c.args.self.now.maps c.args.d) =
    c.cut_row-row.ensures ∙ ap (cut_addresses (c.args.n.0 % head_blocks)) (c.row.ensures ∙ ap (λ (x : TableView). row_at x.maps c.args.d) c.self.view_is) in
    let no_ok : is_ok c.from_residual.result ≡ false = search rules in
    puts_cut_row c.args.self.now (g.S.StableStore.view c.args.store.now) c.args.slot c.args.d c.args.n is c.requires.slot high.0 c.requires.range high.1 c.requires.fits f own (is_ok c.from_residual.result) c.args.self.now (g.S.StableStore.view c.put.new.self) c.cut_row-row.result row_is c.data_page.result c.map_page.result
    c.data_page.ensures c.map_page.ensures (subst (λ (b : Bool). StorePut (g.S.StableStore.view c.args.store.now) c.data_page.result c.map_page.result b (g.S.StableStore.view c.put.new.self)) (sym no_ok) c.in_err-put.ensures.put)
    (λ e. absurd (cc (e, no_ok))) (λ e. refl)
