use Rattle.jn_files.proofs.Common.{◌≡◌, ◌%◌, ◌+◌, ℕ, suc, List, add-one, Bool, true, false, rules, sym, ap, ◌∙◌, subst, refl, is_ok, slice_set, head_blocks, StorePut, TableView, IsTable, row_at}
use Rattle.jn_files.proofs.Stored.{puts_entry}
use Rattle.jn_files.proofs.table.FileTable.put_entry.Goals as goal

pub returns : goal.returns
returns g c f own become =
    let is = subst (λ (x : TableView). IsTable x) c.self.view_is c.self.invariant.table in
    let row_is : c.with_entry-row.result ≡ slice_set (row_at c.args.self.now.maps c.args.d) (c.args.p.0 % head_blocks) (suc c.args.a) =
    c.with_entry-row.ensures ∙ ap (λ (l : List ℕ). slice_set l (c.args.p.0 % head_blocks) (c.args.a + 1)) (c.row.ensures ∙ ap (λ (x : TableView). row_at x.maps c.args.d) c.self.view_is)
    ∙ ap (slice_set (row_at c.args.self.now.maps c.args.d) (c.args.p.0 % head_blocks)) (add-one c.args.a) in
    puts_entry c.args.self.now (g.S.StableStore.view c.args.store.now) c.args.slot c.args.d c.args.p c.args.a is c.requires.block c.requires.range c.requires.map c.requires.may c.requires.fits f own become true c.set_entry.new.self (g.S.StableStore.view c.put.new.self) c.with_entry-row.result row_is c.data_page.result c.map_page.result
    c.data_page.ensures c.map_page.ensures c.in_ok-put.ensures.put (λ e. c.set_entry.ensures) (λ e. absurd (cc e))

pub returns-in_err-put : goal.returns-in_err-put
returns-in_err-put g c f own become =
    let is = subst (λ (x : TableView). IsTable x) c.self.view_is c.self.invariant.table in
    let row_is : c.with_entry-row.result ≡ slice_set (row_at c.args.self.now.maps c.args.d) (c.args.p.0 % head_blocks) (suc c.args.a) =
    c.with_entry-row.ensures ∙ ap (λ (l : List ℕ). slice_set l (c.args.p.0 % head_blocks) (c.args.a + 1)) (c.row.ensures ∙ ap (λ (x : TableView). row_at x.maps c.args.d) c.self.view_is)
    ∙ ap (slice_set (row_at c.args.self.now.maps c.args.d) (c.args.p.0 % head_blocks)) (add-one c.args.a) in
    let no_ok : is_ok c.from_residual.result ≡ false = search rules in
    puts_entry c.args.self.now (g.S.StableStore.view c.args.store.now) c.args.slot c.args.d c.args.p c.args.a is c.requires.block c.requires.range c.requires.map c.requires.may c.requires.fits f own become (is_ok c.from_residual.result) c.args.self.now (g.S.StableStore.view c.put.new.self) c.with_entry-row.result row_is c.data_page.result c.map_page.result
    c.data_page.ensures c.map_page.ensures (subst (λ (b : Bool). StorePut (g.S.StableStore.view c.args.store.now) c.data_page.result c.map_page.result b (g.S.StableStore.view c.put.new.self)) (sym no_ok) c.in_err-put.ensures.put)
    (λ e. absurd (cc (e, no_ok))) (λ e. refl)
