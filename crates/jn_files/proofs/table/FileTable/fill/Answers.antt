use Rattle.jn_files.proofs.Common.{◌≡◌, ◌<◌, Bool, true, false, subst, sym, refl, true≢false, arith, rules, ◌∙◌, is_ok, StorePut, TableView, IsTable}
use Rattle.jn_files.proofs.Between.{set_below}
use Rattle.jn_files.proofs.Leaves.{fills}
use Rattle.jn_files.proofs.table.FileTable.fill.Goals as goal

pub put-requires : goal.put-requires
put-requires g c =
    let is = subst (λ (x : TableView). IsTable x) c.self.view_is c.self.invariant.table in
    let lt = set_below c.args.self.now.held c.args.a c.requires.held in
    let n = is.leaves in
    let place = c.data_page.ensures in
    let fits = c.requires.fits in
    omega arith

pub note_touch-requires : goal.note_touch-requires
note_touch-requires g c =
    let is = subst (λ (x : TableView). IsTable x) c.self.view_is c.self.invariant.table in
    let lt = set_below c.args.self.now.held c.args.a c.requires.held in
    let n = is.leaves in
    omega arith

pub returns : goal.returns
returns g c =
    let is = subst (λ (x : TableView). IsTable x) c.self.view_is c.self.invariant.table in
    let lt = set_below c.args.self.now.held c.args.a c.requires.held in
    let below : c.args.a < c.args.self.now.counts.leaves = let n = is.leaves in omega arith in
    fills c.args.self.now (g.S.StableStore.view c.args.store.now) c.args.a c.args.block.now true (g.S.StableStore.view c.put.new.self) c.data_page.result c.leaf_page.result
    c.data_page.ensures c.leaf_page.ensures c.in_ok-put.ensures.put is below c.requires.unnamed c.requires.fits c.told-block c.note_touch.new.self (λ _. c.note_touch.ensures) (λ e. absurd (true≢false e))

pub returns-in_err-put : goal.returns-in_err-put
returns-in_err-put g c =
    let is = subst (λ (x : TableView). IsTable x) c.self.view_is c.self.invariant.table in
    let lt = set_below c.args.self.now.held c.args.a c.requires.held in
    let below : c.args.a < c.args.self.now.counts.leaves = let n = is.leaves in omega arith in
    let no_ok : is_ok c.from_residual.result ≡ false = search rules in
    fills c.args.self.now (g.S.StableStore.view c.args.store.now) c.args.a c.args.block.now (is_ok c.from_residual.result) (g.S.StableStore.view c.put.new.self) c.data_page.result c.leaf_page.result
    c.data_page.ensures c.leaf_page.ensures (subst (λ (b : Bool). StorePut (g.S.StableStore.view c.args.store.now) c.data_page.result c.leaf_page.result b (g.S.StableStore.view c.put.new.self)) (sym no_ok) c.in_err-put.ensures.put)
    is below c.requires.unnamed c.requires.fits c.told-block c.args.self.now (λ e. absurd (true≢false (sym e ∙ no_ok))) (λ _. refl)
