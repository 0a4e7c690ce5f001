use Rattle.jn_files.proofs.Common.{◌≡◌, false, Err, Ok, Some, ◌∙◌, subst, sym, refl, rules, is_ok, TableView, IsTable}
use Rattle.jn_files.proofs.Touching.{code_below, code_place, code_got, code_stopped, no_block, the_block}
use Rattle.jn_files.proofs.table.FileTable.read_block.Goals as goal

pub touch-requires-clause-below : goal.touch-requires-clause-below
touch-requires-clause-below g c =
    let is = subst (λ (x : TableView). IsTable x) c.self.view_is c.self.invariant.table in
    let address = c.address_for-address.ensures in
    code_below c.args.self.now (g.S.StableStore.view c.args.store.now) is c.requires.fits c.requires.holds c.args.f c.args.p c.requires.range c.address_for-address.result address c.if-address-eq0.false

pub returns-in_err-touch-clause-got : goal.returns-in_err-touch-clause-got
returns-in_err-touch-clause-got g c =
    let is = subst (λ (x : TableView). IsTable x) c.self.view_is c.self.invariant.table in
    let address = c.address_for-address.ensures in
    let bad : is_ok c.touch.result ≡ false = search rules in
    let no_ok : is_ok c.from_residual.result ≡ false = search rules in
    code_stopped c.args.self.now (g.S.StableStore.view c.args.store.now) is c.requires.fits c.requires.holds c.args.f c.args.p c.requires.range c.address_for-address.result address
    c.touch.new.self (g.S.StableStore.view c.touch.new.store) (is_ok c.touch.result) (Err c.in_err-touch.field-0.0) c.from_residual.result c.touch.ensures bad no_ok

pub get-requires : goal.get-requires
get-requires g c =
    let is = subst (λ (x : TableView). IsTable x) c.self.view_is c.self.invariant.table in
    let address = c.address_for-address.ensures in
    code_place c.args.self.now (g.S.StableStore.view c.args.store.now) is c.requires.fits c.requires.holds c.args.f c.args.p c.requires.range c.address_for-address.result address
    c.touch.new.self (g.S.StableStore.view c.touch.new.store) c.in_ok-touch.ensures c.data_page.result c.data_page.ensures c.if-address-eq0.false

pub returns-in_err-page-clause-got : goal.returns-in_err-page-clause-got
returns-in_err-page-clause-got g c =
    let is = subst (λ (x : TableView). IsTable x) c.self.view_is c.self.invariant.table in
    let address = c.address_for-address.ensures in
    let bad : is_ok c.get.result ≡ false = search rules in
    let no_ok : is_ok c.from_residual-in_err-page.result ≡ false = search rules in
    code_got c.args.self.now (g.S.StableStore.view c.args.store.now) is c.requires.fits c.requires.holds c.args.f c.args.p c.requires.range c.address_for-address.result address
    c.touch.new.self (g.S.StableStore.view c.touch.new.store) c.in_ok-touch.ensures c.data_page.result c.data_page.ensures c.get.result c.from_residual-in_err-page.result (g.S.StableStore.view c.get.new.self) c.get.ensures.got
    (no_ok ∙ sym bad) (no_block c.from_residual-in_err-page.result _ no_ok)

pub returns-clause-got : goal.returns-clause-got
returns-clause-got g c =
    let is = subst (λ (x : TableView). IsTable x) c.self.view_is c.self.invariant.table in
    let address = c.address_for-address.ensures in
    code_got c.args.self.now (g.S.StableStore.view c.args.store.now) is c.requires.fits c.requires.holds c.args.f c.args.p c.requires.range c.address_for-address.result address
    c.touch.new.self (g.S.StableStore.view c.touch.new.store) c.in_ok-touch.ensures c.data_page.result c.data_page.ensures (Ok c.in_ok-page.page) (Ok (Some c.block_of.result)) (g.S.StableStore.view c.get.new.self) c.in_ok-page.ensures.got
    refl (the_block c.in_ok-page.page c.block_of.result c.block_of.ensures)
