use Rattle.jn_files.proofs.Common.{◌≡◌, Bool, true, false, rules, sym, ap, ◌∙◌, subst, refl, is_ok, Head, StorePut, TableView, IsTable, head_in, with_leaf}
use Rattle.jn_files.proofs.Stored.{puts_leaf}
use Rattle.jn_files.proofs.table.FileTable.put_leaf.Goals as goal

pub returns : goal.returns
returns g c f own become =
    let is = subst (λ (x : TableView). IsTable x) c.self.view_is c.self.invariant.table in
    let read : c.slot.result.now ≡ head_in c.args.self.now.heads c.args.slot = c.slot.ensures ∙ ap (λ (x : TableView). head_in x.heads c.args.slot) c.self.view_is in
    let head_is : c.with_leaf-head.result ≡ with_leaf c.args.p.0 c.args.a (head_in c.args.self.now.heads c.args.slot) = subst (λ (h : Head). c.with_leaf-head.result ≡ with_leaf c.args.p.0 c.args.a h) read c.with_leaf-head.ensures in
    puts_leaf c.args.self.now (g.S.StableStore.view c.args.store.now) c.args.slot c.args.p c.args.a is c.requires.block c.requires.may c.requires.fits f own become true c.set_leaf.new.self (g.S.StableStore.view c.put.new.self) c.with_leaf-head.result head_is c.head_page.result c.page.result
    c.head_page.ensures c.page.ensures c.in_ok-put.ensures.put (λ e. c.set_leaf.ensures) (λ e. absurd (cc e))

pub returns-in_err-put : goal.returns-in_err-put
returns-in_err-put g c f own become =
    let is = subst (λ (x : TableView). IsTable x) c.self.view_is c.self.invariant.table in
    let read : c.slot.result.now ≡ head_in c.args.self.now.heads c.args.slot = c.slot.ensures ∙ ap (λ (x : TableView). head_in x.heads c.args.slot) c.self.view_is in
    let head_is : c.with_leaf-head.result ≡ with_leaf c.args.p.0 c.args.a (head_in c.args.self.now.heads c.args.slot) = subst (λ (h : Head). c.with_leaf-head.result ≡ with_leaf c.args.p.0 c.args.a h) read c.with_leaf-head.ensures in
    let no_ok : is_ok c.from_residual.result ≡ false = search rules in
    puts_leaf c.args.self.now (g.S.StableStore.view c.args.store.now) c.args.slot c.args.p c.args.a is c.requires.block c.requires.may c.requires.fits f own become (is_ok c.from_residual.result) c.args.self.now (g.S.StableStore.view c.put.new.self) c.with_leaf-head.result head_is c.head_page.result c.page.result
    c.head_page.ensures c.page.ensures (subst (λ (b : Bool). StorePut (g.S.StableStore.view c.args.store.now) c.head_page.result c.page.result b (g.S.StableStore.view c.put.new.self)) (sym no_ok) c.in_err-put.ensures.put)
    (λ e. absurd (cc (e, no_ok))) (λ e. refl)
