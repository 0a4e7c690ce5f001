use Rattle.jn_files.proofs.Common.{◌≡◌, ◌%◌, Bool, true, false, add-one, arith, rules, sym, ap, ◌∙◌, subst, refl, replicate, is_ok, slice_set, head_blocks, map_page, data_place, StorePut, IsOnly, TableView, IsTable, head_in, with_map, one_entry, range_of, IsLeaf, FillsMap, HasPagesOfTable}
use Rattle.jn_files.proofs.Leaves.{fills_map}
use Rattle.jn_files.proofs.Stored.{new_below, new_unnamed, leaf_then, puts_map_head}
use Rattle.jn_files.proofs.Turning.{held_below}
use Rattle.jn_files.proofs.table.FileTable.bring_map.Goals as goal

pub with_entry-row-requires-clause-leaf : goal.with_entry-row-requires-clause-leaf
with_entry-row-requires-clause-leaf g c =
    let is = subst (λ (x : TableView). IsTable x) c.self.view_is c.self.invariant.table in
    let lt = held_below c.args.self.now is c.args.a c.requires.may.leaf.held in
    let few = is.few_leaves in
    omega (arith, lt, few)

pub returns-in_err-put : goal.returns-in_err-put
returns-in_err-put g c f own become =
    let is = subst (λ (x : TableView). IsTable x) c.self.view_is c.self.invariant.table in
    let row_is : c.with_entry-row.result ≡ one_entry (c.args.p.0 % head_blocks) c.args.a = c.with_entry-row.ensures ∙ ap (slice_set (replicate head_blocks 0) (c.args.p.0 % head_blocks)) (add-one c.args.a) in
    let no_ok : is_ok c.from_residual.result ≡ false = search rules in
    record {
      store = (g.S.StableStore.view c.put.new.self);
      ready = false;
      fills = fills_map c.args.self.now (g.S.StableStore.view c.args.store.now) c.args.d (one_entry (c.args.p.0 % head_blocks) c.args.a) false (g.S.StableStore.view c.put.new.self) c.data_page.result c.map_page.result c.data_page.ensures (c.map_page.ensures ∙ ap map_page row_is) c.in_err-put.ensures.put
          is (new_below c.args.self.now (g.S.StableStore.view c.args.store.now) c.args.slot c.args.p c.args.a c.args.d is c.requires.may c.requires.fits) (new_unnamed c.args.self.now (g.S.StableStore.view c.args.store.now) c.args.slot c.args.p c.args.a c.args.d is c.requires.may c.requires.fits) c.requires.fits;
      head = λ e. absurd (cc e);
      stopped = λ e. (no_ok, refl, refl);
    }

pub returns-in_err-put-2 : goal.returns-in_err-put-2
returns-in_err-put-2 g c f own become =
    let is = subst (λ (x : TableView). IsTable x) c.self.view_is c.self.invariant.table in
    let row_is : c.with_entry-row.result ≡ one_entry (c.args.p.0 % head_blocks) c.args.a = c.with_entry-row.ensures ∙ ap (slice_set (replicate head_blocks 0) (c.args.p.0 % head_blocks)) (add-one c.args.a) in
    let head_is : c.with_map-head.result ≡ with_map (range_of c.args.p.0) c.args.d (head_in c.args.self.now.heads c.args.slot) = c.with_map-head.ensures ∙ ap (with_map (range_of c.args.p.0) c.args.d) (c.slot.ensures ∙ ap (λ (x : TableView). head_in x.heads c.args.slot) c.self.view_is) in
    let fills : FillsMap c.args.self.now (g.S.StableStore.view c.args.store.now) c.args.d (one_entry (c.args.p.0 % head_blocks) c.args.a) true (g.S.StableStore.view c.put.new.self) =
    fills_map c.args.self.now (g.S.StableStore.view c.args.store.now) c.args.d (one_entry (c.args.p.0 % head_blocks) c.args.a) true (g.S.StableStore.view c.put.new.self) c.data_page.result c.map_page.result c.data_page.ensures (c.map_page.ensures ∙ ap map_page row_is) c.in_ok-put.ensures.put
    is (new_below c.args.self.now (g.S.StableStore.view c.args.store.now) c.args.slot c.args.p c.args.a c.args.d is c.requires.may c.requires.fits) (new_unnamed c.args.self.now (g.S.StableStore.view c.args.store.now) c.args.slot c.args.p c.args.a c.args.d is c.requires.may c.requires.fits) c.requires.fits in
    let only : IsOnly (g.S.StableStore.view c.put.new.self) (data_place c.args.self.now.counts c.args.d) (map_page (one_entry (c.args.p.0 % head_blocks) c.args.a)) = fills.put.done refl in
    let leaf : IsLeaf (g.S.StableStore.view c.put.new.self) (data_place c.args.self.now.counts c.args.a) = leaf_then c.args.self.now (g.S.StableStore.view c.args.store.now) c.args.slot c.args.p c.args.a c.args.d is c.requires.may c.requires.fits true (one_entry (c.args.p.0 % head_blocks) c.args.a) (g.S.StableStore.view c.put.new.self) fills become.leaf in
    let fits : HasPagesOfTable c.args.self.now (g.S.StableStore.view c.put.new.self) = fills.put.later.count ∙ c.requires.fits in
    let no_ok : is_ok c.from_residual-in_err-put-2.result ≡ false = search rules in
    record {
      store = (g.S.StableStore.view c.put.new.self);
      ready = true;
      fills = fills;
      head = λ e. puts_map_head c.args.self.now (g.S.StableStore.view c.put.new.self) c.args.slot c.args.p c.args.a c.args.d is c.requires.may fits only leaf f own (is_ok c.from_residual-in_err-put-2.result) c.args.self.now (g.S.StableStore.view c.put-2.new.self) c.with_map-head.result head_is c.with_entry-row.result row_is c.head_page.result c.page.result c.head_page.ensures c.page.ensures
          (subst (λ (b : Bool). StorePut (g.S.StableStore.view c.put.new.self) c.head_page.result c.page.result b (g.S.StableStore.view c.put-2.new.self)) (sym no_ok) c.in_err-put-2.ensures.put) (λ d. absurd (cc (d, no_ok))) (λ d. refl);
      stopped = λ e. absurd (cc e);
    }

pub returns : goal.returns
returns g c f own become =
    let is = subst (λ (x : TableView). IsTable x) c.self.view_is c.self.invariant.table in
    let row_is : c.with_entry-row.result ≡ one_entry (c.args.p.0 % head_blocks) c.args.a = c.with_entry-row.ensures ∙ ap (slice_set (replicate head_blocks 0) (c.args.p.0 % head_blocks)) (add-one c.args.a) in
    let head_is : c.with_map-head.result ≡ with_map (range_of c.args.p.0) c.args.d (head_in c.args.self.now.heads c.args.slot) = c.with_map-head.ensures ∙ ap (with_map (range_of c.args.p.0) c.args.d) (c.slot.ensures ∙ ap (λ (x : TableView). head_in x.heads c.args.slot) c.self.view_is) in
    let fills : FillsMap c.args.self.now (g.S.StableStore.view c.args.store.now) c.args.d (one_entry (c.args.p.0 % head_blocks) c.args.a) true (g.S.StableStore.view c.put.new.self) =
    fills_map c.args.self.now (g.S.StableStore.view c.args.store.now) c.args.d (one_entry (c.args.p.0 % head_blocks) c.args.a) true (g.S.StableStore.view c.put.new.self) c.data_page.result c.map_page.result c.data_page.ensures (c.map_page.ensures ∙ ap map_page row_is) c.in_ok-put.ensures.put
    is (new_below c.args.self.now (g.S.StableStore.view c.args.store.now) c.args.slot c.args.p c.args.a c.args.d is c.requires.may c.requires.fits) (new_unnamed c.args.self.now (g.S.StableStore.view c.args.store.now) c.args.slot c.args.p c.args.a c.args.d is c.requires.may c.requires.fits) c.requires.fits in
    let only : IsOnly (g.S.StableStore.view c.put.new.self) (data_place c.args.self.now.counts c.args.d) (map_page (one_entry (c.args.p.0 % head_blocks) c.args.a)) = fills.put.done refl in
    let leaf : IsLeaf (g.S.StableStore.view c.put.new.self) (data_place c.args.self.now.counts c.args.a) = leaf_then c.args.self.now (g.S.StableStore.view c.args.store.now) c.args.slot c.args.p c.args.a c.args.d is c.requires.may c.requires.fits true (one_entry (c.args.p.0 % head_blocks) c.args.a) (g.S.StableStore.view c.put.new.self) fills become.leaf in
    let fits : HasPagesOfTable c.args.self.now (g.S.StableStore.view c.put.new.self) = fills.put.later.count ∙ c.requires.fits in
    record {
      store = (g.S.StableStore.view c.put.new.self);
      ready = true;
      fills = fills;
      head = λ e. puts_map_head c.args.self.now (g.S.StableStore.view c.put.new.self) c.args.slot c.args.p c.args.a c.args.d is c.requires.may fits only leaf f own true c.set_map.new.self (g.S.StableStore.view c.put-2.new.self) c.with_map-head.result head_is c.with_entry-row.result row_is c.head_page.result c.page.result c.head_page.ensures c.page.ensures
          c.in_ok-put-2.ensures.put (λ d. c.set_map.ensures) (λ d. absurd (cc d));
      stopped = λ e. absurd (cc e);
    }
