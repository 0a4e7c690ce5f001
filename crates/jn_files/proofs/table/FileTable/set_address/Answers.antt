use Rattle.jn_files.proofs.Common.{◌≡◌, ◌<◌, ◌-◌, ◌%◌, ℕ, suc, true, arith, sym, ap, ◌∙◌, subst, is_ok, slice_set, head_blocks, Head, head_map, TableView, IsTable, is_of, head_in, row_at, range_of, PutsMap, block_written}
use Rattle.jn_files.proofs.Calling.{may_set, may_set_map, no_map_there}
use Rattle.jn_files.proofs.table.FileTable.set_address.Goals as goal

pub put_leaf-requires-clause-may : goal.put_leaf-requires-clause-may
put_leaf-requires-clause-may g c =
    let is = subst (λ (x : TableView). IsTable x) c.self.view_is c.self.invariant.table in
    let own : is_of c.args.f (head_in c.args.self.now.heads c.in-Some.slot) ≡ true = ap (λ (x : TableView). is_of c.args.f (head_in x.heads c.in-Some.slot)) (sym c.self.view_is) ∙ c.in-Some.ensures.found.1 in
    let below = subst (λ (x : TableView). c.in-Some.slot < x.counts.heads) c.self.view_is c.in-Some.ensures.found.0 in
    may_set c.args.self.now is c.args.f c.in-Some.slot c.args.p.0 c.args.a below own c.requires.leaf.held c.requires.leaf.elsewhere

pub overflow_sub-m : goal.overflow_sub-m
overflow_sub-m g c =
    let is = subst (λ (x : TableView). IsTable x) c.self.view_is c.self.invariant.table in
    let own : is_of c.args.f (head_in c.args.self.now.heads c.in-Some.slot) ≡ true = ap (λ (x : TableView). is_of c.args.f (head_in x.heads c.in-Some.slot)) (sym c.self.view_is) ∙ c.in-Some.ensures.found.1 in
    let read : c.map.result ≡ head_map (head_in c.args.self.now.heads c.in-Some.slot) (range_of c.args.p.0) = c.map.ensures ∙ ap (λ (h : Head). head_map h (range_of c.args.p.0)) (c.slot.ensures ∙ ap (λ (x : TableView). head_in x.heads c.in-Some.slot) c.self.view_is) in
    let bring = c.requires.map c.if-p.false (no_map_there c.args.self.now is c.args.f c.in-Some.slot (range_of c.args.p.0) own (sym read ∙ c.in-0.is)) in
    let e = bring.is in
    omega (arith, e)

pub bring_map-requires-clause-may : goal.bring_map-requires-clause-may
bring_map-requires-clause-may g c =
    let is = subst (λ (x : TableView). IsTable x) c.self.view_is c.self.invariant.table in
    let own : is_of c.args.f (head_in c.args.self.now.heads c.in-Some.slot) ≡ true = ap (λ (x : TableView). is_of c.args.f (head_in x.heads c.in-Some.slot)) (sym c.self.view_is) ∙ c.in-Some.ensures.found.1 in
    let below = subst (λ (x : TableView). c.in-Some.slot < x.counts.heads) c.self.view_is c.in-Some.ensures.found.0 in
    let read : c.map.result ≡ head_map (head_in c.args.self.now.heads c.in-Some.slot) (range_of c.args.p.0) = c.map.ensures ∙ ap (λ (h : Head). head_map h (range_of c.args.p.0)) (c.slot.ensures ∙ ap (λ (x : TableView). head_in x.heads c.in-Some.slot) c.self.view_is) in
    may_set_map c.args.self.now is (g.S.StableStore.view c.args.store.now) c.args.f c.in-Some.slot c.args.p.0 c.args.a c.args.m below own c.if-p.false c.requires.range (sym read ∙ c.in-0.is) c.requires.leaf
    (c.requires.map c.if-p.false (no_map_there c.args.self.now is c.args.f c.in-Some.slot (range_of c.args.p.0) own (sym read ∙ c.in-0.is)))

pub put_entry-requires-clause-may : goal.put_entry-requires-clause-may
put_entry-requires-clause-may g c =
    let is = subst (λ (x : TableView). IsTable x) c.self.view_is c.self.invariant.table in
    let own : is_of c.args.f (head_in c.args.self.now.heads c.in-Some.slot) ≡ true = ap (λ (x : TableView). is_of c.args.f (head_in x.heads c.in-Some.slot)) (sym c.self.view_is) ∙ c.in-Some.ensures.found.1 in
    let below = subst (λ (x : TableView). c.in-Some.slot < x.counts.heads) c.self.view_is c.in-Some.ensures.found.0 in
    may_set c.args.self.now is c.args.f c.in-Some.slot c.args.p.0 c.args.a below own c.requires.leaf.held c.requires.leaf.elsewhere

pub returns-in_default-map : goal.returns-in_default-map
returns-in_default-map g c =
    let own : is_of c.args.f (head_in c.args.self.now.heads c.in-Some.slot) ≡ true = ap (λ (x : TableView). is_of c.args.f (head_in x.heads c.in-Some.slot)) (sym c.self.view_is) ∙ c.in-Some.ensures.found.1 in
    let below = subst (λ (x : TableView). c.in-Some.slot < x.counts.heads) c.self.view_is c.in-Some.ensures.found.0 in
    let read : c.map.result ≡ head_map (head_in c.args.self.now.heads c.in-Some.slot) (range_of c.args.p.0) = c.map.ensures ∙ ap (λ (h : Head). head_map h (range_of c.args.p.0)) (c.slot.ensures ∙ ap (λ (x : TableView). head_in x.heads c.in-Some.slot) c.self.view_is) in
    record {
      slot = c.in-Some.slot;
      below = below;
      own = own;
      in_head = λ lt. absurd (let ge = c.if-p.false in omega (arith, lt, ge));
      in_map = λ ge d e. subst (λ (k : ℕ). PutsMap c.args.self.now (g.S.StableStore.view c.args.store.now) c.in-Some.slot k (slice_set (row_at c.args.self.now.maps k) (c.args.p.0 % head_blocks) (suc c.args.a)) (block_written c.args.f c.args.p c.args.a) (is_ok c.put_entry.result) c.put_entry.new.self (g.S.StableStore.view c.put_entry.new.store))
          (let same : c.map.result - 1 ≡ d = omega (arith, read, e) in same) (c.put_entry.ensures c.args.f own c.requires.leaf);
      with_new = λ ge none d m. absurd (let some : 0 < c.map.result = omega arith in omega (arith, some, read, none));
    }
