use Rattle.jn_files.proofs.Common.{◌≡◌, ◌<◌, ◌-◌, ◌%◌, ℕ, true, false, List, arith, rules, refl, sym, ap, ◌∙◌, subst, is_ok, head_blocks, BlockNo, cut_from, Head, is_in_range, among, TableView, IsTable, is_of, head_in, row_at, cut_map, cut_head, cut_addresses, range_of, PutsHead, PutsMap}
use Rattle.jn_files.proofs.Calling.{cut_at_once, cut_then}
use Rattle.jn_files.proofs.Places.{cut_map_is}
use Rattle.jn_files.proofs.table.FileTable.set_cut.Goals as goal

pub returns-then-address-eq0 : goal.returns-then-address-eq0
returns-then-address-eq0 g c =
    let is = subst (λ (x : TableView). IsTable x) c.self.view_is c.self.invariant.table in
    let own : is_of c.args.f (head_in c.args.self.now.heads c.in-Some.slot) ≡ true = ap (λ (x : TableView). is_of c.args.f (head_in x.heads c.in-Some.slot)) (sym c.self.view_is) ∙ c.in-Some.ensures.found.1 in
    let below = subst (λ (x : TableView). c.in-Some.slot < x.counts.heads) c.self.view_is c.in-Some.ensures.found.0 in
    let read : c.cut_map-address.result ≡ cut_map c.args.n.0 (head_in c.args.self.now.heads c.in-Some.slot) = c.cut_map-address.ensures ∙ ap (cut_map c.args.n.0) (c.slot.ensures ∙ ap (λ (x : TableView). head_in x.heads c.in-Some.slot) c.self.view_is) in
    record {
      slot = c.in-Some.slot;
      below = below;
      own = own;
      at_once = λ e. c.cut_head.ensures c.args.f own (cut_at_once c.args.self.now c.in-Some.slot c.args.n.0 e);
      in_two = λ d e. absurd (let none = c.if-address-eq0.true in omega (arith, e, read, none));
    }

pub returns-in_err-cut_map : goal.returns-in_err-cut_map
returns-in_err-cut_map g c =
    let is = subst (λ (x : TableView). IsTable x) c.self.view_is c.self.invariant.table in
    let own : is_of c.args.f (head_in c.args.self.now.heads c.in-Some.slot) ≡ true = ap (λ (x : TableView). is_of c.args.f (head_in x.heads c.in-Some.slot)) (sym c.self.view_is) ∙ c.in-Some.ensures.found.1 in
    let below = subst (λ (x : TableView). c.in-Some.slot < x.counts.heads) c.self.view_is c.in-Some.ensures.found.0 in
    let read : c.cut_map-address.result ≡ cut_map c.args.n.0 (head_in c.args.self.now.heads c.in-Some.slot) = c.cut_map-address.ensures ∙ ap (cut_map c.args.n.0) (c.slot.ensures ∙ ap (λ (x : TableView). head_in x.heads c.in-Some.slot) c.self.view_is) in
    let no_ok : is_ok c.from_residual.result ≡ false = search rules in
    record {
      slot = c.in-Some.slot;
      below = below;
      own = own;
      at_once = λ e. absurd (c.if-address-eq0.false (read ∙ e));
      in_two = λ d e. record {
        table = c.cut_map.new.self;
        store = g.S.StableStore.view c.cut_map.new.store;
        ready = false;
        inside = subst (λ (k : ℕ). PutsMap c.args.self.now (g.S.StableStore.view c.args.store.now) c.in-Some.slot k (cut_addresses (c.args.n.0 % head_blocks) (row_at c.args.self.now.maps k)) (λ leaves. among (λ (p : BlockNo). is_in_range (range_of c.args.n.0) p.0) (cut_from c.args.f c.args.n)) false c.cut_map.new.self (g.S.StableStore.view c.cut_map.new.store)) (let same : c.cut_map-address.result - 1 ≡ d = omega (arith, read, e) in same) (c.in_err-cut_map.ensures c.args.f own);
        whole = λ ready. absurd (cc ready);
        stopped = λ ready. (no_ok, refl, refl);
      };
    }

pub returns : goal.returns
returns g c =
    let is = subst (λ (x : TableView). IsTable x) c.self.view_is c.self.invariant.table in
    let own : is_of c.args.f (head_in c.args.self.now.heads c.in-Some.slot) ≡ true = ap (λ (x : TableView). is_of c.args.f (head_in x.heads c.in-Some.slot)) (sym c.self.view_is) ∙ c.in-Some.ensures.found.1 in
    let below = subst (λ (x : TableView). c.in-Some.slot < x.counts.heads) c.self.view_is c.in-Some.ensures.found.0 in
    let read : c.cut_map-address.result ≡ cut_map c.args.n.0 (head_in c.args.self.now.heads c.in-Some.slot) = c.cut_map-address.ensures ∙ ap (cut_map c.args.n.0) (c.slot.ensures ∙ ap (λ (x : TableView). head_in x.heads c.in-Some.slot) c.self.view_is) in
    record {
      slot = c.in-Some.slot;
      below = below;
      own = own;
      at_once = λ e. absurd (c.if-address-eq0.false (read ∙ e));
      in_two = λ d e.
          let inside = subst (λ (k : ℕ). PutsMap c.args.self.now (g.S.StableStore.view c.args.store.now) c.in-Some.slot k (cut_addresses (c.args.n.0 % head_blocks) (row_at c.args.self.now.maps k)) (λ leaves. among (λ (p : BlockNo). is_in_range (range_of c.args.n.0) p.0) (cut_from c.args.f c.args.n)) true c.cut_map.new.self (g.S.StableStore.view c.cut_map.new.store)) (let same : c.cut_map-address.result - 1 ≡ d = omega (arith, read, e) in same) (c.in_ok-cut_map.ensures c.args.f own) in
          let changed = inside.done refl in
          let at = cut_map_is c.args.n.0 (head_in c.args.self.now.heads c.in-Some.slot) d e in
          record {
            table = c.cut_map.new.self;
            store = g.S.StableStore.view c.cut_map.new.store;
            ready = true;
            inside = inside;
            whole = λ ready. subst (λ (l : List Head). PutsHead c.cut_map.new.self (g.S.StableStore.view c.cut_map.new.store) c.in-Some.slot (cut_head c.args.n.0 (head_in l c.in-Some.slot)) c.cut_map.new.self.maps (λ leaves. cut_from c.args.f c.args.n)
                (is_ok c.cut_head-2.result) c.cut_head-2.new.self (g.S.StableStore.view c.cut_head-2.new.store)) changed.heads
                (c.cut_head-2.ensures c.args.f (ap (λ (l : List Head). is_of c.args.f (head_in l c.in-Some.slot)) changed.heads ∙ own)
                (cut_then c.args.self.now is c.in-Some.slot c.args.n.0 d below at.0 c.requires.range at.1 c.cut_map.new.self changed));
            stopped = λ ready. absurd (cc ready);
          };
    }
