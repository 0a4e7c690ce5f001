use Rattle.jn_files.proofs.Common.{◌≡◌, inl, true, sym, ap, ◌∙◌, subst, is_ok, slice_set, removed, Head, TableView, IsTable, is_of, head_in, IsPlaceOf, PutsHead, MayPutHead, IsChange}
use Rattle.jn_files.proofs.Calling.{place_below, may_gone, gone_changes}
use Rattle.jn_files.proofs.table.FileTable.set_gone.Goals as goal

pub put_head-requires-clause-may : goal.put_head-requires-clause-may
put_head-requires-clause-may g c =
    let is = subst (λ (x : TableView). IsTable x) c.self.view_is c.self.invariant.table in
    let own : is_of c.args.f (head_in c.args.self.now.heads c.in-Some.slot) ≡ true = ap (λ (x : TableView). is_of c.args.f (head_in x.heads c.in-Some.slot)) (sym c.self.view_is) ∙ c.in-Some.ensures.found.1 in
    let place : IsPlaceOf c.args.self.now c.args.f c.in-Some.slot = inl own in
    let may = may_gone c.args.self.now is c.args.f c.in-Some.slot place in
    subst (λ (h : Head). MayPutHead c.args.self.now c.in-Some.slot h 0) (sym c.free.ensures) may

pub returns-clause-there : goal.returns-clause-there
returns-clause-there g c there =
    let is = subst (λ (x : TableView). IsTable x) c.self.view_is c.self.invariant.table in
    let own : is_of c.args.f (head_in c.args.self.now.heads c.in-Some.slot) ≡ true = ap (λ (x : TableView). is_of c.args.f (head_in x.heads c.in-Some.slot)) (sym c.self.view_is) ∙ c.in-Some.ensures.found.1 in
    let place : IsPlaceOf c.args.self.now c.args.f c.in-Some.slot = inl own in
    let may = may_gone c.args.self.now is c.args.f c.in-Some.slot place in
    record {
      slot = c.in-Some.slot;
      below = place_below c.args.self.now is c.args.f c.in-Some.slot place;
      place = place;
      puts = subst (λ (h : Head). PutsHead c.args.self.now (g.S.StableStore.view c.args.store.now) c.in-Some.slot h c.args.self.now.maps (λ leaves. removed c.args.f) (is_ok c.put_head.result) c.put_head.new.self (g.S.StableStore.view c.put_head.new.store)) c.free.ensures
          (c.put_head.ensures (λ leaves. removed c.args.f) (subst (λ (h : Head). IsChange c.args.self.now (slice_set c.args.self.now.heads c.in-Some.slot h) c.args.self.now.maps (λ leaves. removed c.args.f)) (sym c.free.ensures)
          (gone_changes c.args.self.now is c.args.f c.in-Some.slot place may)));
    }
