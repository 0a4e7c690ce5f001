use Rattle.jn_files.proofs.Common.{sym, subst, is_ok, slice_set, created, Head, TableView, IsTable, IsPlaceOf, PutsHead, MayPutHead, IsChange}
use Rattle.jn_files.proofs.Calling.{place_below, may_fresh, fresh_changes}
use Rattle.jn_files.proofs.table.FileTable.set_fresh.Goals as goal

pub put_head-requires-clause-may : goal.put_head-requires-clause-may
put_head-requires-clause-may g c =
    let is = subst (λ (x : TableView). IsTable x) c.self.view_is c.self.invariant.table in
    let place = subst (λ (x : TableView). IsPlaceOf x c.args.f c.place_of-slot.result) c.self.view_is c.place_of-slot.ensures in
    let may = may_fresh c.args.self.now is c.args.f c.place_of-slot.result place c.fresh.ensures.fits c.requires.room in
    subst (λ (h : Head). MayPutHead c.args.self.now c.place_of-slot.result h 0) (sym c.fresh.ensures.fresh) may

pub returns : goal.returns
returns g c =
    let is = subst (λ (x : TableView). IsTable x) c.self.view_is c.self.invariant.table in
    let place = subst (λ (x : TableView). IsPlaceOf x c.args.f c.place_of-slot.result) c.self.view_is c.place_of-slot.ensures in
    let may = may_fresh c.args.self.now is c.args.f c.place_of-slot.result place c.fresh.ensures.fits c.requires.room in
    record {
      slot = c.place_of-slot.result;
      below = place_below c.args.self.now is c.args.f c.place_of-slot.result place;
      place = place;
      puts = subst (λ (h : Head). PutsHead c.args.self.now (g.S.StableStore.view c.args.store.now) c.place_of-slot.result h c.args.self.now.maps (λ leaves. created c.args.f) (is_ok c.put_head.result) c.put_head.new.self (g.S.StableStore.view c.put_head.new.store)) c.fresh.ensures.fresh
          (c.put_head.ensures (λ leaves. created c.args.f) (subst (λ (h : Head). IsChange c.args.self.now (slice_set c.args.self.now.heads c.place_of-slot.result h) c.args.self.now.maps (λ leaves. created c.args.f)) (sym c.fresh.ensures.fresh)
          (fresh_changes c.args.self.now is c.args.f c.place_of-slot.result place may)));
    }
