use Rattle.jn_locks.proofs.Common.{List, get_or, ap, ◌∙◌, arith, Holder, holds_in, at, table_of, units_of}
use Rattle.jn_locks.proofs.Steps.{turn_more, wanted_here, wanted_later, no_want}
use Rattle.jn_locks.proofs.Puts.{turn_holds, listed_same, put_once, put_among}
use Rattle.jn_locks.proofs.held.Held.turn.Goals as goal

pub put-requires : goal.put-requires
put-requires c = grind (arith, c.loop-want.invariant.3 (get_or c.args.wants.now c.loop-want.want-index no_want).unit (wanted_here c.args.wants.now c.loop-want.want-index no_want (omega arith)))

pub loop-want-preserved : goal.loop-want-preserved
loop-want-preserved c = (
  λ V u m. turn_more c.args.wants.now c.loop-want.want-index no_want c.args.work (table_of c.loop-want.self).holds _ (omega arith)
      (turn_holds (at c.loop-want.self.units) (at c.put.new.self) (get_or c.args.wants.now c.loop-want.want-index no_want).unit c.args.work c.committed-modes.result c.put.ensures.at c.modes_of.result c.committed-modes.ensures (λ m. c.modes_of.ensures m ∙ ap (λ (hs : List Holder). holds_in hs c.args.work m) c.at.ensures)) V u m ∙ c.loop-want.invariant.0 V u m,
  c.loop-want.invariant.1,
  record {
    listed = listed_same (at c.loop-want.self.units) (at c.put.new.self) (get_or c.args.wants.now c.loop-want.want-index no_want).unit c.args.work c.committed-modes.result c.put.ensures.at (c.loop-want.invariant.3 (get_or c.args.wants.now c.loop-want.want-index no_want).unit (wanted_here c.args.wants.now c.loop-want.want-index no_want (omega arith))) (units_of c.loop-want.self.works) c.loop-want.invariant.2.listed;
    once = put_once (at c.loop-want.self.units) (at c.put.new.self) (get_or c.args.wants.now c.loop-want.want-index no_want).unit c.args.work c.committed-modes.result c.put.ensures.at c.loop-want.invariant.2.once;
  },
  λ u k. put_among (at c.loop-want.self.units) (at c.put.new.self) (get_or c.args.wants.now c.loop-want.want-index no_want).unit c.args.work c.committed-modes.result c.put.ensures.at c.args.work u ∙ grind (arith, c.loop-want.invariant.3 u (wanted_later c.args.wants.now c.loop-want.want-index no_want u (omega arith) k)),
)
