use Rattle.jn_locks.proofs.Common.{arith, at, has_room_at, units_of}
use Rattle.jn_locks.proofs.Puts.{add_holds, put_once, put_here, put_still, listed_more, listed_same}
use Rattle.jn_locks.proofs.held.Held.add.Goals as goal

pub returns-then-is_new-clause-holds : goal.returns-then-is_new-clause-holds
returns-then-is_new-clause-holds c = add_holds (at c.args.self.now.units) (at c.add-is_new.new.self) c.args.want.unit c.args.work c.add-is_new.result.1 c.add-is_new.ensures.at c.args.want.mode
    c.add-is_new.ensures.modes

pub returns-then-is_new-clause-here : goal.returns-then-is_new-clause-here
returns-then-is_new-clause-here c = put_here (at c.args.self.now.units) (at c.add-is_new.new.self) c.args.want.unit c.args.work c.add-is_new.result.1 c.add-is_new.ensures.at

pub returns-then-is_new-clause-still : goal.returns-then-is_new-clause-still
returns-then-is_new-clause-still c = put_still (at c.args.self.now.units) (at c.add-is_new.new.self) c.args.want.unit c.args.work c.add-is_new.result.1 c.add-is_new.ensures.at (has_room_at c.args.self.now.units) (has_room_at c.add-is_new.new.self) c.add-is_new.ensures.room

pub returns-else-is_new-clause-holds : goal.returns-else-is_new-clause-holds
returns-else-is_new-clause-holds c = add_holds (at c.args.self.now.units) (at c.add-is_new.new.self) c.args.want.unit c.args.work c.add-is_new.result.1 c.add-is_new.ensures.at c.args.want.mode
    c.add-is_new.ensures.modes

pub returns-else-is_new-clause-here : goal.returns-else-is_new-clause-here
returns-else-is_new-clause-here c = put_here (at c.args.self.now.units) (at c.add-is_new.new.self) c.args.want.unit c.args.work c.add-is_new.result.1 c.add-is_new.ensures.at

pub returns-else-is_new-clause-still : goal.returns-else-is_new-clause-still
returns-else-is_new-clause-still c = put_still (at c.args.self.now.units) (at c.add-is_new.new.self) c.args.want.unit c.args.work c.add-is_new.result.1 c.add-is_new.ensures.at (has_room_at c.args.self.now.units) (has_room_at c.add-is_new.new.self) c.add-is_new.ensures.room

pub returns-then-is_new-clause-sound_after : goal.returns-then-is_new-clause-sound_after
returns-then-is_new-clause-sound_after c = record {
  listed = listed_more (at c.args.self.now.units) (at c.add-is_new.new.self) c.args.want.unit c.args.work c.add-is_new.result.1 c.add-is_new.ensures.at (units_of c.args.self.now.works) (units_of c.push_unit.new.self) c.push_unit.ensures.units c.requires.sound.listed;
  once = put_once (at c.args.self.now.units) (at c.add-is_new.new.self) c.args.want.unit c.args.work c.add-is_new.result.1 c.add-is_new.ensures.at c.requires.sound.once;
}

pub returns-else-is_new-clause-sound_after : goal.returns-else-is_new-clause-sound_after
returns-else-is_new-clause-sound_after c = record {
  listed = listed_same (at c.args.self.now.units) (at c.add-is_new.new.self) c.args.want.unit c.args.work c.add-is_new.result.1 c.add-is_new.ensures.at (grind (arith, c.if-is_new.false, c.add-is_new.ensures.is_new)) (units_of c.args.self.now.works) c.requires.sound.listed;
  once = put_once (at c.args.self.now.units) (at c.add-is_new.new.self) c.args.want.unit c.args.work c.add-is_new.result.1 c.add-is_new.ensures.at c.requires.sound.once;
}
