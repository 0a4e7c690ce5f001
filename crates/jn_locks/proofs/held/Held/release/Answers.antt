use Rattle.jn_locks.proofs.Common.{List, [], refl, sym, ap, ◌∙◌, LockUnit, is_unit, at, units_of}
use Rattle.jn_locks.proofs.Steps.{released_holds, released_listed, released_once}
use Rattle.jn_locks.proofs.held.Held.release.Goals as goal

pub returns-in-Some-clause-released : goal.returns-in-Some-clause-released
returns-in-Some-clause-released c = record { locks = released_holds (at c.args.self.now.units) (at c.drop_units.new.units) c.args.work c.deref.result.now c.drop_units.ensures (λ u k. ap (λ (xs : List LockUnit). is_unit xs u) (c.deref.ensures.value ∙ c.in-Some.ensures.given) ∙ c.requires.listed c.args.work u k); standing = c.remove.ensures.standing }

pub returns-in-Some-clause-sound_after : goal.returns-in-Some-clause-sound_after
returns-in-Some-clause-sound_after c = record {
  listed = released_listed (at c.args.self.now.units) (at c.drop_units.new.units) c.args.work c.deref.result.now c.drop_units.ensures (λ u k. ap (λ (xs : List LockUnit). is_unit xs u) (c.deref.ensures.value ∙ c.in-Some.ensures.given) ∙ c.requires.listed c.args.work u k) (units_of c.remove.new.self) (units_of c.args.self.now.works) c.remove.ensures.units c.requires.listed;
  once = released_once (at c.args.self.now.units) (at c.drop_units.new.units) c.args.work c.deref.result.now c.drop_units.ensures (λ u k. ap (λ (xs : List LockUnit). is_unit xs u) (c.deref.ensures.value ∙ c.in-Some.ensures.given) ∙ c.requires.listed c.args.work u k) c.requires.once;
}

pub returns-in_default-clause-released : goal.returns-in_default-clause-released
returns-in_default-clause-released c = record { locks = released_holds (at c.args.self.now.units) (at c.args.self.now.units) c.args.work [] (λ u. refl) (λ u k. ap (λ (xs : List LockUnit). is_unit xs u) (sym c.in_default.ensures.unknown) ∙ c.requires.listed c.args.work u k); standing = c.remove.ensures.standing }
