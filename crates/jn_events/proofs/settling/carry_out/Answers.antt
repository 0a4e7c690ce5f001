use Rattle.jn_events.proofs.Common.{DeviceState, StoreView, standing_of, ℕ, Ok, Err, refl, ◌∙◌}
use Rattle.jn_events.proofs.Turns.{turns-none, turns-more, turns-exit}
use Rattle.jn_events.proofs.settling.carry_out.Goals as goal

pub loop-init : goal.loop-init
loop-init g c =
    let look : g.row.S.Denot → StoreView = λ s. g.S.StableStore.view s in
    let device : g.row.S.Denot → DeviceState = λ s. g.S.Powered.device s in
    record { world = c.requires.world; calm = λ all. all; turns = turns-none look device c.args.when {A = ℕ} 0 (standing_of c.args.world.now) c.args.lines.now.items; hands = refl }

pub loop-smaller : goal.loop-smaller
loop-smaller g c = let e = c.in_ok-carries_on.ensures in e.less c.if-branch.true

pub loop-preserved : goal.loop-preserved
loop-preserved g c =
    let look : g.row.S.Denot → StoreView = λ s. g.S.StableStore.view s in
    let device : g.row.S.Denot → DeviceState = λ s. g.S.Powered.device s in
    let when = c.args.when in
    let w = standing_of c.args.world.now in
    let first = c.args.lines.now.items in
    let v = standing_of c.loop.world in
    let u = standing_of c.carries_on.new.world in
    let now = c.loop.lines.items in
    let later = c.carries_on.new.lines.items in
    let e = c.in_ok-carries_on.ensures in
    record {
      world = e.world;
      calm = λ all. e.calm (c.loop.invariant.calm all);
      turns = turns-more look device when {A = ℕ} {B = ℕ} 0 (Ok 0) w v u first now later c.loop.invariant.turns e.turn;
      hands = e.hands ∙ c.loop.invariant.hands;
    }

pub returns-clause-turns : goal.returns-clause-turns
returns-clause-turns g c =
    let look : g.row.S.Denot → StoreView = λ s. g.S.StableStore.view s in
    let device : g.row.S.Denot → DeviceState = λ s. g.S.Powered.device s in
    let when = c.args.when in
    let w = standing_of c.args.world.now in
    let first = c.args.lines.now.items in
    let v = standing_of c.loop.world in
    let u = standing_of c.carries_on.new.world in
    let now = c.loop.lines.items in
    let later = c.carries_on.new.lines.items in
    let e = c.in_ok-carries_on.ensures in
    turns-more look device when {A = ℕ} {B = ℕ} 0 (Ok 0) w v u first now later c.loop.invariant.turns e.turn

pub returns-clause-calm : goal.returns-clause-calm
returns-clause-calm g c = let e = c.in_ok-carries_on.ensures in λ all. e.calm (c.loop.invariant.calm all)

pub returns-clause-hands : goal.returns-clause-hands
returns-clause-hands g c = let e = c.in_ok-carries_on.ensures in e.hands ∙ c.loop.invariant.hands

pub returns-clause-rests : goal.returns-clause-rests
returns-clause-rests g c = let e = c.in_ok-carries_on.ensures in e.rests c.if-branch.false

pub returns-in_err-carries_on-clause-turns : goal.returns-in_err-carries_on-clause-turns
returns-in_err-carries_on-clause-turns g c =
    let look : g.row.S.Denot → StoreView = λ s. g.S.StableStore.view s in
    let device : g.row.S.Denot → DeviceState = λ s. g.S.Powered.device s in
    let when = c.args.when in
    let w = standing_of c.args.world.now in
    let first = c.args.lines.now.items in
    let v = standing_of c.loop.world in
    let u = standing_of c.carries_on.new.world in
    let now = c.loop.lines.items in
    let later = c.carries_on.new.lines.items in
    let e = c.in_err-carries_on.field-0.0 in
    let ends = c.in_err-carries_on.ensures in
    turns-exit look device when ℕ _ c.from_residual.result e w u u first later c.from_residual.ensures.0 c.from_residual.ensures.1
    (turns-more look device when {A = ℕ} {B = ℕ} 0 (Err e) w v u first now later c.loop.invariant.turns ends.turn)
