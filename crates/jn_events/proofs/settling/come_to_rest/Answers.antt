use Rattle.jn_events.proofs.Common.{DeviceState, Rests, StoreView, handed, standing_of, ℕ, false, ◌∷◌, [], Ok, Err}
use Rattle.jn_events.proofs.Measures.{handed-most, fewer-left}
use Rattle.jn_events.proofs.Turns.{turns-none, turns-more, turn-then, turns-on, turns-over, turns-end, turns-cut, does-exit}
use Rattle.jn_events.proofs.settling.come_to_rest.Goals as goal

pub loop-init : goal.loop-init
loop-init g c =
    let look : g.row.S.Denot → StoreView = λ s. g.S.StableStore.view s in
    let device : g.row.S.Denot → DeviceState = λ s. g.S.Powered.device s in
    record { world = c.requires.world; calm = λ all. all; turns = turns-none look device c.args.when {A = ℕ} 0 (standing_of c.args.world.now) c.args.lines.now.items }

pub loop-smaller : goal.loop-smaller
loop-smaller g c =
    let e = c.in_ok-goes_on.ensures in
    let limit = e.world in
    let sent = c.goes_on.new.world.net.sent in
    fewer-left (handed c.loop.world.net.sent) (handed sent) _ (e.hands c.if-branch.true) (handed-most sent) limit.limit

pub loop-preserved : goal.loop-preserved
loop-preserved g c =
    let look : g.row.S.Denot → StoreView = λ s. g.S.StableStore.view s in
    let device : g.row.S.Denot → DeviceState = λ s. g.S.Powered.device s in
    let when = c.args.when in
    let w = standing_of c.args.world.now in
    let first = c.args.lines.now.items in
    let v = standing_of c.loop.world in
    let u = standing_of c.goes_on.new.world in
    let now = c.loop.lines.items in
    let later = c.goes_on.new.lines.items in
    let e = c.in_ok-goes_on.ensures in
    record {
      world = e.world;
      calm = λ all. e.calm (c.loop.invariant.calm all);
      turns = turns-more look device when {A = ℕ} {B = ℕ} 0 (Ok 0) w v u first now later c.loop.invariant.turns (turns-on look device when {A = ℕ} 0 c.in_ok-goes_on.field-0 v u now later c.if-branch.true e.turn);
    }

pub returns-clause-does : goal.returns-clause-does
returns-clause-does g c =
    let look : g.row.S.Denot → StoreView = λ s. g.S.StableStore.view s in
    let device : g.row.S.Denot → DeviceState = λ s. g.S.Powered.device s in
    let when = c.args.when in
    let w = standing_of c.args.world.now in
    let first = c.args.lines.now.items in
    let v = standing_of c.loop.world in
    let u = standing_of c.goes_on.new.world in
    let now = c.loop.lines.items in
    let later = c.goes_on.new.lines.items in
    let e = c.in_ok-goes_on.ensures in
    turns-end look device when {A = ℕ} 0 w u first later
    (turn-then look device when {A = ℕ} 0 (Ok false) w v u first now later c.loop.invariant.turns (turns-over look device when c.in_ok-goes_on.field-0 v u now later c.if-branch.false e.turn))

pub returns-clause-calm : goal.returns-clause-calm
returns-clause-calm g c = let e = c.in_ok-goes_on.ensures in λ all. e.calm (c.loop.invariant.calm all)

pub returns-in_err-goes_on-clause-does : goal.returns-in_err-goes_on-clause-does
returns-in_err-goes_on-clause-does g c =
    let look : g.row.S.Denot → StoreView = λ s. g.S.StableStore.view s in
    let device : g.row.S.Denot → DeviceState = λ s. g.S.Powered.device s in
    let when = c.args.when in
    let w = standing_of c.args.world.now in
    let first = c.args.lines.now.items in
    let v = standing_of c.loop.world in
    let u = standing_of c.goes_on.new.world in
    let now = c.loop.lines.items in
    let later = c.goes_on.new.lines.items in
    let e = c.in_err-goes_on.field-0.0 in
    let ends = c.in_err-goes_on.ensures in
    does-exit look device when ℕ _ c.from_residual.result e (λ x. Rests ∷ []) w u u first later c.from_residual.ensures.0 c.from_residual.ensures.1
    (turns-cut look device when ℕ e w u first later (turn-then look device when {A = ℕ} 0 (Err e) w v u first now later c.loop.invariant.turns ends.turn))

pub returns-clause-rests : goal.returns-clause-rests
returns-clause-rests g c = let e = c.in_ok-goes_on.ensures in e.rests c.if-branch.false
