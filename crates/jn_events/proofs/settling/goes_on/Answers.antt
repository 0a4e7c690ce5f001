use Rattle.jn_events.proofs.Common.{DeviceState, Deliver, StoreView, standing_of, next-delivers, ℕ, suc, true, false, Ok, Err, sym, ◌∙◌, ap}
use Rattle.jn_events.proofs.Busy.{none-next}
use Rattle.jn_events.proofs.Measures.{hands-more}
use Rattle.jn_events.proofs.Resting.{turn-exit, turn-kept, turn-over}
use Rattle.jn_events.proofs.Turns.{turn-then, turns-fail}
use Rattle.jn_events.proofs.Waits.{waiting-below}
use Rattle.jn_events.proofs.settling.goes_on.Goals as goal

pub hand_over-requires-clause-sent : goal.hand_over-requires-clause-sent
hand_over-requires-clause-sent g c = waiting-below c.carry_out.new.world.net c.in-Some.k (sym c.in-Some.is ∙ c.waiting.ensures)

pub returns-in_err-carry_out-clause-turn : goal.returns-in_err-carry_out-clause-turn
returns-in_err-carry_out-clause-turn g c =
    let look : g.row.S.Denot → StoreView = λ s. g.S.StableStore.view s in
    let device : g.row.S.Denot → DeviceState = λ s. g.S.Powered.device s in
    let seen = g.met.S.Powered.seen in
    let when = c.args.when in
    let w = standing_of c.args.world.now in
    let first = c.args.lines.now.items in
    let v = standing_of c.carry_out.new.world in
    let now = c.carry_out.new.lines.items in
    let fails = c.in_err-carry_out.ensures in
    let e = c.in_err-carry_out.field-0.0 in
    turn-exit look device seen when c.from_residual.result e w v v first now c.from_residual.ensures.0 c.from_residual.ensures.1
    (turns-fail look device when ℕ e w v v first now fails.turns)

pub returns-in_default-clause-turn : goal.returns-in_default-clause-turn
returns-in_default-clause-turn g c =
    let look : g.row.S.Denot → StoreView = λ s. g.S.StableStore.view s in
    let device : g.row.S.Denot → DeviceState = λ s. g.S.Powered.device s in
    let seen = g.met.S.Powered.seen in
    let when = c.args.when in
    let w = standing_of c.args.world.now in
    let first = c.args.lines.now.items in
    let v = standing_of c.carry_out.new.world in
    let now = c.carry_out.new.lines.items in
    let went = c.in_ok-carry_out.ensures in
    let limit = went.world in
    let none = sym c.waiting.ensures ∙ c.in_default.is in
    turn-then look device when {A = ℕ} 0 (Ok false) w v v first now now went.turns (turn-over look device seen when v now limit.limit (none-next look device seen v none (went.rests none)))

pub returns-in_err-hand_over-clause-turn : goal.returns-in_err-hand_over-clause-turn
returns-in_err-hand_over-clause-turn g c =
    let look : g.row.S.Denot → StoreView = λ s. g.S.StableStore.view s in
    let device : g.row.S.Denot → DeviceState = λ s. g.S.Powered.device s in
    let seen = g.met.S.Powered.seen in
    let when = c.args.when in
    let w = standing_of c.args.world.now in
    let first = c.args.lines.now.items in
    let v = standing_of c.carry_out.new.world in
    let now = c.carry_out.new.lines.items in
    let went = c.in_ok-carry_out.ensures in
    let u = standing_of c.hand_over.new.self in
    let later = c.hand_over.new.lines.items in
    let k = c.in-Some.k in
    let waits = sym c.in-Some.is ∙ c.waiting.ensures in
    let fails = c.in_err-hand_over.ensures in
    let e = c.in_err-hand_over.field-0.0 in
    turn-exit look device seen when c.from_residual-in_err-hand_over.result e w u u first later c.from_residual-in_err-hand_over.ensures.0 c.from_residual-in_err-hand_over.ensures.1
    (turn-then look device when {A = ℕ} 0 (Err e) w v u first now later went.turns
    (turns-fail look device when ℕ e v u u now later (turn-kept look device seen when v {A = ℕ} (Deliver k) (Err e) u now later (λ x m stands. next-delivers look device seen x v m stands k (sym waits)) fails.does)))

pub returns-clause-turn : goal.returns-clause-turn
returns-clause-turn g c =
    let look : g.row.S.Denot → StoreView = λ s. g.S.StableStore.view s in
    let device : g.row.S.Denot → DeviceState = λ s. g.S.Powered.device s in
    let seen = g.met.S.Powered.seen in
    let when = c.args.when in
    let w = standing_of c.args.world.now in
    let first = c.args.lines.now.items in
    let v = standing_of c.carry_out.new.world in
    let now = c.carry_out.new.lines.items in
    let went = c.in_ok-carry_out.ensures in
    let u = standing_of c.hand_over.new.self in
    let later = c.hand_over.new.lines.items in
    let k = c.in-Some.k in
    let waits = sym c.in-Some.is ∙ c.waiting.ensures in
    let hands = c.in_ok-hand_over.ensures in
    turn-then look device when {A = ℕ} 0 (Ok true) w v u first now later went.turns
    (turn-kept look device seen when v {A = ℕ} (Deliver k) (Ok 0) u now later (λ x m stands. next-delivers look device seen x v m stands k (sym waits)) hands.does)

pub returns-clause-hands : goal.returns-clause-hands
returns-clause-hands g c =
    let went = c.in_ok-carry_out.ensures in
    let hands = c.in_ok-hand_over.ensures in
    let waits = sym c.in-Some.is ∙ c.waiting.ensures in
    λ _. hands.hands ∙ hands-more c.carry_out.new.world.net c.in-Some.k waits ∙ ap suc went.hands

pub returns-in_default-clause-calm : goal.returns-in_default-clause-calm
returns-in_default-clause-calm g c = let went = c.in_ok-carry_out.ensures in went.calm

pub returns-clause-calm : goal.returns-clause-calm
returns-clause-calm g c = let went = c.in_ok-carry_out.ensures in let hands = c.in_ok-hand_over.ensures in λ all. hands.calm (went.calm all)

pub returns-in_default-clause-rests : goal.returns-in_default-clause-rests
returns-in_default-clause-rests g c =
    let went = c.in_ok-carry_out.ensures in
    let none = sym c.waiting.ensures ∙ c.in_default.is in
    λ _. record { waits = none; idle = went.rests none }
