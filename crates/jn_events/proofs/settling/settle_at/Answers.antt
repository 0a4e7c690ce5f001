use Rattle.jn_events.proofs.Common.{DeviceState, asking, settling, Rests, StoreView, standing_of, ℕ, ◌++◌, ◌∷◌, [], Err, refl}
use Rattle.jn_events.proofs.Calls.{does-then, does-cut}
use Rattle.jn_events.proofs.Calm.{stay-then}
use Rattle.jn_events.proofs.Numbers.{asking-begins}
use Rattle.jn_events.proofs.Turns.{does-exit}
use Rattle.jn_events.proofs.settling.settle_at.Goals as goal

pub returns-in_err-ask_again-clause-does : goal.returns-in_err-ask_again-clause-does
returns-in_err-ask_again-clause-does g c =
    let look : g.row.S.Denot → StoreView = λ s. g.S.StableStore.view s in
    let device : g.row.S.Denot → DeviceState = λ s. g.S.Powered.device s in
    let when = c.args.when in
    let w = standing_of c.args.world.now in
    let first = c.args.lines.now.items in
    let v = standing_of c.come_to_rest.new.world in
    let u = standing_of c.ask_again.new.world in
    let later = c.ask_again.new.lines.items in
    let one = c.in_ok-come_to_rest.ensures in
    let two = c.in_err-ask_again.ensures in
    let e = c.in_err-ask_again.field-0.0 in
    let now = c.come_to_rest.new.lines.items in
    does-exit look device when ℕ _ c.from_residual-in_err-ask_again.result e settling w u u first later c.from_residual-in_err-ask_again.ensures.0 c.from_residual-in_err-ask_again.ensures.1
    (does-then look device when {B = ℕ} (λ x. Rests ∷ []) (λ x. asking x ++ Rests ∷ []) c.in_ok-come_to_rest.field-0 (Err e) w v u first now later (λ x. refl) one.does
    (does-cut look device when ℕ ℕ asking (λ x. Rests ∷ []) e v u u now later two.does))

pub returns-clause-does : goal.returns-clause-does
returns-clause-does g c =
    let look : g.row.S.Denot → StoreView = λ s. g.S.StableStore.view s in
    let device : g.row.S.Denot → DeviceState = λ s. g.S.Powered.device s in
    let when = c.args.when in
    let w = standing_of c.args.world.now in
    let first = c.args.lines.now.items in
    let v = standing_of c.come_to_rest.new.world in
    let u = standing_of c.ask_again.new.world in
    let z = standing_of c.come_to_rest-2.new.world in
    let now = c.come_to_rest.new.lines.items in
    let then' = c.ask_again.new.lines.items in
    let later = c.come_to_rest-2.new.lines.items in
    let one = c.in_ok-come_to_rest.ensures in
    let two = c.in_ok-ask_again.ensures in
    does-then look device when (λ x. Rests ∷ []) (λ x. asking x ++ Rests ∷ []) c.in_ok-come_to_rest.field-0 c.come_to_rest-2.result w v z first now later (λ x. refl) one.does
    (does-then look device when asking (λ x. Rests ∷ []) c.in_ok-ask_again.field-0 c.come_to_rest-2.result v u z now then' later asking-begins two.does c.come_to_rest-2.ensures.does)

pub returns-clause-calm : goal.returns-clause-calm
returns-clause-calm g c =
    let look : g.row.S.Denot → StoreView = λ s. g.S.StableStore.view s in
    let one = c.in_ok-come_to_rest.ensures in
    let two = c.in_ok-ask_again.ensures in
    stay-then look c.args.world.now.places.items c.ask_again.new.world.places.items c.come_to_rest-2.new.world.places.items c.come_to_rest-2.result (λ all. two.calm (one.calm all)) c.come_to_rest-2.ensures.calm
