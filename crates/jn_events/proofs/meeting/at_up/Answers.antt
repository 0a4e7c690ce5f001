use Rattle.jn_events.proofs.Common.{ServerNo, DeviceState, IsAtUp, DoesTasks, Meets, Event, Step, Nudge, Scrub, Crash, Show, Timeout, StoreView, standing_of, ◌∷◌, [], refl, sym, ◌∙◌, ap, subst}
use Rattle.jn_events.proofs.Refusing.{meets-done, refused-up, lt-there}
use Rattle.jn_events.proofs.meeting.at_up.Goals as goal

pub returns-in-Step-clause-does : goal.returns-in-Step-clause-does
returns-in-Step-clause-does g c =
    let look : g.row.S.Denot → StoreView = λ s. g.S.StableStore.view s in
    let device : g.row.S.Denot → DeviceState = λ s. g.S.Powered.device s in
    let w = standing_of c.args.world.now in
    let q = c.args.server in
    let first = c.args.lines.now.items in
    let its = subst (λ (e : Event). IsAtUp q e) c.in-Step.is c.requires.its in
    let there = lt-there q.0 c.args.world.now.places c.requires.there in
    subst (λ (e : Event). DoesTasks look device (λ x. Meets e ∷ []) c.args.when w c.work.result (standing_of c.work.new.self) first c.work.new.lines.items) (sym (c.in-Step.is ∙ ap (λ (s : ServerNo). Step s) its))
    (meets-done look device c.args.when (Step q) c.work.result w (standing_of c.work.new.self) first c.work.new.lines.items refl (refused-up look device w q (Step q) refl there.0 there.1 c.requires.up) c.work.ensures.does)

pub returns-in-Nudge-clause-does : goal.returns-in-Nudge-clause-does
returns-in-Nudge-clause-does g c =
    let look : g.row.S.Denot → StoreView = λ s. g.S.StableStore.view s in
    let device : g.row.S.Denot → DeviceState = λ s. g.S.Powered.device s in
    let w = standing_of c.args.world.now in
    let q = c.args.server in
    let first = c.args.lines.now.items in
    let its = subst (λ (e : Event). IsAtUp q e) c.in-Nudge.is c.requires.its in
    let there = lt-there q.0 c.args.world.now.places c.requires.there in
    subst (λ (e : Event). DoesTasks look device (λ x. Meets e ∷ []) c.args.when w c.nudge.result (standing_of c.nudge.new.self) first c.nudge.new.lines.items) (sym (c.in-Nudge.is ∙ ap (λ (s : ServerNo). Nudge s) its))
    (meets-done look device c.args.when (Nudge q) c.nudge.result w (standing_of c.nudge.new.self) first c.nudge.new.lines.items refl (refused-up look device w q (Nudge q) refl there.0 there.1 c.requires.up) c.nudge.ensures.does)

pub returns-in-Scrub-clause-does : goal.returns-in-Scrub-clause-does
returns-in-Scrub-clause-does g c =
    let look : g.row.S.Denot → StoreView = λ s. g.S.StableStore.view s in
    let device : g.row.S.Denot → DeviceState = λ s. g.S.Powered.device s in
    let w = standing_of c.args.world.now in
    let q = c.args.server in
    let first = c.args.lines.now.items in
    let its = subst (λ (e : Event). IsAtUp q e) c.in-Scrub.is c.requires.its in
    let there = lt-there q.0 c.args.world.now.places c.requires.there in
    subst (λ (e : Event). DoesTasks look device (λ x. Meets e ∷ []) c.args.when w c.scrub.result (standing_of c.scrub.new.self) first c.scrub.new.lines.items) (sym (c.in-Scrub.is ∙ ap (λ (s : ServerNo). Scrub s) its))
    (meets-done look device c.args.when (Scrub q) c.scrub.result w (standing_of c.scrub.new.self) first c.scrub.new.lines.items refl (refused-up look device w q (Scrub q) refl there.0 there.1 c.requires.up) c.scrub.ensures.does)

pub returns-in-Crash-clause-does : goal.returns-in-Crash-clause-does
returns-in-Crash-clause-does g c =
    let look : g.row.S.Denot → StoreView = λ s. g.S.StableStore.view s in
    let device : g.row.S.Denot → DeviceState = λ s. g.S.Powered.device s in
    let w = standing_of c.args.world.now in
    let q = c.args.server in
    let first = c.args.lines.now.items in
    let its = subst (λ (e : Event). IsAtUp q e) c.in-Crash.is c.requires.its in
    let there = lt-there q.0 c.args.world.now.places c.requires.there in
    subst (λ (e : Event). DoesTasks look device (λ x. Meets e ∷ []) c.args.when w c.crash.result (standing_of c.crash.new.self) first c.crash.new.lines.items) (sym (c.in-Crash.is ∙ ap (λ (s : ServerNo). Crash s) its))
    (meets-done look device c.args.when (Crash q) c.crash.result w (standing_of c.crash.new.self) first c.crash.new.lines.items refl (refused-up look device w q (Crash q) refl there.0 there.1 c.requires.up) c.crash.ensures.does)

pub returns-in-Show-clause-does : goal.returns-in-Show-clause-does
returns-in-Show-clause-does g c =
    let look : g.row.S.Denot → StoreView = λ s. g.S.StableStore.view s in
    let device : g.row.S.Denot → DeviceState = λ s. g.S.Powered.device s in
    let w = standing_of c.args.world.now in
    let q = c.args.server in
    let first = c.args.lines.now.items in
    let its = subst (λ (e : Event). IsAtUp q e) c.in-Show.is c.requires.its in
    let there = lt-there q.0 c.args.world.now.places c.requires.there in
    subst (λ (e : Event). DoesTasks look device (λ x. Meets e ∷ []) c.args.when w c.show.result (standing_of c.show.new.self) first c.show.new.lines.items) (sym (c.in-Show.is ∙ ap (λ (s : ServerNo). Show s) its))
    (meets-done look device c.args.when (Show q) c.show.result w (standing_of c.show.new.self) first c.show.new.lines.items refl (refused-up look device w q (Show q) refl there.0 there.1 c.requires.up) c.show.ensures.does)

pub returns-in-Timeout-clause-does : goal.returns-in-Timeout-clause-does
returns-in-Timeout-clause-does g c =
    let look : g.row.S.Denot → StoreView = λ s. g.S.StableStore.view s in
    let device : g.row.S.Denot → DeviceState = λ s. g.S.Powered.device s in
    let w = standing_of c.args.world.now in
    let q = c.args.server in
    let first = c.args.lines.now.items in
    let its = subst (λ (e : Event). IsAtUp q e) c.in-Timeout.is c.requires.its in
    subst (λ (e : Event). DoesTasks look device (λ x. Meets e ∷ []) c.args.when w c.timeout.result (standing_of c.timeout.new.world) first c.timeout.new.lines.items) (sym (c.in-Timeout.is ∙ ap (λ (s : ServerNo). Timeout s c.in-Timeout.tid) its)) c.timeout.ensures.does
