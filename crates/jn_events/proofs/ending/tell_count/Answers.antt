use Rattle.jn_events.proofs.Common.{DeviceState, DoesTasks, CountsCommits, Line, End, StoreView, standing_of, ℕ, ◌≡◌, ◌∷◌, [], ◌++◌, Ok, sym, ◌∙◌, ap, subst, List}
use Rattle.jn_events.proofs.Closing.{counts-does}
use Rattle.jn_report.specs.declared.line.Text.TheVariants.{Commits}
use Rattle.jn_events.proofs.ending.tell_count.Goals as goal

pub returns : goal.returns
returns g c =
    let look : g.row.S.Denot → StoreView = λ s. g.S.StableStore.view s in
    let device : g.row.S.Denot → DeviceState = λ s. g.S.Powered.device s in
    let w = standing_of c.args.world.now in
    let first = c.args.lines.now.items in
    let told : c.tell.new.lines.items ≡ first ++ record { when = End; text = Commits w.commits } ∷ [] = c.in_ok-tell.ensures ∙ ap (λ (n : ℕ). first ++ record { when = End; text = Commits n } ∷ []) c.count.ensures in
    record { does = subst (λ (l : List Line). DoesTasks {A = ℕ} look device (λ x. CountsCommits ∷ []) End w (Ok 0) w first l) (sym told) (counts-does look device g.met.S.Powered.seen End {A = ℕ} 0 w first c.requires.few) }
