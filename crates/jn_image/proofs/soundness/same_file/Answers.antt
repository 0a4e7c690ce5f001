use Rattle.jn_image.proofs.Common.{ℕ, List, Option, ◌∙◌, subst, IfOk-weaker, HasOneHead, Finds, StandsOnce, AreHeads}
use Rattle.jn_records.specs.Sound as sound
use Rattle.jn_image.proofs.HeadLists.{same_file}
use Rattle.jn_image.proofs.soundness.same_file.Goals as goal

pub returns : goal.returns
returns c = IfOk-weaker c.least_repeated.result
    (λ r. Finds (StandsOnce c.deref.result.now) r)
    (λ r. (m : sound.Image) → AreHeads m c.args.heads.now → Finds (HasOneHead m) r)
    (λ r found m are. same_file m c.args.heads.now are r (subst (λ (xs : List (Option ℕ)). Finds (StandsOnce xs) r) (c.deref.ensures.value ∙ c.in_ok-files.ensures) found))
    c.least_repeated.ensures
