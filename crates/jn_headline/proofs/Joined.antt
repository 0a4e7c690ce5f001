-- Runs of the written machine have reports of their commits.
use Rattle.jn_headline.proofs.Common.{◌≡◌, ◌⊎◌, inl, inr, ℕ, ◌≤◌, List, subst, AllByRecursion, ServerNo, AllFiles, Event, Line, IsOfItsCommits, Setup, Devices, Moment, IsRetold, IsRetoldInPart, IsTrueOfBegun}
use Rattle.jn_schedule.specs.Ranges.{EventInRange}
use Rattle.jn_machine.specs.Whole.{AreImages, IsWritten, IsWhole, IsLimited, IsPartOfRun}
use Rattle.jn_machine_refines.proofs.Whole.{run-retold, done-retold}
use Rattle.jn_headline.proofs.Headline.{whole-run, run-so-far, part-so-far}

module _ (x : Setup) (schedule : List Event) (images : Devices) (few : x.servers ≤ 8) (ranges : AllByRecursion EventInRange schedule) where
  pub whole-report : (closing : Devices) (lines : List Line) → IsWhole x schedule images closing lines → (files : AllFiles) × (epochs : ServerNo → ℕ) × AreImages x files epochs images × IsOfItsCommits files schedule lines
  whole-report closing lines h = by (done-retold x schedule images h.last few ranges h.written h.stage)
    where
      by : (files : AllFiles) × (epochs : ServerNo → ℕ) × AreImages x files epochs images × IsRetold x schedule files h.last → (files : AllFiles) × (epochs : ServerNo → ℕ) × AreImages x files epochs images × IsOfItsCommits files schedule lines
      by (files, epochs, are_images, r) = (files, epochs, are_images, subst (λ (ls : List Line). IsOfItsCommits files schedule ls) h.lines_are (whole-run x schedule files h.last few are_images.its r h.stage h.tasks))

  moment-report : (now : Moment) → IsWritten x schedule images now → (files : AllFiles) × (epochs : ServerNo → ℕ) × AreImages x files epochs images × IsTrueOfBegun files schedule now.state.course.world.event now.state.lines
  moment-report now written = by (run-retold x schedule images now few ranges written)
    where
      either : (files : AllFiles) (epochs : ServerNo → ℕ) → AreImages x files epochs images → IsRetoldInPart x schedule files now ⊎ IsRetold x schedule files now → IsTrueOfBegun files schedule now.state.course.world.event now.state.lines
      either files epochs are_images (inl r) = part-so-far x schedule files now r
      either files epochs are_images (inr r) = run-so-far x schedule files now few are_images.its r

      by : (files : AllFiles) × (epochs : ServerNo → ℕ) × AreImages x files epochs images × (IsRetoldInPart x schedule files now ⊎ IsRetold x schedule files now)
          → (files : AllFiles) × (epochs : ServerNo → ℕ) × AreImages x files epochs images × IsTrueOfBegun files schedule now.state.course.world.event now.state.lines
      by (files, epochs, are_images, r) = (files, epochs, are_images, either files epochs are_images r)

  told-so : (lines : List Line) (now : Moment) → now.state.lines ≡ lines → (files : AllFiles) × (epochs : ServerNo → ℕ) × AreImages x files epochs images × IsTrueOfBegun files schedule now.state.course.world.event now.state.lines
      → (files : AllFiles) × (epochs : ServerNo → ℕ) × AreImages x files epochs images × IsTrueOfBegun files schedule now.state.course.world.event lines
  told-so lines now e (files, epochs, are_images, t) = (files, epochs, are_images, subst (λ (ls : List Line). IsTrueOfBegun files schedule now.state.course.world.event ls) e t)

  pub part-report : (lines : List Line) (h : IsPartOfRun x schedule images lines) → (files : AllFiles) × (epochs : ServerNo → ℕ) × AreImages x files epochs images × IsTrueOfBegun files schedule h.now.state.course.world.event lines
  part-report lines h = told-so lines h.now h.lines_are (moment-report h.now h.written)

  pub limited-report : (lines : List Line) (h : IsLimited x schedule images lines) → (files : AllFiles) × (epochs : ServerNo → ℕ) × AreImages x files epochs images × IsTrueOfBegun files schedule h.last.state.course.world.event lines
  limited-report lines h = told-so lines h.last h.lines_are (moment-report h.last h.written)
