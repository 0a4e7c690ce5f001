use Rattle.jn_coord.proofs.Common.{sym, ◌∙◌, subst, IsServing}
use Rattle.jn_coord.proofs.Ending.{opened, memory-kept, some-tickets, with-promise, promise-here}
use Rattle.jn_coord.proofs.coordinator.Coordinator.end_or_release.Goals as goal

pub release-requires-clause-serving : goal.release-requires-clause-serving
release-requires-clause-serving g c = λ memory. let o = opened _ c.requires.open in subst IsServing (sym (memory-kept _ _ _ _ _ _ _ _ (c.end_promised-ended.ensures some-tickets o.0 o.1) (sym c.is_memory.ensures ∙ memory))) c.requires.fits.serving

pub release-requires-clause-promise : goal.release-requires-clause-promise
release-requires-clause-promise g c = λ memory. let o = opened _ c.requires.open in promise-here _ _ _ c.requires.fits (memory-kept _ _ _ _ _ _ _ _ (c.end_promised-ended.ensures some-tickets o.0 o.1) (sym c.is_memory.ensures ∙ memory))

pub returns : goal.returns
returns g c = λ k x v at p. with-promise _ _ _ _ _ _ _ _ _ _ p (c.end_promised-ended.ensures k x at) (rw (sym c.is_memory.ensures) c.release.ensures)
