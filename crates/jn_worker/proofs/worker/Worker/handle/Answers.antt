use Rattle.jn_worker.proofs.Common.{Memory, refl, subst, InRange}
use Rattle.jn_worker.proofs.Exits.{handed_on, nothing_done}
use Rattle.jn_worker.proofs.worker.Worker.handle.Goals as goal

pub operate-requires-clause-range : goal.operate-requires-clause-range
operate-requires-clause-range g c = subst (λ m. InRange m) c.in-Op.is c.requires.taken.in_range

pub returns-in_err-note-in_default : goal.returns-in_err-note-in_default
returns-in_err-note-in_default g c = record {
  takes = nothing_done _ _ _ _ _ _ _ _ _ (handed_on _ Memory c.from_residual.ensures) c.requires.fits.serving;
  asks = λ _. refl;
  same = λ _ _. refl;
}
