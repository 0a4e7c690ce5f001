use Rattle.jn_recovery.proofs.Common.{inl, inr, ⊎_elim, refl, arith, cleaned_fewer, fewer_trans}
use Rattle.jn_recovery.proofs.CleanPages.{cleans_more, others_more}
use Rattle.jn_recovery.proofs.cleaning.clean_pages.Goals as goal

pub returns-in_err-cleanup-clause-fewer : goal.returns-in_err-cleanup-clause-fewer
returns-in_err-cleanup-clause-fewer g c = fewer_trans _ _ _ c.loop-i.invariant.fewer (cleaned_fewer _ _ _ _ c.in_err-cleanup.ensures.cleaned)

pub loop-i-preserved : goal.loop-i-preserved
loop-i-preserved g c =
    let lt = c.loop-i-test.true in
    let end = c.requires.below in
    cleans_more (g.S.StableStore.view c.args.store.now) (g.S.StableStore.view c.loop-i.store) c.args.from c.loop-i.i c.loop-i.invariant (omega (arith, lt, end)) _ (g.S.StableStore.view c.cleanup.new.self) refl c.in_ok-cleanup.ensures.cleaned

pub returns-in_err-cleanup-clause-others : goal.returns-in_err-cleanup-clause-others
returns-in_err-cleanup-clause-others g c = λ i lt out.
    let test = c.loop-i-test.true in
    let end = c.requires.below in
    others_more (g.S.StableStore.view c.args.store.now) (g.S.StableStore.view c.loop-i.store) c.args.from c.loop-i.i c.loop-i.invariant (omega (arith, test, end)) _ (g.S.StableStore.view c.cleanup.new.self) c.in_err-cleanup.ensures.cleaned
    i lt (⊎_elim (λ low. inl low) (λ past. inr (omega (arith, past, test))) out)
