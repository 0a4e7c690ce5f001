use Rattle.jn_intent.proofs.Common.{◌≡◌, true, false, sym, subst, ◌∙◌, arith, rules, is_ok, TouchesAll, fewer_recoverable, IsServing, view_of, memory_of, Cleans, Scrubbed}
use Rattle.jn_recovery.proofs.CleanPages.{on_ok, on_err}
use Rattle.jn_intent.proofs.Scrubbing.{fewer_kept, touched_kept, scrubbed, scrubbed_touched}
use Rattle.jn_intent.proofs.intents.Intents.scrub.Goals as goal

pub invariant_of-self : goal.invariant_of-self
invariant_of-self g c =
    let serving = subst (λ s. IsServing (view_of s.1 (g.S.StableStore.view s.0))) (sym c.self.view_is) c.requires.serving in
    record {
      kept = λ power. fewer_kept (memory_of c.self.inside) _ _ c.self.invariant.kept c.clean_pages.ensures.fewer serving.power;
      recoverable = fewer_recoverable _ _ c.clean_pages.ensures.fewer _ _ c.self.invariant.recoverable;
      flags_room = c.self.invariant.flags_room;
      rooms = c.self.invariant.rooms;
    }

pub invariant_of-self-2 : goal.invariant_of-self-2
invariant_of-self-2 g c =
    let serving = subst (λ s. IsServing (view_of s.1 (g.S.StableStore.view s.0))) (sym c.self.view_is) c.requires.serving in
    let matches = touched_kept (memory_of c.self.inside) (g.S.StableStore.view c.self.inside.store) (g.S.StableStore.view c.clean_pages.new.store) c.self.invariant.kept c.clean_pages.ensures.fewer serving.power c.touch_all.new.self c.touch_all.ensures c.is_table.ensures in
    record {
      kept = λ power. matches;
      recoverable = matches.standing.recoverable;
      flags_room = c.self.invariant.flags_room;
      rooms = c.self.invariant.rooms;
    }

pub returns-in_err-clean_pages-clause-scrubbed : goal.returns-in_err-clean_pages-clause-scrubbed
returns-in_err-clean_pages-clause-scrubbed g c =
    let serving = subst (λ s. IsServing (view_of s.1 (g.S.StableStore.view s.0))) (sym c.self.view_is) c.requires.serving in
    let v = g.S.StableStore.view c.self.inside.store in
    let w = g.S.StableStore.view c.clean_pages.new.store in
    let bad : is_ok c.clean_pages.result ≡ false = search rules in
    let no_ok : is_ok c.from_residual.result ≡ false = search rules in
    subst (λ b. Scrubbed (view_of c.args.self.now.1 (g.S.StableStore.view c.args.self.now.0)) b (view_of (memory_of c.self.inside) w)) (bad ∙ sym no_ok)
    (subst (λ s. Scrubbed (view_of s.1 (g.S.StableStore.view s.0)) (is_ok c.clean_pages.result) (view_of (memory_of c.self.inside) w)) c.self.view_is
    (scrubbed (memory_of c.self.inside) v w c.self.invariant.kept c.clean_pages.ensures.fewer serving (is_ok c.clean_pages.result) c.clean_pages.ensures.later
    (let calls = c.clean_pages.ensures.calls in let count = c.count-count.ensures in omega (arith, calls, count))
    (λ done. subst (λ n. Cleans v 0 n w) c.count-count.ensures (on_ok c.clean_pages.result _ c.clean_pages.ensures.cleaned done)) (on_err c.clean_pages.result _ c.clean_pages.ensures.stop) c.clean_pages.ensures.calm))

pub returns-clause-scrubbed : goal.returns-clause-scrubbed
returns-clause-scrubbed g c =
    let serving = subst (λ s. IsServing (view_of s.1 (g.S.StableStore.view s.0))) (sym c.self.view_is) c.requires.serving in
    let v = g.S.StableStore.view c.self.inside.store in
    let w = g.S.StableStore.view c.clean_pages.new.store in
    let done : is_ok c.clean_pages.result ≡ true = search rules in
    subst (λ b. Scrubbed (view_of c.args.self.now.1 (g.S.StableStore.view c.args.self.now.0)) b (view_of (memory_of (record c.self.inside { table = c.touch_all.new.self })) w)) done
    (subst (λ s. Scrubbed (view_of s.1 (g.S.StableStore.view s.0)) (is_ok c.clean_pages.result) (view_of (memory_of (record c.self.inside { table = c.touch_all.new.self })) w)) c.self.view_is
    (scrubbed_touched (memory_of c.self.inside) v w c.self.invariant.kept c.clean_pages.ensures.fewer serving (is_ok c.clean_pages.result) c.clean_pages.ensures.later
    (let calls = c.clean_pages.ensures.calls in let count = c.count-count.ensures in omega (arith, calls, count))
    (λ done. subst (λ n. Cleans v 0 n w) c.count-count.ensures (on_ok c.clean_pages.result _ c.clean_pages.ensures.cleaned done)) (on_err c.clean_pages.result _ c.clean_pages.ensures.stop) c.clean_pages.ensures.calm
    c.touch_all.new.self c.touch_all.ensures))

pub returns-clause-touched : goal.returns-clause-touched
returns-clause-touched g c = subst (λ s. TouchesAll s.1.table c.touch_all.new.self) c.self.view_is c.touch_all.ensures
