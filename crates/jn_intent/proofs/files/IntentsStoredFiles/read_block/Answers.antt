use Rattle.jn_intent.proofs.Common.{◌≡◌, None, Ok, subst, sym, Block, IsServing, state, BlockRead, view_of, memory_of}
use Rattle.jn_intent.proofs.Reading.{holds_seen, read_now, read_safe, unasked_now}
use Rattle.jn_intent.proofs.files.IntentsStoredFiles.read_block.Goals as goal

pub read_block-answer-requires-clause-holds : goal.read_block-answer-requires-clause-holds
read_block-answer-requires-clause-holds g c = holds_seen _ _ c.self.invariant.kept (subst (λ s. IsServing (view_of s.1 (g.S.StableStore.view s.0))) (sym c.self.view_is) c.requires.serving)

pub invariant_of-self : goal.invariant_of-self
invariant_of-self g c =
    let serving = subst (λ s. IsServing (view_of s.1 (g.S.StableStore.view s.0))) (sym c.self.view_is) c.requires.serving in
    let safe = read_safe (memory_of c.self.inside) (g.S.StableStore.view c.self.inside.store) c.self.invariant.kept serving c.args.f c.args.p c.read_block-answer.result c.read_block-answer.new.self (g.S.StableStore.view c.read_block-answer.new.store)
    c.is_table.ensures c.read_block-answer.ensures.got c.read_block-answer.ensures.unasked in
    record {
      kept = safe.0;
      recoverable = safe.1;
      flags_room = c.self.invariant.flags_room;
      rooms = c.self.invariant.rooms;
    }

pub returns : goal.returns
returns g c =
    let serving = subst (λ s. IsServing (view_of s.1 (g.S.StableStore.view s.0))) (sym c.self.view_is) c.requires.serving in
    let w = g.S.StableStore.view c.read_block-answer.new.store in
    record {
      read = subst (λ s. BlockRead (view_of s.1 (g.S.StableStore.view s.0)) c.args.f c.args.p c.read_block-answer.result (view_of (memory_of (record c.self.inside { table = c.read_block-answer.new.self })) w)) c.self.view_is
          (read_now (memory_of c.self.inside) (g.S.StableStore.view c.self.inside.store) c.self.invariant.kept serving c.args.f c.args.p c.read_block-answer.result c.read_block-answer.new.self w
          c.is_table.ensures c.read_block-answer.ensures.got c.read_block-answer.ensures.unasked);
      unasked = subst (λ s. (state (view_of s.1 (g.S.StableStore.view s.0))).files (Block c.args.f c.args.p) ≡ None → (c.read_block-answer.result ≡ Ok None) × (view_of (memory_of (record c.self.inside { table = c.read_block-answer.new.self })) w ≡ view_of s.1 (g.S.StableStore.view s.0))) c.self.view_is
          (unasked_now (memory_of c.self.inside) (g.S.StableStore.view c.self.inside.store) c.self.invariant.kept serving c.args.f c.args.p c.read_block-answer.result c.read_block-answer.new.self w
          c.is_table.ensures c.read_block-answer.ensures.got c.read_block-answer.ensures.unasked);
    }
