use Rattle.jn_node_run.proofs.Common.{◌≡◌, ℕ, List, Option, Err, ap, refl, subst, sym, ◌∙◌, Contents, found_bytes, Has, image_name, NodeEnds, node_not_loaded, KeeperState, keeper_state, sink_state, source_state}
use Rattle.jn_node_run.proofs.Ends.{memory-ends, refused-ends}
use Rattle.jn_node_run.proofs.Keeping.{keeper-same, memory-no-fail, ok-no-fail}
use Rattle.jn_node_run.proofs.serve.Goals as goal

pub returns-in-Err-Failed : goal.returns-in-Err-Failed
returns-in-Err-Failed g c = record {
  outcome = node_not_loaded refl refl (record { kept = c.load_image.ensures.same; rose = c.load_image.ensures.rose (c.in-Err-Failed.is ∙ ap (λ e. Err e) c.in-Err-Failed.field-0-is) });
}

pub returns-in-Err-Memory : goal.returns-in-Err-Memory
returns-in-Err-Memory g c =
    let sink = sink_state g.K.Sink.taken g.K.Sink.faults c.args.sink.now in
    let keeper = keeper_state g.I.Keeper.kept g.I.Keeper.faults c.args.keeper.now in
    let loaded = keeper_state g.I.Keeper.kept g.I.Keeper.faults c.load_image.new.keeper in
    record {
      outcome = memory-ends c.args.node.now (source_state g.S.Source.left g.S.Source.faults c.args.source.now) sink sink keeper loaded refl
          (keeper-same keeper loaded c.load_image.ensures.same (c.load_image.ensures.no_fault (memory-no-fail c.load_image.result (c.in-Err-Memory.is ∙ ap (λ e. Err e) c.in-Err-Memory.field-0-is))));
    }

pub serve_store-requires-clause-own : goal.serve_store-requires-clause-own
serve_store-requires-clause-own g c =
    let content = found_bytes c.in-Ok.content in
    let has : Has (g.I.Keeper.kept c.args.keeper.now) (image_name c.args.node.now.opening c.args.node.now.server.0) content =
    subst (λ (name : List ℕ). Has (g.I.Keeper.kept c.args.keeper.now) (image_name name c.args.node.now.server.0) content) c.as_str.ensures.text c.in-Ok.ensures.loaded in
    record {
      content = content;
      has = subst (λ (k : Option Contents). Has k (image_name c.args.node.now.opening c.args.node.now.server.0) content) (sym c.load_image.ensures.same) has;
      store = c.in-Ok-examine_image.ensures.store;
    }

pub returns-in-Ok-examine_image : goal.returns-in-Ok-examine_image
returns-in-Ok-examine_image g c =
    let keeper = keeper_state g.I.Keeper.kept g.I.Keeper.faults c.args.keeper.now in
    let loaded = keeper_state g.I.Keeper.kept g.I.Keeper.faults c.load_image.new.keeper in
    record {
      outcome = subst (λ (k : KeeperState). NodeEnds c.args.node.now
          (record { source = source_state g.S.Source.left g.S.Source.faults c.args.source.now; sink = sink_state g.K.Sink.taken g.K.Sink.faults c.args.sink.now; keeper = k })
          (record {
            source = source_state g.S.Source.left g.S.Source.faults c.serve_store.new.source;
            sink = sink_state g.K.Sink.taken g.K.Sink.faults c.serve_store.new.sink;
            keeper = keeper_state g.I.Keeper.kept g.I.Keeper.faults c.serve_store.new.keeper;
          }) c.serve_store.result)
          (keeper-same keeper loaded c.load_image.ensures.same (c.load_image.ensures.no_fault (ok-no-fail c.load_image.result c.in-Ok.content c.in-Ok.is))) c.serve_store.ensures.outcome;
    }

pub returns-in-Err-Refused : goal.returns-in-Err-Refused
returns-in-Err-Refused g c =
    let keeper = keeper_state g.I.Keeper.kept g.I.Keeper.faults c.args.keeper.now in
    let loaded = keeper_state g.I.Keeper.kept g.I.Keeper.faults c.load_image.new.keeper in
    let content = found_bytes c.in-Ok.content in
    let has : Has (g.I.Keeper.kept c.args.keeper.now) (image_name c.args.node.now.opening c.args.node.now.server.0) content =
    subst (λ (name : List ℕ). Has (g.I.Keeper.kept c.args.keeper.now) (image_name name c.args.node.now.server.0) content) c.as_str.ensures.text c.in-Ok.ensures.loaded in
    record {
      outcome = refused-ends c.args.node.now (source_state g.S.Source.left g.S.Source.faults c.args.source.now) (sink_state g.K.Sink.taken g.K.Sink.faults c.args.sink.now)
          (sink_state g.K.Sink.taken g.K.Sink.faults c.refuse_image.new.sink) keeper loaded content has c.in-Err-Refused.refusal
          (c.examine_image.ensures.refused c.in-Err-Refused.refusal (c.in-Err-Refused.is ∙ ap (λ e. Err e) c.in-Err-Refused.field-0-is))
          (keeper-same keeper loaded c.load_image.ensures.same (c.load_image.ensures.no_fault (ok-no-fail c.load_image.result c.in-Ok.content c.in-Ok.is))) c.refuse_image.result c.refuse_image.ensures.refused;
    }

pub returns : goal.returns
returns g c =
    let sink = sink_state g.K.Sink.taken g.K.Sink.faults c.args.sink.now in
    let keeper = keeper_state g.I.Keeper.kept g.I.Keeper.faults c.args.keeper.now in
    let loaded = keeper_state g.I.Keeper.kept g.I.Keeper.faults c.load_image.new.keeper in
    record {
      outcome = memory-ends c.args.node.now (source_state g.S.Source.left g.S.Source.faults c.args.source.now) sink sink keeper loaded refl
          (keeper-same keeper loaded c.load_image.ensures.same (c.load_image.ensures.no_fault (ok-no-fail c.load_image.result c.in-Ok.content c.in-Ok.is)));
    }
