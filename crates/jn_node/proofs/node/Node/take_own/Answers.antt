use Rattle.std.proofs.Common.{◌++◌, Option, refl, ap, sym, ◌∙◌}
use Rattle.std.specs.Prelude.{option_to_list}
use Rattle.jn_msgs.specs.declared.message.Message.{Message}
use Rattle.jn_store.specs.Store.{StoreView}
use Rattle.jn_node.proofs.Own.{no-draw, own-taken}
use Rattle.jn_node.proofs.Following.{goes-own, goes-same}
use Rattle.jn_node.proofs.Popping.{popped-falls, popped-head, popped-work}
use Rattle.jn_node.proofs.node.Node.take_own.Goals as goal

pub handle-requires : goal.handle-requires
handle-requires g c =
    let look : g.row.S.Denot → StoreView = λ s. g.S.StableStore.view s in
    let n = c.args.self.now in
    let left = record n { own = c.pop_front.new.self } in
    let front = c.pop_front.ensures.items ∙ ap (λ (o : Option Message). option_to_list o ++ c.pop_front.new.self.items) c.in-Some.is in
    let head = popped-head look n left c.in-Some.message refl front c.requires.runs in
    let next = c.requires.next in
    record { runs = popped-work look n left c.in-Some.message refl front c.requires.runs; taken = own-taken c.in-Some.message head.0; near = head.1; next = next }

pub returns-in_default-clause-goes : goal.returns-in_default-clause-goes
returns-in_default-clause-goes g c =
    let look : g.row.S.Denot → StoreView = λ s. g.S.StableStore.view s in
    let n = c.args.self.now in
    let items = c.pop_front.ensures.items ∙ ap (λ (o : Option Message). option_to_list o ++ c.pop_front.new.self.items) c.in_default.is in
    goes-same look n (record n { own = c.pop_front.new.self }) refl (sym items)

pub returns-clause-goes : goal.returns-clause-goes
returns-clause-goes g c =
    let look : g.row.S.Denot → StoreView = λ s. g.S.StableStore.view s in
    let n = c.args.self.now in
    let left = record n { own = c.pop_front.new.self } in
    let front = c.pop_front.ensures.items ∙ ap (λ (o : Option Message). option_to_list o ++ c.pop_front.new.self.items) c.in-Some.is in
    let e = c.in_ok-handle.ensures in
    goes-own look n left c.handle.new.self c.in-Some.message refl front e.handles

pub returns-clause-less : goal.returns-clause-less
returns-clause-less g c =
    let look : g.row.S.Denot → StoreView = λ s. g.S.StableStore.view s in
    let n = c.args.self.now in
    let left = record n { own = c.pop_front.new.self } in
    let front = c.pop_front.ensures.items ∙ ap (λ (o : Option Message). option_to_list o ++ c.pop_front.new.self.items) c.in-Some.is in
    let head = popped-head look n left c.in-Some.message refl front c.requires.runs in
    let e = c.in_ok-handle.ensures in
    λ _. popped-falls look n left c.in-Some.message refl front _ (e.less head.0)

pub returns-clause-tickets : goal.returns-clause-tickets
returns-clause-tickets g c =
    let look : g.row.S.Denot → StoreView = λ s. g.S.StableStore.view s in
    let n = c.args.self.now in
    let left = record n { own = c.pop_front.new.self } in
    let front = c.pop_front.ensures.items ∙ ap (λ (o : Option Message). option_to_list o ++ c.pop_front.new.self.items) c.in-Some.is in
    let head = popped-head look n left c.in-Some.message refl front c.requires.runs in
    let e = c.in_ok-handle.ensures in
    e.undrawn (no-draw c.in-Some.message head.0)
