use Rattle.std.proofs.Common.{◌≡◌, length, refl, rules, sym, ◌∙◌, ap}
use Rattle.std.specs.Prelude.{None}
use Rattle.jn_wire.proofs.Feeding.{at-error, has-places, keeps-fault, lacks-memory, meets-fault, stops-there}
use Rattle.jn_wire.proofs.unframer.Unframer.feed.Goals as goal

pub read-requires-clause-place : goal.read-requires-clause-place
read-requires-clause-place c =
    let none : c.self.inside.fault ≡ None = search rules in
    has-places c.args.self.now (length c.args.piece.now) c.self.inside.unfinished.at c.self.inside.unfinished.bytes.items
    (ap (λ x. x.over) (sym c.self.view_is) ∙ c.if-self.false)
    (ap (λ x. x.held) (sym c.self.view_is) ∙ ap (λ f. record { at = c.self.inside.unfinished.at; bytes = c.self.inside.unfinished.bytes.items; fault = f }) none)
    c.requires.place

pub returns-in-Some-clause-fed : goal.returns-in-Some-clause-fed
returns-in-Some-clause-fed c = keeps-fault c.args.self.now c.args.piece.now c.args.out.now.items c.in-Some.fault (ap (λ x. x.over) (sym c.self.view_is) ∙ c.if-self.false) (ap (λ x. x.held.fault) (sym c.self.view_is) ∙ c.in-Some.is)

pub returns-in-Err-Memory-clause-fed : goal.returns-in-Err-Memory-clause-fed
returns-in-Err-Memory-clause-fed c =
    let failed = at-error _ _ c.read.result _ _ _ c.in-Err-Memory.is c.in-Err-Memory.field-0-is c.read.ensures.leads in
    let none : c.self.inside.fault ≡ None = search rules in
    lacks-memory c.args.self.now c.args.piece.now c.args.out.now.items _ c.read.new.out.items c.self.inside.receiver.server c.self.inside.unfinished.at c.self.inside.unfinished.bytes.items
    (ap (λ x. x.over) (sym c.self.view_is) ∙ c.if-self.false) (ap (λ x. x.server) (sym c.self.view_is))
    (ap (λ x. x.held) (sym c.self.view_is) ∙ ap (λ f. record { at = c.self.inside.unfinished.at; bytes = c.self.inside.unfinished.bytes.items; fault = f }) none)
    failed c.read.ensures.kept refl refl

pub returns-in-Err-Fault-clause-fed : goal.returns-in-Err-Fault-clause-fed
returns-in-Err-Fault-clause-fed c =
    let failed = at-error _ _ c.read.result _ _ _ c.in-Err-Fault.is c.in-Err-Fault.field-0-is c.read.ensures.leads in
    let none : c.self.inside.fault ≡ None = search rules in
    let fault = c.in-Err-Fault.fault in
    meets-fault c.args.self.now c.args.piece.now c.args.out.now.items fault _ c.read.new.out.items c.self.inside.receiver.server c.self.inside.unfinished.at c.self.inside.unfinished.bytes.items
    (ap (λ x. x.over) (sym c.self.view_is) ∙ c.if-self.false) (ap (λ x. x.server) (sym c.self.view_is))
    (ap (λ x. x.held) (sym c.self.view_is) ∙ ap (λ f. record { at = c.self.inside.unfinished.at; bytes = c.self.inside.unfinished.bytes.items; fault = f }) none)
    failed
    (stops-there _ c.args.self.now fault c.stop.new.self.at c.stop.new.self.bytes.items c.self.view_is c.stop.ensures.place c.stop.ensures.nothing)
