use Rattle.std.proofs.Common.{◌≡◌, true, false, Err, sym, ◌∙◌, ap}
use Rattle.std.specs.Prelude.{drop}
use Rattle.std.proofs.lemmas.Result.{err_from_is_err_and}
use Rattle.jn_wire.specs.Decoding.{decode}
use Rattle.jn_wire.specs.Reading.{read_to}
use Rattle.jn_wire.specs.Unframing.{in_front, is_whole, joined, met, nothing_held, unframed, waiting}
use Rattle.jn_wire.proofs.Leading.{behind-stop, filled, same-leads, unfilled}
use Rattle.jn_wire.proofs.unframer.Unfinished.read.Goals as goal

pub returns-then-not-is_whole-clause-leads : goal.returns-then-not-is_whole-clause-leads
returns-then-not-is_whole-clause-leads c =
    let part : is_whole c.fill.new.self.bytes.items ≡ false = ap is_whole (sym c.as_slice.ensures.value) ∙ sym c.is_whole.ensures ∙ c.if-not-is_whole.true in
    unfilled c.args.receiver.server c.args.out.now.items c.args.self.now.at c.fill.new.self.at c.args.self.now.bytes.items c.args.piece.now c.fill.new.self.bytes.items c.in_ok-rest.rest.now c.in_ok-rest.ensures.place c.in_ok-rest.ensures.ok part

pub returns-in_err-give-clause-leads : goal.returns-in_err-give-clause-leads
returns-in_err-give-clause-leads c =
    let s = c.args.receiver.server in
    let out = c.args.out.now.items in
    let whole : is_whole c.fill.new.self.bytes.items ≡ true = ap is_whole (sym c.as_slice.ensures.value) ∙ sym c.is_whole.ensures ∙ c.if-not-is_whole.false in
    let frame = c.fill.new.self.bytes.items in
    let p = err_from_is_err_and c.from_residual-in_err-give.result c.from_residual-in_err-give.ensures.1 in
    behind-stop s _ (in_front out (met c.fill.new.self.at frame (decode s (drop 2 frame)))) (in_front out (unframed s (waiting c.args.self.now.at c.args.self.now.bytes.items) c.args.piece.now)) c.in_ok-rest.rest.now c.in_err-give.field-0.0 c.from_residual-in_err-give.result c.give.new.out.items
    (p.1 ∙ ap (λ e. Err e) p.2)
    (filled s out c.args.self.now.at c.fill.new.self.at c.args.self.now.bytes.items c.args.piece.now frame c.in_ok-rest.rest.now c.in_ok-rest.ensures.place c.requires.unfinished c.in_ok-rest.ensures.ok whole)
    c.in_err-give.ensures.leads

pub returns-clause-leads : goal.returns-clause-leads
returns-clause-leads c =
    let s = c.args.receiver.server in
    let out = c.args.out.now.items in
    let whole : is_whole c.fill.new.self.bytes.items ≡ true = ap is_whole (sym c.as_slice.ensures.value) ∙ sym c.is_whole.ensures ∙ c.if-not-is_whole.false in
    let frame = c.fill.new.self.bytes.items in
    let rest = c.in_ok-rest.rest.now in
    same-leads (λ _. read_to c.read_from-2.new.self.at c.read_from-2.new.self.bytes.items c.read_from-2.new.out.items)
    (in_front c.give.new.out.items (unframed s (nothing_held c.give.new.self.at) rest))
    (in_front out (unframed s (waiting c.args.self.now.at c.args.self.now.bytes.items) c.args.piece.now))
    c.read_from-2.result c.read_from-2.new.out.items
    (filled s out c.args.self.now.at c.fill.new.self.at c.args.self.now.bytes.items c.args.piece.now frame rest c.in_ok-rest.ensures.place c.requires.unfinished c.in_ok-rest.ensures.ok whole ∙ ap (λ u. joined s u rest) c.in_ok-give.ensures.leads)
    c.read_from-2.ensures.leads
