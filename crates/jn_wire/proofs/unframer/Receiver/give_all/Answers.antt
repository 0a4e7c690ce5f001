use Rattle.std.proofs.Common.{Err, length, sym, ◌∙◌, ap, arith, length-append}
use Rattle.std.specs.Prelude.{drop}
use Rattle.std.proofs.lemmas.Result.{err_from_is_err_and}
use Rattle.jn_wire.specs.Decoding.{decode}
use Rattle.jn_wire.specs.Unframing.{in_front, joined, met, nothing_held, unframed}
use Rattle.jn_wire.proofs.Leading.{behind-stop, rests, turn}
use Rattle.jn_wire.proofs.unframer.Receiver.give_all.Goals as goal

pub returns-in_err-give-clause-leads : goal.returns-in_err-give-clause-leads
returns-in_err-give-clause-leads c =
    let s = c.args.self.now.server in
    let out = c.loop-frame.out.items in
    let at = c.loop-frame.at in
    let frame = c.in-Some.frame.now in
    let others = c.in-Some.others.now in
    let p = err_from_is_err_and c.from_residual.result c.from_residual.ensures.1 in
    behind-stop s _ (in_front out (met at frame (decode s (drop 2 frame)))) (in_front c.args.out.now.items (unframed s (nothing_held c.args.at.now) c.args.bytes.now)) others c.in_err-give.field-0.0 c.from_residual.result c.give.new.out.items
    (p.1 ∙ ap (λ e. Err e) p.2) (sym c.loop-frame.invariant.same ∙ turn s out at c.loop-frame.rest.now frame others c.in-Some.ensures) c.in_err-give.ensures.leads

pub loop-frame-preserved : goal.loop-frame-preserved
loop-frame-preserved c =
    let s = c.args.self.now.server in
    let out = c.loop-frame.out.items in
    let at = c.loop-frame.at in
    let frame = c.in-Some.frame.now in
    let others = c.in-Some.others.now in
    let longer = ap length c.in-Some.ensures.same in
    let parts = length-append frame others in
    let kept = c.in_ok-give.ensures.kept in
    record {
      same = sym (sym c.loop-frame.invariant.same ∙ turn s out at c.loop-frame.rest.now frame others c.in-Some.ensures ∙ ap (λ u. joined s u others) c.in_ok-give.ensures.leads);
      place = omega arith;
      kept = omega arith;
    }

pub returns-clause-leads : goal.returns-clause-leads
returns-clause-leads c = sym c.loop-frame.invariant.same ∙ rests c.args.self.now.server c.loop-frame.out.items c.loop-frame.at c.loop-frame.rest.now c.in_default.ensures
