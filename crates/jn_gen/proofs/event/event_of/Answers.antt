use Rattle.jn_gen.proofs.Common.{◌≡◌, ◌∙◌, ◌+◌, ◌-◌, ◌≤◌, ◌∷◌, [], ℕ, List, ap, sym, arith, FaultKind, filled, does, first_epoch}
use Rattle.jn_base.specs.declared.op.Op.TheVariants as ops
use Rattle.jn_schedule.specs.declared.Event.TheVariants as events
use Rattle.jn_gen.proofs.Choosing.{aborts, chosen, crashes, cuts, decays, removes, restarts, sends_again, settles, times_out, writes}
use Rattle.jn_gen.proofs.event.event_of.Goals as goal
use Rattle.jn_gen.proofs.event.event_of.Goals.{in-0, in-1, in-2, in-5, in-6, in-7, in-7-2, in-8, in-8-2, in-8-3, in-13, in-14, in-14-2, in-3+in_ok-content-in-3, in-9-to-12, in_default}

pub returns : goal.returns
returns c =
    let d = c.args.draws in
    elim c.match-choice.branch [
      | in-0 w ↦ w.result-is ∙ sym (chosen d 0 w.in-0.is)
      | in-1 w ↦ w.result-is ∙ sym (chosen d 1 w.in-1.is)
      | in-2 w ↦ w.result-is ∙ sym (chosen d 2 w.in-2.is)
      | in-5 w ↦ w.result-is ∙ sym (chosen d 5 w.in-5.is)
      | in-6 w ↦ w.result-is ∙ sym (chosen d 6 w.in-6.is)
      | in-7 w ↦ w.result-is ∙ sym (aborts d w.in-7.is w.if-byte-lt64.true)
      | in-7-2 w ↦ w.result-is ∙ sym (sends_again d w.in-7.is w.if-byte-lt64.false)
      | in-8 w ↦ w.result-is ∙ sym (cuts d w.in-8.is w.if-byte-lt85.true)
      | in-8-2 w ↦ w.result-is ∙ sym (removes d w.in-8.is w.if-byte-lt85.false w.if-byte-lt170.true)
      | in-8-3 w ↦
          let byte : w.from.result ≡ d.byte = omega arith in
          w.result-is ∙ ap (λ (n : ℕ). events.Timeout d.server (first_epoch d (n - 170))) byte ∙ sym (times_out d w.in-8.is w.if-byte-lt170.false)
      | in-13 w ↦
          let byte : w.from-in-13.result ≡ d.byte = omega arith in
          w.result-is
          ∙ ap (λ (n : ℕ). events.Arm d.server (n + 1) w.fault_of.result) byte
          ∙ ap (λ (kind : FaultKind). events.Arm d.server (d.byte + 1) kind) w.fault_of.ensures
          ∙ sym (chosen d 13 w.in-13.is)
      | in-14 w ↦ w.result-is ∙ sym (crashes d w.in-14.is w.if-byte-lt128.true)
      | in-14-2 w ↦
          let byte : w.from-in-14-2.result ≡ d.byte = omega arith in
          w.result-is ∙ ap (λ (n : ℕ). events.Decay d.server n) byte ∙ sym (decays d w.in-14.is w.if-byte-lt128.false)
      | in-3+in_ok-content-in-3 w ↦
          let low : 3 ≤ d.choice = omega arith in
          let high : d.choice ≤ 4 = omega arith in
          let content : w.in_ok-content-in-3.content ≡ filled (d.byte ∷ []) = w.in_ok-content-in-3.ensures in
          w.result-is ∙ ap (λ (b : List ℕ). does d (ops.Write d.file d.block b)) content ∙ sym (writes d low high)
      | in-9-to-12 w ↦ w.result-is ∙ sym (settles d (omega arith) (omega arith))
      | in_default w ↦ w.result-is ∙ sym (restarts d (omega arith))
    ]
