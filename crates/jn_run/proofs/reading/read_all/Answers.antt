use Rattle.jn_run.proofs.Common.{◌≡◌, ◌∙◌, ◌++◌, ℕ, ◌<◌, ◌+◌, length, take, List, Option, Some, None, Ok, Err, Rose, append-nil, arith, refl, sym, ap, subst, is_ok, common_steps, err_from_is_err_and, IsText, IfSome, most_bytes, source_state, prepend_known}
use Rattle.jn_host.proofs.Reading.{reads_join, reads_end}
use Rattle.jn_run.proofs.ReadBytes.{failed-so, gives-of, left-of, long-so, memory-so, whole-so}
use Rattle.jn_run.proofs.reading.read_all.Goals as goal

is_text : (left : Option (List ℕ)) (bytes : List ℕ) → ((all : List ℕ) → left ≡ Some all → bytes ≡ all) → IsText left bytes
is_text None bytes h = tt
is_text (Some all) bytes h = h all refl

pub returns-in_err-count : goal.returns-in_err-count
returns-in_err-count g c =
    let before = source_state g.S.Source.left g.S.Source.faults c.args.source.now in
    let after = source_state g.S.Source.left g.S.Source.faults c.read.new.self in
    let p = err_from_is_err_and c.from_residual.result c.from_residual.ensures.1 in
    let no = ap is_ok c.in_err-count.was in
    let r = c.read.ensures.read in
    record {
      read = failed-so before after c.from_residual.result (p.1 ∙ ap (λ e. Err e) p.2) (record {
        count = length c.loop-piece.bytes.items;
        few = omega (arith, c.loop-piece-test.true);
        left = r.kept no ∙ left-of before.left (g.S.Source.left c.loop-piece.source) c.loop-piece.bytes.items c.loop-piece.invariant.given;
        rose = subst (λ (n : ℕ). Rose n after.faults) c.loop-piece.invariant.count (r.rose no);
      });
    }

pub returns-then-count-eq0 : goal.returns-then-count-eq0
returns-then-count-eq0 g c =
    let before = source_state g.S.Source.left g.S.Source.faults c.args.source.now in
    let after = source_state g.S.Source.left g.S.Source.faults c.read.new.self in
    let r = c.read.ensures.read in
    let bytes = c.loop-piece.bytes.items in
    let none = c.in_ok-count.was ∙ ap (λ n. Ok n) c.if-count-eq0.true in
    let room : 0 < length (take c.min-room.result c.loop-piece.piece) = grind (arith, common_steps) in
    let told : IsText before.left bytes = is_text before.left bytes (λ all e. reads_end all bytes _ _ _ _ _ _ _ (sym e ∙ c.loop-piece.invariant.given) r none room) in
    let gave = reads_join before.left bytes _ _ _ _ _ _ _ c.loop-piece.invariant.given r 0 none bytes (sym (append-nil bytes)) in
    record {
      read = whole-so before after _ c.loop-piece.bytes refl (record {
        told = told;
        fits = omega (arith, c.loop-piece-test.true);
        gave = gives-of before after bytes gave (r.no_fault (ap is_ok none) ∙ c.loop-piece.invariant.count);
      });
    }

pub returns-in_err-extend_from_slice : goal.returns-in_err-extend_from_slice
returns-in_err-extend_from_slice g c =
    let before = source_state g.S.Source.left g.S.Source.faults c.args.source.now in
    let after = source_state g.S.Source.left g.S.Source.faults c.read.new.self in
    let r = c.read.ensures.read in
    let p = err_from_is_err_and c.from_residual-in_err-extend_from_slice.result c.from_residual-in_err-extend_from_slice.ensures.1 in
    let ok = c.in_ok-count.was in
    let bytes : List ℕ = c.loop-piece.bytes.items ++ take c.in_ok-count.count c.read.new.into in
    let fits = r.fits c.in_ok-count.count ok in
    let gave = reads_join before.left c.loop-piece.bytes.items _ _ _ _ _ _ _ c.loop-piece.invariant.given r c.in_ok-count.count ok bytes refl in
    record {
      read = memory-so before after c.from_residual-in_err-extend_from_slice.result (p.1 ∙ ap (λ e. Err e) p.2)
          (length bytes, grind (arith, common_steps, fits), gives-of before after bytes gave (r.no_fault (ap is_ok ok) ∙ c.loop-piece.invariant.count));
    }

pub returns : goal.returns
returns g c =
    let before = source_state g.S.Source.left g.S.Source.faults c.args.source.now in
    let after = source_state g.S.Source.left g.S.Source.faults c.loop-piece.source in
    let bytes = c.loop-piece.bytes.items in
    let many : length bytes ≡ most_bytes + 1 = omega (arith, c.loop-piece-test.false, c.loop-piece.invariant.fits) in
    let gave = gives-of before after bytes c.loop-piece.invariant.given c.loop-piece.invariant.count in
    record {
      read = long-so before after _ refl (record {
        many = longer before.left after.left bytes c.loop-piece.invariant.given (omega (arith, many));
        gave = subst (λ (n : ℕ). Rattle.jn_run.specs.Source.Gives n before after) many gave;
      });
    }
  where
    longer : (first left : Option (List ℕ)) (xs : List ℕ) → first ≡ prepend_known xs left → most_bytes < length xs → IfSome first (λ all. most_bytes < length all)
    longer first None xs is more = subst (λ (known : Option (List ℕ)). IfSome known (λ all. most_bytes < length all)) (sym is) tt
    longer first (Some rest) xs is more = subst (λ (known : Option (List ℕ)). IfSome known (λ all. most_bytes < length all)) (sym is) (grind (arith, common_steps, more))

pub loop-piece-preserved : goal.loop-piece-preserved
loop-piece-preserved g c =
    let r = c.read.ensures.read in
    let items = c.in_ok-extend_from_slice.ensures.items in
    let fits = r.fits c.in_ok-count.count c.in_ok-count.was in
    record {
      room = grind (arith, common_steps);
      fits = grind (arith, common_steps, items, fits);
      given = reads_join _ c.loop-piece.bytes.items _ _ _ _ _ _ _ c.loop-piece.invariant.given r c.in_ok-count.count c.in_ok-count.was _ (grind (arith, common_steps, items, fits));
      count = r.no_fault (ap is_ok c.in_ok-count.was) ∙ c.loop-piece.invariant.count;
    }
