use Rattle.std.proofs.Common.{codes}
use Rattle.jn_report.specs.Text.{text_of, when_word, words_of, spaced}
use Rattle.jn_report.proofs.Appends.{IsKept-after, OnErr-always, appended_twice, appended_last}
use Rattle.jn_report.proofs.write.push_parts.Goals as goal

pub returns-in_err-push_text-clause-err : goal.returns-in_err-push_text-clause-err
returns-in_err-push_text-clause-err c =
    let begun = appended_twice c.args.out.now.items (when_word c.args.line.now.when) _ (codes ":") _ c.in_ok-push_when.ensures.ok c.in_ok-push_byte.ensures.ok in
    OnErr-always _ _ (IsKept-after c.args.out.now.items _ _ _ begun c.in_err-push_text.ensures.err)

pub returns-clause-ok : goal.returns-clause-ok
unfolding text_of
returns-clause-ok c =
    let begun = appended_twice c.args.out.now.items (when_word c.args.line.now.when) _ (codes ":") _ c.in_ok-push_when.ensures.ok c.in_ok-push_byte.ensures.ok in
    let said = appended_twice c.args.out.now.items _ _ (spaced (words_of c.args.line.now.text)) _ begun c.in_ok-push_text.ensures.ok in
    appended_last c.push_byte-2.result c.args.out.now.items _ _ (codes "\n") _ said c.push_byte-2.ensures.ok
