use Rattle.std.proofs.Common.{◌≡◌, ◌++◌, ◌-◌, ◌∙◌, ℕ, List, length, replicate, codes, ap, sym, subst, OnOk}
use Rattle.jn_text.specs.Words.{block_word, hex_word}
use Rattle.jn_text.proofs.Zeros.{without_end_zeros-zeros}
use Rattle.jn_report.proofs.Appends.{appended_last}
use Rattle.jn_report.proofs.write.push_block.Goals as goal

-- zeros behind the bytes aren't spelled
block_word-zeros : (whole first : List ℕ) (n : ℕ) → whole ≡ first ++ replicate n 0 → block_word first ≡ block_word whole
block_word-zeros whole first n behind = sym (ap block_word behind ∙ ap hex_word (without_end_zeros-zeros first n))

pub returns-clause-ok : goal.returns-clause-ok
returns-clause-ok c =
    let old = c.args.out.now.items in
    let mid = c.push_byte.new.out.items in
    let new = c.push_hex.new.out.items in
    let first = c.first_bytes.result.now in
    let spelled = block_word-zeros c.args.content.now first (448 - length first) c.first_bytes.ensures in
    appended_last c.push_hex.result old (codes " ") mid (block_word c.args.content.now) new c.in_ok-push_byte.ensures.ok
    (subst (λ (word : List ℕ). OnOk c.push_hex.result (new ≡ mid ++ word)) spelled c.push_hex.ensures.ok)
