use Rattle.std.proofs.Common.{◌≡◌, length, ◌∙◌, ap, arith, List, Bool}
use Rattle.jn_files.proofs.Naming.{all_length}
use Rattle.jn_files.proofs.named.name_map.Goals as goal

pub name_one-requires : goal.name_one-requires
name_one-requires c =
    let same : length c.name_row.new.named.items ≡ length c.args.named.now.items = ap (λ (l : List Bool). length l) c.name_row.ensures ∙ all_length c.row.result.now c.args.named.now.items in
    omega (arith, same, c.requires.below)
