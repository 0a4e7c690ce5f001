use Rattle.jn_image.proofs.Common.{ℕ, List, Option, Some, None, subst, Finds, seen, data_place, all_noted, IsNotTwice}
use Rattle.jn_records.specs.Sound as sound
use Rattle.jn_image.proofs.Spots.{maps_found, twice_found, entries_of, are_entries_of}
use Rattle.jn_image.proofs.soundness.fault_of_maps.Goals as goal

pub returns-in-Some : goal.returns-in-Some
returns-in-Some c = λ s are noted heads. (heads, maps_found (seen c.args.image.now) c.args.heads.now are heads.1 c.args.named.now noted (Some c.in-Some.i) c.in-Some.ensures)

abbrev its_entries : sound.Image → ℕ → List ℕ
its_entries m d = entries_of (m.bytes (data_place m.counts d))

pub returns-in-Some-2 : goal.returns-in-Some-2
returns-in-Some-2 c = λ s are noted heads.
    let m = seen c.args.image.now in
    let whole = maps_found m c.args.heads.now are heads.1 c.args.named.now noted None c.in_default.ensures in
    let found = subst (λ (r : Option ℕ). Finds (IsNotTwice c.args.image.now.leaves (all_noted c.args.image.now.leaves c.args.heads.now c.args.named.now (its_entries m))) r) c.in-Some-2.is
    (c.in_ok-a.ensures (its_entries m) (are_entries_of m)) in
    ((heads, whole), twice_found m c.args.heads.now are heads.1 c.args.named.now noted (its_entries m) (are_entries_of m) whole (Some c.in-Some-2.a) found)

pub returns : goal.returns
returns c = λ s are noted heads.
    let m = seen c.args.image.now in
    let whole = maps_found m c.args.heads.now are heads.1 c.args.named.now noted None c.in_default.ensures in
    let found = subst (λ (r : Option ℕ). Finds (IsNotTwice c.args.image.now.leaves (all_noted c.args.image.now.leaves c.args.heads.now c.args.named.now (its_entries m))) r) c.in_default-2.is
    (c.in_ok-a.ensures (its_entries m) (are_entries_of m)) in
    ((heads, whole), twice_found m c.args.heads.now are heads.1 c.args.named.now noted (its_entries m) (are_entries_of m) whole None found)
