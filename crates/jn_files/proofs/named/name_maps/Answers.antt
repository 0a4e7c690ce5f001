use Rattle.jn_files.proofs.Common.{◌+◌, length, drop, ◌∙◌, ap, arith, List, Bool, slice_index, named_maps}
use Rattle.jn_files.proofs.Naming.{map_length, maps_step}
use Rattle.jn_files.proofs.named.name_maps.Goals as goal

pub loop-j-preserved : goal.loop-j-preserved
loop-j-preserved c = record {
  long = ap (λ (l : List Bool). length l) c.name_map.ensures ∙ map_length c.args.maps.now (slice_index c.args.addresses.now c.loop-j.j) c.loop-j.named.items ∙ c.loop-j.invariant.long;
  rest = ap (λ (l : List Bool). named_maps c.args.maps.now (drop (c.loop-j.j + 1) c.args.addresses.now) l) c.name_map.ensures
      ∙ maps_step c.args.maps.now c.args.addresses.now c.loop-j.j c.loop-j.named.items (let m = c.told-addresses in let t = c.loop-j-test.true in omega arith)
      ∙ c.loop-j.invariant.rest;
}
