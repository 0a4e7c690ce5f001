use Rattle.std.proofs.Common.{arith}
use Rattle.jn_storage.proofs.LackingMaps.{pages-few}
use Rattle.jn_storage.proofs.files.need.Goals as goal

pub overflow_add-result-2 : goal.overflow_add-result-2
overflow_add-result-2 g c = let few = pages-few c.args.list.now (g.W.Storage.view c.args.files.now).accounts.maps in omega (arith, few, c.puts_in.ensures, c.maps_needed.ensures, c.requires.length)
