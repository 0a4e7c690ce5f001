use Rattle.std.proofs.lemmas.Option.{slice_get-get_or}
use Rattle.jn_storage.proofs.LackingMaps.{lacks-not, lacks-unfound}
use Rattle.jn_storage.proofs.files.lacks_map.Goals as goal

pub returns-in_default : goal.returns-in_default
returns-in_default g c = lacks-not c.args.list.now (g.W.Storage.view c.args.files.now).accounts.maps c.args.k _ _ (slice_get-get_or _ _ _ c.requires.below) c.map_of.ensures c.in_default.is

pub returns : goal.returns
returns g c = lacks-unfound c.args.list.now (g.W.Storage.view c.args.files.now).accounts.maps c.args.k _ _ _ _ _ (slice_get-get_or _ _ _ c.requires.below) c.map_of.ensures c.in-Some.is c.has_map.ensures c.finds_map.ensures
