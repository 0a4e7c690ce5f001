-- The names from below that these proofs cite, passed on from one place. Declares nothing.
pub use Rattle.std.proofs.Common.{◌≡◌, ℕ, zero, suc, ◌<◌, ◌+◌, Bool, true, false, ◌||◌, if◌then◌else◌, List, [], ◌∷◌, ◌++◌, Some, None, length, map, refl, ap, arith, slice_index_or, slice_set, inr, not, ◌&&◌, Option, sym, subst, ◌≢◌, ⊎_elim, ◌∙◌, add-zero, true≢false, ◌≤◌, ◌*◌, ◌-◌, ◌/◌, take, ◌⊎◌, Result, Ok, Err}
pub use Rattle.std.specs.Prelude.{filter, is_some, slice_get, nat_eq, count_by, nat_le, is_ok}
pub use Rattle.jn_storage.specs.Listing.{is_in, are_different, IsListing, AtMost, total}
pub use Rattle.std.specs.List.{list_all}
pub use Rattle.jn_base.specs.declared.names.FileNo.{FileNo}
pub use Rattle.jn_base.specs.declared.names.LockUnit.{LockUnit}
pub use Rattle.jn_base.specs.declared.names.LockUnit.TheVariants.{File, Block}
pub use Rattle.jn_base.specs.Names.{file_eq, unit_eq, tid_eq, work_eq}
pub use Rattle.jn_order.specs.Files.{Files, change, answer_to, file_of}
unfoldable pub use Rattle.jn_order.specs.Files.{zeros}
pub use Rattle.jn_records.specs.declared.intention.What.{What}
pub use Rattle.jn_records.specs.declared.intention.What.TheVariants.{Fresh, Gone, Cut, Put}
pub use Rattle.jn_records.specs.declared.intention.Intention.{Intention}
pub use Rattle.jn_records.specs.NetLists.{intention_change, intention_place, in_order, entry, is_fresh, needs_a_head, heads_of, first_by, as_first, net_of, is_put, is_put_intention, list_change, answered}
pub use Rattle.jn_locks.specs.declared.words.Mode.{Mode}
pub use Rattle.jn_locks.specs.declared.words.Mode.TheVariants.{Read, Commit, IntentionWrite}
pub use Rattle.jn_locks.specs.Locks.{together, rebuilt, is_unit, GoTogether}
pub use Rattle.jn_storage.specs.Orderly.{unit_of, file_there, IsOrderly, IsPrepared, IsGiven, unit_by, held_by, needs_file, first_of, list_of, IsLoadable}
pub use Rattle.std.proofs.lemmas.List.Sums.{sum_by-cons, count_by-le-length}
pub use Rattle.jn_rows.specs.Stable.{StableState, Prepared, MarkGoing, CarryOut, RemoveWork, AddFlag, DropFlag, made_by, at_work, gone_on, Pick}
pub use Rattle.jn_records.specs.MapPlaces.{MapPlaces, lacks_map, lacking, places_after, places_then, is_past_head}
pub use Rattle.jn_storage.specs.Storage.{StorageView, StorageLater, IsServing}
pub use Rattle.jn_storage.specs.Calls.{state, Called}
