-- The names from below that these proofs cite, passed on from one place. Declares nothing.
pub use Rattle.std.proofs.Common.{◌≡◌, inl, inr, ℕ, true, ◌+◌, ◌<◌, ◌^◌, List, [], ◌∷◌, ◌++◌, length, sym, ◌∙◌, ap, subst, arith, ⊎_elim, ◌≤◌, Bool, false, Option, Some, None, refl, ◌≢◌, zero, suc, true≢false, ◌⊎◌, ◌-◌, map, drop, rules}
pub use Rattle.std.proofs.Math.ListN.{get_or-append}
pub use Rattle.std.proofs.Math.Seq.{get_or-append_seam}
pub use Rattle.std.proofs.lemmas.Bool.{cases_lt, cases_eq, false_from_ne_true}
pub use Rattle.std.proofs.lemmas.List.{length-append, get_or_past, get_or-set_same, get_or-set_other, length-set, set-get_or, set-set}
pub use Rattle.std.specs.List.{enumerate_from, position_or_len, sum_by, remove, list_any, AllByRecursion}
pub use Rattle.std.specs.Map.{values_of, lookup}
pub use Rattle.jn_records.specs.declared.record.Record.{Record}
pub use Rattle.jn_records.specs.declared.record.Record.TheVariants.{Free, Intention, Ready, Going, Flag as FlagRecord}
pub use Rattle.jn_records.specs.Records.{has_page, record_page, record_at}
pub use Rattle.jn_store.specs.Store.{StoreView, IsServed, StoreRead, IsOnly, IsSamePage, StorePut}
pub use Rattle.jn_sets.specs.Pool.{slot_page, record_in, IsRecordPage, IsReadable, IsStored, HoldsRecords, is_free, prepares, is_wanted, record_number, number_wanted, spread, is_prepared, is_rubbish, rubbish_count, intends, intends_for, left_of, kept_by, is_ready, going_of, ready_of, marked, members_in, IsRecord, Says, members_of}
pub use Rattle.jn_sets.specs.Sets.{IsIndex, AreCounted, ones, AreCleanTo, AreUsedTo, IsWatched, Puts}
pub use Rattle.std.proofs.lemmas.Bool.Decides.{nat_tests}
pub use Rattle.std.proofs.lemmas.List.Sums.{position_or_len_is, sum_by-set, sum_by-append, sum_by-remove, sum_by-cons, count_by-le-length, length-filter}
pub use Rattle.std.specs.Prelude.{position, nat_eq, nat_lt, slice_set, count_by, cond, ◌&&◌, filter, if◌then◌else◌, not, ◌||◌, is_some, slice_get}
pub use Rattle.jn_base.specs.declared.names.WorkId.{WorkId}
pub use Rattle.jn_base.specs.Names.{tid_eq, work_eq}
pub use Rattle.jn_base.proofs.Tells.{tid_tells, work_tells}
pub use Rattle.jn_index.specs.Numbers.{number_at, IsSlotFrom}
pub use Rattle.indexmap.specs.IndexMap.{IndexMap, set_value_at, insert_entry}
pub use Rattle.indexmap.proofs.CallerLemmas.{insert_entry-new, index_map_len-with_value_at}
pub use Rattle.std.proofs.lemmas.Option.{get_or_from_slice_get, slice_get-get_or, unwrap_or-slice_get}
pub use Rattle.jn_fields.specs.Names.{UnitFits, WorkFits}
pub use Rattle.std.specs.Option.{unwrap_or}
