-- The names from below that these proofs cite, passed on from one place. Declares nothing.
pub use Rattle.std.proofs.Common.{◌≡◌, ◌≢◌, inl, inr, ◌<◌, ◌≤◌, ◌+◌, ◌-◌, ℕ, Bool, true, false, List, length, Option, Some, None, refl, sym, ap, ◌∙◌, arith, ◌^◌, rules, ◌⊎◌, zero, suc, [], ◌∷◌, vec_capacity, subst, ◌/◌}
pub use Rattle.std.proofs.lemmas.Bool.{cases_eq, cases_lt}
pub use Rattle.std.proofs.lemmas.Bool.Decides.{nat_tests}
pub use Rattle.std.proofs.lemmas.List.{get_or-set_same, get_or-set_other, get_or_past, get_or_default, length-set, set-set, same_lists}
pub use Rattle.std.proofs.lemmas.List.Edits.{length-remove, get_or-insert_at, get_or-insert_below, get_or-insert_above, get_or-remove_below, get_or-remove_above, length-insert}
pub use Rattle.std.specs.List.{insert, remove, Contains}
pub use Rattle.std.specs.Prelude.{slice_set, nat_lt, if◌then◌else◌, count_by, cond, ◌||◌, slice_index_or, All, not}
pub use Rattle.jn_index.specs.declared.Entry.{Entry}
pub use Rattle.jn_index.specs.Numbers.{number_at, is_above, IsNumberAbove}
pub use Rattle.jn_index.specs.Entries.{entry, entry_at, is_before, AreEntries, is_none, IsIndex, AreRising, AreOf}
