-- The names from below that these proofs cite, passed on from one place. Declares nothing.
pub use Rattle.std.proofs.Common.{subst, arith, sym, refl, ◌∙◌, ◌≡◌, inl, inr, ◌≢◌, ◌⊎◌, ⊎_elim, ℕ, ◌+◌, ◌≤◌, ◌<◌, Bool, true, false, List, Option, Some, None, Result, Ok, Err, ap, [], ◌*◌}
pub use denote.Enum.Bare.{differs_true, differs_false, same_true, same_false}
pub use Rattle.jn_phys.specs.contracts.Found.{the_type}
pub use Rattle.jn_device.proofs.Later.{later_refl, later_trans, struck_trans, rose_since, rose_then}
pub use Rattle.std.proofs.lemmas.Bool.Decides.{nat_tests}
pub use Rattle.std.specs.Prelude.{IsErr, is_err}
pub use Rattle.jn_base.specs.declared.device.Stopped.{Stopped}
pub use Rattle.jn_device.specs.declared.Look.{Look}
pub use Rattle.jn_device.specs.declared.Look.TheVariants.{Good, LooksBad}
pub use Rattle.jn_device.specs.Device.{DeviceState, partner_of}
pub use Rattle.jn_device.specs.Calls.{GetStep, due, PutStep}
pub use Rattle.jn_device.specs.Later.{Later, Struck}
pub use Rattle.jn_device.proofs.Steps.{get_later, get_struck, get_bytes, put_later, put_struck, put_bytes, put_bytes_at}
pub use Rattle.jn_phys.specs.declared.Found.{Found}
pub use Rattle.jn_phys.specs.declared.Found.TheVariants.{Same, Other, LooksBad as FoundBad}
pub use Rattle.jn_phys.specs.Answers.{look_compared, IsCompared, PutCompared}
pub use Rattle.jn_careful.specs.Careful.{CarefulGot, IsServed, IsStopped, page_read, page_compared, CarefulPut}
pub use Rattle.jn_device.specs.Happens.{Happens, get, joined, put as putting}
pub use Rattle.jn_careful.specs.Tries.{AreGotBad, no_get, got_again, GetRun, gets, last_look, GetsCarefully, MakesGets, IsOneGet, ArePutInVain, no_put, put_once_more, PutRun, puts, PutsCarefully}
