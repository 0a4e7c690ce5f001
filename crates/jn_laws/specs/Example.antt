-- A vote that is the last Ready: with two servers, as the second one coordinates.
use Rattle.std.specs.Prelude.{◌≡◌, ℕ, [], slice_get, Some}
use Rattle.jn_base.specs.declared.names.Party.TheVariants.{Server}
use Rattle.jn_msgs.specs.declared.message.Message.TheVariants.{Vote}
use Rattle.jn_msgs.specs.declared.message.Vote.TheVariants.{Ready}
use Rattle.jn_system.specs.WholeSystem.ExampleNames.{s1, tid, the_work}
use Rattle.jn_machine.specs.Examples.{setup, calm, calmly, last_of, half_committed}
use Rattle.jn_machine.specs.Tasks.{Rests, State, next_task}
use Rattle.jn_laws.specs.Handing.{number_by, IsVoting, IsLast}

-- once a client has ended its transaction, and all its works are prepared
abbrev pub all_prepared : State
all_prepared = last_of 2 calmly 66 (half_committed [])

-- the next step hands over the last Ready
pub record HandsOverTheLast (s : State) (k : ℕ) : Type 0 where
  pub task : next_task s ≡ Some Rests
  pub number : number_by (setup 2) calm Rests s ≡ Some k
  pub message : slice_get s.course.world.sent k ≡ Some (Server s1, Vote (tid s1 0) the_work Ready)
  pub votes : IsVoting s.course.world s1 (tid s1 0)
  pub last : IsLast the_work votes.ballot
