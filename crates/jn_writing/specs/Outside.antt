-- The outside at one moment, and what calls to it leave: what was written, and whether a call failed.
use Rattle.std.specs.Prelude.{◌≡◌, ℕ, List, Option}
use Rattle.jn_host.specs.Outside.{Contents}
use Rattle.jn_base.specs.Counts.{Rose}
use Rattle.jn_writing.specs.Writing.{Took, TookFront}

-- ---- the outside at one moment

-- the bytes that a source has left and that a sink took, and what a keeper holds under each name, where they tell it; and how often a call of each failed
pub record SourceState : Type 0 where
  pub left : Option (List ℕ)
  pub faults : ℕ

pub record SinkState : Type 0 where
  pub taken : Option (List ℕ)
  pub faults : ℕ

pub record KeeperState : Type 0 where
  pub kept : Option Contents
  pub faults : ℕ

pub record Outside : Type 0 where
  pub source : SourceState
  pub sink : SinkState
  pub keeper : KeeperState

-- what is seen of each of the three that a program has
abbrev pub source_state : {S : Type 0} → (S → Option (List ℕ)) → (S → ℕ) → S → SourceState
source_state left faults source = record { left = left source; faults = faults source }

abbrev pub sink_state : {K : Type 0} → (K → Option (List ℕ)) → (K → ℕ) → K → SinkState
sink_state taken faults sink = record { taken = taken sink; faults = faults sink }

abbrev pub keeper_state : {I : Type 0} → (I → Option Contents) → (I → ℕ) → I → KeeperState
keeper_state kept faults keeper = record { kept = kept keeper; faults = faults keeper }

-- and of the three together
abbrev pub outside : {S K I : Type 0} → (S → Option (List ℕ)) → (S → ℕ) → (K → Option (List ℕ)) → (K → ℕ) → (I → Option Contents) → (I → ℕ) → S → K → I → Outside
outside left read_faults taken write_faults kept keep_faults source sink keeper = record {
  source = record { left = left source; faults = read_faults source };
  sink = record { taken = taken sink; faults = write_faults sink };
  keeper = record { kept = kept keeper; faults = keep_faults keeper };
}

-- no count rose
pub record NoneFails (before after : Outside) : Type 0 where
  pub source : Rose before.source.faults after.source.faults → ⊥
  pub sink : Rose before.sink.faults after.sink.faults → ⊥
  pub keeper : Rose before.keeper.faults after.keeper.faults → ⊥

-- a call of the keeper failed, and nothing was changed
pub record KeeperFails (before after : KeeperState) : Type 0 where
  pub kept : after.kept ≡ before.kept
  pub rose : Rose before.faults after.faults

-- ---- what is written

-- the sink took this text, and no call failed
pub record Writes (text : List ℕ) (before after : SinkState) : Type 0 where
  pub took : Took before.taken after.taken text
  pub faults : after.faults ≡ before.faults

-- it took a front of it, and no call failed
pub record WritesFront (text : List ℕ) (before after : SinkState) : Type 0 where
  pub took : TookFront before.taken after.taken text
  pub faults : after.faults ≡ before.faults

-- it took a front of it, and then a call failed
pub record FailsToWrite (text : List ℕ) (before after : SinkState) : Type 0 where
  pub took : TookFront before.taken after.taken text
  pub rose : Rose before.faults after.faults
