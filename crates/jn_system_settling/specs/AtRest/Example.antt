-- What isn't settled.
use Rattle.std.specs.Prelude.{ℕ, [], ◌∷◌, Some}
use Rattle.jn_base.specs.declared.names.ServerNo.{ServerNo}
use Rattle.jn_base.specs.declared.names.Tid.{Tid}
use Rattle.jn_base.specs.declared.names.WorkId.{WorkId}
use Rattle.jn_order.specs.Files.{AllFiles}
use Rattle.jn_rows.specs.Worker.{new_work}
use Rattle.jn_system.specs.WholeSystem.World.{World, opening, new_memory}

abbrev pub first_work : WorkId
first_work = record { server = record { 0 = 0 }; epoch = 0; ticket = 0 }

abbrev pub no_one's : Tid
no_one's = record { server = record { 0 = 0 }; epoch = 0; ticket = 0 }

-- each server has a work of a transaction that no coordinator has
abbrev pub forgotten_work : AllFiles → (ServerNo → ℕ) → World
forgotten_work files epochs = record (opening 1 files epochs) { memory = λ s. Some (record (new_memory s (epochs s)) { worker = new_work first_work no_one's ∷ [] }) }
