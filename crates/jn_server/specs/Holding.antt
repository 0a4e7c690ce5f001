-- How many data pages the works of a server hold.
use Rattle.std.specs.Prelude.{◌≡◌, ℕ, Some}
use Rattle.jn_base.specs.declared.names.WorkId.{WorkId}
use Rattle.jn_rows.specs.Stable.{Prepared}
use Rattle.jn_server.specs.Seen.{ServerView}
use Rattle.jn_storage.specs.Calls.{state}
use Rattle.jn_worker.specs.Calls.{pages_named}

-- A work that was prepared in this epoch, and of which nothing is carried out yet, holds each page that it names.
abbrev pub HoldsAll : ServerView → Type 0
HoldsAll v = (W : WorkId) (p : Prepared) → (state v.storage).works W ≡ Some p → W.epoch ≡ (state v.storage).epoch → v.storage.accounts.next W ≡ 0
    → v.storage.accounts.held W ≡ pages_named p.list (v.storage.accounts.supplied W)
