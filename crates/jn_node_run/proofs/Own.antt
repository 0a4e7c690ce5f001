-- The store of a server's own image: what is found there, and that the server may come up on it.
use Rattle.jn_node_run.proofs.Common.{◌≡◌, ℕ, List, Option, Some, None, refl, sym, ap, subst, ◌∙◌, false, DeviceState, Contents, AreWithin, IsFound, epoch_found, last_epoch, IsOwnStore, Node, Counts, counts_by, pairs_view}
use Rattle.jn_base.specs.declared.names.Tid.{Tid}
use Rattle.jn_base.specs.declared.names.WorkId.{WorkId}
use Rattle.jn_image_files.proofs.OneDisk.{root-of, opened-of, fresh-of}
use Rattle.jn_memdisk.specs.declared.disk.MemDisk.{MemDisk}
use Rattle.jn_order.specs.Files.{Files}
use Rattle.jn_page_state.specs.Images.{IsFresh, only_files}
use Rattle.jn_page_state.specs.Pages.{found_on}
use Rattle.jn_page_state.specs.Recoverable.{IsRecoverable}
use Rattle.jn_recovery.specs.declared.counts.PageCounts.{PageCounts}
use Rattle.jn_row_ranges.specs.Naming.{StateWithin}
use Rattle.jn_rows.specs.Stable.{StableState, Prepared, FlagState, Pick}
use Rattle.jn_store.specs.Store.{StoreView}

-- what is seen of pairs of pages on a disk in memory
abbrev pub look : MemDisk → StoreView
look s = pairs_view ((Rattle.jn_memdisk.specs.contracts.disk.MemDiskPhysDisk.TheImpl.ghosts).state s)

-- and the device below them
abbrev pub device : MemDisk → DeviceState
device s = (Rattle.jn_memdisk.specs.contracts.disk.MemDiskPhysDisk.TheImpl.ghosts).state s

no-work : (p : Prepared) → None ≡ Some p → ⊥
no-work p h = cc

no-flag : (flag : FlagState) → None ≡ Some flag → ⊥
no-flag flag h = cc

-- files alone name no server
files-within : (epoch : ℕ) (files : Files) → StateWithin 8 (only_files epoch files)
files-within epoch files = record { works = λ (W : WorkId) (p : Prepared) h. absurd (no-work p h); flags = λ (T : Tid) (flag : FlagState) h. absurd (no-flag flag h) }

module _ (node : Node) (kept : Option Contents) (x : MemDisk × PageCounts) (own : IsOwnStore look device node kept x) where
  -- its disk is that of a sound image
  abbrev pub found-of : IsFound node kept
  found-of = record {
    counts = counts_by x.1;
    files = _;
    disk = device x.0;
    opened = opened-of look device node.server own.content x own.store kept node.opening own.has;
  }

  its-fresh : IsFresh node.server (counts_by x.1) (root-of look device node.server own.content x own.store).0 found-of.files (look x.0)
  its-fresh = fresh-of look device node.server own.content x own.store refl

  pub recoverable : IsRecoverable node.server (counts_by x.1) (look x.0)
  recoverable = its-fresh.recoverable

  pub names : (c : Pick) → StateWithin 8 (found_on (counts_by x.1) (look x.0) c)
  names c = subst (λ (y : StableState). StateWithin 8 y) (sym (its-fresh.found c)) (files-within (root-of look device node.server own.content x own.store).0 found-of.files)

  -- any pick finds its epoch
  pub last-epoch : (c : Pick) × ((found_on (counts_by x.1) (look x.0) c).epoch ≡ last_epoch) → epoch_found found-of ≡ last_epoch
  last-epoch at = ap (λ (y : StableState). y.epoch) (its-fresh.found (λ n. false) ∙ sym (its-fresh.found at.0)) ∙ at.1

  pub within : AreWithin (counts_by x.1)
  within =
      let form = own.store.disk.is_sound.form in
      subst (λ (g : Counts). AreWithin g) own.store.disk.counts (record { pool = form.pool_within; heads = form.heads_within; leaves = form.leaves_within })
