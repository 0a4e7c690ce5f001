-- The puts of a data page and of the root leave what a recovery asks.
use Rattle.jn_page_state.proofs.Common.{◌≡◌, ◌≢◌, ℕ, suc, ◌<◌, ◌≤◌, ◌+◌, Bool, true, false, not, ◌||◌, if◌then◌else◌, List, length, refl, sym, ◌∙◌, ap, subst, true≢false, arith, nat_tests, fun_ext, nat_eq, list_all, FileNo, ServerNo, FullIntention, most_cells, Files, FreeHead, Layout, map_cell, at_cell, layout_by, layouts_by, layout_at, is_layout_of, IsNoMap, entry_in, Counts, IsLoadable, IsGiven, StableState, Prepared, Contents, head_in, entry_of, layouts_in, heads_name, works_have, names_for_block, with_block, with_epoch, Addresses, IsConsistent, is_read, IsPrepared, file_there, needs_file, list_of, heads_of, first_net, total, block-put, get-map, map-cell-is, or_left, AreNamedOnce}
use Rattle.jn_page_state.proofs.Naming.{cell_named}

-- a data page that isn't read is no map page
pub no_map_read : (c : Contents) (d : ℕ) → is_read c d ≡ false → IsNoMap c.heads d
no_map_read c d unread i k below e = true≢false (sym (or_left (heads_name most_cells (layouts_in c) (suc d)) (works_have (names_for_block (suc d)) c.pool) named) ∙ unread)
  where
    low : map_cell k < most_cells
    low = omega (arith, below)

    here : Addresses (layouts_in c) i (map_cell k) d
    here = ap (λ l. at_cell l (map_cell k)) (get-map (layout_by (entry_of c.blocks)) c.heads i FreeHead) ∙ map-cell-is (entry_of c.blocks) (head_in c.heads i) k below ∙ e

    named : heads_name most_cells (layouts_in c) (suc d) ≡ true
    named = cell_named most_cells (layouts_in c) i (map_cell k) d low here

-- and where a block comes in its place, each layout stays
pub block_layouts : (c : Contents) (d : ℕ) (bytes : List ℕ) → IsNoMap c.heads d → layouts_in (with_block c d bytes) ≡ layouts_in c
block_layouts c d bytes none = block-put (entry_of c.blocks) (entry_of (with_block c d bytes).blocks) c.heads d (λ k. entry_in bytes k)
    (record {
      here = λ k. ap (λ b. entry_in (if b then bytes else c.blocks d) k) (itself d);
      others = λ e k ne. ap (λ b. entry_in (if b then bytes else c.blocks e) k) (differ e ne);
    }) none
  where
    itself : (n : ℕ) → nat_eq n n ≡ true
    itself n = grind (arith, nat_tests)

    differ : (e : ℕ) → e ≢ d → nat_eq d e ≡ false
    differ e ne = grind (arith, nat_tests, ne)

-- where pool, heads and layouts are the same, so is what a recovery asks
same_layouts : (g : Counts) (c : Contents) (epoch : ℕ) (blocks : ℕ → List ℕ) → layouts_by (entry_of blocks) c.heads ≡ layouts_in c → IsConsistent g c → IsConsistent g (record { epoch = epoch; pool = c.pool; heads = c.heads; blocks = blocks })
same_layouts g c epoch blocks same before = record {
  distinct = record {
    works = before.distinct.works;
    flags = before.distinct.flags;
    files = before.distinct.files;
  };
  complete = before.complete;
  supplied = before.supplied;
  addresses = record {
    heads = subst AreNamedOnce (sym same) before.addresses.heads;
    works = before.addresses.works;
    works_fit = before.addresses.works_fit;
    carried = λ d i j p q s x a y. subst (λ (ls : List Layout). (is_layout_of s.file (layout_at ls j) ≡ true) × (q ≡ p)) (sym same) (before.addresses.carried d i j p q s x a (subst (λ (ls : List Layout). Addresses ls j q d) same y));
  };
}

pub block_consistent : (g : Counts) (c : Contents) (d : ℕ) (bytes : List ℕ) → is_read c d ≡ false → IsConsistent g c → IsConsistent g (with_block c d bytes)
block_consistent g c d bytes unread = same_layouts g c c.epoch (with_block c d bytes).blocks (block_layouts c d bytes (no_map_read c d unread))

pub root_consistent : (g : Counts) (c : Contents) (epoch : ℕ) → IsConsistent g c → IsConsistent g (with_epoch c epoch)
root_consistent g c epoch = same_layouts g c epoch c.blocks refl

-- ---- what may be loaded

-- a name that was given is given in a later epoch
later_given : (server : ServerNo) (epoch later : ℕ) (of : ServerNo) (at : ℕ) → epoch ≤ later → IsGiven server epoch of at → IsGiven server later of at
later_given server epoch later of at le given = record { own = given.own; past = let past = given.past in omega (arith, le, past) }

pub later_loadable : (server : ServerNo) (heads epoch : ℕ) (x : StableState) → x.epoch ≤ epoch → IsLoadable server heads x → IsLoadable server heads (record x { epoch = epoch })
later_loadable server heads epoch x le before = record {
  orderly = record {
    works_few = before.orderly.works_few;
    flags_few = before.orderly.flags_few;
    works_given = λ w h. later_given server x.epoch epoch w.server w.epoch le (before.orderly.works_given w h);
    flags_given = λ t h. later_given server x.epoch epoch t.server t.epoch le (before.orderly.flags_given t h);
    prepared = before.orderly.prepared;
    apart = before.orderly.apart;
  };
  works = before.works;
  files = before.files;
  works_all = before.works_all;
  files_all = before.files_all;
  fits = before.fits;
}

-- where the same files are there, whatever their blocks are
pub same_loadable : (server : ServerNo) (heads : ℕ) (x : StableState) (files : Files) → ((f : FileNo) → file_there files f ≡ file_there x.files f) → IsLoadable server heads x → IsLoadable server heads (record x { files = files })
same_loadable server heads x files same before = record {
  orderly = record {
    works_few = before.orderly.works_few;
    flags_few = before.orderly.flags_few;
    works_given = before.orderly.works_given;
    flags_given = before.orderly.flags_given;
    prepared = λ w p e. prepared p (before.orderly.prepared w p e);
    apart = before.orderly.apart;
  };
  works = before.works;
  files = before.files;
  works_all = before.works_all;
  files_all = record { different = before.files_all.different; all = λ f. before.files_all.all f ∙ sym (same f) };
  fits = subst (λ (there : FileNo → Bool). length before.files + total (λ w. heads_of (list_of x w) there) before.works ≤ heads) (sym (fun_ext same)) before.fits;
}
  where
    prepared : (p : Prepared) → IsPrepared x.files p.list p.reads → IsPrepared files p.list p.reads
    prepared p h = record {
      order = h.order;
      length_fits = h.length_fits;
      in_range = h.in_range;
      reads_fit = h.reads_fit;
      reads_ascend = h.reads_ascend;
      reads_in_range = h.reads_in_range;
      reads_files = h.reads_files;
      files_there = subst (λ (there : FileNo → Bool). list_all (λ (i : FullIntention). not (needs_file (first_net p.list i)) || there i.file) p.list ≡ true) (sym (fun_ext same)) h.files_there;
      no_lost_put = h.no_lost_put;
    }
