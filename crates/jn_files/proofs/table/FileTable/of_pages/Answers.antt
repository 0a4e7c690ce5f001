use Rattle.jn_files.proofs.Loaded.{made_kept, made_loaded}
use Rattle.jn_files.proofs.table.FileTable.of_pages.Goals as goal

pub invariant_of-result : goal.invariant_of-result
invariant_of-result c =
    made_kept c.args.root.now c.args.slots.items c.in_ok-heads.heads c.deref.result.now c.deref-2.result.now c.args.maps c.in_ok-held.held.items c.in_ok-touched.touched.items c.in_ok-named.named.items c.deref-3.result.now
    c.in_ok-free_heads.free_heads c.in_ok-free_leaves.free_leaves c.requires.heads c.requires.slots c.requires.few c.in_ok-heads.ensures c.deref.ensures.value c.deref-2.ensures.value c.deref-3.ensures.value
    c.in_ok-held.ensures.length c.in_ok-held.ensures.few c.in_ok-held.ensures.none c.in_ok-touched.ensures.length c.in_ok-touched.ensures.none c.in_ok-free_heads.ensures
    c.in_ok-named.ensures.length c.in_ok-named.ensures.named c.in_ok-free_leaves.ensures.count c.in_ok-free_leaves.ensures.promised c.in_ok-free_leaves.ensures.each

pub returns-clause-loaded : goal.returns-clause-loaded
returns-clause-loaded c =
    made_loaded c.args.root.now c.args.slots.items c.in_ok-heads.heads c.deref.result.now c.deref-2.result.now c.args.maps c.in_ok-held.held.items c.in_ok-touched.touched.items c.in_ok-named.named.items c.deref-3.result.now
    c.in_ok-free_heads.free_heads c.in_ok-free_leaves.free_leaves c.requires.heads c.requires.slots c.requires.few c.in_ok-heads.ensures c.deref.ensures.value c.deref-2.ensures.value c.deref-3.ensures.value
    c.in_ok-held.ensures.length c.in_ok-held.ensures.few c.in_ok-held.ensures.none c.in_ok-touched.ensures.length c.in_ok-touched.ensures.none c.in_ok-free_heads.ensures
    c.in_ok-named.ensures.length c.in_ok-named.ensures.named c.in_ok-free_leaves.ensures.count c.in_ok-free_leaves.ensures.promised c.in_ok-free_leaves.ensures.each
