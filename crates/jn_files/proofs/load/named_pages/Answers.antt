use Rattle.jn_files.proofs.Common.{◌≡◌, ◌+◌, length, sym, ap, subst, ◌∙◌, arith, List, Bool, ℕ, get_or_read, Head, Free, head_in, named_head}
use Rattle.jn_files.proofs.Naming.{NamedBefore, head_length, names_more, named_by_all}
use Rattle.jn_files.proofs.load.named_pages.Goals as goal

pub loop-slot-preserved : goal.loop-slot-preserved
loop-slot-preserved c =
    let at : c.slot-item.result ≡ head_in c.args.slots.now c.loop-slot.slot-index = get_or_read c.args.slots.now c.loop-slot.slot-index c.slot-item.result c.loop-slot-test.true c.slot-item.is Free in
    record {
      so_many = ap (λ (l : List Bool). length l) c.name_all.ensures ∙ head_length c.args.maps.now c.slot-item.result c.loop-slot.named.items ∙ c.loop-slot.invariant.so_many;
      before = subst (λ (l : List Bool). NamedBefore c.args.maps.now c.args.slots.now (c.loop-slot.slot-index + 1) l)
          (sym (c.name_all.ensures ∙ ap (λ (h : Head). named_head c.args.maps.now h c.loop-slot.named.items) at))
          (names_more c.args.leaves c.args.maps.now c.args.slots.now c.loop-slot.slot-index c.loop-slot.named.items c.requires.rows (c.requires.heads c.loop-slot.slot-index) c.loop-slot.invariant.before);
    }

pub returns-clause-named : goal.returns-clause-named
returns-clause-named c = named_by_all c.args.maps.now c.args.slots.now c.loop-slot.named.items
    (subst (λ (n : ℕ). NamedBefore c.args.maps.now c.args.slots.now n c.loop-slot.named.items) (let low = c.loop-slot-test.false in let high = c.loop-slot.auto.slot-index-end in let e : c.loop-slot.slot-index ≡ length c.args.slots.now = omega arith in e) c.loop-slot.invariant.before)
