use Rattle.jn_files.proofs.Common.{◌≡◌, true, length, ◌∙◌, ap, sym, subst, List, Bool, ℕ, Head, all_within, AreRows, IsHeadOf}
use Rattle.jn_files.proofs.Naming.{all_length, maps_fit}
use Rattle.jn_files.proofs.slot.Slot.name_all.Goals as goal

pub name_maps-requires-clause-below : goal.name_maps-requires-clause-below
name_maps-requires-clause-below c =
    let same : length c.name_row.new.named.items ≡ length c.args.named.now.items = ap (λ (l : List Bool). length l) c.name_row.ensures ∙ all_length c.self.inside.addresses c.args.named.now.items in
    subst (λ (n : ℕ). all_within n c.self.inside.maps ≡ true) (sym same)
    (maps_fit (length c.args.named.now.items) c.self.inside.file c.in-Some.field-0 c.self.inside.addresses c.self.inside.maps c.in-Some.is (subst (λ (h : Head). IsHeadOf (length c.args.named.now.items) h) (sym c.self.view_is) c.requires.head))

pub name_maps-requires-clause-rows : goal.name_maps-requires-clause-rows
name_maps-requires-clause-rows c =
    let same : length c.name_row.new.named.items ≡ length c.args.named.now.items = ap (λ (l : List Bool). length l) c.name_row.ensures ∙ all_length c.self.inside.addresses c.args.named.now.items in
    subst (λ (n : ℕ). AreRows n c.args.maps.now) (sym same) c.requires.rows
