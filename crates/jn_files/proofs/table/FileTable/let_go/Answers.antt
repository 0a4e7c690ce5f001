use Rattle.jn_files.proofs.Common.{◌<◌, ap, ◌∙◌, subst, sym, false, true, slice_index_or, slice_set, FreeNumbers, with_free, TableView, IsUnnamed, layouts_in, IsKeptTable, IsNamedPage, table_view}
use Rattle.jn_files.proofs.Between.{set_below}
use Rattle.jn_files.proofs.Leaves.{let_go_named, let_go_free, held_view}
use Rattle.jn_files.proofs.table.FileTable.let_go.Goals as goal

pub is_named-named-requires : goal.is_named-named-requires
is_named-named-requires c =
    let was = ap (λ (x : TableView). slice_index_or x.held c.args.a false) c.self.view_is ∙ c.requires in
    subst (λ (x : TableView). c.args.a < x.counts.leaves) c.self.view_is (set_below c.self.inside.held.items c.args.a was)

pub invariant_of-self : goal.invariant_of-self
invariant_of-self c =
    let t = c.self.inside in
    let was = ap (λ (x : TableView). slice_index_or x.held c.args.a false) c.self.view_is ∙ c.requires in
    let unnamed = subst (λ (x : TableView). IsUnnamed (layouts_in x) c.args.a) (sym c.self.view_is) (c.is_named-named.ensures.unnamed c.if-not-named.true) in
    subst (λ (x : FreeNumbers). IsKeptTable t.pool t.heads t.maps (slice_set t.held.items c.args.a false) t.touched.items t.named.items t.free_heads x) (sym c.give.ensures.given)
    (let_go_free t.pool t.heads t.maps t.held.items t.touched.items t.named.items t.free_heads t.free_leaves c.self.invariant c.args.a (set_below t.held.items c.args.a was) unnamed)

pub invariant_of-self-else-not-named : goal.invariant_of-self-else-not-named
invariant_of-self-else-not-named c =
    let t = c.self.inside in
    let was = ap (λ (x : TableView). slice_index_or x.held c.args.a false) c.self.view_is ∙ c.requires in
    let named = subst (λ (x : TableView). IsNamedPage (layouts_in x) c.args.a) (sym c.self.view_is) (c.is_named-named.ensures.named c.if-not-named.false) in
    let_go_named t.pool t.heads t.maps t.held.items t.touched.items t.named.items t.free_heads t.free_leaves c.self.invariant c.args.a (set_below t.held.items c.args.a was) was named

pub returns-then-not-named : goal.returns-then-not-named
returns-then-not-named c =
    let t = c.self.inside in
    let unnamed = c.is_named-named.ensures.unnamed c.if-not-named.true in
    record {
      unnamed = λ _. ap (λ (x : FreeNumbers). table_view t.pool t.heads t.maps (slice_set t.held.items c.args.a false) t.touched.items t.free_heads x) c.give.ensures.given
          ∙ held_view t.pool t.heads t.maps t.held.items t.touched.items t.free_heads t.free_leaves (with_free t.free_leaves c.args.a true) c.args.a false
          ∙ ap (λ (x : TableView). let u : TableView = record x { held = slice_set x.held c.args.a false; free_leaves = with_free x.free_leaves c.args.a true } in u) c.self.view_is;
      named = λ slot q e. absurd (unnamed slot q e);
    }
