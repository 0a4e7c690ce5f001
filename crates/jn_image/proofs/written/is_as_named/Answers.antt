use Rattle.jn_image.proofs.Common.{◌≡◌, ◌<◌, ℕ, List, sym, subst, arith, IsMapPage}
use Rattle.jn_image.proofs.written.is_as_named.Goals as goal

-- the same page, and as many data pages
same : (n k : ℕ) (page other : List ℕ) → n ≡ k → page ≡ other → IsMapPage n page → IsMapPage k other
same n k page other e f is = subst (λ (n : ℕ). IsMapPage n other) e (subst (λ (page : List ℕ). IsMapPage n page) f is)

some : (n : ℕ) → (n ≡ 0 → ⊥) → 0 < n
some n h = omega (arith, h)

pub returns : goal.returns
returns c = (
  λ t least. same c.leaf_count.result c.args.image.now.leaves c.data_page.result.now _ c.leaf_count.ensures.count c.data_page.ensures (c.is_map_page.ensures.0 t),
  λ h. c.is_map_page.ensures.1 (same c.args.image.now.leaves c.leaf_count.result _ c.data_page.result.now (sym c.leaf_count.ensures.count) (sym c.data_page.ensures) (h (some c.args.named c.if-named-eq0.false))),
)
