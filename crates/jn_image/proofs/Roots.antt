-- Whether a page is a root like another.
use Rattle.jn_image.proofs.Common.{◌≡◌, ℕ, Bool, false, List, Some, None, sym, ap, ◌∙◌, subst, IsTrue, ◌↔◌, false≢true, HasRoot, at_epoch, Root, root_page, IsRoot, root_by, IsVersion}
use Rattle.jn_records.specs.Sound as sound

same_root : (a b : Root) → Some a ≡ Some b → a ≡ b
same_root a b e = cc

no_root : (a : Root) → None ≡ Some a → ⊥
no_root a e = cc

-- the root that an image is to have, at an epoch
abbrev root_of : sound.Image → ℕ → Root
root_of m epoch = record (root_by m.server m.counts epoch) { version = m.version }

module _ (m : sound.Image) (page : List ℕ) (is_page : page ≡ m.bytes 0) (like : Root) (like_is : like ≡ root_of m 0) (is_root : IsVersion m.version → IsRoot like) where
  same : (epoch : ℕ) → root_of m epoch ≡ at_epoch like epoch
  same epoch = ap (λ (r : Root). at_epoch r epoch) (sym like_is)

  fits : (h : HasRoot m) → IsRoot (at_epoch like h.0)
  fits h = let r = is_root h.3 in record { version = r.version; server = r.server; pool = r.pool; heads = r.heads; leaves = r.leaves; epoch = h.1 }

  spelled : (h : HasRoot m) → page ≡ root_page (at_epoch like h.0)
  spelled h = is_page ∙ h.2 ∙ ap root_page (same h.0)

  pub none_found : ((q : Root) → IsRoot q → page ≡ root_page q → None ≡ Some q) → IsTrue false ↔ HasRoot m
  none_found only = (
    (λ t. absurd (false≢true t)),
    (λ h. absurd (no_root (at_epoch like h.0) (only (at_epoch like h.0) (fits h) (spelled h)))),
  )

  pub one_found : (root : Root) → IsRoot root × (page ≡ root_page root) → ((q : Root) → IsRoot q → page ≡ root_page q → Some root ≡ Some q)
      → (r : Bool) → (IsTrue r ↔ (root ≡ at_epoch like root.epoch)) → IsTrue r ↔ HasRoot m
  one_found root found only r says = (
    (λ t. let e = says.0 t ∙ sym (same root.epoch) in (root.epoch, found.0.epoch, sym is_page ∙ found.1 ∙ ap root_page e, subst IsVersion (ap (λ (q : Root). q.version) e) found.0.version)),
    (λ h. says.1 (let e = same_root root (at_epoch like h.0) (only (at_epoch like h.0) (fits h) (spelled h)) in
        e ∙ ap (at_epoch like) (sym (ap (λ (q : Root). q.epoch) e)))),
  )
