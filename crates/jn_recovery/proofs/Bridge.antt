-- The words for heads of the table of files, and those of what is found on pages, say the same.
use Rattle.jn_recovery.proofs.Common.{◌≡◌, ℕ, zero, suc, Bool, true, false, if◌then◌else◌, List, [], ◌∷◌, Option, Some, None, refl, sym, true≢false, arith, nat_tests, nat_lt, is_some, option_map, option_and_then, find, ◌&&◌, BlockNo, FileNo, Head, is_of, exists, is_mapped, most_blocks, or_unused, Layout, at_cell, layout_by, layouts_by, is_layout_of, behind, block_in, own-file}
use Rattle.jn_order.specs.Files.{there}

pub same_there : (maps : ℕ → ℕ → ℕ) (heads : List Head) (f : FileNo) → exists heads f ≡ is_some (option_map (λ h. there) (find (is_layout_of f) (layouts_by maps heads)))
same_there maps [] f = refl
same_there maps (h ∷ hs) f = by (is_of f h) (is_layout_of f (layout_by maps h)) (sym (own-file maps f h)) (same_there maps hs f)
  where
    by : (a b : Bool) → a ≡ b → is_some (find (is_of f) hs) ≡ is_some (option_map (λ h. there) (find (is_layout_of f) (layouts_by maps hs)))
        → is_some (if a then Some h else find (is_of f) hs) ≡ is_some (option_map (λ h. there) (if b then Some (layout_by maps h) else find (is_layout_of f) (layouts_by maps hs)))
    by true true e again = refl
    by false false e again = again
    by true false e again = absurd (true≢false e)
    by false true e again = absurd (true≢false (sym e))

pub same_mapped : (layouts : List Layout) (blocks : ℕ → List ℕ) (f : FileNo) (p : BlockNo) → is_mapped layouts f p.0 ≡ is_some (option_and_then (block_in blocks p) (find (is_layout_of f) layouts))
same_mapped layouts blocks f p = by (find (is_layout_of f) layouts)
  where
    leads : (a : ℕ) → nat_lt 0 a ≡ is_some (behind blocks a)
    leads zero = refl
    leads (suc a) = let t : nat_lt 0 (suc a) ≡ true = grind (arith, nat_tests) in t

    inside : (x : Bool) (a : ℕ) → (x && nat_lt 0 a) ≡ is_some (if x then behind blocks a else None)
    inside true a = leads a
    inside false a = refl

    none : (x : Bool) → (x && nat_lt 0 0) ≡ false
    none true = refl
    none false = refl

    by : (o : Option Layout) → (nat_lt p.0 most_blocks && nat_lt 0 (at_cell (or_unused o) p.0)) ≡ is_some (option_and_then (block_in blocks p) o)
    by None = none (nat_lt p.0 most_blocks)
    by (Some h) = inside (nat_lt p.0 most_blocks) (at_cell h p.0)
