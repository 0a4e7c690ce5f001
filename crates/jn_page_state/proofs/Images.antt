-- The files of layouts, as a list.
use Rattle.jn_page_state.proofs.Common.{if◌then◌else◌, ◌≡◌, ◌≤◌, zero, suc, Bool, true, false, not, ◌&&◌, ◌||◌, List, [], ◌∷◌, length, Some, refl, sym, ◌∙◌, true≢false, arith, is_some, option_map, find, list_any, FileNo, file_eq, file_tells, there, Layout, Unused, Of, layout_at, is_layout_of, PassesOnce, is_in, are_different, IsListing, ℕ, layouts_by, Head, HaveOneHead, file-at}
use Rattle.jn_page_state.proofs.Slots.{passes_at}

-- ---- the files of layouts, each once

abbrev pub listed_files : List Layout → List FileNo
listed_files [] = []
listed_files (Unused ∷ layouts) = listed_files layouts
listed_files (Of f cells ∷ layouts) = f ∷ listed_files layouts

abbrev has_layout : List Layout → FileNo → Bool
has_layout layouts f = is_some (option_map (λ h. there) (find (is_layout_of f) layouts))

listed_all : (layouts : List Layout) (f : FileNo) → is_in file_eq f (listed_files layouts) ≡ has_layout layouts f
listed_all [] f = refl
listed_all (Unused ∷ layouts) f = listed_all layouts f
listed_all (Of g cells ∷ layouts) f = by (file_eq g f) (listed_all layouts f)
  where
    by : (b : Bool) → is_in file_eq f (listed_files layouts) ≡ has_layout layouts f → (b || is_in file_eq f (listed_files layouts)) ≡ is_some (option_map (λ h. there) (if b then Some (Of g cells) else find (is_layout_of f) layouts))
    by true rest = refl
    by false rest = rest

-- no file has two heads, and so none has two layouts
pub layouts_once : (maps : ℕ → ℕ → ℕ) (heads : List Head) → HaveOneHead heads → (f : FileNo) → PassesOnce (λ i. is_layout_of f (layout_at (layouts_by maps heads) i))
layouts_once maps heads once f i j a b = once f i j (sym (file-at maps f heads i) ∙ a) (sym (file-at maps f heads j) ∙ b)

pub heads_once : (maps : ℕ → ℕ → ℕ) (heads : List Head) → ((f : FileNo) → PassesOnce (λ i. is_layout_of f (layout_at (layouts_by maps heads) i))) → HaveOneHead heads
heads_once maps heads once f i j a b = once f i j (file-at maps f heads i ∙ a) (file-at maps f heads j ∙ b)

found_is_any : (layouts : List Layout) (f : FileNo) → has_layout layouts f ≡ true → list_any (is_layout_of f) layouts ≡ true
found_is_any [] f t = absurd (true≢false (sym t))
found_is_any (h ∷ layouts) f t = by (is_layout_of f h) (found_is_any layouts f) t
  where
    by : (b : Bool) → (has_layout layouts f ≡ true → list_any (is_layout_of f) layouts ≡ true) → is_some (option_map (λ h. there) (if b then Some h else find (is_layout_of f) layouts)) ≡ true → (b || list_any (is_layout_of f) layouts) ≡ true
    by true rest t = refl
    by false rest t = rest t

later_once : (h : Layout) (layouts : List Layout) → ((f : FileNo) → PassesOnce (λ i. is_layout_of f (layout_at (h ∷ layouts) i))) → (f : FileNo) → PassesOnce (λ i. is_layout_of f (layout_at layouts i))
later_once h layouts once f i j a b = let e = once f (suc i) (suc j) a b in omega (arith, e)

listed_differ : (layouts : List Layout) → ((f : FileNo) → PassesOnce (λ i. is_layout_of f (layout_at layouts i))) → are_different file_eq (listed_files layouts) ≡ true
listed_differ [] once = refl
listed_differ (Unused ∷ layouts) once = listed_differ layouts (later_once Unused layouts once)
listed_differ (Of g cells ∷ layouts) once = by (is_in file_eq g (listed_files layouts)) refl (listed_differ layouts (later_once (Of g cells) layouts once))
  where
    same : file_eq g g ≡ true
    same = grind (arith, file_tells)

    by : (b : Bool) → is_in file_eq g (listed_files layouts) ≡ b → are_different file_eq (listed_files layouts) ≡ true → (not b && are_different file_eq (listed_files layouts)) ≡ true
    by false e rest = rest
    by true e rest =
        let at = passes_at (is_layout_of g) Unused layouts (found_is_any layouts g (sym (listed_all layouts g) ∙ e)) in
        let clash = once g zero (suc at.0) same at.1 in
        absurd (omega (arith, clash))

listed_few : (layouts : List Layout) → length (listed_files layouts) ≤ length layouts
listed_few [] = omega arith
listed_few (Unused ∷ layouts) = let h = listed_few layouts in omega (arith, h)
listed_few (Of f cells ∷ layouts) = let h = listed_few layouts in omega (arith, h)

pub files_listing : (layouts : List Layout) → ((f : FileNo) → PassesOnce (λ i. is_layout_of f (layout_at layouts i)))
    → IsListing file_eq (λ f. is_some (option_map (λ h. there) (find (is_layout_of f) layouts))) (listed_files layouts) × (length (listed_files layouts) ≤ length layouts)
files_listing layouts once = (record { different = listed_differ layouts once; all = listed_all layouts }, listed_few layouts)
