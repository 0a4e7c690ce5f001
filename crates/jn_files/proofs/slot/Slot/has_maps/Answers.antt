use Rattle.jn_files.proofs.Common.{◌≡◌, ℕ, Bool, true, false, true≢false, refl, List, sym, ap, subst, ◌∙◌, Option, replicate, most_maps, head_map, head_with, FileNo, Head}
use Rattle.std.proofs.Common.{not, slice_index}
use Rattle.std.specs.Cmp.Lexicographic.{same_text}
use Rattle.jn_files.proofs.Cutting.{zeros_at}
use Rattle.jn_files.proofs.slot.Slot.has_maps.Goals as goal

not-not : (b : Bool) → not b ≡ false → true ≡ b
not-not true e = refl
not-not false e = absurd (true≢false e)

pub returns-in-Some : goal.returns-in-Some
returns-in-Some c = λ none j.
    let same : c.self.inside.maps ≡ replicate most_maps 0 = same_text c.self.inside.maps (replicate most_maps 0) (not-not _ (sym c.ne.ensures ∙ none)) in
    subst (λ (h : Head). head_map h j ≡ 0) c.self.view_is
    (subst (λ (f : Option FileNo). head_map (head_with f c.self.inside.addresses c.self.inside.maps) j ≡ 0) (sym c.in-Some.is) (ap (λ (l : List ℕ). slice_index l j) same ∙ zeros_at most_maps j))
