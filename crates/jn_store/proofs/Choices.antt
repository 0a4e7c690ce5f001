-- How the choices of a store go on over its calls.
use Rattle.std.proofs.Common.{◌≡◌, ◌≢◌, ◌⊎◌, inl, inr, ⊎_elim, ℕ, ◌<◌, Bool, true, false, List, refl, sym, ◌∙◌, ap, subst, arith}
use Rattle.std.proofs.lemmas.Bool.{cases_eq}
use Rattle.std.proofs.lemmas.Bool.Decides.{nat_tests}
use Rattle.std.specs.Prelude.{nat_eq, if◌then◌else◌}
use Rattle.jn_store.specs.Store.{StoreView, Candidate, IsOnly, StorePut}
use Rattle.jn_store.specs.Choices.{IsChoice, with_page, Agree}
use Rattle.jn_store.proofs.Laws.{same_shrinks, only_is}

-- contents d are those of a choice, under this change
abbrev pub Leads : StoreView → ((ℕ → List ℕ) → ℕ → List ℕ) → (ℕ → List ℕ) → Type 0
Leads v change d = (c : ℕ → List ℕ) × IsChoice v c × Agree v.count d (change c)

pub with_same : (c : ℕ → List ℕ) (i : ℕ) (page : List ℕ) (j : ℕ) → i ≡ j → with_page c i page j ≡ page
with_same c i page j e = let t : nat_eq i j ≡ true = grind (arith, nat_tests) in ap (λ b. if b then page else c j) t

pub with_other : (c : ℕ → List ℕ) (i : ℕ) (page : List ℕ) (j : ℕ) → i ≢ j → with_page c i page j ≡ c j
with_other c i page j e = let t : nat_eq i j ≡ false = grind (arith, nat_tests) in ap (λ b. if b then page else c j) t

-- there is a choice, and one with each candidate
pub some_choice : (v : StoreView) → IsChoice v v.first
some_choice v i below = inl refl

-- every choice has a clean page's content
pub choice_only : (v : StoreView) (c : ℕ → List ℕ) (i : ℕ) (page : List ℕ) → IsChoice v c → i < v.count → IsOnly v i page → c i ≡ page
choice_only v c i page choice below only = only_is v i page (c i) only (choice i below)

pub choice_leads : (v : StoreView) (d : ℕ → List ℕ) → IsChoice v d → Leads v (λ c. c) d
choice_leads v d choice = (d, choice, λ j below. refl)

-- after a put each choice is one before, or one before with the new page
module _ (v : StoreView) (i : ℕ) (page : List ℕ) (ok : Bool) (w : StoreView) (step : StorePut v i page ok w) (below : i < v.count) (d : ℕ → List ℕ) (choice : IsChoice w d) where
  at_v : (j : ℕ) → j < v.count → Candidate w j (d j)
  at_v j lt = choice j (subst (λ n. j < n) (sym step.later.count) lt)

  at_other : (j : ℕ) → j < v.count → j ≢ i → Candidate v j (d j)
  at_other j lt ne = same_shrinks v w j (step.others j lt ne) (d j) (at_v j lt)

  old_leads : Candidate v i (d i) → Leads v (λ c. c) d
  old_leads here = choice_leads v d (λ j lt. elim (cases_eq j i) [
    | inl e ↦ subst (λ q. Candidate v q (d q)) (sym e) here
    | inr ne ↦ at_other j lt ne
  ])

  new_leads : d i ≡ page → Leads v (λ c. with_page c i page) d
  new_leads e = (
    with_page d i (v.first i),
    λ j lt. elim (cases_eq i j) [
      | inl same ↦ inl (with_same d i (v.first i) j same ∙ ap v.first same)
      | inr ne ↦ subst (λ x. Candidate v j x) (sym (with_other d i (v.first i) j ne)) (at_other j lt (λ e. ne (sym e)))
    ],
    λ j lt. elim (cases_eq i j) [
      | inl same ↦ sym (ap d same) ∙ e ∙ sym (with_same (with_page d i (v.first i)) i page j same)
      | inr ne ↦ sym (with_other (with_page d i (v.first i)) i page j ne ∙ with_other d i (v.first i) j ne)
    ],
  )

  pub put_leads : Leads v (λ c. c) d ⊎ Leads v (λ c. with_page c i page) d
  put_leads = ⊎_elim (λ e. inr (new_leads e)) (λ here. inl (old_leads here)) (step.part (d i) (at_v i below))

  pub done_leads : ok ≡ true → Leads v (λ c. with_page c i page) d
  done_leads e = new_leads (only_is w i page (d i) (step.done e) (at_v i below))
