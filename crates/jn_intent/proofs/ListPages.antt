-- The pages of a list's intentions, one after another.
use Rattle.jn_intent.proofs.Common.{◌≡◌, ℕ, suc, Bool, true, false, ◌||◌, if◌then◌else◌, List, [], ◌∷◌, refl, sym, ◌∙◌, arith, nat_tests, sum_by-cons, nat_eq, count_by, list_any, total, StoredIntention, Layout, holds_page, held_of, is_at, ArePagesApart}

-- each intention's two addresses
abbrev pub pages_of : List StoredIntention → List ℕ
pages_of [] = []
pages_of (i ∷ list) = i.address ∷ i.map ∷ pages_of list

-- an address that leads to data page a
abbrev pub leads : ℕ → ℕ → Bool
leads a k = nat_eq k (suc a)

-- what is held for a list is counted by its pages
pub held_pages : (layouts : List Layout) (list : List StoredIntention) → total (held_of layouts) list ≡ count_by (holds_page layouts) (pages_of list)
held_pages layouts [] = refl
held_pages layouts (i ∷ list) =
    let a = sum_by-cons (λ (k : ℕ). if holds_page layouts k then 1 else 0) i.address (i.map ∷ pages_of list) in
    let b = sum_by-cons (λ (k : ℕ). if holds_page layouts k then 1 else 0) i.map (pages_of list) in
    let again = held_pages layouts list in omega (arith, a, b, again)

pub any_page : (a : ℕ) (list : List StoredIntention) → list_any (is_at a) list ≡ list_any (leads a) (pages_of list)
any_page a [] = refl
any_page a (i ∷ list) = by (nat_eq i.address (suc a)) (nat_eq i.map (suc a)) (any_page a list)
  where
    by : (b c : Bool) → list_any (is_at a) list ≡ list_any (leads a) (pages_of list) → ((b || c) || list_any (is_at a) list) ≡ (b || (c || list_any (leads a) (pages_of list)))
    by true c again = refl
    by false true again = refl
    by false false again = again

-- no address stands twice
abbrev pub AreApartAll : List ℕ → Type 0
AreApartAll [] = Unit {0}
AreApartAll (k ∷ ks) = ((a : ℕ) → k ≡ suc a → list_any (leads a) ks ≡ false) × AreApartAll ks

pub apart_all : (list : List StoredIntention) → ArePagesApart list → AreApartAll (pages_of list)
apart_all [] apart = tt
apart_all (i ∷ list) apart = (λ a e. first a e (nat_eq i.map (suc a)) refl, (λ a e. sym (any_page a list) ∙ apart.1 a (second a e), apart_all list apart.2))
  where
    same : (k a : ℕ) → k ≡ suc a → nat_eq k (suc a) ≡ true
    same k a e = grind (arith, nat_tests, e)

    equal : (k a : ℕ) → nat_eq k (suc a) ≡ true → k ≡ suc a
    equal k a e = grind (arith, nat_tests, e)

    left : (b c : Bool) → b ≡ true → (b || c) ≡ true
    left b c h = grind (arith, h)

    right : (b c : Bool) → c ≡ true → (b || c) ≡ true
    right b c h = grind (arith, h)

    second : (a : ℕ) → i.map ≡ suc a → is_at a i ≡ true
    second a e = right (nat_eq i.address (suc a)) (nat_eq i.map (suc a)) (same i.map a e)

    first : (a : ℕ) → i.address ≡ suc a → (b : Bool) → nat_eq i.map (suc a) ≡ b → (b || list_any (leads a) (pages_of list)) ≡ false
    first a e true f = absurd (apart.0 a e (equal i.map a f))
    first a e false f = sym (any_page a list) ∙ apart.1 a (left (nat_eq i.address (suc a)) (nat_eq i.map (suc a)) (same i.address a e))
