-- A good page that no fault meets is got by one call.
use Rattle.jn_careful.proofs.Common.{◌≡◌, ◌⊎◌, inl, inr, ⊎_elim, ℕ, true, List, [], Option, Some, None, Result, Ok, Err, refl, sym, ap, subst, arith, nat_tests, Stopped, DeviceState, GetStep, due, Look, Good, LooksBad, AreGotBad, no_get, got_again, GetRun, gets, MakesGets, last_look, IsOneGet}

-- the first of some gets begins where they begin
first_bad : (p n : ℕ) (s t : DeviceState) → AreGotBad p n s t → (s ≡ t) ⊎ ((m : DeviceState) × GetStep s p (Ok LooksBad) m)
first_bad p _ s _ (no_get _) = inl refl
first_bad p _ s u (got_again n _ t _ bad step) = ⊎_elim (λ same. inr (u, subst (λ d. GetStep d p (Ok LooksBad) u) (sym same) step)) (λ h. inr h) (first_bad p n s t bad)

sees : (s : DeviceState) (p : ℕ) → s.power ≡ true → due s.waiting ≡ None → (s.pages p).good ≡ true → (answer : Result Look Stopped) (t : DeviceState) → GetStep s p answer t
    → answer ≡ Ok (Good (s.pages p).bytes)
sees s p on none good answer t step = grind (arith, nat_tests)

abbrev bytes_of : Result Look Stopped → List ℕ
bytes_of (Ok (Good x)) = x
bytes_of (Ok LooksBad) = []
bytes_of (Err e) = []

is_page : (answer : Result (Option (List ℕ)) Stopped) (bytes : List ℕ) → last_look answer ≡ Ok (Good bytes) → answer ≡ Ok (Some bytes)
is_page (Ok (Some x)) bytes e = ap (λ (b : List ℕ). Ok (Some b)) (ap bytes_of e)
is_page (Ok None) bytes e = absurd (cc e)
is_page (Err v) bytes e = absurd (cc e)

pub one_call : (s : DeviceState) (p : ℕ) (answer : Result (Option (List ℕ)) Stopped) (t : DeviceState) → MakesGets s p answer t
    → s.power ≡ true → due s.waiting ≡ None → (s.pages p).good ≡ true → (answer ≡ Ok (Some (s.pages p).bytes)) × IsOneGet s p t
one_call s p answer t makes on none good = by (makes answer refl)
  where
    by : GetRun s p answer t → (answer ≡ Ok (Some (s.pages p).bytes)) × IsOneGet s p t
    by (gets tries before bad last few all) =
        ⊎_elim (λ (same : s ≡ before). let step = subst (λ d. GetStep d p (last_look answer) t) (sym same) last in let is = sees s p on none good _ t step in
        (is_page answer _ is, subst (λ (a : Result Look Stopped). GetStep s p a t) is step))
        (λ (h : (m : DeviceState) × GetStep s p (Ok LooksBad) m). absurd (let is = sees s p on none good (Ok LooksBad) h.0 h.1 in cc is))
        (first_bad p tries s before bad)
