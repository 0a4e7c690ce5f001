-- What strikes a server, and what is left waiting.
use Rattle.jn_machine_refines.proofs.Common.{◌≡◌, ◌≤◌, ℕ, ◌+◌, ◌-◌, Bool, true, false, List, [], ◌∷◌, ◌++◌, map, refl, sym, ◌∙◌, ap, subst, arith, ◌&&◌, if◌then◌else◌, list_all, nat_tests, ServerNo, FaultKind, Outside, server_eq, count_told, Text, Waiting, one_less, strikes, strike_all, IsStruck, AreStruck}
use Rattle.jn_report.specs.declared.line.Text.TheVariants as says
use Rattle.jn_machine_refines.proofs.Items.{strike-join, struck-join}

abbrev pub any : FaultKind → Bool
any kind = true

-- neither a stop nor a fault that is refused
abbrev pub is_harmless : Text → Bool
is_harmless (says.Stopped q) = false
is_harmless (says.Outside q fault) = false
is_harmless text = true

first-of : (a b : Bool) → (a && b) ≡ true → a ≡ true
first-of a b h = grind arith

second-of : (a b : Bool) → (a && b) ≡ true → b ≡ true
second-of a b h = grind arith

pub same-server : (q : ServerNo) → server_eq q q ≡ true
same-server q = grind (arith, nat_tests)

-- so many faults and stops fewer at one server
pub record Strikes (q : ServerNo) (faults stops : ℕ) (x y : Waiting) : Type 0 where
  pub faults_are : y.faults q + faults ≡ x.faults q
  pub stops_are : y.stops q + stops ≡ x.stops q
  pub other_faults : (s : ServerNo) → server_eq q s ≡ false → y.faults s ≡ x.faults s
  pub other_stops : (s : ServerNo) → server_eq q s ≡ false → y.stops s ≡ x.stops s

pub none-struck : (q : ServerNo) (x : Waiting) → Strikes q 0 0 x x
none-struck q x = record { faults_are = omega arith; stops_are = omega arith; other_faults = λ s e. refl; other_stops = λ s e. refl }

pub both-strike : (q : ServerNo) (a b c d : ℕ) (x y z : Waiting) → Strikes q a b x y → Strikes q c d y z → Strikes q (a + c) (b + d) x z
both-strike q a b c d x y z h k = record {
  faults_are = sum (z.faults q) a c _ _ k.faults_are h.faults_are;
  stops_are = sum (z.stops q) b d _ _ k.stops_are h.stops_are;
  other_faults = λ s e. k.other_faults s e ∙ h.other_faults s e;
  other_stops = λ s e. k.other_stops s e ∙ h.other_stops s e;
}
  where
    sum : (n a c m l : ℕ) → n + c ≡ m → m + a ≡ l → n + (a + c) ≡ l
    sum n a c m l p r = omega (arith, p, r)

-- ---- texts that strike nothing

pub unstruck : (texts : List Text) (x : Waiting) → list_all is_harmless texts ≡ true → strike_all texts x ≡ x
unstruck [] x h = refl
unstruck (text ∷ texts) x h = ap (λ (y : Waiting). strike_all texts y) (one text (first-of _ _ h)) ∙ unstruck texts x (second-of _ _ h)
  where
    one : (text : Text) → is_harmless text ≡ true → strikes text x ≡ x
    one (says.Stopped q) e = absurd (cc e)
    one (says.Outside q fault) e = absurd (cc e)
    one text e = refl

pub none-strike : (texts : List Text) (x : Waiting) → list_all is_harmless texts ≡ true → AreStruck x texts
none-strike [] x h = tt
none-strike (text ∷ texts) x h = (one text (first-of _ _ h), subst (λ (y : Waiting). AreStruck y texts) (sym (unstruck (text ∷ []) x (alone _ (first-of _ _ h)))) (none-strike texts x (second-of _ _ h)))
  where
    one : (text : Text) → is_harmless text ≡ true → IsStruck x text
    one (says.Stopped q) e = absurd (cc e)
    one (says.Outside q fault) e = absurd (cc e)
    one text e = tt

    alone : (b : Bool) → b ≡ true → (b && true) ≡ true
    alone b e = grind arith

-- ---- one fault, and one stop

less-at : (b : Bool) (n m : ℕ) → b ≡ true → (if b then n - 1 else m) ≡ n - 1
less-at b n m e = ap (λ (c : Bool). if c then n - 1 else m) e

less-off : (b : Bool) (n m : ℕ) → b ≡ false → (if b then n - 1 else m) ≡ m
less-off b n m e = ap (λ (c : Bool). if c then n - 1 else m) e

back : (n m : ℕ) → 1 ≤ n → m ≡ n - 1 → m + 1 ≡ n
back n m h e = omega (arith, h, e)

pub fault-strikes : (q : ServerNo) (fault : Outside) (x : Waiting) → 1 ≤ x.faults q → Strikes q 1 0 x (strikes (says.Outside q fault) x)
fault-strikes q fault x h = record {
  faults_are = back (x.faults q) (one_less q x.faults q) h (less-at (server_eq q q) (x.faults q) (x.faults q) (same-server q));
  stops_are = omega arith;
  other_faults = λ s e. less-off (server_eq q s) (x.faults q) (x.faults s) e;
  other_stops = λ s e. refl;
}

pub stop-strikes : (q : ServerNo) (x : Waiting) → 1 ≤ x.stops q → Strikes q 0 1 x (strikes (says.Stopped q) x)
stop-strikes q x h = record {
  faults_are = omega arith;
  stops_are = back (x.stops q) (one_less q x.stops q) h (less-at (server_eq q q) (x.stops q) (x.stops q) (same-server q));
  other_faults = λ s e. refl;
  other_stops = λ s e. less-off (server_eq q s) (x.stops q) (x.stops s) e;
}

-- ---- what a device reports

abbrev pub told_texts : ServerNo → List Outside → List Text
told_texts q told = map (λ (fault : Outside). says.Outside q fault) told

pub told-strike : (q : ServerNo) (told : List Outside) (x : Waiting) → count_told any told ≤ x.faults q → AreStruck x (told_texts q told) × Strikes q (count_told any told) 0 x (strike_all (told_texts q told) x)
told-strike q [] x h = (tt, none-struck q x)
told-strike q (fault ∷ told) x h = let one = fault-strikes q fault x (some _ _ h) in let more = told-strike q told (strikes (says.Outside q fault) x) (left _ _ _ h one.faults_are) in
    ((some _ _ h, more.0), both-strike q 1 0 (count_told any told) 0 x (strikes (says.Outside q fault) x) _ one more.1)
  where
    some : (c n : ℕ) → 1 + c ≤ n → 1 ≤ n
    some c n k = omega (arith, k)

    left : (c n m : ℕ) → 1 + c ≤ n → m + 1 ≡ n → c ≤ m
    left c n m k e = omega (arith, k, e)

-- ---- the texts of a step with a device

-- faults that are reported, then perhaps that the server was stopped, then texts that strike nothing
pub calm-strikes : (q : ServerNo) (told : List Outside) (own texts : List Text) (x : Waiting) → count_told any told ≤ x.faults q → list_all is_harmless own ≡ true → list_all is_harmless texts ≡ true
    → AreStruck x (told_texts q told ++ own ++ texts) × Strikes q (count_told any told) 0 x (strike_all (told_texts q told ++ own ++ texts) x)
calm-strikes q told own texts x h k l = let one = told-strike q told x h in let y = strike_all (told_texts q told) x in (
  struck-join (told_texts q told ++ own) texts x (struck-join (told_texts q told) own x one.0 (none-strike own y k)) (none-strike texts _ l),
  subst (λ (z : Waiting). Strikes q (count_told any told) 0 x z) (sym (strike-join (told_texts q told ++ own) texts x ∙ unstruck texts _ l ∙ strike-join (told_texts q told) own x ∙ unstruck own y k)) one.1,
)

pub halt-strikes : (q : ServerNo) (told : List Outside) (texts : List Text) (x : Waiting) → count_told any told ≤ x.faults q → 1 ≤ x.stops q → list_all is_harmless texts ≡ true
    → AreStruck x (told_texts q told ++ says.Stopped q ∷ [] ++ texts) × Strikes q (count_told any told) 1 x (strike_all (told_texts q told ++ says.Stopped q ∷ [] ++ texts) x)
halt-strikes q told texts x h s l = let one = told-strike q told x h in let y = strike_all (told_texts q told) x in let enough = subst (λ n. 1 ≤ n) (sym (same-stops (y.stops q) (x.stops q) one.1.stops_are)) s in (
  struck-join (told_texts q told ++ says.Stopped q ∷ []) texts x (struck-join (told_texts q told) (says.Stopped q ∷ []) x one.0 (enough, tt)) (none-strike texts _ l),
  subst (λ (z : Waiting). Strikes q (count_told any told) 1 x z) (sym (strike-join (told_texts q told ++ says.Stopped q ∷ []) texts x ∙ unstruck texts _ l ∙ strike-join (told_texts q told) (says.Stopped q ∷ []) x))
      (widen (both-strike q (count_told any told) 0 0 1 x y _ one.1 (stop-strikes q y enough))),
)
  where
    same-stops : (n m : ℕ) → n + 0 ≡ m → n ≡ m
    same-stops n m e = omega (arith, e)

    widen : {y : Waiting} → Strikes q (count_told any told + 0) (0 + 1) x y → Strikes q (count_told any told) 1 x y
    widen {y} k = record { faults_are = drop-none _ _ _ k.faults_are; stops_are = k.stops_are; other_faults = k.other_faults; other_stops = k.other_stops }
      where
        drop-none : (a b c : ℕ) → a + (b + 0) ≡ c → a + b ≡ c
        drop-none a b c e = omega (arith, e)
