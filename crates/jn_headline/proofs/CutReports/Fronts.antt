-- A front of an end is an end that is cut off.
use Rattle.jn_headline.proofs.Common.{◌≡◌, ℕ, ◌+◌, Bool, true, List, [], ◌∷◌, ◌++◌, refl, subst, arith, ◌&&◌, map, list_all, ServerNo, Text, World, servers_from, Step, Deliver, Work, Nudge, Again, Crash, CloseClients, Dismiss, IsRun, Printed, FileThere, PageStored, UnitLocked, text_printed, Comeback, Ending, restarts_from, steps_at_end, settles, IsEnding, texts_from, run-split, IsCutEnd, is_of_end, is_print}

both : (a b : Bool) → a ≡ true → b ≡ true → (a && b) ≡ true
both a b h k = grind arith

all-append : {A : Type 0} (test : A → Bool) (xs ys : List A) → list_all test xs ≡ true → list_all test ys ≡ true → list_all test (xs ++ ys) ≡ true
all-append test [] ys h k = k
all-append test (x ∷ xs) ys h k = both (test x) (list_all test (xs ++ ys)) (first-of (test x) (list_all test xs) h) (all-append test xs ys (second-of (test x) (list_all test xs) h) k)
  where
    first-of : (a b : Bool) → (a && b) ≡ true → a ≡ true
    first-of a b h = grind arith

    second-of : (a b : Bool) → (a && b) ≡ true → b ≡ true
    second-of a b h = grind arith

-- a front of a list of which all pass
all-front : {A : Type 0} (test : A → Bool) (xs ys : List A) → list_all test (xs ++ ys) ≡ true → list_all test xs ≡ true
all-front test [] ys h = refl
all-front test (x ∷ xs) ys h = both (test x) (list_all test xs) (first-of (test x) (list_all test (xs ++ ys)) h) (all-front test xs ys (second-of (test x) (list_all test (xs ++ ys)) h))
  where
    first-of : (a b : Bool) → (a && b) ≡ true → a ≡ true
    first-of a b h = grind arith

    second-of : (a b : Bool) → (a && b) ≡ true → b ≡ true
    second-of a b h = grind arith

all-map : {A B : Type 0} (test : B → Bool) (f : A → B) → ((a : A) → test (f a) ≡ true) → (xs : List A) → list_all test (map f xs) ≡ true
all-map test f h [] = refl
all-map test f h (x ∷ xs) = both (test (f x)) (list_all test (map f xs)) (h x) (all-map test f h xs)

restarts-of-end : (first : ℕ) (xs : List Comeback) → list_all is_of_end (restarts_from first xs) ≡ true
restarts-of-end first [] = refl
restarts-of-end first (x ∷ xs) = restarts-of-end (first + 1) xs

settle-of-end : (step : Step) → settles step ≡ true → is_of_end step ≡ true
settle-of-end (Deliver k room) h = refl
settle-of-end (Work s room) h = refl
settle-of-end (Nudge s) h = refl
settle-of-end (Again c) h = refl
settle-of-end _ h = absurd (cc h)

settling-of-end : (steps : List Step) → list_all settles steps ≡ true → list_all is_of_end steps ≡ true
settling-of-end [] h = refl
settling-of-end (step ∷ steps) h = both (is_of_end step) (list_all is_of_end steps) (settle-of-end step (first-of (settles step) (list_all settles steps) h)) (settling-of-end steps (second-of (settles step) (list_all settles steps) h))
  where
    first-of : (a b : Bool) → (a && b) ≡ true → a ≡ true
    first-of a b h = grind arith

    second-of : (a b : Bool) → (a && b) ≡ true → b ≡ true
    second-of a b h = grind arith

end-of-end : (servers : ℕ) (e : Ending) → list_all settles e.settling ≡ true → list_all is_of_end (steps_at_end servers e) ≡ true
end-of-end servers e h = let ss = servers_from 0 servers in let rs = restarts_from 0 e.comebacks in
    all-append is_of_end (map Crash ss ++ rs ++ map CloseClients ss) e.settling
    (all-append is_of_end (map Crash ss ++ rs) (map CloseClients ss) (all-append is_of_end (map Crash ss) rs (all-map is_of_end Crash (λ s. refl) ss) (restarts-of-end 0 e.comebacks)) (all-map is_of_end CloseClients (λ s. refl) ss)) (settling-of-end e.settling h)

prints-are : (first : ℕ) (xs : List (List Printed)) → list_all is_print (texts_from first xs) ≡ true
prints-are first [] = refl
prints-are first (x ∷ xs) = let s : ServerNo = record { 0 = first } in all-append is_print (map (text_printed s) x) (texts_from (first + 1) xs) (all-map is_print (text_printed s) (one s) x) (prints-are (first + 1) xs)
  where
    one : (s : ServerNo) (x : Printed) → is_print (text_printed s x) ≡ true
    one s (FileThere f) = refl
    one s (PageStored f p bytes) = refl
    one s (UnitLocked u T) = refl

pub fronts : (servers : ℕ) (whole : Ending) (w : World) (steps rest : List Step) (printed more : List Text) → IsEnding servers whole w
    → steps_at_end servers whole ≡ Dismiss ∷ steps ++ rest → texts_from 0 whole.prints ≡ printed ++ more → IsCutEnd (record { steps = steps; printed = printed }) w
fronts servers whole w steps rest printed more h e p = record {
  steps = (run-split (Dismiss ∷ steps) rest w (subst (λ l. IsRun l w) e h.steps)).0;
  of_end = all-front is_of_end (Dismiss ∷ steps) rest (subst (λ l. list_all is_of_end l ≡ true) e (end-of-end servers whole h.settling));
  printed = all-front is_print printed more (subst (λ l. list_all is_print l ≡ true) p (prints-are 0 whole.prints));
}
