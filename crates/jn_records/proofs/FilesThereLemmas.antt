-- Each cut and put finds its file there exactly where the net says so of each file, and so it stays with one more operation.
use Rattle.jn_records.proofs.Common.{◌≡◌, ℕ, zero, suc, Bool, true, false, List, [], ◌∷◌, Option, Some, None, refl, sym, ◌∙◌, ap, subst, arith, nat_tests, ◌&&◌, ◌||◌, not, is_some, FileNo, BlockNo, File, Op, Create, Remove, CutBlocks, Read, Write, file_eq, file_tells, block_tells, Files, change, file_of, answer_to, or_else, What, Fresh, Gone, Cut, Put, Intention, names_file, intention_change, list_change, finds_file, files_there, in_order, entry, First, CutFrom, FileNet, Net, as_first, as_put, net_of, file_added, added, first_file}
use Rattle.jn_base.specs.declared.op.Answer.TheVariants.{Did}
use Rattle.jn_records.proofs.NetLemmas.{no_entry, list-net}

abbrev is_cut : First → Bool
is_cut (CutFrom n) = true
is_cut _ = false

-- the file is there where it is cut, and where block p is put
abbrev finds_at : First → Option (List ℕ) → Option (List ℕ) → Bool
finds_at first put file = (not (is_cut first) || is_some file) && (not (is_some put) || is_some (or_else (first_file first) file))

abbrev finds : List Intention → FileNo → BlockNo → Option (List ℕ) → Bool
finds list f p file = finds_at (as_first (entry list f zero)) (as_put (entry list f (suc p.0))) file

there-step : (last : Option Intention) (i : Intention) (list : List Intention) (files : Files) (f : FileNo) (p : BlockNo) (w : What) → i.what ≡ w → in_order last (i ∷ list) ≡ true → files_there (i ∷ list) files ≡ true
    → (in_order (Some i) list ≡ true → files_there list (change (intention_change i) files) ≡ true → finds list f p (change (intention_change i) files (File f)) ≡ true)
    → finds (i ∷ list) f p (files (File f)) ≡ true
there-step last i list files f p Fresh e h t rest = grind (arith, nat_tests, file_tells, rest, no_entry i list f zero)
there-step last i list files f p Gone e h t rest = grind (arith, nat_tests, file_tells, rest, no_entry i list f zero)
there-step last i list files f p Cut e h t rest = grind (arith, nat_tests, file_tells, rest, no_entry i list f zero)
there-step last i list files f p Put e h t rest = grind (arith, nat_tests, file_tells, rest, no_entry i list f zero)

there-finds : (last : Option Intention) (list : List Intention) (files : Files) → in_order last list ≡ true → files_there list files ≡ true → (f : FileNo) (p : BlockNo) → finds list f p (files (File f)) ≡ true
there-finds last [] files h t f p = refl
there-finds last (i ∷ list) files h t f p = there-step last i list files f p i.what refl h t (λ r q. there-finds (Some i) list (change (intention_change i) files) r q f p)

-- the first intention finds its file, and the others find theirs behind it
first-finds : (last : Option Intention) (i : Intention) (list : List Intention) (files : Files) (w : What) → i.what ≡ w → in_order last (i ∷ list) ≡ true → finds (i ∷ list) i.file i.block (files (File i.file)) ≡ true → finds_file i.what (files (File i.file)) ≡ true
first-finds last i list files Fresh e h here = grind (arith, nat_tests)
first-finds last i list files Gone e h here = grind (arith, nat_tests)
first-finds last i list files Cut e h here = grind (arith, nat_tests)
first-finds last i list files Put e h here = grind (arith, nat_tests, no_entry i list i.file zero)

others-find : (last : Option Intention) (i : Intention) (list : List Intention) (files : Files) (f : FileNo) (p : BlockNo) (w : What) → i.what ≡ w → in_order last (i ∷ list) ≡ true
    → finds (i ∷ list) f p (files (File f)) ≡ true → finds_file i.what (files (File i.file)) ≡ true → finds list f p (change (intention_change i) files (File f)) ≡ true
others-find last i list files f p Fresh e h here found = grind (arith, nat_tests, file_tells, no_entry i list f zero)
others-find last i list files f p Gone e h here found = grind (arith, nat_tests, file_tells, no_entry i list f zero)
others-find last i list files f p Cut e h here found = grind (arith, nat_tests, file_tells, no_entry i list f zero)
others-find last i list files f p Put e h here found = grind (arith, nat_tests, file_tells, block_tells, no_entry i list f zero, no_entry i list f (suc p.0))

finds-there : (last : Option Intention) (list : List Intention) (files : Files) → in_order last list ≡ true → ((f : FileNo) (p : BlockNo) → finds list f p (files (File f)) ≡ true) → files_there list files ≡ true
finds-there last [] files h all = refl
finds-there last (i ∷ list) files h all =
    let found = first-finds last i list files i.what refl h (all i.file i.block) in
    let rest = finds-there (Some i) list (change (intention_change i) files) (ordered h) (λ f p. others-find last i list files f p i.what refl h (all f p) found) in
    grind (arith, found, rest)
  where
    ordered : in_order last (i ∷ list) ≡ true → in_order (Some i) list ≡ true
    ordered h = grind arith

added-finds : (net : FileNet) (op : Op) (file : Option (List ℕ)) (p : BlockNo) (viewed : Files) → viewed (File (file_of op)) ≡ or_else (first_file net.first) file → answer_to op viewed ≡ Did
    → finds_at net.first (net.puts p) file ≡ true → finds_at (file_added net op).first ((file_added net op).puts p) file ≡ true
added-finds net (Create f) file p viewed same did h = grind arith
added-finds net (Remove f) file p viewed same did h = grind arith
added-finds net (CutBlocks f n) file p viewed same did h = grind (arith, nat_tests)
added-finds net (Read f q) file p viewed same did h = grind arith
added-finds net (Write f q bytes) file p viewed same did h = grind (arith, nat_tests)

pub still-there : (old new : List Intention) (op : Op) (files : Files) → in_order None old ≡ true → in_order None new ≡ true → net_of new ≡ added (net_of old) op
    → answer_to op (change (list_change old) files) ≡ Did → files_there old files ≡ true → files_there new files ≡ true
still-there old new op files order order' same did t = finds-there None new files order' (λ f p. at f p)
  where
    viewed : (f : FileNo) → change (list_change old) files (File f) ≡ or_else (first_file (net_of old f).first) (files (File f))
    viewed f = ap (λ c. change c files (File f)) (list-net old order)

    by : (f : FileNo) (p : BlockNo) → finds_at (net_of old f).first ((net_of old f).puts p) (files (File f)) ≡ true → finds_at (added (net_of old) op f).first ((added (net_of old) op f).puts p) (files (File f)) ≡ true
    by f p h = grind (arith, file_tells (file_of op) f, viewed f, added-finds (net_of old f) op (files (File f)) p (change (list_change old) files))

    at : (f : FileNo) (p : BlockNo) → finds new f p (files (File f)) ≡ true
    at f p = subst (λ (net : Net). finds_at (net f).first ((net f).puts p) (files (File f)) ≡ true) (sym same) (by f p (there-finds None old files order t f p))

-- ---- other files

same-behind : (i : Intention) (a b : Files) (f : FileNo) (w : What) → i.what ≡ w → is_some (a (File f)) ≡ is_some (b (File f)) → is_some (change (intention_change i) a (File f)) ≡ is_some (change (intention_change i) b (File f))
same-behind i a b f Fresh e h = grind arith
same-behind i a b f Gone e h = grind arith
same-behind i a b f Cut e h = grind arith
same-behind i a b f Put e h = grind arith

same-found : (w : What) (a b : Option (List ℕ)) → is_some a ≡ is_some b → finds_file w a ≡ true → finds_file w b ≡ true
same-found Fresh a b e h = refl
same-found Gone a b e h = refl
same-found Cut a b e h = sym e ∙ h
same-found Put a b e h = sym e ∙ h

pub there-elsewhere : (list : List Intention) (a b : Files) → ((f : FileNo) → names_file list f ≡ true → is_some (a (File f)) ≡ is_some (b (File f))) → files_there list a ≡ true → files_there list b ≡ true
there-elsewhere [] a b same h = refl
there-elsewhere (i ∷ list) a b same h =
    both (same-found i.what (a (File i.file)) (b (File i.file)) (same i.file (here i.file)) (first h))
    (there-elsewhere list (change (intention_change i) a) (change (intention_change i) b) (λ f named. same-behind i a b f i.what refl (same f (behind f named))) (rest h))
  where
    here : (f : FileNo) → (file_eq f f || names_file list f) ≡ true
    here f = grind (arith, nat_tests)

    behind : (f : FileNo) → names_file list f ≡ true → names_file (i ∷ list) f ≡ true
    behind f named = grind (arith, named)

    first : files_there (i ∷ list) a ≡ true → finds_file i.what (a (File i.file)) ≡ true
    first h = grind arith

    rest : files_there (i ∷ list) a ≡ true → files_there list (change (intention_change i) a) ≡ true
    rest h = grind arith

    both : finds_file i.what (b (File i.file)) ≡ true → files_there list (change (intention_change i) b) ≡ true → files_there (i ∷ list) b ≡ true
    both x y = grind (arith, x, y)
