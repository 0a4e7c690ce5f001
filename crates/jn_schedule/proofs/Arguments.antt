-- What the readers of the words behind the keywords tell.
use Rattle.jn_schedule.proofs.Common.{codes, ◌≡◌, ◌≢◌, ℕ, inl, inr, Bool, false, nat_eq, List, [], ◌∷◌, length, map, Result, Ok, Err, MatchResult, MatchBool, refl, sym, subst, arith, nat_tests, BlockNo, FileNo, ServerNo, Tid, Command, LineFault, Part, SpellsPart, SpellsParts, command_parts, block_part, file_part, page_part, server_part, Fills, FirstUnfilled, Place, PlacesFault, block_place, file_place, page_place, server_place, ◌>>=◌, block_no_of, bytes_of, file_of, message_alone, name_of, nothing, page_of, server_alone, server_file, server_file_block, server_name, server_of, server_page, value_of, write_of, written}
use Rattle.jn_base.specs.declared.op.Command.TheVariants as commands
use Rattle.jn_base.specs.declared.op.Op.TheVariants as ops
use Rattle.jn_schedule.specs.declared.fault.LineFault.TheVariants as faults
use Rattle.jn_schedule.specs.Grammar as grammar
use Rattle.jn_schedule.specs.Faults as places
use Rattle.jn_schedule.proofs.Values.{Told, number_told, server_told, file_told, block_no_told, page_told, name_told, bytes_told}

-- what stands where a part does
abbrev pub place_of : Part → Place
place_of (grammar.Keyword k) = places.Keyword
place_of (grammar.Client c) = places.Keyword
place_of (grammar.Number low high n) = places.Number low high
place_of (grammar.Name t) = places.Name
place_of (grammar.Bytes stored) = places.Bytes

pub fills : (p : Part) (w : List ℕ) → SpellsPart p w → Fills (place_of p) w
fills (grammar.Keyword k) w spells = tt
fills (grammar.Client c) w spells = tt
fills (grammar.Number low high n) w spells = (n, spells)
fills (grammar.Name t) w spells = (t, spells)
fills (grammar.Bytes stored) w spells = (stored, spells)

-- what is spelled has no fault
pub none_unfilled : (ps : List Part) (ws : List (List ℕ)) (f : LineFault) → SpellsParts ps ws → FirstUnfilled (map place_of ps) ws f → ⊥
none_unfilled [] ws f spells unfilled = unfilled
none_unfilled (p ∷ ps) [] f spells unfilled = unfilled
none_unfilled (p ∷ ps) (w ∷ ws) f spells (inl more) = none_unfilled ps ws f spells.1 more.1
none_unfilled (p ∷ ps) (w ∷ ws) f spells (inr here) = here.0 (fills p w spells.0)

-- what a reader of arguments tells
abbrev pub ToldArgs : {X : Type 0} → List Place → (X → List Part) → List (List ℕ) → Result X LineFault → Type 0
ToldArgs ps parts ws r = MatchResult r (λ x. SpellsParts (parts x) ws) (λ f. PlacesFault ps ws f)

abbrev pub none : {X : Type 0} → X → List Part
none x = []

-- as many words as places don't stand there
pub wrong_count : (ps : List Place) (ws : List (List ℕ)) → length ps ≢ length ws → PlacesFault ps ws faults.Count
wrong_count ps ws other = subst (λ (b : Bool). MatchBool b (FirstUnfilled ps ws faults.Count) (faults.Count ≡ faults.Count)) (sym unequal) refl
  where
    unequal : nat_eq (length ps) (length ws) ≡ false
    unequal = grind (arith, nat_tests)

pub nothing_told : (ws : List (List ℕ)) → ToldArgs [] none ws (nothing ws)
unfolding nothing
nothing_told [] = tt
nothing_told (a ∷ ws) = wrong_count [] (a ∷ ws) (λ e. omega arith)

pub server_alone_told : (ws : List (List ℕ)) → ToldArgs (server_place ∷ []) (λ (s : ServerNo). server_part s.0 ∷ []) ws (server_alone ws)
unfolding server_alone
server_alone_told [] = refl
server_alone_told (a ∷ []) = go (server_of a) (server_told a)
  where
    go : (r : Result ServerNo LineFault) → Told server_place (λ (s : ServerNo). server_part s.0) a r → ToldArgs (server_place ∷ []) (λ (s : ServerNo). server_part s.0 ∷ []) (a ∷ []) (r)
    go (Ok x) h = (h, tt)
    go (Err f) h = inr h
server_alone_told (a ∷ b ∷ ws) = wrong_count (server_place ∷ []) (a ∷ b ∷ ws) (λ e. omega arith)

pub message_alone_told : (ws : List (List ℕ)) → ToldArgs (places.Number 0 999999 ∷ []) (λ (k : ℕ). grammar.Number 0 999999 k ∷ []) ws (message_alone ws)
unfolding message_alone
message_alone_told [] = refl
message_alone_told (a ∷ []) = go (value_of 0 999999 a) (number_told 0 999999 a (omega arith))
  where
    go : (r : Result ℕ LineFault) → Told (places.Number 0 999999) (λ (k : ℕ). grammar.Number 0 999999 k) a r → ToldArgs (places.Number 0 999999 ∷ []) (λ (k : ℕ). grammar.Number 0 999999 k ∷ []) (a ∷ []) (r)
    go (Ok x) h = (h, tt)
    go (Err f) h = inr h
message_alone_told (a ∷ b ∷ ws) = wrong_count (places.Number 0 999999 ∷ []) (a ∷ b ∷ ws) (λ e. omega arith)

pub server_file_told : (ws : List (List ℕ)) → ToldArgs (server_place ∷ file_place ∷ []) (λ (x : ServerNo × FileNo). server_part x.0.0 ∷ file_part x.1.0 ∷ []) ws (server_file ws)
unfolding server_file
server_file_told [] = refl
server_file_told (a ∷ []) = refl
server_file_told (a ∷ b ∷ []) = go (server_of a) (server_told a) (file_of b) (file_told b)
  where
    go : (r : Result ServerNo LineFault) → Told server_place (λ (s : ServerNo). server_part s.0) a r → (q : Result FileNo LineFault) → Told file_place (λ (f : FileNo). file_part f.0) b q → ToldArgs (server_place ∷ file_place ∷ []) (λ (x : ServerNo × FileNo). server_part x.0.0 ∷ file_part x.1.0 ∷ []) (a ∷ b ∷ []) (r >>= λ s. q >>= λ f. Ok (s, f))
    go (Ok x) h (Ok y) k = (h, (k, tt))
    go (Ok x) h (Err f) k = inl (fills (server_part x.0) a h, inr k)
    go (Err f) h q k = inr h
server_file_told (a ∷ b ∷ c ∷ ws) = wrong_count (server_place ∷ file_place ∷ []) (a ∷ b ∷ c ∷ ws) (λ e. omega arith)

pub server_file_block_told : (ws : List (List ℕ)) → ToldArgs (server_place ∷ file_place ∷ block_place ∷ []) (λ (x : ServerNo × FileNo × BlockNo). server_part x.0.0 ∷ file_part x.1.0 ∷ block_part x.2.0 ∷ []) ws (server_file_block ws)
unfolding server_file_block
server_file_block_told [] = refl
server_file_block_told (a ∷ []) = refl
server_file_block_told (a ∷ b ∷ []) = refl
server_file_block_told (a ∷ b ∷ c ∷ []) = go (server_of a) (server_told a) (file_of b) (file_told b) (block_no_of c) (block_no_told c)
  where
    go : (r : Result ServerNo LineFault) → Told server_place (λ (s : ServerNo). server_part s.0) a r → (q : Result FileNo LineFault) → Told file_place (λ (f : FileNo). file_part f.0) b q → (t : Result BlockNo LineFault) → Told block_place (λ (p : BlockNo). block_part p.0) c t → ToldArgs (server_place ∷ file_place ∷ block_place ∷ []) (λ (x : ServerNo × FileNo × BlockNo). server_part x.0.0 ∷ file_part x.1.0 ∷ block_part x.2.0 ∷ []) (a ∷ b ∷ c ∷ []) (r >>= λ s. q >>= λ f. t >>= λ p. Ok (s, f, p))
    go (Ok x) h (Ok y) k (Ok z) l = (h, (k, (l, tt)))
    go (Ok x) h (Ok y) k (Err f) l = inl (fills (server_part x.0) a h, inl (fills (file_part y.0) b k, inr l))
    go (Ok x) h (Err f) k t l = inl (fills (server_part x.0) a h, inr k)
    go (Err f) h q k t l = inr h
server_file_block_told (a ∷ b ∷ c ∷ d ∷ ws) = wrong_count (server_place ∷ file_place ∷ block_place ∷ []) (a ∷ b ∷ c ∷ d ∷ ws) (λ e. omega arith)

pub server_name_told : (ws : List (List ℕ)) → ToldArgs (server_place ∷ places.Name ∷ []) (λ (x : ServerNo × Tid). server_part x.0.0 ∷ grammar.Name x.1 ∷ []) ws (server_name ws)
unfolding server_name
server_name_told [] = refl
server_name_told (a ∷ []) = refl
server_name_told (a ∷ b ∷ []) = go (server_of a) (server_told a) (name_of b) (name_told b)
  where
    go : (r : Result ServerNo LineFault) → Told server_place (λ (s : ServerNo). server_part s.0) a r → (q : Result Tid LineFault) → Told places.Name (λ (t : Tid). grammar.Name t) b q → ToldArgs (server_place ∷ places.Name ∷ []) (λ (x : ServerNo × Tid). server_part x.0.0 ∷ grammar.Name x.1 ∷ []) (a ∷ b ∷ []) (r >>= λ s. q >>= λ t. Ok (s, t))
    go (Ok x) h (Ok y) k = (h, (k, tt))
    go (Ok x) h (Err f) k = inl (fills (server_part x.0) a h, inr k)
    go (Err f) h q k = inr h
server_name_told (a ∷ b ∷ c ∷ ws) = wrong_count (server_place ∷ places.Name ∷ []) (a ∷ b ∷ c ∷ ws) (λ e. omega arith)

pub server_page_told : (ws : List (List ℕ)) → ToldArgs (server_place ∷ page_place ∷ []) (λ (x : ServerNo × ℕ). server_part x.0.0 ∷ page_part x.1 ∷ []) ws (server_page ws)
unfolding server_page
server_page_told [] = refl
server_page_told (a ∷ []) = refl
server_page_told (a ∷ b ∷ []) = go (server_of a) (server_told a) (page_of b) (page_told b)
  where
    go : (r : Result ServerNo LineFault) → Told server_place (λ (s : ServerNo). server_part s.0) a r → (q : Result ℕ LineFault) → Told page_place (λ (g : ℕ). page_part g) b q → ToldArgs (server_place ∷ page_place ∷ []) (λ (x : ServerNo × ℕ). server_part x.0.0 ∷ page_part x.1 ∷ []) (a ∷ b ∷ []) (r >>= λ s. q >>= λ g. Ok (s, g))
    go (Ok x) h (Ok y) k = (h, (k, tt))
    go (Ok x) h (Err f) k = inl (fills (server_part x.0) a h, inr k)
    go (Err f) h q k = inr h
server_page_told (a ∷ b ∷ c ∷ ws) = wrong_count (server_place ∷ page_place ∷ []) (a ∷ b ∷ c ∷ ws) (λ e. omega arith)

-- a write's keyword stands before its arguments
abbrev pub ToldWritten : List (List ℕ) → Result Command LineFault → Type 0
ToldWritten ws r = MatchResult r (λ x. SpellsParts (command_parts x) (codes "write" ∷ ws)) (λ f. PlacesFault (server_place ∷ file_place ∷ block_place ∷ places.Bytes ∷ []) ws f)

pub written_told : (ws : List (List ℕ)) → ToldWritten ws (written ws)
unfolding written write_of
written_told [] = refl
written_told (a ∷ []) = refl
written_told (a ∷ b ∷ []) = refl
written_told (a ∷ b ∷ c ∷ []) = refl
written_told (a ∷ b ∷ c ∷ d ∷ []) = go (server_of a) (server_told a) (file_of b) (file_told b) (block_no_of c) (block_no_told c) (bytes_of d) (bytes_told d)
  where
    go : (r : Result ServerNo LineFault) → Told server_place (λ (s : ServerNo). server_part s.0) a r → (q : Result FileNo LineFault) → Told file_place (λ (f : FileNo). file_part f.0) b q → (t : Result BlockNo LineFault) → Told block_place (λ (p : BlockNo). block_part p.0) c t → (u : Result (List ℕ) LineFault) → Told places.Bytes (λ (b : List ℕ). grammar.Bytes b) d u → ToldWritten (a ∷ b ∷ c ∷ d ∷ []) (◌>>=◌ {A = ServerNo × FileNo × BlockNo × List ℕ} (r >>= λ s. q >>= λ f. t >>= λ p. u >>= λ b. Ok (s, f, p, b)) (λ x. Ok (commands.Do x.0 (ops.Write x.1 x.2 x.3))))
    go (Ok x) h (Ok y) k (Ok z) l (Ok v) m = (refl, (h, (k, (l, (m, tt)))))
    go (Ok x) h (Ok y) k (Ok z) l (Err f) m = inl (fills (server_part x.0) a h, inl (fills (file_part y.0) b k, inl (fills (block_part z.0) c l, inr m)))
    go (Ok x) h (Ok y) k (Err f) l u m = inl (fills (server_part x.0) a h, inl (fills (file_part y.0) b k, inr l))
    go (Ok x) h (Err f) k t l u m = inl (fills (server_part x.0) a h, inr k)
    go (Err f) h q k t l u m = inr h
written_told (a ∷ b ∷ c ∷ d ∷ e ∷ ws) = wrong_count (server_place ∷ file_place ∷ block_place ∷ places.Bytes ∷ []) (a ∷ b ∷ c ∷ d ∷ e ∷ ws) (λ e. omega arith)
