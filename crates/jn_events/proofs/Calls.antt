-- Calls one after another, each from where the machine stands.
use Rattle.jn_events.proofs.Common.{ClientNo, ServerNo, DeviceState, is_going, DoesTasks, Setup, servers_of, Moment, none, Task, Stage, when_at, when_of, Line, When, StoreView, servers_from, clients_from, GoesTo, Ended, Messages, Epoch, Memory, IsTold, WentOn, NoMessageLeft, NoEpochLeft, Standing, Stands, ◌+◌, ◌-◌, ◌++◌, append_assoc, ◌∙◌, ap, [], append-nil, sym, refl, Ok, Err, ◌≡◌, true, subst, ℕ, arith, length, zero, suc, ◌∷◌, map, ◌≤◌, map-append, List, Result}
use Rattle.jn_events.proofs.Numbers.{count_begins, same-number, begins-append}
use Rattle.jn_world_refines.proofs.Joined.{went-further, went-to-cut}

-- ---- lines and steps

pub told-then : (a b c : Moment) (first now later : List Line) → IsTold a b first now → IsTold b c now later → IsTold a c first later
told-then a b c first now later h k = record {
  new = h.new ++ k.new;
  here = k.here ∙ ap (λ (l : List Line). l ++ k.new) h.here ∙ append_assoc first h.new k.new;
  there = k.there ∙ ap (λ (l : List Line). l ++ k.new) h.there ∙ append_assoc a.state.lines h.new k.new;
}

told-none : (a : Moment) (lines : List Line) → IsTold a a lines lines
told-none a lines = record { new = []; here = sym (append-nil lines); there = sym (append-nil a.state.lines) }

module _ {S : Type 0} (look : S → StoreView) (device : S → DeviceState) (x : Setup) where
  -- nothing is done
  pub went-nowhere : (m : Moment) (w : Standing S) (lines : List Line) → Stands look device x w m → WentOn look device x m m.state.tasks w lines lines
  went-nowhere m w lines stands = record { last = m; leads = none m; stands = stands; tasks = refl; stage = refl; told = told-none m lines }

  pub goes-then : {A : Type 0} (m : Moment) (tasks rest : List Task) (w w' : Standing S) (first now later : List Line) (r : Result A Ended) (h : WentOn look device x m tasks w first now) → GoesTo look device x h.last rest r w' now later → GoesTo look device x m rest r w' first later
  goes-then m tasks rest w w' first now later (Ok a) h k = went-further look device x m tasks w first now later h rest w' k
  goes-then m tasks rest w w' first now later (Err Messages) h k = went-to-cut look device x m tasks w first now later h NoMessageLeft k
  goes-then m tasks rest w w' first now later (Err (Epoch q)) h k = went-to-cut look device x m tasks w first now later h (NoEpochLeft q) k
  goes-then m tasks rest w w' first now later (Err Memory) h k = tt

  -- where the call fails it doesn't matter what would have been left
  pub fails-anyhow : (A B : Type 0) (m : Moment) (rest other : List Task) (w w' : Standing S) (first later : List Line) (e : Ended) → GoesTo {S = S} {A = A} look device x m rest (Err e) w first later → GoesTo {S = S} {A = B} look device x m other (Err e) w' first later
  fails-anyhow A B m rest other w w' first later Messages h = h
  fails-anyhow A B m rest other w w' first later (Epoch q) h = h
  fails-anyhow A B m rest other w w' first later Memory h = tt

  pub went-going : (m : Moment) (tasks : List Task) (w : Standing S) (first now : List Line) (h : WentOn look device x m tasks w first now) → is_going m.state.stage ≡ true → is_going h.last.state.stage ≡ true
  went-going m tasks w first now h going = subst (λ (s : Stage). is_going s ≡ true) (sym h.stage) going

  -- the event under way is the same where as many are still to begin
  pub went-when : (m : Moment) (tasks : List Task) (w : Standing S) (first now : List Line) (h : WentOn look device x m tasks w first now) → is_going m.state.stage ≡ true → count_begins tasks ≡ count_begins m.state.tasks → when_of h.last.state ≡ when_of m.state
  went-when m tasks w first now h going same =
      let numbers = same-number x m h.last h.leads (went-going m tasks w first now h going) in
      let left = ap count_begins h.tasks in
      let event : h.last.state.course.world.event ≡ m.state.course.world.event = omega arith in
      ap (λ (s : Stage). when_at s h.last.state.course.world.event) h.stage ∙ ap (λ (n : ℕ). when_at m.state.stage n) event

module _ {S : Type 0} (look : S → StoreView) (device : S → DeviceState) (when : When) where
  -- two calls, of which the first one went well
  pub does-then : {A B : Type 0} (one two : Setup → List Task) (a : A) (r : Result B Ended) (w v u : Standing S) (first now later : List Line) → ((x : Setup) → count_begins (one x) ≡ 0)
      → DoesTasks look device one when w (Ok a) v first now → DoesTasks look device two when v r u now later → DoesTasks look device (λ x. one x ++ two x) when w r u first later
  does-then one two a r w v u first now later quiet h k x m rest stands tasks going is =
      let all = tasks ∙ append_assoc (one x) (two x) rest in
      let went = h x m (two x ++ rest) stands all going is in
      let none = quiet x in
      let many = ap count_begins all ∙ begins-append (one x) (two x ++ rest) in
      goes-then look device x m (two x ++ rest) rest v u first now later r went
      (k x went.last rest went.stands went.tasks (went-going look device x m (two x ++ rest) v first now went going)
      (went-when look device x m (two x ++ rest) v first now went going (omega arith) ∙ is))

  -- a call that failed is as one of more tasks that failed
  pub does-cut : (A B : Type 0) (one two : Setup → List Task) (e : Ended) (w v u : Standing S) (first later : List Line) → DoesTasks {S = S} {A = A} look device one when w (Err e) v first later → DoesTasks {S = S} {A = B} look device (λ x. one x ++ two x) when w (Err e) u first later
  does-cut A B one two e w v u first later h x m rest stands tasks going is =
      fails-anyhow look device x A B m (two x ++ rest) rest v u first later e (h x m (two x ++ rest) stands (tasks ∙ append_assoc (one x) (two x) rest) going is)

  pub does-nothing : {A : Type 0} (a : A) (w : Standing S) (lines : List Line) → DoesTasks look device (λ x. []) when w (Ok a) w lines lines
  does-nothing a w lines x m rest stands tasks going is = subst (λ (ts : List Task). WentOn look device x m ts w lines lines) tasks (went-nowhere look device x m w lines stands)

  -- the same tasks, written in another way
  pub does-as : {A : Type 0} (one two : Setup → List Task) (r : Result A Ended) (w u : Standing S) (first later : List Line) → ((x : Setup) → x.servers ≡ length w.places → one x ≡ two x)
      → DoesTasks look device one when w r u first later → DoesTasks look device two when w r u first later
  does-as one two r w u first later same h x m rest stands tasks going is =
      h x m rest stands (tasks ∙ ap (λ (ts : List Task). ts ++ rest) (sym (same x (sym stands.servers)))) going is

-- ---- servers in turn

servers-split : (a b n : ℕ) → servers_from a (b + n) ≡ servers_from a b ++ servers_from (a + b) n
servers-split a zero n = let at : a ≡ a + 0 = omega arith in let none : 0 + n ≡ n = omega arith in ap (λ (k : ℕ). servers_from a k) none ∙ ap (λ (k : ℕ). servers_from k n) at
servers-split a (suc b) n =
    let at : a + 1 + b ≡ a + suc b = omega arith in
    let more : suc b + n ≡ suc (b + n) = omega arith in
    ap (λ (k : ℕ). servers_from a k) more ∙ ap (λ (qs : List ServerNo). record { 0 = a } ∷ qs) (servers-split (a + 1) b n ∙ ap (λ (k : ℕ). servers_from (a + 1) b ++ servers_from k n) at)

clients-split : (a b n : ℕ) → clients_from a (b + n) ≡ clients_from a b ++ clients_from (a + b) n
clients-split a zero n = let at : a ≡ a + 0 = omega arith in let none : 0 + n ≡ n = omega arith in ap (λ (k : ℕ). clients_from a k) none ∙ ap (λ (k : ℕ). clients_from k n) at
clients-split a (suc b) n =
    let at : a + 1 + b ≡ a + suc b = omega arith in
    let more : suc b + n ≡ suc (b + n) = omega arith in
    ap (λ (k : ℕ). clients_from a k) more ∙ ap (λ (qs : List ClientNo). record { 0 = a } ∷ qs) (clients-split (a + 1) b n ∙ ap (λ (k : ℕ). clients_from (a + 1) b ++ clients_from k n) at)

-- so many servers in turn, each with its task
abbrev pub at_servers : (ServerNo → Task) → ℕ → Setup → List Task
at_servers f n x = map f (servers_from 0 n)

abbrev pub at_clients : (ClientNo → Task) → ℕ → Setup → List Task
at_clients f n x = map f (clients_from 1 n)

one-server-more : (f : ServerNo → Task) (n : ℕ) (x : Setup) → at_servers f n x ++ f (record { 0 = n }) ∷ [] ≡ at_servers f (n + 1) x
one-server-more f n x =
    let at : 0 + n ≡ n = omega arith in
    sym (ap (λ (qs : List ServerNo). map f qs) (servers-split 0 n 1 ∙ ap (λ (k : ℕ). servers_from 0 n ++ servers_from k 1) at) ∙ map-append f (servers_from 0 n) (record { 0 = n } ∷ []))

one-client-more : (f : ClientNo → Task) (n : ℕ) (x : Setup) → at_clients f n x ++ f (record { 0 = n + 1 }) ∷ [] ≡ at_clients f (n + 1) x
one-client-more f n x =
    let at : n + 1 ≡ 1 + n = omega arith in
    ap (λ (k : ℕ). at_clients f n x ++ f (record { 0 = k }) ∷ []) at
    ∙ sym (ap (λ (cs : List ClientNo). map f cs) (clients-split 1 n 1) ∙ map-append f (clients_from 1 n) (record { 0 = 1 + n } ∷ []))

more-servers : (f : ServerNo → Task) (a b : ℕ) (x : Setup) → at_servers f a x ++ map f (servers_from a b) ≡ at_servers f (a + b) x
more-servers f a b x =
    let at : 0 + a ≡ a = omega arith in
    sym (ap (λ (qs : List ServerNo). map f qs) (servers-split 0 a b ∙ ap (λ (k : ℕ). servers_from 0 a ++ servers_from k b) at) ∙ map-append f (servers_from 0 a) (servers_from a b))

more-clients : (f : ClientNo → Task) (a b : ℕ) (x : Setup) → at_clients f a x ++ map f (clients_from (1 + a) b) ≡ at_clients f (a + b) x
more-clients f a b x = sym (ap (λ (cs : List ClientNo). map f cs) (clients-split 1 a b) ∙ map-append f (clients_from 1 a) (clients_from (1 + a) b))

-- tasks of which none begins an event
pub servers-quiet : (f : ServerNo → Task) → ((q : ServerNo) → count_begins (f q ∷ []) ≡ 0) → (a n : ℕ) → count_begins (map f (servers_from a n)) ≡ 0
servers-quiet f quiet a zero = refl
servers-quiet f quiet a (suc n) =
    let rest = servers-quiet f quiet (a + 1) n in
    let own = quiet (record { 0 = a }) in
    let all = begins-append (f (record { 0 = a }) ∷ []) (map f (servers_from (a + 1) n)) in
    omega arith

pub clients-quiet : (f : ClientNo → Task) → ((c : ClientNo) → count_begins (f c ∷ []) ≡ 0) → (a n : ℕ) → count_begins (map f (clients_from a n)) ≡ 0
clients-quiet f quiet a zero = refl
clients-quiet f quiet a (suc n) =
    let rest = clients-quiet f quiet (a + 1) n in
    let own = quiet (record { 0 = a }) in
    let all = begins-append (f (record { 0 = a }) ∷ []) (map f (clients_from (a + 1) n)) in
    omega arith

module _ {S : Type 0} (look : S → StoreView) (device : S → DeviceState) (when : When) (f : ServerNo → Task) (quiet : (q : ServerNo) → count_begins (f q ∷ []) ≡ 0) where
  -- one more server's task is done, or fails
  pub server-turn : {A B : Type 0} (n : ℕ) (a : A) (r : Result B Ended) (w v u : Standing S) (first now later : List Line)
      → DoesTasks look device (at_servers f n) when w (Ok a) v first now → DoesTasks look device (λ x. f (record { 0 = n }) ∷ []) when v r u now later → DoesTasks look device (at_servers f (n + 1)) when w r u first later
  server-turn n a r w v u first now later h k =
      does-as look device when (λ x. at_servers f n x ++ f (record { 0 = n }) ∷ []) (at_servers f (n + 1)) r w u first later (λ x e. one-server-more f n x)
      (does-then look device when (at_servers f n) (λ x. f (record { 0 = n }) ∷ []) a r w v u first now later (λ x. servers-quiet f quiet 0 n) h k)

  -- all of them were done
  pub servers-end : {A : Type 0} (n : ℕ) (r : Result A Ended) (w u : Standing S) (first later : List Line) → n ≡ length w.places → DoesTasks look device (at_servers f n) when w r u first later → DoesTasks look device (λ x. map f (servers_of x)) when w r u first later
  servers-end n r w u first later many h = does-as look device when (at_servers f n) (λ x. map f (servers_of x)) r w u first later (λ x e. ap (λ (k : ℕ). map f (servers_from 0 k)) (many ∙ sym e)) h

  -- one of them failed
  pub servers-cut : (A B : Type 0) (n : ℕ) (e : Ended) (w v u : Standing S) (first later : List Line) → n ≤ length w.places → DoesTasks {S = S} {A = A} look device (at_servers f n) when w (Err e) v first later → DoesTasks {S = S} {A = B} look device (λ x. map f (servers_of x)) when w (Err e) u first later
  servers-cut A B n e w v u first later few h =
      let left = length w.places - n in
      does-as look device when {A = B} (λ x. at_servers f n x ++ map f (servers_from n left)) (λ x. map f (servers_of x)) (Err e) w u first later
      (λ x e. more-servers f n left x ∙ ap (λ (k : ℕ). map f (servers_from 0 k)) (omega arith))
      (does-cut look device when A B (at_servers f n) (λ x. map f (servers_from n left)) e w v u first later h)

module _ {S : Type 0} (look : S → StoreView) (device : S → DeviceState) (when : When) (f : ClientNo → Task) (quiet : (c : ClientNo) → count_begins (f c ∷ []) ≡ 0) where
  -- one more client's task is done, or fails
  pub client-turn : {A B : Type 0} (n : ℕ) (a : A) (r : Result B Ended) (w v u : Standing S) (first now later : List Line)
      → DoesTasks look device (at_clients f n) when w (Ok a) v first now → DoesTasks look device (λ x. f (record { 0 = n + 1 }) ∷ []) when v r u now later → DoesTasks look device (at_clients f (n + 1)) when w r u first later
  client-turn n a r w v u first now later h k =
      does-as look device when (λ x. at_clients f n x ++ f (record { 0 = n + 1 }) ∷ []) (at_clients f (n + 1)) r w u first later (λ x e. one-client-more f n x)
      (does-then look device when (at_clients f n) (λ x. f (record { 0 = n + 1 }) ∷ []) a r w v u first now later (λ x. clients-quiet f quiet 1 n) h k)

  -- one of all failed
  pub clients-cut : (A B : Type 0) (n all : ℕ) (e : Ended) (w v u : Standing S) (first later : List Line) → n ≤ all → DoesTasks {S = S} {A = A} look device (at_clients f n) when w (Err e) v first later → DoesTasks {S = S} {A = B} look device (at_clients f all) when w (Err e) u first later
  clients-cut A B n all e w v u first later few h =
      let left = all - n in
      does-as look device when {A = B} (λ x. at_clients f n x ++ map f (clients_from (1 + n) left)) (at_clients f all) (Err e) w u first later
      (λ x e. more-clients f n left x ∙ ap (λ (k : ℕ). map f (clients_from 1 k)) (omega arith))
      (does-cut look device when A B (at_clients f n) (λ x. map f (clients_from (1 + n) left)) e w v u first later h)
