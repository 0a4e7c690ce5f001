-- Shows and scrubs at the end: what each server prints, and that nothing else happens.
use Rattle.jn_headline.proofs.Common.{◌≡◌, ◌⊎◌, inl, inr, ℕ, zero, suc, ◌+◌, ◌<◌, ◌≤◌, true, false, List, [], ◌∷◌, ◌++◌, append_assoc, append-nil, length, Option, is_some, refl, sym, ap, subst, arith, map, list_all, ServerNo, server_eq, Text, Line, Pick, World, servers_from, Printed, FileThere, PageStored, UnitLocked, Step, Course, go_on, text_printed, is_print, Setup, Chance, Task, Acts, Deed, Reads, stopped_idle, shown, showing, scrubbed, IsLookedOver, Alone, is_up, come_to, Moment, Leads, both, Server, Cleans, IsScrubbed, prints_found, behind, IsPrinted, ArePrinted, texts_from, Left, HasTables}
use Rattle.jn_schedule.specs.declared.Event.TheVariants as events
use Rattle.jn_headline.proofs.Quiet.{Calm, called-calm, quiet-called}
use Rattle.jn_headline.proofs.Came.{Came, came-none, tasks-then}
use Rattle.jn_headline.proofs.Parts.{Part, Past, Onward, drive}
use Rattle.jn_headline.proofs.Tasks.{no-faults}
use Rattle.jn_machine.specs.Deeds.{plain}

one-prints : (q : ServerNo) (y : Printed) → is_print (text_printed q y) ≡ true
one-prints q (FileThere f) = refl
one-prints q (PageStored f p bytes) = refl
one-prints q (UnitLocked u T) = refl

all-print : (q : ServerNo) (ys : List Printed) → list_all is_print (map (text_printed q) ys) ≡ true
all-print q [] = refl
all-print q (y ∷ ys) = both (is_print (text_printed q y)) (list_all is_print (map (text_printed q) ys)) (one-prints q y) (all-print q ys)

module _ (x : Setup) (ups : List Text) (are_up : list_all is_up ups ≡ true) (start : Course) (before : List Line) (steps : List Step) where
  -- the world that is shown
  abbrev here : World
  here = (go_on steps start).world

  pub record Shows (now : Moment) (printed : List Text) (q : ServerNo) (rest : List Task) : Type 0 where
    pub prints : List Printed
    pub is_printed : IsPrinted q here prints
    pub past : Past x ups start before now steps (printed ++ map (text_printed q) prints) rest

  module _ (q : ServerNo) (below : q.0 < x.servers) (m now : Moment) (printed : List Text) (rest : List Task) (came : Came x ups start before m steps printed) (n : Moment) (tables : HasTables n.state) (l : Leads x n now) (h : Chance) where
    abbrev was : World
    was = m.state.course.world

    abbrev found : List Printed
    found = prints_found h.found

    abbrev deed : List Step → List Text → Deed
    deed ss texts = record (plain (Server q) ss) { device = Reads q; texts = texts }

    abbrev ShowsBy : Deed → Type 0
    ShowsBy d = n.state ≡ come_to x h d (go_on d.steps m.state.course) (record m.state { tasks = rest })

    -- lines of servers that came up don't matter
    bare : IsPrinted q (behind ups here) found → IsPrinted q here found
    bare p = record { memory = p.memory; up = p.up; prints_are = p.prints_are }

    goes-over : IsPrinted q was found → Calm h (n.devices q) → ((s : ServerNo) → server_eq q s ≡ false → n.devices s ≡ m.devices s) → ShowsBy (deed [] (map (text_printed q) found)) → Shows now printed q rest
    goes-over p calm others d = record {
      prints = found;
      is_printed = bare (subst (λ (v : World). IsPrinted q v found) came.goes.world p);
      past = record {
        moment = n;
        came = came-none x ups are_up start before m n h (deed [] (map (text_printed q) found)) rest d refl tables steps printed came refl (all-print q found) (no-faults q h.told calm.told)
            (quiet-called x was was m.devices n.devices came.quiet h q (λ s z. z) others calm);
        tasks = tasks-then x ups are_up start before m n h (deed [] (map (text_printed q) found)) rest d refl tables steps printed came;
        leads = l;
      };
    }

    looks : ShowsBy (showing h q) → Alone q (IsLookedOver (x.counts q) h was q) m.devices n.devices → Shows now printed q rest
    looks d a = let calm = called-calm _ h (m.devices q) (n.devices q) a.its.called (came.quiet.power q below (ap is_some a.its.up)) (came.quiet.told q below) (came.quiet.waiting q below) in
        goes-over (record { memory = a.its.memory; up = a.its.up; prints_are = a.its.prints calm.stop }) calm a.others
        (subst (λ (stop : Option (Pick → Left)). ShowsBy (deed (stopped_idle q stop) (shown q found stop))) calm.stop d)

  shows : (q : ServerNo) → q.0 < x.servers → (m now : Moment) (printed : List Text) (rest : List Task) → Came x ups start before m steps printed → m.state.tasks ≡ Acts (events.Show q) ∷ rest → Leads x m now
      → Part start before now ⊎ Shows now printed q rest
  shows q below m now printed rest came tasks leads = by (drive x ups start before m now leads steps printed came (Acts (events.Show q)) rest (λ s. refl) tasks)
    where
      by : Part start before now ⊎ Onward x m now (Acts (events.Show q)) rest → Part start before now ⊎ Shows now printed q rest
      by (inl part) = inl part
      by (inr on) = inr (looks q below m now printed rest came on.moment on.tables on.leads on.makes.chance on.makes.state_is (let b = on.makes.befalls in b.used))

  -- all of them, one after another
  pub record AllShow (now : Moment) (printed : List Text) (first count : ℕ) (rest : List Task) : Type 0 where
    pub prints : List (List Printed)
    pub are_printed : ArePrinted first here prints
    pub count_is : length prints ≡ count
    pub past : Past x ups start before now steps (printed ++ texts_from first prints) rest

  pub show-all : (count first : ℕ) → first + count ≤ x.servers → (m now : Moment) (printed : List Text) (rest : List Task) → Came x ups start before m steps printed
      → m.state.tasks ≡ map (λ (q : ServerNo). Acts (events.Show q)) (servers_from first count) ++ rest → Leads x m now → Part start before now ⊎ AllShow now printed first count rest
  show-all zero first within m now printed rest came tasks leads = inr (record { prints = []; are_printed = tt; count_is = refl; past = record { moment = m; came = subst (λ (ts : List Text). Came x ups start before m steps ts) (sym (append-nil printed)) came; tasks = tasks; leads = leads } })
  show-all (suc count) first within m now printed rest came tasks leads = by (shows (record { 0 = first }) (below first count x.servers within) m now printed (map (λ (q : ServerNo). Acts (events.Show q)) (servers_from (first + 1) count) ++ rest) came tasks leads)
      (λ one. show-all count (first + 1) (shift first count x.servers within) one.past.moment now (printed ++ map (text_printed (record { 0 = first })) one.prints) rest one.past.came one.past.tasks one.past.leads)
    where
      below : (a c n : ℕ) → a + suc c ≤ n → a < n
      below a c n h = omega (arith, h)

      shift : (a c n : ℕ) → a + suc c ≤ n → a + 1 + c ≤ n
      shift a c n h = omega (arith, h)

      q : ServerNo
      q = record { 0 = first }

      more : List Task
      more = map (λ (s : ServerNo). Acts (events.Show s)) (servers_from (first + 1) count) ++ rest

      by : Part start before now ⊎ Shows now printed q more → ((one : Shows now printed q more) → Part start before now ⊎ AllShow now (printed ++ map (text_printed q) one.prints) (first + 1) count rest) → Part start before now ⊎ AllShow now printed first (suc count) rest
      by (inl part) again = inl part
      by (inr one) again = on (again one)
        where
          on : Part start before now ⊎ AllShow now (printed ++ map (text_printed q) one.prints) (first + 1) count rest → Part start before now ⊎ AllShow now printed first (suc count) rest
          on (inl part) = inl part
          on (inr all) = inr (record {
            prints = one.prints ∷ all.prints;
            are_printed = (one.is_printed, all.are_printed);
            count_is = ap suc all.count_is;
            past = subst (λ (ts : List Text). Past x ups start before now steps ts rest) (append_assoc printed (map (text_printed q) one.prints) (texts_from (first + 1) all.prints)) all.past;
          })

  -- ---- scrubs

  module _ (q : ServerNo) (below : q.0 < x.servers) (m now : Moment) (printed : List Text) (rest : List Task) (came : Came x ups start before m steps printed) (n : Moment) (tables : HasTables n.state) (l : Leads x n now) (h : Chance) where
    abbrev cleans : List Step → Deed
    cleans ss = record (plain (Server q) ss) { device = Cleans q }

    abbrev ScrubsBy : Deed → Type 0
    ScrubsBy d = n.state ≡ come_to x h d (go_on d.steps m.state.course) (record m.state { tasks = rest })

    idles : Calm h (n.devices q) → ((s : ServerNo) → server_eq q s ≡ false → n.devices s ≡ m.devices s) → ScrubsBy (cleans []) → Past x ups start before now steps printed rest
    idles calm others d = record {
      moment = n;
      came = subst (λ (ts : List Text). Came x ups start before n steps ts) (append-nil printed) (came-none x ups are_up start before m n h (cleans []) rest d refl tables steps printed came refl refl (no-faults q h.told calm.told)
          (quiet-called x m.state.course.world m.state.course.world m.devices n.devices came.quiet h q (λ s z. z) others calm));
      tasks = tasks-then x ups are_up start before m n h (cleans []) rest d refl tables steps printed came;
      leads = l;
    }

    calls : ScrubsBy (scrubbed h q) → Alone q (IsScrubbed (x.counts q) h m.state.course.world q) m.devices n.devices → Past x ups start before now steps printed rest
    calls d a = let calm = called-calm _ h (m.devices q) (n.devices q) a.its.served.called (came.quiet.power q below (ap is_some a.its.served.up)) (came.quiet.told q below) (came.quiet.waiting q below) in
        idles calm a.others (subst (λ (stop : Option (Pick → Left)). ScrubsBy (cleans (stopped_idle q stop))) calm.stop d)

  scrubs : (q : ServerNo) → q.0 < x.servers → (m now : Moment) (printed : List Text) (rest : List Task) → Came x ups start before m steps printed → m.state.tasks ≡ Acts (events.Scrub q) ∷ rest → Leads x m now
      → Part start before now ⊎ Past x ups start before now steps printed rest
  scrubs q below m now printed rest came tasks leads = by (drive x ups start before m now leads steps printed came (Acts (events.Scrub q)) rest (λ s. refl) tasks)
    where
      by : Part start before now ⊎ Onward x m now (Acts (events.Scrub q)) rest → Part start before now ⊎ Past x ups start before now steps printed rest
      by (inl part) = inl part
      by (inr on) = inr (calls q below m now printed rest came on.moment on.tables on.leads on.makes.chance on.makes.state_is (let b = on.makes.befalls in b.used))

  pub scrub-all : (count first : ℕ) → first + count ≤ x.servers → (m now : Moment) (printed : List Text) (rest : List Task) → Came x ups start before m steps printed
      → m.state.tasks ≡ map (λ (q : ServerNo). Acts (events.Scrub q)) (servers_from first count) ++ rest → Leads x m now → Part start before now ⊎ Past x ups start before now steps printed rest
  scrub-all zero first within m now printed rest came tasks leads = inr (record { moment = m; came = came; tasks = tasks; leads = leads })
  scrub-all (suc count) first within m now printed rest came tasks leads = by (scrubs (record { 0 = first }) (below first count x.servers within) m now printed (map (λ (q : ServerNo). Acts (events.Scrub q)) (servers_from (first + 1) count) ++ rest) came tasks leads)
      (λ one. scrub-all count (first + 1) (shift first count x.servers within) one.moment now printed rest one.came one.tasks one.leads)
    where
      below : (a c n : ℕ) → a + suc c ≤ n → a < n
      below a c n h = omega (arith, h)

      shift : (a c n : ℕ) → a + suc c ≤ n → a + 1 + c ≤ n
      shift a c n h = omega (arith, h)

      more : List Task
      more = map (λ (s : ServerNo). Acts (events.Scrub s)) (servers_from (first + 1) count) ++ rest

      by : Part start before now ⊎ Past x ups start before now steps printed more → (Past x ups start before now steps printed more → Part start before now ⊎ Past x ups start before now steps printed rest) → Part start before now ⊎ Past x ups start before now steps printed rest
      by (inl part) again = inl part
      by (inr one) again = again one
