-- A server that is down comes up, as the written machine has it.
use Rattle.jn_base.specs.Names.{tid_eq}
use Rattle.jn_events.proofs.Common.{ServerNo, Tid, DeviceState, texts_so_far, BroughtUp, left_to_tell, newly_named, restart_texts, has_come, is_going, DoesTasks, Setup, Moment, Task, ComesUp, when_of, IsRestart, Place, Restarted, Slot, Counts, counts_by, lines_at, EpochsUsedUp, Line, When, has_tid, pairs_view, StoreView, commits_in, has_line, place-got, standing_of, DoesEvent, Ended, Epoch, Memory, World, WentOn, NoEpochLeft, WasCut, HasCounts, with_named, Standing, Stands, ◌≡◌, Bool, false, [], ◌∷◌, ◌++◌, ◌∙◌, ap, arith, true, refl, ℕ, length, length-append, sym, ◌<◌, get_or, slice_set, subst, append-nil, append_assoc, true≢false, ◌≤◌, Ok, Err, list_any, ◌||◌, if◌then◌else◌, IsErrAnd, with_item}
use Rattle.jn_events.proofs.Turns.{next-first}
use Rattle.jn_report.specs.declared.line.Text.{Text}
use Rattle.jn_world_refines.proofs.Restarts.{came-up-step, restarted-step}
use Rattle.jn_world_refines.specs.Naming.{with_name, names_told}
use Rattle.jn_world_refines.specs.Restarting.{texts_restarted, ComesTo}
use Rattle.std.proofs.Common.{List, drop, Result}
use Rattle.std.proofs.Math.Path.{fun_ext}
use Rattle.jn_place.specs.declared.place.Restarted.TheVariants as came
use Rattle.jn_schedule.specs.declared.Event.TheVariants as events
use Rattle.jn_report.specs.declared.line.Text.TheVariants as says

-- ---- names

any-more : {A : Type 0} (p : A → Bool) (xs ys : List A) → list_any p (xs ++ ys) ≡ (list_any p ys || list_any p xs)
any-more p [] ys = last (list_any p ys)
  where
    last : (a : Bool) → a ≡ (a || false)
    last a = grind arith
any-more p (x ∷ xs) ys = ap (λ (b : Bool). p x || b) (any-more p xs ys) ∙ turn (p x) (list_any p ys) (list_any p xs)
  where
    turn : (a b c : Bool) → (a || (b || c)) ≡ (b || (a || c))
    turn a b c = grind arith

-- the list's names are those of the test, with what these lines name
among-more : (names : List Tid) (texts : List Text) → has_tid (names ++ commits_in texts) ≡ (λ T. has_line T texts || has_tid names T)
among-more names texts = fun_ext (λ T. any-more (λ U. tid_eq U T) names (commits_in texts))

among-one : (names : List Tid) (T : Tid) → has_tid (names ++ T ∷ []) ≡ with_name T (has_tid names)
among-one names T = fun_ext (λ U. any-more (λ V. tid_eq V U) names (T ∷ []) ∙ ap (λ (b : Bool). b || has_tid names U) (last (tid_eq T U)))
  where
    last : (a : Bool) → (a || false) ≡ a
    last a = grind arith

named-as : (Ts names : List Tid) → newly_named Ts names ≡ names_told Ts (has_tid names)
named-as [] names = refl
named-as (T ∷ Ts) names = by (has_tid names T) (named-as Ts names) (named-as Ts (names ++ T ∷ []))
  where
    by : (b : Bool) → newly_named Ts names ≡ names_told Ts (has_tid names) → newly_named Ts (names ++ T ∷ []) ≡ names_told Ts (has_tid (names ++ T ∷ []))
        → (if b then newly_named Ts names else says.Commit T ∷ newly_named Ts (names ++ T ∷ [])) ≡ (if b then names_told Ts (has_tid names) else says.Commit T ∷ names_told Ts (with_name T (has_tid names)))
    by true known new = known
    by false known new = ap (λ (ts : List Text). says.Commit T ∷ ts) (new ∙ ap (λ (f : Tid → Bool). names_told Ts f) (among-one names T))

so-far : (q : ServerNo) (names : List Tid) (r : Restarted) → restart_texts q names r ≡ texts_so_far q (has_tid names) r
so-far q names (came.Up epoch tids) = ap (λ (ts : List Text). says.Up q epoch ∷ ts) (named-as tids.items names)
so-far q names came.Stopped = refl
so-far q names came.UsedUp = refl

commits-so-far : (q : ServerNo) (named : Tid → Bool) (r : Restarted) → commits_in (texts_so_far q named r) ≡ commits_in (texts_restarted q named r)
commits-so-far q named (came.Up epoch tids) = refl
commits-so-far q named came.Stopped = refl
commits-so-far q named came.UsedUp = refl

-- what a restart names
named-standing : {S : Type 0} (a b : World S) (q : ServerNo) (r : Restarted) → b ≡ record a { named = b.named } → b.named.names.items ≡ a.named.names.items ++ commits_in (restart_texts q a.named.names.items r)
    → standing_of b ≡ with_named (texts_restarted q (standing_of a).named r) (standing_of a)
named-standing {S} a b q r e names =
    ap (λ (w : World S). standing_of w) e
    ∙ ap (λ (ns : List Tid). record (standing_of a) { named = has_tid ns; commits = length ns })
    (names ∙ ap (λ (ns : List Tid). a.named.names.items ++ ns) (ap commits_in (so-far q a.named.names.items r) ∙ commits-so-far q (has_tid a.named.names.items) r))
    ∙ ap (λ (f : Tid → Bool). record (standing_of a) { named = f; commits = length (a.named.names.items ++ commits_in texts) }) (among-more a.named.names.items texts)
    ∙ ap (λ (n : ℕ). record (standing_of a) { named = λ T. has_line T texts || has_tid a.named.names.items T; commits = n }) (length-append a.named.names.items (commits_in texts))
  where
    texts : List Text
    texts = texts_restarted q (has_tid a.named.names.items) r

pub same-place : {S : Type 0} (p q : Place S) → q.counts ≡ p.counts → record p { slot = q.slot } ≡ q
same-place p q e = ap (λ (c : _). record q { counts = c }) (sym e)

module _ {S : Type 0} (look : S → StoreView) (device : S → DeviceState) where
  pub brought : (w b : World S) (q : ServerNo) (i : ℕ) (p p' : Place S) (when : When) (r : Restarted) (is : Bool) (lines now later : List Line) → i ≡ q.0 → q.0 < length w.places.items → p ≡ get_or w.places.items i p → p'.counts ≡ p.counts
      → HasCounts look q (counts_by p.counts) p'.slot → IsRestart look device q (counts_by p.counts) when p.slot r p'.slot lines now
      → b ≡ record (record w { places = with_item w.places i p' }) { named = b.named } → b.named.names.items ≡ w.named.names.items ++ commits_in (restart_texts q w.named.names.items r)
      → later ≡ now ++ lines_at when (restart_texts q w.named.names.items r) → is ≡ has_come r
      → BroughtUp look device q when (standing_of w) is (standing_of b) lines later
  brought w b q i p p' when r is lines now later at within read same counts restart others names told e = record {
    place = p;
    at = place-got w.places.items q i p at within read;
    restarted = r;
    slot = p'.slot;
    now = now;
    restart = restart;
    counts = counts;
    here = named-standing (record w { places = with_item w.places i p' }) b q r others names
        ∙ ap (λ (k : ℕ). with_named (texts_restarted q (has_tid w.named.names.items) r) (record (standing_of w) { places = slice_set w.places.items k p' })) at
        ∙ ap (λ (x : Place S). with_named (texts_restarted q (has_tid w.named.names.items) r) (record (standing_of w) { places = slice_set w.places.items q.0 x })) (sym (same-place p p' same));
    told = told ∙ ap (λ (ts : List Text). now ++ lines_at when ts) (so-far q w.named.names.items r);
    came_is = e;
  }

  restart-behind : (q : ServerNo) (g : Counts) (when at : When) (before after : Slot S) (r : Restarted) (lines now : List Line) → at ≡ when → IsRestart look device q g when before r after [] now → IsRestart look device q g at before r after lines (lines ++ now)
  restart-behind q g when at before after r lines now is h = subst (λ (t : When). IsRestart look device q g t before r after lines (lines ++ now)) (sym is) (record { told = h.told; came = h.came; lines_are = ap (λ (l : List Line). lines ++ l) h.lines_are })

  -- its lines, behind others
  told-behind : (q : ServerNo) (named : Tid → Bool) (when at : When) (r : Restarted) (is : Bool) (first now told : List Line) → at ≡ when → is ≡ has_come r → told ≡ now ++ lines_at when (texts_so_far q named r)
      → first ++ (told ++ left_to_tell when is) ≡ (first ++ now) ++ lines_at at (texts_restarted q named r)
  told-behind q named when at r is first now told same e h =
      ap (λ (l : List Line). first ++ (l ++ left_to_tell when is)) h
      ∙ ap (λ (l : List Line). first ++ l) (append_assoc now (lines_at when (texts_so_far q named r)) (left_to_tell when is) ∙ ap (λ (l : List Line). now ++ l) (by r e))
      ∙ sym (append_assoc first now (lines_at when (texts_restarted q named r)))
      ∙ ap (λ (t : When). (first ++ now) ++ lines_at t (texts_restarted q named r)) (sym same)
    where
      up : (b : Bool) (texts : List Text) → b ≡ true → lines_at when texts ++ left_to_tell when b ≡ lines_at when texts
      up true texts e = append-nil (lines_at when texts)
      up false texts e = absurd (true≢false (sym e))

      used : (b : Bool) → b ≡ false → left_to_tell when b ≡ lines_at when (says.RefusedEvent EpochsUsedUp ∷ [])
      used true e = absurd (true≢false e)
      used false e = refl

      by : (r : Restarted) → is ≡ has_come r → lines_at when (texts_so_far q named r) ++ left_to_tell when is ≡ lines_at when (texts_restarted q named r)
      by (came.Up epoch tids) e = up is (says.Up q epoch ∷ names_told tids.items named) e
      by came.Stopped e = up is (says.Stopped q ∷ []) e
      by came.UsedUp e = used is e

  came-went : (q : ServerNo) (w v : Standing S) (x : Setup) (m : Moment) (r : Restarted) (lines later : List Line) → true ≡ has_come r → ComesTo look device x m q w r v lines later → length v.net.sent ≤ 1000000
      → WentOn look device x m (drop 1 m.state.tasks) (with_named (texts_restarted q w.named r) v) lines later
  came-went q w v x m (came.Up epoch tids) lines later e step few = step.done few
  came-went q w v x m came.Stopped lines later e step few = step.done few
  came-went q w v x m came.UsedUp lines later e step few = absurd (true≢false e)

  came-cut : (q : ServerNo) (w v : Standing S) (x : Setup) (m : Moment) (r : Restarted) (lines later : List Line) → false ≡ has_come r → ComesTo look device x m q w r v lines later → WasCut x m (NoEpochLeft q) lines lines
  came-cut q w v x m (came.Up epoch tids) lines later e step = absurd (true≢false (sym e))
  came-cut q w v x m came.Stopped lines later e step = absurd (true≢false (sym e))
  came-cut q w v x m came.UsedUp lines later e step = step

  module _ (seen : (s : S) → look s ≡ pairs_view (device s)) (q : ServerNo) (when : When) (w w' : Standing S) (first told : List Line) where
    abbrev moved : {is : Bool} → BroughtUp look device q when w is w' [] told → Standing S
    moved b = record w { places = slice_set w.places q.0 (record b.place { slot = b.slot }) }

    -- at the start and the end
    comes : {is : Bool} (b : BroughtUp look device q when w is w' [] told) (x : Setup) (m : Moment) (rest : List Task) → Stands look device x w m → m.state.tasks ≡ ComesUp q ∷ rest → is_going m.state.stage ≡ true → when_of m.state ≡ when
        → ComesTo look device x m q w b.restarted (moved b) first ((first ++ b.now) ++ lines_at (when_of m.state) (texts_restarted q w.named b.restarted))
    comes b x m rest stands tasks going is =
        came-up-step look device seen x w m stands q b.place b.at (next-first m.state (ComesUp q) rest tasks going) first (first ++ b.now) ((first ++ b.now) ++ lines_at (when_of m.state) (texts_restarted q w.named b.restarted))
        b.restarted b.slot (restart-behind q (counts_by b.place.counts) when (when_of m.state) b.place.slot b.slot b.restarted first b.now is b.restart) b.counts refl

    pub up-came : {A : Type 0} (a : A) → BroughtUp look device q when w true w' [] told → length w.net.sent ≤ 1000000 → DoesTasks look device (λ x. ComesUp q ∷ []) when w (Ok a) w' first (first ++ told)
    up-came a b few x m rest stands tasks going is =
        subst (λ (ts : List Task). WentOn look device x m ts w' first (first ++ told)) (ap (λ (ts : List Task). drop 1 ts) tasks)
        (subst (λ (u : Standing S). WentOn look device x m (drop 1 m.state.tasks) u first (first ++ told)) (sym b.here)
        (subst (λ (l : List Line). WentOn look device x m (drop 1 m.state.tasks) (with_named (texts_restarted q w.named b.restarted) (moved b)) first l)
        (sym (ap (λ (l : List Line). first ++ l) (sym (append-nil told)) ∙ told-behind q w.named when (when_of m.state) b.restarted true first b.now told is b.came_is b.told))
        (came-went q w (moved b) x m b.restarted first ((first ++ b.now) ++ lines_at (when_of m.state) (texts_restarted q w.named b.restarted)) b.came_is (comes b x m rest stands tasks going is) few)))

    pub up-cut : (A : Type 0) (u : Standing S) → BroughtUp look device q when w false w' [] told → DoesTasks {S = S} {A = A} look device (λ x. ComesUp q ∷ []) when w (Err (Epoch q)) u first first
    up-cut A u b x m rest stands tasks going is =
        came-cut q w (moved b) x m b.restarted first ((first ++ b.now) ++ lines_at (when_of m.state) (texts_restarted q w.named b.restarted)) b.came_is (comes b x m rest stands tasks going is)

    -- by an event
    pub restarts-does : {A : Type 0} (a : A) (is : Bool) (all : List Line) → BroughtUp look device q when w is w' [] told → all ≡ told ++ left_to_tell when is → length w.net.sent ≤ 1000000 → DoesEvent look device (events.Restart q) when w (Ok a) w' first (first ++ all)
    restarts-does a is all b e few x m more stands next at =
        let step = restarted-step look device seen x w m stands q b.place b.at more next first (first ++ b.now) ((first ++ b.now) ++ lines_at (when_of m.state) (texts_restarted q w.named b.restarted))
        b.restarted b.slot (restart-behind q (counts_by b.place.counts) when (when_of m.state) b.place.slot b.slot b.restarted first b.now at b.restart) b.counts refl in
        subst (λ (u : Standing S). WentOn look device x m (more ++ drop 1 m.state.tasks) u first (first ++ all)) (sym b.here)
        (subst (λ (l : List Line). WentOn look device x m (more ++ drop 1 m.state.tasks) (with_named (texts_restarted q w.named b.restarted) (moved b)) first l)
        (sym (ap (λ (l : List Line). first ++ l) e ∙ told-behind q w.named when (when_of m.state) b.restarted is first b.now told at b.came_is b.told))
        (step.done few))

-- an error that is want of memory, handed on
pub memory-on : {B : Type 0} (r : Result B Ended) (e : Ended) → IsErrAnd r (λ f. f ≡ e) → e ≡ Memory → IsErrAnd r (λ f. f ≡ Memory)
memory-on {B} r e which is = subst (λ (m : Ended). IsErrAnd r (λ f. f ≡ m)) is which
