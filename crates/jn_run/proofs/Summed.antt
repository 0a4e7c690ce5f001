-- A run that a summary is told.
use Rattle.jn_run.proofs.Common.{◌≡◌, ◌∙◌, inl, inr, ℕ, ◌≤◌, List, [], length, Option, Result, Ok, Err, Vec, sym, ap, subst, true≢false, arith, is_ok, Global, AllByRecursion, DeviceState, Contents, Rose, PageCounts, Line, Event, EventInRange, Moment, trial_options, IsCutShort, IsWholeReport, RanTrial, TrialToLimit, course_of, RunsFrom, RunFault}
use Rattle.jn_gen.specs.Trial.{events_from}
use Rattle.jn_gen.proofs.Drawing.{events_count, events_in_range}
use Rattle.jn_options.specs.declared.asked.Trial.{Trial}
use Rattle.jn_summary.specs.Summary.{summary_text}
use Rattle.jn_summary.specs.Summing.{sums_up}
use Rattle.jn_summary.specs.Taken.{HasTaken}
use Rattle.jn_summary.specs.declared.summary.Summary.{Summary}
use Rattle.jn_run.specs.Trial.{SumsUp}
use Rattle.jn_run.specs.declared.running.RunFault.TheVariants as runs
use Rattle.jn_run.proofs.Opened.{Opened}
use Rattle.jn_run.proofs.Outcomes.{whole-holds, limit-holds}
use Rattle.jn_run.proofs.Told.{fault-is, some-ok}

pub drawn-few : (trial : Trial) (events : List Event) → events ≡ events_from trial.seed trial.events → trial.events ≤ 100000 → length events ≤ 100000
drawn-few trial events same few = let count = ap (λ (es : List Event). length es) same in let drawn = events_count trial.seed trial.events in omega (arith, count, drawn, few)

pub drawn-range : (trial : Trial) (events : List Event) → events ≡ events_from trial.seed trial.events → AllByRecursion EventInRange events
drawn-range trial events same = subst (λ (es : List Event). AllByRecursion EventInRange es) (sym same) (events_in_range trial.seed trial.events)

never-rises : Rose 0 0 → ⊥
never-rises (inl less) = omega (arith, less)
never-rises (inr last) = omega (arith, last)

module _ {S A : Type 0} (device : S → DeviceState) (trial : Trial) (kept : Option Contents) (stores : List (S × PageCounts)) (b : Opened device trial_options kept stores) (events : List Event) (same : events ≡ events_from trial.seed trial.events)
    (Gives : A → Moment → Type 0) (answer : Result A RunFault) (summary summary' : Summary) (ran : RunsFrom sums_up (course_of b.opens.setup events b.opens.images summary) Gives answer summary') where
  two : trial_options.servers ≤ 8
  two = omega arith

  range : AllByRecursion EventInRange events
  range = drawn-range trial events same

  -- its line is that of a whole run
  pub line-told : (a : A) → answer ≡ Ok a → HasTaken summary [] → (line : List ℕ) → ((lines : List Line) → HasTaken summary' lines → line ≡ summary_text trial.seed trial.events lines) → RanTrial trial kept (λ text. line ≡ text)
  line-told a is new line told =
      let w = ran.whole a is in
      record {
        lines = w.lines;
        whole = subst (λ (es : List Event). IsWholeReport trial_options kept es w.lines) same (whole-holds device trial_options kept stores b two events range w.closing w.lines w.whole);
        told = told w.lines (w.took [] new);
      }

  pub limit-told : answer ≡ Err runs.Limit → TrialToLimit trial kept
  limit-told is =
      let l = ran.limit is in
      record { lines = l.lines; cut = subst (λ (es : List Event). IsCutShort trial_options kept es l.lines) same (limit-holds device trial_options kept stores b two events range l.lines l.limited) }

  pub no-write : answer ≡ Err runs.Write → ⊥
  no-write is = never-rises (ran.rose is)

  -- the line of a run that was done
  pub sum-told : (a : A) → answer ≡ Ok a → HasTaken summary [] → (v : Vec ℕ Global) → ((lines : List Line) → HasTaken summary' lines → v.items ≡ summary_text trial.seed trial.events lines) → SumsUp trial kept (Ok v)
  sum-told a is new v told = record {
    line = λ w same. subst (λ (u : Vec ℕ Global). RanTrial trial kept (λ text. u.items ≡ text)) (some-ok v w same) (line-told a is new v.items told);
    limit = λ limit. absurd (true≢false (ap is_ok limit));
    no_write = λ write. absurd (true≢false (ap is_ok write));
  }

  -- why there is none
  pub fault-told : (s : Result (Vec ℕ Global) RunFault) (e : RunFault) → answer ≡ Err e → s ≡ Err e → SumsUp trial kept s
  fault-told s e is same = record {
    line = λ v ok. absurd (true≢false (sym (ap is_ok ok) ∙ ap is_ok same));
    limit = λ limit. limit-told (is ∙ ap (λ x. Err x) (fault-is s e same runs.Limit limit));
    no_write = λ write. no-write (is ∙ ap (λ x. Err x) (fault-is s e same runs.Write write));
  }

-- what the sink took of that line
pub written-so : (trial : Trial) (kept : Option Contents) (TookOf : List ℕ → Type 0) (line : List ℕ) → RanTrial trial kept (λ text. line ≡ text) → TookOf line → RanTrial trial kept TookOf
written-so trial kept TookOf line ran took = record { lines = ran.lines; whole = ran.whole; told = subst TookOf ran.told took }
