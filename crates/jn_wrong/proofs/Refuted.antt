-- Reports that aren't those of their commits.
use Rattle.jn_wrong.proofs.Common.{◌≡◌, ℕ, Bool, true, false, List, [], ◌∷◌, refl, sym, ◌∙◌, ap, arith, Option, Some, None, is_some, if◌then◌else◌, slice_get, nat_eq, nat_lt, File, Block, block_of, AllByRecursion, AllFiles, Files, change, effect, answer_to, files_after, is_did, zeros, ServerNo, Event, Line, AreImages, IsNone, begins, makes_one, makes_and_reads, opens_and_loses, answered_too_soon, stopped_by_nothing, fault_of_nothing, lost_without_opening, file_left_out, file_locked, page_unwritten, other_bytes, named_again, full_of, Resource, s0, file, block, Did, Exists, Found, Answer}
use Rattle.jn_base.specs.declared.op.Op.{Op}
use Rattle.jn_base.specs.declared.op.Op.TheVariants as ops
use Rattle.jn_calls.specs.declared.reply.Reply.TheVariants as replies
use Rattle.jn_schedule.specs.Ranges.{EventInRange}
use Rattle.jn_headline.specs.Headline.{IsOfItsCommits}
use Rattle.jn_headline.proofs.Joined.{whole-report}

-- a report that isn't that of its commits, from whatever files
by-clause : (schedule : List Event) (lines : List Line) → AllByRecursion EventInRange schedule → ((files : AllFiles) → IsOfItsCommits files schedule lines → ⊥) → IsNone schedule lines
by-clause schedule lines ranges no' x images closing few h = by (whole-report x schedule images few ranges closing lines h)
  where
    by : (files : AllFiles) × (epochs : ServerNo → ℕ) × AreImages x files epochs images × IsOfItsCommits files schedule lines → ⊥
    by (files, epochs, are, is) = no' files is

clash : false ≡ true → ⊥
clash e = cc

-- what an operation was replied is its answer
answered : {a b : Answer} → replies.Answered a ≡ replies.Answered b → a ≡ b
answered e = cc

begins-in-range : AllByRecursion EventInRange begins
begins-in-range = grind arith

pub too-soon : IsNone begins answered_too_soon
too-soon = by-clause begins answered_too_soon begins-in-range (λ files r. clash r.so_far.follows.answers.0.fit.0)

pub no-stop : IsNone begins stopped_by_nothing
no-stop = by-clause begins stopped_by_nothing begins-in-range (λ files r. clash r.so_far.caused.1.0)

pub no-fault : IsNone begins fault_of_nothing
no-fault = by-clause begins fault_of_nothing begins-in-range (λ files r. clash r.so_far.caused.1.0)

loses-in-range : AllByRecursion EventInRange opens_and_loses
loses-in-range = grind arith

pub no-loss : IsNone opens_and_loses lost_without_opening
no-loss = by-clause opens_and_loses lost_without_opening loses-in-range (λ files r. clash r.so_far.caused.1.1.1.1.1.0)

-- ---- what files have once one is made

makes-in-range : AllByRecursion EventInRange makes_one
makes-in-range = grind arith

reads-in-range : AllByRecursion EventInRange makes_and_reads
reads-in-range = grind arith

module _ (f : Files) where
  abbrev create : Op
  create = ops.Create (file 7)

  -- it wasn't there
  new : answer_to create f ≡ Did → is_some (f (File (file 7))) ≡ false
  new = by (is_some (f (File (file 7))))
    where
      by : (b : Bool) → (if b then Exists else Did) ≡ Did → b ≡ false
      by true e = absurd (no' e)
        where
          no' : Exists ≡ Did → ⊥
          no' k = cc
      by false e = refl

  after : answer_to create f ≡ Did → files_after create f ≡ change (effect create) f
  after e = ap (λ (b : Bool). if is_did (if b then Exists else Did) then change (effect create) f else f) (new e)

  is-there : answer_to create f ≡ Did → files_after create f (File (file 7)) ≡ None → ⊥
  is-there e k = clash (sym (ap is_some (sym (ap (λ (g : Files). g (File (file 7))) (after e)) ∙ k)))

  not-stored : answer_to create f ≡ Did → files_after create f (Block (file 7) (block 0)) ≡ None
  not-stored e = ap (λ (g : Files). g (Block (file 7) (block 0))) (after e)

  read-new : answer_to create f ≡ Did → answer_to (ops.Read (file 7) (block 0)) (files_after create f) ≡ Found zeros
  read-new e = ap (answer_to (ops.Read (file 7) (block 0))) (after e)

pub left-out : IsNone makes_one file_left_out
left-out = by-clause makes_one file_left_out makes-in-range (λ files r. is-there (files s0) (answered r.so_far.agrees.0.0) ((r.at_end.all s0).no_other_file (file 7) refl))

pub as-locked : IsNone makes_one file_locked
as-locked = by-clause makes_one file_locked makes-in-range (λ files r. clash (sym r.at_end.unlocked))

pub unwritten : IsNone makes_one page_unwritten
unwritten = by-clause makes_one page_unwritten makes-in-range (λ files r. no' (sym (not-stored (files s0) (answered r.so_far.agrees.0.0)) ∙ (r.at_end.all s0).printed.1.1.1.0))
  where
    no' : None ≡ Some (block_of (104 ∷ [])) → ⊥
    no' z = cc

is_zero : Option ℕ → Bool
is_zero None = true
is_zero (Some n) = nat_eq n 0

zeros-first : is_zero (slice_get zeros 0) ≡ true
unfolding zeros is_zero
zeros-first = refl

other-first : is_zero (slice_get (block_of (104 ∷ [])) 0) ≡ false
unfolding block_of is_zero
other-first = refl

differ : zeros ≡ block_of (104 ∷ []) → ⊥
differ e = clash (sym other-first ∙ ap (λ (bytes : List ℕ). is_zero (slice_get bytes 0)) (sym e) ∙ zeros-first)

pub bytes : IsNone makes_and_reads other_bytes
bytes = by-clause makes_and_reads other_bytes reads-in-range (λ files r. differ (same (sym (read-new (files s0) (answered r.so_far.agrees.0.0)) ∙ answered r.so_far.agrees.0.1.0)))
  where
    same : {a b : List ℕ} → Found a ≡ Found b → a ≡ b
    same e = cc

pub again : IsNone makes_one named_again
again = by-clause makes_one named_again makes-in-range (λ files r. clash (sym r.so_far.told.once.0))

pub not-full : (resource : Resource) (free need : ℕ) → nat_lt free need ≡ false → IsNone makes_one (full_of resource free need)
not-full resource free need e = by-clause makes_one (full_of resource free need) makes-in-range (λ files r. clash (sym e ∙ r.so_far.caused.1.1.1.1.0))
