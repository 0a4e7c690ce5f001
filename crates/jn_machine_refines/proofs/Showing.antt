-- A show goes over what there is to print, or is stopped.
use Rattle.jn_machine_refines.proofs.Common.{◌≡◌, true, List, [], ◌∷◌, ◌++◌, append_assoc, map, Option, Some, None, refl, sym, subst, ServerNo, Outside, Pick, World, StopWork, after, Act, Does, Tells, Shows, told_by, GoesOver, IsShow, IsPrinted, Chance, prints_found, no_room, stopped_idle, showing, IsLookedOver, Counts, Left, whole_only}
use Rattle.jn_report.specs.declared.line.Text.TheVariants as says
use Rattle.jn_machine_refines.proofs.Strikes.{same-server}
use Rattle.jn_machine_refines.proofs.Acts.{all_done, shown_acts, acts_of, grown-own}
use Rattle.jn_machine_refines.proofs.Turns.{idle-turns}

over-told : (q : ServerNo) (w : World) (told : List Outside) (rest : List Act) → GoesOver q w rest → GoesOver q w (map (λ (fault : Outside). Tells q fault) told ++ rest)
over-told q w [] rest h = h
over-told q w (fault ∷ told) rest h = over-told q w told rest h

is-show : (q : ServerNo) (w : World) (told : List Outside) (rest : List Act) → GoesOver q w rest → IsShow q w rest → IsShow q w (map (λ (fault : Outside). Tells q fault) told ++ rest)
is-show q w [] rest h k = k
is-show q w (fault ∷ told) rest h k = over-told q w told rest h

module _ (g : Counts) (q : ServerNo) (w : World) (h : Chance) (d e : _) (looked : IsLookedOver g h w q d e) where
  prints-it : h.stop ≡ None → IsPrinted q w (prints_found h.found)
  prints-it none = record { memory = looked.memory; up = looked.up; prints_are = looked.prints none }

  stop-told : (made : Pick → Left) → told_by (Does (StopWork q (record no_room { rubbish = true }) (λ c. whole_only 0))) w ≡ says.Stopped q ∷ []
  stop-told made = grown-own w (after (StopWork q (record no_room { rubbish = true }) (λ c. whole_only 0)) w) (says.Stopped q ∷ []) (idle-turns w q (same-server q) looked.memory looked.up (Some made)).lines

  pub shown-acts : IsShow q w (acts_of h (showing h q) (shown_acts q (prints_found h.found) h.stop))
  shown-acts = by h.stop refl
    where
      by : (stop : Option (Pick → Left)) → h.stop ≡ stop → IsShow q w (map (λ (fault : Outside). Tells q fault) h.told ++ all_done (stopped_idle q stop) ++ shown_acts q (prints_found h.found) stop)
      by None none = subst (λ (acts : List Act). IsShow q w acts) (sym (append_assoc (map (λ (fault : Outside). Tells q fault) h.told) [] (Shows q _ ∷ []))) (is-show q w h.told (Shows q _ ∷ []) (prints-it none) (prints-it none))
      by (Some made) stopped = subst (λ (acts : List Act). IsShow q w acts) (sym (append_assoc (map (λ (fault : Outside). Tells q fault) h.told) (Does _ ∷ []) [])) (is-show q w h.told (Does _ ∷ []) (stop-told made) (stop-told made))
