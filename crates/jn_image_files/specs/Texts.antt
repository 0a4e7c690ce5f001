-- The line that refuses an image.
use Rattle.std.specs.Prelude.{◌++◌, ℕ, List, [], ◌∷◌, codes, decimal, Option, Some, None}
use Rattle.jn_image.specs.Faults as bad
use Rattle.jn_image.specs.Unsound as unsound
use Rattle.jn_image_files.specs.declared.refusal.Cause.{Cause}
use Rattle.jn_image_files.specs.declared.refusal.Cause.TheVariants.{Missing, Bad, Unsound}
use Rattle.jn_image_files.specs.declared.refusal.Refusal.{Refusal}

abbrev pub argument_text : Option ℕ → List ℕ
argument_text None = []
argument_text (Some n) = codes " " ++ decimal n

abbrev pub cause_text : Cause → List ℕ
cause_text Missing = codes " missing"
cause_text (Bad fault) = codes " bad " ++ decimal (bad.image_fault_number fault)
cause_text (Unsound fault) = codes " unsound " ++ decimal (unsound.reported fault).0 ++ argument_text (unsound.reported fault).1

abbrev pub refusal_text : Refusal → List ℕ
refusal_text r = codes "refused: image " ++ decimal r.server.0 ++ cause_text r.cause ++ 10 ∷ []
