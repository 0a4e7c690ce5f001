-- Intentions are read again from their bytes.
use Rattle.jn_records.proofs.Common.{◌≡◌, ◌<◌, ◌^◌, ℕ, List, ◌++◌, Some, refl, ap, ◌∙◌, arith, big_bytes, What, Fresh, Gone, Cut, Put, StoredIntention, what_code, what_of, intention_bytes, IntentionFits, intention_at, number_again}

what_again : (w : What) → what_of (what_code w) ≡ Some w
what_again Fresh = refl
what_again Gone = refl
what_again Cut = refl
what_again Put = refl

code_small : (w : What) → what_code w < 256 ^ 1
code_small Fresh = omega arith
code_small Gone = omega arith
code_small Cut = omega arith
code_small Put = omega arith

pub intention_again : (i : StoredIntention) (rest : List ℕ) → IntentionFits i → intention_at (intention_bytes i ++ rest) ≡ Some (i, rest)
unfolding intention_at
intention_again i rest fits =
    let after_address = big_bytes 2 i.map ++ rest in
    let after_block = big_bytes 2 i.address ++ after_address in
    let after_file = big_bytes 2 i.block.0 ++ after_block in
    let after_what = big_bytes 4 i.file.0 ++ after_file in
    let regrouped : intention_bytes i ++ rest ≡ big_bytes 1 (what_code i.what) ++ after_what = refl in
    ap intention_at regrouped ∙ rw (number_again 1 (what_code i.what) after_what (code_small i.what), what_again i.what, number_again 4 i.file.0 after_file fits.file, number_again 2 i.block.0 after_block fits.block, number_again 2 i.address after_address fits.address, number_again 2 i.map rest fits.map) refl
