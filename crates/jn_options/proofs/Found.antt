-- What `clap` found for an option, as its first value.
use Rattle.jn_options.proofs.Common.{◌≡◌, ◌∙◌, ap, sym, refl, Option, Some, None, is_some, option_map, Text, first_of, first_value, rows_of}
use Rattle.std.specs.Borrow.{Bor}
use Rattle.clap.specs.declared.parser.matches.Found.{Found}
use Rattle.clap.proofs.WalkLemmas.{first_value-rows}

pub text_found : (found : Found) (name : Text) (o : Option (Bor Text)) (text : Bor Text) → o ≡ Some text
    → option_map (λ s. s.now) o ≡ first_value found name → Some text.now ≡ first_of name (rows_of found)
text_found found name o text is gives = sym (ap (option_map (λ (s : Bor Text). s.now)) is) ∙ gives ∙ first_value-rows found name

pub none_found : (found : Found) (name : Text) (o : Option (Bor Text)) → o ≡ None
    → option_map (λ s. s.now) o ≡ first_value found name → None ≡ first_of name (rows_of found)
none_found found name o is gives = sym (ap (option_map (λ (s : Bor Text). s.now)) is) ∙ gives ∙ first_value-rows found name

pub if_found : (found : Found) (name : Text) (o : Option (Bor Text))
    → option_map (λ s. s.now) o ≡ first_value found name → is_some o ≡ is_some (first_of name (rows_of found))
if_found found name o gives = same o ∙ ap is_some (gives ∙ first_value-rows found name)
  where
    same : (p : Option (Bor Text)) → is_some p ≡ is_some (option_map (λ s. s.now) p)
    same None = refl
    same (Some text) = refl
