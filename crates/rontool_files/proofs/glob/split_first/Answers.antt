use Rattle.std.proofs.Common.{sym, ap, ◌∙◌, ◌++◌}
use Rattle.std.specs.Char.{encode_utf8}
use Rattle.std.proofs.lemmas.Str.{chars_past_char}
use Rattle.rontool_files.proofs.glob.split_first.Goals as goal

pub returns : goal.returns
returns c =
    chars_past_char _ _ _ c.utf8.text
    (sym c.chars-characters.ensures.rest ∙ c.in_ok-first.ensures.steps.0 ∙ ap (λ x. encode_utf8 c.in_ok-first.first ++ x) (sym c.as_str.ensures))
