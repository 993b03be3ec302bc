use Rattle.std.proofs.Common.{◌&&◌, chars, sym, ap, ◌∙◌}
use Rattle.std.specs.List.{list_all}
use Rattle.std.proofs.lemmas.Str.{chars_past_char}
use Rattle.ron_spec_words.specs.Characters.{continues_name}
use Rattle.ron_spec_words.specs.Name.{is_plain_identifier}
use Rattle.ron_base.proofs.name.is_plain_identifier.Goals as goal

pub returns-then-starts_name : goal.returns-then-starts_name
returns-then-starts_name c =
    let name = c.args.name.now in
    let rest = c.next.new.self.rest.now in
    let whole = sym c.chars-rest.ensures.rest ∙ c.in-Some.ensures.steps.0 in
    c.all_continue.ensures ∙ ap (λ t. list_all continues_name (chars t)) c.as_str.ensures ∙ ap (λ b. b && list_all continues_name (chars rest))
    c.if-starts_name.ensures ∙ ap is_plain_identifier (sym (chars_past_char name rest c.in-Some.c c.utf8.name whole))
