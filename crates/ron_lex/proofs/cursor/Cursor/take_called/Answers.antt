use Rattle.std.proofs.Common.{[], ◌∷◌, sym, ◌∙◌}
use Rattle.ron_spec_words.specs.Characters.{colon}
use Rattle.ron_lex_text.proofs.StretchLemmas.{end_of_joined}
use Rattle.ron_lex.proofs.CalledLemmas.{called_name, parting_look}
use Rattle.ron_lex.proofs.TurnLemmas.{look_nothing}
use Rattle.ron_lex.proofs.cursor.Cursor.take_called.Goals as goal

pub pass_to-requires : goal.pass_to-requires
pass_to-requires c = rw (← c.self.view_is) (end_of_joined (colon ∷ []) _ _ (record { front = _; is = c.in-Ok.ensures.value }))

pub look_to-requires : goal.look_to-requires
look_to-requires c = rw (← c.self.view_is) (parting_look _ _ _ c.in-Err.ensures.end)

pub returns-then-not-is_at_class-clause-turns : goal.returns-then-not-is_at_class-clause-turns
returns-then-not-is_at_class-clause-turns c = look_nothing c.args.self.now

pub returns-in-Ok-clause-value : goal.returns-in-Ok-clause-value
returns-in-Ok-clause-value c = rw (c.pass_to.ensures.rest, ← c.self.view_is)
    (called_name _ _ _ (sym c.is_at_class.ensures ∙ c.if-not-is_at_class.false) c.in-Ok.ensures.stands c.in-Ok.ensures.value)
