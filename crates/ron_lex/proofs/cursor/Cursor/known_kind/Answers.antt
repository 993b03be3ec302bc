use Rattle.ron_lex_text.proofs.StretchLemmas.{end_of_end}
use Rattle.ron_lex.proofs.KindLemmas.{known_at, known_kind_at, known_there}
use Rattle.ron_lex.proofs.cursor.Cursor.known_kind.Goals as goal

pub bytes_before-place-requires : goal.bytes_before-place-requires
bytes_before-place-requires c = end_of_end _ _ _ c.self.invariant.1 c.self.invariant.0

pub returns-clause-value : goal.returns-clause-value
returns-clause-value c = rw (← c.self.view_is) (known_at _ _ c.self.inside.kinds c.in-Filled.kinds _ _ c.in-Filled.is c.self.invariant.4
    (end_of_end _ _ _ c.self.invariant.1 c.self.invariant.0) c.bytes_before-place.ensures c.at.ensures.value)

pub returns-clause-exact : goal.returns-clause-exact
returns-clause-exact c = rw (← c.self.view_is) (known_kind_at _ _ c.self.inside.kinds c.in-Filled.kinds _ _ c.in-Filled.is c.self.invariant.4
    (end_of_end _ _ _ c.self.invariant.1 c.self.invariant.0) c.bytes_before-place.ensures c.at.ensures.value)

pub returns-clause-known : goal.returns-clause-known
returns-clause-known c = rw (← c.self.view_is)
    (λ h. known_there _ _ c.self.inside.kinds c.in-Filled.kinds _ _ c.in-Filled.is c.self.invariant.4 c.bytes_before-place.ensures h c.at.ensures.value)
