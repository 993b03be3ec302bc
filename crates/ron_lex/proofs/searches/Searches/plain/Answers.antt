use Rattle.ron_lex_text.proofs.StretchLemmas.{run_end}
use Rattle.ron_lex.proofs.searches.Searches.plain.Goals as goal

pub pass-requires : goal.pass-requires
pass-requires c = run_end _ _ _ c.skip_to_quote_or_escape-rest.ensures.value
