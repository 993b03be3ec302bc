use Rattle.ron_lex_text.proofs.StretchLemmas.{run_end}
use Rattle.ron_lex.proofs.searches.Searches.quote.Goals as goal

pub pass-requires : goal.pass-requires
pass-requires c = run_end _ _ _ c.skip_to_quote-rest.ensures.value
