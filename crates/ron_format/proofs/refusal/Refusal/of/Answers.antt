use Rattle.std.proofs.Common.{chars}
use Rattle.ron_lex_text.proofs.StretchLemmas.{end_of_end}
use Rattle.ron_lex.proofs.PlaceLemmas.{not_after}
use Rattle.ron_format.proofs.refusal.Refusal.of.Goals as goal

pub place_of-end-requires : goal.place_of-end-requires
place_of-end-requires c = end_of_end _ _ _ c.requires.end c.requires.start

pub returns-clause-place : goal.returns-clause-place
returns-clause-place c = record {
  ordered = not_after _ _ _ _ _ c.place_of-start.ensures c.place_of-end.ensures c.requires.end;
  start = (chars c.args.rest.now, c.place_of-start.ensures);
  end = (chars c.args.after.now, c.place_of-end.ensures);
}
