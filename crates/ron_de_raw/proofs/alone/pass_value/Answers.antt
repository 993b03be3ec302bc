use Rattle.std.proofs.Common.{Ok, subst}
use Rattle.ron_spec_words.specs.Characters.{Text}
use Rattle.ron_value.specs.View.{tree_of}
use Rattle.ron_lex_text.specs.Stretch.{IsSuffix}
use Rattle.ron_de_raw.proofs.StretchLemmas.{end_within}
use Rattle.ron_de_raw.proofs.AloneLemmas.{alone_in}
use Rattle.ron_de_raw.proofs.alone.pass_value.Goals as goal

pub before-requires : goal.before-requires
before-requires c =
    let a = c.in_ok-read_any.ensures.advance in
    rw (c.rest.ensures.rest, c.rest-start.ensures.rest) (end_within _ _ c.args.cursor.now.text
    (subst (λ (t : Text). IsSuffix c.read_any.new.cursor.rest t) a.text c.rest.ensures.end) c.rest-start.ensures.end a.no_longer)

pub returns-clause-value : goal.returns-clause-value
returns-clause-value c = (
  tree_of c.in_ok-read_any.field-0,
  alone_in _ _ c.args.cursor.now (Ok c.in_ok-read_any.field-0) c.read_any.new.cursor.rest c.new-context.ensures c.empty.ensures c.in_ok-read_any.ensures.value,
)
