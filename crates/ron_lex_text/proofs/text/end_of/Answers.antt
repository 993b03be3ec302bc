use Rattle.std.proofs.Common.{◌++◌, chars, sym, ◌∙◌}
use Rattle.std.proofs.lemmas.List.{append_cancel_left}
use Rattle.ron_spec_words.proofs.Direct.{begins-append}
use Rattle.ron_lex_text.proofs.StretchLemmas.{end_of_joined, end_of_before, before_both}
use Rattle.ron_lex_text.proofs.text.end_of.Goals as goal

pub before-requires : goal.before-requires
before-requires c = end_of_joined _ _ _ c.requires

pub before-requires-2 : goal.before-requires-2
before-requires-2 c = end_of_before _ _ _ _ c.requires c.before-2.ensures

pub behind-requires : goal.behind-requires
behind-requires c =
    let start = chars c.before-3.result.now in
    rw (before_both (chars c.args.front.now) (chars c.args.rest.now) _ _ start c.before-2.ensures c.before-3.ensures)
    (begins-append start (chars c.args.front.now ++ chars c.args.rest.now))

pub returns : goal.returns
returns c =
    let start = chars c.before-3.result.now in
    append_cancel_left start _ _
    (sym c.behind.ensures ∙ before_both (chars c.args.front.now) (chars c.args.rest.now) _ _ start c.before-2.ensures c.before-3.ensures)
