use Rattle.std.proofs.Common.{chars, sym, ap, ◌∙◌}
use Rattle.std.proofs.lemmas.Bool.{ne_eqb}
use Rattle.ron_spec_words.specs.Gap.{after_block}
use Rattle.ron_lex.proofs.GapLemmas.{mark_opens, mark_closes, star_alone, slash_alone, to_mark, slash_stands}
use Rattle.ron_lex.proofs.gap.split_mark.Goals as goal

pub returns-in_default-clause-value : goal.returns-in_default-clause-value
returns-in_default-clause-value c n = to_mark n _ _ c.next_mark.ensures.value ∙ ap (after_block n) c.in_default.ensures.chars

pub returns-in-Some-strip_mark-clause-value : goal.returns-in-Some-strip_mark-clause-value
returns-in-Some-strip_mark-clause-value c n =
    to_mark n _ _ c.next_mark.ensures.value
    ∙ rw (c.in-Some.ensures.chars, c.if-first-eq42.true, c.in-Some-strip_mark.ensures.chars) (mark_closes n (chars c.in-Some-strip_mark.rest.now))

pub returns-in-None-clause-value : goal.returns-in-None-clause-value
returns-in-None-clause-value c n =
    to_mark n _ _ c.next_mark.ensures.value
    ∙ rw (c.in-Some.ensures.chars, c.if-first-eq42.true) (star_alone n (chars c.in-Some.after.now) c.in-None.ensures.chars)

pub returns-in-Some-strip_mark-2-clause-value : goal.returns-in-Some-strip_mark-2-clause-value
returns-in-Some-strip_mark-2-clause-value c n =
    let mark = c.next_mark.ensures.value in
    let slash = slash_stands (chars c.args.text.now) _ _ (sym mark ∙ c.in-Some.ensures.chars) (ne_eqb _ _ c.if-first-eq42.false) in
    to_mark n _ _ mark ∙ rw (c.in-Some.ensures.chars, slash, c.in-Some-strip_mark-2.ensures.chars) (mark_opens n (chars c.in-Some-strip_mark-2.rest.now))

pub returns-in-None-strip_mark-clause-value : goal.returns-in-None-strip_mark-clause-value
returns-in-None-strip_mark-clause-value c n =
    let mark = c.next_mark.ensures.value in
    let slash = slash_stands (chars c.args.text.now) _ _ (sym mark ∙ c.in-Some.ensures.chars) (ne_eqb _ _ c.if-first-eq42.false) in
    to_mark n _ _ mark ∙ rw (c.in-Some.ensures.chars, slash) (slash_alone n (chars c.in-Some.after.now) c.in-None-strip_mark.ensures.chars)
