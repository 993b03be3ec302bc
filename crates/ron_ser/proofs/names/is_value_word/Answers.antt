use Rattle.std.proofs.Common.{chars, codes, refl, sym, ◌∙◌}
use Rattle.ron_spec_words.specs.Name.{value_words}
use Rattle.ron_ser.proofs.NameLemmas.{ascii_chars, begins_none, short_none}
use Rattle.ron_ser.proofs.names.is_value_word.Goals as goal

pub returns : goal.returns
returns c =
    c.is_among.ensures
    ∙ rw (
      ascii_chars (codes "true") refl,
      ascii_chars (codes "false") refl,
      ascii_chars (codes "Some") refl,
      ascii_chars (codes "None") refl,
      ascii_chars (codes "inf") refl,
      ascii_chars (codes "inff32") refl,
      ascii_chars (codes "inff64") refl,
      ascii_chars (codes "NaN") refl,
      ascii_chars (codes "NaNf32") refl,
      ascii_chars (codes "NaNf64") refl,
    ) refl

pub returns-then-not-begins_value_word : goal.returns-then-not-begins_value_word
returns-then-not-begins_value_word c =
    rw c.in-Some.ensures.chars (sym (begins_none c.in-Some.first (chars c.in-Some.field-0-1.now) value_words (sym c.if-not-begins_value_word.ensures)))

pub returns-then-name-lt3 : goal.returns-then-name-lt3
returns-then-name-lt3 c = sym (short_none c.args.name.now value_words c.utf8.name c.if-name-lt3.true refl)
