use Rattle.std.proofs.Common.{◌≡◌, true, false, chars, sym, ◌∙◌}
use Rattle.ron_spec_words.specs.Directly.{stands}
use Rattle.ron_spec_words.specs.Number.{i8, i16, i32, i64, i128, u8, u16, u32, u64, u128, suffix_word}
use Rattle.ron_lex_text.proofs.StretchLemmas.{literals}
use Rattle.ron_lex.proofs.WordLemmas.{suffix_there, no_suffix_there, no_suffix_begins, each_suffix}
use Rattle.ron_lex.proofs.numeral.split_suffix.Goals as goal
use Rattle.ron_lex.proofs.numeral.split_suffix.Goals.{then-is_at, else-is_at}

pub returns-in-Some-clause-value : goal.returns-in-Some-clause-value
unfolding literals
returns-in-Some-clause-value c = suffix_there i8 _ _ c.in-Some.ensures.joined c.in-Some.ensures.stands

pub returns-in-Some-strip_word-clause-value : goal.returns-in-Some-strip_word-clause-value
unfolding literals
returns-in-Some-strip_word-clause-value c = suffix_there i16 _ _ c.in-Some-strip_word.ensures.joined c.in-Some-strip_word.ensures.stands

pub returns-in-Some-strip_word-2-clause-value : goal.returns-in-Some-strip_word-2-clause-value
unfolding literals
returns-in-Some-strip_word-2-clause-value c = suffix_there i32 _ _ c.in-Some-strip_word-2.ensures.joined c.in-Some-strip_word-2.ensures.stands

pub returns-in-Some-strip_word-3-clause-value : goal.returns-in-Some-strip_word-3-clause-value
unfolding literals
returns-in-Some-strip_word-3-clause-value c = suffix_there i64 _ _ c.in-Some-strip_word-3.ensures.joined c.in-Some-strip_word-3.ensures.stands

pub returns-in-Some-strip_word-4-clause-value : goal.returns-in-Some-strip_word-4-clause-value
unfolding literals
returns-in-Some-strip_word-4-clause-value c = suffix_there i128 _ _ c.in-Some-strip_word-4.ensures.joined c.in-Some-strip_word-4.ensures.stands

pub returns-in-Some-strip_word-5-clause-value : goal.returns-in-Some-strip_word-5-clause-value
unfolding literals
returns-in-Some-strip_word-5-clause-value c = suffix_there u8 _ _ c.in-Some-strip_word-5.ensures.joined c.in-Some-strip_word-5.ensures.stands

pub returns-in-Some-strip_word-6-clause-value : goal.returns-in-Some-strip_word-6-clause-value
unfolding literals
returns-in-Some-strip_word-6-clause-value c = suffix_there u16 _ _ c.in-Some-strip_word-6.ensures.joined c.in-Some-strip_word-6.ensures.stands

pub returns-in-Some-strip_word-7-clause-value : goal.returns-in-Some-strip_word-7-clause-value
unfolding literals
returns-in-Some-strip_word-7-clause-value c = suffix_there u32 _ _ c.in-Some-strip_word-7.ensures.joined c.in-Some-strip_word-7.ensures.stands

pub returns-in-Some-strip_word-8-clause-value : goal.returns-in-Some-strip_word-8-clause-value
unfolding literals
returns-in-Some-strip_word-8-clause-value c = suffix_there u64 _ _ c.in-Some-strip_word-8.ensures.joined c.in-Some-strip_word-8.ensures.stands

pub returns-in-Some-strip_word-9-clause-value : goal.returns-in-Some-strip_word-9-clause-value
unfolding literals
returns-in-Some-strip_word-9-clause-value c = suffix_there u128 _ _ c.in-Some-strip_word-9.ensures.joined c.in-Some-strip_word-9.ensures.stands

pub returns-clause-value : goal.returns-clause-value
unfolding literals
returns-clause-value c =
    no_suffix_there (chars c.args.text.now) (each_suffix (λ x. stands (suffix_word x) (chars c.args.text.now) ≡ false) c.in_default.ensures.stands
    c.in_default-strip_word.ensures.stands c.in_default-strip_word-2.ensures.stands c.in_default-strip_word-3.ensures.stands
    c.in_default-strip_word-4.ensures.stands c.in_default-strip_word-5.ensures.stands c.in_default-strip_word-6.ensures.stands
    c.in_default-strip_word-7.ensures.stands c.in_default-strip_word-8.ensures.stands c.in_default-strip_word-9.ensures.stands)

pub returns-then-not-is_at-clause-value : goal.returns-then-not-is_at-clause-value
returns-then-not-is_at-clause-value c =
    elim c.if-is_at.branch [
      | then-is_at w ↦ absurd (let k : true ≡ false = sym (w.value-is ∙ w.if-is_at.true) ∙ c.if-not-is_at.true in cc)
      | else-is_at w ↦
          no_suffix_begins _ (sym c.is_at.ensures ∙ w.if-is_at.false) (sym w.is_at-else-is_at.ensures ∙ sym w.value-is ∙ c.if-not-is_at.true)
    ]
