use Rattle.std.proofs.Common.{chars, sym}
use Rattle.ron_lex.proofs.PlainLemmas.{begun_float}
use Rattle.ron_lex.proofs.plain.begin.Goals as goal

pub returns : goal.returns
returns c = record {
  sign = c.split_sign-is_negative.ensures.sign;
  base = rw (sym c.split_sign-is_negative.ensures.rest) c.split_base-base.ensures.base;
  digits = rw (sym c.split_sign-is_negative.ensures.rest) c.split_base-base.ensures.rest;
  so_far = c.split_first_digits-start.ensures.value;
  end = c.split_first_digits-start.ensures.end;
  both = c.split_first_digits-start.ensures.both;
  float = begun_float (chars c.args.text.now) (chars c.split_sign-is_negative.result.1.now) (chars c.split_base-base.result.1.now)
      (chars c.split_first_digits-start.result.1.now) c.split_base-base.result.0 c.split_sign-is_negative.ensures.rest c.split_base-base.ensures.base
      c.split_base-base.ensures.rest c.split_first_digits-start.ensures.float;
}
