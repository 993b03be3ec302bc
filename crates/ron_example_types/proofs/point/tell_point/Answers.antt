use Rattle.std.proofs.Common.{chars, string_bytes, codes, Err, inr}
use Rattle.ron.specs.Message.{spanned_text}
use Rattle.ron.specs.Table.{table_of}
use Rattle.ron.specs.Bytes.{ReadsText}
use Rattle.ron_example_types.proofs.CoordinateLemmas.{words_behind}
use Rattle.ron_example_types.proofs.point.tell_point.Goals as goal

pub returns-in-Err : goal.returns-in-Err
returns-in-Err c =
    let told = c.in-Err.ensures in
    let reads : ReadsText c.default-options.result.default_extensions c.default-options.result.recursion_limit (table_of c.in_ok-schema.schema)
    (chars c.args.text.now) (Err c.in-Err.refused) = record {
      ok = told.ok;
      only = told.only;
      of_schema = told.of_schema;
      err = told.err;
      deep = told.deep;
      slices = told.slices;
      reads_back = told.reads_back;
      errors = told.errors;
    } in
    let known = rw (c.default-options.ensures.0, c.default-options.ensures.1, c.in_ok-schema.ensures) at reads in
    inr (
      c.in-Err.refused,
      known,
      words_behind (codes "refused at ") (spanned_text c.in-Err.refused) (string_bytes c.in_ok-format-in-Err.field-0) c.in_ok-format-in-Err.ensures.ok,
    )
