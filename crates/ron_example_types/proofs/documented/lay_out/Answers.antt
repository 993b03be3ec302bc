use Rattle.std.proofs.Common.{chars, string_bytes, sym, subst}
use Rattle.ron.specs.Table.{table_of}
use Rattle.ron.specs.Datum.{data_view}
use Rattle.ron.specs.Whole.{DocumentWithin}
use Rattle.ron_example_types.proofs.documented.lay_out.Goals as goal

pub returns : goal.returns
returns c =
    let table = table_of c.args.schema.now in
    let limit = c.args.options.now.recursion_limit in
    let only = rw c.as_str.ensures.value at c.in-Ok-from_str_seed.ensures.only in
    let ok = rw c.as_str.ensures.value at c.in-Ok-from_str_seed.ensures.ok in
    record {
      data_of_text = data_view c.in-Ok.data;
      first = c.in-Ok.ensures.ok;
      text = c.in_ok-written.ensures.text;
      again = λ told ends.
          let z = c.in_ok-written.ensures.reads_back told ends table c.args.schema.now.well_formed c.in-Ok.ensures.of_schema in (
            z.0,
            z.1,
            subst (DocumentWithin c.args.options.now.default_extensions limit table (chars (string_bytes c.in_ok-written.written)))
                (sym (only.by_schema _ _ z.2)) ok,
          );
    }
