use Rattle.std.proofs.Common.{chars, string_bytes, refl, sym, inl, inr, subst}
use Rattle.std.proofs.lemmas.Result.{err_from_is_err_and}
use Rattle.ron.specs.Table.{table_of}
use Rattle.ron.specs.Datum.{data_view}
use Rattle.ron.specs.Config.{no_config}
use Rattle.ron.specs.Whole.{DocumentWithin}
use Rattle.ron_example_types.proofs.RoundTripLemmas.{refused_text, refused_reading, refused_writing}
use Rattle.ron_example_types.proofs.round_trip.read_back.Goals as goal

pub returns-in-Err : goal.returns-in-Err
returns-in-Err c = refused_text c.args.options.now.default_extensions c.args.options.now.recursion_limit (table_of c.args.schema.now) (chars c.args.text.now)
    c.in-Err.refused c.in-Err.ensures.err

pub returns : goal.returns
returns c =
    let table = table_of c.args.schema.now in
    let limit = c.args.options.now.recursion_limit in
    let only = rw c.as_str.ensures.value at c.in-Ok-from_str_seed.ensures.only in
    let ok = rw c.as_str.ensures.value at c.in-Ok-from_str_seed.ensures.ok in
    record {
      data_of_text = data_view c.in-Ok.data;
      first = c.in-Ok.ensures.ok;
      text = c.in_ok-written.ensures.text;
      again = λ told.
          let z = c.in_ok-written.ensures.reads_back told (inl refl) table c.args.schema.now.well_formed c.in-Ok.ensures.of_schema in (
            z.0,
            z.1,
            subst (DocumentWithin c.args.options.now.default_extensions limit table (chars (string_bytes c.in_ok-written.written)))
                (sym (only.by_schema _ _ z.2)) ok,
          );
    }

pub returns-in-Err-from_str_seed : goal.returns-in-Err-from_str_seed
returns-in-Err-from_str_seed c =
    let table = table_of c.args.schema.now in
    let is = c.in_ok-written.ensures.text in
    let of_schema = c.in-Ok.ensures.of_schema in
    let err = rw c.as_str.ensures.value at c.in-Err-from_str_seed.ensures.err in
    let deep = rw c.as_str.ensures.value at c.in-Err-from_str_seed.ensures.deep in
    let back = rw c.as_str.ensures.value at c.in-Err-from_str_seed.ensures.reads_back in
    let d = data_view c.in-Ok.data in
    inr (inr (
      d,
      c.in-Ok.ensures.ok,
      λ told.
          let z = c.in_ok-written.ensures.reads_back told (inl refl) table c.args.schema.now.well_formed of_schema in
          refused_reading c.args.options.now.default_extensions c.args.options.now.recursion_limit table d (chars (string_bytes c.in_ok-written.written)) z.0
          c.in-Err-from_str_seed.unread is z.2 err deep (back no_config _ refl (inl refl) of_schema told c.in_ok-written.ensures.names is),
    ))

pub returns-in_err-written : goal.returns-in_err-written
returns-in_err-written c =
    let p = err_from_is_err_and c.from_residual.result c.from_residual.ensures.1 in
    rw (p.1, p.2) (inr (inr (
      data_view c.in-Ok.data,
      c.in-Ok.ensures.ok,
      λ told. refused_writing c.args.options.now.default_extensions c.args.options.now.recursion_limit (table_of c.args.schema.now) (data_view c.in-Ok.data) _
          c.in_err-written.ensures.refused c.in_err-written.ensures.refused_name,
    )))
