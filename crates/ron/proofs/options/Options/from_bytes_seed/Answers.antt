use Rattle.std.proofs.Common.{chars, subst}
use Rattle.std.proofs.lemmas.Result.{IfErr-weaker, err_from_is_err_and}
use Rattle.ron_data_schema.specs.Table.{table_of}
use Rattle.ron.specs.Bytes.{ReadsText}
use Rattle.ron.proofs.OwnedLemmas.{in_front, front_span}
use Rattle.ron.proofs.options.Options.from_bytes_seed.Goals as goal

pub returns-clause-text : goal.returns-clause-text
returns-clause-text c utf8 =
    let options = c.args.self.now in
    let read = c.from_str_seed.ensures in
    subst (λ bytes. ReadsText options.default_extensions options.recursion_limit (table_of c.args.schema.now) (chars bytes) c.from_str_seed.result)
    c.in_ok-text.ensures.text
    (record {
      ok = read.ok;
      only = read.only;
      of_schema = read.of_schema;
      err = read.err;
      deep = read.deep;
      slices = read.slices;
      reads_back = read.reads_back;
      errors = read.errors;
    })

pub returns-clause-place : goal.returns-clause-place
returns-clause-place c = IfErr-weaker c.from_str_seed.result _ _
    (λ refused h. in_front _ _ refused c.in_ok-text.ensures.text c.in_ok-text.ensures.valid h.place) c.from_str_seed.ensures.errors.refused

pub returns-in_err-text-clause-place : goal.returns-in_err-text-clause-place
returns-in_err-text-clause-place c =
    let p = err_from_is_err_and c.from_residual.result c.from_residual.ensures.1 in
    rw (p.1, p.2) (front_span c.args.bytes.now _ c.in_err-text.ensures.refused.span)
