use Rattle.std.proofs.Common.{chars, IsUtf8, sym, subst}
use Rattle.std.proofs.lemmas.Str.{scalars-chars}
use Rattle.std.proofs.lemmas.Result.{IfErr-weaker, err_from_is_err_and}
use Rattle.ron_data_schema.specs.Table.{table_of}
use Rattle.ron.specs.Bytes.{ReadsOwned}
use Rattle.ron.proofs.OwnedLemmas.{owned_told, no_device_told, in_front, front_span}
use Rattle.ron.proofs.options.Options.owned_from_bytes.Goals as goal

pub returns-clause-reads : goal.returns-clause-reads
returns-clause-reads c =
    let options = c.args.self.now in
    record {
      text = λ utf8. subst (λ bytes. ReadsOwned options.default_extensions options.recursion_limit (table_of c.args.schema.now) (chars bytes)
          c.read_document.result) c.in_ok-text.ensures.text
          (owned_told _ _ (table_of c.args.schema.now) _ c.args.schema.now.well_formed
          (scalars-chars _ (subst IsUtf8 (sym c.in_ok-text.ensures.text) c.in_ok-text.ensures.valid)) _ c.read_document.result c.read_document.ensures.errors);
      invalid = λ no_text. absurd (no_text c.in_ok-text.ensures.valid);
    }

pub returns-clause-no_device : goal.returns-clause-no_device
returns-clause-no_device c = no_device_told _ _ _ _ _ c.read_document.result c.read_document.ensures.errors

pub returns-clause-place : goal.returns-clause-place
returns-clause-place c = IfErr-weaker c.read_document.result _ _
    (λ refused h. in_front _ _ refused c.in_ok-text.ensures.text c.in_ok-text.ensures.valid h.place) c.read_document.ensures.errors.refused

pub returns-in_err-text-clause-place : goal.returns-in_err-text-clause-place
returns-in_err-text-clause-place c =
    let p = err_from_is_err_and c.from_residual.result c.from_residual.ensures.1 in
    rw (p.1, p.2) (front_span c.args.bytes.now _ c.in_err-text.ensures.refused.span)
