use Rattle.std.proofs.Common.{◌++◌, sym, ap, ◌∙◌, string_bytes}
use Rattle.std.proofs.lemmas.Fmt.{contents_after_writes}
use Rattle.std.proofs.lemmas.Result.{err_from_is_err_and}
use Rattle.std.proofs.lemmas.Str.{IsUtf8-string_bytes, chars_from_encodes}
use Rattle.ron_spec_layout.specs.Layout.{full_layout}
use Rattle.ron_spec_layout.specs.Bytes.{full_layout_bytes}
use Rattle.ron_ser_config.specs.View.{config_view}
use Rattle.ron_data.specs.Datum.{data_view}
use Rattle.ron_ser.proofs.TextLemmas.{text_refused}
use Rattle.ron_ser.proofs.text.to_string.Goals as goal

pub returns-in_err-put_document-clause-refused : goal.returns-in_err-put_document-clause-refused
returns-in_err-put_document-clause-refused c =
    let p = err_from_is_err_and c.from_residual-in_err-put_document.result c.from_residual-in_err-put_document.ensures.1 in
    rw (p.1, p.2) (text_refused (config_view c.args.config.now) c.args.limit (data_view c.args.value.now) c.in_err-put_document.ensures.put).0

pub returns-in_err-put_document-clause-refused_name : goal.returns-in_err-put_document-clause-refused_name
returns-in_err-put_document-clause-refused_name c =
    let p = err_from_is_err_and c.from_residual-in_err-put_document.result c.from_residual-in_err-put_document.ensures.1 in
    rw (p.1, p.2) (text_refused (config_view c.args.config.now) c.args.limit (data_view c.args.value.now) c.in_err-put_document.ensures.put).1

pub returns-clause-text : goal.returns-clause-text
returns-clause-text c =
    contents_after_writes _ string_bytes (λ w bs v h. h) c.new-text.result _ c.put_document.new.writer c.in_ok-put_document.ensures.put
    ∙ ap (λ bs. bs ++ full_layout_bytes c.args.defaults (config_view c.args.config.now) (data_view c.args.value.now)) c.new-text.ensures.bytes

pub returns-clause-chars : goal.returns-clause-chars
returns-clause-chars c = sym (chars_from_encodes (full_layout c.args.defaults (config_view c.args.config.now) (data_view c.args.value.now)) _
    (IsUtf8-string_bytes c.put_document.new.writer) (sym (returns-clause-text c)))
