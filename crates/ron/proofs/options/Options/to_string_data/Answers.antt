use Rattle.std.proofs.Common.{◌≡◌, true, chars, string_bytes, IfOk, subst}
use Rattle.ron_spec_layout.specs.Encodable.{is_encodable}
use Rattle.ron_spec_layout.specs.Layout.{extensions_under}
use Rattle.ron_ser_config.specs.View.{config_view}
use Rattle.ron_data.specs.Datum.{data_view}
use Rattle.ron.specs.Whole.{EndsDocs, SpellsNormalForm}
use Rattle.ron.proofs.WholeLemmas.{normal_form}
use Rattle.ron.proofs.options.Options.to_string_data.Goals as goal

pub returns-clause-reads_back : goal.returns-clause-reads_back
returns-clause-reads_back c =
    let x = c.args.self.now.default_extensions in
    let d = data_view c.args.value.now in
    let called = c.to_string.ensures in
    subst (λ k. IfOk c.to_string.result
    (λ s. is_encodable (extensions_under x k).implicit_some d ≡ true → EndsDocs k d → SpellsNormalForm x k d (chars (string_bytes s)))) c.given-config.ensures
    (normal_form x (config_view c.given-config.result) d c.to_string.result called.chars called.blank called.names)
