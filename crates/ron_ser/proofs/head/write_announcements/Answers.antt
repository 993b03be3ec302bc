use Rattle.std.proofs.Common.{◌≡◌, chars, encode_utf8_all, rules, subst, sym, ap, ◌∙◌}
use Rattle.std.specs.Fmt.{WritesInCalls}
use Rattle.std.proofs.lemmas.Str.{encodes-chars}
use Rattle.ron_base.specs.Extensions.{difference}
use Rattle.ron_ser_config.specs.View.{config_view}
use Rattle.ron_ser.proofs.Pieces.{both}
use Rattle.ron_ser.proofs.HeadLemmas.{announcement_bytes}
use Rattle.ron_ser.proofs.head.write_announcements.Goals as goal

pub returns : goal.returns
returns g c =
    let took = g.O.Output.puts in
    let x = difference c.args.config.now.extensions c.args.defaults in
    let line = ap (λ b. encode_utf8_all (chars b)) (sym c.as_str-new_line.ensures.value) ∙ encodes-chars _ c.as_str-new_line.utf8 in
    let newtypes : c.contains-newtypes.result ≡ x.unwrap_newtypes = search rules in
    let somes : c.contains-somes.result ≡ x.implicit_some = search rules in
    let variants : c.contains-variants.result ≡ x.unwrap_variant_newtypes = search rules in
    let names : c.contains-names.result ≡ x.explicit_struct_names = search rules in
    subst (λ bs. WritesInCalls took c.args.out.now bs c.write_attribute-4.new.out)
    (sym (announcement_bytes c.args.defaults (config_view c.args.config.now) _ line))
    (both took _ _ _ _ _ (rw newtypes at c.write_attribute.ensures) (both took _ _ _ _ _ (rw somes at c.write_attribute-2.ensures)
    (both took _ _ _ _ _ (rw variants at c.write_attribute-3.ensures) (rw names at c.write_attribute-4.ensures))))
