use Rattle.std.proofs.Common.{◌≡◌, true, not, chars, sym, subst, ◌∙◌}
use Rattle.std.specs.List.{list_any}
use Rattle.std.specs.Fmt.{WritesInCalls}
use Rattle.std.proofs.lemmas.Bool.{and_parts}
use Rattle.ron_spec_words.specs.Runs.{same_text}
use Rattle.ron_spec_words.specs.Name.{value_words, is_plain_identifier}
use Rattle.ron_spec_layout.specs.Name.{is_plain_name}
use Rattle.ron_spec_layout.proofs.Names.{plain_is_name}
use Rattle.ron_spec_layout.proofs.Bytes.{bytes-plain_name, bytes-raw_name}
use Rattle.ron_ser.proofs.Pieces.{one, both}
use Rattle.ron_ser.proofs.names.write_name.Goals as goal

pub returns-then-is_plain_name-clause-text : goal.returns-then-is_plain_name-clause-text
returns-then-is_plain_name-clause-text g c =
    let took = g.O.Output.puts in
    subst (λ bs. WritesInCalls took c.args.out.now bs c.put.new.self)
    (sym (bytes-plain_name _ c.utf8.name (sym c.is_plain_name.ensures ∙ c.if-is_plain_name.true))) (one took _ _ _ (c.put.ensures))

pub returns-then-is_plain_name-clause-name : goal.returns-then-is_plain_name-clause-name
unfolding is_plain_name
returns-then-is_plain_name-clause-name g c =
    let name = chars c.args.name.now in
    let plain : is_plain_name name ≡ true = sym c.is_plain_name.ensures ∙ c.if-is_plain_name.true in
    plain_is_name name (and_parts (is_plain_identifier name) (not (list_any (same_text name) value_words)) plain).0

pub returns-clause-text : goal.returns-clause-text
returns-clause-text g c =
    let took = g.O.Output.puts in
    subst (λ bs. WritesInCalls took c.args.out.now bs c.put-3.new.self)
    (sym (bytes-raw_name _ c.utf8.name (sym c.is_plain_name.ensures ∙ c.if-is_plain_name.false)))
    (both took _ _ _ _ _ (one took _ _ _ (c.put-2.ensures)) (one took _ _ _ (c.put-3.ensures)))
