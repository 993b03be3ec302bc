use Rattle.std.proofs.Common.{◌++◌, sym, ap, ◌∙◌}
use Rattle.std.specs.Fmt.{signed_decimal}
use Rattle.ron_value_number.specs.Number.{number_width, number_value}
use Rattle.ron_value_number.specs.Width.{width_word}
use Rattle.ron_spec_layout.specs.Literals.{number_text}
use Rattle.ron_ser.proofs.Pieces.{one, piece}
use Rattle.ron_ser.proofs.leaves.write_number.Goals as goal

pub returns-then-suffixes : goal.returns-then-suffixes
returns-then-suffixes g c =
    let took = g.O.Output.puts in
    let n = c.args.number in
    let digits = signed_decimal (number_value n) in
    (piece took _ _ _ _ _ _ (ap (λ b. number_text b (number_width n) (number_value n)) c.if-suffixes.true
    ∙ ap (λ word. digits ++ word) (sym (c.name.ensures ∙ ap width_word c.width.ensures))) c.write_digits.ensures (one took _ _ _ (c.put.ensures)))
