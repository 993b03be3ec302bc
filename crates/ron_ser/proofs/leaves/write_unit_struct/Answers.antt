use Rattle.std.proofs.Common.{chars, cond, [], sym, ap, ◌∙◌}
use Rattle.std.proofs.lemmas.Result.{err_from_is_err_and}
use Rattle.ron_ser.specs.Piece.{plain, required_name, unit_bytes}
use Rattle.ron_ser.specs.Stand.{place_of}
use Rattle.ron_ser.proofs.Pieces.{nothing}
use Rattle.ron_ser.proofs.PieceLemmas.{named, written_eq, stopped_eq, named_written, name_stopped, plain_written}
use Rattle.ron_ser.proofs.DataLemmas.{unit_struct_piece, full_range_piece}
use Rattle.ron_ser.proofs.leaves.write_unit_struct.Goals as goal

pub returns-in-Some : goal.returns-in-Some
returns-in-Some g c =
    let took = g.O.Output.puts in
    written_eq took c.args.writing.now.limit (full_range_piece (place_of c.args.writing.now) c.args.bare _ _ (sym c.in-Some.ensures))
    (plain_written took _ (rw c.suffixes_numbers.ensures at c.write_range.ensures))

pub returns-in_err-write_struct_name : goal.returns-in_err-write_struct_name
returns-in_err-write_struct_name g c =
    let p = err_from_is_err_and c.from_residual.result c.from_residual.ensures.1 in
    let called = c.in_err-write_struct_name.ensures in
    rw (p.1, p.2) (stopped_eq g.O.Output.puts c.args.writing.now.limit (unit_struct_piece _ _ _ (sym c.in_default.ensures))
    (name_stopped g.O.Output.puts _ _ _ _ _ called.refused called.unchanged))

pub returns-then-requires_names : goal.returns-then-requires_names
returns-then-requires_names g c =
    let took = g.O.Output.puts in
    let p = place_of c.args.writing.now in
    let limit = c.args.writing.now.limit in
    let name = chars c.args.name.now in
    let none = ap (λ b. named (required_name p c.args.bare name) name (plain (cond b [] (unit_bytes c.args.bare))))
    (sym c.requires_names.ensures ∙ c.if-requires_names.true) in
    written_eq took limit (unit_struct_piece p c.args.bare name (sym c.in_default.ensures) ∙ none)
    (named_written took limit name c.in_ok-write_struct_name.ensures.text c.in_ok-write_struct_name.ensures.name (plain_written took limit (nothing took _)))

pub returns : goal.returns
returns g c =
    let took = g.O.Output.puts in
    let p = place_of c.args.writing.now in
    let limit = c.args.writing.now.limit in
    let name = chars c.args.name.now in
    let none = ap (λ b. named (required_name p c.args.bare name) name (plain (cond b [] (unit_bytes c.args.bare))))
    (sym c.requires_names.ensures ∙ c.if-requires_names.false) in
    written_eq took limit (unit_struct_piece p c.args.bare name (sym c.in_default.ensures) ∙ none) (named_written took limit name
    c.in_ok-write_struct_name.ensures.text c.in_ok-write_struct_name.ensures.name (plain_written took limit c.write_unit.ensures))
