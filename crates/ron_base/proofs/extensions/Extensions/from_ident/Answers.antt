use Rattle.std.proofs.Common.{◌≡◌, Some, option_map, ap, ◌∙◌}
use Rattle.bitflags.specs.Sets.{find_name}
use Rattle.ron_base.specs.Extensions.{set_of_bits}
use Rattle.ron_base.proofs.ExtensionLemmas.{table, option_map-find_name, find_name-lt, by_characters}
use Rattle.ron_base.proofs.extensions.Extensions.from_ident.Goals as goal

-- the name's bits are those of the table
found : (c : goal.In_ok-flags) → Some c.in_ok-flags.flags.0 ≡ find_name table c.args.ident.now
found c = c.in_ok-flags.ensures tt

pub returns-in_err-flags : goal.returns-in_err-flags
returns-in_err-flags c = c.from_residual.ensures ∙ (ap (option_map set_of_bits) (c.in_err-flags.ensures tt) ∙ option_map-find_name c.args.ident.now)
    ∙ by_characters c.args.ident.now c.utf8.ident

pub invariant_of-result : goal.invariant_of-result
invariant_of-result c = find_name-lt c.args.ident.now c.in_ok-flags.flags.0 (found c)

pub returns : goal.returns
returns c = ap (option_map set_of_bits) (found c) ∙ option_map-find_name c.args.ident.now ∙ by_characters c.args.ident.now c.utf8.ident
