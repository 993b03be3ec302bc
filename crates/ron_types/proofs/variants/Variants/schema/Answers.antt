use Rattle.std.proofs.Common.{string_bytes, subst}
use Rattle.ron_types.specs.Kinds.{table_of_enum}
use Rattle.ron_types.proofs.PartLemmas.{Makes}
use Rattle.ron_types.proofs.VariantLemmas.{enum_may_stand, enum_stands}
use Rattle.ron_types.proofs.variants.Variants.schema.Goals as goal

pub top-requires : goal.top-requires
top-requires g c = enum_may_stand c.args.self g.E.Enum.variants (string_bytes c.in_ok-from_str.field-0) c.requires.added c.requires.differ

pub returns : goal.returns
returns g c =
    let made = subst (Makes c.top.result) (enum_stands c.args.self g.E.Enum.variants (string_bytes c.in_ok-from_str.field-0) c.requires.added c.requires.differ)
    c.top.ensures in
    subst (λ n. Makes c.top.result (table_of_enum n g.E.Enum.variants)) c.in_ok-from_str.ensures.ok made
