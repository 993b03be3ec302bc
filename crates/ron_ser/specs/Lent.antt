-- Doc comments that code has at hand.
use Rattle.std.specs.Prelude.{Option}
use Rattle.std.specs.Borrow.{Bor}
use Rattle.std.specs.Option.{option_copied}
use Rattle.ron_spec_layout.specs.Config.{Docs}
use Rattle.ron_ser_config.specs.View.{docs_of}
use Rattle.ron_ser_config.specs.declared.path_meta.fields.Fields.{Fields}

-- those of the fields that are lent, if any are
abbrev pub lent_docs : Option (Bor Fields) → Docs
lent_docs fields = docs_of (option_copied fields)
