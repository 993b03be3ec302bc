-- What a worked text computes by: `unfolding laying` lets `refl` lay out data, with values and strings in it.
use Rattle.std.specs.Prelude.{Bool}
use Rattle.std.specs.Str.{chars, is_utf8}
use Rattle.std.specs.Fmt.{digits}
use lib.Utf8.{encode}
use Rattle.unicode_ident.proofs.Computing.{unicode_ident}
use Rattle.ron_spec_words.specs.Gap.{skip, skip_from, after_comment}
use Rattle.ron_spec_words.specs.Characters.{Text}
use Rattle.ron_base.specs.Escape.{short_escape, is_hidden, escaped_char, escaped_byte}
use Rattle.ron_spec_grammar.specs.Data.{Data}
use Rattle.ron_spec_grammar.specs.Rule.{Extensions}
use Rattle.ron_spec_layout.specs.Name.{is_plain_name}
use Rattle.ron_spec_layout.specs.Config.{no_docs, no_config}
use Rattle.ron_spec_layout.specs.Layout.{value_layout, layout_within, layout}

unfoldable pub laying : Unit {0}
unfolding unicode_ident is_plain_name digits chars is_utf8 encode skip skip_from after_comment short_escape is_hidden escaped_char escaped_byte value_layout
    layout_within
laying = tt

-- the layout without a configuration, bare or not
abbrev pub plain : Extensions → Bool → Data → Text
plain x bare d = layout no_config x 0 no_docs bare d
