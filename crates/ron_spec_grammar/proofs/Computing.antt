-- What a worked text computes by: `unfolding reading` lets `refl` read a text, with a schema or without one.
use Rattle.std.specs.Str.{is_utf8}
use lib.Utf8.{encode}
use Rattle.unicode_ident.proofs.Computing.{unicode_ident}
use Rattle.ron_spec_words.specs.Gap.{skip, skip_from, after_comment, gap_of}
use Rattle.ron_spec_words.specs.Reader.{tail}
use Rattle.ron_spec_words.specs.Lookahead.{holds_several, seek, opens_field, opens_named_group}
use Rattle.ron_spec_words.specs.Name.{name, untyped_name}
use Rattle.ron_spec_words.specs.AnyInteger.{any_integer, untyped_integer}
use Rattle.ron_spec_words.specs.Range.{number_or_range}
use Rattle.ron_spec_words.specs.Number.{number, magnitude, opt_suffix}
use Rattle.ron_spec_words.specs.Escape.{hex_character, hex_byte, unicode_escape, plain_escape, continuation}
use Rattle.ron_spec_words.specs.Quoted.{byte, char, string_escape, byte_string_escape, quoted_string, quoted_bytes, raw, string, byte_string}
use Rattle.ron_spec_words.specs.Scan.{token}
use Rattle.ron_value_number.specs.Smallest.{smallest_width}
use Rattle.ron_spec_grammar.specs.Equal.{equal_data}
use Rattle.ron_spec_grammar.specs.Reading.{read_at}
use Rattle.ron_spec_grammar.specs.Attribute.{attribute, head}
use Rattle.ron_spec_grammar.specs.Values.Grammar.{read_any, read_any_below, form}
use Rattle.ron_spec_grammar.specs.Raw.{kept, leaves_open, is_name_alone, raw_text, raw_value, raw_valid, without_gaps, trimmed}
use Rattle.ron_spec_grammar.specs.Document.{answer_at, answer_document, body_depth, document_depth}
use Rattle.ron_spec_grammar.specs.Room.{step, rank, enough}

-- words and gaps
unfoldable pub words : Unit {0}
unfolding unicode_ident skip skip_from after_comment gap_of tail name untyped_name opens_field opens_named_group holds_several seek token char string
    byte_string quoted_string quoted_bytes string_escape byte_string_escape raw hex_character hex_byte unicode_escape plain_escape continuation is_utf8 encode
    any_integer untyped_integer number_or_range number magnitude opt_suffix byte smallest_width
words = tt

-- values without a schema, and raw texts
unfoldable pub values : Unit {0}
unfolding words raw_text kept leaves_open is_name_alone raw_value raw_valid without_gaps trimmed read_any read_any_below form
values = tt

-- values by a schema, and whole texts
unfoldable pub reading : Unit {0}
unfolding values equal_data read_at answer_at answer_document head attribute body_depth document_depth enough step rank
reading = tt
