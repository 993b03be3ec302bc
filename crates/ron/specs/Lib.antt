-- the definitions that this crate's public clauses cite, for callers that depend on this crate alone
pub use Rattle.ron_spec_words.specs.Characters
pub use Rattle.ron_spec_words.specs.Gap
pub use Rattle.ron_spec_words.specs.Runs
pub use Rattle.ron_spec_words.specs.Exact
pub use Rattle.ron_spec_words.specs.Reader
pub use Rattle.ron_spec_words.specs.Quoted
pub use Rattle.ron_spec_words.specs.Position
pub use Rattle.ron_spec_words.specs.Lang
pub use Rattle.ron_spec_words.specs.Directly
pub use Rattle.ron_spec_words.specs.Name as Identifiers
pub use Rattle.ron_spec_words.specs.Number as Integers
pub use Rattle.ron_spec_words.specs.AnyInteger
pub use Rattle.ron_spec_words.specs.Escape as Escapes
pub use Rattle.ron_spec_words.specs.Lookahead
pub use Rattle.ron_spec_words.specs.Openings
pub use Rattle.ron_spec_words.specs.Beyond as TextBytes
pub use Rattle.ron_spec_words.specs.Scan
pub use Rattle.ron_spec_words.specs.Stretch as Stretches
pub use Rattle.ron_value_number.specs.Smallest
pub use Rattle.ron_value_number.specs.Width
pub use Rattle.ron_value_number.specs.Number
pub use Rattle.ron_value_number.specs.declared.width.Width as Widths
pub use Rattle.ron_value.specs.declared.value.Value
pub use Rattle.ron_value.specs.Tree as PlainValue
pub use Rattle.ron_value.specs.Order as ValueOrder
pub use Rattle.ron_value.specs.Ordered
pub use Rattle.ron_value.specs.View as ValueView
pub use Rattle.ron_value.specs.Entries
pub use Rattle.ron_value.specs.Lent
pub use Rattle.ron_value.specs.Walk
pub use Rattle.ron_value.specs.Writes as ValueWrites
pub use Rattle.ron_value.specs.Statement as ValueStatement
pub use Rattle.ron_spec_grammar.specs.Data as PlainData
pub use Rattle.ron_spec_grammar.specs.Schema
pub use Rattle.ron_spec_grammar.specs.Rule
pub use Rattle.ron_spec_grammar.specs.Room
pub use Rattle.ron_spec_grammar.specs.Grammar
pub use Rattle.ron_spec_grammar.specs.Document
pub use Rattle.ron_spec_grammar.specs.Attribute
pub use Rattle.ron_spec_grammar.specs.Reading as Readers
pub use Rattle.ron_spec_grammar.specs.Values.Grammar as ValueGrammar
pub use Rattle.ron_spec_grammar.specs.Values.Conversion
pub use Rattle.ron_spec_grammar.specs.Agreement
pub use Rattle.ron_spec_grammar.specs.Raw
pub use Rattle.ron_spec_grammar.specs.RawStatement
pub use Rattle.ron_spec_grammar.specs.Values.Trees as ValueTrees
pub use Rattle.ron_spec_grammar.specs.Equal
pub use Rattle.ron_spec_grammar.specs.Shapes.Bool as BoolShape
pub use Rattle.ron_spec_grammar.specs.Shapes.Int as IntShape
pub use Rattle.ron_spec_grammar.specs.Shapes.Char as CharShape
pub use Rattle.ron_spec_grammar.specs.Shapes.Unit as UnitShape
pub use Rattle.ron_spec_grammar.specs.Shapes.Option as OptionShape
pub use Rattle.ron_spec_grammar.specs.Shapes.Seq as SeqShape
pub use Rattle.ron_spec_grammar.specs.Shapes.Tuple as TupleShape
pub use Rattle.ron_spec_grammar.specs.Shapes.Map as MapShape
pub use Rattle.ron_spec_grammar.specs.Shapes.Newtype as NewtypeShape
pub use Rattle.ron_spec_grammar.specs.Shapes.Struct as StructShape
pub use Rattle.ron_spec_grammar.specs.Shapes.Enum as EnumShape
pub use Rattle.ron_spec_grammar.specs.Shapes.Value as ValueShape
pub use Rattle.ron_spec_grammar.specs.Shapes.Raw as RawShape
pub use Rattle.ron_spec_grammar.specs.Shapes.Str as StrShape
pub use Rattle.ron_spec_grammar.specs.Shapes.Bytes as BytesShape
pub use Rattle.ron_spec_layout.specs.Name
pub use Rattle.ron_spec_layout.specs.Config
pub use Rattle.ron_spec_layout.specs.Docs
pub use Rattle.ron_spec_layout.specs.Unescaped
pub use Rattle.ron_spec_layout.specs.Ranges as CompactRanges
pub use Rattle.ron_spec_layout.specs.Brackets
pub use Rattle.ron_spec_layout.specs.Layout
pub use Rattle.ron_spec_layout.specs.Literals
pub use Rattle.ron_spec_layout.specs.Encodable
pub use Rattle.ron_spec_layout.specs.Keeping
pub use Rattle.ron_spec_layout.specs.Bytes as BytesWritten
pub use Rattle.ron_spec_layout.specs.Normal
pub use Rattle.ron_spec_layout.specs.Same
pub use Rattle.ron_spec_layout.specs.Depth
pub use Rattle.ron_spec_layout.specs.Statement as LayoutLaws
pub use Rattle.ron_spec_layout.specs.ValueStatement as ValueLaws
pub use Rattle.ron_spec_layout.specs.RangeStatement as RangeLaws
pub use Rattle.ron_base.specs.declared.error.Error
pub use Rattle.ron_base.specs.declared.error.SpannedError
pub use Rattle.ron_base.specs.declared.error.fault.EscapeFault
pub use Rattle.ron_base.specs.declared.error.fault.SchemaFault
pub use Rattle.ron_base.specs.Class
pub use Rattle.ron_base.specs.Escape
pub use Rattle.ron_base.specs.Extensions
pub use Rattle.ron_base.specs.Limit
pub use Rattle.ron_base.specs.Message
pub use Rattle.ron_base.specs.Place as Positions
pub use Rattle.ron_lex.specs.Place
pub use Rattle.ron_de_steps.specs.Reads
pub use Rattle.ron_de_steps.specs.Spends as TurnsSpent
pub use Rattle.ron_lex_text.specs.Parsed
pub use Rattle.ron_lex.specs.Quoted as QuotedSlices
pub use Rattle.ron_lex_text.specs.Stretch
pub use Rattle.ron_de_raw.specs.Raw as RawValues
pub use Rattle.ron_data_schema.specs.Shapes
pub use Rattle.ron_data_schema.specs.Table
pub use Rattle.ron_data.specs.AnyValue
pub use Rattle.ron_data.specs.Datum
pub use Rattle.ron_data.specs.declared.data.Data
pub use Rattle.ron_data_schema.specs.Refusals
pub use Rattle.ron_de_parts.specs.Terms
pub use Rattle.ron_de_parts.specs.Errors
pub use Rattle.ron_de_parts.specs.Slices
pub use Rattle.ron_de_parts.specs.Room as Limits
pub use Rattle.ron_ser_config.specs.Tree as FieldTrees
pub use Rattle.ron_ser_config.specs.Same as SameFields
pub use Rattle.ron_ser_config.specs.View as Configurations
pub use Rattle.ron_ser_config.specs.Entries as FieldEntries
pub use Rattle.ron_ser_config.specs.Lent as FieldsLent
pub use Rattle.ron_ser_config.specs.Built as FieldsBuilt
pub use Rattle.ron_base_device.specs.Begun
pub use Rattle.ron_base_device.specs.Output as Outputs
pub use Rattle.ron_base_device.specs.Device as Devices
pub use Rattle.ron_base_device.specs.Adapters
pub use Rattle.ron_base_device.specs.Utf8 as ValidFronts
pub use Rattle.ron_data_convert.specs.Becomes as Conversions
pub use Rattle.ron_data_convert.specs.Misfits
pub use Rattle.ron_types.specs.Rows as TypeRows
pub use Rattle.ron_types.specs.FieldNames as FieldTexts
pub use Rattle.ron_types.specs.Kinds as VariantKinds
pub use Rattle.ron_types.specs.Variants as VariantsAdded
pub use Rattle.ron_types.specs.Tables as TypeTables
pub use Rattle.ron_types.specs.OfTables as OfTypes
pub use Rattle.ron_types.specs.Ordered as OrderedValues
pub use Rattle.ron_types.specs.Accepts as Accepted
pub use Rattle.ron_types.specs.Lists as Elements
pub use Rattle.ron_types.specs.Normal as MadeOf
pub use Rattle.ron_types.specs.Keys
pub use Rattle.ron_types.specs.Texts as BorrowedTexts
pub use Rattle.ron_types.specs.Recovery as Recovered
pub use Rattle.ron_types.specs.RecoveryLaws as RecoveryOfTypes
pub use Rattle.ron_types.specs.PieceLaws as RecoveryOfPieces
pub use Rattle.ron_types.specs.Faults as TypeFaults
pub use Rattle.ron_types.specs.Parts as TypeParts
pub use Rattle.ron_types.specs.Laws as TypeLaws
pub use Rattle.ron_types_fields.specs.Names as FieldAliases
pub use Rattle.ron_types_fields.specs.Spelled as FieldsSpelled
pub use Rattle.ron_types_fields.specs.Rows as FieldRows
pub use Rattle.ron_types_fields.specs.Structs as FieldStructs
pub use Rattle.ron_types_fields.specs.NamedStructs
pub use Rattle.ron_types_more.specs.Accepts as MoreAccepted
pub use Rattle.ron_types_fields.specs.FieldLaws
pub use Rattle.ron_format_words.specs.Alike as WordsAlike
pub use Rattle.ron_format_words.specs.Comments as CommentsSaid
pub use Rattle.ron_format_words.specs.Edge as Edges
pub use Rattle.ron_format_words.specs.Laid as TextsLaid
pub use Rattle.ron_format_words.specs.Moves as WordsMoved
pub use Rattle.ron_format_words.specs.Near as WordsNear
pub use Rattle.ron_format_words.specs.Places as SameTexts
pub use Rattle.ron_format_words.specs.Statement as FormatLaws
pub use Rattle.ron_format_words.specs.Written as TextsKept
pub use Rattle.ron_format.specs.Refused as FormatRefusals
pub use Rattle.ron_format.specs.Whole as WholeTexts
pub use Rattle.ron_format.specs.declared.layout.Indent as Indents
pub use Rattle.ron_format.specs.declared.layout.NewLine as NewLines
pub use Rattle.ron_format.specs.declared.layout.LastCommas as CommasLast
pub use Rattle.ron_ser.specs.Put as Putting
pub use Rattle.ron_ser.specs.Refusals as WritingRefusals
pub mod Reading
pub mod Whole
pub mod Kept
pub mod Writing
pub mod ValueText
pub mod Bytes
pub mod Types
pub mod Turns
