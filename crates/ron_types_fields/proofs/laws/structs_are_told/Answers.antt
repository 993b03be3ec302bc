use Rattle.ron_types_fields.specs.PieceLaws.{newtypes_tell, tuple_structs_tell, fields_tell}
use Rattle.ron_types_fields.proofs.laws.structs_are_told.Goals as goal

pub returns : goal.returns
returns c = record {
  newtypes = newtypes_tell;
  tuple_structs = λ name ds es. tuple_structs_tell name ds es (λ items. items);
  fields = λ name names differ ds es. fields_tell name names differ ds es (λ spelled. spelled);
}
