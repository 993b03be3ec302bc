-- The answers of the reading functions: a table of their names, which for a cycle of calls has to stand in one file. Each answer is from the file of its
-- module.
mod Structs
mod StructTurns
mod Elements
mod Lists
mod Tuples
mod Content
mod Newtypes
mod Values
mod Bare
mod BareTurns
mod Options
mod Maps
mod Enums
use Rattle.ron_de.proofs.+read.Goals as goal

pub structs::read_field-returns-in_err-field-clause-value : goal.structs::read_field-returns-in_err-field-clause-value
structs::read_field-returns-in_err-field-clause-value = Structs.structs::read_field-returns-in_err-field-clause-value

pub structs::read_field-returns-in_err-inner-clause-value : goal.structs::read_field-returns-in_err-inner-clause-value
structs::read_field-returns-in_err-inner-clause-value = Structs.structs::read_field-returns-in_err-inner-clause-value

pub structs::read_field-returns-in_err-skip_untyped-clause-value : goal.structs::read_field-returns-in_err-skip_untyped-clause-value
structs::read_field-returns-in_err-skip_untyped-clause-value = Structs.structs::read_field-returns-in_err-skip_untyped-clause-value

pub structs::read_field-returns-in_default-clause-value : goal.structs::read_field-returns-in_default-clause-value
structs::read_field-returns-in_default-clause-value = Structs.structs::read_field-returns-in_default-clause-value

pub structs::read_field-read_value-requires : goal.structs::read_field-read_value-requires
structs::read_field-read_value-requires = Structs.structs::read_field-read_value-requires

pub structs::read_field-returns-in_err-value-clause-value : goal.structs::read_field-returns-in_err-value-clause-value
structs::read_field-returns-in_err-value-clause-value = Structs.structs::read_field-returns-in_err-value-clause-value

pub structs::read_field-returns-clause-value : goal.structs::read_field-returns-clause-value
structs::read_field-returns-clause-value = Structs.structs::read_field-returns-clause-value

pub structs::read_field-returns-clause-index : goal.structs::read_field-returns-clause-index
structs::read_field-returns-clause-index = Structs.structs::read_field-returns-clause-index

pub structs::read_fields-fields-init : goal.structs::read_fields-fields-init
structs::read_fields-fields-init = Structs.structs::read_fields-fields-init

pub structs::read_fields-read_field-requires : goal.structs::read_fields-read_field-requires
structs::read_fields-read_field-requires = Structs.structs::read_fields-read_field-requires

pub structs::read_fields-returns-in_err-item-clause-value : goal.structs::read_fields-returns-in_err-item-clause-value
structs::read_fields-returns-in_err-item-clause-value = Structs.structs::read_fields-returns-in_err-item-clause-value

pub structs::read_fields-put-requires : goal.structs::read_fields-put-requires
structs::read_fields-put-requires = Structs.structs::read_fields-put-requires

pub structs::read_fields-returns-in_err-read_comma-clause-value : goal.structs::read_fields-returns-in_err-read_comma-clause-value
structs::read_fields-returns-in_err-read_comma-clause-value = Structs.structs::read_fields-returns-in_err-read_comma-clause-value

pub structs::read_fields-returns-clause-advance : goal.structs::read_fields-returns-clause-advance
structs::read_fields-returns-clause-advance = Structs.structs::read_fields-returns-clause-advance

pub structs::read_fields-returns-clause-value : goal.structs::read_fields-returns-clause-value
structs::read_fields-returns-clause-value = Structs.structs::read_fields-returns-clause-value

pub structs::read_fields-fields-preserved : goal.structs::read_fields-fields-preserved
structs::read_fields-fields-preserved = Structs.structs::read_fields-fields-preserved

pub structs::read_fields_inside-returns-in_err-inner-clause-value : goal.structs::read_fields_inside-returns-in_err-inner-clause-value
structs::read_fields_inside-returns-in_err-inner-clause-value = Structs.structs::read_fields_inside-returns-in_err-inner-clause-value

pub structs::read_fields_inside-read_fields-requires : goal.structs::read_fields_inside-read_fields-requires
structs::read_fields_inside-read_fields-requires = Structs.structs::read_fields_inside-read_fields-requires

pub structs::read_fields_inside-returns-in_err-found-clause-value : goal.structs::read_fields_inside-returns-in_err-found-clause-value
structs::read_fields_inside-returns-in_err-found-clause-value = Structs.structs::read_fields_inside-returns-in_err-found-clause-value

pub structs::read_fields_inside-returns-in_err-all-clause-value : goal.structs::read_fields_inside-returns-in_err-all-clause-value
structs::read_fields_inside-returns-in_err-all-clause-value = Structs.structs::read_fields_inside-returns-in_err-all-clause-value

pub structs::read_fields_inside-returns : goal.structs::read_fields_inside-returns
structs::read_fields_inside-returns = Structs.structs::read_fields_inside-returns

pub structs::read_field_group-returns-in_err-pass_gap-clause-value : goal.structs::read_field_group-returns-in_err-pass_gap-clause-value
structs::read_field_group-returns-in_err-pass_gap-clause-value = Structs.structs::read_field_group-returns-in_err-pass_gap-clause-value

pub structs::read_field_group-read_fields_inside-requires : goal.structs::read_field_group-read_fields_inside-requires
structs::read_field_group-read_fields_inside-requires = Structs.structs::read_field_group-read_fields_inside-requires

pub structs::read_field_group-returns-clause-value : goal.structs::read_field_group-returns-clause-value
structs::read_field_group-returns-clause-value = Structs.structs::read_field_group-returns-clause-value

pub structs::read_struct-returns-then-opens_interval-clause-value : goal.structs::read_struct-returns-then-opens_interval-clause-value
structs::read_struct-returns-then-opens_interval-clause-value = Structs.structs::read_struct-returns-then-opens_interval-clause-value

pub structs::read_struct-returns-in_err-read_name-clause-value : goal.structs::read_struct-returns-in_err-read_name-clause-value
structs::read_struct-returns-in_err-read_name-clause-value = Structs.structs::read_struct-returns-in_err-read_name-clause-value

pub structs::read_struct-returns-then-not-take-clause-value : goal.structs::read_struct-returns-then-not-take-clause-value
structs::read_struct-returns-then-not-take-clause-value = Structs.structs::read_struct-returns-then-not-take-clause-value

pub structs::read_struct-read_field_group-requires : goal.structs::read_struct-read_field_group-requires
structs::read_struct-read_field_group-requires = Structs.structs::read_struct-read_field_group-requires

pub structs::read_struct-returns-in_err-fields-clause-value : goal.structs::read_struct-returns-in_err-fields-clause-value
structs::read_struct-returns-in_err-fields-clause-value = Structs.structs::read_struct-returns-in_err-fields-clause-value

pub structs::read_struct-returns : goal.structs::read_struct-returns
structs::read_struct-returns = Structs.structs::read_struct-returns

pub elements::read_element-returns-in_default-clause-value : goal.elements::read_element-returns-in_default-clause-value
elements::read_element-returns-in_default-clause-value = Elements.elements::read_element-returns-in_default-clause-value

pub elements::read_element-returns-in_err-inner-clause-value : goal.elements::read_element-returns-in_err-inner-clause-value
elements::read_element-returns-in_err-inner-clause-value = Elements.elements::read_element-returns-in_err-inner-clause-value

pub elements::read_element-read_value-requires : goal.elements::read_element-read_value-requires
elements::read_element-read_value-requires = Elements.elements::read_element-read_value-requires

pub elements::read_element-returns-clause-value : goal.elements::read_element-returns-clause-value
elements::read_element-returns-clause-value = Elements.elements::read_element-returns-clause-value

pub elements::read_elements-read_element-requires : goal.elements::read_elements-read_element-requires
elements::read_elements-read_element-requires = Elements.elements::read_elements-read_element-requires

pub elements::read_elements-returns-in_err-item-clause-value : goal.elements::read_elements-returns-in_err-item-clause-value
elements::read_elements-returns-in_err-item-clause-value = Elements.elements::read_elements-returns-in_err-item-clause-value

pub elements::read_elements-items-smaller : goal.elements::read_elements-items-smaller
elements::read_elements-items-smaller = Elements.elements::read_elements-items-smaller

pub elements::read_elements-items-preserved : goal.elements::read_elements-items-preserved
elements::read_elements-items-preserved = Elements.elements::read_elements-items-preserved

pub elements::read_elements-returns-in_err-pass_element_end-clause-value : goal.elements::read_elements-returns-in_err-pass_element_end-clause-value
elements::read_elements-returns-in_err-pass_element_end-clause-value = Elements.elements::read_elements-returns-in_err-pass_element_end-clause-value

pub elements::read_elements-returns-clause-advance : goal.elements::read_elements-returns-clause-advance
elements::read_elements-returns-clause-advance = Elements.elements::read_elements-returns-clause-advance

pub elements::read_elements-returns-clause-value : goal.elements::read_elements-returns-clause-value
elements::read_elements-returns-clause-value = Elements.elements::read_elements-returns-clause-value

pub lists::read_seq-returns-then-not-take-clause-value : goal.lists::read_seq-returns-then-not-take-clause-value
lists::read_seq-returns-then-not-take-clause-value = Lists.lists::read_seq-returns-then-not-take-clause-value

pub lists::read_seq-returns-in_err-pass_gap-clause-value : goal.lists::read_seq-returns-in_err-pass_gap-clause-value
lists::read_seq-returns-in_err-pass_gap-clause-value = Lists.lists::read_seq-returns-in_err-pass_gap-clause-value

pub lists::read_seq-returns-in_err-inner-clause-value : goal.lists::read_seq-returns-in_err-inner-clause-value
lists::read_seq-returns-in_err-inner-clause-value = Lists.lists::read_seq-returns-in_err-inner-clause-value

pub lists::read_seq-read_elements-requires : goal.lists::read_seq-read_elements-requires
lists::read_seq-read_elements-requires = Lists.lists::read_seq-read_elements-requires

pub lists::read_seq-returns-in_err-items-clause-value : goal.lists::read_seq-returns-in_err-items-clause-value
lists::read_seq-returns-in_err-items-clause-value = Lists.lists::read_seq-returns-in_err-items-clause-value

pub lists::read_seq-returns : goal.lists::read_seq-returns
lists::read_seq-returns = Lists.lists::read_seq-returns

pub tuples::read_tuple_inside-returns-in_err-inner-clause-value : goal.tuples::read_tuple_inside-returns-in_err-inner-clause-value
tuples::read_tuple_inside-returns-in_err-inner-clause-value = Tuples.tuples::read_tuple_inside-returns-in_err-inner-clause-value

pub tuples::read_tuple_inside-read_elements-requires : goal.tuples::read_tuple_inside-read_elements-requires
tuples::read_tuple_inside-read_elements-requires = Tuples.tuples::read_tuple_inside-read_elements-requires

pub tuples::read_tuple_inside-returns-in_err-items-clause-value : goal.tuples::read_tuple_inside-returns-in_err-items-clause-value
tuples::read_tuple_inside-returns-in_err-items-clause-value = Tuples.tuples::read_tuple_inside-returns-in_err-items-clause-value

pub tuples::read_tuple_inside-returns-in_err-expect_length-clause-value : goal.tuples::read_tuple_inside-returns-in_err-expect_length-clause-value
tuples::read_tuple_inside-returns-in_err-expect_length-clause-value = Tuples.tuples::read_tuple_inside-returns-in_err-expect_length-clause-value

pub tuples::read_tuple_inside-returns-clause-value : goal.tuples::read_tuple_inside-returns-clause-value
tuples::read_tuple_inside-returns-clause-value = Tuples.tuples::read_tuple_inside-returns-clause-value

pub tuples::read_tuple_items-returns-in_err-pass_gap-clause-value : goal.tuples::read_tuple_items-returns-in_err-pass_gap-clause-value
tuples::read_tuple_items-returns-in_err-pass_gap-clause-value = Tuples.tuples::read_tuple_items-returns-in_err-pass_gap-clause-value

pub tuples::read_tuple_items-read_tuple_inside-requires : goal.tuples::read_tuple_items-read_tuple_inside-requires
tuples::read_tuple_items-read_tuple_inside-requires = Tuples.tuples::read_tuple_items-read_tuple_inside-requires

pub tuples::read_tuple_items-returns-clause-value : goal.tuples::read_tuple_items-returns-clause-value
tuples::read_tuple_items-returns-clause-value = Tuples.tuples::read_tuple_items-returns-clause-value

pub tuples::read_tuple-returns-then-not-take-clause-value : goal.tuples::read_tuple-returns-then-not-take-clause-value
tuples::read_tuple-returns-then-not-take-clause-value = Tuples.tuples::read_tuple-returns-then-not-take-clause-value

pub tuples::read_tuple-read_tuple_items-requires : goal.tuples::read_tuple-read_tuple_items-requires
tuples::read_tuple-read_tuple_items-requires = Tuples.tuples::read_tuple-read_tuple_items-requires

pub tuples::read_tuple-returns-in_err-items-clause-value : goal.tuples::read_tuple-returns-in_err-items-clause-value
tuples::read_tuple-returns-in_err-items-clause-value = Tuples.tuples::read_tuple-returns-in_err-items-clause-value

pub tuples::read_tuple-returns : goal.tuples::read_tuple-returns
tuples::read_tuple-returns = Tuples.tuples::read_tuple-returns

pub tuples::read_tuple_struct-returns-in_err-before_struct-clause-value : goal.tuples::read_tuple_struct-returns-in_err-before_struct-clause-value
tuples::read_tuple_struct-returns-in_err-before_struct-clause-value = Tuples.tuples::read_tuple_struct-returns-in_err-before_struct-clause-value

pub tuples::read_tuple_struct-returns-then-not-take-clause-value : goal.tuples::read_tuple_struct-returns-then-not-take-clause-value
tuples::read_tuple_struct-returns-then-not-take-clause-value = Tuples.tuples::read_tuple_struct-returns-then-not-take-clause-value

pub tuples::read_tuple_struct-read_tuple_items-requires : goal.tuples::read_tuple_struct-read_tuple_items-requires
tuples::read_tuple_struct-read_tuple_items-requires = Tuples.tuples::read_tuple_struct-read_tuple_items-requires

pub tuples::read_tuple_struct-returns-in_err-items-clause-value : goal.tuples::read_tuple_struct-returns-in_err-items-clause-value
tuples::read_tuple_struct-returns-in_err-items-clause-value = Tuples.tuples::read_tuple_struct-returns-in_err-items-clause-value

pub tuples::read_tuple_struct-returns : goal.tuples::read_tuple_struct-returns
tuples::read_tuple_struct-returns = Tuples.tuples::read_tuple_struct-returns

pub content::read_below-returns-in_err-inner-clause-value : goal.content::read_below-returns-in_err-inner-clause-value
content::read_below-returns-in_err-inner-clause-value = Content.content::read_below-returns-in_err-inner-clause-value

pub content::read_below-read_value-requires : goal.content::read_below-read_value-requires
content::read_below-read_value-requires = Content.content::read_below-read_value-requires

pub content::read_below-returns-clause-value : goal.content::read_below-returns-clause-value
content::read_below-returns-clause-value = Content.content::read_below-returns-clause-value

pub content::read_content-returns-in_err-pass_gap-clause-value : goal.content::read_content-returns-in_err-pass_gap-clause-value
content::read_content-returns-in_err-pass_gap-clause-value = Content.content::read_content-returns-in_err-pass_gap-clause-value

pub content::read_content-read_below-requires : goal.content::read_content-read_below-requires
content::read_content-read_below-requires = Content.content::read_content-read_below-requires

pub content::read_content-returns-in_err-value-clause-value : goal.content::read_content-returns-in_err-value-clause-value
content::read_content-returns-in_err-value-clause-value = Content.content::read_content-returns-in_err-value-clause-value

pub content::read_content-returns-in_err-close_content-clause-value : goal.content::read_content-returns-in_err-close_content-clause-value
content::read_content-returns-in_err-close_content-clause-value = Content.content::read_content-returns-in_err-close_content-clause-value

pub content::read_content-returns : goal.content::read_content-returns
content::read_content-returns = Content.content::read_content-returns

pub content::read_content-read_bare_below-requires : goal.content::read_content-read_bare_below-requires
content::read_content-read_bare_below-requires = Content.content::read_content-read_bare_below-requires

pub content::read_content-returns-then-is_unwrapped-clause-value : goal.content::read_content-returns-then-is_unwrapped-clause-value
content::read_content-returns-then-is_unwrapped-clause-value = Content.content::read_content-returns-then-is_unwrapped-clause-value

pub content::read_bare_below-returns-in_err-inner-clause-value : goal.content::read_bare_below-returns-in_err-inner-clause-value
content::read_bare_below-returns-in_err-inner-clause-value = Content.content::read_bare_below-returns-in_err-inner-clause-value

pub content::read_bare_below-returns-clause-value : goal.content::read_bare_below-returns-clause-value
content::read_bare_below-returns-clause-value = Content.content::read_bare_below-returns-clause-value

pub newtypes::read_held-read_below-requires : goal.newtypes::read_held-read_below-requires
newtypes::read_held-read_below-requires = Newtypes.newtypes::read_held-read_below-requires

pub newtypes::read_held-returns-then-unwraps_newtypes-clause-value : goal.newtypes::read_held-returns-then-unwraps_newtypes-clause-value
newtypes::read_held-returns-then-unwraps_newtypes-clause-value = Newtypes.newtypes::read_held-returns-then-unwraps_newtypes-clause-value

pub newtypes::read_held-returns-in_err-read_name-clause-value : goal.newtypes::read_held-returns-in_err-read_name-clause-value
newtypes::read_held-returns-in_err-read_name-clause-value = Newtypes.newtypes::read_held-returns-in_err-read_name-clause-value

pub newtypes::read_held-returns-then-not-take-clause-value : goal.newtypes::read_held-returns-then-not-take-clause-value
newtypes::read_held-returns-then-not-take-clause-value = Newtypes.newtypes::read_held-returns-then-not-take-clause-value

pub newtypes::read_held-read_content-requires : goal.newtypes::read_held-read_content-requires
newtypes::read_held-read_content-requires = Newtypes.newtypes::read_held-read_content-requires

pub newtypes::read_held-returns-clause-value : goal.newtypes::read_held-returns-clause-value
newtypes::read_held-returns-clause-value = Newtypes.newtypes::read_held-returns-clause-value

pub newtypes::read_newtype-read_held-requires : goal.newtypes::read_newtype-read_held-requires
newtypes::read_newtype-read_held-requires = Newtypes.newtypes::read_newtype-read_held-requires

pub newtypes::read_newtype-returns-in_err-value-clause-value : goal.newtypes::read_newtype-returns-in_err-value-clause-value
newtypes::read_newtype-returns-in_err-value-clause-value = Newtypes.newtypes::read_newtype-returns-in_err-value-clause-value

pub newtypes::read_newtype-returns : goal.newtypes::read_newtype-returns
newtypes::read_newtype-returns = Newtypes.newtypes::read_newtype-returns

pub value::read_value-returns-in-Some-Bool-clause-value : goal.value::read_value-returns-in-Some-Bool-clause-value
value::read_value-returns-in-Some-Bool-clause-value = Values.value::read_value-returns-in-Some-Bool-clause-value

pub value::read_value-returns-in-Some-Unit-clause-value : goal.value::read_value-returns-in-Some-Unit-clause-value
value::read_value-returns-in-Some-Unit-clause-value = Values.value::read_value-returns-in-Some-Unit-clause-value

pub value::read_value-returns-in-Some-Bool-clause-leaf : goal.value::read_value-returns-in-Some-Bool-clause-leaf
value::read_value-returns-in-Some-Bool-clause-leaf = Values.value::read_value-returns-in-Some-Bool-clause-leaf

pub value::read_value-returns-in-Some-Unit-clause-leaf : goal.value::read_value-returns-in-Some-Unit-clause-leaf
value::read_value-returns-in-Some-Unit-clause-leaf = Values.value::read_value-returns-in-Some-Unit-clause-leaf

pub value::read_value-returns-in-Some-Int-clause-leaf : goal.value::read_value-returns-in-Some-Int-clause-leaf
value::read_value-returns-in-Some-Int-clause-leaf = Values.value::read_value-returns-in-Some-Int-clause-leaf

pub value::read_value-returns-in-Some-Int-clause-value : goal.value::read_value-returns-in-Some-Int-clause-value
value::read_value-returns-in-Some-Int-clause-value = Values.value::read_value-returns-in-Some-Int-clause-value

pub value::read_value-returns-in-Some-Char-clause-leaf : goal.value::read_value-returns-in-Some-Char-clause-leaf
value::read_value-returns-in-Some-Char-clause-leaf = Values.value::read_value-returns-in-Some-Char-clause-leaf

pub value::read_value-returns-in-Some-Char-clause-value : goal.value::read_value-returns-in-Some-Char-clause-value
value::read_value-returns-in-Some-Char-clause-value = Values.value::read_value-returns-in-Some-Char-clause-value

pub value::read_value-returns-in-Some-Str-clause-string : goal.value::read_value-returns-in-Some-Str-clause-string
value::read_value-returns-in-Some-Str-clause-string = Values.value::read_value-returns-in-Some-Str-clause-string

pub value::read_value-returns-in-Some-Str-clause-value : goal.value::read_value-returns-in-Some-Str-clause-value
value::read_value-returns-in-Some-Str-clause-value = Values.value::read_value-returns-in-Some-Str-clause-value

pub value::read_value-returns-in-Some-UnitStruct-clause-value : goal.value::read_value-returns-in-Some-UnitStruct-clause-value
value::read_value-returns-in-Some-UnitStruct-clause-value = Values.value::read_value-returns-in-Some-UnitStruct-clause-value

pub value::read_value-returns-in-Some-Bytes-clause-value : goal.value::read_value-returns-in-Some-Bytes-clause-value
value::read_value-returns-in-Some-Bytes-clause-value = Values.value::read_value-returns-in-Some-Bytes-clause-value

pub value::read_value-read_seq-requires : goal.value::read_value-read_seq-requires
value::read_value-read_seq-requires = Values.value::read_value-read_seq-requires

pub value::read_value-returns-in-Some-Seq-clause-value : goal.value::read_value-returns-in-Some-Seq-clause-value
value::read_value-returns-in-Some-Seq-clause-value = Values.value::read_value-returns-in-Some-Seq-clause-value

pub value::read_value-read_tuple-requires : goal.value::read_value-read_tuple-requires
value::read_value-read_tuple-requires = Values.value::read_value-read_tuple-requires

pub value::read_value-returns-in-Some-Tuple-clause-value : goal.value::read_value-returns-in-Some-Tuple-clause-value
value::read_value-returns-in-Some-Tuple-clause-value = Values.value::read_value-returns-in-Some-Tuple-clause-value

pub value::read_value-read_map-requires : goal.value::read_value-read_map-requires
value::read_value-read_map-requires = Values.value::read_value-read_map-requires

pub value::read_value-returns-in-Some-Map-clause-value : goal.value::read_value-returns-in-Some-Map-clause-value
value::read_value-returns-in-Some-Map-clause-value = Values.value::read_value-returns-in-Some-Map-clause-value

pub value::read_value-read_option-requires : goal.value::read_value-read_option-requires
value::read_value-read_option-requires = Values.value::read_value-read_option-requires

pub value::read_value-returns-in-Some-Option-clause-value : goal.value::read_value-returns-in-Some-Option-clause-value
value::read_value-returns-in-Some-Option-clause-value = Values.value::read_value-returns-in-Some-Option-clause-value

pub value::read_value-read_newtype-requires : goal.value::read_value-read_newtype-requires
value::read_value-read_newtype-requires = Values.value::read_value-read_newtype-requires

pub value::read_value-returns-in-Some-Newtype-clause-value : goal.value::read_value-returns-in-Some-Newtype-clause-value
value::read_value-returns-in-Some-Newtype-clause-value = Values.value::read_value-returns-in-Some-Newtype-clause-value

pub value::read_value-read_tuple_struct-requires : goal.value::read_value-read_tuple_struct-requires
value::read_value-read_tuple_struct-requires = Values.value::read_value-read_tuple_struct-requires

pub value::read_value-returns-in-Some-TupleStruct-clause-value : goal.value::read_value-returns-in-Some-TupleStruct-clause-value
value::read_value-returns-in-Some-TupleStruct-clause-value = Values.value::read_value-returns-in-Some-TupleStruct-clause-value

pub value::read_value-read_struct-requires : goal.value::read_value-read_struct-requires
value::read_value-read_struct-requires = Values.value::read_value-read_struct-requires

pub value::read_value-returns-in-Some-Struct-clause-value : goal.value::read_value-returns-in-Some-Struct-clause-value
value::read_value-returns-in-Some-Struct-clause-value = Values.value::read_value-returns-in-Some-Struct-clause-value

pub value::read_value-read_enum-requires : goal.value::read_value-read_enum-requires
value::read_value-read_enum-requires = Values.value::read_value-read_enum-requires

pub value::read_value-returns-in-Some-Enum-clause-value : goal.value::read_value-returns-in-Some-Enum-clause-value
value::read_value-returns-in-Some-Enum-clause-value = Values.value::read_value-returns-in-Some-Enum-clause-value

pub value::read_value-returns-in-Some-Raw-clause-value : goal.value::read_value-returns-in-Some-Raw-clause-value
value::read_value-returns-in-Some-Raw-clause-value = Values.value::read_value-returns-in-Some-Raw-clause-value

pub value::read_value-returns-in-Some-Value-clause-value : goal.value::read_value-returns-in-Some-Value-clause-value
value::read_value-returns-in-Some-Value-clause-value = Values.value::read_value-returns-in-Some-Value-clause-value

pub bare::read_closed-read_value-requires : goal.bare::read_closed-read_value-requires
bare::read_closed-read_value-requires = Bare.bare::read_closed-read_value-requires

pub bare::read_closed-returns-in_err-value-clause-value : goal.bare::read_closed-returns-in_err-value-clause-value
bare::read_closed-returns-in_err-value-clause-value = Bare.bare::read_closed-returns-in_err-value-clause-value

pub bare::read_closed-returns-in_err-close_content-clause-value : goal.bare::read_closed-returns-in_err-close_content-clause-value
bare::read_closed-returns-in_err-close_content-clause-value = Bare.bare::read_closed-returns-in_err-close_content-clause-value

pub bare::read_closed-returns-clause-value : goal.bare::read_closed-returns-clause-value
bare::read_closed-returns-clause-value = Bare.bare::read_closed-returns-clause-value

pub bare::read_bare_option-returns-then-not-stands_alone-clause-value : goal.bare::read_bare_option-returns-then-not-stands_alone-clause-value
bare::read_bare_option-returns-then-not-stands_alone-clause-value = Bare.bare::read_bare_option-returns-then-not-stands_alone-clause-value

pub bare::read_bare_option-read_bare_below-requires : goal.bare::read_bare_option-read_bare_below-requires
bare::read_bare_option-read_bare_below-requires = Bare.bare::read_bare_option-read_bare_below-requires

pub bare::read_bare_option-returns-in_err-value-clause-value : goal.bare::read_bare_option-returns-in_err-value-clause-value
bare::read_bare_option-returns-in_err-value-clause-value = Bare.bare::read_bare_option-returns-in_err-value-clause-value

pub bare::read_bare_option-returns : goal.bare::read_bare_option-returns
bare::read_bare_option-returns = Bare.bare::read_bare_option-returns

pub bare::read_bare_newtype-read_below-requires : goal.bare::read_bare_newtype-read_below-requires
bare::read_bare_newtype-read_below-requires = Bare.bare::read_bare_newtype-read_below-requires

pub bare::read_bare_newtype-returns-in_err-value-clause-value : goal.bare::read_bare_newtype-returns-in_err-value-clause-value
bare::read_bare_newtype-returns-in_err-value-clause-value = Bare.bare::read_bare_newtype-returns-in_err-value-clause-value

pub bare::read_bare_newtype-returns-in_err-close_content-clause-value : goal.bare::read_bare_newtype-returns-in_err-close_content-clause-value
bare::read_bare_newtype-returns-in_err-close_content-clause-value = Bare.bare::read_bare_newtype-returns-in_err-close_content-clause-value

pub bare::read_bare_newtype-returns : goal.bare::read_bare_newtype-returns
bare::read_bare_newtype-returns = Bare.bare::read_bare_newtype-returns

pub bare::read_bare_items-returns-then-not-is_empty-clause-value : goal.bare::read_bare_items-returns-then-not-is_empty-clause-value
bare::read_bare_items-returns-then-not-is_empty-clause-value = Bare.bare::read_bare_items-returns-then-not-is_empty-clause-value

pub bare::read_bare_items-returns-in_err-deeper-clause-value : goal.bare::read_bare_items-returns-in_err-deeper-clause-value
bare::read_bare_items-returns-in_err-deeper-clause-value = Bare.bare::read_bare_items-returns-in_err-deeper-clause-value

pub bare::read_bare_items-returns-in_err-close_bare-clause-value : goal.bare::read_bare_items-returns-in_err-close_bare-clause-value
bare::read_bare_items-returns-in_err-close_bare-clause-value = Bare.bare::read_bare_items-returns-in_err-close_bare-clause-value

pub bare::read_bare_items-returns-clause-value : goal.bare::read_bare_items-returns-clause-value
bare::read_bare_items-returns-clause-value = Bare.bare::read_bare_items-returns-clause-value

pub bare::read_bare-unreachable-requires : goal.bare::read_bare-unreachable-requires
bare::read_bare-unreachable-requires = Bare.bare::read_bare-unreachable-requires

pub bare::read_bare-returns-in_err-close_bare-in-Some-Unit-clause-value : goal.bare::read_bare-returns-in_err-close_bare-in-Some-Unit-clause-value
bare::read_bare-returns-in_err-close_bare-in-Some-Unit-clause-value = Bare.bare::read_bare-returns-in_err-close_bare-in-Some-Unit-clause-value

pub bare::read_bare-returns-in_ok-close_bare-in-Some-Unit-clause-value : goal.bare::read_bare-returns-in_ok-close_bare-in-Some-Unit-clause-value
bare::read_bare-returns-in_ok-close_bare-in-Some-Unit-clause-value = Bare.bare::read_bare-returns-in_ok-close_bare-in-Some-Unit-clause-value

pub bare::read_bare-returns-then-opens_interval-clause-value : goal.bare::read_bare-returns-then-opens_interval-clause-value
bare::read_bare-returns-then-opens_interval-clause-value = Bare.bare::read_bare-returns-then-opens_interval-clause-value

pub bare::read_bare-returns-then-opens_interval-2-clause-value : goal.bare::read_bare-returns-then-opens_interval-2-clause-value
bare::read_bare-returns-then-opens_interval-2-clause-value = Bare.bare::read_bare-returns-then-opens_interval-2-clause-value

pub bare::read_bare-returns-in_err-close_bare-in-Some-UnitStruct-clause-value : goal.bare::read_bare-returns-in_err-close_bare-in-Some-UnitStruct-clause-value
bare::read_bare-returns-in_err-close_bare-in-Some-UnitStruct-clause-value = Bare.bare::read_bare-returns-in_err-close_bare-in-Some-UnitStruct-clause-value

pub bare::read_bare-returns-in_ok-from_str-in-Some-UnitStruct-clause-value : goal.bare::read_bare-returns-in_ok-from_str-in-Some-UnitStruct-clause-value
bare::read_bare-returns-in_ok-from_str-in-Some-UnitStruct-clause-value = Bare.bare::read_bare-returns-in_ok-from_str-in-Some-UnitStruct-clause-value

pub bare::read_bare-read_bare_items-requires : goal.bare::read_bare-read_bare_items-requires
bare::read_bare-read_bare_items-requires = Bare.bare::read_bare-read_bare_items-requires

pub bare::read_bare-returns-in_err-items-in-Some-Tuple-clause-value : goal.bare::read_bare-returns-in_err-items-in-Some-Tuple-clause-value
bare::read_bare-returns-in_err-items-in-Some-Tuple-clause-value = Bare.bare::read_bare-returns-in_err-items-in-Some-Tuple-clause-value

pub bare::read_bare-returns-in_ok-items-in-Some-Tuple : goal.bare::read_bare-returns-in_ok-items-in-Some-Tuple
bare::read_bare-returns-in_ok-items-in-Some-Tuple = Bare.bare::read_bare-returns-in_ok-items-in-Some-Tuple

pub bare::read_bare-read_bare_items-requires-in-Some-TupleStruct : goal.bare::read_bare-read_bare_items-requires-in-Some-TupleStruct
bare::read_bare-read_bare_items-requires-in-Some-TupleStruct = Bare.bare::read_bare-read_bare_items-requires-in-Some-TupleStruct

pub bare::read_bare-returns-in_err-items-in-Some-TupleStruct-clause-value : goal.bare::read_bare-returns-in_err-items-in-Some-TupleStruct-clause-value
bare::read_bare-returns-in_err-items-in-Some-TupleStruct-clause-value = Bare.bare::read_bare-returns-in_err-items-in-Some-TupleStruct-clause-value

pub bare::read_bare-returns-in_ok-from_str-in-Some-TupleStruct : goal.bare::read_bare-returns-in_ok-from_str-in-Some-TupleStruct
bare::read_bare-returns-in_ok-from_str-in-Some-TupleStruct = Bare.bare::read_bare-returns-in_ok-from_str-in-Some-TupleStruct

pub bare::read_bare-read_fields_inside-requires : goal.bare::read_bare-read_fields_inside-requires
bare::read_bare-read_fields_inside-requires = Bare.bare::read_bare-read_fields_inside-requires

pub bare::read_bare-returns-in_err-fields-in-Some-Struct-clause-value : goal.bare::read_bare-returns-in_err-fields-in-Some-Struct-clause-value
bare::read_bare-returns-in_err-fields-in-Some-Struct-clause-value = Bare.bare::read_bare-returns-in_err-fields-in-Some-Struct-clause-value

pub bare::read_bare-returns-in_ok-from_str-in-Some-Struct : goal.bare::read_bare-returns-in_ok-from_str-in-Some-Struct
bare::read_bare-returns-in_ok-from_str-in-Some-Struct = Bare.bare::read_bare-returns-in_ok-from_str-in-Some-Struct

pub bare::read_bare-returns-in-Some-Bool-clause-value : goal.bare::read_bare-returns-in-Some-Bool-clause-value
bare::read_bare-returns-in-Some-Bool-clause-value = Bare.bare::read_bare-returns-in-Some-Bool-clause-value

pub bare::read_bare-returns-in-Some-Int-clause-value : goal.bare::read_bare-returns-in-Some-Int-clause-value
bare::read_bare-returns-in-Some-Int-clause-value = Bare.bare::read_bare-returns-in-Some-Int-clause-value

pub bare::read_bare-returns-in-Some-Char-clause-value : goal.bare::read_bare-returns-in-Some-Char-clause-value
bare::read_bare-returns-in-Some-Char-clause-value = Bare.bare::read_bare-returns-in-Some-Char-clause-value

pub bare::read_bare-returns-in-Some-Str-clause-value : goal.bare::read_bare-returns-in-Some-Str-clause-value
bare::read_bare-returns-in-Some-Str-clause-value = Bare.bare::read_bare-returns-in-Some-Str-clause-value

pub bare::read_bare-returns-in-Some-Bytes-clause-value : goal.bare::read_bare-returns-in-Some-Bytes-clause-value
bare::read_bare-returns-in-Some-Bytes-clause-value = Bare.bare::read_bare-returns-in-Some-Bytes-clause-value

pub bare::read_bare-returns-in-Some-Seq-clause-value : goal.bare::read_bare-returns-in-Some-Seq-clause-value
bare::read_bare-returns-in-Some-Seq-clause-value = Bare.bare::read_bare-returns-in-Some-Seq-clause-value

pub bare::read_bare-returns-in-Some-Map-clause-value : goal.bare::read_bare-returns-in-Some-Map-clause-value
bare::read_bare-returns-in-Some-Map-clause-value = Bare.bare::read_bare-returns-in-Some-Map-clause-value

pub bare::read_bare-returns-in-Some-Raw-clause-value : goal.bare::read_bare-returns-in-Some-Raw-clause-value
bare::read_bare-returns-in-Some-Raw-clause-value = Bare.bare::read_bare-returns-in-Some-Raw-clause-value

pub bare::read_bare-returns-in-Some-Enum-clause-value : goal.bare::read_bare-returns-in-Some-Enum-clause-value
bare::read_bare-returns-in-Some-Enum-clause-value = Bare.bare::read_bare-returns-in-Some-Enum-clause-value

pub bare::read_bare-read_bare_newtype-requires : goal.bare::read_bare-read_bare_newtype-requires
bare::read_bare-read_bare_newtype-requires = Bare.bare::read_bare-read_bare_newtype-requires

pub bare::read_bare-returns-in-Some-Newtype-clause-value : goal.bare::read_bare-returns-in-Some-Newtype-clause-value
bare::read_bare-returns-in-Some-Newtype-clause-value = Bare.bare::read_bare-returns-in-Some-Newtype-clause-value

pub bare::read_bare-returns-in-Some-Value-clause-value : goal.bare::read_bare-returns-in-Some-Value-clause-value
bare::read_bare-returns-in-Some-Value-clause-value = Bare.bare::read_bare-returns-in-Some-Value-clause-value

pub options::read_option-returns-then-take_none-clause-value : goal.options::read_option-returns-then-take_none-clause-value
options::read_option-returns-then-take_none-clause-value = Options.options::read_option-returns-then-take_none-clause-value

pub options::read_option-read_some-requires : goal.options::read_option-read_some-requires
options::read_option-read_some-requires = Options.options::read_option-read_some-requires

pub options::read_option-returns-in_err-value-clause-value : goal.options::read_option-returns-in_err-value-clause-value
options::read_option-returns-in_err-value-clause-value = Options.options::read_option-returns-in_err-value-clause-value

pub options::read_option-returns : goal.options::read_option-returns
options::read_option-returns = Options.options::read_option-returns

pub options::read_some-read_content-requires : goal.options::read_some-read_content-requires
options::read_some-read_content-requires = Options.options::read_some-read_content-requires

pub options::read_some-returns-then-take_some-clause-value : goal.options::read_some-returns-then-take_some-clause-value
options::read_some-returns-then-take_some-clause-value = Options.options::read_some-returns-then-take_some-clause-value

pub options::read_some-returns-then-implies_some-clause-value : goal.options::read_some-returns-then-implies_some-clause-value
options::read_some-returns-then-implies_some-clause-value = Options.options::read_some-returns-then-implies_some-clause-value

pub options::read_some-returns-clause-value : goal.options::read_some-returns-clause-value
options::read_some-returns-clause-value = Options.options::read_some-returns-clause-value

pub maps::read_pair-returns-in_err-inner-clause-value : goal.maps::read_pair-returns-in_err-inner-clause-value
maps::read_pair-returns-in_err-inner-clause-value = Maps.maps::read_pair-returns-in_err-inner-clause-value

pub maps::read_pair-read_value-requires : goal.maps::read_pair-read_value-requires
maps::read_pair-read_value-requires = Maps.maps::read_pair-read_value-requires

pub maps::read_pair-returns-in_err-key-clause-value : goal.maps::read_pair-returns-in_err-key-clause-value
maps::read_pair-returns-in_err-key-clause-value = Maps.maps::read_pair-returns-in_err-key-clause-value

pub maps::read_pair-returns-in_err-pass_colon-clause-value : goal.maps::read_pair-returns-in_err-pass_colon-clause-value
maps::read_pair-returns-in_err-pass_colon-clause-value = Maps.maps::read_pair-returns-in_err-pass_colon-clause-value

pub maps::read_pair-read_value-requires-2 : goal.maps::read_pair-read_value-requires-2
maps::read_pair-read_value-requires-2 = Maps.maps::read_pair-read_value-requires-2

pub maps::read_pair-returns-in_err-value-clause-value : goal.maps::read_pair-returns-in_err-value-clause-value
maps::read_pair-returns-in_err-value-clause-value = Maps.maps::read_pair-returns-in_err-value-clause-value

pub maps::read_pair-returns-clause-value : goal.maps::read_pair-returns-clause-value
maps::read_pair-returns-clause-value = Maps.maps::read_pair-returns-clause-value

pub maps::read_pair-returns-clause-slices : goal.maps::read_pair-returns-clause-slices
maps::read_pair-returns-clause-slices = Maps.maps::read_pair-returns-clause-slices

pub maps::read_pairs-read_pair-requires : goal.maps::read_pairs-read_pair-requires
maps::read_pairs-read_pair-requires = Maps.maps::read_pairs-read_pair-requires

pub maps::read_pairs-returns-in_err-pair-clause-value : goal.maps::read_pairs-returns-in_err-pair-clause-value
maps::read_pairs-returns-in_err-pair-clause-value = Maps.maps::read_pairs-returns-in_err-pair-clause-value

pub maps::read_pairs-returns-in_err-read_comma-clause-value : goal.maps::read_pairs-returns-in_err-read_comma-clause-value
maps::read_pairs-returns-in_err-read_comma-clause-value = Maps.maps::read_pairs-returns-in_err-read_comma-clause-value

pub maps::read_pairs-pairs-preserved : goal.maps::read_pairs-pairs-preserved
maps::read_pairs-pairs-preserved = Maps.maps::read_pairs-pairs-preserved

pub maps::read_pairs-returns-clause-value : goal.maps::read_pairs-returns-clause-value
maps::read_pairs-returns-clause-value = Maps.maps::read_pairs-returns-clause-value

pub maps::read_pairs-returns-clause-advance : goal.maps::read_pairs-returns-clause-advance
maps::read_pairs-returns-clause-advance = Maps.maps::read_pairs-returns-clause-advance

pub maps::read_map-returns-then-not-take-clause-value : goal.maps::read_map-returns-then-not-take-clause-value
maps::read_map-returns-then-not-take-clause-value = Maps.maps::read_map-returns-then-not-take-clause-value

pub maps::read_map-returns-in_err-pass_gap-clause-value : goal.maps::read_map-returns-in_err-pass_gap-clause-value
maps::read_map-returns-in_err-pass_gap-clause-value = Maps.maps::read_map-returns-in_err-pass_gap-clause-value

pub maps::read_map-returns-in_err-inner-clause-value : goal.maps::read_map-returns-in_err-inner-clause-value
maps::read_map-returns-in_err-inner-clause-value = Maps.maps::read_map-returns-in_err-inner-clause-value

pub maps::read_map-read_pairs-requires : goal.maps::read_map-read_pairs-requires
maps::read_map-read_pairs-requires = Maps.maps::read_map-read_pairs-requires

pub maps::read_map-returns-in_err-pairs-clause-value : goal.maps::read_map-returns-in_err-pairs-clause-value
maps::read_map-returns-in_err-pairs-clause-value = Maps.maps::read_map-returns-in_err-pairs-clause-value

pub maps::read_map-returns : goal.maps::read_map-returns
maps::read_map-returns = Maps.maps::read_map-returns

pub enums::read_enum-returns-in_err-inner-clause-value : goal.enums::read_enum-returns-in_err-inner-clause-value
enums::read_enum-returns-in_err-inner-clause-value = Enums.enums::read_enum-returns-in_err-inner-clause-value

pub enums::read_enum-returns-in_err-deeper-clause-value : goal.enums::read_enum-returns-in_err-deeper-clause-value
enums::read_enum-returns-in_err-deeper-clause-value = Enums.enums::read_enum-returns-in_err-deeper-clause-value

pub enums::read_enum-returns-in_err-found-clause-value : goal.enums::read_enum-returns-in_err-found-clause-value
enums::read_enum-returns-in_err-found-clause-value = Enums.enums::read_enum-returns-in_err-found-clause-value

pub enums::read_enum-read_variant_content-requires : goal.enums::read_enum-read_variant_content-requires
enums::read_enum-read_variant_content-requires = Enums.enums::read_enum-read_variant_content-requires

pub enums::read_enum-returns-in_err-content-clause-value : goal.enums::read_enum-returns-in_err-content-clause-value
enums::read_enum-returns-in_err-content-clause-value = Enums.enums::read_enum-returns-in_err-content-clause-value

pub enums::read_enum-returns : goal.enums::read_enum-returns
enums::read_enum-returns = Enums.enums::read_enum-returns

pub enums::read_variant_content-returns-in-Unit-clause-value : goal.enums::read_variant_content-returns-in-Unit-clause-value
enums::read_variant_content-returns-in-Unit-clause-value = Enums.enums::read_variant_content-returns-in-Unit-clause-value

pub enums::read_variant_content-returns-in_err-pass_gap-in-Newtype-clause-value :
    goal.enums::read_variant_content-returns-in_err-pass_gap-in-Newtype-clause-value
enums::read_variant_content-returns-in_err-pass_gap-in-Newtype-clause-value = Enums.enums::read_variant_content-returns-in_err-pass_gap-in-Newtype-clause-value

pub enums::read_variant_content-returns-in_err-pass_gap-in-Tuple-clause-value : goal.enums::read_variant_content-returns-in_err-pass_gap-in-Tuple-clause-value
enums::read_variant_content-returns-in_err-pass_gap-in-Tuple-clause-value = Enums.enums::read_variant_content-returns-in_err-pass_gap-in-Tuple-clause-value

pub enums::read_variant_content-returns-in_err-pass_gap-in-Struct-clause-value : goal.enums::read_variant_content-returns-in_err-pass_gap-in-Struct-clause-value
enums::read_variant_content-returns-in_err-pass_gap-in-Struct-clause-value = Enums.enums::read_variant_content-returns-in_err-pass_gap-in-Struct-clause-value

pub enums::read_variant_content-returns-then-not-take-clause-value : goal.enums::read_variant_content-returns-then-not-take-clause-value
enums::read_variant_content-returns-then-not-take-clause-value = Enums.enums::read_variant_content-returns-then-not-take-clause-value

pub enums::read_variant_content-returns-then-not-take-2-clause-value : goal.enums::read_variant_content-returns-then-not-take-2-clause-value
enums::read_variant_content-returns-then-not-take-2-clause-value = Enums.enums::read_variant_content-returns-then-not-take-2-clause-value

pub enums::read_variant_content-returns-then-not-take-3-clause-value : goal.enums::read_variant_content-returns-then-not-take-3-clause-value
enums::read_variant_content-returns-then-not-take-3-clause-value = Enums.enums::read_variant_content-returns-then-not-take-3-clause-value

pub enums::read_variant_content-read_content-requires : goal.enums::read_variant_content-read_content-requires
enums::read_variant_content-read_content-requires = Enums.enums::read_variant_content-read_content-requires

pub enums::read_variant_content-returns-in_err-value-in-Newtype-clause-value : goal.enums::read_variant_content-returns-in_err-value-in-Newtype-clause-value
enums::read_variant_content-returns-in_err-value-in-Newtype-clause-value = Enums.enums::read_variant_content-returns-in_err-value-in-Newtype-clause-value

pub enums::read_variant_content-returns-in_ok-new-in-Newtype-clause-value : goal.enums::read_variant_content-returns-in_ok-new-in-Newtype-clause-value
enums::read_variant_content-returns-in_ok-new-in-Newtype-clause-value = Enums.enums::read_variant_content-returns-in_ok-new-in-Newtype-clause-value

pub enums::read_variant_content-read_tuple_items-requires : goal.enums::read_variant_content-read_tuple_items-requires
enums::read_variant_content-read_tuple_items-requires = Enums.enums::read_variant_content-read_tuple_items-requires

pub enums::read_variant_content-returns-in_err-items-in-Tuple-clause-value : goal.enums::read_variant_content-returns-in_err-items-in-Tuple-clause-value
enums::read_variant_content-returns-in_err-items-in-Tuple-clause-value = Enums.enums::read_variant_content-returns-in_err-items-in-Tuple-clause-value

pub enums::read_variant_content-returns-in_ok-items-in-Tuple : goal.enums::read_variant_content-returns-in_ok-items-in-Tuple
enums::read_variant_content-returns-in_ok-items-in-Tuple = Enums.enums::read_variant_content-returns-in_ok-items-in-Tuple

pub enums::read_variant_content-read_field_group-requires : goal.enums::read_variant_content-read_field_group-requires
enums::read_variant_content-read_field_group-requires = Enums.enums::read_variant_content-read_field_group-requires

pub enums::read_variant_content-returns-in_err-fields-in-Struct-clause-value : goal.enums::read_variant_content-returns-in_err-fields-in-Struct-clause-value
enums::read_variant_content-returns-in_err-fields-in-Struct-clause-value = Enums.enums::read_variant_content-returns-in_err-fields-in-Struct-clause-value

pub enums::read_variant_content-returns-in_ok-fields-in-Struct : goal.enums::read_variant_content-returns-in_ok-fields-in-Struct
enums::read_variant_content-returns-in_ok-fields-in-Struct = Enums.enums::read_variant_content-returns-in_ok-fields-in-Struct

pub structs::read_field-returns-in_err-field-clause-turns : goal.structs::read_field-returns-in_err-field-clause-turns
structs::read_field-returns-in_err-field-clause-turns = StructTurns.structs::read_field-returns-in_err-field-clause-turns

pub structs::read_field-returns-in_err-inner-clause-turns : goal.structs::read_field-returns-in_err-inner-clause-turns
structs::read_field-returns-in_err-inner-clause-turns = StructTurns.structs::read_field-returns-in_err-inner-clause-turns

pub structs::read_field-returns-in_err-skip_untyped-clause-turns : goal.structs::read_field-returns-in_err-skip_untyped-clause-turns
structs::read_field-returns-in_err-skip_untyped-clause-turns = StructTurns.structs::read_field-returns-in_err-skip_untyped-clause-turns

pub structs::read_field-returns-in_default-clause-turns : goal.structs::read_field-returns-in_default-clause-turns
structs::read_field-returns-in_default-clause-turns = StructTurns.structs::read_field-returns-in_default-clause-turns

pub structs::read_field-returns-in_default-clause-leads : goal.structs::read_field-returns-in_default-clause-leads
structs::read_field-returns-in_default-clause-leads = StructTurns.structs::read_field-returns-in_default-clause-leads

pub structs::read_field-returns-in_err-value-clause-turns : goal.structs::read_field-returns-in_err-value-clause-turns
structs::read_field-returns-in_err-value-clause-turns = StructTurns.structs::read_field-returns-in_err-value-clause-turns

pub structs::read_field-returns-clause-turns : goal.structs::read_field-returns-clause-turns
structs::read_field-returns-clause-turns = StructTurns.structs::read_field-returns-clause-turns

pub structs::read_field-returns-clause-leads : goal.structs::read_field-returns-clause-leads
structs::read_field-returns-clause-leads = StructTurns.structs::read_field-returns-clause-leads

pub structs::read_fields-returns-in_err-found-clause-turns : goal.structs::read_fields-returns-in_err-found-clause-turns
structs::read_fields-returns-in_err-found-clause-turns = StructTurns.structs::read_fields-returns-in_err-found-clause-turns

pub structs::read_fields-returns-in_err-item-clause-turns : goal.structs::read_fields-returns-in_err-item-clause-turns
structs::read_fields-returns-in_err-item-clause-turns = StructTurns.structs::read_fields-returns-in_err-item-clause-turns

pub structs::read_fields-returns-in_err-put-clause-turns : goal.structs::read_fields-returns-in_err-put-clause-turns
structs::read_fields-returns-in_err-put-clause-turns = StructTurns.structs::read_fields-returns-in_err-put-clause-turns

pub structs::read_fields-returns-in_err-read_comma-clause-turns : goal.structs::read_fields-returns-in_err-read_comma-clause-turns
structs::read_fields-returns-in_err-read_comma-clause-turns = StructTurns.structs::read_fields-returns-in_err-read_comma-clause-turns

pub structs::read_fields-returns-clause-turns : goal.structs::read_fields-returns-clause-turns
structs::read_fields-returns-clause-turns = StructTurns.structs::read_fields-returns-clause-turns

pub structs::read_fields_inside-returns-in_err-inner-clause-turns : goal.structs::read_fields_inside-returns-in_err-inner-clause-turns
structs::read_fields_inside-returns-in_err-inner-clause-turns = StructTurns.structs::read_fields_inside-returns-in_err-inner-clause-turns

pub structs::read_fields_inside-returns-in_err-found-clause-turns : goal.structs::read_fields_inside-returns-in_err-found-clause-turns
structs::read_fields_inside-returns-in_err-found-clause-turns = StructTurns.structs::read_fields_inside-returns-in_err-found-clause-turns

pub structs::read_fields_inside-returns-in_err-all-clause-turns : goal.structs::read_fields_inside-returns-in_err-all-clause-turns
structs::read_fields_inside-returns-in_err-all-clause-turns = StructTurns.structs::read_fields_inside-returns-in_err-all-clause-turns

pub structs::read_field_group-returns-in_err-pass_gap-clause-turns : goal.structs::read_field_group-returns-in_err-pass_gap-clause-turns
structs::read_field_group-returns-in_err-pass_gap-clause-turns = StructTurns.structs::read_field_group-returns-in_err-pass_gap-clause-turns

pub structs::read_field_group-returns-clause-turns : goal.structs::read_field_group-returns-clause-turns
structs::read_field_group-returns-clause-turns = StructTurns.structs::read_field_group-returns-clause-turns

pub structs::read_struct-returns-then-opens_interval-clause-turns : goal.structs::read_struct-returns-then-opens_interval-clause-turns
structs::read_struct-returns-then-opens_interval-clause-turns = StructTurns.structs::read_struct-returns-then-opens_interval-clause-turns

pub structs::read_struct-returns-in_err-read_name-clause-turns : goal.structs::read_struct-returns-in_err-read_name-clause-turns
structs::read_struct-returns-in_err-read_name-clause-turns = StructTurns.structs::read_struct-returns-in_err-read_name-clause-turns

pub structs::read_struct-returns-in_err-own-clause-turns : goal.structs::read_struct-returns-in_err-own-clause-turns
structs::read_struct-returns-in_err-own-clause-turns = StructTurns.structs::read_struct-returns-in_err-own-clause-turns

pub structs::read_struct-returns-then-not-take-clause-turns : goal.structs::read_struct-returns-then-not-take-clause-turns
structs::read_struct-returns-then-not-take-clause-turns = StructTurns.structs::read_struct-returns-then-not-take-clause-turns

pub structs::read_struct-returns-in_err-fields-clause-turns : goal.structs::read_struct-returns-in_err-fields-clause-turns
structs::read_struct-returns-in_err-fields-clause-turns = StructTurns.structs::read_struct-returns-in_err-fields-clause-turns

pub elements::read_element-returns-in_default-clause-turns : goal.elements::read_element-returns-in_default-clause-turns
elements::read_element-returns-in_default-clause-turns = Elements.elements::read_element-returns-in_default-clause-turns

pub elements::read_element-returns-in_err-inner-clause-turns : goal.elements::read_element-returns-in_err-inner-clause-turns
elements::read_element-returns-in_err-inner-clause-turns = Elements.elements::read_element-returns-in_err-inner-clause-turns

pub elements::read_element-returns-clause-turns : goal.elements::read_element-returns-clause-turns
elements::read_element-returns-clause-turns = Elements.elements::read_element-returns-clause-turns

pub elements::read_element-returns-clause-leads : goal.elements::read_element-returns-clause-leads
elements::read_element-returns-clause-leads = Elements.elements::read_element-returns-clause-leads

pub elements::read_elements-returns-in_err-item-clause-turns : goal.elements::read_elements-returns-in_err-item-clause-turns
elements::read_elements-returns-in_err-item-clause-turns = Elements.elements::read_elements-returns-in_err-item-clause-turns

pub elements::read_elements-returns-in_err-push-clause-turns : goal.elements::read_elements-returns-in_err-push-clause-turns
elements::read_elements-returns-in_err-push-clause-turns = Elements.elements::read_elements-returns-in_err-push-clause-turns

pub elements::read_elements-returns-in_err-pass_element_end-clause-turns : goal.elements::read_elements-returns-in_err-pass_element_end-clause-turns
elements::read_elements-returns-in_err-pass_element_end-clause-turns = Elements.elements::read_elements-returns-in_err-pass_element_end-clause-turns

pub elements::read_elements-returns-clause-turns : goal.elements::read_elements-returns-clause-turns
elements::read_elements-returns-clause-turns = Elements.elements::read_elements-returns-clause-turns

pub lists::read_seq-returns-then-not-take-clause-turns : goal.lists::read_seq-returns-then-not-take-clause-turns
lists::read_seq-returns-then-not-take-clause-turns = Lists.lists::read_seq-returns-then-not-take-clause-turns

pub lists::read_seq-returns-in_err-pass_gap-clause-turns : goal.lists::read_seq-returns-in_err-pass_gap-clause-turns
lists::read_seq-returns-in_err-pass_gap-clause-turns = Lists.lists::read_seq-returns-in_err-pass_gap-clause-turns

pub lists::read_seq-returns-in_err-inner-clause-turns : goal.lists::read_seq-returns-in_err-inner-clause-turns
lists::read_seq-returns-in_err-inner-clause-turns = Lists.lists::read_seq-returns-in_err-inner-clause-turns

pub lists::read_seq-returns-in_err-items-clause-turns : goal.lists::read_seq-returns-in_err-items-clause-turns
lists::read_seq-returns-in_err-items-clause-turns = Lists.lists::read_seq-returns-in_err-items-clause-turns

pub tuples::read_tuple_inside-returns-in_err-inner-clause-turns : goal.tuples::read_tuple_inside-returns-in_err-inner-clause-turns
tuples::read_tuple_inside-returns-in_err-inner-clause-turns = Tuples.tuples::read_tuple_inside-returns-in_err-inner-clause-turns

pub tuples::read_tuple_inside-returns-in_err-items-clause-turns : goal.tuples::read_tuple_inside-returns-in_err-items-clause-turns
tuples::read_tuple_inside-returns-in_err-items-clause-turns = Tuples.tuples::read_tuple_inside-returns-in_err-items-clause-turns

pub tuples::read_tuple_inside-returns-in_err-expect_length-clause-turns : goal.tuples::read_tuple_inside-returns-in_err-expect_length-clause-turns
tuples::read_tuple_inside-returns-in_err-expect_length-clause-turns = Tuples.tuples::read_tuple_inside-returns-in_err-expect_length-clause-turns

pub tuples::read_tuple_inside-returns-clause-turns : goal.tuples::read_tuple_inside-returns-clause-turns
tuples::read_tuple_inside-returns-clause-turns = Tuples.tuples::read_tuple_inside-returns-clause-turns

pub tuples::read_tuple_items-returns-in_err-pass_gap-clause-turns : goal.tuples::read_tuple_items-returns-in_err-pass_gap-clause-turns
tuples::read_tuple_items-returns-in_err-pass_gap-clause-turns = Tuples.tuples::read_tuple_items-returns-in_err-pass_gap-clause-turns

pub tuples::read_tuple_items-returns-clause-turns : goal.tuples::read_tuple_items-returns-clause-turns
tuples::read_tuple_items-returns-clause-turns = Tuples.tuples::read_tuple_items-returns-clause-turns

pub tuples::read_tuple-returns-then-not-take-clause-turns : goal.tuples::read_tuple-returns-then-not-take-clause-turns
tuples::read_tuple-returns-then-not-take-clause-turns = Tuples.tuples::read_tuple-returns-then-not-take-clause-turns

pub tuples::read_tuple-returns-in_err-items-clause-turns : goal.tuples::read_tuple-returns-in_err-items-clause-turns
tuples::read_tuple-returns-in_err-items-clause-turns = Tuples.tuples::read_tuple-returns-in_err-items-clause-turns

pub tuples::read_tuple_struct-returns-in_err-before_struct-clause-turns : goal.tuples::read_tuple_struct-returns-in_err-before_struct-clause-turns
tuples::read_tuple_struct-returns-in_err-before_struct-clause-turns = Tuples.tuples::read_tuple_struct-returns-in_err-before_struct-clause-turns

pub tuples::read_tuple_struct-returns-then-not-take-clause-turns : goal.tuples::read_tuple_struct-returns-then-not-take-clause-turns
tuples::read_tuple_struct-returns-then-not-take-clause-turns = Tuples.tuples::read_tuple_struct-returns-then-not-take-clause-turns

pub tuples::read_tuple_struct-returns-in_err-items-clause-turns : goal.tuples::read_tuple_struct-returns-in_err-items-clause-turns
tuples::read_tuple_struct-returns-in_err-items-clause-turns = Tuples.tuples::read_tuple_struct-returns-in_err-items-clause-turns

pub content::read_below-returns-in_err-inner-clause-turns : goal.content::read_below-returns-in_err-inner-clause-turns
content::read_below-returns-in_err-inner-clause-turns = Content.content::read_below-returns-in_err-inner-clause-turns

pub content::read_below-returns-clause-turns : goal.content::read_below-returns-clause-turns
content::read_below-returns-clause-turns = Content.content::read_below-returns-clause-turns

pub content::read_bare_below-returns-in_err-inner-clause-turns : goal.content::read_bare_below-returns-in_err-inner-clause-turns
content::read_bare_below-returns-in_err-inner-clause-turns = Content.content::read_bare_below-returns-in_err-inner-clause-turns

pub content::read_bare_below-returns-clause-turns : goal.content::read_bare_below-returns-clause-turns
content::read_bare_below-returns-clause-turns = Content.content::read_bare_below-returns-clause-turns

pub content::read_content-returns-in_err-pass_gap-clause-turns : goal.content::read_content-returns-in_err-pass_gap-clause-turns
content::read_content-returns-in_err-pass_gap-clause-turns = Content.content::read_content-returns-in_err-pass_gap-clause-turns

pub content::read_content-returns-then-is_unwrapped-clause-turns : goal.content::read_content-returns-then-is_unwrapped-clause-turns
content::read_content-returns-then-is_unwrapped-clause-turns = Content.content::read_content-returns-then-is_unwrapped-clause-turns

pub content::read_content-returns-in_err-value-clause-turns : goal.content::read_content-returns-in_err-value-clause-turns
content::read_content-returns-in_err-value-clause-turns = Content.content::read_content-returns-in_err-value-clause-turns

pub content::read_content-returns-in_err-close_content-clause-turns : goal.content::read_content-returns-in_err-close_content-clause-turns
content::read_content-returns-in_err-close_content-clause-turns = Content.content::read_content-returns-in_err-close_content-clause-turns

pub newtypes::read_held-returns-in_err-read_name-clause-turns : goal.newtypes::read_held-returns-in_err-read_name-clause-turns
newtypes::read_held-returns-in_err-read_name-clause-turns = Newtypes.newtypes::read_held-returns-in_err-read_name-clause-turns

pub newtypes::read_held-returns-then-not-take-clause-turns : goal.newtypes::read_held-returns-then-not-take-clause-turns
newtypes::read_held-returns-then-not-take-clause-turns = Newtypes.newtypes::read_held-returns-then-not-take-clause-turns

pub newtypes::read_held-returns-clause-turns : goal.newtypes::read_held-returns-clause-turns
newtypes::read_held-returns-clause-turns = Newtypes.newtypes::read_held-returns-clause-turns

pub newtypes::read_newtype-returns-in_err-value-clause-turns : goal.newtypes::read_newtype-returns-in_err-value-clause-turns
newtypes::read_newtype-returns-in_err-value-clause-turns = Newtypes.newtypes::read_newtype-returns-in_err-value-clause-turns

pub value::read_value-returns-in-Some-Bool-clause-turns : goal.value::read_value-returns-in-Some-Bool-clause-turns
value::read_value-returns-in-Some-Bool-clause-turns = Values.value::read_value-returns-in-Some-Bool-clause-turns

pub value::read_value-returns-in-Some-Unit-clause-turns : goal.value::read_value-returns-in-Some-Unit-clause-turns
value::read_value-returns-in-Some-Unit-clause-turns = Values.value::read_value-returns-in-Some-Unit-clause-turns

pub value::read_value-returns-in-Some-Int-clause-turns : goal.value::read_value-returns-in-Some-Int-clause-turns
value::read_value-returns-in-Some-Int-clause-turns = Values.value::read_value-returns-in-Some-Int-clause-turns

pub value::read_value-returns-in-Some-Char-clause-turns : goal.value::read_value-returns-in-Some-Char-clause-turns
value::read_value-returns-in-Some-Char-clause-turns = Values.value::read_value-returns-in-Some-Char-clause-turns

pub value::read_value-returns-in-Some-Str-clause-turns : goal.value::read_value-returns-in-Some-Str-clause-turns
value::read_value-returns-in-Some-Str-clause-turns = Values.value::read_value-returns-in-Some-Str-clause-turns

pub value::read_value-returns-in-Some-UnitStruct-clause-turns : goal.value::read_value-returns-in-Some-UnitStruct-clause-turns
value::read_value-returns-in-Some-UnitStruct-clause-turns = Values.value::read_value-returns-in-Some-UnitStruct-clause-turns

pub value::read_value-returns-in-Some-Bytes-clause-turns : goal.value::read_value-returns-in-Some-Bytes-clause-turns
value::read_value-returns-in-Some-Bytes-clause-turns = Values.value::read_value-returns-in-Some-Bytes-clause-turns

pub value::read_value-returns-in-Some-Seq-clause-turns : goal.value::read_value-returns-in-Some-Seq-clause-turns
value::read_value-returns-in-Some-Seq-clause-turns = Values.value::read_value-returns-in-Some-Seq-clause-turns

pub value::read_value-returns-in-Some-Tuple-clause-turns : goal.value::read_value-returns-in-Some-Tuple-clause-turns
value::read_value-returns-in-Some-Tuple-clause-turns = Values.value::read_value-returns-in-Some-Tuple-clause-turns

pub value::read_value-returns-in-Some-Map-clause-turns : goal.value::read_value-returns-in-Some-Map-clause-turns
value::read_value-returns-in-Some-Map-clause-turns = Values.value::read_value-returns-in-Some-Map-clause-turns

pub value::read_value-returns-in-Some-TupleStruct-clause-turns : goal.value::read_value-returns-in-Some-TupleStruct-clause-turns
value::read_value-returns-in-Some-TupleStruct-clause-turns = Values.value::read_value-returns-in-Some-TupleStruct-clause-turns

pub value::read_value-returns-in-Some-Struct-clause-turns : goal.value::read_value-returns-in-Some-Struct-clause-turns
value::read_value-returns-in-Some-Struct-clause-turns = Values.value::read_value-returns-in-Some-Struct-clause-turns

pub value::read_value-returns-in-Some-Enum-clause-turns : goal.value::read_value-returns-in-Some-Enum-clause-turns
value::read_value-returns-in-Some-Enum-clause-turns = Values.value::read_value-returns-in-Some-Enum-clause-turns

pub value::read_value-returns-in-Some-Option-clause-turns : goal.value::read_value-returns-in-Some-Option-clause-turns
value::read_value-returns-in-Some-Option-clause-turns = Values.value::read_value-returns-in-Some-Option-clause-turns

pub value::read_value-returns-in-Some-Newtype-clause-turns : goal.value::read_value-returns-in-Some-Newtype-clause-turns
value::read_value-returns-in-Some-Newtype-clause-turns = Values.value::read_value-returns-in-Some-Newtype-clause-turns

pub value::read_value-returns-in-Some-Value-clause-turns : goal.value::read_value-returns-in-Some-Value-clause-turns
value::read_value-returns-in-Some-Value-clause-turns = Values.value::read_value-returns-in-Some-Value-clause-turns

pub value::read_value-returns-in-Some-Raw-clause-turns : goal.value::read_value-returns-in-Some-Raw-clause-turns
value::read_value-returns-in-Some-Raw-clause-turns = Values.value::read_value-returns-in-Some-Raw-clause-turns

pub bare::read_closed-returns-in_err-value-clause-turns : goal.bare::read_closed-returns-in_err-value-clause-turns
bare::read_closed-returns-in_err-value-clause-turns = BareTurns.bare::read_closed-returns-in_err-value-clause-turns

pub bare::read_closed-returns-in_err-close_content-clause-turns : goal.bare::read_closed-returns-in_err-close_content-clause-turns
bare::read_closed-returns-in_err-close_content-clause-turns = BareTurns.bare::read_closed-returns-in_err-close_content-clause-turns

pub bare::read_bare_newtype-returns-in_err-value-clause-turns : goal.bare::read_bare_newtype-returns-in_err-value-clause-turns
bare::read_bare_newtype-returns-in_err-value-clause-turns = BareTurns.bare::read_bare_newtype-returns-in_err-value-clause-turns

pub bare::read_bare_newtype-returns-in_err-close_content-clause-turns : goal.bare::read_bare_newtype-returns-in_err-close_content-clause-turns
bare::read_bare_newtype-returns-in_err-close_content-clause-turns = BareTurns.bare::read_bare_newtype-returns-in_err-close_content-clause-turns

pub bare::read_closed-returns-clause-turns : goal.bare::read_closed-returns-clause-turns
bare::read_closed-returns-clause-turns = BareTurns.bare::read_closed-returns-clause-turns

pub bare::read_bare_newtype-returns-in_err-name-clause-turns : goal.bare::read_bare_newtype-returns-in_err-name-clause-turns
bare::read_bare_newtype-returns-in_err-name-clause-turns = BareTurns.bare::read_bare_newtype-returns-in_err-name-clause-turns

pub bare::read_bare_newtype-returns-in_err-new-clause-turns : goal.bare::read_bare_newtype-returns-in_err-new-clause-turns
bare::read_bare_newtype-returns-in_err-new-clause-turns = BareTurns.bare::read_bare_newtype-returns-in_err-new-clause-turns

pub bare::read_bare_option-returns-then-not-stands_alone-clause-turns : goal.bare::read_bare_option-returns-then-not-stands_alone-clause-turns
bare::read_bare_option-returns-then-not-stands_alone-clause-turns = BareTurns.bare::read_bare_option-returns-then-not-stands_alone-clause-turns

pub bare::read_bare_option-returns-in_err-value-clause-turns : goal.bare::read_bare_option-returns-in_err-value-clause-turns
bare::read_bare_option-returns-in_err-value-clause-turns = BareTurns.bare::read_bare_option-returns-in_err-value-clause-turns

pub bare::read_bare_option-returns-in_err-new-clause-turns : goal.bare::read_bare_option-returns-in_err-new-clause-turns
bare::read_bare_option-returns-in_err-new-clause-turns = BareTurns.bare::read_bare_option-returns-in_err-new-clause-turns

pub bare::read_bare_items-returns-in_err-deeper-clause-turns : goal.bare::read_bare_items-returns-in_err-deeper-clause-turns
bare::read_bare_items-returns-in_err-deeper-clause-turns = BareTurns.bare::read_bare_items-returns-in_err-deeper-clause-turns

pub bare::read_bare_items-returns-in_err-close_bare-clause-turns : goal.bare::read_bare_items-returns-in_err-close_bare-clause-turns
bare::read_bare_items-returns-in_err-close_bare-clause-turns = BareTurns.bare::read_bare_items-returns-in_err-close_bare-clause-turns

pub bare::read_bare_items-returns-clause-turns : goal.bare::read_bare_items-returns-clause-turns
bare::read_bare_items-returns-clause-turns = BareTurns.bare::read_bare_items-returns-clause-turns

pub bare::read_bare-returns-in_err-close_bare-in-Some-Unit-clause-turns : goal.bare::read_bare-returns-in_err-close_bare-in-Some-Unit-clause-turns
bare::read_bare-returns-in_err-close_bare-in-Some-Unit-clause-turns = BareTurns.bare::read_bare-returns-in_err-close_bare-in-Some-Unit-clause-turns

pub bare::read_bare-returns-in_ok-close_bare-in-Some-Unit-clause-turns : goal.bare::read_bare-returns-in_ok-close_bare-in-Some-Unit-clause-turns
bare::read_bare-returns-in_ok-close_bare-in-Some-Unit-clause-turns = BareTurns.bare::read_bare-returns-in_ok-close_bare-in-Some-Unit-clause-turns

pub bare::read_bare-returns-then-opens_interval-clause-turns : goal.bare::read_bare-returns-then-opens_interval-clause-turns
bare::read_bare-returns-then-opens_interval-clause-turns = BareTurns.bare::read_bare-returns-then-opens_interval-clause-turns

pub bare::read_bare-returns-then-opens_interval-2-clause-turns : goal.bare::read_bare-returns-then-opens_interval-2-clause-turns
bare::read_bare-returns-then-opens_interval-2-clause-turns = BareTurns.bare::read_bare-returns-then-opens_interval-2-clause-turns

pub bare::read_bare-returns-in_err-close_bare-in-Some-UnitStruct-clause-turns : goal.bare::read_bare-returns-in_err-close_bare-in-Some-UnitStruct-clause-turns
bare::read_bare-returns-in_err-close_bare-in-Some-UnitStruct-clause-turns = BareTurns.bare::read_bare-returns-in_err-close_bare-in-Some-UnitStruct-clause-turns

pub bare::read_bare-returns-in_err-from_str-in-Some-UnitStruct-clause-turns : goal.bare::read_bare-returns-in_err-from_str-in-Some-UnitStruct-clause-turns
bare::read_bare-returns-in_err-from_str-in-Some-UnitStruct-clause-turns = BareTurns.bare::read_bare-returns-in_err-from_str-in-Some-UnitStruct-clause-turns

pub bare::read_bare-returns-in_ok-from_str-in-Some-UnitStruct-clause-turns : goal.bare::read_bare-returns-in_ok-from_str-in-Some-UnitStruct-clause-turns
bare::read_bare-returns-in_ok-from_str-in-Some-UnitStruct-clause-turns = BareTurns.bare::read_bare-returns-in_ok-from_str-in-Some-UnitStruct-clause-turns

pub bare::read_bare-returns-in_err-items-in-Some-Tuple-clause-turns : goal.bare::read_bare-returns-in_err-items-in-Some-Tuple-clause-turns
bare::read_bare-returns-in_err-items-in-Some-Tuple-clause-turns = BareTurns.bare::read_bare-returns-in_err-items-in-Some-Tuple-clause-turns

pub bare::read_bare-returns-in_err-items-in-Some-TupleStruct-clause-turns : goal.bare::read_bare-returns-in_err-items-in-Some-TupleStruct-clause-turns
bare::read_bare-returns-in_err-items-in-Some-TupleStruct-clause-turns = BareTurns.bare::read_bare-returns-in_err-items-in-Some-TupleStruct-clause-turns

pub bare::read_bare-returns-in_err-from_str-in-Some-TupleStruct-clause-turns : goal.bare::read_bare-returns-in_err-from_str-in-Some-TupleStruct-clause-turns
bare::read_bare-returns-in_err-from_str-in-Some-TupleStruct-clause-turns = BareTurns.bare::read_bare-returns-in_err-from_str-in-Some-TupleStruct-clause-turns

pub bare::read_bare-returns-in_err-fields-in-Some-Struct-clause-turns : goal.bare::read_bare-returns-in_err-fields-in-Some-Struct-clause-turns
bare::read_bare-returns-in_err-fields-in-Some-Struct-clause-turns = BareTurns.bare::read_bare-returns-in_err-fields-in-Some-Struct-clause-turns

pub bare::read_bare-returns-in_err-from_str-in-Some-Struct-clause-turns : goal.bare::read_bare-returns-in_err-from_str-in-Some-Struct-clause-turns
bare::read_bare-returns-in_err-from_str-in-Some-Struct-clause-turns = BareTurns.bare::read_bare-returns-in_err-from_str-in-Some-Struct-clause-turns

pub bare::read_bare-returns-in-Some-Bool-clause-turns : goal.bare::read_bare-returns-in-Some-Bool-clause-turns
bare::read_bare-returns-in-Some-Bool-clause-turns = BareTurns.bare::read_bare-returns-in-Some-Bool-clause-turns

pub bare::read_bare-returns-in-Some-Int-clause-turns : goal.bare::read_bare-returns-in-Some-Int-clause-turns
bare::read_bare-returns-in-Some-Int-clause-turns = BareTurns.bare::read_bare-returns-in-Some-Int-clause-turns

pub bare::read_bare-returns-in-Some-Char-clause-turns : goal.bare::read_bare-returns-in-Some-Char-clause-turns
bare::read_bare-returns-in-Some-Char-clause-turns = BareTurns.bare::read_bare-returns-in-Some-Char-clause-turns

pub bare::read_bare-returns-in-Some-Str-clause-turns : goal.bare::read_bare-returns-in-Some-Str-clause-turns
bare::read_bare-returns-in-Some-Str-clause-turns = BareTurns.bare::read_bare-returns-in-Some-Str-clause-turns

pub bare::read_bare-returns-in-Some-Bytes-clause-turns : goal.bare::read_bare-returns-in-Some-Bytes-clause-turns
bare::read_bare-returns-in-Some-Bytes-clause-turns = BareTurns.bare::read_bare-returns-in-Some-Bytes-clause-turns

pub bare::read_bare-returns-in-Some-Seq-clause-turns : goal.bare::read_bare-returns-in-Some-Seq-clause-turns
bare::read_bare-returns-in-Some-Seq-clause-turns = BareTurns.bare::read_bare-returns-in-Some-Seq-clause-turns

pub bare::read_bare-returns-in-Some-Map-clause-turns : goal.bare::read_bare-returns-in-Some-Map-clause-turns
bare::read_bare-returns-in-Some-Map-clause-turns = BareTurns.bare::read_bare-returns-in-Some-Map-clause-turns

pub bare::read_bare-returns-in-Some-Enum-clause-turns : goal.bare::read_bare-returns-in-Some-Enum-clause-turns
bare::read_bare-returns-in-Some-Enum-clause-turns = BareTurns.bare::read_bare-returns-in-Some-Enum-clause-turns

pub bare::read_bare-returns-in-Some-Raw-clause-turns : goal.bare::read_bare-returns-in-Some-Raw-clause-turns
bare::read_bare-returns-in-Some-Raw-clause-turns = BareTurns.bare::read_bare-returns-in-Some-Raw-clause-turns

pub bare::read_bare-returns-in-Some-Value-clause-turns : goal.bare::read_bare-returns-in-Some-Value-clause-turns
bare::read_bare-returns-in-Some-Value-clause-turns = BareTurns.bare::read_bare-returns-in-Some-Value-clause-turns

pub bare::read_bare-returns-in-Some-Newtype-clause-turns : goal.bare::read_bare-returns-in-Some-Newtype-clause-turns
bare::read_bare-returns-in-Some-Newtype-clause-turns = BareTurns.bare::read_bare-returns-in-Some-Newtype-clause-turns

pub options::read_option-returns-then-take_none-clause-turns : goal.options::read_option-returns-then-take_none-clause-turns
options::read_option-returns-then-take_none-clause-turns = Options.options::read_option-returns-then-take_none-clause-turns

pub options::read_option-returns-in_err-value-clause-turns : goal.options::read_option-returns-in_err-value-clause-turns
options::read_option-returns-in_err-value-clause-turns = Options.options::read_option-returns-in_err-value-clause-turns

pub options::read_some-returns-then-take_some-clause-turns : goal.options::read_some-returns-then-take_some-clause-turns
options::read_some-returns-then-take_some-clause-turns = Options.options::read_some-returns-then-take_some-clause-turns

pub options::read_some-returns-then-implies_some-clause-turns : goal.options::read_some-returns-then-implies_some-clause-turns
options::read_some-returns-then-implies_some-clause-turns = Options.options::read_some-returns-then-implies_some-clause-turns

pub options::read_some-returns-clause-turns : goal.options::read_some-returns-clause-turns
options::read_some-returns-clause-turns = Options.options::read_some-returns-clause-turns

pub maps::read_pair-returns-in_err-inner-clause-turns : goal.maps::read_pair-returns-in_err-inner-clause-turns
maps::read_pair-returns-in_err-inner-clause-turns = Maps.maps::read_pair-returns-in_err-inner-clause-turns

pub maps::read_pair-returns-in_err-key-clause-turns : goal.maps::read_pair-returns-in_err-key-clause-turns
maps::read_pair-returns-in_err-key-clause-turns = Maps.maps::read_pair-returns-in_err-key-clause-turns

pub maps::read_pair-returns-in_err-pass_colon-clause-turns : goal.maps::read_pair-returns-in_err-pass_colon-clause-turns
maps::read_pair-returns-in_err-pass_colon-clause-turns = Maps.maps::read_pair-returns-in_err-pass_colon-clause-turns

pub maps::read_pair-returns-in_err-value-clause-turns : goal.maps::read_pair-returns-in_err-value-clause-turns
maps::read_pair-returns-in_err-value-clause-turns = Maps.maps::read_pair-returns-in_err-value-clause-turns

pub maps::read_pair-returns-clause-turns : goal.maps::read_pair-returns-clause-turns
maps::read_pair-returns-clause-turns = Maps.maps::read_pair-returns-clause-turns

pub maps::read_pair-returns-clause-leads : goal.maps::read_pair-returns-clause-leads
maps::read_pair-returns-clause-leads = Maps.maps::read_pair-returns-clause-leads

pub maps::read_pairs-returns-in_err-pair-clause-turns : goal.maps::read_pairs-returns-in_err-pair-clause-turns
maps::read_pairs-returns-in_err-pair-clause-turns = Maps.maps::read_pairs-returns-in_err-pair-clause-turns

pub maps::read_pairs-returns-in_err-push-clause-turns : goal.maps::read_pairs-returns-in_err-push-clause-turns
maps::read_pairs-returns-in_err-push-clause-turns = Maps.maps::read_pairs-returns-in_err-push-clause-turns

pub maps::read_pairs-returns-in_err-read_comma-clause-turns : goal.maps::read_pairs-returns-in_err-read_comma-clause-turns
maps::read_pairs-returns-in_err-read_comma-clause-turns = Maps.maps::read_pairs-returns-in_err-read_comma-clause-turns

pub maps::read_pairs-returns-clause-turns : goal.maps::read_pairs-returns-clause-turns
maps::read_pairs-returns-clause-turns = Maps.maps::read_pairs-returns-clause-turns

pub maps::read_map-returns-then-not-take-clause-turns : goal.maps::read_map-returns-then-not-take-clause-turns
maps::read_map-returns-then-not-take-clause-turns = Maps.maps::read_map-returns-then-not-take-clause-turns

pub maps::read_map-returns-in_err-pass_gap-clause-turns : goal.maps::read_map-returns-in_err-pass_gap-clause-turns
maps::read_map-returns-in_err-pass_gap-clause-turns = Maps.maps::read_map-returns-in_err-pass_gap-clause-turns

pub maps::read_map-returns-in_err-inner-clause-turns : goal.maps::read_map-returns-in_err-inner-clause-turns
maps::read_map-returns-in_err-inner-clause-turns = Maps.maps::read_map-returns-in_err-inner-clause-turns

pub maps::read_map-returns-in_err-pairs-clause-turns : goal.maps::read_map-returns-in_err-pairs-clause-turns
maps::read_map-returns-in_err-pairs-clause-turns = Maps.maps::read_map-returns-in_err-pairs-clause-turns

pub maps::read_map-returns-in_err-folded-clause-turns : goal.maps::read_map-returns-in_err-folded-clause-turns
maps::read_map-returns-in_err-folded-clause-turns = Maps.maps::read_map-returns-in_err-folded-clause-turns

pub enums::read_enum-returns-in_err-inner-clause-turns : goal.enums::read_enum-returns-in_err-inner-clause-turns
enums::read_enum-returns-in_err-inner-clause-turns = Enums.enums::read_enum-returns-in_err-inner-clause-turns

pub enums::read_enum-returns-in_err-deeper-clause-turns : goal.enums::read_enum-returns-in_err-deeper-clause-turns
enums::read_enum-returns-in_err-deeper-clause-turns = Enums.enums::read_enum-returns-in_err-deeper-clause-turns

pub enums::read_enum-returns-in_err-found-clause-turns : goal.enums::read_enum-returns-in_err-found-clause-turns
enums::read_enum-returns-in_err-found-clause-turns = Enums.enums::read_enum-returns-in_err-found-clause-turns

pub enums::read_enum-returns-in_err-content-clause-turns : goal.enums::read_enum-returns-in_err-content-clause-turns
enums::read_enum-returns-in_err-content-clause-turns = Enums.enums::read_enum-returns-in_err-content-clause-turns

pub enums::read_enum-returns-in_err-name-clause-turns : goal.enums::read_enum-returns-in_err-name-clause-turns
enums::read_enum-returns-in_err-name-clause-turns = Enums.enums::read_enum-returns-in_err-name-clause-turns

pub enums::read_enum-returns-in_err-variant-clause-turns : goal.enums::read_enum-returns-in_err-variant-clause-turns
enums::read_enum-returns-in_err-variant-clause-turns = Enums.enums::read_enum-returns-in_err-variant-clause-turns

pub enums::read_variant_content-returns-in-Unit-clause-turns : goal.enums::read_variant_content-returns-in-Unit-clause-turns
enums::read_variant_content-returns-in-Unit-clause-turns = Enums.enums::read_variant_content-returns-in-Unit-clause-turns

pub enums::read_variant_content-returns-in_err-pass_gap-in-Newtype-clause-turns :
    goal.enums::read_variant_content-returns-in_err-pass_gap-in-Newtype-clause-turns
enums::read_variant_content-returns-in_err-pass_gap-in-Newtype-clause-turns = Enums.enums::read_variant_content-returns-in_err-pass_gap-in-Newtype-clause-turns

pub enums::read_variant_content-returns-then-not-take-clause-turns : goal.enums::read_variant_content-returns-then-not-take-clause-turns
enums::read_variant_content-returns-then-not-take-clause-turns = Enums.enums::read_variant_content-returns-then-not-take-clause-turns

pub enums::read_variant_content-returns-in_err-value-in-Newtype-clause-turns : goal.enums::read_variant_content-returns-in_err-value-in-Newtype-clause-turns
enums::read_variant_content-returns-in_err-value-in-Newtype-clause-turns = Enums.enums::read_variant_content-returns-in_err-value-in-Newtype-clause-turns

pub enums::read_variant_content-returns-in_err-new-in-Newtype-clause-turns : goal.enums::read_variant_content-returns-in_err-new-in-Newtype-clause-turns
enums::read_variant_content-returns-in_err-new-in-Newtype-clause-turns = Enums.enums::read_variant_content-returns-in_err-new-in-Newtype-clause-turns

pub enums::read_variant_content-returns-in_ok-new-in-Newtype-clause-turns : goal.enums::read_variant_content-returns-in_ok-new-in-Newtype-clause-turns
enums::read_variant_content-returns-in_ok-new-in-Newtype-clause-turns = Enums.enums::read_variant_content-returns-in_ok-new-in-Newtype-clause-turns

pub enums::read_variant_content-returns-in_err-pass_gap-in-Tuple-clause-turns : goal.enums::read_variant_content-returns-in_err-pass_gap-in-Tuple-clause-turns
enums::read_variant_content-returns-in_err-pass_gap-in-Tuple-clause-turns = Enums.enums::read_variant_content-returns-in_err-pass_gap-in-Tuple-clause-turns

pub enums::read_variant_content-returns-then-not-take-2-clause-turns : goal.enums::read_variant_content-returns-then-not-take-2-clause-turns
enums::read_variant_content-returns-then-not-take-2-clause-turns = Enums.enums::read_variant_content-returns-then-not-take-2-clause-turns

pub enums::read_variant_content-returns-in_err-items-in-Tuple-clause-turns : goal.enums::read_variant_content-returns-in_err-items-in-Tuple-clause-turns
enums::read_variant_content-returns-in_err-items-in-Tuple-clause-turns = Enums.enums::read_variant_content-returns-in_err-items-in-Tuple-clause-turns

pub enums::read_variant_content-returns-in_err-pass_gap-in-Struct-clause-turns : goal.enums::read_variant_content-returns-in_err-pass_gap-in-Struct-clause-turns
enums::read_variant_content-returns-in_err-pass_gap-in-Struct-clause-turns = Enums.enums::read_variant_content-returns-in_err-pass_gap-in-Struct-clause-turns

pub enums::read_variant_content-returns-then-not-take-3-clause-turns : goal.enums::read_variant_content-returns-then-not-take-3-clause-turns
enums::read_variant_content-returns-then-not-take-3-clause-turns = Enums.enums::read_variant_content-returns-then-not-take-3-clause-turns

pub enums::read_variant_content-returns-in_err-fields-in-Struct-clause-turns : goal.enums::read_variant_content-returns-in_err-fields-in-Struct-clause-turns
enums::read_variant_content-returns-in_err-fields-in-Struct-clause-turns = Enums.enums::read_variant_content-returns-in_err-fields-in-Struct-clause-turns

pub elements::read_elements-items-init : goal.elements::read_elements-items-init
elements::read_elements-items-init = Elements.elements::read_elements-items-init

pub maps::read_pairs-pairs-init : goal.maps::read_pairs-pairs-init
maps::read_pairs-pairs-init = Maps.maps::read_pairs-pairs-init

pub newtypes::read_held-returns-in_err-from_str-clause-turns : goal.newtypes::read_held-returns-in_err-from_str-clause-turns
newtypes::read_held-returns-in_err-from_str-clause-turns = Newtypes.newtypes::read_held-returns-in_err-from_str-clause-turns

pub structs::read_struct-returns-in_err-from_str-clause-turns : goal.structs::read_struct-returns-in_err-from_str-clause-turns
structs::read_struct-returns-in_err-from_str-clause-turns = StructTurns.structs::read_struct-returns-in_err-from_str-clause-turns

pub tuples::read_tuple_struct-returns-in_err-from_str-clause-turns : goal.tuples::read_tuple_struct-returns-in_err-from_str-clause-turns
tuples::read_tuple_struct-returns-in_err-from_str-clause-turns = Tuples.tuples::read_tuple_struct-returns-in_err-from_str-clause-turns

pub tuples::read_tuple_struct-returns-in_err-from_str-2-clause-turns : goal.tuples::read_tuple_struct-returns-in_err-from_str-2-clause-turns
tuples::read_tuple_struct-returns-in_err-from_str-2-clause-turns = Tuples.tuples::read_tuple_struct-returns-in_err-from_str-2-clause-turns

pub value::read_value-unreachable-requires : goal.value::read_value-unreachable-requires
value::read_value-unreachable-requires = Values.value::read_value-unreachable-requires

pub bare::read_bare-returns-in-Some-Value-clause-advance : goal.bare::read_bare-returns-in-Some-Value-clause-advance
bare::read_bare-returns-in-Some-Value-clause-advance = BareTurns.bare::read_bare-returns-in-Some-Value-clause-advance

pub content::read_below-returns-clause-advance : goal.content::read_below-returns-clause-advance
content::read_below-returns-clause-advance = Content.content::read_below-returns-clause-advance

pub content::read_bare_below-returns-clause-advance : goal.content::read_bare_below-returns-clause-advance
content::read_bare_below-returns-clause-advance = Content.content::read_bare_below-returns-clause-advance

pub elements::read_element-returns-clause-advance : goal.elements::read_element-returns-clause-advance
elements::read_element-returns-clause-advance = Elements.elements::read_element-returns-clause-advance

pub structs::read_field-returns-clause-advance : goal.structs::read_field-returns-clause-advance
structs::read_field-returns-clause-advance = Structs.structs::read_field-returns-clause-advance

pub structs::read_struct-returns-then-opens_interval-clause-advance : goal.structs::read_struct-returns-then-opens_interval-clause-advance
structs::read_struct-returns-then-opens_interval-clause-advance = Structs.structs::read_struct-returns-then-opens_interval-clause-advance

pub tuples::read_tuple_inside-returns-clause-advance : goal.tuples::read_tuple_inside-returns-clause-advance
tuples::read_tuple_inside-returns-clause-advance = Tuples.tuples::read_tuple_inside-returns-clause-advance

pub value::read_value-returns-in-Some-Bool-clause-slices : goal.value::read_value-returns-in-Some-Bool-clause-slices
value::read_value-returns-in-Some-Bool-clause-slices = Values.value::read_value-returns-in-Some-Bool-clause-slices

pub value::read_value-returns-in-Some-Int-clause-slices : goal.value::read_value-returns-in-Some-Int-clause-slices
value::read_value-returns-in-Some-Int-clause-slices = Values.value::read_value-returns-in-Some-Int-clause-slices

pub value::read_value-returns-in-Some-Char-clause-slices : goal.value::read_value-returns-in-Some-Char-clause-slices
value::read_value-returns-in-Some-Char-clause-slices = Values.value::read_value-returns-in-Some-Char-clause-slices

pub value::read_value-returns-in-Some-Unit-clause-slices : goal.value::read_value-returns-in-Some-Unit-clause-slices
value::read_value-returns-in-Some-Unit-clause-slices = Values.value::read_value-returns-in-Some-Unit-clause-slices

pub value::read_value-returns-in-Some-UnitStruct-clause-slices : goal.value::read_value-returns-in-Some-UnitStruct-clause-slices
value::read_value-returns-in-Some-UnitStruct-clause-slices = Values.value::read_value-returns-in-Some-UnitStruct-clause-slices

pub value::read_value-returns-in-Some-Value-clause-slices : goal.value::read_value-returns-in-Some-Value-clause-slices
value::read_value-returns-in-Some-Value-clause-slices = Values.value::read_value-returns-in-Some-Value-clause-slices

pub enums::read_variant_content-returns-in_ok-new-in-Newtype-clause-advance : goal.enums::read_variant_content-returns-in_ok-new-in-Newtype-clause-advance
enums::read_variant_content-returns-in_ok-new-in-Newtype-clause-advance = Enums.enums::read_variant_content-returns-in_ok-new-in-Newtype-clause-advance

pub content::read_content-returns-then-is_unwrapped-clause-advance : goal.content::read_content-returns-then-is_unwrapped-clause-advance
content::read_content-returns-then-is_unwrapped-clause-advance = Content.content::read_content-returns-then-is_unwrapped-clause-advance

pub options::read_some-returns-then-take_some-clause-advance : goal.options::read_some-returns-then-take_some-clause-advance
options::read_some-returns-then-take_some-clause-advance = Options.options::read_some-returns-then-take_some-clause-advance

pub options::read_some-returns-then-implies_some-clause-advance : goal.options::read_some-returns-then-implies_some-clause-advance
options::read_some-returns-then-implies_some-clause-advance = Options.options::read_some-returns-then-implies_some-clause-advance

pub bare::read_bare_option-returns-then-not-stands_alone-clause-advance : goal.bare::read_bare_option-returns-then-not-stands_alone-clause-advance
bare::read_bare_option-returns-then-not-stands_alone-clause-advance = Bare.bare::read_bare_option-returns-then-not-stands_alone-clause-advance

pub tuples::read_tuple_items-returns-clause-advance : goal.tuples::read_tuple_items-returns-clause-advance
tuples::read_tuple_items-returns-clause-advance = Tuples.tuples::read_tuple_items-returns-clause-advance

pub newtypes::read_held-returns-clause-advance : goal.newtypes::read_held-returns-clause-advance
newtypes::read_held-returns-clause-advance = Newtypes.newtypes::read_held-returns-clause-advance

pub structs::read_field_group-returns-clause-advance : goal.structs::read_field_group-returns-clause-advance
structs::read_field_group-returns-clause-advance = Structs.structs::read_field_group-returns-clause-advance
