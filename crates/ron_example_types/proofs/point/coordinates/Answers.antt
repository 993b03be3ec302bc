use Rattle.ron_example_types.proofs.CoordinateLemmas.{none_of_few, none_of_many, both_of_two}
use Rattle.ron_example_types.proofs.point.coordinates.Goals as goal

pub returns-in_default-as_slice : goal.returns-in_default-as_slice
returns-in_default-as_slice c = none_of_few _ _ _ _ c.in-Struct.is c.as_slice.ensures.value c.in_default-as_slice.len_below

pub returns-in_default-as_slice-2 : goal.returns-in_default-as_slice-2
returns-in_default-as_slice-2 c = none_of_many _ _ _ _ c.in-Struct.is c.as_slice.ensures.value c.in_default-as_slice.len_at_least

pub returns : goal.returns
returns c = both_of_two _ _ _ _ c.x-item.result c.y-item.result c.integer.result c.integer-2.result c.zip.result c.in-Struct.is c.as_slice.ensures.value
    c.in-len2.len_at_least c.in-len2.len_below c.x-item.is c.y-item.is c.integer.ensures c.integer-2.ensures c.zip.ensures
