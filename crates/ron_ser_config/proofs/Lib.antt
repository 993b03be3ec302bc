mod FieldTrees
mod EntryLemmas
mod CopyLemmas
mod DocLemmas
mod ConfigLemmas
