-- Names of a list, taken one after another, beside those that were seen.
use Rattle.std.specs.Prelude.{◌≡◌, ℕ, Bool, not, ◌&&◌, List, ◌∷◌, ◌++◌, map, String, string_bytes}
use Rattle.std.specs.Borrow.{Bor}
use Rattle.std.specs.BTreeSet.{BTreeSet}
use Rattle.std.specs.List.{list_all}
use Rattle.std.specs.declared.alloc.Global.{Global}
use Rattle.ron_spec_grammar.specs.Schema.{holds_text, all_differ}
use Rattle.ron_data_schema.specs.declared.schema.FieldShape.{FieldShape}

-- names of code
abbrev pub Names : Type 0
Names = List (String Global)

-- the bytes of the names in a set
abbrev pub seen_in : BTreeSet (Bor (List ℕ)) → List (List ℕ)
seen_in seen = map (λ k. k.now) seen.keys

-- none of the names was seen, and they differ, by their bytes
abbrev pub are_new : List (List ℕ) → Names → Bool
are_new seen names = list_all (λ s. not (holds_text (string_bytes s) seen)) names && all_differ (map string_bytes names)

-- Whatever stands behind the field's names, all are new where these are, and the others are beside what the set has then.
abbrev pub AddsNames : BTreeSet (Bor (List ℕ)) → BTreeSet (Bor (List ℕ)) → FieldShape → Bool → Type 0
AddsNames seen more field new = (behind : Names)
    → are_new (seen_in seen) (field.name ∷ (field.aliases.items ++ behind)) ≡ (new && are_new (seen_in more) behind)
