-- Tuples and tuple structs.
use Rattle.std.specs.Prelude.{ℕ, Bool, true, false, ◌==◌, if◌then◌else◌, List, [], ◌∷◌, length, Option, Some, None, slice_get}
use Rattle.ron_spec_words.specs.Characters.{Text, left_parenthesis, right_parenthesis}
use Rattle.ron_spec_words.specs.Runs.{is_at}
use Rattle.ron_spec_words.specs.Lang.{Lang, Nothing, Then, Means, Or, OptComma, Items, Group, Needs}
use Rattle.ron_spec_words.specs.Reader.{Reader, bad, fail, in_sequence, means, pick, opt_comma, items, group, needs}
use Rattle.ron_spec_words.specs.Name.{Named, named}
use Rattle.ron_spec_grammar.specs.Data.{Data, Datas, no_datas, tuple_of, tuple_struct_of, datas}
use Rattle.ron_spec_grammar.specs.Rule.{Langs, Readers, WithoutName, without_name, NoGap, no_gap}

-- what these items make, where they are as many as the shapes
abbrev pub as_many : (Datas → Data) → List ℕ → List Data → Option Data
as_many make js ds = if length ds == length js then Some (make (datas ds)) else None

-- ---- the text

-- the text of the shape at an index, if there is one
abbrev pub AtShape : Langs → Option ℕ → Text → Lang Data
AtShape L None before = Nothing
AtShape L (Some j) before = L false j before

-- an item for each shape in turn, with a comma between neighbours and perhaps a last comma
abbrev pub TupleItems : (Datas → Data) → List ℕ → Langs → Text → Lang Data
TupleItems make js L before = Means (Items (λ seen. AtShape L (slice_get js (length seen))) before) (as_many make js)

-- Bare, the items alone; their own last comma is the one comma. Where there are no items, it may stand all the same.
abbrev pub BareItems : (Datas → Data) → List ℕ → Langs → Text → Lang Data
BareItems make [] L before = OptComma (make no_datas)
BareItems make (j ∷ js) L before = TupleItems make (j ∷ js) L before

-- `(`, the items and `)`. Entering takes one level, and in it each item one: `sub k` may stand k + 1 levels deeper.
abbrev pub TupleGroup : (Datas → Data) → List ℕ → ℕ → (ℕ → Langs) → Lang Data
TupleGroup make js room sub = Group left_parenthesis right_parenthesis (λ gap. Needs 1 room (TupleItems make js (sub 1) gap))

-- a tuple
abbrev pub TupleText : List ℕ → ℕ → (ℕ → Langs) → Bool → Text → Lang Data
TupleText js room sub false before = TupleGroup tuple_of js room sub
TupleText js room sub true before = Needs 1 room (BareItems tuple_of js (sub 1) before)

-- a tuple struct: like a tuple, and not bare with its name directly before `(`, or without it where no name is required
abbrev pub TupleStructText : Bool → Text → List ℕ → ℕ → (ℕ → Langs) → Bool → Text → Lang Data
TupleStructText required name js room sub false before =
    let G : Lang Data = TupleGroup (tuple_struct_of name) js room sub in
    Or (WithoutName required G) (Then (Named name) (λ _ gap. NoGap gap G))
TupleStructText required name js room sub true before = Needs 1 room (BareItems (tuple_struct_of name) js (sub 1) before)

-- ---- its reader function

-- the shape at an index, if there is one
abbrev pub at_shape : Readers → Option ℕ → Text → Reader Data
at_shape r None before = fail bad
at_shape r (Some j) before = r false j before

-- the items
abbrev pub tuple_items : (Datas → Data) → List ℕ → Readers → Text → Reader Data
tuple_items make js r before = means (items (λ seen. at_shape r (slice_get js (length seen))) right_parenthesis before) (as_many make js)

-- the items alone
abbrev pub bare_items : (Datas → Data) → List ℕ → Readers → Text → Reader Data
bare_items make [] r before = opt_comma (make no_datas)
bare_items make (j ∷ js) r before = tuple_items make (j ∷ js) r before

-- the items in their brackets
abbrev pub tuple_group : (Datas → Data) → List ℕ → ℕ → (ℕ → Readers) → Reader Data
tuple_group make js room sub = group left_parenthesis right_parenthesis (λ gap. needs 1 room (tuple_items make js (sub 1) gap))

-- the tuple
abbrev pub read_tuple : List ℕ → ℕ → (ℕ → Readers) → Bool → Text → Reader Data
read_tuple js room sub false before = tuple_group tuple_of js room sub
read_tuple js room sub true before = needs 1 room (bare_items tuple_of js (sub 1) before)

-- the tuple struct
abbrev pub read_tuple_struct : Bool → Text → List ℕ → ℕ → (ℕ → Readers) → Bool → Text → Reader Data
read_tuple_struct required name js room sub false before =
    let g : Reader Data = tuple_group (tuple_struct_of name) js room sub in
    pick (is_at left_parenthesis) (without_name required g) (in_sequence (named name) (λ _ gap. no_gap gap g))
read_tuple_struct required name js room sub true before = needs 1 room (bare_items (tuple_struct_of name) js (sub 1) before)
