-- The kinds behind all opening brackets of a text, and the table of them that one pass over its tokens fills.
use Rattle.std.specs.Prelude.{◌≡◌, ℕ, zero, suc, ◌-◌, Bool, true, false, if◌then◌else◌, List, [], ◌∷◌, ◌++◌, length, slice_get, Some, option_map}
use Rattle.std.specs.Option.{unwrap_or}
use Rattle.ron_spec_words.specs.Characters.{Text, colon}
use Rattle.ron_spec_words.specs.Runs.{begins, is_at}
use Rattle.ron_spec_words.specs.Reader.{got, failed}
use Rattle.ron_spec_words.specs.Name.{name}
use Rattle.ron_spec_words.specs.Scan.{starts_gap, token, is_opening, is_closing, ends, Walk, here, on}
use Rattle.ron_spec_words.specs.Kind.{Kind, named_fields, many_items, newtype_item, broken, kind_at, kind}

-- ---- the kinds in their order

-- The kinds behind the opening brackets in their order, up to the first broken token. The number counts characters of a token that are still to be passed.
unfoldable pub kinds_from : ℕ → Text → List Kind
kinds_from k [] = []
kinds_from (suc k) (c ∷ s) = kinds_from k s
kinds_from zero (c ∷ s) =
    unwrap_or (option_map (λ rest. (if is_opening c then kind s ∷ [] else []) ++ kinds_from (length s - length rest) s) (token (c ∷ s))) []

abbrev pub kinds : Text → List Kind
kinds s = kinds_from zero s

-- ---- the names of fields, by the tokens as they come

-- where the pass stands in the innermost group: behind its opening bracket, behind a name that follows it, or further; a gap changes nothing
pub data Stage : Type 0 where
  behind_opening : Stage
  behind_name : Stage
  elsewhere : Stage

-- a name stands here
abbrev pub stands_name : Text → Bool
stands_name s = (elim (name s) [ got n rest ↦ true | failed f ↦ false ])

-- behind a token that is neither an opening bracket nor a gap
abbrev pub past_word : Stage → Text → Stage
past_word behind_opening s = if stands_name s then behind_name else elsewhere
past_word behind_name s = elsewhere
past_word elsewhere s = elsewhere

-- behind the token that begins here
abbrev pub next_stage : Stage → Text → Stage
next_stage stage s = if begins is_opening s then behind_opening else if begins starts_gap s then stage else past_word stage s

-- `:` stands behind a group's opening bracket and a name
abbrev pub names_field : Stage → Text → Bool
names_field behind_opening s = false
names_field behind_name s = is_at colon s
names_field elsewhere s = false

-- ---- the table

-- what was told of a group, and this where nothing was
abbrev pub settle : Kind → Kind → Kind
settle k broken = k
settle k named_fields = named_fields
settle k many_items = many_items
settle k newtype_item = newtype_item

-- the table, with this told of the group of that number
abbrev pub tell : ℕ → Kind → List Kind → List Kind
tell i k [] = []
tell zero k (x ∷ xs) = settle k x ∷ xs
tell (suc i) k (x ∷ xs) = x ∷ tell i k xs

-- the table, with this told of the innermost group; open groups are listed by their numbers, the innermost first
abbrev pub tell_innermost : List ℕ → Kind → List Kind → List Kind
tell_innermost [] k table = table
tell_innermost (i ∷ groups) k table = tell i k table

-- what the token that begins here tells of the innermost group: `:` behind its first name, a comma and a closing bracket tell its kind
abbrev pub told : Stage → Text → Kind
told stage s = if names_field stage s then named_fields else if begins (ends false zero) s then kind_at s else broken

-- the groups around the innermost one
abbrev pub outer : List ℕ → List ℕ
outer [] = []
outer (i ∷ groups) = groups

-- the open groups behind the token that begins here, where that many were opened before
abbrev pub next_groups : ℕ → Text → List ℕ → List ℕ
next_groups count s groups = if begins is_opening s then count ∷ groups else if begins is_closing s then outer groups else groups

-- the table behind it; a new group is broken until its kind is told
abbrev pub next_table : Stage → Text → List ℕ → List Kind → List Kind
next_table stage s groups table = if begins is_opening s then table ++ broken ∷ [] else tell_innermost groups (told stage s) table

-- The table behind the last token, or the last before the first broken one. The number counts characters of a token that are still to be passed.
unfoldable pub fill_from : ℕ → Stage → List ℕ → List Kind → Text → List Kind
fill_from k stage groups table [] = table
fill_from (suc k) stage groups table (c ∷ s) = fill_from k stage groups table s
fill_from zero stage groups table (c ∷ s) = unwrap_or (option_map (λ rest. fill_from (length s - length rest) (next_stage stage (c ∷ s))
    (next_groups (length table) (c ∷ s) groups) (next_table stage (c ∷ s) groups table) s) (token (c ∷ s))) table

-- the table that the pass over a text fills
abbrev pub kind_table : Text → List Kind
kind_table s = fill_from zero elsewhere [] [] s

-- ---- what is claimed of it

-- One pass finds the kind behind each opening bracket.
abbrev pub IsTable : Type 0
IsTable = (s : Text) → kind_table s ≡ kinds s

-- how many opening brackets a walk passes
abbrev pub openings : {commas : Bool} {d e : ℕ} {s u : Text} → Walk commas d s e u → ℕ
openings (here d s) = zero
openings (on d c t next e u h k w) = if is_opening c then suc (openings w) else openings w

-- Where whole tokens lead to an opening bracket, the kind behind it stands in the table behind those of the brackets that were passed.
abbrev pub IsTableAt : Type 0
IsTableAt = (commas : Bool) (d e c : ℕ) (s u : Text) (w : Walk commas d s e (c ∷ u)) → is_opening c ≡ true
    → slice_get (kind_table s) (openings w) ≡ Some (kind u)
