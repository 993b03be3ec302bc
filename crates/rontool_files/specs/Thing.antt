-- What stands at the paths of a store.
use Rattle.std.specs.Prelude.{◌≡◌, ℕ, zero, suc, List, Option, Some, None}
use Rattle.rontool_files.specs.declared.store.Kind.{Kind}
use Rattle.rontool_files.specs.declared.store.Kind.TheVariants as kind

-- what may stand at a path: a file by its permissions and bytes, a folder, a link by where it leads, or something else
pub data Thing : Type 0 where
  file : ℕ → List ℕ → Thing
  folder : Thing
  link : List ℕ → Thing
  other : Thing

-- what stands at each path
abbrev pub Paths : Type 0
Paths = List ℕ → Option Thing

-- the bytes of a file
abbrev pub bytes_of : Option Thing → Option (List ℕ)
bytes_of (Some (file mode bytes)) = Some bytes
bytes_of _ = None

-- the permissions of a file
abbrev pub mode_of : Option Thing → Option ℕ
mode_of (Some (file mode bytes)) = Some mode
mode_of _ = None

abbrev pub kind_of : Thing → Kind
kind_of (file mode bytes) = kind.File
kind_of folder = kind.Folder
kind_of (link path) = kind.Link
kind_of other = kind.Other

-- Each path but this one has what it had.
abbrev pub SameBut : List ℕ → Paths → Paths → Type 0
SameBut path before after = (at : List ℕ) → (at ≡ path → ⊥) → after at ≡ before at

-- Each path but these two has what it had.
abbrev pub SameButTwo : List ℕ → List ℕ → Paths → Paths → Type 0
SameButTwo one two before after = (at : List ℕ) → (at ≡ one → ⊥) → (at ≡ two → ⊥) → after at ≡ before at

-- What stood at one path stands at another, and nothing where it stood; all else stays.
pub record Moves (from to : List ℕ) (before after : Paths) : Type 0 where
  pub moved : after to ≡ before from
  pub left : (from ≡ to → ⊥) → after from ≡ None
  pub others : SameButTwo from to before after

-- where a path ends: where its link leads, or at itself
abbrev pub end_behind : (List ℕ → Option (List ℕ)) → List ℕ → Option Thing → Option (List ℕ)
end_behind onward path (Some (link to)) = onward to
end_behind onward path _ = Some path

-- the path that a path leads to, through fewer links than this
abbrev pub end_of : Paths → ℕ → List ℕ → Option (List ℕ)
end_of paths zero path = None
end_of paths (suc turns) path = end_behind (end_of paths turns) path (paths path)
