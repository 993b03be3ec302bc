-- What files in memory hold.
use Rattle.std.specs.Prelude.{◌≡◌, ℕ, List, [], ◌∷◌, Option, Some, None, if◌then◌else◌, bytes_eq, string_bytes}
use Rattle.rontool_files.specs.declared.memory.Change.{Change}
use Rattle.rontool_files.specs.declared.memory.MemoryFiles.{MemoryFiles}
use Rattle.rontool_files.specs.declared.memory.Node.{Node}
use Rattle.rontool_files.specs.declared.memory.Node.TheVariants as node
use Rattle.rontool_files.specs.Thing.{Thing, Paths, SameBut}
use Rattle.rontool_files.specs.Thing.Thing.{file, folder, link, other}

-- what a node is
abbrev pub thing_of : Node → Option Thing
thing_of node.Gone = None
thing_of (node.File mode bytes) = Some (file mode bytes.items)
thing_of node.Folder = Some folder
thing_of (node.Link to) = Some (link (string_bytes to))
thing_of node.Other = Some other

-- what stands at a path by these changes, the latest first
abbrev pub stands_by : List Change → List ℕ → Option Thing
stands_by [] at = None
stands_by (c ∷ changes) at =
    if bytes_eq (string_bytes c.path) at then thing_of c.node else (if bytes_eq (string_bytes c.gone) at then None else stands_by changes at)

-- what stands at each path
abbrev pub stands_in : MemoryFiles → Paths
stands_in files = stands_by files.changes.items

-- Something stands at a path, and all else stays.
pub record Puts (path : List ℕ) (thing : Option Thing) (before after : Paths) : Type 0 where
  pub put : after path ≡ thing
  pub others : SameBut path before after
