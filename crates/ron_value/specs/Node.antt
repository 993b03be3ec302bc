-- Nodes of one form: a number, some numbers, and some nodes. Trees of values are ordered through them.
use Rattle.std.specs.Prelude.{ℕ, ℤ, List}
use Rattle.std.specs.declared.cmp.Ordering.{Ordering}
use Rattle.std.specs.declared.cmp.Ordering.TheVariants.{Less, Equal, Greater}
use Rattle.std.specs.Ordering.{ordering_then, nat_cmp, int_cmp}
use Rattle.std.specs.Cmp.Lexicographic.{slice_cmp}

mutual
  pub data Node : Type 0 where
    node : ℕ → List ℤ → Nodes → Node

  pub data Nodes : Type 0 where
    no_nodes : Nodes
    node_and : Node → Nodes → Nodes

-- by the number, then by the numbers, then by the nodes: lists by their first difference, or else the shorter one first
abbrev mutual
  pub node_cmp : Node → Node → Ordering
  node_cmp (node m ks ns) (node n ls os) =
      ordering_then (nat_cmp m n) (ordering_then (slice_cmp int_cmp ks ls) (nodes_cmp ns os))

  pub nodes_cmp : Nodes → Nodes → Ordering
  nodes_cmp no_nodes no_nodes = Equal
  nodes_cmp no_nodes (node_and o os) = Less
  nodes_cmp (node_and n ns) no_nodes = Greater
  nodes_cmp (node_and n ns) (node_and o os) = ordering_then (node_cmp n o) (nodes_cmp ns os)
