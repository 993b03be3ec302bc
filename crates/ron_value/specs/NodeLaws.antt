-- The order of nodes is total and tells all nodes apart.
use Rattle.std.specs.Prelude.{◌≡◌, refl, ℕ, ℤ, List, [], ◌∷◌}
use Rattle.std.proofs.Common.{sym}
use Rattle.std.proofs.lemmas.Cmp.{ranked, int_ranked}
use Rattle.std.specs.declared.cmp.Ordering.{Ordering}
use Rattle.std.specs.declared.cmp.Ordering.TheVariants.{Less, Equal, Greater}
use Rattle.std.specs.Ordering.{ordering_then, ordering_reverse, nat_cmp, int_cmp}
use Rattle.std.specs.Cmp.{IsTotalOrder, nat_cmp_total, int_cmp_total, alike_right}
use Rattle.std.specs.Cmp.Lexicographic.{slice_cmp, lists_total}
use Rattle.ron_value.specs.Node.{Node, node, Nodes, no_nodes, node_and, node_cmp, nodes_cmp}

-- ---- two comparisons, the second where the first says Equal

then_reverse : (a b p q : Ordering) → a ≡ ordering_reverse b → p ≡ ordering_reverse q → ordering_then a p ≡ ordering_reverse (ordering_then b q)
then_reverse a Less p q first second = rw first refl
then_reverse a Equal p q first second = rw (first, second) refl
then_reverse a Greater p q first second = rw first refl

-- what a total order asks of its answers of x and y, of y and z, and of x and z
record Triangle (xy yz xz : Ordering) : Type 0 where
  chain : xy ≡ Less → yz ≡ Less → xz ≡ Less
  left : xy ≡ Equal → xz ≡ yz
  right : yz ≡ Equal → xz ≡ xy

then_triangle : (a b c p q r : Ordering) → Triangle a b c → Triangle p q r → Triangle (ordering_then a p) (ordering_then b q) (ordering_then c r)
then_triangle Less Less c p q r first second =
    let less = first.chain refl refl in
    record { chain = λ _ _. rw less refl; left = λ e. absurd (cc); right = λ e. absurd (cc) }
then_triangle Less Equal c p q r first second =
    let less = first.right refl in
    record { chain = λ _ _. rw less refl; left = λ e. absurd (cc); right = λ _. rw less refl }
then_triangle Less Greater c p q r first second = record { chain = λ _ e. absurd (cc); left = λ e. absurd (cc); right = λ e. absurd (cc) }
then_triangle Equal Less c p q r first second =
    let less = first.left refl in
    record { chain = λ _ _. rw less refl; left = λ _. rw less refl; right = λ e. absurd (cc) }
then_triangle Equal Equal c p q r first second =
    let same = first.left refl in
    record { chain = λ f g. rw same (second.chain f g); left = λ f. rw same (second.left f); right = λ f. rw same (second.right f) }
then_triangle Equal Greater c p q r first second =
    let greater = first.left refl in
    record { chain = λ _ e. absurd (cc); left = λ _. rw greater refl; right = λ e. absurd (cc) }
then_triangle Greater Less c p q r first second = record { chain = λ e _. absurd (cc); left = λ e. absurd (cc); right = λ e. absurd (cc) }
then_triangle Greater Equal c p q r first second =
    let greater = first.right refl in
    record { chain = λ e _. absurd (cc); left = λ e. absurd (cc); right = λ _. rw greater refl }
then_triangle Greater Greater c p q r first second = record { chain = λ e _. absurd (cc); left = λ e. absurd (cc); right = λ e. absurd (cc) }

triangle_of : {K : Type 0} {R : K → K → Ordering} → IsTotalOrder R → (x y z : K) → Triangle (R x y) (R y z) (R x z)
triangle_of total x y z = record { chain = total.trans x y z; left = total.congr x y z; right = λ e. sym (alike_right total y z x e) }

both_Equal : (a p : Ordering) → ordering_then a p ≡ Equal → (a ≡ Equal) × (p ≡ Equal)
both_Equal Less p e = absurd (cc)
both_Equal Equal p e = (refl, e)
both_Equal Greater p e = absurd (cc)

-- ---- the order is total

mutual
  node_reverse : (n o : Node) → node_cmp n o ≡ ordering_reverse (node_cmp o n)
  node_reverse (node m ks ns) (node n ls os) =
      then_reverse _ _ _ _ (nat_cmp_total.antisymm m n) (then_reverse _ _ _ _ ((lists_total int_cmp_total).antisymm ks ls) (nodes_reverse ns os))

  nodes_reverse : (ns os : Nodes) → nodes_cmp ns os ≡ ordering_reverse (nodes_cmp os ns)
  nodes_reverse no_nodes no_nodes = refl
  nodes_reverse no_nodes (node_and o os) = refl
  nodes_reverse (node_and n ns) no_nodes = refl
  nodes_reverse (node_and n ns) (node_and o os) = then_reverse _ _ _ _ (node_reverse n o) (nodes_reverse ns os)

mutual
  node_triangle : (n o p : Node) → Triangle (node_cmp n o) (node_cmp o p) (node_cmp n p)
  node_triangle (node k xs ns) (node l ys os) (node m zs ps) =
      then_triangle _ _ _ _ _ _ (triangle_of nat_cmp_total k l m)
      (then_triangle _ _ _ _ _ _ (triangle_of (lists_total int_cmp_total) xs ys zs) (nodes_triangle ns os ps))

  nodes_triangle : (ns os ps : Nodes) → Triangle (nodes_cmp ns os) (nodes_cmp os ps) (nodes_cmp ns ps)
  nodes_triangle no_nodes no_nodes ps = record { chain = λ e _. absurd (cc); left = λ _. refl; right = λ e. e }
  nodes_triangle no_nodes (node_and o os) no_nodes = record { chain = λ _ e. absurd (cc); left = λ e. absurd (cc); right = λ e. absurd (cc) }
  nodes_triangle no_nodes (node_and o os) (node_and p ps) = record { chain = λ _ _. refl; left = λ e. absurd (cc); right = λ _. refl }
  nodes_triangle (node_and n ns) no_nodes no_nodes = record { chain = λ e _. absurd (cc); left = λ e. absurd (cc); right = λ _. refl }
  nodes_triangle (node_and n ns) no_nodes (node_and p ps) = record { chain = λ e _. absurd (cc); left = λ e. absurd (cc); right = λ e. absurd (cc) }
  nodes_triangle (node_and n ns) (node_and o os) no_nodes = record { chain = λ _ e. absurd (cc); left = λ _. refl; right = λ e. absurd (cc) }
  nodes_triangle (node_and n ns) (node_and o os) (node_and p ps) = then_triangle _ _ _ _ _ _ (node_triangle n o p) (nodes_triangle ns os ps)

pub node_cmp_total : IsTotalOrder node_cmp
node_cmp_total = record { antisymm = node_reverse; trans = λ n o p. (node_triangle n o p).chain; congr = λ n o p. (node_triangle n o p).left }

-- ---- nodes that it calls equal are the same

number_same : (m n : ℕ) → nat_cmp m n ≡ Equal → m ≡ n
number_same m n e = ranked m n Equal (sym e)

numbers_same : (ks ls : List ℤ) → slice_cmp int_cmp ks ls ≡ Equal → ks ≡ ls
numbers_same [] [] e = refl
numbers_same [] (l ∷ ls) e = absurd (cc)
numbers_same (k ∷ ks) [] e = absurd (cc)
numbers_same (k ∷ ks) (l ∷ ls) e =
    let both = both_Equal _ _ e in
    λ i. int_ranked k l Equal (sym both.0) i ∷ numbers_same ks ls both.1 i

mutual
  pub node_same : (n o : Node) → node_cmp n o ≡ Equal → n ≡ o
  node_same (node m ks ns) (node n ls os) e =
      let outer = both_Equal _ _ e in
      let inner = both_Equal _ _ outer.1 in
      λ i. node (number_same m n outer.0 i) (numbers_same ks ls inner.0 i) (nodes_same ns os inner.1 i)

  pub nodes_same : (ns os : Nodes) → nodes_cmp ns os ≡ Equal → ns ≡ os
  nodes_same no_nodes no_nodes e = refl
  nodes_same no_nodes (node_and o os) e = absurd (cc)
  nodes_same (node_and n ns) no_nodes e = absurd (cc)
  nodes_same (node_and n ns) (node_and o os) e =
      let both = both_Equal _ _ e in
      λ i. node_and (node_same n o both.0 i) (nodes_same ns os both.1 i)
