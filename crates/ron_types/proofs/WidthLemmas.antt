-- What it tells of a value that it is shared: the numbers in it lie in their widths.
-- An integer that lies in memory fits its type. So `Known` of the kit is put together for a value from that of what it holds; a value in it stands one level
-- less deep.
use mir.Syntax.{w8, w16, w32, w64, w128, Lifetime}
use mir.Val.{Val}
use base.Fml.{Lft}
use denote.Enum.Declared as data_of
use denote.Known.{Says, Says-map, Says-second, Says-hidden, says_so, Known, All, nothing_known, uint_known, sint_known, enum_known, struct_known}
use denote.Known.{declared_enum_known, declared_known, holder_known, LiveFacts, Knownss}
use denote.Ref.{Bor, ShrRef}
use denote.Struct.Declared as record_of
use denote.Struct.Tuple as tuple
use Rattle.std.proofs.Common.{◌≡◌, ℕ, zero, suc, List, [], ◌∷◌, map, sym, subst, arith, rules, true, inl, inr, Option, Some, None, Box, Vec, Global}
use Rattle.std.specs.contracts.alloc.Global.{the_row as Heap}
use Rattle.std.specs.contracts.impls.GlobalAllocator.TheImpl.{ghosts}
use Rattle.std.below.std_alloc.specs.formers.vec.Vec.{the_facts}
use Rattle.std.specs.contracts.boxed.Box as BoxRow
use Rattle.std.specs.contracts.option.Option as OptionRow
use Rattle.ron_value_number.specs.declared.number.Number.{Number}
use Rattle.ron_value_number.specs.declared.number.Number.TheVariants as number
use Rattle.ron_value_number.specs.contracts.number.Number as NumberRow
use Rattle.ron_value_number.specs.Number.{number_width, number_value}
use Rattle.ron_value_number.specs.Width.{fits}
use Rattle.ron_spec_grammar.specs.Values.Trees.{HasNumbersInWidth}
use Rattle.ron_value.specs.declared.map.Map.{Map as ValueMap}
use Rattle.ron_value.specs.declared.value.Value.{Value}
use Rattle.ron_value.specs.declared.value.Value as value
use Rattle.ron_value.specs.contracts.value.Value as ValueRow
use Rattle.ron_value.specs.contracts.map.Map as MapRow
use Rattle.ron_value.specs.Tree.{Tree, items_from, pairs_from}
use Rattle.ron_value.specs.Tree as tree
use Rattle.ron_value.specs.View.{tree_of, pair_tree, entries}
use Rattle.ron_value.proofs.ValueTrees.{tree_of-Seq, tree_of-Map, tree_of-Some, tree_of-String, tree_of-Bytes}
use Rattle.ron_types.proofs.DepthLemmas.{each, each_pair, inside, to_depth, size, all_in_width}

-- ---- a number

abbrev number_known : Known NumberRow.the_field.row
number_known = enum_known (data_of.shape NumberRow.the_type) (
  (sint_known w8, tt),
  (
    (sint_known w16, tt),
    (
      (sint_known w32, tt),
      (
        (sint_known w64, tt),
        (
          (sint_known w128, tt),
          ((uint_known w8, tt), ((uint_known w16, tt), ((uint_known w32, tt), ((uint_known w64, tt), ((uint_known w128, tt), tt))))),
        ),
      ),
    ),
  ),
)

number_in_width : (n : Number) → number_known.Fact (NumberRow.the_field.into n) → fits (number_width n) (number_value n) ≡ true
number_in_width (number.I8 n) h = search (rules, arith)
number_in_width (number.I16 n) h = search (rules, arith)
number_in_width (number.I32 n) h = search (rules, arith)
number_in_width (number.I64 n) h = search (rules, arith)
number_in_width (number.I128 n) h = search (rules, arith)
number_in_width (number.U8 n) h = search (rules, arith)
number_in_width (number.U16 n) h = search (rules, arith)
number_in_width (number.U32 n) h = search (rules, arith)
number_in_width (number.U64 n) h = search (rules, arith)
number_in_width (number.U128 n) h = search (rules, arith)

-- ---- lists and maps

module _ (P : Tree → Type 0) where
  pub items_each : (vs : List Value) → All (λ v. P (tree_of v)) vs → each P (items_from (map tree_of vs))
  items_each [] h = tt
  items_each (v ∷ vs) h = (h 0 v (omega arith), items_each vs (λ i d lt. h (suc i) d (omega arith)))

  pub pairs_each : (es : List (Value × Value)) → All (λ e. P (tree_of e.0) × (P (tree_of e.1) × Unit {0})) es → each_pair P (pairs_from (map pair_tree es))
  pairs_each [] h = tt
  pairs_each (e ∷ es) h = let first = h 0 e (omega arith) in (first.0, first.1.0, pairs_each es (λ i d lt. h (suc i) d (omega arith)))

-- ---- what memory tells of a value, from what it tells of those in it

abbrev IsOwned : (Tree → Type 0) → Type 2
IsOwned P = (v : Value) (vs : List Val) → Says (ValueRow.the_hole.own_val v vs) (P (tree_of v))

abbrev IsShared : (Tree → Type 0) → Type 2
IsShared P = (v : Value) (b o : ℕ) (κ : Lft) → Says (ValueRow.the_hole.shr_at v b o κ) (P (tree_of v))

module _ (P : Tree → Type 0) (owned : IsOwned P) (shared : IsShared P) where
  abbrev inner : Known ValueRow.the_hole
  inner = record { Fact = λ v. P (tree_of v); owned = owned; shared = shared }

  abbrev pair_known : Known (tuple.Tuple (ValueRow.the_hole ∷ ValueRow.the_hole ∷ []))
  pair_known = declared_known (tuple.tuple_type (ValueRow.the_hole ∷ ValueRow.the_hole ∷ [])) (inner, (inner, tt))

  abbrev map_known : Known MapRow.the_field.row
  map_known = struct_known (record_of.shape MapRow.the_type) (the_facts _ Heap ghosts pair_known (nothing_known Heap), tt)

  abbrev box_known : Known (BoxRow.the_row ValueRow.the_hole Heap ghosts)
  box_known = holder_known ValueRow.the_hole inner (BoxRow.struct ValueRow.the_hole Heap ghosts) (BoxRow.the_codes _ _ ValueRow.the_hole.coded Heap.coded)
      (λ d. d.ptr) (λ d. d.value) _

  abbrev option_known : Known (OptionRow.the_row (BoxRow.the_row ValueRow.the_hole Heap ghosts))
  option_known = declared_enum_known (OptionRow.the_type (BoxRow.the_row ValueRow.the_hole Heap ghosts)) (tt, ((box_known, tt), tt))

  abbrev parts_known : Knownss (data_of.variants ValueRow.the_type)
  parts_known = (
    (nothing_known _, tt),
    (
      (nothing_known _, tt),
      (
        (map_known, tt),
        (
          (number_known, tt),
          (
            (option_known, tt),
            ((nothing_known _, tt), ((nothing_known _, tt), ((the_facts _ Heap ghosts inner (nothing_known Heap), tt), (tt, tt)))),
          ),
        ),
      ),
    ),
  )

  abbrev PartsSay : data_of.Choice ValueRow.the_parts → Type 0
  PartsSay c = LiveFacts (data_of.variants ValueRow.the_type) parts_known (data_of.intoss ValueRow.the_parts c)

  map_says : (m : ValueMap) → map_known.Fact (MapRow.the_field.into m) → inside P (tree_of (value.Map m))
  map_says m h = subst (inside P) (sym (tree_of-Map m)) (pairs_each P (entries m) h.0)

  number_says : (n : Number) → number_known.Fact (NumberRow.the_field.into n) → inside P (tree_of (value.Number n))
  number_says n h =
      let e : tree_of (value.Number n) ≡ tree.number (number_width n) (number_value n) = search (rules, value.the_lemmas) in
      subst (inside P) (sym e) (number_in_width n h)

  option_says : (o : Option (Box Value Global)) → option_known.Fact o → inside P (tree_of (value.Option o))
  option_says None h = let e : tree_of (value.Option None) ≡ tree.none = search (rules, value.the_lemmas) in subst (inside P) (sym e) tt
  option_says (Some b) h = subst (inside P) (sym (tree_of-Some b)) h.0

  list_says : (vs : Vec Value Global) → All (λ v. P (tree_of v)) vs.items → inside P (tree_of (value.Seq vs))
  list_says vs h = subst (inside P) (sym (tree_of-Seq vs)) (items_each P vs.items h)

  from_choice : (c : data_of.Choice ValueRow.the_parts) → PartsSay c → inside P (tree_of (ValueRow.the_make c))
  from_choice (inl v) h = let e : tree_of (value.Bool v.0) ≡ tree.boolean v.0 = search (rules, value.the_lemmas) in subst (inside P) (sym e) tt
  from_choice (inr (inl v)) h = let e : tree_of (value.Char v.0) ≡ tree.character v.0 = search (rules, value.the_lemmas) in subst (inside P) (sym e) tt
  from_choice (inr (inr (inl v))) h = map_says v.0 h.0
  from_choice (inr (inr (inr (inl v)))) h = number_says v.0 h.0
  from_choice (inr (inr (inr (inr (inl v))))) h = option_says v.0 h.0
  from_choice (inr (inr (inr (inr (inr (inl v)))))) h = subst (inside P) (sym (tree_of-String v.0)) tt
  from_choice (inr (inr (inr (inr (inr (inr (inl v))))))) h = subst (inside P) (sym (tree_of-Bytes v.0)) tt
  from_choice (inr (inr (inr (inr (inr (inr (inr (inl v)))))))) h = list_says v.0 h.0
  from_choice (inr (inr (inr (inr (inr (inr (inr (inr (inl v))))))))) h = let e : tree_of value.Unit ≡ tree.unit = search (rules, value.the_lemmas) in
      subst (inside P) (sym e) tt
  from_choice (inr (inr (inr (inr (inr (inr (inr (inr (inr z))))))))) h = absurd z

  from_parts : (v : Value) → PartsSay (ValueRow.as_values v) → inside P (tree_of v)
  from_parts v h = subst (λ w. inside P (tree_of w)) (ValueRow.the_eta v) (from_choice (ValueRow.as_values v) h)

  abbrev value_known : Known ValueRow.the_row
  value_known = declared_enum_known ValueRow.the_type parts_known

  row_owned : (v : Value) (vs : List Val) → Says (ValueRow.the_row.own_val v vs) (inside P (tree_of v))
  row_owned v vs = Says-map _ (from_parts v) (value_known.owned v vs)

  row_shared : (v : Value) (b o : ℕ) (κ : Lft) → Says (ValueRow.the_row.shr_at v b o κ) (inside P (tree_of v))
  row_shared v b o κ = Says-map _ (from_parts v) (value_known.shared v b o κ)

  hole_owned : IsOwned (inside P)
  hole_owned v vs = subst (λ F. Says (F vs) (inside P (tree_of v))) (sym (ValueRow.own_is v)) (row_owned v vs)

  hole_shared : IsShared (inside P)
  hole_shared v b o κ = subst (λ F. Says (F b o κ) (inside P (tree_of v))) (sym (ValueRow.shr_is v)) (row_shared v b o κ)

-- ---- so to any depth

both_to : (n : ℕ) → IsOwned (to_depth n) × IsShared (to_depth n)
both_to zero = (λ v vs. says_so _ tt, λ v b o κ. says_so _ tt)
both_to (suc n) = (hole_owned (to_depth n) (both_to n).0 (both_to n).1, hole_shared (to_depth n) (both_to n).0 (both_to n).1)

-- where a value is shared, each number in it lies in its width
pub numbers_said : (v : Value) (b o : ℕ) (κ : Lft) → Says (ValueRow.the_row.shr_at v b o κ) (HasNumbersInWidth (tree_of v))
numbers_said v b o κ = let n = size (tree_of v) in
    Says-map _ (all_in_width (tree_of v) (suc n) (omega arith)) (row_shared (to_depth n) (both_to n).0 (both_to n).1 v b o κ)

-- the same of a reference to it
pub numbers_learnt : (ℓ : Lifetime) (κ : Lft) (x : Bor Value) (vs : List Val)
    → Says ((ShrRef ℓ κ ValueRow.the_row).own_val x vs) (HasNumbersInWidth (tree_of x.now))
numbers_learnt ℓ κ x vs = Says-second _ _ (Says-hidden _ (numbers_said x.now x.ref_ptr.0 x.ref_ptr.1 κ))
