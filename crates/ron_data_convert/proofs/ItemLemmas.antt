-- What the items of a list become, one after another: for the loops over them.
use Rattle.std.proofs.Common.{◌≡◌, ℕ, suc, ◌+◌, ◌<◌, ◌≤◌, List, [], ◌∷◌, ◌++◌, cond, true, false, map, drop, length, get_or, Option, Some, None, refl, sym, ap}
use Rattle.std.proofs.Common.{subst, ◌∙◌, arith}
use Rattle.std.proofs.lemmas.List.{drop_more, drop_all, nil_from_length}
use Rattle.ron_spec_grammar.specs.Data as plain
use Rattle.ron_spec_grammar.specs.Schema.{Shape}
use Rattle.ron_spec_grammar.specs.Values.Conversion.{with_both, into, all_into, each_into, only_into, pairs_into, bytes_among, byte_of}
use Rattle.ron_value.specs.declared.value.Value.{Value}
use Rattle.ron_value.specs.View.{tree_of}
use Rattle.ron_data.specs.declared.data.Data.{Data}
use Rattle.ron_data.specs.Datum.{data_view, pair_view, items_view}
use Rattle.ron_base.specs.declared.error.Error.{Error}
use Rattle.ron_data_convert.specs.Becomes.{items_tree, pairs_tree, IsMemoryOr}
use Rattle.ron_data_convert.specs.Misfits.{Misfit, length_differs, first_misfit, as_many, misfit, all_misfit, in_turn_misfit, each_misfit, only_misfit}
use Rattle.ron_data_convert.specs.Misfits.{pairs_misfit}
use Rattle.ron_data_convert.proofs.BecomesLemmas.{Gone, gone_more, gone_none, gone_all, before_list, before_datas, memory_or_more}

-- this item, and those behind it
pub here : {A : Type 0} (xs : List A) (i : ℕ) (x : A) → i < length xs → x ≡ get_or xs i x → drop i xs ≡ x ∷ drop (i + 1) xs
here xs i x lt e = drop_more xs i x lt ∙ ap (λ y. y ∷ drop (i + 1) xs) (sym e)

pub joined_nothing : {A B C : Type 0} (f : A → B → C) (a : Option A) → with_both f a None ≡ None
joined_nothing f None = refl
joined_nothing f (Some a) = refl

-- ---- bytes

module _ (values : List Value) where
  abbrev pub BytesGone : List ℕ → ℕ → Type 0
  BytesGone done i = Gone (λ b. b) (λ b bs. b ∷ bs) (bytes_among (items_tree values)) done (bytes_among (items_tree (drop i values)))

  byte_step : (i : ℕ) (v : Value) → i < length values → v ≡ get_or values i v
      → bytes_among (items_tree (drop i values)) ≡ with_both (λ b bs. b ∷ bs) (byte_of (tree_of v)) (bytes_among (items_tree (drop (i + 1) values)))
  byte_step i v lt e = ap (λ vs. bytes_among (items_tree vs)) (here values i v lt e)

  pub byte_more : (done more : List ℕ) (i : ℕ) (v : Value) (b : ℕ) → BytesGone done i → i < length values → v ≡ get_or values i v → byte_of (tree_of v) ≡ Some b
      → more ≡ done ++ b ∷ [] → BytesGone more (i + 1)
  byte_more done more i v b h lt e is m =
      subst (λ bs. BytesGone bs (i + 1)) (sym m) (gone_more (λ b. b) (λ b bs. b ∷ bs) _ done _ _ (byte_of (tree_of v)) b h (byte_step i v lt e) is)

  same_bytes : (bs : List ℕ) → map (λ b. b) bs ≡ bs
  same_bytes [] = refl
  same_bytes (b ∷ bs) = ap (λ rest. b ∷ rest) (same_bytes bs)

  pub all_bytes : (done : List ℕ) (i : ℕ) → BytesGone done i → length values ≤ i → bytes_among (items_tree values) ≡ Some done
  all_bytes done i h le =
      gone_all (λ b. b) (λ b bs. b ∷ bs) _ done _ [] h (ap (λ vs. bytes_among (items_tree vs)) (drop_all i values le))
      ∙ ap Some (before_list (λ b. b) done ∙ same_bytes done)

-- ---- items of one shape

module _ (schema : List Shape) (j : ℕ) (values : List Value) where
  -- what is done of the items, before what becomes of those that are left
  abbrev pub AllGone : List Data → List Value → Type 0
  AllGone done left = Gone data_view plain.data_and (all_into schema j (items_tree values)) done (all_into schema j (items_tree left))

  -- the first misfit of all is one of those that are left
  abbrev pub FirstOfAll : List Value → Type 0
  FirstOfAll left = all_misfit schema j (items_tree values) ≡ all_misfit schema j (items_tree left)

  module _ (done : List Data) (left rest : List Value) (v : Value) (h : AllGone done left) (e : left ≡ v ∷ rest) where
    all_step : all_into schema j (items_tree left) ≡ with_both plain.data_and (into schema j (tree_of v)) (all_into schema j (items_tree rest))
    all_step = ap (λ vs. all_into schema j (items_tree vs)) e

    -- the first misfit is one of those behind this item, where it becomes something, and else its own
    first_step : all_misfit schema j (items_tree left)
        ≡ first_misfit (into schema j (tree_of v)) (misfit schema j (tree_of v)) (all_misfit schema j (items_tree rest))
    first_step = ap (λ vs. all_misfit schema j (items_tree vs)) e

    pub all_behind : (d : Data) → into schema j (tree_of v) ≡ Some (data_view d) → FirstOfAll left → FirstOfAll rest
    all_behind d is f = f ∙ first_step ∙ ap (λ o. first_misfit o (misfit schema j (tree_of v)) (all_misfit schema j (items_tree rest))) is

    pub all_refused : (x : Error) → FirstOfAll left → IsMemoryOr (misfit schema j (tree_of v)) (into schema j (tree_of v) ≡ None) x
        → IsMemoryOr (all_misfit schema j (items_tree values)) (all_into schema j (items_tree values) ≡ None) x
    all_refused x f t = memory_or_more x
        (λ n. sym (f ∙ first_step ∙ ap (λ o. first_misfit o (misfit schema j (tree_of v)) (all_misfit schema j (items_tree rest))) n))
        (λ n. gone_none data_view plain.data_and _ done _ (into schema j (tree_of v)) _ h all_step n)
        t

    pub all_more : (more : List Data) (d : Data) → into schema j (tree_of v) ≡ Some (data_view d) → more ≡ done ++ d ∷ [] → AllGone more rest
    all_more more d is m = subst (λ ds. AllGone ds rest) (sym m) (gone_more data_view plain.data_and _ done _ _ (into schema j (tree_of v)) d h all_step is)

  pub all_done : (done : List Data) (left : List Value) → AllGone done left → length left ≡ 0 → all_into schema j (items_tree values) ≡ Some (items_view done)
  all_done done left h e =
      gone_all data_view plain.data_and _ done _ plain.no_datas h (ap (λ vs. all_into schema j (items_tree vs)) (nil_from_length left e))
      ∙ ap Some (before_datas data_view done)

-- ---- items of a shape each

module _ (schema : List Shape) (js : List ℕ) (values : List Value) where
  -- what is done of the items, before what becomes of those that are left by the shapes that are left
  abbrev pub EachGone : List Data → List ℕ → List Value → Type 0
  EachGone done ks left = Gone data_view plain.data_and (each_into schema js (items_tree values)) done (each_into schema ks (items_tree left))

  -- the first misfit of all is one of those that are left
  abbrev pub FirstOfEach : List ℕ → List Value → Type 0
  FirstOfEach ks left = each_misfit schema js (items_tree values) ≡ in_turn_misfit schema ks (items_tree left)

  module _ (done : List Data) (ks ls : List ℕ) (left rest : List Value) (j : ℕ) (v : Value) (h : EachGone done ks left) (f : ks ≡ j ∷ ls)
      (e : left ≡ v ∷ rest) where
    each_step : each_into schema ks (items_tree left) ≡ with_both plain.data_and (into schema j (tree_of v)) (each_into schema ls (items_tree rest))
    each_step = ap (λ ks. each_into schema ks (items_tree left)) f ∙ ap (λ vs. each_into schema (j ∷ ls) (items_tree vs)) e

    turn_step : in_turn_misfit schema ks (items_tree left)
        ≡ first_misfit (into schema j (tree_of v)) (misfit schema j (tree_of v)) (in_turn_misfit schema ls (items_tree rest))
    turn_step = ap (λ ks. in_turn_misfit schema ks (items_tree left)) f ∙ ap (λ vs. in_turn_misfit schema (j ∷ ls) (items_tree vs)) e

    pub each_behind : (d : Data) → into schema j (tree_of v) ≡ Some (data_view d) → FirstOfEach ks left → FirstOfEach ls rest
    each_behind d is first = first ∙ turn_step ∙ ap (λ o. first_misfit o (misfit schema j (tree_of v)) (in_turn_misfit schema ls (items_tree rest))) is

    pub each_refused : (x : Error) → FirstOfEach ks left → IsMemoryOr (misfit schema j (tree_of v)) (into schema j (tree_of v) ≡ None) x
        → IsMemoryOr (each_misfit schema js (items_tree values)) (each_into schema js (items_tree values) ≡ None) x
    each_refused x first t = memory_or_more x
        (λ n. sym (first ∙ turn_step ∙ ap (λ o. first_misfit o (misfit schema j (tree_of v)) (in_turn_misfit schema ls (items_tree rest))) n))
        (λ n. gone_none data_view plain.data_and _ done _ (into schema j (tree_of v)) _ h each_step n)
        t

    pub each_more : (more : List Data) (d : Data) → into schema j (tree_of v) ≡ Some (data_view d) → more ≡ done ++ d ∷ [] → EachGone more ls rest
    each_more more d is m =
        subst (λ ds. EachGone ds ls rest) (sym m) (gone_more data_view plain.data_and _ done _ _ (into schema j (tree_of v)) d h each_step is)

  pub each_done : (done : List Data) (ks : List ℕ) (left : List Value) → EachGone done ks left → length ks ≡ 0 → length left ≡ 0
      → each_into schema js (items_tree values) ≡ Some (items_view done)
  each_done done ks left h f e =
      gone_all data_view plain.data_and _ done _ plain.no_datas h
      (ap (λ ks. each_into schema ks (items_tree left)) (nil_from_length ks f) ∙ ap (λ vs. each_into schema [] (items_tree vs)) (nil_from_length left e))
      ∙ ap Some (before_datas data_view done)

-- whether there are as many items as shapes
many : (js : List ℕ) (values : List Value) → length values ≡ length js → as_many js (items_tree values) ≡ true
many [] [] e = refl
many [] (v ∷ values) e = absurd (omega (arith, e))
many (j ∷ js) [] e = absurd (omega (arith, e))
many (j ∷ js) (v ∷ values) e = many js values (omega (arith, e))

not_many : (js : List ℕ) (values : List Value) → (length values ≡ length js → ⊥) → as_many js (items_tree values) ≡ false
not_many [] [] other = absurd (other refl)
not_many [] (v ∷ values) other = refl
not_many (j ∷ js) [] other = refl
not_many (j ∷ js) (v ∷ values) other = not_many js values (λ e. other (ap suc e))

pub first_of_each : (schema : List Shape) (js : List ℕ) (values : List Value) → length values ≡ length js
    → each_misfit schema js (items_tree values) ≡ in_turn_misfit schema js (items_tree values)
first_of_each schema js values e = ap (λ b. cond b (in_turn_misfit schema js (items_tree values)) length_differs) (many js values e)

pub uneven_misfit : (schema : List Shape) (js : List ℕ) (values : List Value) → (length values ≡ length js → ⊥)
    → each_misfit schema js (items_tree values) ≡ length_differs
uneven_misfit schema js values other = ap (λ b. cond b (in_turn_misfit schema js (items_tree values)) length_differs) (not_many js values other)

-- another number of items than of shapes
pub uneven : (schema : List Shape) (js : List ℕ) (values : List Value) → (length values ≡ length js → ⊥) → each_into schema js (items_tree values) ≡ None
uneven schema [] [] other = absurd (other refl)
uneven schema [] (v ∷ values) other = refl
uneven schema (j ∷ js) [] other = refl
uneven schema (j ∷ js) (v ∷ values) other =
    ap (with_both plain.data_and (into schema j (tree_of v))) (uneven schema js values (λ e. other (ap suc e)))
    ∙ joined_nothing plain.data_and (into schema j (tree_of v))

-- ---- the one item

pub not_one : (schema : List Shape) (j : ℕ) (values : List Value) → (length values ≡ 1 → ⊥) → only_into schema j (items_tree values) ≡ None
not_one schema j [] other = refl
not_one schema j (v ∷ []) other = absurd (other refl)
not_one schema j (v ∷ w ∷ values) other = refl

pub not_one_misfit : (schema : List Shape) (j : ℕ) (values : List Value) → (length values ≡ 1 → ⊥) → only_misfit schema j (items_tree values) ≡ length_differs
not_one_misfit schema j [] other = refl
not_one_misfit schema j (v ∷ []) other = absurd (other refl)
not_one_misfit schema j (v ∷ w ∷ values) other = refl

pub the_one_misfit : (schema : List Shape) (j : ℕ) (values : List Value) (v : Value) → length values ≡ 1 → v ≡ get_or values 0 v
    → only_misfit schema j (items_tree values) ≡ misfit schema j (tree_of v)
the_one_misfit schema j [] v one e = absurd (omega (arith, one))
the_one_misfit schema j (w ∷ []) v one e = ap (λ u. misfit schema j (tree_of u)) (sym e)
the_one_misfit schema j (w ∷ x ∷ values) v one e = absurd (omega (arith, one))

pub the_one : (schema : List Shape) (j : ℕ) (values : List Value) (v : Value) → length values ≡ 1 → v ≡ get_or values 0 v
    → only_into schema j (items_tree values) ≡ into schema j (tree_of v)
the_one schema j [] v one e = absurd (omega (arith, one))
the_one schema j (w ∷ []) v one e = ap (λ u. into schema j (tree_of u)) (sym e)
the_one schema j (w ∷ x ∷ values) v one e = absurd (omega (arith, one))

-- ---- pairs

module _ (schema : List Shape) (k v : ℕ) (entries : List (Value × Value)) where
  -- what is done of the pairs, before what becomes of those that are left
  abbrev pub PairsGone : List (Data × Data) → List (Value × Value) → Type 0
  PairsGone done left = Gone pair_view (λ p rest. p ∷ rest) (pairs_into schema k v (pairs_tree entries)) done (pairs_into schema k v (pairs_tree left))

  -- the first misfit of all is one of those that are left
  abbrev pub FirstOfPairs : List (Value × Value) → Type 0
  FirstOfPairs left = pairs_misfit schema k v (pairs_tree entries) ≡ pairs_misfit schema k v (pairs_tree left)

  -- what a key and its value become
  abbrev pub pair_into : Value × Value → Option (plain.Data × plain.Data)
  pair_into e = with_both (λ a b. (a, b)) (into schema k (tree_of e.0)) (into schema v (tree_of e.1))

  pair_is : (e : Value × Value) (p : Data × Data) → into schema k (tree_of e.0) ≡ Some (data_view p.0) → into schema v (tree_of e.1) ≡ Some (data_view p.1)
      → pair_into e ≡ Some (pair_view p)
  pair_is e p a b = rw (a, b) refl

  module _ (done : List (Data × Data)) (left rest : List (Value × Value)) (e : Value × Value) (h : PairsGone done left) (at : left ≡ e ∷ rest) where
    pair_step : pairs_into schema k v (pairs_tree left) ≡ with_both (λ p rest. p ∷ rest) (pair_into e) (pairs_into schema k v (pairs_tree rest))
    pair_step = ap (λ es. pairs_into schema k v (pairs_tree es)) at

    abbrev first_of : Option plain.Data → Option plain.Data → Misfit
    first_of key value =
        first_misfit key (misfit schema k (tree_of e.0)) (first_misfit value (misfit schema v (tree_of e.1)) (pairs_misfit schema k v (pairs_tree rest)))

    key_step : pairs_misfit schema k v (pairs_tree left) ≡ first_of (into schema k (tree_of e.0)) (into schema v (tree_of e.1))
    key_step = ap (λ es. pairs_misfit schema k v (pairs_tree es)) at

    pub pair_behind : (p : Data × Data) → into schema k (tree_of e.0) ≡ Some (data_view p.0) → into schema v (tree_of e.1) ≡ Some (data_view p.1)
        → FirstOfPairs left → FirstOfPairs rest
    pair_behind p a b first = first ∙ key_step ∙ ap (λ o. first_of o (into schema v (tree_of e.1))) a ∙ ap (λ o. first_of (Some (data_view p.0)) o) b

    -- a key that its shape doesn't hold
    pub key_misfits : (x : Error) → FirstOfPairs left → IsMemoryOr (misfit schema k (tree_of e.0)) (into schema k (tree_of e.0) ≡ None) x
        → IsMemoryOr (pairs_misfit schema k v (pairs_tree entries)) (pairs_into schema k v (pairs_tree entries) ≡ None) x
    key_misfits x first t = memory_or_more x
        (λ n. sym (first ∙ key_step ∙ ap (λ o. first_of o (into schema v (tree_of e.1))) n))
        (λ n.
        gone_none pair_view (λ p rest. p ∷ rest) _ done _ (pair_into e) _ h pair_step (ap (λ o. with_both (λ a b. (a, b)) o (into schema v (tree_of e.1))) n))
        t

    -- likewise a value
    pub value_misfits : (x : Error) (d : Data) → FirstOfPairs left → into schema k (tree_of e.0) ≡ Some (data_view d)
        → IsMemoryOr (misfit schema v (tree_of e.1)) (into schema v (tree_of e.1) ≡ None) x
        → IsMemoryOr (pairs_misfit schema k v (pairs_tree entries)) (pairs_into schema k v (pairs_tree entries) ≡ None) x
    value_misfits x d first key t = memory_or_more x
        (λ n. sym (first ∙ key_step ∙ ap (λ o. first_of o (into schema v (tree_of e.1))) key ∙ ap (λ o. first_of (Some (data_view d)) o) n))
        (λ n. gone_none pair_view (λ p rest. p ∷ rest) _ done _ (pair_into e) _ h pair_step (ap (λ o. with_both (λ a b. (a, b)) (into schema k (tree_of e.0)) o)
        n ∙ joined_nothing {A = plain.Data} {B = plain.Data} {C = plain.Data × plain.Data} (λ a b. (a, b)) (into schema k (tree_of e.0))))
        t

    pub pair_more : (more : List (Data × Data)) (p : Data × Data) → into schema k (tree_of e.0) ≡ Some (data_view p.0)
        → into schema v (tree_of e.1) ≡ Some (data_view p.1) → more ≡ done ++ p ∷ [] → PairsGone more rest
    pair_more more p a b m =
        subst (λ ps. PairsGone ps rest) (sym m) (gone_more pair_view (λ p rest. p ∷ rest) _ done _ _ (pair_into e) p h pair_step (pair_is e p a b))

  pub all_pairs : (done : List (Data × Data)) (left : List (Value × Value)) → PairsGone done left → left ≡ []
      → pairs_into schema k v (pairs_tree entries) ≡ Some (map pair_view done)
  all_pairs done left h e =
      gone_all pair_view (λ p rest. p ∷ rest) _ done _ [] h (ap (λ es. pairs_into schema k v (pairs_tree es)) e)
      ∙ ap Some (before_list pair_view done)
