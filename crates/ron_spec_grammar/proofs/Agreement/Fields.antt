-- The fields of a struct, read by a schema and read without one as pairs of a map, agree: for `Agreement.Structs`.
use Rattle.std.proofs.Common.{◌≡◌, ℕ, Bool, true, false, ◌||◌, List, [], ◌∷◌, chars, encode_utf8_all, Option, Some, None, option_map, cond, find, slice_get}
use Rattle.std.proofs.Common.{Less, Equal, Greater, refl, sym, ap, subst, ◌∙◌}
use Rattle.std.proofs.lemmas.Str.{chars-encodes}
use Rattle.std.proofs.lemmas.Bool.{or_right}
use Rattle.std.specs.List.{list_any}
use Rattle.std.specs.Option.{option_and_then}
use Rattle.std.specs.Ordering.{match_ordering}
use Rattle.std.specs.BTreeMap.{insert_entry}
use lib.Utf8.{scalars}
use Rattle.ron_spec_words.specs.Characters.{Text, colon}
use Rattle.ron_spec_words.specs.Runs.{same_text}
use Rattle.ron_spec_words.specs.Lang.{Lang, done, Means}
use Rattle.ron_spec_words.specs.Exact.{FollowsValue, Anything}
use Rattle.ron_spec_words.specs.Name.{Name}
use Rattle.ron_spec_words.proofs.Names.{word_name}
use Rattle.ron_value.specs.Tree.{Tree, pairs_from}
use Rattle.ron_value.specs.Tree as tree
use Rattle.ron_value.specs.Order.{tree_cmp}
use Rattle.ron_value.specs.OrderLaws.{tree_same}
use Rattle.ron_spec_grammar.specs.Data.{Data, Fields, field_and, the_unit, struct_of}
use Rattle.ron_spec_grammar.specs.Schema.{Field, FieldList, Shape, struct, is_named, is_called}
use Rattle.ron_spec_grammar.specs.Rule.{Langs}
use Rattle.ron_spec_grammar.specs.Values.Trees.{Entry, put_in, mapped}
use Rattle.ron_spec_grammar.specs.Values.Grammar.{Values, FieldEntry, entry_with}
use Rattle.ron_spec_grammar.specs.Values.Conversion.{or_itself, mapping_as, field_named, item_as, into, pairs_into, fields_into}
use Rattle.ron_spec_grammar.specs.Shapes.Struct.{Item, is_of, Target, known, unknown, target, skipped, item_of, with_item, arranged, struct_from, FieldValue}
use Rattle.ron_spec_grammar.specs.Shapes.Struct.{FieldItem}
use Rattle.ron_spec_grammar.proofs.Finding.{same_is, same_self, found_any, named_called, mapped_from, then_from}
use Rattle.ron_spec_grammar.proofs.Seen.{none_found, StandsFor, target_some}
use Rattle.ron_spec_grammar.proofs.Values.Conversion.{followed_from}
use Rattle.ron_spec_grammar.proofs.Agreement.Agree.{Agree, Along, agree_word, agree_both, agree_behind, agree_marks}
use Rattle.ron_spec_grammar.proofs.Agreement.Scalars.{name_scalars}
use Rattle.ron_spec_grammar.proofs.Agreement.Leaves.{Becomes}
use Rattle.ron_spec_grammar.proofs.Agreement.Groups.{Deeper}

-- a name as a key
abbrev pub key_of : Text → Tree
key_of n = tree.text (encode_utf8_all n)

-- the field has this name
abbrev pub has_name : Text → Option Field → Bool
has_name n None = false
has_name n (Some f) = same_text f.name n

-- ---- entries of a map, by a test of their keys

module _ (test : Tree → Bool) (k v : Tree) where
  abbrev Passes : Entry → Bool
  Passes e = test e.0

  -- a key that doesn't pass changes nothing of what is found
  insert_other : test k ≡ false → (es : List Entry) → find Passes (insert_entry tree_cmp es k v) ≡ find Passes es
  insert_other off [] = rw off refl
  insert_other off (e ∷ es) =
      (elim (tree_cmp k e.0) as
      (λ o. tree_cmp k e.0 ≡ o → find Passes (match_ordering o ((k, v) ∷ e ∷ es) ((e.0, v) ∷ es) (e ∷ insert_entry tree_cmp es k v)) ≡ find Passes (e ∷ es)) [
        | Less ↦ λ _. rw off refl
        | Equal ↦ λ q. (let same : test e.0 ≡ false = ap test (sym (tree_same k e.0 q)) ∙ off in rw same refl)
        | Greater ↦ λ _. ap (λ o. cond (test e.0) (Some e) o) (insert_other off es)
      ]) refl

  -- the only key that passes is found
  insert_new : test k ≡ true → (es : List Entry) → find Passes es ≡ None → find Passes (insert_entry tree_cmp es k v) ≡ Some (k, v)
  insert_new on [] none = rw on refl
  insert_new on (e ∷ es) none =
      (elim (tree_cmp k e.0)
      as (λ o. tree_cmp k e.0 ≡ o → find Passes (match_ordering o ((k, v) ∷ e ∷ es) ((e.0, v) ∷ es) (e ∷ insert_entry tree_cmp es k v)) ≡ Some (k, v)) [
        | Less ↦ λ _. rw on refl
        | Equal ↦ λ q. absurd (let same : test e.0 ≡ true = ap test (sym (tree_same k e.0 q)) ∙ on in
            let x : Some e ≡ None = sym (ap (λ b. cond b (Some e) (find Passes es)) same) ∙ none in cc)
        | Greater ↦ λ _. greater (test e.0) none (insert_new on es)
      ]) refl
    where
      greater : (b : Bool) → cond b (Some e) (find Passes es) ≡ None → (find Passes es ≡ None → find Passes (insert_entry tree_cmp es k v) ≡ Some (k, v))
          → cond b (Some e) (find Passes (insert_entry tree_cmp es k v)) ≡ Some (k, v)
      greater true q ih = absurd (cc)
      greater false q ih = ih q

-- what is made of a value, by the index of its shape
abbrev pub Made : Type 1
Made = ℕ → Data → Tree → Type 0

module _ (schema : List Shape) (list : FieldList) where
  -- the field that a key calls
  abbrev pub field_of : Tree → Option Field
  field_of (tree.text bs) = find (is_called (chars bs)) list.fields
  field_of _ = None

  -- the key calls the field of this name
  abbrev pub of_key : Text → Entry → Bool
  of_key n p = has_name n (field_of p.0)

  pub key_field : (m : Text) → scalars m ≡ true → field_of (key_of m) ≡ find (is_called m) list.fields
  key_field m s = ap (λ c. find (is_called c) list.fields) (chars-encodes m s)

  -- ---- a field

  -- an item by its target, made of the value of its key
  abbrev pub ItemIs : Made → Target → Item → Tree → Type 0
  ItemIs R (known f) item v = (item.0 ≡ f.name) × R f.shape item.1 v
  ItemIs R (unknown name) item v = (item.0 ≡ name) × Unit {0}

  -- what the value becomes
  abbrev pub Agreed : Made
  Agreed j d v = Becomes schema j d v

  abbrev Converted : Made
  Converted j d v = into schema j v ≡ Some d

  -- a field and its entry, behind other fields
  abbrev pub FieldIs : List Item → Item → Entry → Type 0
  FieldIs seen item p = (n : Text) × (p.0 ≡ key_of n) × (scalars n ≡ true) × (t : Target) × (target list seen n ≡ Some t) × ItemIs Agreed t item p.1

  module _ (L : Langs) (V : Values) (h : Deeper schema L V) (U : Text → Lang Tree)
      (k : (gap : Text) → Agree (U gap) (V false gap) FollowsValue (λ _ _. Unit {0})) where
    name_agrees : (seen : List Item) → Agree (Means Name (target list seen)) Name Anything (λ t n. (target list seen n ≡ Some t) × (scalars n ≡ true))
    name_agrees seen = record {
      at = λ t next u other x n e s m z f y g.
          let p = (agree_word {F = Anything} word_name).at t next u other z.value n e s m z.spelled f y g in
          (p.0, (subst (λ v. target list seen v ≡ Some x) p.1 z.meant, subst (λ v. scalars v ≡ true) p.1 (name_scalars t next z.value s z.spelled)));
    }

    value_agrees : (seen : List Item) (t : Target) (n gap : Text) → target list seen n ≡ Some t → scalars n ≡ true
        → Agree (FieldValue L U gap t) (Means (V false gap) (entry_with (key_of n))) FollowsValue (FieldIs seen)
    value_agrees seen (known f) n gap e s = agree_both (item_of f) (entry_with (key_of n)) (λ d v item p r q w.
        (let one : (f.name, d) ≡ item = cc in let two : (key_of n, v) ≡ p = cc in
        subst (FieldIs seen item) two (subst (λ z. FieldIs seen z (key_of n, v)) one (n, refl, s, known f, e, (refl, r))))) (h.agree f.shape gap)
    value_agrees seen (unknown name) n gap e s = agree_both (skipped name) (entry_with (key_of n)) (λ d v item p r q w.
        (let one : (name, the_unit) ≡ item = cc in let two : (key_of n, v) ≡ p = cc in
        subst (FieldIs seen item) two (subst (λ z. FieldIs seen z (key_of n, v)) one (n, refl, s, unknown name, e, (refl, tt))))) (k gap)

    pub field_agrees : (seen : List Item) → Agree (FieldItem list L U seen) (FieldEntry V) FollowsValue (FieldIs seen)
    field_agrees seen = agree_behind (name_agrees seen)
        (λ t n _ r. agree_behind (agree_marks {R = λ _ _. Unit {0}} colon done done tt) (λ _ _ gap _. value_agrees seen t n gap r.0 r.1))

  -- ---- one field of the schema

  -- what a target says of the field that its name calls
  abbrev StandsAt : Option Field → Target → Type 0
  StandsAt o (known f) = o ≡ Some f
  StandsAt o (unknown name) = (o ≡ None) × (list_any (is_called name) list.fields ≡ false)

  stands_at : (seen : List Item) (m : Text) (t : Target) → StandsFor list seen m t → StandsAt (find (is_called m) list.fields) t
  stands_at seen m (known f) h = h.known
  stands_at seen m (unknown name) h = (none_found (is_called m) list.fields h.1, rw h.0 h.1)

  key_stands : (seen : List Item) (key : Tree) (t : Target) → field_named list seen key ≡ Some t → StandsAt (field_of key) t
  key_stands seen (tree.text bs) t e = stands_at seen (chars bs) t (target_some list seen (chars bs) t e)
  key_stands seen _ t e = absurd (cc)

  from_target : (t : Target) (item : Item) (v : Tree) → item_as (λ j. into schema j v) t ≡ Some item → ItemIs Converted t item v
  from_target (known f) item v e = let k = mapped_from (λ d. (f.name, d)) (into schema f.shape v) item e in rw (← k.2) (refl, k.1)
  from_target (unknown name) item v e = let one : (name, the_unit) ≡ item = cc in rw (← one) (refl, tt)

  module _ (n : Text) (there : list_any (is_named n) list.fields ≡ true) where
    -- an item and the entry for it, of whose value it is made
    abbrev Matches : Made → Option Item → Option Entry → Type 0
    Matches R None None = Unit {0}
    Matches R (Some item) (Some p) = (f : Field) × (field_of p.0 ≡ Some f) × (item.0 ≡ f.name) × R f.shape item.1 p.1
    Matches R None (Some p) = ⊥
    Matches R (Some item) None = ⊥

    -- the item is of the name where the key calls the field of the name
    tells : (R : Made) (o : Option Field) (t : Target) (item : Item) (v : Tree) → StandsAt o t → ItemIs R t item v → is_of n item ≡ has_name n o
    tells R o (known f) item v h k = rw (h, k.0) refl
    tells R o (unknown name) item v h k = rw (h.0, k.0) (go (same_text name n) refl)
      where
        go : (b : Bool) → same_text name n ≡ b → b ≡ false
        go true q = absurd
            (let x : true ≡ false = sym (named_called n list.fields there) ∙ ap (λ m. list_any (is_called m) list.fields) (sym (same_is name n q)) ∙ h.1 in cc)
        go false q = refl

    match : (R : Made) (t : Target) (item : Item) (p : Entry) → StandsAt (field_of p.0) t → ItemIs R t item p.1 → of_key n p ≡ true
        → Matches R (Some item) (Some p)
    match R (known f) item p h k on = (f, h, k.0, k.1)
    match R (unknown name) item p h k on = absurd (let x : true ≡ false = sym on ∙ ap (has_name n) h.0 in cc)

    -- no item before it is of a new field's name
    is_first : (seen : List Item) (m : Text) (t : Target) → StandsFor list seen m t → has_name n (find (is_called m) list.fields) ≡ true
        → find (is_of n) seen ≡ None
    is_first seen m (known f) h on =
        none_found (is_of n) seen (ap (λ w. list_any (is_of w) seen) (sym (same_is f.name n (sym (ap (has_name n) h.known) ∙ on))) ∙ h.is_new)
    is_first seen m (unknown name) h on = absurd (let x : true ≡ false = sym on ∙ ap (has_name n) (none_found (is_called m) list.fields h.1) in cc)

    abbrev first_of : Option Item → Option Item → Option Item
    first_of (Some x) o = Some x
    first_of None o = o

    first_none : (o : Option Item) → first_of o None ≡ o
    first_none None = refl
    first_none (Some x) = refl

    none_matched : (o : Option Item) (p : Option Entry) → o ≡ None → Matches Agreed o p → p ≡ None
    none_matched None None e h = refl
    none_matched None (Some p) e h = absurd h
    none_matched (Some x) p e h = absurd (cc)

    matched : (seen xs : List Item) (es ps : List Entry) → Along FieldIs seen xs ps → Matches Agreed (find (is_of n) seen) (find (of_key n) es)
        → Matches Agreed (first_of (find (is_of n) seen) (find (is_of n) xs)) (find (of_key n) (put_in es ps))
    matched seen [] es [] h r = subst (λ o. Matches Agreed o (find (of_key n) es)) (sym (first_none (find (is_of n) seen))) r
    matched seen [] es (p ∷ ps) h r = absurd h
    matched seen (x ∷ xs) es [] h r = absurd h
    matched seen (x ∷ xs) es (p ∷ ps) h r =
        go (of_key n p) refl (tells Agreed (field_of p.0) t x p.1 at h.0.5) (matched (x ∷ seen) xs (insert_entry tree_cmp es p.0 p.1) ps h.1)
      where
        m : Text
        m = h.0.0

        t : Target
        t = h.0.3

        stands : StandsFor list seen m t
        stands = target_some list seen m t h.0.4

        key : field_of p.0 ≡ find (is_called m) list.fields
        key = ap field_of h.0.1 ∙ key_field m h.0.2

        at : StandsAt (field_of p.0) t
        at = subst (λ o. StandsAt o t) (sym key) (stands_at seen m t stands)

        go : (b : Bool) → of_key n p ≡ b → is_of n x ≡ of_key n p
            → (Matches Agreed (cond (is_of n x) (Some x) (find (is_of n) seen)) (find (of_key n) (insert_entry tree_cmp es p.0 p.1)) → Matches Agreed
            (first_of (cond (is_of n x) (Some x) (find (is_of n) seen)) (find (is_of n) xs)) (find (of_key n) (put_in (insert_entry tree_cmp es p.0 p.1) ps)))
            → Matches Agreed (first_of (find (is_of n) seen) (cond (is_of n x) (Some x) (find (is_of n) xs)))
            (find (of_key n) (put_in (insert_entry tree_cmp es p.0 p.1) ps))
        go false k w ih =
            let off : is_of n x ≡ false = w ∙ k in
            rw off (rw off at ih (subst (Matches Agreed (find (is_of n) seen)) (sym (insert_other (λ c. has_name n (field_of c)) p.0 p.1 k es)) r))
        go true k w ih =
            let on : is_of n x ≡ true = w ∙ k in
            let unseen : find (is_of n) seen ≡ None = is_first seen m t stands (sym (ap (has_name n) key) ∙ k) in
            let new : find (of_key n) es ≡ None = none_matched (find (is_of n) seen) (find (of_key n) es) unseen r in
            rw (on, unseen)
            (rw on at ih (subst (Matches Agreed (Some x)) (sym (insert_new (λ c. has_name n (field_of c)) p.0 p.1 k es new)) (match Agreed t x p at h.0.5 k)))

    converted : (seen : List Item) (es : List Entry) (cs : List Item) → fields_into schema list seen (pairs_from es) ≡ Some cs
        → Matches Converted (find (is_of n) cs) (find (of_key n) es)
    converted seen [] cs e = let same : [] ≡ cs = cc in subst (λ z. Matches Converted (find (is_of n) z) None) same tt
    converted seen (p ∷ es) cs e =
        let k = followed_from (λ item. fields_into schema list (item ∷ seen) (pairs_from es))
        (option_and_then (item_as (λ j. into schema j p.1)) (field_named list seen p.0)) cs e in
        let t = then_from (item_as (λ j. into schema j p.1)) (field_named list seen p.0) k.0 k.2 in
        let at : StandsAt (field_of p.0) t.0 = key_stands seen p.0 t.0 t.1 in
        let is : ItemIs Converted t.0 k.0 p.1 = from_target t.0 k.0 p.1 t.2 in
        subst (λ z. Matches Converted (find (is_of n) z) (find (of_key n) (p ∷ es))) k.4
        (go k.0 k.1 t.0 at is (of_key n p) refl (tells Converted (field_of p.0) t.0 k.0 p.1 at is) (converted (k.0 ∷ seen) es k.1 k.3))
      where
        go : (item : Item) (rest : List Item) (t : Target) → StandsAt (field_of p.0) t → ItemIs Converted t item p.1 → (b : Bool) → of_key n p ≡ b
            → is_of n item ≡ of_key n p
            → Matches Converted (find (is_of n) rest) (find (of_key n) es)
            → Matches Converted (cond (is_of n item) (Some item) (find (is_of n) rest)) (cond (of_key n p) (Some p) (find (of_key n) es))
        go item rest t at is false k w ih = rw (w, k) ih
        go item rest t at is true k w ih = rw (w, k) (match Converted t item p at is k)

    -- two items of one field, made of one value
    same_item : (item c : Item) (v : Tree) (f g : Field) → Some f ≡ Some g → item.0 ≡ f.name → Becomes schema f.shape item.1 v → c.0 ≡ g.name
        → into schema g.shape v ≡ Some c.1 → ◌≡◌ {A = Option Item} (Some c) (Some item)
    same_item item c v f g e n r m k =
        let field : g ≡ f = cc in
        let name_is : c.0 ≡ f.name = subst (λ (h : Field). c.0 ≡ h.name) field m in
        let data_is : c.1 ≡ item.1 = r c.1 (subst (λ (h : Field). into schema h.shape v ≡ Some c.1) field k) in
        λ i. Some ((name_is ∙ sym n) i, data_is i)

    joined_items : (o c : Option Item) (p : Option Entry) → Matches Agreed o p → Matches Converted c p → c ≡ o
    joined_items None None None h k = refl
    joined_items (Some item) (Some c) (Some p) h k = same_item item c p.1 h.0 k.0 (sym h.1 ∙ k.1) h.2 h.3 k.2 k.3
    joined_items None (Some c) None h k = absurd k
    joined_items (Some item) o None h k = absurd h
    joined_items None o (Some p) h k = absurd h
    joined_items (Some item) None (Some p) h k = absurd k

    -- what is found among the items of the text and of the map is the same
    found_same : (xs : List Item) (ps : List Entry) (cs : List Item) → Along FieldIs [] xs ps → fields_into schema list [] (pairs_from (put_in [] ps)) ≡ Some cs
        → find (is_of n) cs ≡ find (is_of n) xs
    found_same xs ps cs h e =
        joined_items (find (is_of n) xs) (find (is_of n) cs) (find (of_key n) (put_in [] ps)) (matched [] xs [] ps h tt) (converted [] (put_in [] ps) cs e)

  -- ---- a field that no key calls

  -- fields are arranged only where each that may not be missing is there
  arranged_whole : (n : Text) (g : Field) (fields : List Field) (xs : List Item) (ds : Fields) → find (is_named n) fields ≡ Some g → g.may_be_missing ≡ false
      → find (is_of n) xs ≡ None → arranged fields xs ≡ Some ds → ⊥
  arranged_whole n g [] xs ds there m none e = absurd (cc)
  arranged_whole n g (f ∷ fields) xs ds there m none e = go (is_named n f) refl there e (λ es q k. arranged_whole n g fields xs es q m none k)
    where
      behind : (o : Option Item) (b : Bool) → with_item b o (arranged fields xs) ≡ Some ds → (es : Fields) × (arranged fields xs ≡ Some es)
      behind (Some item) b e = let k = mapped_from (field_and item.0 item.1) (arranged fields xs) ds e in (k.0, k.1)
      behind None true e = (ds, e)
      behind None false e = absurd (cc)

      go : (b : Bool) → is_named n f ≡ b → cond b (Some f) (find (is_named n) fields) ≡ Some g → with_item f.may_be_missing (find (is_of f.name) xs)
          (arranged fields xs) ≡ Some ds → ((es : Fields) → find (is_named n) fields ≡ Some g → arranged fields xs ≡ Some es → ⊥) → ⊥
      go true k q e ih =
          let same : f ≡ g = cc in
          let mine : f.name ≡ n = same_is f.name n k in
          let x : with_item false None (arranged fields xs) ≡ Some ds =
          ap (λ o. with_item false o (arranged fields xs)) (sym none ∙ ap (λ m. find (is_of m) xs) (sym mine))
          ∙ ap (λ b. with_item b (find (is_of f.name) xs) (arranged fields xs)) (sym m ∙ ap (λ (h : Field). h.may_be_missing) (sym same)) ∙ e in
          cc
      go false k q e ih = let z = behind (find (is_of f.name) xs) f.may_be_missing e in ih z.0 q z.1

  -- what a map becomes as a struct is made of its fields
  struct_becomes : (i : ℕ) (name : Text) (es : List Entry) (e : Data) → slice_get schema i ≡ Some (struct name list)
      → into schema i (tree.mapping (pairs_from es)) ≡ Some e
      → (cs : List Item) × (fields_into schema list [] (pairs_from es) ≡ Some cs) × (struct_from name list.fields cs ≡ Some e)
  struct_becomes i name es e s r = then_from (struct_from name list.fields) (fields_into schema list [] (pairs_from es)) e
      (sym (ap (λ o. or_itself (tree.mapping (pairs_from es)) o
      (mapping_as (λ k v. pairs_into schema k v (pairs_from es)) (λ list. fields_into schema list [] (pairs_from es)) o)) s) ∙ r)

  -- a map becomes no struct where none of its keys calls a field that may not be missing
  pub missing_field : (i : ℕ) (name n : Text) (g : Field) → slice_get schema i ≡ Some (struct name list) → find (is_named n) list.fields ≡ Some g
      → g.may_be_missing ≡ false → (ps : List Entry) → find (of_key n) (put_in [] ps) ≡ None → (d : Data) → Becomes schema i d (mapped ps)
  missing_field i name n g s there m ps none d e r =
      let k = struct_becomes i name (put_in [] ps) e s r in
      let a = mapped_from (struct_of name) (arranged list.fields k.0) e k.2 in
      let named : list_any (is_named n) list.fields ≡ true = found_any (is_named n) list.fields g there in
      absurd (arranged_whole n g list.fields k.0 a.0 there m
      (none_made (find (is_of n) k.0) (subst (Matches n named Converted (find (is_of n) k.0)) none (converted n named [] (put_in [] ps) k.0 k.1))) a.1)
    where
      none_made : (o : Option Item) → Matches n (found_any (is_named n) list.fields g there) Converted o None → o ≡ None
      none_made None z = refl
      none_made (Some item) z = absurd z

  -- ---- all fields

  arranged_same : (fields : List Field) (cs xs : List Item) → ((n : Text) → list_any (is_named n) fields ≡ true → find (is_of n) cs ≡ find (is_of n) xs)
      → arranged fields cs ≡ arranged fields xs
  arranged_same [] cs xs h = refl
  arranged_same (f ∷ fields) cs xs h =
      ap (λ o. with_item f.may_be_missing o (arranged fields cs)) (h f.name (ap (λ b. b || list_any (is_named f.name) fields) (same_self f.name)))
      ∙ ap (with_item f.may_be_missing (find (is_of f.name) xs))
      (arranged_same fields cs xs (λ n k. h n (or_right (is_named n f) (list_any (is_named n) fields) k)))

  pub fields_become : (i : ℕ) (name : Text) → slice_get schema i ≡ Some (struct name list) → (xs : List Item) (ps : List Entry) (d : Data)
      → Along FieldIs [] xs ps → struct_from name list.fields xs ≡ Some d → Becomes schema i d (mapped ps)
  fields_become i name s xs ps d h q e r =
      let k = struct_becomes i name (put_in [] ps) e s r in
      let same : arranged list.fields k.0 ≡ arranged list.fields xs = arranged_same list.fields k.0 xs (λ n there. found_same n there xs ps k.0 h k.1) in
      let both : Some e ≡ Some d = sym k.2 ∙ ap (option_map (struct_of name)) same ∙ q in
      cc
