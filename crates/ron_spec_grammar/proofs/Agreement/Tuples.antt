-- Tuples and tuple structs agree with lists read without a schema: for `Agreement.Levels`.
use Rattle.std.proofs.Common.{◌≡◌, ℕ, true, false, List, [], ◌∷◌, ◌++◌, inl, inr, Some, None, option_map, slice_get, refl, sym, ap, subst, ◌∙◌, append_assoc}
use Rattle.std.proofs.Common.{append-nil}
use Rattle.ron_spec_words.specs.Characters.{Text, left_parenthesis, right_parenthesis}
use Rattle.ron_spec_words.specs.Runs.{is_at}
use Rattle.ron_spec_words.specs.Gap.{LongGap, none}
use Rattle.ron_spec_words.specs.Lang.{Lang, done, Mark, Then, Or, OptComma, WithComma, Items, Group, Needs}
use Rattle.ron_spec_words.specs.Exact.{FollowsValue}
use Rattle.ron_spec_words.specs.Name.{Named}
use Rattle.ron_spec_words.proofs.Words.{First}
use Rattle.ron_spec_words.proofs.Exactly.{first_then, first_mark, three}
use Rattle.ron_value.specs.Tree.{Tree, items_from}
use Rattle.ron_value.specs.Tree as tree
use Rattle.ron_spec_grammar.specs.Data.{Data, Datas, tuple_of, tuple_struct_of}
use Rattle.ron_spec_grammar.specs.Schema.{Shape, tuple, tuple_struct}
use Rattle.ron_spec_grammar.specs.Rule.{Langs, NoGap}
use Rattle.ron_spec_grammar.specs.Values.Grammar.{Values, OneValue, RoundGroup, SomeContent}
use Rattle.ron_spec_grammar.specs.Values.Conversion.{or_itself, unit_as, some_as, into, each_into}
use Rattle.ron_spec_grammar.specs.Shapes.Tuple.{TupleItems}
use Rattle.ron_spec_grammar.proofs.Agreement.Agree.{Agree, agree_map, agree_left}
use Rattle.ron_spec_grammar.proofs.Agreement.Leaves.{Becomes}
use Rattle.ron_spec_grammar.proofs.Agreement.Groups.{Deeper, TupleMade, agree_tuple_round, agree_tuple_items, tuple_empty, agree_brackets, list_is}
use Rattle.ron_spec_grammar.proofs.Agreement.Named.{agree_named}
use Rattle.ron_spec_grammar.proofs.Finding.{mapped_from}

-- ---- the content of a Some as items

module _ (V : Text → Lang Tree) where
  one_item : (before t next : Text) (v : Tree) (y : Then (WithComma (V before)) (λ a _. Mark right_parenthesis a) t next v)
      → Then (Items (λ _ gap. V gap) before) (λ a _. Mark right_parenthesis a) t next (v ∷ [])
  one_item before t next v y = go y.first.second
    where
      go : OptComma y.first.value y.first.right (y.gap ++ (y.right ++ next)) y.value
          → Then (Items (λ _ gap. V gap) before) (λ a _. Mark right_parenthesis a) t next (v ∷ [])
      go (inr w) = record {
        value = v ∷ [];
        left = y.left;
        gap = y.gap;
        right = y.right;
        split = y.split;
        first = record {
          value = done;
          left = y.first.left;
          gap = y.first.gap;
          right = y.first.right;
          split = y.first.split;
          first = subst (λ a. V before y.first.left (y.first.gap ++ (y.first.right ++ (y.gap ++ (y.right ++ next)))) a) (w.1 ∙ y.second.1) y.first.first;
          is_gap = y.first.is_gap;
          second = inl (w.0, refl);
        };
        is_gap = y.is_gap;
        second = (y.second.0, refl);
      }
      go (inl w) =
          let join : y.first.right ++ (y.gap ++ (y.right ++ next)) ≡ (y.first.right ++ y.gap) ++ (y.right ++ next) =
          sym (append_assoc y.first.right y.gap (y.right ++ next)) in
          record {
            value = v ∷ [];
            left = y.left ++ y.gap;
            gap = [];
            right = y.right;
            split = y.split ∙ sym (append_assoc y.left y.gap y.right);
            first = record {
              value = done;
              left = y.first.left;
              gap = y.first.gap;
              right = y.first.right ++ y.gap;
              split = ap (λ z. z ++ y.gap) y.first.split ∙ three y.first.left y.first.gap y.first.right y.gap;
              first = subst (λ z. V before y.first.left (y.first.gap ++ z) v) join
                  (subst (λ a. V before y.first.left (y.first.gap ++ (y.first.right ++ (y.gap ++ (y.right ++ next)))) a) (w.1 ∙ y.second.1) y.first.first);
              is_gap = subst (LongGap y.first.gap) join y.first.is_gap;
              second = inr (record {
                value = done;
                left = 44 ∷ [];
                gap = y.gap;
                right = [];
                split = ap (λ z. z ++ y.gap) w.0 ∙ ap (λ z. 44 ∷ z) (sym (append-nil y.gap));
                first = (refl, refl);
                is_gap = y.is_gap;
                second = (refl, refl);
              });
            };
            is_gap = record { is_gap = none; longest = y.is_gap.longest };
            second = (y.second.0, refl);
          }

  pub content_items : (t next : Text) (v : Tree) → Group left_parenthesis right_parenthesis (λ gap. WithComma (V gap)) t next v
      → Group left_parenthesis right_parenthesis (λ gap. Items (λ _ before. V before) gap) t next (v ∷ [])
  content_items t next v z = record {
    value = z.value;
    left = z.left;
    gap = z.gap;
    right = z.right;
    split = z.split;
    first = z.first;
    is_gap = z.is_gap;
    second = one_item z.gap z.right next v z.second;
  }

-- ---- the shapes

module _ (schema : List Shape) (m room : ℕ) (L : Langs) (V : ℕ → Values) (h : (k : ℕ) → Deeper schema L (V k)) (js : List ℕ) (i : ℕ) where
  module _ (make : Datas → Data) (is : (ts : List Tree) → into schema i (tree.sequence (items_from ts)) ≡ option_map make (each_into schema js (items_from ts)))
      (no_unit : into schema i tree.unit ≡ None) (no_some : (t : Tree) → into schema i (tree.some t) ≡ None) where
    abbrev TheGroup : Lang Data
    TheGroup = Group left_parenthesis right_parenthesis (λ gap. Needs 1 room (TupleItems make js L gap))

    made_becomes : (d : Data) (v : Tree) → TupleMade schema m room L (V 1) (h 1) make js d v → Becomes schema i d v
    made_becomes d v r e g =
        let k = mapped_from make (each_into schema js (items_from r.0)) e (sym (is r.0) ∙ ap (into schema i) r.1 ∙ g) in
        sym k.2 ∙ r.2 k.0 k.1

    unit_becomes : (d : Data) → Becomes schema i d tree.unit
    unit_becomes d e g = absurd (let x : None ≡ Some e = sym no_unit ∙ g in cc)

    some_becomes : (d : Data) (t : Tree) → Becomes schema i d (tree.some t)
    some_becomes d t e g = absurd (let x : None ≡ Some e = sym (no_some t) ∙ g in cc)

    round : Agree TheGroup (RoundGroup m (V 1)) FollowsValue (Becomes schema i)
    round = agree_map made_becomes (agree_tuple_round schema m room L (V 1) (h 1) make js)

    pub agree_group_alone : Agree TheGroup (OneValue false m V) FollowsValue (Becomes schema i)
    agree_group_alone =
        agree_brackets m V (first_then (first_mark _ left_parenthesis done (λ s. refl))) unit_becomes (tuple_empty schema m room L (V 1) (h 1) make js) round

    content : Agree TheGroup (Group left_parenthesis right_parenthesis (SomeContent false (V 0))) FollowsValue (λ _ _. Unit {0})
    content = record {
      at = λ t next u other a v e s n z f y g. (agree_tuple_items schema m room L (V 0) (h 0) make js {F = FollowsValue}).at t next u other a (v ∷ []) e s n z f
          (content_items (V 0 false) u other v y) g;
    }

    directly : (gap : Text) → First (λ s. is_at 40 s ≡ true) (NoGap gap TheGroup)
    directly [] = first_then (first_mark _ left_parenthesis done (λ s. refl))
    directly (c ∷ gap) = record { holds = λ t next d z. absurd z }

    no_gap_agrees : {B : Type 0} {M : Lang B} {R : Data → B → Type 0} (gap : Text) → Agree TheGroup M FollowsValue R
        → Agree (NoGap gap TheGroup) M FollowsValue R
    no_gap_agrees [] k = k
    no_gap_agrees (c ∷ gap) k = record { at = λ t next u other a b e s n z. absurd z }

    pub agree_group_named : (n : Text) → Agree (Then (Named n) (λ _ gap. NoGap gap TheGroup)) (OneValue false m V) FollowsValue (Becomes schema i)
    agree_group_named n = agree_named m V n (λ gap. NoGap gap TheGroup) (Becomes schema i) directly some_becomes (λ gap. no_gap_agrees gap content)
        (λ gap. no_gap_agrees gap round)

  pub agree_tuple : slice_get schema i ≡ Some (tuple js) → Agree (Group left_parenthesis right_parenthesis (λ gap. Needs 1 room (TupleItems tuple_of js L gap)))
      (OneValue false m V) FollowsValue (Becomes schema i)
  agree_tuple s = agree_group_alone tuple_of (λ ts. list_is schema i (Some (tuple js)) ts s) (ap (λ o. or_itself tree.unit o (unit_as o)) s)
      (λ t. ap (λ o. or_itself (tree.some t) o (some_as (λ j. into schema j t) o)) s)

  pub agree_tuple_struct : (n : Text) → slice_get schema i ≡ Some (tuple_struct n js)
      → Agree (Or (Group left_parenthesis right_parenthesis (λ gap. Needs 1 room (TupleItems (tuple_struct_of n) js L gap)))
      (Then (Named n) (λ _ gap. NoGap gap (Group left_parenthesis right_parenthesis (λ gap. Needs 1 room (TupleItems (tuple_struct_of n) js L gap))))))
      (OneValue false m V) FollowsValue (Becomes schema i)
  agree_tuple_struct n s = agree_left
      (agree_group_alone (tuple_struct_of n) (λ ts. list_is schema i (Some (tuple_struct n js)) ts s) (ap (λ o. or_itself tree.unit o (unit_as o)) s)
      (λ t. ap (λ o. or_itself (tree.some t) o (some_as (λ j. into schema j t) o)) s))
      (agree_group_named (tuple_struct_of n) (λ ts. list_is schema i (Some (tuple_struct n js)) ts s) (ap (λ o. or_itself tree.unit o (unit_as o)) s)
      (λ t. ap (λ o. or_itself (tree.some t) o (some_as (λ j. into schema j t) o)) s) n)
