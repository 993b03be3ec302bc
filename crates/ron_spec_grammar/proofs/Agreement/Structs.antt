-- Structs in their parentheses agree with maps read without a schema: for `Agreement.Levels`.
use Rattle.std.proofs.Common.{◌≡◌, ℕ, Bool, true, false, List, [], ◌∷◌, ◌++◌, Some, None, slice_get, refl, sym, ap, subst, ◌∙◌}
use Rattle.ron_spec_words.specs.Characters.{Text, left_parenthesis, right_parenthesis}
use Rattle.ron_spec_words.specs.Runs.{is_at}
use Rattle.ron_spec_words.specs.Gap.{skip}
use Rattle.ron_spec_words.specs.Lang.{Lang, done, Empty, Then, Or, WithComma, Items, Group, Needs}
use Rattle.ron_spec_words.specs.Exact.{Before, FollowsValue}
use Rattle.ron_spec_words.specs.Name.{Named}
use Rattle.ron_spec_words.specs.Lookahead.{opens_field}
use Rattle.ron_spec_words.proofs.Words.{First, first_means}
use Rattle.ron_spec_words.proofs.Classes.{Solid}
use Rattle.ron_spec_words.proofs.Names.{name_solid}
use Rattle.ron_spec_words.proofs.Exactly.{Opens, first_then, first_mark, not_stop}
use Rattle.ron_spec_words.proofs.Lookahead.{field_opens}
use Rattle.ron_value.specs.Tree.{Tree, items_from}
use Rattle.ron_value.specs.Tree as tree
use Rattle.ron_spec_grammar.specs.Data.{Data}
use Rattle.ron_spec_grammar.specs.Schema.{FieldList, Shape, struct}
use Rattle.ron_spec_grammar.specs.Rule.{Langs}
use Rattle.ron_spec_grammar.specs.Values.Trees.{Entry, mapped}
use Rattle.ron_spec_grammar.specs.Values.Grammar.{Values, OneValue, RoundGroup, SomeContent, FieldEntry, list_value, fields_value}
use Rattle.ron_spec_grammar.specs.Values.Conversion.{or_itself, unit_as, some_as, into}
use Rattle.ron_spec_grammar.specs.Shapes.Struct.{Item, struct_from, FieldValue, FieldItem, FieldItems}
use Rattle.ron_spec_grammar.proofs.Values.Telling.{starts_then, items_start, items_first, comma_no_colon}
use Rattle.ron_spec_grammar.proofs.Agreement.Agree.{Agree, Along, agree_within, agree_meant, agree_both, agree_needs, agree_left, agree_right, agree_group}
use Rattle.ron_spec_grammar.proofs.Agreement.Agree.{agree_items, empty_at}
use Rattle.ron_spec_grammar.proofs.Agreement.Leaves.{Becomes}
use Rattle.ron_spec_grammar.proofs.Agreement.Groups.{Deeper, items_empty, agree_brackets, list_is}
use Rattle.ron_spec_grammar.proofs.Agreement.Named.{agree_named}
use Rattle.ron_spec_grammar.proofs.Agreement.Fields.{FieldIs, field_agrees, fields_become}

module _ (schema : List Shape) (m room : ℕ) (L : Langs) (V : ℕ → Values) (h : (k : ℕ) → Deeper schema L (V k)) (U : Text → Lang Tree)
    (unknown : (k : ℕ) (gap : Text) → Agree (U gap) (V k false gap) FollowsValue (λ _ _. Unit {0})) (name : Text) (list : FieldList) where
  abbrev Fields : Text → Lang (List Item)
  Fields gap = Items (λ seen _. FieldItem list L U seen) gap

  field_solid : (seen : List Item) → Opens (FieldItem list L U seen)
  field_solid seen = first_then (first_means name_solid)

  field_opens_field : (seen : List Item) → First (λ s. opens_field s ≡ true) (FieldItem list L U seen)
  field_opens_field seen = record {
    holds = λ t next item z. (field_opens (λ _ gap. FieldValue L U gap z.value)).holds t next item
        (record {
          value = z.first.value;
          left = z.left;
          gap = z.gap;
          right = z.right;
          split = z.split;
          first = z.first.spelled;
          is_gap = z.is_gap;
          second = z.second;
        });
  }

  closed_at : (t next : Text) → t ≡ [] → Before 41 next → skip (t ++ next) ≡ t ++ next → is_at 41 (t ++ next) ≡ true
  closed_at t next e f n = empty_at 41 t next e f n

  open_at : {A : Type 0} {M : Lang A} → Opens M → (t next : Text) (a : A) → M t next a → is_at 41 (t ++ next) ≡ false
  open_at o t next a z = not_stop 41 (t ++ next) refl (o.holds t next a z).0

  unlike : (s t : Text) (p : Text → Bool) → s ≡ t → p s ≡ true → p t ≡ false → ⊥
  unlike s t p e f g = let x : true ≡ false = sym f ∙ ap p e ∙ g in cc

  -- fields are no items
  fields_or_items : (before : Text) → Agree (Fields before) (Items (λ _ gap. V 1 false gap) before) (Before 41) (λ _ _. Unit {0})
  fields_or_items before = record { at = λ t next u other xs ys e _ n z f y g. go t next u other xs ys e n z f y g }
    where
      go : (t next u other : Text) (xs : List Item) (ys : List Tree) → t ++ next ≡ u ++ other → skip (t ++ next) ≡ t ++ next → Fields before t next xs
          → Before 41 next → Items (λ _ gap. V 1 false gap) before u other ys → Before 41 other → (next ≡ other) × Unit {0}
      go t next u other [] [] e n z f y g = (sym (ap (λ v. v ++ next) z) ∙ e ∙ ap (λ v. v ++ other) y, tt)
      go t next u other [] (y ∷ ys) e n z f w g = absurd (unlike (t ++ next) (u ++ other) (is_at 41) e (closed_at t next z f n)
          (not_stop 41 (u ++ other) refl (items_first (λ _ gap. V 1 false gap) Solid before ((h 1).value_opens before) u other y ys w).0))
      go t next u other (x ∷ xs) [] e n z f w g =
          absurd (unlike (u ++ other) (t ++ next) (is_at 41) (sym e) (closed_at u other w g (subst (λ s. skip s ≡ s) e n))
          (not_stop 41 (t ++ next) refl (items_first (λ seen _. FieldItem list L U seen) Solid before (field_solid []) t next x xs z).0))
      go t next u other (x ∷ xs) (y ∷ ys) e n z f w g = absurd (unlike (t ++ next) (u ++ other) opens_field e
          (items_first (λ seen _. FieldItem list L U seen) (λ s. opens_field s ≡ true) before (field_opens_field []) t next x xs z)
          (items_start (λ _ gap. V 1 false gap) opens_field false before ((h 1).value_unnamed before) u other y ys w g (subst (λ s. skip s ≡ s) e n)))

  -- nor are they the content of a Some
  fields_or_content : (before : Text) → Agree (Fields before) (WithComma (V 0 false before)) (Before 41) (λ _ _. Unit {0})
  fields_or_content before = record { at = λ t next u other xs v e _ n z f y g. go t next u other xs v e n z f y g }
    where
      go : (t next u other : Text) (xs : List Item) (v : Tree) → t ++ next ≡ u ++ other → skip (t ++ next) ≡ t ++ next → Fields before t next xs
          → Before 41 next → WithComma (V 0 false before) u other v → Before 41 other → (next ≡ other) × Unit {0}
      go t next u other [] v e n z f y g = absurd (unlike (t ++ next) (u ++ other) (is_at 41) e (closed_at t next z f n)
          (open_at {M = WithComma (V 0 false before)} (first_then ((h 0).value_opens before)) u other v y))
      go t next u other (x ∷ xs) v e n z f y g = absurd (unlike (t ++ next) (u ++ other) opens_field e
          (items_first (λ seen _. FieldItem list L U seen) (λ s. opens_field s ≡ true) before (field_opens_field []) t next x xs z)
          ((starts_then {p = opens_field} {b = false} ((h 0).value_unnamed before) comma_no_colon).at u other v y g (subst (λ s. skip s ≡ s) e n)))

  module _ (i : ℕ) (s : slice_get schema i ≡ Some (struct name list)) where
    abbrev TheGroup : Lang Data
    TheGroup = Group left_parenthesis right_parenthesis (λ gap. Needs 1 room (FieldItems name list L U gap))

    fields_made : (xs : List Item) (ps : List Entry) (d : Data) (v : Tree) → Along (FieldIs schema list) [] xs ps → struct_from name list.fields xs ≡ Some d
        → fields_value ps ≡ Some v → Becomes schema i d v
    fields_made xs [] d v r q f = absurd (cc)
    fields_made xs (p ∷ ps) d v r q f = let same : mapped (p ∷ ps) ≡ v = cc in
        subst (Becomes schema i d) same (fields_become schema list i name s xs (p ∷ ps) d r q)

    items_made : (ts : List Tree) (d : Data) (v : Tree) → list_value ts ≡ Some v → Becomes schema i d v
    items_made ts d v f e g = let same : tree.sequence (items_from ts) ≡ v = cc in
        absurd (let x : None ≡ Some e = sym (list_is schema i (Some (struct name list)) ts s) ∙ ap (into schema i) same ∙ g in cc)

    round : Agree TheGroup (RoundGroup m (V 1)) FollowsValue (Becomes schema i)
    round = agree_group left_parenthesis right_parenthesis (λ gap. agree_needs 1 room 1 m (agree_right
        (agree_both (struct_from name list.fields) fields_value fields_made
        (agree_items (λ seen _. FieldItem list L U seen) (λ _ _. FieldEntry (V 1)) right_parenthesis refl refl (FieldIs schema list)
        (λ seen _ _. field_agrees schema list L (V 1) (h 1) U (unknown 1) seen) (λ seen _. field_solid seen) (λ _ _. first_then name_solid) gap))
        (agree_both (struct_from name list.fields) list_value (λ xs ts d v _ _ f. items_made ts d v f) (fields_or_items gap))))

    empty : Agree TheGroup (Group left_parenthesis right_parenthesis (λ _. Empty done)) FollowsValue (λ _ _. Unit {0})
    empty = agree_group left_parenthesis right_parenthesis (λ gap. agree_within (λ t next a z. z.1) (λ t next b z. z) (agree_meant {R = λ _ _. Unit {0}}
        (struct_from name list.fields) (λ _ _ _ _ _. tt) (items_empty (λ seen _. FieldItem list L U seen) (λ seen _. field_solid seen) gap)))

    content : Agree TheGroup (Group left_parenthesis right_parenthesis (SomeContent false (V 0))) FollowsValue (λ _ _. Unit {0})
    content = agree_group left_parenthesis right_parenthesis (λ gap. agree_within (λ t next a z. z.1) (λ t next b z. z)
        (agree_meant {R = λ _ _. Unit {0}} (struct_from name list.fields) (λ _ _ _ _ _. tt) (fields_or_content gap)))

    pub agree_struct : Agree (Or TheGroup (Then (Named name) (λ _ _. TheGroup))) (OneValue false m V) FollowsValue (Becomes schema i)
    agree_struct = agree_left
        (agree_brackets m V (first_then (first_mark _ left_parenthesis done (λ s. refl)))
        (λ d e g. absurd (let x : None ≡ Some e = sym (ap (λ o. or_itself tree.unit o (unit_as o)) s) ∙ g in cc)) empty round)
        (agree_named m V name (λ _. TheGroup) (Becomes schema i) (λ _. first_then (first_mark _ left_parenthesis done (λ s. refl))) (λ d v e g.
        absurd (let x : None ≡ Some e = sym (ap (λ o. or_itself (tree.some v) o (some_as (λ j. into schema j v) o)) s) ∙ g in cc)) (λ _. content) (λ _. round))
