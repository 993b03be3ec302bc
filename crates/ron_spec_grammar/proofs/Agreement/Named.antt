-- Shapes that a name may stand before agree with what is read behind the name without a schema: for structs, tuple structs and unit structs.
use Rattle.std.proofs.Common.{◌≡◌, ℕ, true, false, List, codes, inl, inr, Some, None, slice_get, refl, sym, ap, subst, ◌∙◌, Bool, cond}
use Rattle.ron_spec_words.specs.Characters.{Text, left_parenthesis, right_parenthesis}
use Rattle.ron_spec_words.specs.Runs.{is_at}
use Rattle.ron_spec_words.specs.Lang.{Lang, done, Then, Group}
use Rattle.ron_spec_words.specs.Exact.{FollowsValue}
use Rattle.ron_spec_words.specs.Name.{Named}
use Rattle.ron_spec_words.proofs.Words.{First, first_means}
use Rattle.ron_spec_words.proofs.Exactly.{first_then, first_mark}
use Rattle.ron_value.specs.Tree.{Tree}
use Rattle.ron_value.specs.Tree as tree
use Rattle.ron_spec_grammar.specs.Data.{Data, unit_struct_of}
use Rattle.ron_spec_grammar.specs.Schema.{Shape, unit_struct}
use Rattle.ron_spec_grammar.specs.Values.Grammar.{Values, OneValue, RoundGroup, SomeContent, some_value, unit_value, interval_value, a_word}
use Rattle.ron_spec_grammar.specs.Values.Conversion.{or_itself, boolean_as, unit_as, none_as}
use Rattle.ron_spec_grammar.specs.Shapes.Range.{full_data}
use Rattle.ron_spec_grammar.specs.Shapes.UnitStruct.{unit_struct_data, UnitStructText}
use Rattle.ron_spec_grammar.proofs.Values.Forms.{value_words, required_name_form}
use Rattle.ron_spec_grammar.proofs.Agreement.Agree.{Agree, agree_map, agree_meant, agree_means, agree_left, agree_right, agree_then}
use Rattle.ron_spec_grammar.proofs.Agreement.Words.{Ends, agree_names, agree_fixed, agree_ending, alone_bracket, bracket_alone, first_follows}
use Rattle.ron_spec_grammar.proofs.Agreement.Forms.{agree_form}
use Rattle.ron_spec_grammar.proofs.Agreement.Leaves.{Becomes, OneOf, agree_spelled, agree_interval}
use Rattle.ron_spec_words.specs.Runs.{same_text}
use Rattle.ron_spec_words.specs.Range.{Interval, one, range}

module _ (m : ℕ) (V : ℕ → Values) (n : Text) where
  -- what stands in parentheses behind the name
  pub agree_named : (K : Text → Lang Data) (R : Data → Tree → Type 0) → ((gap : Text) → First (λ s. is_at 40 s ≡ true) (K gap))
      → ((d : Data) (v : Tree) → R d (tree.some v))
      → ((gap : Text) → Agree (K gap) (Group left_parenthesis right_parenthesis (SomeContent false (V 0))) FollowsValue (λ _ _. Unit {0}))
      → ((gap : Text) → Agree (K gap) (RoundGroup m (V 1)) FollowsValue R)
      → Agree (Then (Named n) (λ _ gap. K gap)) (OneValue false m V) FollowsValue R
  agree_named K R first none_is content round = agree_form m V a_word (first_then (first_means required_name_form))
      (agree_right (bracket_alone (agree_fixed n (codes "true") (tree.boolean true) value_words.0) (λ _ gap. first gap))
      (agree_right (bracket_alone (agree_fixed n (codes "false") (tree.boolean false) value_words.1) (λ _ gap. first gap))
      (agree_right (bracket_alone (agree_fixed n (codes "None") tree.none value_words.2) (λ _ gap. first gap))
      (agree_right (agree_then {F = Ends} (agree_fixed n (codes "Some") done value_words.3)
      (λ _ _ gap _. agree_means some_value (λ d c v _ e. subst (R d) (some_is c v e) (none_is d c)) (content gap)) (λ _ gap. first_follows (first gap))
      (λ _ gap. first_follows (first_means (first_then (first_mark _ left_parenthesis done (λ s. refl))))))
      (agree_right (agree_then {F = Ends} (agree_names n) (λ _ _ gap _. round gap) (λ _ gap. first_follows (first gap))
      (λ _ gap. first_follows (first_then (first_mark _ left_parenthesis done (λ s. refl)))))
      (bracket_alone {S = λ _ _. Unit {0}} (agree_means unit_value (λ _ _ _ _ _. tt) (agree_names n)) (λ _ gap. first gap)))))))
    where
      some_is : (c v : Tree) → some_value c ≡ Some v → tree.some c ≡ v
      some_is c v e = cc

  -- the name alone
  pub agree_alone : (R : Tree → Type 0) → R (tree.boolean true) → R (tree.boolean false) → R tree.none → R tree.unit
      → Agree (Named n) (OneValue false m V) FollowsValue (λ _ v. R v)
  agree_alone R is_true is_false none_is unit_is = agree_form m V a_word (first_means required_name_form)
      (agree_right (agree_map (λ _ v p. subst R p.1 is_true) (agree_ending (agree_fixed n (codes "true") (tree.boolean true) value_words.0)))
      (agree_right (agree_map (λ _ v p. subst R p.1 is_false) (agree_ending (agree_fixed n (codes "false") (tree.boolean false) value_words.1)))
      (agree_right (agree_map (λ _ v p. subst R p.1 none_is) (agree_ending (agree_fixed n (codes "None") tree.none value_words.2)))
      (agree_right
      (alone_bracket (agree_fixed n (codes "Some") done value_words.3) (λ _ gap. first_means (first_then (first_mark _ left_parenthesis done (λ s. refl)))))
      (agree_right (alone_bracket (agree_names n) (λ _ gap. first_then (first_mark _ left_parenthesis done (λ s. refl))))
      (agree_means {R = λ _ _. Unit {0}} unit_value (λ a b v _ e. subst R (unit_value_is b v e) unit_is)
      (agree_map (λ _ _ _. tt) (agree_ending (agree_names n)))))))))
    where
      unit_value_is : (b : Text) (v : Tree) → unit_value b ≡ Some v → tree.unit ≡ v
      unit_value_is b v e = cc

module _ (m : ℕ) (V : ℕ → Values) (schema : List Shape) (i : ℕ) (same : Agree (OneOf m V) (OneOf m V) FollowsValue (λ a b. a ≡ b)) where
  pub agree_unit_struct : (n : Text) → slice_get schema i ≡ Some (unit_struct n)
      → Agree (UnitStructText false n false) (OneValue false m V) FollowsValue (Becomes schema i)
  agree_unit_struct n s = agree_left (agree_interval m V (full_data n) (Becomes schema i) full) (agree_left
      (agree_spelled same (λ t next d _ z.
      (tree.unit, inr (inr (inr (inr (inr (inl (inl (record { value = z.value; spelled = z.spelled; meant = refl }))))))), from_unit d z.meant)))
      (agree_meant (unit_struct_data n) (λ a v d r e. r d e) (agree_alone m V n (λ v. (d : Data) → Some (unit_struct_of n) ≡ Some d → Becomes schema i d v)
      (λ d _ e r. absurd (let x : None ≡ Some e = sym (ap (λ o. or_itself (tree.boolean true) o (boolean_as true o)) s) ∙ r in cc))
      (λ d _ e r. absurd (let x : None ≡ Some e = sym (ap (λ o. or_itself (tree.boolean false) o (boolean_as false o)) s) ∙ r in cc))
      (λ d _ e r. absurd (let x : None ≡ Some e = sym (ap (λ o. or_itself tree.none o (none_as o)) s) ∙ r in cc))
      from_unit)))
    where
      from_unit : (d : Data) → Some (unit_struct_of n) ≡ Some d → Becomes schema i d tree.unit
      from_unit d q e r = let x : Some (unit_struct_of n) ≡ Some e = sym (ap (λ o. or_itself tree.unit o (unit_as o)) s) ∙ r in cc

      full_is : (b : Bool) (d : Data) → cond b (Some (unit_struct_of n)) None ≡ Some d → Some (unit_struct_of n) ≡ Some d
      full_is true d q = q
      full_is false d q = absurd (cc)

      full : (z : Interval) (d : Data) (v : Tree) → full_data n z ≡ Some d → interval_value z ≡ Some v → Becomes schema i d v
      full (one k) d v q r = absurd (cc)
      full (range None closed None) d v q r = let unit : tree.unit ≡ v = cc in
          subst (Becomes schema i d) unit (from_unit d (full_is (same_text n (codes "RangeFull")) d q))
      full (range (Some a) closed None) d v q r = absurd (cc)
      full (range (Some a) closed (Some b)) d v q r = absurd (cc)
      full (range None closed (Some b)) d v q r = absurd (cc)
