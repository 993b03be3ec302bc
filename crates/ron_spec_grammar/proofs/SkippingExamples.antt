-- Worked texts of structs that skip unknown fields, and of the shape of values.
use Rattle.std.proofs.Common.{◌≡◌, ℕ, pos, Bool, true, false, List, [], ◌∷◌, codes, refl}
use Rattle.ron_spec_words.specs.Characters.{Text}
use Rattle.ron_spec_words.specs.Reader.{deep, bad}
use Rattle.ron_value.specs.Tree.{pairs_from}
use Rattle.ron_value.specs.Tree as tree
use Rattle.ron_value_number.specs.declared.width.Width.TheVariants.{U8}
use Rattle.ron_spec_grammar.specs.Data.{int_of, struct_of, value_of, no_fields, field_and}
use Rattle.ron_spec_grammar.specs.Schema.{Shape, int, struct, any_value, field}
use Rattle.ron_spec_grammar.specs.Document.{Answer, ok, err, answer}
use Rattle.ron_spec_grammar.proofs.ShapeExamples.{none}
use Rattle.ron_spec_grammar.proofs.Computing.{reading}

-- S(a: u8), which skips what it does not know, or not
abbrev schema : Bool → List Shape
schema skips = struct (codes "S") (record { fields = field (codes "a") 1 ∷ []; skips_unknown = skips }) ∷ int U8 ∷ []

-- what is read of a text as S(a: u8), and as a value
record Reads (skips : Bool) (limit : ℕ) (s : Text) (a : Answer) : Type 0 where
  is : answer none (schema skips) 0 limit s ≡ a

record ReadsValue (limit : ℕ) (s : Text) (a : Answer) : Type 0 where
  is : answer none (any_value ∷ []) 0 limit s ≡ a

abbrev a_is_three : Answer
a_is_three = ok (struct_of (codes "S") (field_and (codes "a") (int_of U8 (pos 3)) no_fields))

unknown_is_dropped : Reads true 6 (codes "(b: [1, Foo(x: 2)], a: 3)") a_is_three
unfolding reading
unknown_is_dropped = record { is = refl }

-- the value of an unknown field counts its levels
unknown_is_too_deep : Reads true 5 (codes "(b: [1, Foo(x: 2)], a: 3)") (err deep)
unfolding reading
unknown_is_too_deep = record { is = refl }

unknown_twice : Reads true 2 (codes "(b: 1, b: Foo, a: 3)") a_is_three
unfolding reading
unknown_twice = record { is = refl }

known_twice : Reads true 2 (codes "(a: 1, a: 3)") (err bad)
unfolding reading
known_twice = record { is = refl }

unknown_without_value : Reads true 2 (codes "(b: , a: 3)") (err bad)
unfolding reading
unknown_without_value = record { is = refl }

unknown_refused : Reads false 6 (codes "(b: [1, Foo(x: 2)], a: 3)") (err bad)
unfolding reading
unknown_refused = record { is = refl }

-- S(a: u8), which a text may call b too
abbrev aliased : Text → Answer
aliased text = answer none
    (struct (codes "S") (record { fields = record (field (codes "a") 1) { aliases = codes "b" ∷ [] } ∷ []; skips_unknown = true }) ∷ int U8 ∷ []) 0 2 text

alias_is_known : aliased (codes "(c: 1, b: 3)") ≡ a_is_three
unfolding reading
alias_is_known = refl

alias_and_name : aliased (codes "(b: 1, a: 3)") ≡ err bad
unfolding reading
alias_and_name = refl

-- as a value alone: a map in key order
value_alone : ReadsValue 2 (codes " {2: 'b', 1: Foo} ")
    (ok (value_of (tree.mapping (pairs_from ((tree.number U8 (pos 1), tree.unit) ∷ (tree.number U8 (pos 2), tree.character 98) ∷ [])))))
unfolding reading
value_alone = record { is = refl }

value_too_deep : ReadsValue 1 (codes " {2: 'b', 1: Foo} ") (err deep)
unfolding reading
value_too_deep = record { is = refl }
