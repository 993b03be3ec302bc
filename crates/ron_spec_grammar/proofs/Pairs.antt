-- The pairs of a map, put in one by one under their keys: for maps here, for what values become and for normal forms.
use Rattle.std.proofs.Common.{Bool, true, false, cond, List, [], ◌∷◌}
use Rattle.ron_spec_words.proofs.Values.{Each}
use Rattle.ron_spec_grammar.specs.Data.{Data, Pairs, no_pairs, pair_and}
use Rattle.ron_spec_grammar.specs.Equal.{equal_data, put, put_all, folded}

-- a fact of each key, and one of each value
abbrev pub ArePairs : (Data → Type 0) → (Data → Type 0) → Pairs → Type 0
ArePairs P Q no_pairs = Unit {0}
ArePairs P Q (pair_and k d ps) = P k × Q d × ArePairs P Q ps

module _ (P Q : Data → Type 0) where
  pub put_are : (k d : Data) (ps : Pairs) → P k → Q d → ArePairs P Q ps → ArePairs P Q (put k d ps)
  put_are k d no_pairs a b h = (a, b, tt)
  put_are k d (pair_and l e ps) a b h = go (equal_data k l) (put_are k d ps a b h.2)
    where
      go : (c : Bool) → ArePairs P Q (put k d ps) → ArePairs P Q (cond c (pair_and l d ps) (pair_and l e (put k d ps)))
      go true z = (h.0, b, h.2)
      go false z = (h.0, h.1, z)

  put_all_are : (ps : Pairs) (more : List (Data × Data)) → ArePairs P Q ps → Each (λ p. P p.0 × Q p.1) more → ArePairs P Q (put_all ps more)
  put_all_are ps [] h k = h
  put_all_are ps (p ∷ more) h k = put_all_are (put p.0 p.1 ps) more (put_are p.0 p.1 ps k.0.0 k.0.1 h) k.1

  pub folded_are : (ps : List (Data × Data)) → Each (λ p. P p.0 × Q p.1) ps → ArePairs P Q (folded ps)
  folded_are ps h = put_all_are no_pairs ps tt h
