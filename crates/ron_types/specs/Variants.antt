-- The schema of an enum, as its variants are added one by one.
use Rattle.std.specs.Prelude.{◌≡◌, true, List, [], ◌∷◌, length, map}
use Rattle.std.specs.List.{list_all}
use Rattle.ron_spec_words.specs.Characters.{Text}
-- `turned`: the first list the other way round, and then the second
pub use Rattle.ron_spec_words.specs.Turns.{all_items as turned}
use Rattle.ron_spec_grammar.specs.Schema.{Variant, variant_below, variant_has_distinct_names}
use Rattle.ron_data_schema.specs.Shapes.{variant_view}
use Rattle.ron_types.specs.Parts.{shapes_in}
use Rattle.ron_types.specs.Tables.{Holding, put_variants, variants_in}
use Rattle.ron_types.specs.declared.variants.Variants.{Variants}

-- The variants are these: their parts stand behind one another, and each index that a variant holds lies among them.
pub record IsBuilt (v : Variants) (all : List (Text × Holding)) : Type 0 where
  pub shapes : shapes_in v.parts ≡ put_variants [] all
  pub variants : map variant_view v.variants.items ≡ variants_in [] all
  pub in_range : list_all (λ (w : Variant). variant_below (length (shapes_in v.parts)) w.content) (variants_in [] all) ≡ true
  pub distinct : list_all (λ (w : Variant). variant_has_distinct_names w.content) (variants_in [] all) ≡ true

-- these have been added, the last one first
pub record HasAdded (v : Variants) (added : List (Text × Holding)) : Type 0 where
  pub built : IsBuilt v (turned added [])

-- one more has been added
abbrev pub Adds : Variants → Variants → Text → Holding → Type 0
Adds old new name h = (added : List (Text × Holding)) → HasAdded old added → HasAdded new ((name, h) ∷ added)
