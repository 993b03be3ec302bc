-- The names of the tree's shapes, as texts, and one level more.
use Rattle.std.proofs.Common.{◌≡◌, ℕ, true, ◌+◌, List, [], ◌∷◌, ◌++◌, chars, codes, refl}
use lib.Utf8.{encode, encodes, scalars}
use native.Mathlib.Numerals.{unary_clauses}
use Rattle.std.proofs.lemmas.Str.{chars-encodes}
use Rattle.ron.specs.Characters.{Text}
use Rattle.ron.specs.Schema.{Field, Variant, Shape, field, only, struct, enum, unit_variant, newtype_variant, struct_variant}
use Rattle.ron_bench.specs.declared.tree.Leaf.{Leaf}
use Rattle.ron_bench.specs.declared.tree.Leaf.TheVariants.{Points, Records, Entities}
use Rattle.ron_bench.specs.Tree.{variant, twofold, kind_shape, leaf_shape, tree_shapes}

twofold_texts : (name first second : Text) (i : ℕ) → scalars name ≡ true → scalars first ≡ true → scalars second ≡ true
    → twofold (chars (encodes name)) (chars (encodes first)) (chars (encodes second)) i ≡ twofold name first second i
twofold_texts name first second i h f s = rw (chars-encodes name h, chars-encodes first f, chars-encodes second s) refl

pub point_texts : twofold (chars (codes "Point")) (chars (codes "x")) (chars (codes "y")) 0 ≡ leaf_shape Points
unfolding encode
point_texts = twofold_texts (codes "Point") (codes "x") (codes "y") 0 refl refl refl

pub pair_texts : (i : ℕ) → twofold (chars (codes "Pair")) (chars (codes "a")) (chars (codes "b")) i ≡ twofold (codes "Pair") (codes "a") (codes "b") i
unfolding encode
pair_texts i = twofold_texts (codes "Pair") (codes "a") (codes "b") i refl refl refl

record_text : chars (codes "Record") ≡ codes "Record"
unfolding encode
record_text = chars-encodes (codes "Record") refl

name_text : chars (codes "name") ≡ codes "name"
unfolding encode
name_text = chars-encodes (codes "name") refl

data_text : chars (codes "data") ≡ codes "data"
unfolding encode
data_text = chars-encodes (codes "data") refl

id_text : chars (codes "id") ≡ codes "id"
unfolding encode
id_text = chars-encodes (codes "id") refl

size_text : chars (codes "size") ≡ codes "size"
unfolding encode
size_text = chars-encodes (codes "size") refl

entity_text : chars (codes "Entity") ≡ codes "Entity"
unfolding encode
entity_text = chars-encodes (codes "Entity") refl

tags_text : chars (codes "tags") ≡ codes "tags"
unfolding encode
tags_text = chars-encodes (codes "tags") refl

level_text : chars (codes "level") ≡ codes "level"
unfolding encode
level_text = chars-encodes (codes "level") refl

kind_text : chars (codes "kind") ≡ codes "kind"
unfolding encode
kind_text = chars-encodes (codes "kind") refl

stats_text : chars (codes "stats") ≡ codes "stats"
unfolding encode
stats_text = chars-encodes (codes "stats") refl

kind_name_text : chars (codes "Kind") ≡ codes "Kind"
unfolding encode
kind_name_text = chars-encodes (codes "Kind") refl

player_text : chars (codes "Player") ≡ codes "Player"
unfolding encode
player_text = chars-encodes (codes "Player") refl

npc_text : chars (codes "Npc") ≡ codes "Npc"
unfolding encode
npc_text = chars-encodes (codes "Npc") refl

item_text : chars (codes "Item") ≡ codes "Item"
unfolding encode
item_text = chars-encodes (codes "Item") refl

weight_text : chars (codes "weight") ≡ codes "weight"
unfolding encode
weight_text = chars-encodes (codes "weight") refl

fragile_text : chars (codes "fragile") ≡ codes "fragile"
unfolding encode
fragile_text = chars-encodes (codes "fragile") refl

-- a struct of this name and these fields is the record's shape
pub record_is : (shape : Shape) (fields : List Field) → shape ≡ struct (chars (codes "Record")) (only fields) → fields ≡ field (chars (codes "name")) 1
    ∷ field (chars (codes "data")) 2 ∷ field (chars (codes "id")) 3 ∷ field (chars (codes "size")) 4 ∷ [] → shape ≡ leaf_shape Records
record_is shape fields is same = rw (is, same, record_text, name_text, data_text, id_text, size_text) refl

-- likewise the entity's
pub entity_is : (shape : Shape) (fields : List Field) → shape ≡ struct (chars (codes "Entity")) (only fields) → fields ≡ field (chars (codes "name")) 1
    ∷ field (chars (codes "tags")) 6 ∷ field (chars (codes "level")) 7 ∷ field (chars (codes "kind")) 9 ∷ field (chars (codes "stats")) 8 ∷ []
    → shape ≡ leaf_shape Entities
entity_is shape fields is same = rw (is, same, entity_text, name_text, tags_text, level_text, kind_text, stats_text) refl

-- and an entity's kind
pub kind_is : (shape : Shape) (variants : List Variant) → shape ≡ enum (chars (codes "Kind")) variants
    → variants ≡ variant (chars (codes "Player")) unit_variant ∷ variant (chars (codes "Npc")) (newtype_variant 4) ∷ variant (chars (codes "Item"))
    (struct_variant (only (field (chars (codes "weight")) 4 ∷ field (chars (codes "fragile")) 5 ∷ []))) ∷ [] → shape ≡ kind_shape
kind_is shape variants is same = rw (is, same, kind_name_text, player_text, npc_text, item_text, weight_text, fragile_text) refl

pub one_level_more : (leaf : Leaf) (n : ℕ) → tree_shapes leaf (n + 1) ≡ tree_shapes leaf n ++ twofold (codes "Pair") (codes "a") (codes "b") (n + 10) ∷ []
one_level_more leaf n = simp unary_clauses refl
