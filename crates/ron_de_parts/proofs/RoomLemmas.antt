-- The room that is left deeper down, and further on: for every call that goes a level deeper or passes a part.
use Rattle.std.proofs.Common.{◌≡◌, ℕ, suc, ◌+◌, ◌*◌, ◌<◌, ◌≤◌, Bool, true, false, List, Option, Some, refl, arith, mul-le-mul_left}
use Rattle.std.proofs.Math.Nat.{mul-le-mul_right}
use Rattle.ron_spec_grammar.specs.Schema.{Shape}
use Rattle.ron_spec_grammar.specs.Room.{step, rank, enough}
use Rattle.ron_spec_grammar.specs.Values.Statement.{enough_for_value}
use Rattle.ron_spec_grammar.proofs.Room.{step_is, rank_at_most}
use Rattle.ron_base.specs.Limit.{one_deeper}
pub use Rattle.ron_de_steps.proofs.RoomLemmas.{room_less, RoomBelow, room_below, room_ended}
use Rattle.ron_de_parts.specs.Room.{IsRoom, enough_for_items, enough_for_group}

-- behind a bracket
pub items_inside : (schema : List Shape) (i m n : ℕ) → m < n → enough_for_items schema m + 1 ≤ enough schema false i n
unfolding enough enough_for_items
items_inside schema i m n lt = let k : (m + 1) * step schema ≤ n * step schema = mul-le-mul_right (step schema) (omega arith) in
    omega (arith, k, step_is schema)

-- an item, one level further down
pub item_within : (schema : List Shape) (j m n : ℕ) → m ≤ n → enough schema false j m + 1 ≤ enough_for_items schema n
unfolding enough enough_for_items
item_within schema j m n le = let k : m * step schema ≤ n * step schema = mul-le-mul_right (step schema) le in omega (arith, k, rank_at_most schema j)

-- further on
pub items_later : (schema : List Shape) (m n : ℕ) → m ≤ n → enough_for_items schema m ≤ enough_for_items schema n
unfolding enough_for_items
items_later schema m n le = let k : m * step schema ≤ n * step schema = mul-le-mul_right (step schema) le in omega (arith, k)

-- ---- the code's measure: four steps to a level

pub item_falls : (schema inner : List Shape) (j m n : ℕ) → inner ≡ schema → m < n → 4 * enough inner false j m + 1 < 4 * enough_for_items schema n
item_falls schema inner j m n e lt = rw e (omega (arith, item_within schema j m n (omega (arith, lt))))

-- where an item may stand a level deeper, two levels are left to its list
pub levels_left : (limit inner : Option ℕ) (schema : List Shape) (n room : ℕ) → one_deeper limit ≡ Some inner → IsRoom limit (enough_for_items schema n) room
    → 2 ≤ suc room
unfolding enough_for_items
levels_left limit inner schema n room e r = let k = room_below limit inner 0 (enough_for_items schema n) room e r (omega arith) in omega (arith, k.is)

-- ---- what stands in brackets

-- the items within
pub items_in_group : (schema : List Shape) (m n : ℕ) → m < n → enough_for_items schema m + 1 ≤ enough_for_group schema n
unfolding enough_for_items enough_for_group
items_in_group schema m n lt = let k : (m + 1) * step schema ≤ n * step schema = mul-le-mul_right (step schema) (omega arith) in
    omega (arith, k, step_is schema)

pub items_fall : (schema inner : List Shape) (m n : ℕ) → inner ≡ schema → m < n → 4 * enough_for_items inner m + 1 < 4 * enough_for_group schema n + 1
items_fall schema inner m n e lt = rw e (omega (arith, items_in_group schema m n lt))

-- one value within
pub content_in_group : (schema : List Shape) (j m n : ℕ) → m < n → enough schema false j m + 2 ≤ enough_for_group schema n
unfolding enough enough_for_group
content_in_group schema j m n lt = let k : (m + 1) * step schema ≤ n * step schema = mul-le-mul_right (step schema) (omega arith) in
    omega (arith, k, step_is schema, rank_at_most schema j)

-- the brackets of a value, here or further on
pub group_of_value : (schema : List Shape) (i m n : ℕ) → m ≤ n → enough_for_group schema m + 1 ≤ enough schema false i n
unfolding enough enough_for_group
group_of_value schema i m n le = let k : m * step schema ≤ n * step schema = mul-le-mul_right (step schema) le in omega (arith, k)

-- what a newtype holds, at the same text
pub held_of_value : (schema : List Shape) (i j n : ℕ) → rank schema i ≡ suc (rank schema j) → suc (enough schema false j n) ≡ enough schema false i n
unfolding enough
held_of_value schema i j n e = omega (arith, e)

pub same_enough : (schema inner : List Shape) (j n : ℕ) → inner ≡ schema → enough inner false j n ≡ enough schema false j n
same_enough schema inner j n e = rw e refl

pub same_for_items : (schema inner : List Shape) (n : ℕ) → inner ≡ schema → enough_for_items inner n ≡ enough_for_items schema n
same_for_items schema inner n e = rw e refl

-- brackets further on
pub group_later : (schema : List Shape) (m n : ℕ) → m ≤ n → enough_for_group schema m ≤ enough_for_group schema n
unfolding enough_for_group
group_later schema m n le = let k : m * step schema ≤ n * step schema = mul-le-mul_right (step schema) le in omega (arith, k)

-- one level is always enough for none below it
pub enough_there : (schema : List Shape) (n : ℕ) → 0 + 1 ≤ enough_for_group schema n
unfolding enough_for_group
enough_there schema n = omega arith

pub variant_falls : (schema inner : List Shape) (m n : ℕ) → inner ≡ schema → m ≤ n → 4 * enough_for_group inner m + 1 < 4 * enough_for_group schema n + 2
variant_falls schema inner m n e le = rw e (omega (arith, group_later schema m n le))

-- ---- values without a schema

module _ (schema : List Shape) where
  -- they take fewer levels than any shape may
  six_levels : (n : ℕ) → n * 6 ≤ n * step schema
  six_levels n = let wide : 6 ≤ step schema = omega (arith, step_is schema) in mul-le-mul_left n wide

  pub untyped_is_shape : (bare : Bool) (i n : ℕ) → enough_for_value bare n ≤ enough schema bare i n
  unfolding enough
  untyped_is_shape true i n = let k = six_levels n in omega (arith, k)
  untyped_is_shape false i n = let k = six_levels n in omega (arith, k)

  -- one that stands for a field's value
  pub untyped_within : (m n : ℕ) → m ≤ n → enough_for_value false m + 1 ≤ enough_for_items schema n
  unfolding enough_for_items
  untyped_within m n le = let k : m * step schema ≤ n * step schema = mul-le-mul_right (step schema) le in let six = six_levels m in omega (arith, k, six)

-- ---- bare content

-- a value takes less than bare content
pub value_within_bare : (schema : List Shape) (i n : ℕ) → enough schema false i n + 2 ≤ enough schema true i n
unfolding enough
value_within_bare schema i n = omega arith

pub room_of_value : (limit : Option ℕ) (schema : List Shape) (i n room : ℕ) → IsRoom limit (enough schema true i n) room
    → IsRoom limit (enough schema false i n) room
room_of_value limit schema i n room r = room_less limit _ _ room r (omega (arith, value_within_bare schema i n))
