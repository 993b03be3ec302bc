-- The names of the point's shapes, as texts, and that its table is well formed.
use Rattle.std.proofs.Common.{◌≡◌, ℕ, List, [], ◌∷◌, chars, codes, refl}
use lib.Utf8.{encode}
use Rattle.std.proofs.lemmas.Str.{chars-encodes}
use Rattle.ron.specs.Widths.TheVariants.{I32}
use Rattle.ron.specs.Schema.{Shape, field, only, struct, int}
use Rattle.ron.specs.Refusals.{RefusesTable}
use Rattle.ron.specs.Error.{Error}
use Rattle.ron.specs.Error.TheVariants.{InvalidSchema, OutOfMemory}
use Rattle.ron.specs.SchemaFault.TheVariants.{IndexOutOfRange, Cycle, DuplicateName, MissingRangeField}
use Rattle.ronv_command.specs.Point.{point_shapes, point_table}

point_text : chars (codes "Point") ≡ codes "Point"
unfolding encode
point_text = chars-encodes (codes "Point") refl

x_text : chars (codes "x") ≡ codes "x"
unfolding encode
x_text = chars-encodes (codes "x") refl

y_text : chars (codes "y") ≡ codes "y"
unfolding encode
y_text = chars-encodes (codes "y") refl

pub point_is : struct (chars (codes "Point")) (only (field (chars (codes "x")) 1 ∷ field (chars (codes "y")) 1 ∷ [])) ∷ int I32 ∷ [] ≡ point_shapes
point_is = rw (point_text, x_text, y_text) refl

pub same_table : (shapes : List Shape) (root : ℕ) → shapes ≡ point_shapes → root ≡ 0 → point_table ≡ record { shapes = shapes; root = root }
same_table shapes root s r = rw (s, r) refl

-- the table is well formed, so only want of memory refuses it
pub only_memory : (e : Error) → RefusesTable point_shapes 0 e → e ≡ OutOfMemory
only_memory (InvalidSchema IndexOutOfRange) out_of_range = absurd (cc out_of_range)
only_memory (InvalidSchema Cycle) cycle = absurd (cc cycle.1)
only_memory (InvalidSchema DuplicateName) twice = absurd (cc twice.2)
only_memory (InvalidSchema MissingRangeField) missing = absurd (cc missing.3)
only_memory OutOfMemory h = refl
only_memory _ h = absurd h
