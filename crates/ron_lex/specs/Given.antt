-- The bytes that a piece of a byte string gives.
use Rattle.std.specs.Prelude.{ℕ, List, [], ◌∷◌, encode_utf8}
use Rattle.std.specs.declared.vec.Vec.{Vec}
use Rattle.ron_lex.specs.declared.byte_string.Given.{Given}
use Rattle.ron_lex.specs.declared.byte_string.Given.TheVariants.{Nothing, Byte, Character}

-- what a backslash and what stands behind it give
abbrev pub given_bytes : Given → List ℕ
given_bytes Nothing = []
given_bytes (Byte b) = b ∷ []
given_bytes (Character c) = encode_utf8 c

-- the bytes of a vector
abbrev pub vec_bytes : {A : Type 0} → Vec ℕ A → List ℕ
vec_bytes v = v.items
