-- What was written, at a place of a layout.
use Rattle.std.specs.Prelude.{ℕ, Bool, false, if◌then◌else◌, List, [], ◌++◌, codes}
use Rattle.std.specs.Fmt.{WritesInCalls}
use Rattle.ron_spec_words.specs.Characters.{Text}
use Rattle.ron_spec_grammar.specs.Data.{Data, Datas}
use Rattle.ron_spec_layout.specs.Keeping.{keeps, tuple_inside}
use Rattle.ron_spec_layout.specs.Bytes.{layout_bytes}
use Rattle.ron_base_device.specs.Begun.{HasBegun}
use Rattle.ron_ser.specs.Place.{Place}

-- from w to v the layout of data was written
abbrev pub Writes : Place → {W : Type 0} → (W → List ℕ → W → Type 0) → W → Data → W → Type 0
Writes p took w d v = WritesInCalls took w (layout_bytes p.config p.extensions p.level p.docs false d) v

-- from w to v a front of the layout was written
abbrev pub WritesFront : Place → {W : Type 0} → (W → List ℕ → W → Type 0) → W → Data → W → Type 0
WritesFront p took w d v = HasBegun took w (layout_bytes p.config p.extensions p.level p.docs false d) v

-- ---- Somes

-- pending Somes are written out around the data
abbrev pub keeps_at : Place → Bool → Data → Bool
keeps_at p bare d = keeps p.config p.extensions p.level p.docs bare d

-- the text of a tuple's items
abbrev pub inside_tuple : Place → Datas → Text
inside_tuple p ds = tuple_inside p.config p.extensions p.level p.docs ds

-- ---- whole texts

-- the bytes of an attribute that announces the extension of a name, and of a new line, where that is taken
abbrev pub announced : Bool → List ℕ → List ℕ → List ℕ
announced taken name new_line = if taken then codes "#![enable(" ++ (name ++ (codes ")]" ++ new_line)) else []
