-- What a language spells, as the stretch itself.
use Rattle.std.specs.Prelude.{◌≡◌, ◌-◌, length, take}
use Rattle.ron_spec_words.specs.Characters.{Text}
use Rattle.ron_spec_words.specs.Lang.{Lang}
use Rattle.ron_spec_words.specs.Reader.{Got, got, failed, Reader}

-- the stretch, whatever it spells
pub record Stretch {A : Type 0} (L : Lang A) (t next u : Text) : Type 0 where
  pub value : A
  pub spelled : L t next value
  pub same : t ≡ u

-- the front of s that an answer has passed
abbrev pub passed : {A : Type 0} → Text → Got A → Got Text
passed s (got a rest) = got (take (length s - length rest) s) rest
passed s (failed f) = failed f

-- its reader function
abbrev pub stretch : {A : Type 0} → Reader A → Reader Text
stretch r s = passed s (r s)
