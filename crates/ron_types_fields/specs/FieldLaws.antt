-- Fields that refuse no data of their schemas by themselves.
use Rattle.std.specs.Prelude.{◌≡◌, true, List, [], ◌∷◌, Option, Some, None}
use Rattle.ron_data.specs.declared.data.Data.{Data}
use Rattle.ron_types.specs.FieldNames.{Field}
use Rattle.ron_types.specs.Laws.{IsOfTable, IsFormed}
use Rattle.ron_types_fields.specs.Names.{Name, own}
use Rattle.ron_types_fields.specs.Rows.{Part}
use Rattle.ron_types_fields.specs.Spelled.{front_of, behind_of}

-- data of the schema, or none where the field may be left out
abbrev pub MaySpell : Part → Option Data → Type 0
MaySpell p None = p.1 ≡ true
MaySpell p (Some d) = IsOfTable p.0 d

-- fields of these names and parts, in order, but for those that may be left out and are
abbrev pub AreSpelled : List Name → List Part → List Field → Type 0
AreSpelled [] [] [] = Unit {0}
AreSpelled [] [] (f ∷ fs) = ⊥
AreSpelled [] (p ∷ ps) fs = ⊥
AreSpelled (n ∷ ns) [] fs = ⊥
AreSpelled (n ∷ ns) (p ∷ ps) fs = MaySpell p (front_of (own n) fs) × AreSpelled ns ps (behind_of (own n) fs)

-- the schema is well formed, all data of it is accepted, and where the field may be left out, that is
pub record AcceptsField (p : Part) (Accepts : Option Data → Type 0) : Type 0 where
  pub formed : IsFormed p.0
  pub accepted : (o : Option Data) → MaySpell p o → Accepts o

-- each of the parts is well formed
abbrev pub AreFormed : List Part → Type 0
AreFormed [] = Unit {0}
AreFormed (p ∷ ps) = IsFormed p.0 × AreFormed ps

-- the schemas are well formed, and all fields of them are accepted, whatever their names
pub record AcceptsSpelled (ps : List Part) (Accepts : List Name → List Field → Type 0) : Type 0 where
  pub formed : AreFormed ps
  pub accepted : (names : List Name) (fs : List Field) → AreSpelled names ps fs → Accepts names fs
