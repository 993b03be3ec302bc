-- Fields and rows of them accept all data of their schemas where their types do.
use Rattle.std.proofs.Common.{true, false, List, [], ◌∷◌, Option, Some, None, inl, inr}
use Rattle.ron_base.specs.declared.error.Error.{Error}
use Rattle.ron_data.specs.declared.data.Data.{Data}
use Rattle.ron_data_schema.specs.Table.{Table}
use Rattle.ron_types.specs.FieldNames.{Field}
use Rattle.ron_types.specs.Laws.{AcceptsAll, AreRowRefusals}
use Rattle.ron_types_fields.specs.Names.{Name, own}
use Rattle.ron_types_fields.specs.Rows.{Part, EitherPart}
use Rattle.ron_types_fields.specs.Spelled.{front_of, behind_of, IsThere, IsThereOrLeft, SpelledThen, NoneSpelled}
use Rattle.ron_types_fields.specs.FieldLaws.{MaySpell, AreSpelled, AcceptsField, AcceptsSpelled}

module _ (t : Table) (P : Data → Type 0) (all : AcceptsAll t P) where
  pub must_be_there : AcceptsField (t, false) (IsThere P)
  must_be_there = record { formed = all.formed; accepted = go }
    where
      go : (o : Option Data) → MaySpell (t, false) o → IsThere P o
      go None h = absurd (cc)
      go (Some d) h = all.accepted d h

  pub may_be_left : AcceptsField (t, true) (IsThereOrLeft P)
  may_be_left = record { formed = all.formed; accepted = go }
    where
      go : (o : Option Data) → MaySpell (t, true) o → IsThereOrLeft P o
      go None h = tt
      go (Some d) h = all.accepted d h

pub none_spelled : AcceptsSpelled [] NoneSpelled
none_spelled = record { formed = tt; accepted = go }
  where
    go : (names : List Name) (fs : List Field) → AreSpelled names [] fs → NoneSpelled names fs
    go [] [] h = tt
    go [] (f ∷ fs) h = absurd h
    go (n ∷ ns) fs h = absurd h

pub more_spelled : (p : Part) (ps : List Part) (P : Option Data → Type 0) (Rest : List Name → List Field → Type 0) → AcceptsField p P → AcceptsSpelled ps Rest
    → AcceptsSpelled (p ∷ ps) (SpelledThen P Rest)
more_spelled p ps P Rest first rest = record { formed = (first.formed, rest.formed); accepted = go }
  where
    go : (names : List Name) (fs : List Field) → AreSpelled names (p ∷ ps) fs → SpelledThen P Rest names fs
    go [] fs h = absurd h
    go (n ∷ ns) fs h = (first.accepted (front_of (own n) fs) h.0, rest.accepted ns (behind_of (own n) fs) h.1)

pub either : (First Rest : Error → Type 0) → AreRowRefusals First → AreRowRefusals Rest → AreRowRefusals (EitherPart First Rest)
either First Rest first rest e (inl h) = first e h
either First Rest first rest e (inr h) = rest e h
