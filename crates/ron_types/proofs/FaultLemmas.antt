-- What a part refuses data by is what refuses the whole.
use Rattle.std.proofs.Common.{Result, Ok, Err, inl, inr}
use Rattle.std.specs.Result.{IfErr}
use Rattle.ron_base.specs.declared.error.Error.{Error}
use Rattle.ron_data.specs.declared.data.Data.{Data}
use Rattle.ron_types.specs.Faults.{OwnOr, PartOr}

pub refused_part : {X : Type 0} (refuses : Data → Error → Type 0) (Others : Error → Type 0) (d : Data) (r : Result X Error) → IfErr r (refuses d)
    → IfErr r (OwnOr (PartOr refuses Others))
refused_part refuses Others d (Ok x) h = tt
refused_part refuses Others d (Err e) h = inr (inl (d, h))
