-- The errors of types are refusals of data where those of their parts are.
use Rattle.std.proofs.Common.{inl, inr}
use Rattle.ron_base.specs.declared.error.Error.{Error}
use Rattle.ron_data.specs.declared.data.Data.{Data}
use Rattle.ron_types.specs.Faults.{OwnOr, PartOr, NoPart}
use Rattle.ron_types.specs.Laws.{AreRefusals, AreRowRefusals}

pub no_part : AreRowRefusals NoPart
no_part e h = absurd h

pub more_parts : (refuses : Data → Error → Type 0) (Others : Error → Type 0) → AreRefusals refuses → AreRowRefusals Others
    → AreRowRefusals (PartOr refuses Others)
more_parts refuses Others part others e (inl h) = part h.0 e h.1
more_parts refuses Others part others e (inr h) = others e h

pub own_or : (Parts : Error → Type 0) → AreRowRefusals Parts → AreRowRefusals (OwnOr Parts)
own_or Parts parts e (inl h) = h
own_or Parts parts e (inr h) = parts e h

-- of one part, and of two
pub one_part : (P : Data → Error → Type 0) → AreRefusals P → AreRowRefusals (OwnOr (PartOr P NoPart))
one_part P p = own_or _ (more_parts P _ p no_part)

pub two_parts : (P Q : Data → Error → Type 0) → AreRefusals P → AreRefusals Q → AreRowRefusals (OwnOr (PartOr P (PartOr Q NoPart)))
two_parts P Q p q = own_or _ (more_parts P _ p (more_parts Q _ q no_part))
