use Rattle.ron_types.proofs.laws.faithful.values_are_told.Goals as goal

pub returns : goal.returns
returns g c = g.met.T.Faithful.recovers g.met.T.Parts.FaithfulParts.holds
