use Rattle.rontool_files.proofs.replace.+follow.Given as goal

abbrev pub decreases-follow : goal.decreases-follow
decreases-follow g l = l.turns
