use Rattle.rontool_faults.proofs.carets.+push_under.Given as goal

abbrev pub decreases-push_under : goal.decreases-push_under
decreases-push_under l = l.many
