use Rattle.rontool_files.proofs.memory.MemoryFiles.+end.Given as goal

abbrev pub decreases-end : goal.decreases-end
decreases-end l = l.turns
