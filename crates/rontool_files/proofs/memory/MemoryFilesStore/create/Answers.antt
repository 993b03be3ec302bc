use Rattle.std.proofs.Common.{ap, ◌∙◌}
use Rattle.rontool_files.specs.Memory.{stands_by}
use Rattle.rontool_files.proofs.memory.MemoryFilesStore.create.Goals as goal

pub returns-in_err-put-clause-others : goal.returns-in_err-put-clause-others
returns-in_err-put-clause-others c =
    λ told at other. ap (λ paths. paths at) c.in_err-put.ensures.kept ∙ ap (λ changes. stands_by changes.items at) c.fails-fails.ensures
