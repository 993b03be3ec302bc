use Rattle.std.proofs.Common.{ap, ◌∙◌, inr}
use Rattle.rontool_files.specs.Memory.{stands_by}
use Rattle.rontool_files.proofs.memory.MemoryFilesStore.remove.Goals as goal

pub returns-in_err-put-clause-others : goal.returns-in_err-put-clause-others
returns-in_err-put-clause-others c =
    λ told at other. ap (λ paths. paths at) c.in_err-put.ensures.kept ∙ ap (λ changes. stands_by changes.items at) c.fails-fails.ensures

pub returns-in_err-put-clause-whole : goal.returns-in_err-put-clause-whole
returns-in_err-put-clause-whole c =
    λ told. inr (ap (λ paths. paths c.args.path.now) c.in_err-put.ensures.kept ∙ ap (λ changes. stands_by changes.items c.args.path.now) c.fails-fails.ensures)
