use Rattle.std.proofs.Common.{ap, ◌∙◌}
use Rattle.rontool_files.specs.Thing.{bytes_of}
use Rattle.rontool_files.specs.Memory.{stands_by}
use Rattle.rontool_files.proofs.memory.MemoryFilesStore.permit.Goals as goal

pub returns-in_err-put-clause-others : goal.returns-in_err-put-clause-others
returns-in_err-put-clause-others c =
    λ told at other. ap (λ paths. paths at) c.in_err-put.ensures.kept ∙ ap (λ changes. stands_by changes.items at) c.fails-fails.ensures

pub returns-in_err-put-clause-bytes : goal.returns-in_err-put-clause-bytes
returns-in_err-put-clause-bytes c = λ told. ap (λ paths. bytes_of (paths c.args.path.now)) c.in_err-put.ensures.kept
    ∙ ap (λ changes. bytes_of (stands_by changes.items c.args.path.now)) c.fails-fails.ensures
