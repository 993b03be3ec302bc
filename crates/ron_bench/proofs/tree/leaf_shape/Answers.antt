use Rattle.ron_bench.proofs.TreeLemmas.{point_texts}
use Rattle.ron_bench.proofs.tree.leaf_shape.Goals as goal

pub returns-in-Points : goal.returns-in-Points
returns-in-Points c = rw (c.in-Points.is, ← point_texts) c.twofold.ensures
