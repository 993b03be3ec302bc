use Rattle.ron_value_number.proofs.Smallest.{finds_smallest}
use Rattle.ron_value_number.proofs.width.smallest_widths_are_found.Goals as goal

pub returns : goal.returns
returns c = finds_smallest
