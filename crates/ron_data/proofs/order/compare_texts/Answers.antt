use Rattle.std.proofs.Common.{◌≡◌, refl}
use Rattle.std.specs.Ordering.{nat_cmp}
use Rattle.std.proofs.lemmas.Iterator.{YieldsList-from_chars}
use Rattle.std.proofs.lemmas.Iterator.Search.{cmp_from_yields_List}
use Rattle.ron_data.proofs.order.compare_texts.Goals as goal

pub returns : goal.returns
returns c = cmp_from_yields_List (λ x y. y ≡ x) _ nat_cmp _ c.cmp.ensures.ran (YieldsList-from_chars c.args.one.now c.utf8.one cc)
    (λ it e. YieldsList-from_chars c.args.other.now c.utf8.other cc) (λ x y. refl)
