use Rattle.std.proofs.Common.{[], ◌∷◌, sym, subst}
use Rattle.std.specs.List.{All}
use Rattle.std.proofs.lemmas.List.Elements.{All-nil, All-cons}
use Rattle.ron_de_parts.specs.Slices.{FieldIsSliced}
use Rattle.ron_de_parts.proofs.ranges.from_to.Goals as goal

pub returns-clause-slices : goal.returns-clause-slices
returns-clause-slices c = λ from text. subst (All (FieldIsSliced from text)) (sym c.in_ok-vec.ensures.items)
    (All-cons (FieldIsSliced from text) (c.in_ok-first_name.first_name, c.number_data.result) ((c.in_ok-last_name.last_name, c.number_data-2.result) ∷ [])
    (c.number_data.ensures.slices from text) (All-cons (FieldIsSliced from text) (c.in_ok-last_name.last_name, c.number_data-2.result) []
    (c.number_data-2.ensures.slices from text) (All-nil (FieldIsSliced from text))))
