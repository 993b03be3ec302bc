use Rattle.std.proofs.Common.{◌≡◌, map, Result, Ok, Err, Vec, Global, ap, sym, ◌∙◌}
use Rattle.std.specs.Result.{IfOk}
use Rattle.ron_base.specs.declared.error.Error.{Error}
use Rattle.ron_spec_grammar.specs.Data as plain
use Rattle.ron_data.specs.declared.data.Data.{Data}
use Rattle.ron_data.specs.declared.data.Data.TheVariants as held
use Rattle.ron_data.specs.Datum.{data_view}
use Rattle.ron_types.specs.Normal.{list_data, list_normal}
use Rattle.ron_types.proofs.BackLemmas.{items_normal-map, view-Seq}
use Rattle.ron_types.proofs.types.lists.VecDeserialize.from_data.Goals as goal

made : {T : Type 0} (f : T → plain.Data) (normal : plain.Data → plain.Data) (d : Data) (items : Vec Data Global) (r : Result (Vec T Global) Error)
    → d ≡ held.Seq items
    → IfOk r (λ values. map f values.items ≡ map (λ d. normal (data_view d)) items.items)
    → IfOk r (λ values. list_data f values.items ≡ list_normal normal (data_view d))
made f normal d items (Ok values) i e =
    ap (λ ds. plain.list_of (plain.datas ds)) e ∙ ap plain.list_of (sym (items_normal-map normal data_view items.items))
    ∙ ap (list_normal normal) (sym (view-Seq items)) ∙ ap (λ d. list_normal normal (data_view d)) (sym i)
made f normal d items (Err x) i e = tt

pub returns-in-Seq-clause-value : goal.returns-in-Seq-clause-value
returns-in-Seq-clause-value g c = made g.T.Schematic.data g.T.Schematic.normal _ c.in-Seq.items c.values_of.result c.in-Seq.is c.values_of.ensures.value
