-- Reading by the schema of any value, seen as reading a value.
use Rattle.std.proofs.Common.{◌≡◌, ◌⊎◌, ℕ, Option, Some, Ok, Err, ◌∙◌, inl, inr, refl, sym, ap, subst, List}
use Rattle.ron_spec_words.specs.Characters.{Text}
use Rattle.ron_value.specs.declared.value.Value.{Value}
use Rattle.ron_value.specs.Ordered.{IsOrdered}
use Rattle.ron_value.specs.Tree.{Tree}
use Rattle.ron_value.specs.View.{tree_of}
use Rattle.ron_spec_grammar.specs.Data as plain
use Rattle.ron_spec_grammar.specs.Data.{value_of}
use Rattle.ron_spec_grammar.specs.Document.{Document, ok}
use Rattle.ron_spec_grammar.specs.Rule.{Extensions}
use Rattle.ron_spec_grammar.specs.Schema.{Shape, OfShape}
use Rattle.ron_base.specs.declared.error.Error.{Error}
use Rattle.ron_base.specs.declared.error.Error.TheVariants.{OutOfMemory}
use Rattle.ron_base.specs.declared.error.SpannedError.{SpannedError}
use Rattle.ron_base.specs.Extensions.{no_extensions}
use Rattle.ron_data.specs.declared.data.Data.{Data}
use Rattle.ron_data.specs.declared.data.Data.TheVariants as data_
use Rattle.ron_data.specs.declared.any_value.AnyValue.{AnyValue}
use Rattle.ron_data.specs.AnyValue.{held_value}
use Rattle.ron_data.specs.Datum.{data_view}
use Rattle.ron_data_schema.specs.Table.{Table}
use Rattle.ron_data.proofs.DatumLemmas.{view-value}
use Rattle.ron.specs.Whole.{DocumentWithin, IsNoDocument, IsOnlyData, TellsErrors}
use Rattle.ron.specs.ValueText.{value_table, IsValueDocument, IsOnlyValue, TellsValueErrors}

no_value : (text : Text) (code : Error) → (code ≡ OutOfMemory) ⊎ IsNoDocument no_extensions (Some 128) value_table text
    → (code ≡ OutOfMemory) ⊎ ((t : Tree) → IsValueDocument text t → ⊥)
no_value text code (inl memory) = inl memory
no_value text code (inr none) = inr (λ t z. none (value_of t) z)

value_back : (t u : Tree) → value_of t ≡ value_of u → t ≡ u
value_back t u e = cc

pub value_maps : (shapes : List Shape) (root : ℕ) (v : Value) (held : AnyValue) (d : Data) → d ≡ data_.Value held → tree_of v ≡ tree_of (held_value held)
    → OfShape shapes root (data_view d) → IsOrdered (tree_of v)
value_maps shapes root v held d is same h = (subst (OfShape shapes root) (ap data_view is ∙ (view-value held ∙ ap value_of (sym same))) h).1.ordered

module _ (x : Extensions) (limit : Option ℕ) (table : Table) (text : Text) (none : x ≡ no_extensions) (usual : limit ≡ Some 128)
    (any : table ≡ value_table) where
  pub value_err : (code : Error) → (code ≡ OutOfMemory) ⊎ IsNoDocument x limit table text → (code ≡ OutOfMemory) ⊎ ((t : Tree) → IsValueDocument text t → ⊥)
  value_err code h = no_value text code (rw (none, usual, any) at h)

  pub value_deep : (P : Type 0) → ((d : plain.Data) (room : ℕ) → Document x table.shapes table.root room text d → (DocumentWithin x limit table text d → ⊥) → P)
      → (t : Tree) (room : ℕ) → Document no_extensions value_table.shapes 0 room text (value_of t) → (IsValueDocument text t → ⊥) → P
  value_deep P h t room z beyond = (rw (none, usual, any) at h) (value_of t) room z beyond

  pub value_ok : (v : Value) (held : AnyValue) (d : Data) → d ≡ data_.Value held → tree_of v ≡ tree_of (held_value held)
      → DocumentWithin x limit table text (data_view d) → IsValueDocument text (tree_of v)
  value_ok v held d is same h =
      subst (DocumentWithin no_extensions (Some 128) value_table text) (view-value held ∙ ap value_of (sym same)) (rw (none, usual, any, is) at h)

  pub value_only : (v : Value) (held : AnyValue) (d : Data) → d ≡ data_.Value held → tree_of v ≡ tree_of (held_value held)
      → IsOnlyData x table text (data_view d) → IsOnlyValue text (tree_of v)
  value_only v held d is same h other room z =
      value_back other (tree_of v) ((rw (none, any, is) at h.by_schema) (value_of other) room z ∙ (view-value held ∙ ap value_of (sym same)))

  pub value_tells : (v : Value) (held : AnyValue) (d : Data) → d ≡ data_.Value held → tree_of v ≡ tree_of (held_value held)
      → TellsErrors x limit table text (Ok d) → TellsValueErrors text (Ok v)
  value_tells v held d is same h =
      let e = rw (none, usual, any, is) at h in
      record {
        answer = e.answer 128 refl ∙ ap ok (view-value held ∙ ap value_of (sym same));
        rest = λ y gap body room f next k r g behind. e.rest y gap body room f next k r g behind;
        refused = tt;
      }

  pub value_refused : (refused : SpannedError) → TellsErrors x limit table text (Err refused) → TellsValueErrors text (Err refused)
  value_refused refused h =
      let e = rw (none, usual, any) at h in
      record { answer = e.answer 128 refl; rest = λ y gap body room f next k r g behind. e.rest y gap body room f next k r g behind; refused = e.refused }
