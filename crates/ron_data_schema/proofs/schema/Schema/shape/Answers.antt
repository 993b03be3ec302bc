use Rattle.std.proofs.Common.{◌≡◌, ℕ, true, nat_lt, get_or, length, List, Option, Some, None, IfSome, Bor}
use Rattle.std.specs.Option.{is_some}
use Rattle.ron_spec_grammar.specs.Schema.{is_well_formed, holds_below, has_distinct_names, content_of}
use Rattle.ron_data_schema.specs.declared.schema.Shape.{Shape}
use Rattle.ron_data_schema.specs.Shapes.{table_view, shape_view, IsOneLonger}
use Rattle.ron_data_schema.proofs.TableLemmas.{looked_up}
use Rattle.ron_data_schema.proofs.schema.Schema.shape.Goals as goal

module _ (shapes : List Shape) (root i : ℕ) where
  in_range : (r : Option (Bor Shape)) → is_well_formed (table_view shapes) root ≡ true → is_some r ≡ nat_lt i (length shapes)
      → IfSome r (λ s. s.now ≡ get_or shapes i s.now)
      → IfSome r (λ s. holds_below (length (table_view shapes)) (shape_view s.now) ≡ true)
  in_range None w lt e = tt
  in_range (Some s) w lt e = (looked_up shapes root i s.now w lt e).0

  distinct : (r : Option (Bor Shape)) → is_well_formed (table_view shapes) root ≡ true → is_some r ≡ nat_lt i (length shapes)
      → IfSome r (λ s. s.now ≡ get_or shapes i s.now)
      → IfSome r (λ s. has_distinct_names (shape_view s.now) ≡ true)
  distinct None w lt e = tt
  distinct (Some s) w lt e = (looked_up shapes root i s.now w lt e).1

  falls : (r : Option (Bor Shape)) → is_well_formed (table_view shapes) root ≡ true → is_some r ≡ nat_lt i (length shapes)
      → IfSome r (λ s. s.now ≡ get_or shapes i s.now)
      → IfSome r (λ s. IsOneLonger (table_view shapes) i (content_of (shape_view s.now)))
  falls None w lt e = tt
  falls (Some s) w lt e = (looked_up shapes root i s.now w lt e).2

pub returns-clause-in_range : goal.returns-clause-in_range
returns-clause-in_range c = let l = rw c.deref.ensures.value at c.get.ensures.lookup in in_range _ _ _ _ c.args.self.now.well_formed l.0 l.1

pub returns-clause-distinct : goal.returns-clause-distinct
returns-clause-distinct c = let l = rw c.deref.ensures.value at c.get.ensures.lookup in distinct _ _ _ _ c.args.self.now.well_formed l.0 l.1

pub returns-clause-falls : goal.returns-clause-falls
returns-clause-falls c = let l = rw c.deref.ensures.value at c.get.ensures.lookup in falls _ _ _ _ c.args.self.now.well_formed l.0 l.1
