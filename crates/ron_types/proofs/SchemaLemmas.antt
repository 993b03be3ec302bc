-- A table of parts is well formed, so that want of memory alone refuses its schema: for `Parts`.
use Rattle.std.proofs.Common.{◌≡◌, ◌+◌, ℕ, true, List, [], ◌∷◌, ◌++◌, length, map, Result, Ok, Err, refl, sym, ap, subst, ◌∙◌}
use Rattle.std.specs.Result.{MatchResult}
use Rattle.std.proofs.lemmas.List.{length-map, map-append}
use Rattle.ron_base.specs.declared.error.Error.{Error}
use Rattle.ron_base.specs.declared.error.Error.TheVariants.{OutOfMemory, InvalidSchema}
use Rattle.ron_base.specs.declared.error.fault.SchemaFault.{SchemaFault}
use Rattle.ron_base.specs.declared.error.fault.SchemaFault.TheVariants.{IndexOutOfRange, Cycle, DuplicateName, MissingRangeField}
use Rattle.std.specs.List.{list_all}
use Rattle.std.proofs.lemmas.Bool.{and_parts}
use Rattle.ron_spec_grammar.specs.Schema as plain
use Rattle.ron_spec_grammar.specs.Schema.{is_in_range, has_no_cycle, has_distinct_names, is_well_formed}
use Rattle.ron_data_schema.specs.Refusals.{HasFault, RefusesTable}
use Rattle.ron_data_schema.specs.Shapes.{shape_view, table_view, moved}
use Rattle.ron_data_schema.specs.Table.{Table, shapes_of, root_of, table_of}
use Rattle.ron_data_schema.specs.declared.schema.Schema.{Schema}
use Rattle.ron_data_schema.specs.declared.schema.Shape.{Shape}
use Rattle.ron_types.specs.Tables.{put, root_in, topped, is_closed, MayTop}
use Rattle.ron_types.proofs.ClosedLemmas.{put_closed, closed_of, topped_well_formed}

-- a well-formed table has no fault
no_fault : (shapes : List plain.Shape) (root : ℕ) (fault : SchemaFault) → is_well_formed shapes root ≡ true → HasFault shapes root fault → ⊥
no_fault shapes root IndexOutOfRange w h = let q = (and_parts (is_in_range shapes root) _ w).0 in cc
no_fault shapes root Cycle w h = let q = (and_parts (has_no_cycle shapes) _ (and_parts (is_in_range shapes root) _ w).1).0 in cc (h.1)
no_fault shapes root DuplicateName w h = let q =
    (and_parts (list_all has_distinct_names shapes) _ (and_parts (has_no_cycle shapes) _ (and_parts (is_in_range shapes root) _ w).1).1).0 in
    cc (h.2)
no_fault shapes root MissingRangeField w h = let q =
    (and_parts (list_all has_distinct_names shapes) _ (and_parts (has_no_cycle shapes) _ (and_parts (is_in_range shapes root) _ w).1).1).1 in
    cc (h.3)

refused_memory : (shapes : List plain.Shape) (root : ℕ) (e : Error) → is_well_formed shapes root ≡ true → RefusesTable shapes root e → e ≡ OutOfMemory
refused_memory shapes root (InvalidSchema fault) w h = absurd (no_fault shapes root fault w h)
refused_memory shapes root OutOfMemory w h = refl
refused_memory shapes root _ w h = absurd h

-- the schema of a well-formed table is the table
pub made_or_memory : (r : Result Schema Error) (shapes : List plain.Shape) (root : ℕ) → is_well_formed shapes root ≡ true
    → MatchResult r (λ s. (shapes_of s ≡ shapes) × (root_of s ≡ root)) (RefusesTable shapes root)
    → MatchResult r (λ s. table_of s ≡ record { shapes = shapes; root = root }) (λ e. e ≡ OutOfMemory)
made_or_memory (Ok s) shapes root w h = let P : List plain.Shape → ℕ → Table = λ shapes root. record { shapes = shapes; root = root } in λ i. P (h.0 i) (h.1 i)
made_or_memory (Err e) shapes root w h = refused_memory shapes root e w h

-- a shape that may stand on top of parts
pub made_on_top : (r : Result Schema Error) (old new : List Shape) (s : Shape) (root : ℕ) → new ≡ old ++ s ∷ [] → root ≡ length old
    → is_closed (table_view old) ≡ true → MayTop (table_view old) (shape_view s)
    → MatchResult r (λ t. (shapes_of t ≡ table_view new) × (root_of t ≡ root)) (RefusesTable (table_view new) root)
    → MatchResult r (λ t. table_of t ≡ topped (table_view old) (shape_view s)) (λ e. e ≡ OutOfMemory)
made_on_top r old new s root e k closed top h =
    let P : List plain.Shape → ℕ → Type 0 = λ shapes root. MatchResult r (λ t. (shapes_of t ≡ shapes) × (root_of t ≡ root)) (RefusesTable shapes root) in
    let shapes : table_view new ≡ table_view old ++ shape_view s ∷ [] = ap table_view e ∙ map-append shape_view old (s ∷ []) in
    let at : root ≡ length (table_view old) = k ∙ sym (length-map old shape_view) in
    made_or_memory r (table_view old ++ shape_view s ∷ []) (length (table_view old)) (topped_well_formed (table_view old) (shape_view s) closed top)
    (subst (λ root. P (table_view old ++ shape_view s ∷ []) root) at (subst (λ shapes. P shapes root) shapes h))

-- ---- a schema that is put behind others

-- what has become of the shapes: they have the table behind them, or are as they were
abbrev pub Puts : Result ℕ Error → List Shape → List Shape → Table → Type 0
Puts r old new t = MatchResult r (λ root. (table_view new ≡ put (table_view old) t) × (root ≡ root_in (table_view old) t))
    (λ e. (e ≡ OutOfMemory) × (table_view new ≡ table_view old))

pub puts_of : (r : Result ℕ Error) (old new : List Shape) (s : Schema) (t : Table) → table_of s ≡ t
    → MatchResult r (λ root. (table_view new ≡ table_view old ++ map (moved (length old)) (shapes_of s)) × (root ≡ length old + root_of s))
    (λ e. (e ≡ OutOfMemory) × (new ≡ old)) → Puts r old new t
puts_of (Ok root) old new s t same h =
    let len : length old ≡ length (table_view old) = sym (length-map old shape_view) in
    (h.0 ∙ (λ i. table_view old ++ map (moved (len i)) (same i).shapes), h.1 ∙ (λ i. len i + (same i).root))
puts_of (Err e) old new s t same h = (h.0, ap table_view h.1)

pub closed_behind : (r : Result ℕ Error) (old new : List Shape) (s : Schema) → is_closed (table_view old) ≡ true
    → is_well_formed (shapes_of s) (root_of s) ≡ true
    → MatchResult r (λ root. (table_view new ≡ table_view old ++ map (moved (length old)) (shapes_of s)) × (root ≡ length old + root_of s))
    (λ e. (e ≡ OutOfMemory) × (new ≡ old)) → is_closed (table_view new) ≡ true
closed_behind r old new s closed w h = by_result r (puts_of r old new s (table_of s) refl h)
  where
    by_result : (r : Result ℕ Error) → Puts r old new (table_of s) → is_closed (table_view new) ≡ true
    by_result (Ok root) k = ap is_closed k.0 ∙ put_closed (table_view old) (table_of s) closed (closed_of (shapes_of s) (root_of s) w)
    by_result (Err e) k = ap is_closed k.1 ∙ closed
