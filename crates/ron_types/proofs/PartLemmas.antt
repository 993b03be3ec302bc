-- The schema that is made of parts: for the types that have some.
use Rattle.std.proofs.Common.{◌≡◌, ℕ, List, [], ◌∷◌, Result, refl, ap, subst, ◌∙◌}
use Rattle.std.specs.Result.{MatchResult}
use Rattle.ron_base.specs.declared.error.Error.{Error}
use Rattle.ron_base.specs.declared.error.Error.TheVariants.{OutOfMemory}
use Rattle.ron_spec_grammar.specs.Schema.{Shape, map}
use Rattle.ron_data_schema.specs.Table.{Table, table_of}
use Rattle.ron_data_schema.specs.declared.schema.Schema.{Schema}
use Rattle.ron_types.specs.Tables.{put, put_all, root_in, roots_in, topped, above, map_table}

-- the table is made, or there is no memory
abbrev pub Makes : Result Schema Error → Table → Type 0
Makes r t = MatchResult r (λ s. table_of s ≡ t) (λ e. e ≡ OutOfMemory)

-- Behind the old shapes the tables have been put one by one, their roots at these indices, and now there are the new ones.
abbrev pub Adds : List Shape → List Table → List ℕ → List Shape → Type 0
Adds old [] [] new = new ≡ old
Adds old (t ∷ ts) (j ∷ js) new = (next : List Shape) × (next ≡ put old t) × (j ≡ root_in old t) × Adds next ts js new
Adds old [] (j ∷ js) new = ⊥
Adds old (t ∷ ts) [] new = ⊥

pub added : (ts : List Table) (js : List ℕ) (old new : List Shape) → Adds old ts js new → (new ≡ put_all old ts) × (js ≡ roots_in old ts)
added [] [] old new h = (h, refl)
added (t ∷ ts) (j ∷ js) old new h =
    let rest = added ts js h.0 new h.3 in
    (rest.0 ∙ ap (λ shapes. put_all shapes ts) h.1, λ i. h.2 i ∷ (rest.1 ∙ ap (λ shapes. roots_in shapes ts) h.1) i)
added [] (j ∷ js) old new h = absurd h
added (t ∷ ts) [] old new h = absurd h

-- the table over one part
pub above_is : (r : Result Schema Error) (f : ℕ → Shape) (t : Table) (j : ℕ) (old new : List Shape) → old ≡ [] → (new ≡ put old t) × (j ≡ root_in old t)
    → Makes r (topped new (f j)) → Makes r (above f t)
above_is r f t j old new none h made =
    let shapes : new ≡ put [] t = h.0 ∙ ap (λ old. put old t) none in
    let at : j ≡ root_in [] t = h.1 ∙ ap (λ old. root_in old t) none in
    subst (Makes r) (λ i. topped (shapes i) (f (at i))) made

-- that of a map
pub map_is : (r : Result Schema Error) (k v : Table) (a b : ℕ) (old next new : List Shape) → old ≡ [] → (next ≡ put old k) × (a ≡ root_in old k)
    → (new ≡ put next v) × (b ≡ root_in next v) → Makes r (topped new (map a b)) → Makes r (map_table k v)
map_is r k v a b old next new none h i made =
    let first : next ≡ put [] k = h.0 ∙ ap (λ old. put old k) none in
    let key : a ≡ root_in [] k = h.1 ∙ ap (λ old. root_in old k) none in
    let second : new ≡ put (put [] k) v = i.0 ∙ ap (λ next. put next v) first in
    let value : b ≡ root_in (put [] k) v = i.1 ∙ ap (λ next. root_in next v) first in
    subst (Makes r) (λ i. topped (second i) (map (key i) (value i))) made
