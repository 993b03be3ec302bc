-- What a list of values becomes, an item at a time: for the loops of `convert`.
use Rattle.std.proofs.Common.{◌≡◌, List, [], ◌∷◌, ◌++◌, map, Option, Some, None, option_map, Result, Ok, Err, refl, sym, ap, subst, ◌∙◌}
use Rattle.ron_spec_grammar.specs.Data as plain
use Rattle.ron_spec_grammar.specs.Values.Conversion.{with_both}
use Rattle.ron_base.specs.declared.error.Error.{Error}
use Rattle.ron_base.specs.declared.error.Error.TheVariants.{OutOfMemory, MissingStructField}
use Rattle.ron_data.specs.Slots.{IsUnknownField, MissesField}
use Rattle.ron_data_convert.specs.Becomes.{Refusal, memory, tells, foreign, refusal_of, IsMemoryOrTold, IsMemoryOr, Becomes, Refuses}
use Rattle.ron_data_convert.specs.Misfits.{Misfit, names_no_field, lacks_field}

-- ---- refusals

more : {m n : Misfit} {P Q : Type 0} (k : Refusal) → (P → m ≡ n) → (P → Q) → IsMemoryOrTold m P k → IsMemoryOrTold n Q k
more memory same f t = tt
more (tells k) same f t = (t.0 ∙ same t.1, f t.1)
more foreign same f t = t

-- what follows from P holds too, and the misfit is that one
pub memory_or_more : {m n : Misfit} {P Q : Type 0} (e : Error) → (P → m ≡ n) → (P → Q) → IsMemoryOr m P e → IsMemoryOr n Q e
memory_or_more e same f t = more (refusal_of e) same f t

-- a field that is missing
pub misses : (P : Type 0) (e : Error) → MissesField P e → IsMemoryOr lacks_field P e
misses P (MissingStructField field outer) p = (refl, p)
misses P OutOfMemory p = tt
misses P _ p = absurd p

-- a name that no field has
pub unknown_or : (m : Misfit) (P : Type 0) (e : Error) → IsUnknownField e → m ≡ names_no_field → P → IsMemoryOr m P e
unknown_or m P e h is p = subst (IsMemoryOr m P) (sym h.3) (sym is, p)

-- where there is no answer, a refusal is right
pub refuses : {A B : Type 0} (view : A → B) (answer : Option B) (m n : Misfit) (result : Result A Error) → answer ≡ None → m ≡ n → Refuses n result
    → Becomes view answer m result
refuses view answer m n (Ok a) h is r = absurd r
refuses view answer m n (Err e) h is r = memory_or_more e (λ _. sym is) (λ _. h) r

-- ---- what is done so far

module _ {A Y Z : Type 0} (view : A → Y) (cons : Y → Z → Z) where
  -- what is done, before the rest
  abbrev pub before : List A → Z → Z
  before [] z = z
  before (a ∷ done) z = cons (view a) (before done z)

  -- the whole is what is done, before what the rest becomes
  abbrev pub Gone : Option Z → List A → Option Z → Type 0
  Gone whole done rest = whole ≡ option_map (before done) rest

  before_more : (done : List A) (a : A) (z : Z) → before (done ++ a ∷ []) z ≡ before done (cons (view a) z)
  before_more [] a z = refl
  before_more (x ∷ done) a z = ap (cons (view x)) (before_more done a z)

  more_of : (done : List A) (a : A) (next : Option Z)
      → option_map (before done) (with_both cons (Some (view a)) next) ≡ option_map (before (done ++ a ∷ [])) next
  more_of done a None = refl
  more_of done a (Some z) = ap Some (sym (before_more done a z))

  pub gone_more : (whole : Option Z) (done : List A) (rest next : Option Z) (o : Option Y) (a : A) → Gone whole done rest → rest ≡ with_both cons o next
      → o ≡ Some (view a) → Gone whole (done ++ a ∷ []) next
  gone_more whole done rest next o a h r e = h ∙ ap (option_map (before done)) (r ∙ ap (λ o. with_both cons o next) e) ∙ more_of done a next

  pub gone_none : (whole : Option Z) (done : List A) (rest : Option Z) (o : Option Y) (next : Option Z) → Gone whole done rest → rest ≡ with_both cons o next
      → o ≡ None → whole ≡ None
  gone_none whole done rest o next h r e = h ∙ ap (option_map (before done)) (r ∙ ap (λ o. with_both cons o next) e)

  pub gone_all : (whole : Option Z) (done : List A) (rest : Option Z) (end : Z) → Gone whole done rest → rest ≡ Some end → whole ≡ Some (before done end)
  gone_all whole done rest end h r = h ∙ ap (option_map (before done)) r

pub before_list : {A B : Type 0} (view : A → B) (done : List A) → before view (λ b bs. b ∷ bs) done [] ≡ map view done
before_list view [] = refl
before_list view (a ∷ done) = ap (λ bs. view a ∷ bs) (before_list view done)

pub before_datas : {A : Type 0} (view : A → plain.Data) (done : List A) → before view plain.data_and done plain.no_datas ≡ plain.datas (map view done)
before_datas view [] = refl
before_datas view (a ∷ done) = ap (plain.data_and (view a)) (before_datas view done)

-- ---- answers that are equal

pub becomes_eq : {A B : Type 0} (view : A → B) (one other : Option B) (m n : Misfit) (result : Result A Error) → one ≡ other → m ≡ n
    → Becomes view other n result → Becomes view one m result
becomes_eq view one other m n result e f h = subst (λ o. Becomes view o m result) (sym e) (subst (λ n. Becomes view other n result) (sym f) h)
