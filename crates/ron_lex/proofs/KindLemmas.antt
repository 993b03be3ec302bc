-- The kinds behind the opening brackets of a text: a turn of the pass that finds them, and what is known of a place.
use Rattle.std.proofs.Common.{◌≡◌, ℕ, zero, suc, ◌+◌, ◌-◌, ◌<◌, ◌≤◌, Bool, true, false, cond, if◌then◌else◌, length, List, [], ◌∷◌, ◌++◌, map, append_assoc}
use Rattle.std.proofs.Common.{append-nil, Option, Some, None, option_map, IfSome, IsSome, refl, sym, ap, subst, ◌∙◌, length-append, arith}
use Rattle.std.specs.Prelude.{Contains, reverse, slice_get, slice_set, slice_index_or}
use Rattle.std.specs.List.Sorted.{IsNonDecreasing}
use Rattle.std.proofs.lemmas.List.{reverse-append}
use Rattle.ron_spec_words.specs.Characters.{Text}
use Rattle.ron_spec_words.specs.Gap.{skip, gap_of}
use Rattle.ron_spec_words.specs.Runs.{begins}
use Rattle.ron_spec_words.specs.Scan.{token, is_opening}
use Rattle.ron_spec_words.specs.Lookahead.{seek, opens_field, holds_several}
use Rattle.ron_spec_words.specs.Kind as words
use Rattle.ron_spec_words.specs.Kind.{named_fields, kind_at, kind, TellsKind}
use Rattle.ron_spec_words.specs.KindTable.{Stage, next_stage, next_groups, next_table, tell, tell_innermost, settle, fill_from, kind_table}
use Rattle.ron_spec_words.specs.Beyond.{bytes_in}
use Rattle.ron_spec_words.specs.Openings.{BeginsContent, insides, content_place}
use Rattle.ron_spec_words.proofs.Gaps.{cut, skip-skip}
use Rattle.ron_spec_words.proofs.Walks.{opening_alone, walk_gap}
use Rattle.ron_spec_words.proofs.Lookahead.{seek-walk}
use Rattle.ron_spec_words.proofs.Sizes.{size_append, size_one, size_end}
use Rattle.ron_spec_words.proofs.KindTables.{fill_over, fill_broken, fill_end, is_table, tells_kinds}
use Rattle.ron_spec_words.proofs.Openings.{insides_open, insides_within, insides_broken, insides_end, kinds_of_insides, finds_content, are_ends, are_in_order}
use Rattle.ron_lex_text.specs.Stretch.{IsSuffix}
use Rattle.ron_lex.specs.declared.kinds.Kind.{Kind}
use Rattle.ron_lex.specs.declared.kinds.Kind.TheVariants.{Named, Many, Newtype, Broken}
use Rattle.ron_lex.specs.declared.kinds.Kinds.{Kinds}
use Rattle.ron_lex.specs.declared.kinds.Table.{Table}
use Rattle.ron_lex.specs.declared.kinds.Table.TheVariants.{Filled}
use Rattle.ron_lex.specs.Kinds.{kind_view, is_named, is_many, TellsPlace, AreKindsIn, AreKindsOf, FindsKind}

-- ---- ends of a text

-- of two ends of a text, the one that is no shorter ends with the other
shorter_end : (f g u v : Text) → f ++ u ≡ g ++ v → length u ≤ length v → (h : Text) × (v ≡ h ++ u)
shorter_end f [] u v e le = (f, sym e)
shorter_end [] (y ∷ g) u v e le = absurd (omega (arith, ap length e, length-append (y ∷ g) v, le))
shorter_end (x ∷ f) (y ∷ g) u v e le = shorter_end f g u v (let k = e in cc) le

pub shorter_bytes : (u v s : Text) → IsSuffix u s → IsSuffix v s → length u ≤ length v → bytes_in u ≤ bytes_in v
shorter_bytes u v s h k le = let e = shorter_end h.front k.front u v (sym h.is ∙ k.is) le in size_end e.0 u v e.1

-- two ends that have as many bytes are the same
same_end : (f g u v : Text) → f ++ u ≡ g ++ v → bytes_in u ≡ bytes_in v → u ≡ v
same_end [] [] u v e b = e
same_end [] (y ∷ g) u v e b = absurd (omega (arith, ap bytes_in e, size_append (y ∷ g) v, size_one y g, b))
same_end (x ∷ f) [] u v e b = absurd (omega (arith, ap bytes_in e, size_append (x ∷ f) u, size_one x f, b))
same_end (x ∷ f) (y ∷ g) u v e b = same_end f g u v (let k = e in cc) b

skipped_end : (front s text : Text) → text ≡ front ++ s → IsSuffix (skip s) text
skipped_end front s text e = let k = cut s in record { front = front ++ _; is = e ∙ ap (λ x. front ++ x) k.split ∙ sym (append_assoc front _ (skip s)) }

-- ---- what is known of a place

-- a slice of a list that is mapped
got_of_map : {A B : Type 0} (f : A → B) (xs : List A) (i : ℕ) (y : B) → slice_get (map f xs) i ≡ Some y → (x : A) × ((slice_get xs i ≡ Some x) × (f x ≡ y))
got_of_map f [] i y e = absurd (cc)
got_of_map f (x ∷ xs) zero y e = (x, (refl, let k = e in cc))
got_of_map f (x ∷ xs) (suc i) y e = got_of_map f xs i y e

got_contained : {A : Type 0} (xs : List A) (i : ℕ) (x : A) → slice_get xs i ≡ Some x → Contains xs x
got_contained [] i x e = absurd (cc)
got_contained (y ∷ xs) zero x e = (0, omega arith, let k : y ≡ x = (let z = e in cc) in k)
got_contained (y ∷ xs) (suc i) x e = let k = got_contained xs i x e in (suc k.0, omega (arith, k.1), k.2)

contained_of_map : {A B : Type 0} (f : A → B) (xs : List A) (x : A) → Contains xs x → Contains (map f xs) (f x)
contained_of_map f [] x k = absurd (omega (arith, k.1))
contained_of_map f (y ∷ xs) x (zero, lt, e) = (0, omega arith, ap f e)
contained_of_map f (y ∷ xs) x (suc i, lt, e) = let k = contained_of_map f xs x (i, omega (arith, lt), e) in (suc k.0, omega (arith, k.1), k.2)

-- what a kind says, by the tests
told_named : (k : Kind) (s : Text) → kind_view k ≡ kind s → opens_field (skip s) ≡ is_named k
told_named k s e = go k e (opens_field (skip s)) refl
  where
    h : TellsKind s
    h = tells_kinds s

    go : (k : Kind) → kind_view k ≡ kind s → (b : Bool) → opens_field (skip s) ≡ b → b ≡ is_named k
    go Named e true f = refl
    go Named e false f = sym f ∙ h.fields.1 (sym e)
    go Many e true f = absurd (let z = h.fields.0 f in cc)
    go Many e false f = refl
    go Newtype e true f = absurd (let z = h.fields.0 f in cc)
    go Newtype e false f = refl
    go Broken e true f = absurd (let z = h.fields.0 f in cc)
    go Broken e false f = refl

told_many : (k : Kind) (s : Text) → kind_view k ≡ kind s → opens_field (skip s) ≡ false → holds_several (skip s) ≡ is_many k
told_many k s e unnamed = go k e (holds_several (skip s)) refl
  where
    h : TellsKind s
    h = tells_kinds s

    go : (k : Kind) → kind_view k ≡ kind s → (b : Bool) → holds_several (skip s) ≡ b → b ≡ is_many k
    go Many e true f = refl
    go Many e false f = sym f ∙ (h.several unnamed).1 (sym e)
    go Named e true f = absurd (let z = (h.several unnamed).0 f in cc)
    go Named e false f = refl
    go Newtype e true f = absurd (let z = (h.several unnamed).0 f in cc)
    go Newtype e false f = refl
    go Broken e true f = absurd (let z = (h.several unnamed).0 f in cc)
    go Broken e false f = refl

-- the kind is told behind the gap
kind_behind_gap : (s : Text) → kind (skip s) ≡ kind s
unfolding kind
kind_behind_gap s =
    let k = cut s in
    let over : seek zero zero s ≡ seek zero zero (skip s) = ap (seek zero zero) k.split ∙ seek-walk (walk_gap false zero (gap_of s) (skip s) k.is_gap) in
    ap (λ t. cond (opens_field t) named_fields (kind_at (seek zero zero (skip s)))) (skip-skip s)
    ∙ ap (λ t. cond (opens_field (skip s)) named_fields (kind_at t)) (sym over)

told_behind_gap : (k : words.Kind) (s rest : Text) → k ≡ kind s → rest ≡ skip s → (k ≡ kind rest) × (rest ≡ skip rest)
told_behind_gap k s rest e here = (e ∙ sym (kind_behind_gap s) ∙ ap kind (sym here), here ∙ sym (skip-skip s) ∙ ap skip (sym here))

pub told_place : (k : Kind) (s rest : Text) → kind_view k ≡ kind s → rest ≡ skip s → TellsPlace k rest
told_place k s rest e r = rw r (record { named = told_named k s e; many = told_many k s e })

-- what stands in the table at the place behind which this is left
pub known_place : (text rest : Text) (places : List ℕ) (ks : List Kind) (place i : ℕ) (k : Kind) → AreKindsIn text places (map kind_view ks) → IsSuffix rest
    text → place + bytes_in rest ≡ bytes_in text → slice_get places i ≡ Some place → slice_get ks i ≡ Some k → (kind_view k ≡ kind rest) × (rest ≡ skip rest)
known_place text rest places ks place i k are end counts at kind_at =
    let t = got_of_map (content_place text) (insides text) i place (ap (λ xs. slice_get xs i) (sym are.places_are) ∙ at) in
    let e : slice_get (map kind (insides text)) i ≡ Some (kind_view k) = ap (λ xs. slice_get xs i) (sym are.kinds_are) ∙ got_view ks i kind_at in
    let u = got_of_map kind (insides text) i (kind_view k) e in
    let alike : u.0 ≡ t.0 = (let z = sym u.1.0 ∙ t.1.0 in cc) in
    let front = are_ends text t.0 (got_contained (insides text) i t.0 t.1.0) in
    let inside = skipped_end front.0 t.0 text front.1 in
    let some = size_end end.front rest text end.is in
    let most = size_end inside.front (skip t.0) text inside.is in
    told_behind_gap (kind_view k) t.0 rest (sym u.1.1 ∙ ap kind alike)
    (same_end end.front inside.front rest (skip t.0) (sym end.is ∙ inside.is) (omega (arith, t.1.1, counts, some, most)))
  where
    got_view : (ks : List Kind) (i : ℕ) → slice_get ks i ≡ Some k → slice_get (map kind_view ks) i ≡ Some (kind_view k)
    got_view [] i e = absurd (cc)
    got_view (x ∷ xs) zero e = ap (option_map kind_view) e
    got_view (x ∷ xs) (suc i) e = got_view xs i e

-- a place where content begins to which whole tokens lead is in the table
pub place_is_known : (text rest : Text) (places : List ℕ) (ks : List Kind) (place : ℕ) → AreKindsIn text places (map kind_view ks)
    → place + bytes_in rest ≡ bytes_in text → BeginsContent text rest → (length ks ≡ length places → IsNonDecreasing places → Contains places place → ⊥) → ⊥
place_is_known text rest places ks place are counts start none =
    let at = contained_of_map (content_place text) (insides text) start.inside (finds_content text rest start) in
    let here : content_place text start.inside ≡ place = omega (arith, ap bytes_in start.begins, counts) in
    none (omega (
      arith,
      length_map kind_view ks,
      ap length are.kinds_are,
      length_map kind (insides text),
      ap length are.places_are,
      length_map (content_place text) (insides text),
    )) (rw are.places_are (are_in_order text)) (rw (are.places_are, sym here) at)
  where
    length_map : {A B : Type 0} (f : A → B) (xs : List A) → length (map f xs) ≡ length xs
    length_map f [] = refl
    length_map f (x ∷ xs) = ap suc (length_map f xs)

-- no bracket stands in an empty text
none_there : (s : Text) → s ≡ [] → token s ≡ None
unfolding token
none_there [] e = refl
none_there (c ∷ s) e = absurd (cc)

-- likewise of what a cursor knows
module _ (text rest : Text) (known : Table) (ks : Kinds) (place : ℕ) (found : Option Kind) (is : known ≡ Filled ks) (are : AreKindsOf known text) where
  these : AreKindsIn text ks.places.items (map kind_view ks.kinds.items)
  these = subst (λ k. AreKindsOf k text) is are

  pub known_at : IsSuffix rest text → place + bytes_in rest ≡ bytes_in text → FindsKind ks.places.items ks.kinds.items place found
      → IfSome found (λ k. TellsPlace k rest)
  known_at end counts h = go found h
    where
      go : (o : Option Kind) → FindsKind ks.places.items ks.kinds.items place o → IfSome o (λ k. TellsPlace k rest)
      go None h = tt
      go (Some k) h = let p = known_place text rest ks.places.items ks.kinds.items place h.0 k these end counts h.1 h.2 in told_place k rest rest p.0 p.1

  pub known_kind_at : IsSuffix rest text → place + bytes_in rest ≡ bytes_in text → FindsKind ks.places.items ks.kinds.items place found
      → IfSome found (λ k. kind_view k ≡ kind rest)
  known_kind_at end counts h = go found h
    where
      go : (o : Option Kind) → FindsKind ks.places.items ks.kinds.items place o → IfSome o (λ k. kind_view k ≡ kind rest)
      go None h = tt
      go (Some k) h = (known_place text rest ks.places.items ks.kinds.items place h.0 k these end counts h.1 h.2).0

  pub known_there : place + bytes_in rest ≡ bytes_in text → BeginsContent text rest → FindsKind ks.places.items ks.kinds.items place found → IsSome found
  known_there counts start h = go found h
    where
      go : (o : Option Kind) → FindsKind ks.places.items ks.kinds.items place o → IsSome o
      go None h = absurd (place_is_known text rest ks.places.items ks.kinds.items place these counts start h)
      go (Some k) h = refl

-- ---- a turn of the pass

-- the innermost group is the last that was opened
pub last_first : (xs : List ℕ) (i : ℕ) → slice_get xs (length xs - 1) ≡ Some i → (ys : List ℕ) × (reverse xs ≡ i ∷ ys)
last_first [] i e = absurd (cc)
last_first (x ∷ []) i e = ([], let same : x ≡ i = (let z = e in cc) in ap (λ v. v ∷ []) same)
last_first (x ∷ (y ∷ xs)) i e =
    let n : length (x ∷ (y ∷ xs)) - 1 ≡ suc (length xs) = omega arith in
    let m : length (y ∷ xs) - 1 ≡ length xs = omega arith in
    let k = last_first (y ∷ xs) i (ap (slice_get (y ∷ xs)) m ∙ ap (slice_get (x ∷ (y ∷ xs))) (sym n) ∙ e) in
    (k.0 ++ x ∷ [], reverse-append (x ∷ []) (y ∷ xs) ∙ ap (λ v. v ++ x ∷ []) k.1)

pub tell_set : (i : ℕ) (k x y : Kind) (xs : List Kind) → slice_get xs i ≡ Some x → kind_view y ≡ settle (kind_view k) (kind_view x)
    → map kind_view (slice_set xs i y) ≡ tell i (kind_view k) (map kind_view xs)
tell_set i k x y [] e h = absurd (cc)
tell_set zero k x y (z ∷ xs) e h = let same : z ≡ x = (let q = e in cc) in
    ap (λ v. v ∷ map kind_view xs) (h ∙ ap (λ v. settle (kind_view k) (kind_view v)) (sym same))
tell_set (suc i) k x y (z ∷ xs) e h = ap (λ v. kind_view z ∷ v) (tell_set i k x y xs e h)

pub tell_beyond : (i : ℕ) (k : words.Kind) (xs : List words.Kind) → length xs ≤ i → tell i k xs ≡ xs
tell_beyond i k [] le = refl
tell_beyond zero k (x ∷ xs) le = absurd (omega (arith, le))
tell_beyond (suc i) k (x ∷ xs) le = ap (λ ys. x ∷ ys) (tell_beyond i k xs (omega (arith, le)))

pub length_view : (xs : List Kind) → length (map kind_view xs) ≡ length xs
length_view [] = refl
length_view (x ∷ xs) = ap suc (length_view xs)

-- what the table holds of the innermost group
pub told_within : (i : ℕ) (k x y : Kind) (groups : List ℕ) (ks : List Kind) → slice_get groups (length groups - 1) ≡ Some i → slice_get ks i ≡ Some x
    → kind_view y ≡ settle (kind_view k) (kind_view x) → map kind_view (slice_set ks i y) ≡ tell_innermost (reverse groups) (kind_view k) (map kind_view ks)
told_within i k x y groups ks last at told = let r = last_first groups i last in rw r.1 (tell_set i k x y ks at told)

pub told_beyond : (i : ℕ) (k : Kind) (groups : List ℕ) (ks : List Kind) → slice_get groups (length groups - 1) ≡ Some i → length ks ≤ i
    → map kind_view ks ≡ tell_innermost (reverse groups) (kind_view k) (map kind_view ks)
told_beyond i k groups ks last le = let r = last_first groups i last in
    rw r.1 (sym (tell_beyond i (kind_view k) (map kind_view ks) (omega (arith, le, length_view ks))))

-- what the pass finds behind a token is what it finds before it
pass_over : (stage : Stage) (groups : List ℕ) (table whole : List words.Kind) (s rest : Text) → token s ≡ Some rest → fill_from zero stage groups table s
    ≡ whole → fill_from zero (next_stage stage s) (next_groups (length table) s groups) (next_table stage s groups table) rest ≡ whole
pass_over stage groups table whole [] rest h e = absurd (let z : None ≡ Some rest = sym (none_there [] refl) ∙ h in cc)
pass_over stage groups table whole (c ∷ s) rest h e = sym (fill_over stage groups table c s rest h) ∙ e

pub pass_on : (stage there : Stage) (groups opened : List ℕ) (table told whole : List words.Kind) (n : ℕ) (s rest : Text) → token s ≡ Some rest
    → n ≡ length table → there ≡ next_stage stage s → opened ≡ next_groups n s groups → told ≡ next_table stage s groups table
    → fill_from zero stage groups table s ≡ whole → fill_from zero there opened told rest ≡ whole
pass_on stage there groups opened table told whole n s rest h count x y z e = rw (x, y, z, count) (pass_over stage groups table whole s rest h e)

pub places_on : (text : Text) (places more whole : List ℕ) (s rest : Text) → token s ≡ Some rest
    → more ≡ places ++ (if begins is_opening s then content_place text rest ∷ [] else []) → places ++ map (content_place text) (insides s) ≡ whole
    → more ++ map (content_place text) (insides rest) ≡ whole
places_on text places more whole [] rest h m e = absurd (let z : None ≡ Some rest = sym (none_there [] refl) ∙ h in cc)
places_on text places more whole (c ∷ s) rest h m e = ap (λ xs. xs ++ map f (insides rest)) m ∙ go (is_opening c) refl
  where
    f : Text → ℕ
    f = content_place text

    go : (o : Bool) → is_opening c ≡ o → (places ++ cond o (f rest ∷ []) []) ++ map f (insides rest) ≡ whole
    go true o =
        let same : rest ≡ s = (let z = sym h ∙ opening_alone c s o in cc) in
        append_assoc places (f rest ∷ []) (map f (insides rest)) ∙ ap (λ u. places ++ f u ∷ map f (insides u)) same
        ∙ ap (λ xs. places ++ map f xs) (sym (insides_open c s o)) ∙ e
    go false o = append_assoc places [] (map f (insides rest)) ∙ ap (λ xs. places ++ map f xs) (sym (insides_within c s rest h o)) ∙ e

-- what was found where a token is broken, or the text ends, is all
pub found_all : (text : Text) (stage : Stage) (groups : List ℕ) (places : List ℕ) (table : List words.Kind) (s : Text) → token s ≡ None → fill_from zero stage
    groups table s ≡ kind_table text → places ++ map (content_place text) (insides s) ≡ map (content_place text) (insides text) → AreKindsIn text places table
found_all text stage groups places table [] h f p = record {
  places_are = sym (ap (λ xs. places ++ map (content_place text) xs) insides_end ∙ append-nil places) ∙ p;
  kinds_are = sym (fill_end stage groups table) ∙ f ∙ is_table text ∙ kinds_of_insides text;
}
found_all text stage groups places table (c ∷ s) h f p = record {
  places_are = sym (ap (λ xs. places ++ map (content_place text) xs) (insides_broken c s h) ∙ append-nil places) ∙ p;
  kinds_are = sym (fill_broken stage groups table c s h) ∙ f ∙ is_table text ∙ kinds_of_insides text;
}

-- an element that stands at an index
pub got_within : (ks : List Kind) (i : ℕ) (k : Kind) → i < length ks → k ≡ slice_index_or ks i k → slice_get ks i ≡ Some k
got_within [] i k lt e = absurd (omega (arith, lt))
got_within (x ∷ xs) zero k lt e = ap Some (sym e)
got_within (x ∷ xs) (suc i) k lt e = got_within xs i k (omega (arith, lt)) e
