-- Names of a list, put into a set one after another: what a set answers to one more, and the names of fields and of variants.
use Rattle.std.proofs.Common.{◌≡◌, ℕ, Bool, true, false, not, ◌&&◌, ◌||◌, List, [], ◌∷◌, ◌++◌, map, refl, sym, ap, ap₂, ◌∙◌, length, string_bytes, String}
use Rattle.std.proofs.Common.{Global, Bor, arith}
use Rattle.std.specs.BTreeSet.{BTreeSet, contains, insert_key}
use Rattle.std.specs.BTreeMap.{is_at}
use Rattle.std.specs.Cmp.{both_ways}
use Rattle.std.specs.Cmp.Lexicographic.{slice_cmp}
use Rattle.std.specs.List.{list_all, list_any}
use Rattle.std.specs.Ordering.{is_eq, nat_cmp, match_ordering}
use Rattle.std.specs.declared.cmp.Ordering.{Ordering}
use Rattle.std.specs.declared.cmp.Ordering.TheVariants.{Less, Equal, Greater}
use Rattle.std.proofs.lemmas.Bool.{or_parts, false≢true}
use Rattle.std.proofs.lemmas.List.{map-append}
use Rattle.std.proofs.lemmas.Map.Text.{is_eq-slice_cmp}
use Rattle.std.proofs.lemmas.Slice.Eq.{bytes_eq-Decides}
use Rattle.std.proofs.lemmas.Str.{IsUtf8-string_bytes}
use Rattle.ron_spec_words.specs.Characters.{Text}
use Rattle.ron_spec_words.specs.Runs.{same_text}
use Rattle.ron_spec_grammar.specs.Schema.{holds_text, all_differ, all_names, names_differ, variants_differ, is_variant}
use Rattle.ron_lex_text.proofs.StretchLemmas.{same_chars}
use Rattle.ron_data_schema.specs.declared.schema.FieldShape.{FieldShape}
use Rattle.ron_data_schema.specs.declared.schema.VariantShape.{VariantShape}
use Rattle.ron_data_schema.specs.Names.{Names, are_new, seen_in}
use Rattle.ron_data_schema.specs.Shapes.{field_view, text_view, variant_view}
use Rattle.ron_data_schema.proofs.TableLemmas.{list_any-map}

-- ---- one more name

-- the order of a set's keys
abbrev by_bytes : Bor (List ℕ) → Bor (List ℕ) → Ordering
by_bytes x y = slice_cmp nat_cmp x.now y.now

abbrev bytes_of : List (Bor (List ℕ)) → List (List ℕ)
bytes_of ks = map (λ k. k.now) ks

same_either : (s t : Text) → same_text s t ≡ same_text t s
same_either s t =
    both_ways _ _ (λ e. (bytes_eq-Decides t s).1 (sym ((bytes_eq-Decides s t).0 e))) (λ e. (bytes_eq-Decides s t).1 (sym ((bytes_eq-Decides t s).0 e)))

held : (k : Bor (List ℕ)) (ks : List (Bor (List ℕ))) → list_any (is_at (by_bytes k)) ks ≡ holds_text k.now (bytes_of ks)
held k [] = refl
held k (x ∷ ks) = ap₂ (λ a b. a || b) (is_eq-slice_cmp k.now x.now ∙ same_either k.now x.now) (held k ks)

or_swap : (a b c : Bool) → (a || (b || c)) ≡ (b || (a || c))
or_swap true true c = refl
or_swap true false c = refl
or_swap false b c = refl

-- what a set holds to which a new name was added
added_holds : (k : Bor (List ℕ)) (ks : List (Bor (List ℕ))) (t : Text) → holds_text k.now (bytes_of ks) ≡ false
    → holds_text t (bytes_of (insert_key by_bytes ks k)) ≡ (same_text k.now t || holds_text t (bytes_of ks))
added_holds k [] t n = refl
added_holds k (x ∷ ks) t n = let parts = or_parts (same_text x.now k.now) (holds_text k.now (bytes_of ks)) n in
    go (by_bytes k x) refl parts.0 (added_holds k ks t parts.1)
  where
    go : (o : Ordering) → by_bytes k x ≡ o → same_text x.now k.now ≡ false
        → holds_text t (bytes_of (insert_key by_bytes ks k)) ≡ (same_text k.now t || holds_text t (bytes_of ks))
        → holds_text t (bytes_of (match_ordering o (k ∷ x ∷ ks) (x ∷ ks) (x ∷ insert_key by_bytes ks k)))
        ≡ (same_text k.now t || (same_text x.now t || holds_text t (bytes_of ks)))
    go Less e apart h = refl
    go Equal e apart h = absurd (false≢true (sym apart ∙ same_either x.now k.now ∙ sym (is_eq-slice_cmp k.now x.now) ∙ ap is_eq e))
    go Greater e apart h = ap (λ b. same_text x.now t || b) h ∙ or_swap (same_text x.now t) (same_text k.now t) (holds_text t (bytes_of ks))

and_turn : (a b c x : Bool) → (not (a || b) && (x && not c)) ≡ ((not b && x) && not (a || c))
and_turn true true c x = refl
and_turn true false c true = refl
and_turn true false c false = refl
and_turn false true c x = refl
and_turn false false c x = refl

and_back : (a b c : Bool) → ((a && b) && c) ≡ (a && (b && c))
and_back true b c = refl
and_back false b c = refl

-- none of the names was seen where one more was
none_of_more : (t : Text) (seen more : List Text) (names : Names) → ((u : Text) → holds_text u more ≡ (same_text t u || holds_text u seen))
    → list_all (λ s. not (holds_text (string_bytes s) more)) names
    ≡ (list_all (λ s. not (holds_text (string_bytes s) seen)) names && not (holds_text t (map string_bytes names)))
none_of_more t seen more [] h = refl
none_of_more t seen more (s ∷ names) h =
    let u = string_bytes s in
    ap₂ (λ a b. not a && b) (h u ∙ ap (λ a. a || holds_text u seen) (same_either t u)) (none_of_more t seen more names h)
    ∙ and_turn (same_text u t) (holds_text u seen) (holds_text t (map string_bytes names)) (list_all (λ n. not (holds_text (string_bytes n) seen)) names)

-- a name that the set doesn't take
pub name_known : (seen : BTreeSet (Bor (List ℕ))) (k : Bor (List ℕ)) {added : Bool} (s : String Global) (behind : Names)
    → k.now ≡ string_bytes s → added ≡ not (contains by_bytes seen k) → added ≡ false → are_new (seen_in seen) (s ∷ behind) ≡ false
name_known seen k s behind e a f = go (holds_text k.now (seen_in seen)) refl (sym f ∙ a ∙ ap not (held k seen.keys))
  where
    go : (b : Bool) → holds_text k.now (seen_in seen) ≡ b → false ≡ not (holds_text k.now (seen_in seen)) → are_new (seen_in seen) (s ∷ behind) ≡ false
    go true h l = let known : holds_text (string_bytes s) (seen_in seen) ≡ true = ap (λ t. holds_text t (seen_in seen)) (sym e) ∙ h in rw known refl
    go false h l = absurd (false≢true (l ∙ ap not h))

-- one that it takes: those behind are new beside it too
pub name_new : (seen : BTreeSet (Bor (List ℕ))) {more : BTreeSet (Bor (List ℕ))} (k : Bor (List ℕ)) {added : Bool} (s : String Global) (behind : Names)
    → k.now ≡ string_bytes s → added ≡ not (contains by_bytes seen k) → added ≡ true → more.keys ≡ insert_key by_bytes seen.keys k
    → are_new (seen_in seen) (s ∷ behind) ≡ are_new (seen_in more) behind
name_new seen {more} k s behind e a t m = go (holds_text k.now (seen_in seen)) refl (sym t ∙ a ∙ ap not (held k seen.keys))
  where
    go : (b : Bool) → holds_text k.now (seen_in seen) ≡ b → true ≡ not (holds_text k.now (seen_in seen))
        → are_new (seen_in seen) (s ∷ behind) ≡ are_new (seen_in more) behind
    go true h l = absurd (false≢true (sym (l ∙ ap not h)))
    go false h l =
        let unknown : holds_text (string_bytes s) (seen_in seen) ≡ false = ap (λ u. holds_text u (seen_in seen)) (sym e) ∙ h in
        let rest = list_all (λ n. not (holds_text (string_bytes n) (seen_in seen))) behind in
        let differ = all_differ (map string_bytes behind) in
        ap (λ b. (not b && rest) && (not (holds_text (string_bytes s) (map string_bytes behind)) && differ)) unknown
        ∙ ap (λ u. rest && (not (holds_text u (map string_bytes behind)) && differ)) (sym e)
        ∙ sym (and_back rest (not (holds_text k.now (map string_bytes behind))) differ)
        ∙ ap (λ b. b && differ)
        (sym (none_of_more k.now (seen_in seen) (seen_in more) behind (λ u. ap (λ ks. holds_text u (bytes_of ks)) m ∙ added_holds k seen.keys u h)))

-- ---- by bytes as by characters

same_by_bytes : (s t : String Global) → same_text (text_view s) (text_view t) ≡ same_text (string_bytes s) (string_bytes t)
same_by_bytes s t =
    sym (same_chars (string_bytes s) (string_bytes t) _ (IsUtf8-string_bytes s) (IsUtf8-string_bytes t) (bytes_eq-Decides (string_bytes s) (string_bytes t)))

holds_by_bytes : (t : String Global) (names : Names) → holds_text (text_view t) (map text_view names) ≡ holds_text (string_bytes t) (map string_bytes names)
holds_by_bytes t [] = refl
holds_by_bytes t (s ∷ names) = ap₂ (λ a b. a || b) (same_by_bytes s t) (holds_by_bytes t names)

differ_by_bytes : (names : Names) → all_differ (map string_bytes names) ≡ all_differ (map text_view names)
differ_by_bytes [] = refl
differ_by_bytes (t ∷ names) = ap₂ (λ a b. not a && b) (sym (holds_by_bytes t names)) (differ_by_bytes names)

none_seen : (names : Names) → list_all (λ s. not (holds_text (string_bytes s) [])) names ≡ true
none_seen [] = refl
none_seen (s ∷ names) = none_seen names

first_new : {seen : BTreeSet (Bor (List ℕ))} (names : Names) → seen.keys ≡ [] → are_new (seen_in seen) names ≡ all_differ (map text_view names)
first_new names e = ap (λ ks. are_new (bytes_of ks) names) e ∙ ap (λ b. b && all_differ (map string_bytes names)) (none_seen names) ∙ differ_by_bytes names

-- ---- the names of fields and of variants

-- aliases of code
pub text_among : (t : Text) (aliases : Names) → list_any (λ s. same_text (text_view s) t) aliases ≡ holds_text t (map text_view aliases)
text_among t aliases = sym (list_any-map (λ s. same_text s t) text_view aliases)

abbrev pub names_in : List FieldShape → Names
names_in [] = []
names_in (f ∷ fields) = f.name ∷ (f.aliases.items ++ names_in fields)

names_are : (fields : List FieldShape) → all_names (map field_view fields) ≡ map text_view (names_in fields)
names_are [] = refl
names_are (f ∷ fields) = ap (λ ts. text_view f.name ∷ ts)
    (ap (λ ts. map text_view f.aliases.items ++ ts) (names_are fields) ∙ sym (map-append text_view f.aliases.items (names_in fields)))

pub first_field : {seen : BTreeSet (Bor (List ℕ))} (fields : List FieldShape) → seen.keys ≡ []
    → are_new (seen_in seen) (names_in fields) ≡ names_differ (map field_view fields)
first_field fields e = first_new (names_in fields) e ∙ sym (ap all_differ (names_are fields))

pub none_left : (seen : List Text) (fields : List FieldShape) → length fields ≡ 0 → are_new seen (names_in fields) ≡ true
none_left seen [] e = refl
none_left seen (f ∷ fields) e = absurd (omega (arith, e))

variants_are : (variants : List (String Global × VariantShape))
    → all_differ (map text_view (map (λ v. v.0) variants)) ≡ variants_differ (map variant_view variants)
variants_are [] = refl
variants_are (v ∷ variants) = ap₂ (λ a b. not a && b) (among variants) (variants_are variants)
  where
    among : (vs : List (String Global × VariantShape))
        → holds_text (text_view v.0) (map text_view (map (λ w. w.0) vs)) ≡ list_any (is_variant (text_view v.0)) (map variant_view vs)
    among [] = refl
    among (w ∷ vs) = ap (λ b. same_text (text_view w.0) (text_view v.0) || b) (among vs)

pub first_variant : {seen : BTreeSet (Bor (List ℕ))} (variants : List (String Global × VariantShape)) → seen.keys ≡ []
    → are_new (seen_in seen) (map (λ v. v.0) variants) ≡ variants_differ (map variant_view variants)
first_variant variants e = first_new (map (λ v. v.0) variants) e ∙ variants_are variants
