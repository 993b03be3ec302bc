-- A step of copying fields in the order of their names: each copy goes behind those before it.
use Rattle.std.proofs.Common.{◌≡◌, ℕ, List, [], ◌∷◌, ◌++◌, map, Less, Greater, refl, sym, ap, ◌∙◌, subst, string_bytes}
use Rattle.std.specs.Prelude.{String}
use Rattle.std.specs.Global.{Global}
use Rattle.std.specs.Ordering.{ordering_reverse, nat_cmp}
use Rattle.std.specs.Cmp.Lexicographic.{slice_cmp}
use Rattle.std.specs.List.{AllByRecursion}
use Rattle.std.specs.List.Sorted.{IsStrictlySortedBy}
use Rattle.std.specs.String.{string_cmp, string_cmp_total}
use Rattle.std.specs.Map.{keys_of}
use Rattle.ron_ser_config.specs.declared.path_meta.field.Field.{Field}
use Rattle.ron_ser_config.specs.Tree.{FieldTree}
use Rattle.ron_ser_config.specs.View.{Entries, entry_tree, field_tree}
use Rattle.ron_ser_config.specs.Entries.{with_entry}

abbrev Seen : Type 0
Seen = List (List ℕ × FieldTree)

abbrev AreSorted : Seen → Type 0
AreSorted es = IsStrictlySortedBy (slice_cmp nat_cmp) (keys_of es)

all_seen : (P : List ℕ → Type 0) (es : Entries) → AllByRecursion (λ k. P (string_bytes k)) (keys_of es) → AllByRecursion P (keys_of (map entry_tree es))
all_seen P [] all = tt
all_seen P (e ∷ es) all = (all.0, all_seen P es all.1)

sorted_seen : (es : Entries) → IsStrictlySortedBy string_cmp (keys_of es) → AreSorted (map entry_tree es)
unfolding IsStrictlySortedBy
sorted_seen [] sorted = tt
sorted_seen (e ∷ es) sorted = (all_seen (λ k. slice_cmp nat_cmp (string_bytes e.0) k ≡ Less) es sorted.0, sorted_seen es sorted.1)

holds_of : (P : List ℕ → Type 0) (es : Seen) (x : List ℕ × FieldTree) (rest : Seen) → AllByRecursion P (keys_of (es ++ x ∷ rest)) → P x.0
holds_of P [] x rest all = all.0
holds_of P (e ∷ es) x rest all = holds_of P es x rest all.1

goes_behind : (es : Entries) (name : String Global) (f : Field) (rest : Seen) → AreSorted (map entry_tree es ++ entry_tree (name, f) ∷ rest)
    → with_entry name f es ≡ es ++ (name, f) ∷ []
unfolding IsStrictlySortedBy
goes_behind [] name f rest sorted = refl
goes_behind (e ∷ es) name f rest sorted =
    let below : string_cmp e.0 name ≡ Less =
    holds_of (λ k. slice_cmp nat_cmp (string_bytes e.0) k ≡ Less) (map entry_tree es) (entry_tree (name, f)) rest sorted.0 in
    let above : string_cmp name e.0 ≡ Greater = string_cmp_total.antisymm name e.0 ∙ ap ordering_reverse below in
    rw above (ap (λ (behind : Entries). e ∷ behind) (goes_behind es name f rest sorted.1))

one_more : (es : Entries) (x : String Global × Field) (rest : Seen) → map entry_tree (es ++ x ∷ []) ++ rest ≡ map entry_tree es ++ entry_tree x ∷ rest
one_more [] x rest = refl
one_more (e ∷ es) x rest = ap (λ (behind : Seen). entry_tree e ∷ behind) (one_more es x rest)

-- one field is copied: `copy` and `made` are the copies of `name` and `field`, which stand first among those that are left
pub copied : (source copies left rest : Entries) (name copy : String Global) (field made : Field) → IsStrictlySortedBy string_cmp (keys_of source)
    → map entry_tree copies ++ map entry_tree left ≡ map entry_tree source → left ≡ (name, field) ∷ rest → string_bytes copy ≡ string_bytes name
    → field_tree made ≡ field_tree field
    → (new : Entries) → new ≡ with_entry copy made copies → map entry_tree new ++ map entry_tree rest ≡ map entry_tree source
copied source copies left rest name copy field made sorted so_far first same_name same_field new put =
    let same : entry_tree (copy, made) ≡ entry_tree (name, field) = λ i. (same_name i, same_field i) in
    let joined : map entry_tree copies ++ entry_tree (copy, made) ∷ map entry_tree rest ≡ map entry_tree source =
    ap (λ (x : List ℕ × FieldTree). map entry_tree copies ++ x ∷ map entry_tree rest) same
    ∙ ap (λ (es : Entries). map entry_tree copies ++ map entry_tree es) (sym first) ∙ so_far in
    let behind : new ≡ copies ++ (copy, made) ∷ [] =
    put ∙ goes_behind copies copy made (map entry_tree rest) (subst AreSorted (sym joined) (sorted_seen source sorted)) in
    ap (λ (es : Entries). map entry_tree es ++ map entry_tree rest) behind ∙ one_more copies (copy, made) (map entry_tree rest) ∙ joined
