-- Fields put into the schema's order keep their names and data: for structs here and for their layouts.
use Rattle.std.proofs.Common.{◌≡◌, Bool, true, false, ◌&&◌, cond, not, List, [], ◌∷◌, refl, ap, ◌∙◌}
use Rattle.std.specs.List.{list_any}
use Rattle.std.proofs.lemmas.Bool.{and_parts}
use Rattle.ron_spec_words.specs.Characters.{Text}
use Rattle.ron_spec_words.specs.Runs.{same_text}
use Rattle.ron_spec_words.proofs.Values.{Each}
use Rattle.ron_spec_grammar.specs.Schema.{Field, is_named, in_order}
use Rattle.ron_spec_grammar.proofs.Finding.{same_is, same_self, other_sym, any_other}

-- none of the fields has the name, and so none of the names is it
pub all_unlike : (name : Text) (fields : List Field) (names : List Text) → Each (λ g. same_text g.name name ≡ false) fields → in_order fields names ≡ true
    → Each (λ n. same_text n name ≡ false) names
all_unlike name [] [] h e = tt
all_unlike name [] (n ∷ names) h e = absurd (cc)
all_unlike name (g ∷ fields) [] h e = tt
all_unlike name (g ∷ fields) (n ∷ names) h e = go (is_named n g) refl e (all_unlike name fields names h.1) (all_unlike name fields (n ∷ names) h.1)
  where
    go : (b : Bool) → is_named n g ≡ b → cond b (in_order fields names) (g.may_be_missing && in_order fields (n ∷ names)) ≡ true
        → (in_order fields names ≡ true → Each (λ n. same_text n name ≡ false) names)
        → (in_order fields (n ∷ names) ≡ true → Each (λ n. same_text n name ≡ false) (n ∷ names)) → Each (λ n. same_text n name ≡ false) (n ∷ names)
    go true k q rest all = (rw (same_is g.name n k) at h.0, rest q)
    go false k q rest all = all (and_parts g.may_be_missing (in_order fields (n ∷ names)) q).1

-- a field that is missing before the others
pub missing_first : (f : Field) (fields : List Field) (names : List Text) → f.may_be_missing ≡ true → not (list_any (is_named f.name) fields) ≡ true
    → in_order fields names ≡ true → in_order (f ∷ fields) names ≡ true
missing_first f fields [] m d e = both f.may_be_missing m
  where
    both : (b : Bool) → b ≡ true → (b && in_order fields []) ≡ true
    both true m = e
    both false m = absurd (cc)
missing_first f fields (n ∷ names) m d e =
    go (is_named n f) (other_sym n f.name (all_unlike f.name fields (n ∷ names) (any_other (is_named f.name) fields d) e).0) f.may_be_missing m
  where
    go : (b : Bool) → b ≡ false → (c : Bool) → c ≡ true → cond b (in_order fields names) (c && in_order fields (n ∷ names)) ≡ true
    go true q c m = absurd (cc)
    go false q true m = e
    go false q false m = absurd (cc)

-- a field that is there before the others
pub there_first : (f : Field) (fields : List Field) (n : Text) (names : List Text) → n ≡ f.name → in_order fields names ≡ true
    → in_order (f ∷ fields) (n ∷ names) ≡ true
there_first f fields n names q e = go (is_named n f) (ap (λ m. same_text f.name m) q ∙ same_self f.name)
  where
    go : (b : Bool) → b ≡ true → cond b (in_order fields names) (f.may_be_missing && in_order fields (n ∷ names)) ≡ true
    go true k = e
    go false k = absurd (cc)
