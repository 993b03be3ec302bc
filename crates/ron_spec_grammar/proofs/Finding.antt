-- Finding a field by its name or by what a text calls it: for the tables and slots of `ron_data` and the readers that fill them.
use Rattle.std.proofs.Common.{◌≡◌, ℕ, zero, suc, Bool, true, false, not, ◌||◌, cond, List, [], ◌∷◌, ◌++◌, Option, Some, None, option_map, slice_get, find, refl}
use Rattle.std.proofs.Common.{sym, ap, subst, ◌∙◌}
use Rattle.std.specs.List.{list_any, list_all}
use Rattle.std.specs.Option.{option_and_then}
use Rattle.std.proofs.lemmas.Slice.Eq.{bytes_eq-Decides}
use Rattle.std.proofs.lemmas.Bool.{and_parts, or_right}
use Rattle.ron_spec_words.specs.Characters.{Text}
use Rattle.ron_spec_words.specs.Runs.{same_text}
use Rattle.ron_spec_words.proofs.Values.{Each}
use Rattle.ron_spec_grammar.specs.Schema.{Field, holds_text, is_named, is_called, all_differ, all_names, names_differ}

-- ---- texts and lists

pub same_is : (s t : Text) → same_text s t ≡ true → s ≡ t
same_is s t e = (bytes_eq-Decides s t).0 e

pub same_self : (s : Text) → same_text s s ≡ true
same_self s = (bytes_eq-Decides s s).1 refl

pub other_sym : (s t : Text) → same_text s t ≡ false → same_text t s ≡ false
other_sym s t e = go (same_text t s) refl
  where
    go : (b : Bool) → same_text t s ≡ b → b ≡ false
    go true k = absurd (let x : true ≡ false = sym (same_self t) ∙ ap (λ u. same_text u t) (same_is t s k) ∙ e in cc)
    go false k = refl

pub nor : (a b : Bool) → not (a || b) ≡ true → (a ≡ false) × (not b ≡ true)
nor true b e = absurd (cc)
nor false b e = (refl, e)

pub each_any : {A : Type 0} (xs : List A) → Each (λ _. Unit {0}) xs
each_any [] = tt
each_any (a ∷ xs) = (tt, each_any xs)

-- what is found passes the test, and is one of the list
pub find_some : {A : Type 0} (P : A → Type 0) (test : A → Bool) (xs : List A) (a : A) → find test xs ≡ Some a → Each P xs → (test a ≡ true) × P a
find_some P test [] a e h = absurd (cc)
find_some {A} P test (y ∷ xs) a e h = go (test y) refl e (λ k. find_some P test xs a k h.1)
  where
    go : (b : Bool) → test y ≡ b → cond b (Some y) (find test xs) ≡ Some a → (find test xs ≡ Some a → (test a ≡ true) × P a) → (test a ≡ true) × P a
    go true k q ih = let same : y ≡ a = cc in rw (← same) (k, h.0)
    go false k q ih = ih q

pub none_any : {A : Type 0} (test : A → Bool) (xs : List A) → find test xs ≡ None → list_any test xs ≡ false
none_any test [] e = refl
none_any {A} test (y ∷ xs) e = go (test y) e (λ k. none_any test xs k)
  where
    go : (b : Bool) → cond b (Some y) (find test xs) ≡ None → (find test xs ≡ None → list_any test xs ≡ false) → (b || list_any test xs) ≡ false
    go true k rest = absurd (cc)
    go false k rest = rest k

-- what is made of something, where something is made
pub mapped_from : {A B : Type 0} (g : A → B) (o : Option A) (b : B) → option_map g o ≡ Some b → (a : A) × (o ≡ Some a) × (g a ≡ b)
mapped_from g None b e = absurd (cc)
mapped_from g (Some a) b e = (a, refl, cc)

pub then_from : {A B : Type 0} (g : A → Option B) (o : Option A) (b : B) → option_and_then g o ≡ Some b → (a : A) × (o ≡ Some a) × (g a ≡ Some b)
then_from g None b e = absurd (cc)
then_from g (Some a) b e = (a, refl, e)

pub cond_parts : {A : Type 0} (b : Bool) (o : Option A) (a : A) → cond b o None ≡ Some a → (b ≡ true) × (o ≡ Some a)
cond_parts true o a e = (refl, e)
cond_parts false o a e = absurd (cc)

-- where one is found, there is one
pub found_any : {A : Type 0} (test : A → Bool) (xs : List A) (a : A) → find test xs ≡ Some a → list_any test xs ≡ true
found_any test [] a e = absurd (cc)
found_any {A} test (y ∷ xs) a e = go (test y) e (λ k. found_any test xs a k)
  where
    go : (b : Bool) → cond b (Some y) (find test xs) ≡ Some a → (find test xs ≡ Some a → list_any test xs ≡ true) → (b || list_any test xs) ≡ true
    go true k rest = refl
    go false k rest = rest k

-- what passes at each element passes at one
pub all_get : {A : Type 0} (test : A → Bool) (xs : List A) (i : ℕ) (a : A) → list_all test xs ≡ true → slice_get xs i ≡ Some a → test a ≡ true
all_get test [] i a h e = absurd (cc)
all_get test (y ∷ xs) zero a h e = let same : y ≡ a = cc in rw (← same) (and_parts (test y) (list_all test xs) h).0
all_get test (y ∷ xs) (suc i) a h e = all_get test xs i a (and_parts (test y) (list_all test xs) h).1 e

pub any_other : {A : Type 0} (test : A → Bool) (xs : List A) → not (list_any test xs) ≡ true → Each (λ a. test a ≡ false) xs
any_other test [] h = tt
any_other test (y ∷ xs) h = let k = nor (test y) (list_any test xs) h in (k.0, any_other test xs k.1)

-- ---- fields whose names differ are found by their names

-- its own name calls a field
called_so : (f : Field) → is_called f.name f ≡ true
called_so f = rw (same_self f.name) refl

-- a fact of each text of two lists
each_parts : (P : Text → Type 0) (xs ys : List Text) → Each P (xs ++ ys) → Each P xs × Each P ys
each_parts P [] ys h = (tt, h)
each_parts P (x ∷ xs) ys h = let k = each_parts P xs ys h.1 in ((h.0, k.0), k.1)

-- and of one that the list holds
held : (P : Text → Type 0) (t : Text) (ts : List Text) → holds_text t ts ≡ true → Each P ts → P t
held P t [] e h = absurd (cc)
held P t (s ∷ ts) e h = go (same_text s t) refl e (λ k. held P t ts k h.1)
  where
    go : (b : Bool) → same_text s t ≡ b → (b || holds_text t ts) ≡ true → (holds_text t ts ≡ true → P t) → P t
    go true q k rest = subst P (same_is s t q) h.0
    go false q k rest = rest k

-- where all texts of two lists differ, the first list holds none of the second
differ_apart : (xs ys : List Text) → all_differ (xs ++ ys) ≡ true → Each (λ y. holds_text y xs ≡ false) ys
differ_apart [] ys h = none ys
  where
    none : (ys : List Text) → Each (λ y. holds_text y [] ≡ false) ys
    none [] = tt
    none (y ∷ ys) = (refl, none ys)
differ_apart (x ∷ xs) ys h =
    let k = and_parts (not (holds_text x (xs ++ ys))) (all_differ (xs ++ ys)) h in
    both ys (each_parts (λ s. same_text s x ≡ false) xs ys (any_other (λ s. same_text s x) (xs ++ ys) k.0)).1 (differ_apart xs ys k.1)
  where
    both : (ys : List Text) → Each (λ s. same_text s x ≡ false) ys → Each (λ y. holds_text y xs ≡ false) ys → Each (λ y. holds_text y (x ∷ xs) ≡ false) ys
    both [] o p = tt
    both (y ∷ ys) o p = (rw (other_sym y x o.0) p.0, both ys o.1 p.1)

differ_behind : (xs ys : List Text) → all_differ (xs ++ ys) ≡ true → all_differ ys ≡ true
differ_behind [] ys h = h
differ_behind (x ∷ xs) ys h = differ_behind xs ys (and_parts (not (holds_text x (xs ++ ys))) (all_differ (xs ++ ys)) h).1

-- what calls a field behind the first one doesn't call the first
pub called_apart : (f : Field) (fields : List Field) → names_differ (f ∷ fields) ≡ true
    → Each (λ g. (n : Text) → is_called n g ≡ true → is_called n f ≡ false) fields
called_apart f fields h = go fields (differ_apart (f.name ∷ f.aliases) (all_names fields) h)
  where
    go : (fields : List Field) → Each (λ n. is_called n f ≡ false) (all_names fields)
        → Each (λ g. (n : Text) → is_called n g ≡ true → is_called n f ≡ false) fields
    go [] o = tt
    go (g ∷ fields) o = let k = each_parts (λ n. is_called n f ≡ false) (g.name ∷ g.aliases) (all_names fields) o in
        (λ n e. held (λ n. is_called n f ≡ false) n (g.name ∷ g.aliases) e k.0, go fields k.1)

-- nor does a name of its own, which is no name of the first
pub not_called : (f : Field) (fields : List Field) → names_differ (f ∷ fields) ≡ true → Each (λ g. is_called g.name f ≡ false) fields
not_called f fields h = go fields (called_apart f fields h)
  where
    go : (fields : List Field) → Each (λ g. (n : Text) → is_called n g ≡ true → is_called n f ≡ false) fields → Each (λ g. is_called g.name f ≡ false) fields
    go [] o = tt
    go (g ∷ fields) o = (o.0 g.name (called_so g), go fields o.1)

pub not_named : (f : Field) (fields : List Field) → names_differ (f ∷ fields) ≡ true → Each (λ g. is_named g.name f ≡ false) fields
not_named f fields h = go fields (not_called f fields h)
  where
    alone : (a b : Bool) → (a || b) ≡ false → a ≡ false
    alone true b e = e
    alone false b e = refl

    go : (fields : List Field) → Each (λ g. is_called g.name f ≡ false) fields → Each (λ g. is_named g.name f ≡ false) fields
    go [] o = tt
    go (g ∷ fields) o = (alone (is_named g.name f) (holds_text g.name f.aliases) o.0, go fields o.1)

-- the first field's name is none of the others', and their names differ
pub names_parts : (f : Field) (fields : List Field) → names_differ (f ∷ fields) ≡ true
    → (not (list_any (is_named f.name) fields) ≡ true) × (names_differ fields ≡ true)
names_parts f fields h = (none fields (not_named f fields h), differ_behind (f.name ∷ f.aliases) (all_names fields) h)
  where
    none : (fields : List Field) → Each (λ g. is_named g.name f ≡ false) fields → not (list_any (is_named f.name) fields) ≡ true
    none [] o = refl
    none (g ∷ fields) o = rw (other_sym f.name g.name o.0) (none fields o.1)

-- by its own name each field is found, with a test that passes there and at no other field
each_found : (test : Text → Field → Bool) → ((f : Field) → test f.name f ≡ true)
    → ((f : Field) (fields : List Field) → names_differ (f ∷ fields) ≡ true → Each (λ g. test g.name f ≡ false) fields)
    → (fields : List Field) → names_differ fields ≡ true → Each (λ f. find (test f.name) fields ≡ Some f) fields
each_found test own other [] h = tt
each_found test own other (f ∷ fields) h = (rw (own f) refl, behind fields (other f fields h) (each_found test own other fields (names_parts f fields h).1))
  where
    behind : (more : List Field) → Each (λ g. test g.name f ≡ false) more → Each (λ g. find (test g.name) fields ≡ Some g) more
        → Each (λ g. find (test g.name) (f ∷ fields) ≡ Some g) more
    behind [] o h = tt
    behind (g ∷ more) o h = (rw o.0 h.0, behind more o.1 h.1)

-- the field is the first one of its name
unfoldable pub IsFound : List Field → Field → Type 0
IsFound fields f = find (is_named f.name) fields ≡ Some f

pub are_found : (fields : List Field) → names_differ fields ≡ true → Each (IsFound fields) fields
unfolding IsFound
are_found = each_found is_named (λ f. same_self f.name) not_named

-- the field is the first one that its name calls
unfoldable pub IsMeant : List Field → Field → Type 0
IsMeant fields f = find (is_called f.name) fields ≡ Some f

pub are_meant : (fields : List Field) → names_differ fields ≡ true → Each (IsMeant fields) fields
unfolding IsMeant
are_meant = each_found is_called called_so not_called

-- a field that some name calls
abbrev pub IsKnown : List Field → Field → Type 0
IsKnown fields f = (n : Text) × (find (is_called n) fields ≡ Some f)

-- where names differ, it is the field of its name
pub known_found : (fields : List Field) (f : Field) → Each (IsFound fields) fields → IsKnown fields f → find (is_named f.name) fields ≡ Some f
unfolding IsFound
known_found fields f found k = (find_some (IsFound fields) (is_called k.0) fields f k.1 found).1

-- where a field is named so, one is called so
pub named_called : (n : Text) (fields : List Field) → list_any (is_named n) fields ≡ true → list_any (is_called n) fields ≡ true
named_called n [] e = absurd (cc)
named_called n (f ∷ fields) e = go (is_named n f) e (named_called n fields)
  where
    go : (b : Bool) → (b || list_any (is_named n) fields) ≡ true → (list_any (is_named n) fields ≡ true → list_any (is_called n) fields ≡ true)
        → ((b || holds_text n f.aliases) || list_any (is_called n) fields) ≡ true
    go true k ih = refl
    go false k ih = or_right (holds_text n f.aliases) (list_any (is_called n) fields) (ih k)

-- what is found passes what each element of the list passes
pub find_in : {A : Type 0} (test other : A → Bool) (xs : List A) (a : A) → find test xs ≡ Some a → list_all other xs ≡ true → other a ≡ true
find_in test other [] a e h = absurd (cc)
find_in {A} test other (y ∷ xs) a e h = let p = and_parts (other y) (list_all other xs) h in go (test y) e p.0 (λ k. find_in test other xs a k p.1)
  where
    go : (b : Bool) → cond b (Some y) (find test xs) ≡ Some a → other y ≡ true → (find test xs ≡ Some a → other a ≡ true) → other a ≡ true
    go true k p rest = let same : y ≡ a = cc in rw (← same) p
    go false k p rest = rest k
