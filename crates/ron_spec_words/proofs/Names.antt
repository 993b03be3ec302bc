-- Names, plain and raw, are read exactly: for every rule with names.
use Rattle.std.proofs.Common.{◌≡◌, ℕ, Bool, true, false, not, ◌||◌, ◌∷◌, ◌++◌, codes, refl}
use Rattle.std.proofs.lemmas.Bool.{not-true}
use Rattle.ron_spec_words.specs.Characters.{Text, starts_name, continues_name, in_raw_name}
use Rattle.ron_spec_words.specs.Runs.{is_at, begins_with}
use Rattle.ron_spec_words.specs.Reader.{behind, run}
use Rattle.ron_spec_words.specs.Exact.{IsWordReader}
use Rattle.ron_spec_words.specs.Name.{opens_literal, PlainName, RawName, Name, name, if_same, Named, named, PlainIdentifier, plain_identifier, if_no_value_word}
use Rattle.ron_spec_words.specs.Name.{UntypedName, untyped_name}
use Rattle.ron_spec_words.proofs.Words.{First, word_run, word_behind, word_not_before, word_when, word_choose, word_means, first_run, first_behind}
use Rattle.ron_spec_words.proofs.Words.{first_not_before, first_when, first_means, first_or}
use Rattle.ron_spec_words.proofs.Classes.{apart, Solid, solid_mark, solid_name, starts_bracket}

or_false : (a b : Bool) → (a || b) ≡ false → (a ≡ false) × (b ≡ false)
or_false false false e = (refl, refl)
or_false false true e = absurd (cc)
or_false true b e = absurd (cc)

raw_begins : First (λ s. begins_with (codes "r#") s ≡ true) RawName
raw_begins = record { holds = λ t next n z. rw (z.split, z.spelled.split) refl }

no_mark : (t next : Text) → not (opens_literal (t ++ next)) ≡ true → begins_with (codes "r#") (t ++ next) ≡ false
no_mark t next e = (or_false _ _ (or_false _ _ (not-true _ e)).1).1

plain_begins : First (λ s. begins_with (codes "r#") s ≡ false) PlainName
plain_begins = record { holds = λ t next n z. no_mark t next z.0 }

word_raw : IsWordReader (behind 114 (behind 35 (run in_raw_name in_raw_name))) RawName
word_raw = word_behind 114 _ _ (word_behind 35 _ _ (word_run in_raw_name in_raw_name))

pub word_name : IsWordReader name Name
unfolding name
word_name = word_choose (begins_with (codes "r#")) raw_begins plain_begins word_raw
    (word_when (λ s. not (opens_literal s)) (word_not_before _ _ _ (word_run starts_name continues_name)))

pub word_named : (n : Text) → IsWordReader (named n) (Named n)
word_named n = word_means (if_same n) word_name

-- ---- where no type is given

pub identifier_begins : First (λ s. begins_with (codes "r#") s ≡ false) PlainIdentifier
identifier_begins = record { holds = λ t next n z. no_mark t next z.0 }

pub word_identifier : IsWordReader plain_identifier PlainIdentifier
word_identifier = word_when (λ s. not (opens_literal s)) (word_run starts_name continues_name)

pub word_untyped_name : IsWordReader untyped_name UntypedName
unfolding untyped_name
word_untyped_name = word_choose (begins_with (codes "r#")) raw_begins (first_means identifier_begins) word_raw (word_means if_no_value_word word_identifier)

-- ---- what names begin with

-- what a name begins with
pub first_name : (P : Text → Type 0) → ((s : Text) → P (114 ∷ s)) → ((c : ℕ) (s : Text) → starts_name c ≡ true → P (c ∷ s)) → First P Name
first_name P r k = first_or (first_behind P 114 _ r) (first_when (λ s. not (opens_literal s)) (first_not_before (first_run P starts_name continues_name k)))

pub name_solid : First Solid Name
name_solid = first_name Solid (λ s. solid_mark 114 s refl refl refl) solid_name

pub name_no_bracket : First (λ s. is_at 40 s ≡ false) Name
name_no_bracket = first_name _ (λ s. refl) (λ c s k. apart starts_name 40 c starts_bracket k)

pub first_untyped_name : (P : Text → Type 0) → ((s : Text) → P (114 ∷ s)) → ((c : ℕ) (s : Text) → starts_name c ≡ true → P (c ∷ s)) → First P UntypedName
first_untyped_name P r k = first_or (first_behind P 114 _ r) (first_means (first_when (λ s. not (opens_literal s)) (first_run P starts_name continues_name k)))

pub untyped_name_solid : First Solid UntypedName
untyped_name_solid = first_untyped_name Solid (λ s. solid_mark 114 s refl refl refl) solid_name
